use Rattle.std.proofs.Common.{◌⊎◌, inl, inr, ⊎_elim, ◌≡◌, ◌-◌, length, take, drop, ◌∙◌, arith, length-drop, length-take}
use Rattle.id_groups.specs.Name.{Name}
use Rattle.remote_pipe.proofs.Taking.{mid-long, mid-front}
use Rattle.remote_pipe.proofs.Blocks.{names-end, names-more}
use Rattle.remote_pipe.proofs.line.Line.names.Goals as goal

pub returns-then-got-lt-MOST_NAMES-clause-asks : goal.returns-then-got-lt-MOST_NAMES-clause-asks
returns-then-got-lt-MOST_NAMES-clause-asks g c =
    let inv = c.blocks-2.invariant in
    let b = inv.blocks in
    let out = c.blocks-2.out in
    let done = c.blocks-2.done in
    let new = c.next_names.new.rest in
    let n = c.in-Ok.got in
    let few = c.in-Ok.ensures.count in
    let rest = take (length out - done) (drop done out) in
    let len = inv.len in
    let wanted : length rest ≡ length c.args.out.now - done = omega (arith, len, length-take {A = Name} (length out - done) (drop done out), length-drop {A = Name} done out) in
    let lt = inv.room in
    let size = c.next_names.ensures.len in
    let same = mid-long {X = Name} out new done (omega (arith, lt)) (omega (arith, size, wanted, len, length-drop {A = Name} done out)) in
    names-end c.args.x.now c.args.back (length c.args.out.now) done n b.0 out _ rest new c.args.self.now c.blocks-2.self c.next_names.new.self b.1 b.2 inv.room inv.len wanted few size c.in-Ok.ensures.asks
    (mid-front {X = Name} out new done n (omega (arith, lt)) (omega (arith, few, size))) (⊎_elim (λ l. inl l) (λ r. inr (r.1 ∙ (same ∙ len))) c.then-got-lt-MOST_NAMES.either)

pub blocks-2-preserved : goal.blocks-2-preserved
blocks-2-preserved g c =
    let inv = c.blocks-2.invariant in
    let b = inv.blocks in
    let out = c.blocks-2.out in
    let done = c.blocks-2.done in
    let new = c.next_names.new.rest in
    let n = c.in-Ok.got in
    let few = c.in-Ok.ensures.count in
    let rest = take (length out - done) (drop done out) in
    let len = inv.len in
    let wanted : length rest ≡ length c.args.out.now - done = omega (arith, len, length-take {A = Name} (length out - done) (drop done out), length-drop {A = Name} done out) in
    let lt = inv.room in
    let least = c.if-got-lt-MOST_NAMES.false in
    let size = c.next_names.ensures.len in
    let same = mid-long {X = Name} out new done (omega (arith, lt)) (omega (arith, size, wanted, len, length-drop {A = Name} done out)) in
    let more = names-more c.args.x.now c.args.back (length c.args.out.now) done n b.0 out _ rest new c.args.self.now c.blocks-2.self c.next_names.new.self b.1 b.2 inv.room inv.len wanted few size c.in-Ok.ensures.asks
    (mid-front {X = Name} out new done n (omega (arith, lt)) (omega (arith, few, size))) (λ small. omega (arith, small, least)) c.if-done-out.false same in
    let going = c.if-done-out.false in
    record {
      room = omega (arith, going, few, size, wanted, same, len, lt);
      len = same ∙ inv.len;
      blocks = more;
    }
