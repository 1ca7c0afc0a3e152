use Rattle.std.proofs.Common.{◌<◌, ◌≤◌, ◌+◌, ◌-◌, List, ℕ, length, inl, inr, ◌⊎◌, sym, ap, ◌∙◌, arith}
use Rattle.std.proofs.lemmas.List.{length-drop}
use Rattle.batch_codec.specs.Reading.{ids_in, ids_ascend}
use Rattle.batch_codec.proofs.Ascending.{entry-stop, entry-next}
use Rattle.batch_codec.proofs.section.ascend.Goals as goal

either-way : (id least after : ℕ) → (id < least) ⊎ ((least ≤ id) × (after ≤ id)) → (id < least) ⊎ (after ≤ id)
either-way id least after (inl lt) = inl lt
either-way id least after (inr h) = inr h.1

pub returns-then-id-least : goal.returns-then-id-least
returns-then-id-least c =
    sym (entry-stop c.entries.least c.args.after c.args.count c.entries.counter c.entries.rest.now c.front_u64-id.result c.entries-test.true c.front_u64-id.ensures
    (either-way c.front_u64-id.result c.entries.least c.args.after c.then-id-least.either)) ∙ c.entries.invariant.same

pub entries-preserved : goal.entries-preserved
entries-preserved c =
    let size = c.entries.invariant.size in
    let lt = c.entries-test.true in
    let back = c.split_at.ensures.back in
    record {
      same = ap (λ (z : List ℕ). ids_ascend (c.front_u64-id.result + 1) c.args.after (ids_in (c.args.count - (c.entries.counter + 1)) z)) back
          ∙ entry-next c.entries.least c.args.after c.args.count c.entries.counter c.entries.rest.now c.front_u64-id.result lt c.front_u64-id.ensures c.if-id-least.false c.if-after-id.false
          ∙ c.entries.invariant.same;
      size = omega (arith, size, lt, ap (length {A = ℕ}) back, length-drop {A = ℕ} 28 c.entries.rest.now);
    }
