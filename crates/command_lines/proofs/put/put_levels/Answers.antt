use Rattle.std.proofs.Common.{ℕ, [], ◌∷◌, ◌++◌, ◌≡◌, sym, ◌∙◌, ap, subst, arith, rules, decimal, Some}
use Rattle.std.proofs.lemmas.Result.{err_from_is_err_and}
use Rattle.outside.specs.Told.{WhereTold, TookFront}
use Rattle.outside.proofs.ToldLemmas.{WhereTold-join}
use Rattle.command_lines.specs.Sending.{Sends}
use Rattle.command_lines.proofs.PutLemmas.{levels_front, level-next, levels-split, levels-end, sends-more, sends-front, sends-puts}
use Rattle.command_lines.proofs.put.put_levels.Goals as goal

pub returns-in_err-make_room-clause-bytes : goal.returns-in_err-make_room-clause-bytes
returns-in_err-make_room-clause-bytes g c =
    let p = err_from_is_err_and c.from_residual.result c.from_residual.ensures.1 in
    let more = levels-split c.args.counts.now c.loop-k.k in
    rw p.1 (WhereTold-join (g.O.Sink.taken c.args.output.now) (g.O.Sink.taken c.loop-k.output) (g.O.Sink.taken c.make_room.new.output) _ _ _
    (λ x y z s t. subst (λ all. TookFront all x z) (sym more.1) (sends-front _ _ more.0 x y z s t))
    c.loop-k.invariant.told c.in_err-make_room.ensures.bytes)

pub returns-in_err-make_room-2-clause-bytes : goal.returns-in_err-make_room-2-clause-bytes
returns-in_err-make_room-2-clause-bytes g c =
    let p = err_from_is_err_and c.from_residual-in_err-make_room-2.result c.from_residual-in_err-make_room-2.ensures.1 in
    let more = levels-split c.args.counts.now c.loop-k.k in
    rw p.1 (WhereTold-join (g.O.Sink.taken c.args.output.now) (g.O.Sink.taken c.loop-k.output) (g.O.Sink.taken c.make_room-2.new.output) _ _ _
    (λ x y z s t. subst (λ all. TookFront all x z) (sym more.1) (sends-front _ _ more.0 x y z s t))
    c.loop-k.invariant.told c.in_err-make_room-2.ensures.bytes)

pub returns-clause-bytes : goal.returns-clause-bytes
returns-clause-bytes g c =
    let counts = c.args.counts.now in
    let sent = levels_front counts c.loop-k.k in
    let pushed : c.push_piece-2.new.text.items ≡ c.make_room-2.new.block.items ++ 10 ∷ [] = c.push_piece-2.ensures in
    let told : WhereTold (g.O.Sink.taken c.args.output.now) (g.O.Sink.taken c.make_room-2.new.output) (Sends (sent ++ 10 ∷ []) c.push_piece-2.new.text.items) =
    WhereTold-join (g.O.Sink.taken c.args.output.now) (g.O.Sink.taken c.loop-k.output) (g.O.Sink.taken c.make_room-2.new.output)
    (Sends sent c.loop-k.block.items) (Sends c.loop-k.block.items c.make_room-2.new.block.items) (Sends (sent ++ 10 ∷ []) c.push_piece-2.new.text.items)
    (λ x y z s t. sends-more sent c.loop-k.block.items c.make_room-2.new.block.items c.push_piece-2.new.text.items (10 ∷ []) x y z s t pushed)
    c.loop-k.invariant.told c.in_ok-make_room-2.ensures.bytes in
    let puts = rw c.as_slice.ensures.value at c.put.ensures.bytes in
    rw (levels-end counts c.loop-k.k (omega (arith, c.loop-k-test.false, c.len-k-end.ensures)))
    (sends-puts (g.O.Sink.taken c.args.output.now) (g.O.Sink.taken c.make_room-2.new.output) (g.O.Sink.taken c.put.new.self) c.put.result (sent ++ 10 ∷ []) c.push_piece-2.new.text.items told puts)

pub loop-k-preserved : goal.loop-k-preserved
loop-k-preserved g c =
    let counts = c.args.counts.now in
    let sent = levels_front counts c.loop-k.k in
    let next = level-next counts c.loop-k.k c.from.result (c.at.ensures ∙ ap (λ (n : ℕ). Some n) (sym c.from.ensures)) in
    record {
      told =
          rw next (WhereTold-join (g.O.Sink.taken c.args.output.now) (g.O.Sink.taken c.loop-k.output) (g.O.Sink.taken c.make_room.new.output)
          (Sends sent c.loop-k.block.items) (Sends c.loop-k.block.items c.make_room.new.block.items) (Sends (sent ++ 32 ∷ decimal c.from.result) c.push_number.new.line.items)
          (λ x y z s t. sends-more sent c.loop-k.block.items c.make_room.new.block.items c.push_number.new.line.items (32 ∷ decimal c.from.result) x y z s t c.push_number.ensures.text)
          c.loop-k.invariant.told c.in_ok-make_room.ensures.bytes);
      later = search rules;
    }
