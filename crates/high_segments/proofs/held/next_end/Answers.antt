use Rattle.std.proofs.Common.{◌≡◌, ◌≤◌, ◌<◌, ◌+◌, ◌∙◌, suc, sym, ap, arith, get_or, length, ⊎_elim, true≢false}
use Rattle.segment_codec.proofs.Tables.{le_or_lt}
use Rattle.high_segments.proofs.Mixing.{next-some, next-none}
use Rattle.high_segments.proofs.held.next_end.Goals as goal

pub returns-in-Some : goal.returns-in-Some
returns-in-Some c =
    let h = c.in-Some.ensures.lookup in let lt = h.3.0 in
    let one : suc c.args.k ≡ c.args.k + 1 = omega arith in
    c.end.ensures ∙ sym (next-some c.args.levels.now c.args.k c.in-Some.next.now (omega (arith, lt)) (h.1 ∙ ap (λ n. get_or c.args.levels.now n c.in-Some.next.now) (sym one)))

pub returns-in-None : goal.returns-in-None
returns-in-None c =
    let le : length c.args.levels.now ≤ suc c.args.k =
    ⊎_elim (λ (le : length c.args.levels.now ≤ suc c.args.k). le)
    (λ (lt : suc c.args.k < length c.args.levels.now). absurd (true≢false (sym (c.in-None.ensures.lookup.2 (omega (arith, lt))))))
    (le_or_lt (length c.args.levels.now) (suc c.args.k)) in
    c.end-in-None.ensures ∙ sym (next-none c.args.levels.now c.args.k c.index-levels-k.result c.requires le c.index-levels-k.is)
