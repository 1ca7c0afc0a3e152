use Rattle.std.proofs.Common.{◌++◌, ◌<◌, length, map, drop, sym, ap, ◌∙◌, arith}
use Rattle.std.proofs.lemmas.List.{take-append-drop, length-take}
use Rattle.name_map.specs.Part.{upward}
use Rattle.change_parts.specs.Moves.{name_at}
use Rattle.change_parts.proofs.NamesInTurn.{stored-names}
use Rattle.change_parts.proofs.names.add_names_in_turn.Goals as goal

pub returns-clause-built : goal.returns-clause-built
returns-clause-built c =
    let len = c.count_in_turn-len.result in
    let turn = c.count_in_turn-len.ensures.turn in
    let fits = c.count_in_turn-len.ensures.fits in
    let some : 0 < len = let ne = c.if-len-eq0.false in omega (arith, ne) in
    let run = upward c.args.first len in
    let stored = c.args.names.now.stored.now in
    let pending = c.args.names.now.pending.now in
    let names = stored-names stored pending c.args.names.now.count c.args.first len c.args.names.now.stored_size (c.count_in_turn-len.ensures.below some) in (
      run,
      sym (take-append-drop len c.args.numbers.now) ∙ ap (λ z. z ++ drop len c.args.numbers.now) turn ∙ ap (λ z. run ++ z) (sym c.split_at-2.ensures.back),
      omega (arith, some, fits, ap length turn, length-take len c.args.numbers.now),
      λ p is. c.in_ok-other_names.ensures.ok p (map (name_at (stored ++ pending)) run) is (c.stored_from.ensures ∙ names),
    )
