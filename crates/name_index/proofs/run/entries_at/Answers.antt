use Rattle.std.proofs.Common.{◌∙◌, sym, ap, map, take_all}
use Rattle.name_index.proofs.Reading.{made, all-made}
use Rattle.name_index.proofs.run.entries_at.Goals as goal

pub returns : goal.returns
returns c = λ new stand same.
    let at = c.args.stretch.now.at in let bytes = c.args.stretch.now.bytes.now in
    c.each.invariant ∙ ap (map (made at bytes)) (take_all c.each.place-index c.args.places.now c.each-test.false ∙ sym same) ∙ all-made at bytes new stand
