use Rattle.std.proofs.Common.{length, ap, sym, ◌∙◌}
use Rattle.name_map.specs.Part.{PlainPart, ids_of}
use Rattle.name_map.proofs.Ids.{upward-length}
use Rattle.name_map.proofs.part.Part.count.Goals as goal

pub returns-in-All : goal.returns-in-All
returns-in-All c =
    c.from.ensures ∙ sym (upward-length c.self.inside.first c.in-All.count) ∙ sym (ap (λ k. length (ids_of c.self.inside.first k)) c.in-All.is)
    ∙ ap (λ (p : PlainPart). length p.ids) c.self.view_is
