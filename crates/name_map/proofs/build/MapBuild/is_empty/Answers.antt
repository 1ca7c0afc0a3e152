use Rattle.std.proofs.Common.{ap, ◌∙◌}
use Rattle.name_map.specs.Build.{PlainNames}
use Rattle.name_map.proofs.Building.{empty-parts}
use Rattle.name_map.proofs.build.MapBuild.is_empty.Goals as goal

pub returns : goal.returns
returns c = λ added b. empty-parts c.len.result c.self.inside.parts.items added (c.len.ensures ∙ c.self.inside.parts.ok.0) (ap (λ (z : PlainNames). z.parts) c.self.view_is ∙ b.parts)
