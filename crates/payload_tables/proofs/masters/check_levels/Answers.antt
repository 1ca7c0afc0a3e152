use Rattle.std.proofs.Common.{◌∙◌, sym, true≢false}
use Rattle.payload_tables.proofs.masters.check_levels.Goals as goal

pub returns-clause-unlawful : goal.returns-clause-unlawful
returns-clause-unlawful c = λ e old new s h. true≢false (sym ((c.has_levels.ensures old new s).1 h) ∙ c.if-has_levels.false)
