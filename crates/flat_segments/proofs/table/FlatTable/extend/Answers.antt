use Rattle.std.proofs.Common.{subst, sym}
use Rattle.flat_segments.specs.Kept.{KeptFlats, IsTableOf, MayExtend}
use Rattle.flat_segments.proofs.Adding.{added}
use Rattle.flat_segments.proofs.table.FlatTable.extend.Goals as goal

pub returns-in-Ok-clause-table : goal.returns-in-Ok-clause-table
returns-in-Ok-clause-table c = λ before segments table are.
    added (record { entries = c.self.inside.entries.items; end = c.self.inside.count }) (record { entries = c.append.new.entries.items; end = c.in-Ok.count }) before segments c.args.at c.args.records.now
    (subst (λ (k : KeptFlats). MayExtend k c.args.records.now) (sym c.self.view_is) c.requires.records) (subst (λ (k : KeptFlats). IsTableOf k before) (sym c.self.view_is) table)
    (c.in-Ok.ensures.stand segments are) (c.in-Ok.ensures.end segments are) c.in-Ok.ensures.small (c.in-Ok.ensures.kept segments are) c.in-Ok.ensures.kept
