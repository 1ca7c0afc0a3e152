use Rattle.std.proofs.Common.{sym}
use Rattle.remote_trait.proofs.Items.{few-merge, many-merge}
use Rattle.remote_trait.proofs.broken_heads.parents_of_merge.Goals as goal

pub returns-then-parents-lt2 : goal.returns-then-parents-lt2
returns-then-parents-lt2 c = sym (few-merge c.args.parents.now c.if-parents-lt2.true)

pub returns-else-parents-lt2 : goal.returns-else-parents-lt2
returns-else-parents-lt2 c = sym (many-merge c.args.parents.now c.if-parents-lt2.false)
