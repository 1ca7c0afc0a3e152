use Rattle.disk_trait.proofs.Sound.{fresh-sound, passes-sound, refuses-sound, writes-sound, fails-sound, syncs-sound}
use Rattle.disk_trait.proofs.calls_keep_soundness.Goals as goal

pub returns-clause-fresh : goal.returns-clause-fresh
returns-clause-fresh c = fresh-sound

pub returns-clause-passes : goal.returns-clause-passes
returns-clause-passes c = passes-sound

pub returns-clause-refuses : goal.returns-clause-refuses
returns-clause-refuses c = refuses-sound

pub returns-clause-writes : goal.returns-clause-writes
returns-clause-writes c = writes-sound

pub returns-clause-fails : goal.returns-clause-fails
returns-clause-fails c = fails-sound

pub returns-clause-syncs : goal.returns-clause-syncs
returns-clause-syncs c = syncs-sound
