use Rattle.std.proofs.Common.{◌≡◌, [], sym, subst, inl}
use Rattle.std.specs.List.{AllByRecursion}
use Rattle.disk_trait.specs.Images.{fresh_disk}
use Rattle.disk_trait.proofs.Loss.{image-stable}
use Rattle.commit_graph.specs.World.{empty_world}
use Rattle.change_rules.specs.declared.Limits.{Limits}
use Rattle.change_rules.specs.Holding.{HoldBytes}
use Rattle.change_rules.specs.Tables.{cloned_count}
use Rattle.remote_rules.specs.Serving.{BeginsWith}
use Rattle.run_rules.specs.Premises.{Start}
use Rattle.dag_run.proofs.Leading.{held, none-enough, none-left}
use Rattle.dag_run.proofs.laws.new_disks_begin.Goals as goal

starts : (limits : Limits) → Start limits (fresh_disk []) empty_world []
starts limits = record {
  holds = λ image is.
      let none : image ≡ [] = image-stable [] image is in
      subst (λ bytes. HoldBytes limits.log bytes empty_world) (sym none) ([], held limits.log);
  read = held limits.log;
}

pub returns-clause-alone : goal.returns-clause-alone
returns-clause-alone c = λ limits room left taken. (
  starts limits,
  none-enough,
  λ done more line s replies now split spells run.
      subst (AllByRecursion (BeginsWith (cloned_count now.store.payloads) now.store.stored)) (sym (none-left limits room done replies now run)) tt,
)

pub returns-clause-beside : goal.returns-clause-beside
returns-clause-beside c = λ limits room left taken mirrors serve begin. (starts limits, inl serve, begin)
