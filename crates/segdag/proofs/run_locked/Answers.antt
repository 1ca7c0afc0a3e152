use Rattle.std.proofs.Common.{◌≡◌, ℕ, Bool, true, false, refl, sym, ◌∙◌, subst}
use Rattle.std.specs.Prelude.{is_some}
use Rattle.segdag.specs.Files.{EndsLocked, IsAsked, IsNotSixteen}
use Rattle.segdag.specs.declared.files.LogFiles.{LogFiles}
use Rattle.segdag.proofs.Locked.{own-not-sixteen}
use Rattle.segdag.proofs.run_locked.Goals as goal

pub returns-then-is_anothers : goal.returns-then-is_anothers
returns-then-is_anothers g c =
    let asked : LogFiles = record { log = c.is_anothers.new.self; spare = c.args.files.now.spare } in (
      asked,
      record { spare = refl; calls = c.is_anothers.ensures.calls; faults = c.is_anothers.ensures.faults },
      subst (λ b. EndsLocked b asked asked c.args.mirrors.now c.args.mirrors.now 16) (sym c.if-is_anothers.true ∙ c.is_anothers.ensures.asked) (refl, refl, refl),
    )

pub returns : goal.returns
returns g c =
    let asked : LogFiles = record { log = c.is_anothers.new.self; spare = c.args.files.now.spare } in
    let left : LogFiles = record { log = c.run_on-status.new.files.log; spare = c.run_on-status.new.files.spare } in (
      asked,
      record { spare = refl; calls = c.is_anothers.ensures.calls; faults = c.is_anothers.ensures.faults },
      subst (λ b. EndsLocked b asked left c.args.mirrors.now c.run_on-status.new.mirrors c.own_status.result) (sym c.if-is_anothers.false ∙ c.is_anothers.ensures.asked)
          (subst IsNotSixteen (sym c.own_status.ensures) (own-not-sixteen c.run_on-status.result (is_some c.run_on-status.new.files.log.file) c.run_on-status.ensures)),
    )
