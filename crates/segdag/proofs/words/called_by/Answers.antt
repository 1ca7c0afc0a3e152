use Rattle.std.proofs.Common.{◌≡◌, map, string_bytes, sym, subst}
use Rattle.std.specs.Prelude.{MatchOption}
use Rattle.program_words.specs.Usage.{IsUsage}
use Rattle.dag_run.specs.Modes.{EndsAtOnce}
use Rattle.dag_run.proofs.Usages.{cache-least, size-least}
use Rattle.segdag.proofs.words.called_by.Goals as goal

pub returns-in-Ok-clause-called : goal.returns-in-Ok-clause-called
returns-in-Ok-clause-called c =
    let parts = c.in-Some.ensures.parts in (record {
      path = parts.path;
      remotes = parts.remotes;
      usage = subst (λ m. MatchOption m ⊥ (λ mode. IsUsage mode c.in-Ok.usage)) (sym parts.mode) c.in-Ok.ensures;
    })

pub returns-in-Ok-clause-able : goal.returns-in-Ok-clause-able
returns-in-Ok-clause-able c = (cache-least (map string_bytes c.in-Some.parts.mode.now) c.in-Ok.usage c.in-Ok.ensures, size-least (map string_bytes c.in-Some.parts.mode.now) c.in-Ok.usage c.in-Ok.ensures)

pub returns-in-Err-clause-called : goal.returns-in-Err-clause-called
returns-in-Err-clause-called c = subst (λ m. MatchOption m (c.in-Err.status ≡ 2) (λ mode. EndsAtOnce mode c.in-Err.status)) (sym c.in-Some.ensures.parts.mode) c.in-Err.ensures
