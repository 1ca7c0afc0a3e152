use Rattle.std.proofs.Common.{map, string_bytes, inl, inr, refl, sym, subst}
use Rattle.dag_run.specs.Modes.{EndsAtOnce}
use Rattle.dag_run.proofs.Usages.{cache-least, size-least}
use Rattle.dag_run.proofs.program.top.Goals as goal

pub run_mode-requires-clause-cache : goal.run_mode-requires-clause-cache
run_mode-requires-clause-cache g c = cache-least (map string_bytes c.args.words.now) c.in-Ok.usage c.in-Ok.ensures

pub run_mode-requires-clause-size : goal.run_mode-requires-clause-size
run_mode-requires-clause-size g c = size-least (map string_bytes c.args.words.now) c.in-Ok.usage c.in-Ok.ensures

pub returns-in-Ok : goal.returns-in-Ok
returns-in-Ok g c = inl (c.in-Ok.usage, c.in-Ok.ensures, c.run_mode.ensures)

pub returns-in-Err : goal.returns-in-Err
returns-in-Err g c = inr (record {
  why = subst (EndsAtOnce (map string_bytes c.args.words.now)) (sym c.idle.ensures.status) c.in-Err.ensures;
  log = refl;
  spare = refl;
  mirrors = refl;
  input = refl;
  output = refl;
  none = c.idle.ensures.changes;
})
