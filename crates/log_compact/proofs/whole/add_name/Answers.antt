use Rattle.std.proofs.Common.{◌∷◌, [], Some, sym, subst, append-nil}
use Rattle.batch_codec.specs.Building.{IsBuilt}
use Rattle.name_map.specs.Added.{known_of}
use Rattle.name_map.specs.Map.{IsNameOf}
use Rattle.change_parts.proofs.LevelRecords.{ok-then}
use Rattle.log_compact.proofs.Naming.{none-known, one-known}
use Rattle.log_compact.proofs.whole.add_name.Goals as goal

pub returns-in-Some-clause-built : goal.returns-in-Some-clause-built
returns-in-Some-clause-built c = ok-then c.known.result
    (λ put. λ added is stand. (
      record { id = c.args.id; name = c.to_name-name.result } ∷ [],
      one-known (known_of added) c.args.id c.to_name-name.result (subst (λ n. IsNameOf (known_of added) c.args.id (Some n)) (sym c.to_name-name.ensures) (c.in-Some.ensures.name added is stand)),
      put,
    )) c.known.ensures.ok

pub returns-in-None-clause-built : goal.returns-in-None-clause-built
returns-in-None-clause-built c = λ added is stand. (
  [],
  none-known (known_of added) c.args.id (c.in-None.ensures.name added is stand),
  λ p b. subst (λ l. IsBuilt c.args.build.now (record p { known = l })) (sym (append-nil p.known)) b,
)
