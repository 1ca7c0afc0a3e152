use Rattle.std.proofs.Common.{◌≡◌, ◌<◌, ℕ, [], List, None, get_or}
use Rattle.batch_codec.specs.Grammar.{IsPayload}
use Rattle.name_map.specs.Added.{Placed, AllStand, StandsAt, known_of}
use Rattle.name_map.specs.Map.{IsMapOf, IsIdOf}
use Rattle.name_map.specs.Build.{others_of}
use Rattle.name_map.proofs.build.has_known.Given as goal

abbrev pub invariant-names : goal.invariant-names
invariant-names l = (added : List Placed) (a : Placed) → IsMapOf l.names added → AllStand l.bytes added → StandsAt l.bytes a → IsPayload a.payload → l.others ≡ others_of a
    → (k : ℕ) → k < l.i → IsIdOf (known_of added) (get_or a.payload.other_names k []) a.payload.after None
