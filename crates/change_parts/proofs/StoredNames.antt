-- All names that payloads store, and how many commits.
use Rattle.std.proofs.Common.{◌≡◌, ◌≤◌, ◌+◌, ◌^◌, ℕ, List, [], ◌∷◌, ◌++◌, map, flat_map, refl, ap, ap₂, ◌∙◌, lit≤}
use Rattle.std.proofs.lemmas.List.{map-append}
use Rattle.id_groups.specs.Name.{Name}
use Rattle.batch_codec.specs.Payload.{known_names}
use Rattle.batch_codec.specs.Grammar.{count_after}
use Rattle.change_rules.specs.Lawful.{AreLawful}
use Rattle.name_map.specs.Added.{Placed, payloads_of, known_of}
use Rattle.change_rules.specs.Tables.{newest, other_names_in}
use Rattle.change_rules.specs.Change.{known_from}
use Rattle.payload_tables.specs.Bases.{stored_in}
use Rattle.change_parts.proofs.Invented.{in-turn, count-small}

pub lawful-small : (added : List Placed) → AreLawful [] (payloads_of added) → count_after 0 (payloads_of added) ≤ 16777216
lawful-small added h = count-small 0 (payloads_of added) (let z : 0 ≤ 16777216 = lit≤ tt in z) (in-turn [] (payloads_of added) h)

known-of-named : (added : List Placed) → map (λ k. k.name) (known_of added) ≡ flat_map known_names (payloads_of added)
known-of-named [] = refl
known-of-named (a ∷ added) = map-append (λ k. k.name) a.payload.known (known_of added) ∙ ap (λ l. known_names a.payload ++ l) (known-of-named added)

known-from-named : (n : ℕ) (names : List Name) → map (λ k. k.name) (known_from n names) ≡ names
known-from-named n [] = refl
known-from-named n (x ∷ names) = ap (λ l. x ∷ l) (known-from-named (n + 1) names)

-- all stored names
pub stored-names : (added : List Placed) → map (λ k. k.name) (stored_in added) ≡ flat_map known_names (payloads_of added) ++ other_names_in (newest (payloads_of added))
stored-names added = map-append (λ k. k.name) (known_of added) (known_from (2 ^ 56) (other_names_in (newest (payloads_of added))))
    ∙ ap₂ (λ a b. a ++ b) (known-of-named added) (known-from-named (2 ^ 56) (other_names_in (newest (payloads_of added))))
