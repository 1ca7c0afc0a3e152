-- Where the names of a payload's other ids stand in the log.
use Rattle.std.proofs.Common.{◌≡◌, ◌<◌, ◌≤◌, ◌+◌, ◌*◌, ℕ, zero, suc, List, [], ◌∷◌, ◌++◌, length, get_or, take, drop, sym, ap, ◌∙◌, subst, arith}
use Rattle.std.specs.List.{AllByRecursion}
use Rattle.std.proofs.lemmas.List.{length-append, length-take, length-drop}
use Rattle.id_groups.specs.Name.{Name, IsName}
use Rattle.batch_codec.specs.Payload.{Payload, payload_bytes, names_bytes, names_start}
use Rattle.batch_codec.specs.Grammar.{IsPayload}
use Rattle.name_index.specs.Index.{NamedPlace, NameStandsAt, NamesStand}
use Rattle.name_map.specs.declared.build.OtherNames.{OtherNames}
use Rattle.name_map.specs.Added.{Placed, StandsAt, names_from}
use Rattle.name_map.specs.Build.{others_of}
pub use Rattle.batch_codec.proofs.Places.{Stands}
use Rattle.batch_codec.proofs.Places.{names-stand}
use Rattle.name_map.proofs.Standing.{stand-parts}

pub other-names-in : (p : Payload) → IsPayload p → Stands p (names_bytes p.other_names) (names_start p)
other-names-in p h = names-stand p h

-- names stand where their bytes do
names-are-there : (bytes : List ℕ) (place : ℕ) (names : List Name) → AllByRecursion IsName names → take (length (names_bytes names)) (drop place bytes) ≡ names_bytes names → NamesStand bytes (names_from place names)
names-are-there bytes place [] h s = tt
names-are-there bytes place (x ∷ names) h s =
    let parts = stand-parts x (names_bytes names) place bytes s in
    let size = h.0.0 in (
      record { whole = size; stands = subst (λ n. take n (drop place bytes) ≡ x) size parts.0 },
      names-are-there bytes (place + 20) names h.1 (subst (λ n. take (length (names_bytes names)) (drop (place + n) bytes) ≡ names_bytes names) size parts.1),
    )

-- the names of a payload's other ids stand in the log
pub others-stand : (bytes : List ℕ) (a : Placed) → IsPayload a.payload → StandsAt bytes a → NamesStand bytes (names_from (a.at + names_start a.payload) a.payload.other_names)
others-stand bytes a h stand =
    let s = other-names-in a.payload h in
    let names = names_bytes a.payload.other_names in
    let whole = subst (λ (z : List ℕ). take (length z) (drop a.at bytes) ≡ z) s.whole stand in
    let back = (stand-parts s.front (names ++ s.behind) a.at bytes whole).1 in
    let at = subst (λ (m : ℕ). take (length (names ++ s.behind)) (drop (a.at + m) bytes) ≡ names ++ s.behind) s.size back in
    names-are-there bytes (a.at + names_start a.payload) a.payload.other_names h.other_names (stand-parts names s.behind (a.at + names_start a.payload) bytes at).0

-- each of them by its number
pub other-at : (bytes : List ℕ) (place : ℕ) (names : List Name) (i : ℕ) → NamesStand bytes (names_from place names) → i < length names → NameStandsAt bytes (record { place = place + 20 * i; name = get_or names i [] })
other-at bytes place [] i h lt = absurd (omega (arith, lt))
other-at bytes place (x ∷ names) zero h lt = let e : place ≡ place + 20 * 0 = omega arith in subst (λ n. NameStandsAt bytes (record { place = n; name = x })) e h.0
other-at bytes place (x ∷ names) (suc i) h lt =
    let e : place + 20 + 20 * i ≡ place + 20 * suc i = omega arith in
    subst (λ n. NameStandsAt bytes (record { place = n; name = get_or names i [] })) e (other-at bytes (place + 20) names i h.1 (omega (arith, lt)))

-- it ends within the bytes
pub name-within : (bytes : List ℕ) (n : NamedPlace) → NameStandsAt bytes n → n.place + 20 ≤ length bytes
name-within bytes n h =
    let size = ap (length {A = ℕ}) h.stands in let whole = h.whole in
    omega (arith, size, whole, length-take {A = ℕ} 20 (drop n.place bytes), length-drop {A = ℕ} n.place bytes)

-- they begin within the payload
pub others-room : (p : Payload) → IsPayload p → names_start p ≤ length (payload_bytes p)
others-room p h =
    let s = other-names-in p h in
    let whole = ap (length {A = ℕ}) s.whole in let size = s.size in
    omega (arith, whole, size, length-append s.front (names_bytes p.other_names ++ s.behind))

pub others-is : (a : Placed) (place count after : ℕ) → place ≡ a.at + names_start a.payload → count ≡ length a.payload.other_names → after ≡ a.payload.after
    → ◌≡◌ {A = OtherNames} (record { place = place; count = count; after = after }) (others_of a)
others-is a place count after e f g =
    ap (λ (n : ℕ). record { place = n; count = count; after = after }) e ∙ ap (λ (n : ℕ). record { place = a.at + names_start a.payload; count = n; after = after }) f
    ∙ ap (λ (n : ℕ). record { place = a.at + names_start a.payload; count = length a.payload.other_names; after = n }) g

-- where a name by its number is read
pub other-there : (bytes : List ℕ) (a : Placed) (others : OtherNames) (i place : ℕ) → IsPayload a.payload → StandsAt bytes a → others ≡ others_of a → i < others.count
    → (others.place + 20 * i ≤ length bytes → place ≡ others.place + 20 * i) → NameStandsAt bytes (record { place = place; name = get_or a.payload.other_names i [] })
other-there bytes a others i place h stand e lt is =
    let names = a.payload.other_names in
    let first : others.place ≡ a.at + names_start a.payload = ap (λ (o : OtherNames). o.place) e in
    let count : others.count ≡ length names = ap (λ (o : OtherNames). o.count) e in
    let there = other-at bytes (a.at + names_start a.payload) names i (others-stand bytes a h stand) (omega (arith, lt, count)) in
    let fits : a.at + names_start a.payload + 20 * i + 20 ≤ length bytes = name-within bytes (record { place = a.at + names_start a.payload + 20 * i; name = get_or names i [] }) there in
    let same : place ≡ a.at + names_start a.payload + 20 * i = is (omega (arith, first, fits)) ∙ ap (λ (n : ℕ). n + 20 * i) first in
    subst (λ (n : ℕ). NameStandsAt bytes (record { place = n; name = get_or names i [] })) (sym same) there
