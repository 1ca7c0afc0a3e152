-- One name more in the index of pending names.
use Rattle.std.proofs.Common.{◌≡◌, ℕ, ◌+◌, ◌*◌, inl, inr, List, [], ◌∷◌, ◌++◌, length, map, take, drop, refl, sym, ap, ap₂, subst, ◌∙◌, ⊎_elim, arith}
use Rattle.std.specs.List.{AllByRecursion}
use Rattle.std.proofs.lemmas.List.{map-append, take_at}
use Rattle.id_groups.specs.Lists.{IsIn}
use Rattle.id_groups.specs.Name.{Name, IsName}
use Rattle.commit_graph.proofs.Histories.{in-append}
use Rattle.commit_graph.proofs.Down.{in-left, in-right}
use Rattle.commit_graph.proofs.Naming.{each, all-each}
use Rattle.batch_codec.specs.Payload.{names_bytes}
use Rattle.name_index.specs.Index.{NamedPlace, NamesStand, NameStandsAt, names_in, IsIndexOf}
use Rattle.flat_segments.specs.Placed.{PlacedSegment}
use Rattle.flat_segments.specs.Kept.{KeptFlats, entry_of, IsSectionOf}
use Rattle.name_map.specs.Added.{names_from}
use Rattle.payload_tables.specs.Pending.{FindsNames}
use Rattle.payload_tables.proofs.Naming.{name-in-bytes, names-from-in, get-in}

-- the names that the index holds stand in the bytes of all
pub held-stand : (bytes : List ℕ) (names : List Name) (index : _) (f : FindsNames index names) → bytes ≡ names_bytes names → AllByRecursion IsName names → NamesStand bytes f.named
held-stand bytes names index f e w = all-each (NameStandsAt bytes) f.named (λ n i.
    let r = names-from-in 0 names n (f.sound n i) in
    record {
      whole = (each IsName names w n.name (get-in names r.0 n.name r.2)).0;
      stands = ap (λ m. take 20 (drop m bytes)) (r.1 ∙ (let z : 0 + 20 * r.0 ≡ 20 * r.0 = omega arith in z)) ∙ ap (λ b. take 20 (drop (20 * r.0) b)) e ∙ name-in-bytes names r.0 n.name w r.2;
    })

from-left : (place : ℕ) (names : List Name) (x : Name) (n : NamedPlace) → IsIn n (names_from place names) → IsIn n (names_from place (names ++ x ∷ []))
from-left place [] x n i = absurd i
from-left place (y ∷ names) x n (inl e) = inl e
from-left place (y ∷ names) x n (inr i) = inr (from-left (place + 20) names x n i)

from-last : (place at : ℕ) (names : List Name) (x : Name) → at ≡ place + 20 * length names → IsIn (record { place = at; name = x }) (names_from place (names ++ x ∷ []))
from-last place at [] x e = inl (ap (λ n. record { place = n; name = x }) (let z : at ≡ place = omega (arith, e) in z))
from-last place at (y ∷ names) x e = inr (from-last (place + 20) at names x (omega (arith, e)))

named-of : (named : List NamedPlace) (x : Name) → IsIn x (names_in named) → (n : NamedPlace) × IsIn n named × (x ≡ n.name)
named-of [] x i = absurd i
named-of (n ∷ named) x (inl e) = (n, inl refl, e)
named-of (n ∷ named) x (inr i) = let r = named-of named x i in (r.0, inr r.1, r.2)

-- what is held is one of the names
pub held-name : (index : _) (names : List Name) (x : Name) (f : FindsNames index names) → IsIn x (names_in f.named) → IsIn x names
held-name index names x f i =
    let r = named-of f.named x i in
    let s = names-from-in 0 names r.0 (f.sound r.0 r.1) in
    subst (λ z. IsIn z names) (sym r.2) (get-in names s.0 r.0.name s.2)

-- a new name
pub finds-more : (old new : _) (names : List Name) (at : ℕ) (x : Name) (f : FindsNames old names) → at ≡ 20 * length names → IsIndexOf new (f.named ++ record { place = at; name = x } ∷ []) → FindsNames new (names ++ x ∷ [])
finds-more old new names at x f e is = record {
  named = f.named ++ record { place = at; name = x } ∷ [];
  index_of = is;
  sound = λ n i. ⊎_elim (λ j. from-left 0 names x n (f.sound n j)) (λ j. ⊎_elim (λ g. subst (λ z. IsIn z (names_from 0 (names ++ x ∷ []))) (sym g) (from-last 0 at names x (omega (arith, e)))) (λ g. absurd g) j)
      (in-append n f.named (record { place = at; name = x } ∷ []) i);
  whole = λ name i. subst (IsIn name) (sym (map-append (λ (n : NamedPlace). n.name) f.named (record { place = at; name = x } ∷ [])))
      (⊎_elim (λ j. in-left name (names_in f.named) (x ∷ []) (f.whole name j)) (λ j. in-right name (names_in f.named) (x ∷ []) j) (in-append name names (x ∷ []) i));
}

-- a name that is held already
pub finds-again : (old new : _) (names : List Name) (x : Name) (f : FindsNames old names) → new ≡ old → IsIn x (names_in f.named) → FindsNames new (names ++ x ∷ [])
finds-again old new names x f e here = record {
  named = f.named;
  index_of = subst (λ z. IsIndexOf z f.named) (sym e) f.index_of;
  sound = λ n i. from-left 0 names x n (f.sound n i);
  whole = λ name i. ⊎_elim (f.whole name) (λ j. ⊎_elim (λ g. subst (λ z. IsIn z (names_in f.named)) (sym g) here) (λ g. absurd g) j) (in-append name names (x ∷ []) i);
}

-- what is taken back leaves the section as it was
pub section-back : (old new : KeptFlats) (before more : List PlacedSegment) (len end : ℕ) → IsSectionOf old before → IsSectionOf new (before ++ more) → len ≡ length old.entries → end ≡ old.end
    → ◌≡◌ {A = KeptFlats} (record { entries = take len new.entries; end = end }) old
section-back old new before more len end is next e f =
    ap₂ {C = KeptFlats} (λ l n. record { entries = l; end = n })
    (ap (take len) (next.kept ∙ map-append entry_of before more ∙ ap (λ l. l ++ map entry_of more) (sym is.kept)) ∙ take_at old.entries (map entry_of more) len (sym e))
    f
