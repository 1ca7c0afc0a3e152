-- Two runs that are merged.
use Rattle.std.proofs.Common.{◌≡◌, ◌∙◌, refl, sym, ap, ap₂, subst, ℕ, List, [], ◌∷◌, ◌++◌, map, append_assoc, append-nil, true, false}
use Rattle.std.proofs.lemmas.List.{map-append}
use Rattle.std.specs.List.{AllByRecursion}
use Rattle.std.specs.List.Sorted.{IsPermutation}
use Rattle.std.proofs.lemmas.List.Sorted.{IsPermutation-refl, IsPermutation-trans, IsPermutation-cons, IsPermutation-middle, IsPermutation-map}
use Rattle.name_index.specs.declared.entry.Entry.{Entry}
use Rattle.name_index.specs.Runs.{entry_of, sort_key, key_in, keys_of, IsAscending, IsRun, Holds}
use Rattle.name_index.proofs.Keys.{less, order}
use Rattle.name_index.proofs.Moves.{all-moved}
use Rattle.name_index.proofs.Indexes.{all-both, nil-is, begins}
use Rattle.name_index.proofs.Reading.{key-read}
use Rattle.name_index.specs.Named.{NamedPlace, StandFrom}

-- zs has what is in xs and ys, in ascending order
pub record Merged (xs ys zs : List NamedPlace) : Type 0 where
  pub same : IsPermutation (xs ++ ys) zs
  pub ascending : IsAscending (keys_of zs)

pub record IsRead (at : ℕ) (bytes : List ℕ) (entries : List Entry) (named : List NamedPlace) : Type 0 where
  pub run : IsRun entries named
  pub stand : StandFrom at bytes named

abbrev NotBelow : NamedPlace → List NamedPlace → Type 0
NotBelow x zs = AllByRecursion (λ m. less m (sort_key x.name) ≡ false) (keys_of zs)

module _ (at : ℕ) (bytes : List ℕ) (at' : ℕ) (bytes' : List ℕ) where
  pub record Merging (first second out : List Entry) (c d : List NamedPlace) : Type 0 where
    pub xs : List NamedPlace
    pub ys : List NamedPlace
    pub done : List NamedPlace
    pub left : IsRead at bytes first xs
    pub right : IsRead at' bytes' second ys
    pub out_of : out ≡ map entry_of done
    pub goes_on : (zs : List NamedPlace) → Merged xs ys zs → Merged c d (done ++ zs)

  pub merge-start : (a b : List Entry) (c d : List NamedPlace) → IsRead at bytes a c → IsRead at' bytes' b d → Merging a b [] c d
  merge-start a b c d l r = record { xs = c; ys = d; done = []; left = l; right = r; out_of = refl; goes_on = λ zs m. m }

  -- x is not above what is merged of the rest
  step : (x : NamedPlace) (xs ys zs : List NamedPlace) → NotBelow x xs → NotBelow x ys → Merged xs ys zs → NotBelow x zs
  step x xs ys zs p q m =
      let P = λ (k : List ℕ). less k (sort_key x.name) ≡ false in
      let both = subst (AllByRecursion P) (sym (map-append (λ (n : NamedPlace). sort_key n.name) xs ys)) (all-both P (keys_of xs) (keys_of ys) p q) in
      all-moved P (keys_of (xs ++ ys)) (keys_of zs) (IsPermutation-map (λ n. sort_key n.name) (xs ++ ys) zs m.same) both

  -- what is not below x is not below y either, where y is at most x
  weaken : (x y : NamedPlace) (zs : List NamedPlace) → less (sort_key x.name) (sort_key y.name) ≡ false → NotBelow x zs → NotBelow y zs
  weaken x y [] le h = tt
  weaken x y (z ∷ zs) le h = (order.chain (sort_key z.name) (sort_key x.name) (sort_key y.name) h.0 le, weaken x y zs le h.1)

  pub merge-left : (x y : Entry) (first second out rest rest' : List Entry) (c d : List NamedPlace) → first ≡ x ∷ rest → second ≡ y ∷ rest'
      → less (key_in bytes' at' y) (key_in bytes at x) ≡ false → Merging first second out c d → Merging rest second (out ++ x ∷ []) c d
  merge-left x y first second out rest rest' c d e e' le m =
      let b = begins x rest m.xs (sym e ∙ m.left.run.entries_of) in
      let b' = begins y rest' m.ys (sym e' ∙ m.right.run.entries_of) in
      let stand = subst (StandFrom at bytes) b.is m.left.stand in
      let stand' = subst (StandFrom at' bytes') b'.is m.right.stand in
      let up = subst (λ l. IsAscending (keys_of l)) b.is m.left.run.ascending in
      let up' = subst (λ l. IsAscending (keys_of l)) b'.is m.right.run.ascending in
      let kx : key_in bytes at x ≡ sort_key b.first.name = ap (key_in bytes at) b.first_is ∙ key-read at bytes b.first stand.0 in
      let ky : key_in bytes' at' y ≡ sort_key b'.first.name = ap (key_in bytes' at') b'.first_is ∙ key-read at' bytes' b'.first stand'.0 in
      let at_most : less (sort_key b'.first.name) (sort_key b.first.name) ≡ false = ap₂ less (sym ky) (sym kx) ∙ le in
      let behind : NotBelow b.first m.ys = subst (NotBelow b.first) (sym b'.is) (at_most, weaken b'.first b.first b'.others at_most up'.0) in
      record {
        xs = b.others;
        ys = m.ys;
        done = m.done ++ b.first ∷ [];
        left = record { run = record { entries_of = b.others_are; ascending = up.1 }; stand = stand.1 };
        right = m.right;
        out_of = ap₂ (λ l z. l ++ z ∷ []) m.out_of b.first_is ∙ sym (map-append entry_of m.done (b.first ∷ []));
        goes_on = λ zs h. subst (Merged c d) (sym (append_assoc m.done (b.first ∷ []) zs)) (m.goes_on (b.first ∷ zs)
            (subst (λ l. Merged l m.ys (b.first ∷ zs)) (sym b.is) (record { same = IsPermutation-cons b.first _ _ h.same; ascending = (step b.first b.others m.ys zs up.0 behind h, h.ascending) })));
      }

  pub merge-right : (x y : Entry) (first second out rest rest' : List Entry) (c d : List NamedPlace) → first ≡ x ∷ rest → second ≡ y ∷ rest'
      → less (key_in bytes' at' y) (key_in bytes at x) ≡ true → Merging first second out c d → Merging first rest' (out ++ y ∷ []) c d
  merge-right x y first second out rest rest' c d e e' lt m =
      let b = begins x rest m.xs (sym e ∙ m.left.run.entries_of) in
      let b' = begins y rest' m.ys (sym e' ∙ m.right.run.entries_of) in
      let stand = subst (StandFrom at bytes) b.is m.left.stand in
      let stand' = subst (StandFrom at' bytes') b'.is m.right.stand in
      let up = subst (λ l. IsAscending (keys_of l)) b.is m.left.run.ascending in
      let up' = subst (λ l. IsAscending (keys_of l)) b'.is m.right.run.ascending in
      let kx : key_in bytes at x ≡ sort_key b.first.name = ap (key_in bytes at) b.first_is ∙ key-read at bytes b.first stand.0 in
      let ky : key_in bytes' at' y ≡ sort_key b'.first.name = ap (key_in bytes' at') b'.first_is ∙ key-read at' bytes' b'.first stand'.0 in
      let below : less (sort_key b'.first.name) (sort_key b.first.name) ≡ true = ap₂ less (sym ky) (sym kx) ∙ lt in
      let at_most : less (sort_key b.first.name) (sort_key b'.first.name) ≡ false = order.one_way (sort_key b'.first.name) (sort_key b.first.name) below in
      let behind : NotBelow b'.first m.xs = subst (NotBelow b'.first) (sym b.is) (at_most, weaken b.first b'.first b.others at_most up.0) in
      record {
        xs = m.xs;
        ys = b'.others;
        done = m.done ++ b'.first ∷ [];
        left = m.left;
        right = record { run = record { entries_of = b'.others_are; ascending = up'.1 }; stand = stand'.1 };
        out_of = ap₂ (λ l z. l ++ z ∷ []) m.out_of b'.first_is ∙ sym (map-append entry_of m.done (b'.first ∷ []));
        goes_on = λ zs h. subst (Merged c d) (sym (append_assoc m.done (b'.first ∷ []) zs)) (m.goes_on (b'.first ∷ zs)
            (subst (λ l. Merged m.xs l (b'.first ∷ zs)) (sym b'.is) (record {
              same = IsPermutation-trans _ _ _ (IsPermutation-middle m.xs b'.first b'.others) (IsPermutation-cons b'.first _ _ h.same);
              ascending = (step b'.first m.xs b'.others zs behind up'.0 h, h.ascending);
            })));
      }

  holds-end : (first second out : List Entry) (c d : List NamedPlace) (m : Merging first second out c d) (zs : List NamedPlace) → first ++ second ≡ map entry_of zs → Merged m.xs m.ys zs → Holds (out ++ (first ++ second)) (c ++ d)
  holds-end first second out c d m zs e h =
      let whole = m.goes_on zs h in
      record {
        held = m.done ++ zs;
        run = record { entries_of = ap₂ (λ a b. a ++ b) m.out_of e ∙ sym (map-append entry_of m.done zs); ascending = whole.ascending };
        same = whole.same;
      }

  pub merge-end-left : (first second out : List Entry) (c d : List NamedPlace) → first ≡ [] → Merging first second out c d → Holds (out ++ (first ++ second)) (c ++ d)
  merge-end-left first second out c d e m =
      let none = nil-is m.xs (sym e ∙ m.left.run.entries_of) in
      holds-end first second out c d m m.ys (ap (λ l. l ++ second) e ∙ m.right.run.entries_of)
      (subst (λ l. Merged l m.ys m.ys) (sym none) (record { same = IsPermutation-refl m.ys; ascending = m.right.run.ascending }))

  pub merge-end-right : (first second out : List Entry) (c d : List NamedPlace) → second ≡ [] → Merging first second out c d → Holds (out ++ (first ++ second)) (c ++ d)
  merge-end-right first second out c d e m =
      let none = nil-is m.ys (sym e ∙ m.right.run.entries_of) in
      holds-end first second out c d m m.xs (ap (λ l. first ++ l) e ∙ append-nil first ∙ m.left.run.entries_of)
      (subst (λ l. Merged m.xs l m.xs) (sym none) (record { same = subst (λ l. IsPermutation l m.xs) (sym (append-nil m.xs)) (IsPermutation-refl m.xs); ascending = m.left.run.ascending }))
