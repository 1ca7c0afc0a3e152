-- Names read from bytes, and searches by them.
use Rattle.std.proofs.Common.{◌≡◌, ◌∙◌, refl, sym, ap, ap₂, subst, ℕ, ◌<◌, ◌≤◌, length, get_or, List, [], ◌∷◌, ◌++◌, map, take, drop, ◌⊎◌, inl, inr, ⊎_elim, arith, Ordering, Less, Equal, Greater, nat_cmp, is_lt, is_eq, append-nil, take_all, true≢false, true, false, Bool, ltb, ltb-true, ltb-false}
use Rattle.std.specs.Ordering.{ordering_index}
use Rattle.std.specs.Cmp.Lexicographic.{slice_cmp}
use Rattle.std.specs.List.{AllByRecursion, All}
use Rattle.std.specs.List.Sorted.{IsNonDecreasingBy, IsPartitionPoint, IsPermutation}
use Rattle.std.proofs.lemmas.List.{drop_all}
use Rattle.std.proofs.lemmas.Cmp.{nat_list_cmp_total, tied_itself}
use Rattle.std.proofs.lemmas.List.Elements.{recursion_from_All}
use Rattle.std.proofs.lemmas.List.Sorted.{searchable_from_sorted}
use Rattle.id_groups.specs.Lists.{IsIn, AreDistinct}
use Rattle.id_groups.specs.Name.{Name}
use Rattle.name_index.specs.declared.entry.Entry.{Entry}
use Rattle.name_index.specs.Runs.{entry_of, front_of, sort_key, name_in, key_in, keys_in, keys_of, IsAscending, IsRun, Holds, IsHead}
use Rattle.name_index.proofs.Keys.{equal-keys, index-in, sorted-ascending, again-first}
use Rattle.name_index.proofs.Moves.{all-moved, image-moved}
use Rattle.name_index.specs.Named.{NamedPlace, StandFrom, StandsFrom, names_in, places_in}

tail : List ℕ → List ℕ
tail [] = []
tail (x ∷ xs) = xs

pub same-key : (a b : Name) → sort_key a ≡ sort_key b → a ≡ b
unfolding tail
same-key a b e = ap tail e

-- distinct keys are those of distinct names

key-in : (name : Name) (named : List NamedPlace) → IsIn name (names_in named) → IsIn (sort_key name) (keys_of named)
key-in name [] i = absurd i
key-in name (n ∷ ns) (inl e) = inl (ap sort_key e)
key-in name (n ∷ ns) (inr i) = inr (key-in name ns i)

in-key : (name : Name) (named : List NamedPlace) → IsIn (sort_key name) (keys_of named) → IsIn name (names_in named)
in-key name [] i = absurd i
in-key name (n ∷ ns) (inl e) = inl (same-key name n.name e)
in-key name (n ∷ ns) (inr i) = inr (in-key name ns i)

pub names-distinct : (named : List NamedPlace) → AreDistinct (keys_of named) → AreDistinct (names_in named)
names-distinct [] h = tt
names-distinct (n ∷ ns) h = (λ i. h.0 (key-in n.name ns i), names-distinct ns h.1)

pub keys-distinct : (named : List NamedPlace) → AreDistinct (names_in named) → AreDistinct (keys_of named)
keys-distinct [] h = tt
keys-distinct (n ∷ ns) h = (λ i. h.0 (in-key n.name ns i), keys-distinct ns h.1)

module _ (at : ℕ) (bytes : List ℕ) where
  pub key-read : (n : NamedPlace) → StandsFrom at bytes n → key_in bytes at (entry_of n) ≡ sort_key n.name
  key-read n h = ap (λ z. front_of n.name ∷ z) h.stands

  keys-read : (named : List NamedPlace) → StandFrom at bytes named → keys_in bytes at (map entry_of named) ≡ keys_of named
  keys-read [] h = refl
  keys-read (n ∷ ns) h = ap₂ (λ k ks. k ∷ ks) (key-read n h.0) (keys-read ns h.1)

  pub run-keys : (entries : List Entry) (named : List NamedPlace) → entries ≡ map entry_of named → StandFrom at bytes named → keys_in bytes at entries ≡ keys_of named
  run-keys entries named e h = ap (keys_in bytes at) e ∙ keys-read named h

  pub run-ascending : (entries : List Entry) (named : List NamedPlace) → IsRun entries named → StandFrom at bytes named → IsAscending (keys_in bytes at entries)
  run-ascending entries named run h = subst IsAscending (sym (run-keys entries named run.entries_of h)) run.ascending

  -- the entry that is made of a place
  abbrev pub made : ℕ → Entry
  made place = record { front = front_of (name_in bytes at place); place = place }

  pub all-made : (named : List NamedPlace) → StandFrom at bytes named → map made (places_in named) ≡ map entry_of named
  all-made [] h = refl
  all-made (n ∷ ns) h = ap₂ (λ (e : Entry) es. e ∷ es) (ap (λ z. record { front = front_of z; place = n.place }) h.0.stands) (all-made ns h.1)

  found-among : (held : List NamedPlace) (name : Name) (entry : Entry) → StandFrom at bytes held → IsIn entry (map entry_of held) → key_in bytes at entry ≡ sort_key name
      → IsIn (record { place = entry.place; name = name }) held
  found-among [] name entry h i e = absurd i
  found-among (n ∷ ns) name entry h (inl s) e =
      let same : n.name ≡ name = same-key n.name name (sym (key-read n h.0) ∙ ap (key_in bytes at) (sym s) ∙ e) in
      inl (ap₂ (λ p m. record { place = p; name = m }) (ap (λ z. z.place) s) (sym same))
  found-among (n ∷ ns) name entry h (inr i) e = inr (found-among ns name entry h.1 i e)

  none-among : (held : List NamedPlace) (name : Name) → StandFrom at bytes held → AllByRecursion (λ entry. key_in bytes at entry ≡ sort_key name → ⊥) (map entry_of held) → IsIn name (names_in held) → ⊥
  none-among [] name h none i = i
  none-among (n ∷ ns) name h none (inl e) = none.0 (key-read n h.0 ∙ ap sort_key (sym e))
  none-among (n ∷ ns) name h none (inr i) = none-among ns name h.1 none.1 i

  -- entries that are sorted
  pub sorted-holds : (entries sorted : List Entry) (new : List NamedPlace) → entries ≡ map entry_of new → StandFrom at bytes new → IsPermutation entries sorted → IsAscending (keys_in bytes at sorted) → Holds sorted new
  sorted-holds entries sorted new e h moved up =
      let image = image-moved entry_of new sorted (subst (λ es. IsPermutation es sorted) e moved) in
      let stand = all-moved (StandsFrom at bytes) new image.of image.same h in
      record {
        held = image.of;
        run = record { entries_of = image.is; ascending = subst IsAscending (run-keys sorted image.of image.is stand) up };
        same = image.same;
      }

  -- what a search answers, in terms of the names

  pub search-found : (entries : List Entry) (held : List NamedPlace) (name : Name) (key : List ℕ) (i : ℕ) (entry : Entry) → IsRun entries held → StandFrom at bytes held → key ≡ sort_key name
      → i < length entries → entry ≡ get_or entries i entry → slice_cmp nat_cmp (key_in bytes at (get_or entries i entry)) key ≡ Equal
      → IsIn (record { place = entry.place; name = name }) held
  search-found entries held name key i entry run h named l e equal =
      let there = subst (λ es. IsIn entry es) run.entries_of (subst (λ z. IsIn z entries) (sym e) (index-in entries i entry l)) in
      found-among held name entry h there (ap (key_in bytes at) e ∙ equal-keys _ _ equal ∙ named)

  pub rises : (entries : List Entry) (held : List NamedPlace) (key : List ℕ) → IsRun entries held → StandFrom at bytes held → IsNonDecreasingBy (λ y. ordering_index (slice_cmp nat_cmp (key_in bytes at y) key)) entries
  rises entries held key run h = searchable_from_sorted nat_list_cmp_total (key_in bytes at) entries key (sorted-ascending (key_in bytes at) entries (run-ascending entries held run h))

  unlike : (entry : Entry) (key : List ℕ) (o : Ordering) → slice_cmp nat_cmp (key_in bytes at entry) key ≡ o → (o ≡ Equal → ⊥) → key_in bytes at entry ≡ key → ⊥
  unlike entry key o e n same = n (sym e ∙ ap (λ z. slice_cmp nat_cmp z key) same ∙ tied_itself nat_list_cmp_total key)

  less-no : Less ≡ Equal → ⊥
  less-no e = true≢false (ap is_lt e)

  greater-no : Greater ≡ Equal → ⊥
  greater-no e = let one : ordering_index Greater ≡ ordering_index Equal = ap ordering_index e in absurd (omega (arith, one))

  pub search-none : (entries : List Entry) (held : List NamedPlace) (name : Name) (key : List ℕ) (i : ℕ) → IsRun entries held → StandFrom at bytes held → key ≡ sort_key name
      → (IsNonDecreasingBy (λ y. ordering_index (slice_cmp nat_cmp (key_in bytes at y) key)) entries
      → IsPartitionPoint (λ y. slice_cmp nat_cmp (key_in bytes at y) key ≡ Less) (λ y. slice_cmp nat_cmp (key_in bytes at y) key ≡ Greater) entries i)
      → IsIn name (names_in held) → ⊥
  search-none entries held name key i run h named parted =
      let point = parted (rises entries held key run h) in
      let each : All (λ y. key_in bytes at y ≡ sort_key name → ⊥) entries = λ k d l same.
      ⊎_elim (λ b. unlike (get_or entries k d) key Less (point.0 k d (omega arith) b) less-no (same ∙ sym named)) (λ a. unlike (get_or entries k d) key Greater (point.1 k d a l) greater-no (same ∙ sym named)) (below-or k i) in
      none-among held name h (subst (λ es. AllByRecursion (λ entry. key_in bytes at entry ≡ sort_key name → ⊥) es) run.entries_of (recursion_from_All _ entries each))
    where
      by-test : (k i : ℕ) (b : Bool) → ltb k i ≡ b → (k < i) ⊎ (i ≤ k)
      by-test k i true e = inl (ltb-true k i e)
      by-test k i false e = inr (ltb-false k i e)

      below-or : (k i : ℕ) → (k < i) ⊎ (i ≤ k)
      below-or k i = by-test k i (ltb k i) refl

-- a key that does not stand first among those behind it
pub distinct-more : (k : List ℕ) (ks : List (List ℕ)) → IsAscending (k ∷ ks) → (IsHead k ks → ⊥) → AreDistinct ks → AreDistinct (k ∷ ks)
distinct-more k [] up n h = (λ i. i, h)
distinct-more k (m ∷ ms) up n h = (λ i. n (again-first k m ms up i), h)

equal-test : (o : Ordering) → is_eq o ≡ true → o ≡ Equal
equal-test Less e = absurd (true≢false (sym e))
equal-test Equal e = refl
equal-test Greater e = absurd (true≢false (sym e))

pub head-tested : (key : Entry → List ℕ) (k : List ℕ) (others : List Entry) (next : Entry) (o : Ordering) → 0 < length others → next ≡ get_or others 0 next → o ≡ slice_cmp nat_cmp k (key next)
    → (is_eq o ≡ true → IsHead k (map key others)) × (IsHead k (map key others) → is_eq o ≡ true)
head-tested key k [] next o l e c = absurd (omega arith)
head-tested key k (y ∷ ys) next o l e c =
    let same : key next ≡ key y = ap key e in (
      λ t. equal-keys k (key next) (sym c ∙ equal-test o t) ∙ same,
      λ h. ap is_eq (c ∙ ap (λ z. slice_cmp nat_cmp z (key next)) (h ∙ sym same) ∙ tied_itself nat_list_cmp_total (key next)),
    )

-- what a sort leaves in a vector of the same length
pub items-back : {X : Type 0} (n : ℕ) (ws items : List X) → n ≡ length items → length ws ≡ length items → take n (ws ++ drop (length ws) items) ≡ ws
items-back n ws items e l =
    ap (λ z. take n (ws ++ z)) (drop_all (length ws) items (omega arith)) ∙ ap (take n) (append-nil ws) ∙ take_all n ws (omega arith)
