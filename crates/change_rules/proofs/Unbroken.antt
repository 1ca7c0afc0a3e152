-- What an honest remote tells of its master breaks no rule.
use Rattle.std.proofs.Common.{◌≡◌, ◌≢◌, ◌<◌, ◌+◌, ◌-◌, ◌&&◌, not, ℕ, suc, Bool, true, false, inl, inr, List, [], ◌∷◌, ◌++◌, length, map, filter, nat_eq, nat_lt, cond, Option, Some, None, slice_get, refl, sym, ap, subst, ◌∙◌, ⊎_elim, true≢false, arith, if◌then◌else◌}
use Rattle.std.specs.List.{AllByRecursion}
use Rattle.std.proofs.lemmas.Bool.{lt-ltb, le-leb, eq-eqb}
use Rattle.id_groups.specs.Lists.{IsIn, is_in, AreDistinct}
use Rattle.id_groups.specs.Name.{Name, same_name}
use Rattle.id_groups.proofs.Names.{same_name-exact, same_name-self}
use Rattle.id_groups.proofs.Listing.{both_true, or_left, true_not, in-all-true, found}
use Rattle.std.proofs.lemmas.Map.Views.{exact_unsigned_eq}
use Rattle.segment_codec.specs.Reading.{are_distinct}
use Rattle.commit_graph.specs.World.{Row, World, names_of}
use Rattle.commit_graph.proofs.Naming.{each}
use Rattle.commit_graph.proofs.Histories.{in-append}
use Rattle.segment_codec.specs.Record.{Segment}
use Rattle.segment_codec.specs.Table.{Follow}
use Rattle.segment_codec.specs.Turns.{goes_on, is_only}
use Rattle.batch_codec.specs.Grammar.{AreMaximal}
use Rattle.remote_rules.specs.CloneData.{KnownName, segment_fits, segments_fit, name_fits, names_fit, names_at, heads_fit, first_false}
use Rattle.remote_rules.specs.Honest.{named_ids}
use Rattle.change_rules.proofs.Alone.{IsPlain}
use Rattle.change_rules.proofs.Cloned.{Rises, get-some, get-name, one-place, pick-next}

abbrev or_this : {X : Type 0} → X → Option X → X
or_this d None = d
or_this d (Some x) = x

one-row : {p q : Row Name} → Some p ≡ Some q → p ≡ q
one-row {p} e = ap (or_this p) e

-- no test of some that hold is the first that fails
pub none-false : (n : ℕ) (bs : List Bool) → AllByRecursion (λ b. b ≡ true) bs → first_false n bs ≡ None
none-false n [] h = refl
none-false n (b ∷ bs) h = ap (λ c. if c then first_false (n + 1) bs else Some n) h.0 ∙ none-false (n + 1) bs h.1

distinct-true : (xs : List ℕ) → AreDistinct xs → are_distinct xs ≡ true
distinct-true [] h = refl
distinct-true (x ∷ xs) h = both_true _ _ (true_not (is_in nat_eq x xs) (λ e. h.0 (found nat_eq exact_unsigned_eq (λ z. eq-eqb z z refl) x xs e))) (distinct-true xs h.1)

fits-true : (s : Segment) → IsPlain s → goes_on s ≡ false → segment_fits s.low s ≡ true
fits-true s seg e =
    both_true _ _ (both_true _ _ (both_true _ _ (both_true _ _ (eq-eqb s.low s.low refl) (le-leb s.low s.high seg.ascending)) (distinct-true s.parents seg.distinct))
    (in-all-true (λ p. nat_lt p s.low) s.parents (λ p i. lt-ltb p s.low (each (λ p. p < s.low) s.parents seg.below p i)))) (ap not e)

-- segments that follow one another, of which none goes on, break no rule
all-fit : (place end : ℕ) (ss : List Segment) → Follow place end ss → AllByRecursion IsPlain ss → AllByRecursion (λ s. goes_on s ≡ false) ss
    → AllByRecursion (λ b. b ≡ true) (segments_fit place ss)
all-fit place end [] f g h = tt
all-fit place end (s ∷ ss) f g h = (subst (λ n. segment_fits n s ≡ true) f.0 (fits-true s g.0 h.0), all-fit (s.high + 1) end ss f.2 g.1 h.1)

-- a list that isn't the one number
not-only : (n : ℕ) (xs : List ℕ) → xs ≢ n ∷ [] → is_only n xs ≡ false
not-only n [] h = refl
not-only n (x ∷ []) h = by_test (nat_eq x n) refl
  where
    by_test : (b : Bool) → nat_eq x n ≡ b → b ≡ false
    by_test true e = absurd (h (ap (λ z. z ∷ []) (exact_unsigned_eq x n e)))
    by_test false e = refl
not-only n (x ∷ y ∷ xs) h = refl

none-goes : (ss : List Segment) → AllByRecursion (λ (s : Segment). s.parents ≢ (s.low - 1) ∷ []) ss → AllByRecursion (λ s. goes_on s ≡ false) ss
none-goes [] h = tt
none-goes (s ∷ ss) h = (not-only (s.low - 1) s.parents h.0, none-goes ss h.1)

-- the first segment of a master has no parents
pub segments-fit : (end : ℕ) (ss : List Segment) → Follow 0 end ss → AllByRecursion IsPlain ss → AreMaximal ss → AllByRecursion (λ b. b ≡ true) (segments_fit 0 ss)
segments-fit end [] f g m = tt
segments-fit end (s ∷ ss) f g m = all-fit 0 end (s ∷ ss) f g (first s.parents g.0.below, none-goes ss m)
  where
    first : (ps : List ℕ) → AllByRecursion (λ p. p < s.low) ps → is_only (s.low - 1) ps ≡ false
    first [] h = refl
    first (p ∷ ps) h = absurd (let lt = h.0 in let e = f.0 in omega (arith, lt, e))

-- each of these names may stand behind those before it
abbrev AllFitBehind : List KnownName → List KnownName → Type 0
AllFitBehind before [] = Unit {0}
AllFitBehind before (k ∷ more) = (name_fits before k ≡ true) × AllFitBehind (before ++ k ∷ []) more

names-true : (end : ℕ) (before ks : List KnownName) → AllByRecursion (λ (k : KnownName). k.id < end) ks → AllFitBehind before ks → AllByRecursion (λ b. b ≡ true) (names_fit end before ks)
names-true end before [] h f = tt
names-true end before (k ∷ ks) h f = (both_true (nat_lt k.id end) (name_fits before k) (lt-ltb k.id end h.0) f.0, names-true end (before ++ k ∷ []) ks h.1 f.1)

module _ (r : World Name) (distinct : AreDistinct (names_of r.master)) where
  -- names that stand before the ids that come
  abbrev Before : ℕ → List KnownName → Type 0
  Before least before = (b : KnownName) → IsIn b before → (b.id < least) × (slice_get (names_of r.master) b.id ≡ Some b.name)

  picked-fit : (least : ℕ) (before : List KnownName) (ids : List ℕ) → Before least before → Rises least (length r.master) ids → AllFitBehind before (named_ids r ids)
  picked-fit least before [] b h = tt
  picked-fit least before (id ∷ ids) b h =
      let g = get-some r.master id h.1 in
      let k : KnownName = record { id = id; name = g.0.name } in
      subst (AllFitBehind before) (sym (pick-next r id ids g.0 g.1)) (
        in-all-true (λ c. nat_lt c.id id && not (same_name c.name g.0.name)) before (λ c i.
            let low = (b c i).0 in
            let least_id = h.0 in
            both_true _ _ (lt-ltb c.id id (omega (arith, low, least_id)))
            (true_not (same_name c.name g.0.name) (λ e. let same = one-place (names_of r.master) distinct c.id id c.name (b c i).1 (get-name r.master id g.0 g.1 ∙ ap Some (sym (same_name-exact c.name g.0.name e))) in absurd (omega (arith, same, low, least_id))))),
        picked-fit (id + 1) (before ++ k ∷ []) ids (λ c i. ⊎_elim
            (λ j. let low = (b c j).0 in let least_id = h.0 in (omega (arith, low, least_id), (b c j).1))
            (λ j. ⊎_elim (λ e. subst (λ (z : KnownName). (z.id < id + 1) × (slice_get (names_of r.master) z.id ≡ Some z.name)) (sym e) (omega arith, get-name r.master id g.0 g.1)) (λ z. absurd z) j)
            (in-append c before (k ∷ []) i)) h.2,
      )

  picked-below : (least : ℕ) (ids : List ℕ) → Rises least (length r.master) ids → AllByRecursion (λ (k : KnownName). k.id < length r.master) (named_ids r ids)
  picked-below least [] h = tt
  picked-below least (id ∷ ids) h = let g = get-some r.master id h.1 in
      subst (AllByRecursion (λ (k : KnownName). k.id < length r.master)) (sym (pick-next r id ids g.0 g.1)) (h.1, picked-below (id + 1) ids h.2)

  pub names-fit : (ids : List ℕ) → Rises 0 (length r.master) ids → AllByRecursion (λ b. b ≡ true) (names_fit (length r.master) [] (named_ids r ids))
  names-fit ids h = names-true (length r.master) [] (named_ids r ids) (picked-below 0 ids h) (picked-fit 0 [] ids (λ b i. absurd i) h)

  -- a picked id's name is found by it
  name-found : (least : ℕ) (ids : List ℕ) (id : ℕ) (row : Row Name) → Rises least (length r.master) ids → IsIn id ids → slice_get r.master id ≡ Some row → is_in same_name row.name (names_at (named_ids r ids) id) ≡ true
  name-found least [] id row h i e = absurd i
  name-found least (x ∷ ids) id row h i e =
      let g = get-some r.master x h.1 in
      subst (λ l. is_in same_name row.name (names_at l id) ≡ true) (sym (pick-next r x ids g.0 g.1)) (by_test (nat_eq x id) refl i (λ j. name-found (x + 1) ids id row h.2 j e) g.0 g.1)
    where
      by_test : (b : Bool) → nat_eq x id ≡ b → IsIn id (x ∷ ids) → (IsIn id ids → is_in same_name row.name (names_at (named_ids r ids) id) ≡ true) → (q : Row Name) → slice_get r.master x ≡ Some q
          → is_in same_name row.name (map (λ (k : KnownName). k.name) (cond b (record { id = x; name = q.name } ∷ filter (λ (k : KnownName). nat_eq k.id id) (named_ids r ids)) (filter (λ (k : KnownName). nat_eq k.id id) (named_ids r ids)))) ≡ true
      by_test true f i rec q g = or_left (same_name row.name q.name) _ (subst (λ (z : Row Name). same_name row.name z.name ≡ true) (one-row (sym e ∙ ap (slice_get r.master) (sym (exact_unsigned_eq x id f)) ∙ g)) (same_name-self row.name))
      by_test false f (inl j) rec q g = absurd (true≢false (sym (eq-eqb x id (sym j)) ∙ f))
      by_test false f (inr j) rec q g = rec j

  -- the heads are the names of their ids
  pub heads-fit : (ids hs : List ℕ) (least : ℕ) → Rises 0 (length r.master) ids → Rises least (length r.master) hs → ((h : ℕ) → IsIn h hs → IsIn h ids)
      → AllByRecursion (λ b. b ≡ true) (heads_fit (named_ids r ids) hs (map (λ (k : KnownName). k.name) (named_ids r hs)))
  heads-fit ids [] least a b f = tt
  heads-fit ids (h ∷ hs) least a b f =
      let g = get-some r.master h b.1 in
      subst (λ l. AllByRecursion (λ c. c ≡ true) (heads_fit (named_ids r ids) (h ∷ hs) (map (λ (k : KnownName). k.name) l))) (sym (pick-next r h hs g.0 g.1))
      (name-found 0 ids h g.0 a (f h (inl refl)) g.1, heads-fit ids hs (h + 1) a b.2 (λ x i. f x (inr i)))

  pub picked-length : (least : ℕ) (ids : List ℕ) → Rises least (length r.master) ids → length (named_ids r ids) ≡ length ids
  picked-length least [] h = refl
  picked-length least (id ∷ ids) h = let g = get-some r.master id h.1 in ap length (pick-next r id ids g.0 g.1) ∙ ap suc (picked-length (id + 1) ids h.2)
