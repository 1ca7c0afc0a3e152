-- Clone data break no rule exactly where each item keeps its own.
use Rattle.std.proofs.Common.{◌≡◌, ◌≤◌, ◌+◌, ◌&&◌, ◌↔◌, not, cond, ℕ, Bool, true, false, inl, inr, List, [], ◌∷◌, ◌++◌, length, map, filter, nat_eq, nat_lt, nat_le, Option, Some, None, is_some, refl, sym, ap, subst, ◌∙◌, ⊎_elim, true≢false, arith, if◌then◌else◌}
use Rattle.std.specs.List.{AllByRecursion, AllZip, list_all}
use Rattle.std.proofs.lemmas.Bool.{ltb-true, lt-ltb, leb-true, le-leb, eq-eqb}
use Rattle.std.proofs.lemmas.Map.Views.{exact_unsigned_eq}
use Rattle.segment_codec.specs.Reading.{are_distinct}
use Rattle.id_groups.specs.Lists.{IsIn, is_in, AreDistinct}
use Rattle.id_groups.specs.Name.{Name, same_name}
use Rattle.id_groups.proofs.Names.{same_name-exact, same_name-self}
use Rattle.id_groups.proofs.Listing.{and_true, both_true, not_true, true_not, all-in, in-all-true, found, there, or_true, or_left, or_right}
use Rattle.segment_codec.specs.Record.{Segment}
use Rattle.segment_codec.specs.Turns.{StandInTurn, goes_on, place_behind}
use Rattle.remote_rules.specs.CloneData.{CloneData, KnownName, segment_fits, segments_fit, name_fits, names_fit, head_ids, merge_parents, has_needed_names, names_at, heads_fit, first_false, first_some, first_broken}
use Rattle.remote_rules.specs.Lawful.{MayStandHere, NamesInTurn, HasName, IsLawfulClone}

abbrev AllTrue : List Bool → Type 0
AllTrue bs = AllByRecursion (λ b. b ≡ true) bs

none-some : (n : ℕ) → Some n ≡ None → ⊥
none-some n e = true≢false (ap is_some e)

-- no test fails exactly where all hold
all-true : (n : ℕ) (bs : List Bool) → first_false n bs ≡ None → AllTrue bs
all-true n [] e = tt
all-true n (b ∷ bs) e = by_test b e (λ f. all-true (n + 1) bs f)
  where
    by_test : (b : Bool) → (if b then first_false (n + 1) bs else Some n) ≡ None → (first_false (n + 1) bs ≡ None → AllTrue bs) → AllTrue (b ∷ bs)
    by_test true e rec = (refl, rec e)
    by_test false e rec = absurd (none-some n e)

none-fails : (n : ℕ) (bs : List Bool) → AllTrue bs → first_false n bs ≡ None
none-fails n [] h = refl
none-fails n (b ∷ bs) h = ap (λ c. if c then first_false (n + 1) bs else Some n) h.0 ∙ none-fails (n + 1) bs h.1

neither : (a b : Option ℕ) → first_some a b ≡ None → (a ≡ None) × (b ≡ None)
neither None b e = (refl, e)
neither (Some n) b e = absurd (none-some n e)

both-none : (a b : Option ℕ) → a ≡ None → b ≡ None → first_some a b ≡ None
both-none a b e f = ap (λ o. first_some o b) e ∙ f

-- numbers in lists
in-true : (x : ℕ) (xs : List ℕ) → is_in nat_eq x xs ≡ true → IsIn x xs
in-true x xs e = found nat_eq exact_unsigned_eq (λ z. eq-eqb z z refl) x xs e

true-in : (x : ℕ) (xs : List ℕ) → IsIn x xs → is_in nat_eq x xs ≡ true
true-in x xs i = there nat_eq exact_unsigned_eq (λ z. eq-eqb z z refl) x xs i

distinct-true : (xs : List ℕ) → AreDistinct xs → are_distinct xs ≡ true
distinct-true [] h = refl
distinct-true (x ∷ xs) h = both_true _ _ (true_not (is_in nat_eq x xs) (λ e. h.0 (in-true x xs e))) (distinct-true xs h.1)

true-distinct : (xs : List ℕ) → are_distinct xs ≡ true → AreDistinct xs
true-distinct [] e = tt
true-distinct (x ∷ xs) e = let p = and_true (not (is_in nat_eq x xs)) (are_distinct xs) e in ((λ i. not_true (is_in nat_eq x xs) p.0 (true-in x xs i)), true-distinct xs p.1)

not-false : (b : Bool) → not b ≡ true → b ≡ false
not-false true e = absurd (true≢false (sym e))
not-false false e = refl

-- segments
segment-stands : (place : ℕ) (s : Segment) → segment_fits place s ≡ true → MayStandHere place s
segment-stands place s e =
    let a = and_true (nat_eq s.low place && nat_le s.low s.high && are_distinct s.parents && list_all (λ p. nat_lt p s.low) s.parents) (not (goes_on s)) e in
    let b = and_true (nat_eq s.low place && nat_le s.low s.high && are_distinct s.parents) (list_all (λ p. nat_lt p s.low) s.parents) a.0 in
    let c = and_true (nat_eq s.low place && nat_le s.low s.high) (are_distinct s.parents) b.0 in
    let d = and_true (nat_eq s.low place) (nat_le s.low s.high) c.0 in
    record {
      begins = exact_unsigned_eq s.low place d.0;
      order = leb-true s.low s.high d.1;
      distinct = true-distinct s.parents c.1;
      below = λ p i. ltb-true p s.low (all-in (λ q. nat_lt q s.low) s.parents b.1 p i);
      apart = not-false (goes_on s) a.1;
    }

stands-fits : (place : ℕ) (s : Segment) → MayStandHere place s → segment_fits place s ≡ true
stands-fits place s h =
    both_true _ _ (both_true _ _ (both_true _ _ (both_true _ _ (eq-eqb s.low place h.begins) (le-leb s.low s.high h.order)) (distinct-true s.parents h.distinct))
    (in-all-true (λ p. nat_lt p s.low) s.parents (λ p i. lt-ltb p s.low (h.below p i)))) (ap not h.apart)

segments-stand : (place : ℕ) (ss : List Segment) → AllTrue (segments_fit place ss) → StandInTurn MayStandHere place ss
segments-stand place [] h = tt
segments-stand place (s ∷ ss) h = (segment-stands place s h.0, segments-stand (s.high + 1) ss h.1)

stand-fit : (place : ℕ) (ss : List Segment) → StandInTurn MayStandHere place ss → AllTrue (segments_fit place ss)
stand-fit place [] h = tt
stand-fit place (s ∷ ss) h = (stands-fits place s h.0, stand-fit (s.high + 1) ss h.1)

-- names
names-turn : (end : ℕ) (before ks : List KnownName) → AllTrue (names_fit end before ks) → NamesInTurn end before ks
names-turn end before [] h = tt
names-turn end before (k ∷ ks) h =
    let a = and_true (nat_lt k.id end) (name_fits before k) h.0 in
    let each : (b : KnownName) → IsIn b before → (nat_lt b.id k.id && not (same_name b.name k.name)) ≡ true = all-in (λ b. nat_lt b.id k.id && not (same_name b.name k.name)) before a.1 in (
      record {
        within = ltb-true k.id end a.0;
        above = λ b i. ltb-true b.id k.id (and_true (nat_lt b.id k.id) _ (each b i)).0;
        new = λ b i e. not_true (same_name b.name k.name) (and_true (nat_lt b.id k.id) _ (each b i)).1 (subst (λ z. same_name b.name z ≡ true) e (same_name-self b.name));
      },
      names-turn end (before ++ k ∷ []) ks h.1,
    )

turn-fit : (end : ℕ) (before ks : List KnownName) → NamesInTurn end before ks → AllTrue (names_fit end before ks)
turn-fit end before [] h = tt
turn-fit end before (k ∷ ks) h = (
  both_true _ _ (lt-ltb k.id end h.0.within) (in-all-true (λ b. nat_lt b.id k.id && not (same_name b.name k.name)) before
      (λ b i. both_true _ _ (lt-ltb b.id k.id (h.0.above b i)) (true_not (same_name b.name k.name) (λ e. h.0.new b i (same_name-exact b.name k.name e))))),
  turn-fit end (before ++ k ∷ []) ks h.1,
)

-- the name of an id
at-has : (names : List KnownName) (id : ℕ) (head : Name) → is_in same_name head (names_at names id) ≡ true → HasName names id head
at-has [] id head e = absurd (true≢false (sym e))
at-has (k ∷ names) id head e = by_test (nat_eq k.id id) refl e (λ f. let r = at-has names id head f in (r.0, inr r.1, r.2, r.3))
  where
    by_test : (b : Bool) → nat_eq k.id id ≡ b → is_in same_name head (map (λ (c : KnownName). c.name) (cond b (k ∷ filter (λ (c : KnownName). nat_eq c.id id) names) (filter (λ (c : KnownName). nat_eq c.id id) names))) ≡ true
        → (is_in same_name head (names_at names id) ≡ true → HasName (k ∷ names) id head) → HasName (k ∷ names) id head
    by_test true f g rec = ⊎_elim (λ s. (k, inl refl, exact_unsigned_eq k.id id f, sym (same_name-exact head k.name s))) rec (or_true (same_name head k.name) (is_in same_name head (names_at names id)) g)
    by_test false f g rec = rec g

has-at : (names : List KnownName) (id : ℕ) (head : Name) → HasName names id head → is_in same_name head (names_at names id) ≡ true
has-at [] id head h = absurd h.1
has-at (k ∷ names) id head h = by_test (nat_eq k.id id) refl h.1 (λ j. has-at names id head (h.0, j, h.2, h.3))
  where
    by_test : (b : Bool) → nat_eq k.id id ≡ b → IsIn h.0 (k ∷ names) → (IsIn h.0 names → is_in same_name head (names_at names id) ≡ true)
        → is_in same_name head (map (λ (c : KnownName). c.name) (cond b (k ∷ filter (λ (c : KnownName). nat_eq c.id id) names) (filter (λ (c : KnownName). nat_eq c.id id) names))) ≡ true
    by_test true f (inl e) rec = or_left (same_name head k.name) _ (subst (λ z. same_name head z ≡ true) (sym h.3 ∙ ap (λ (c : KnownName). c.name) e) (same_name-self head))
    by_test true f (inr j) rec = or_right (same_name head k.name) _ (rec j)
    by_test false f (inl e) rec = absurd (true≢false (sym (eq-eqb k.id id (ap (λ (c : KnownName). c.id) (sym e) ∙ h.2)) ∙ f))
    by_test false f (inr j) rec = rec j

-- heads
heads-named : (names : List KnownName) (ids : List ℕ) (heads : List Name) → AllTrue (heads_fit names ids heads) → length ids ≤ length heads → AllZip (HasName names) ids heads
heads-named names [] [] h le = tt
heads-named names [] (x ∷ heads) h le = absurd (true≢false (sym h.0))
heads-named names (id ∷ ids) [] h le = absurd (omega (arith, le))
heads-named names (id ∷ ids) (x ∷ heads) h le = (at-has names id x h.0, heads-named names ids heads h.1 (omega (arith, le)))

named-fit : (names : List KnownName) (ids : List ℕ) (heads : List Name) → AllZip (HasName names) ids heads → AllTrue (heads_fit names ids heads) × (length ids ≤ length heads)
named-fit names [] [] z = (tt, omega arith)
named-fit names [] (x ∷ heads) z = absurd z
named-fit names (id ∷ ids) [] z = absurd z
named-fit names (id ∷ ids) (x ∷ heads) z = let r = named-fit names ids heads z.1 in let l = r.1 in ((has-at names id x z.0, r.0), omega (arith, l))

unbroken : (told : CloneData) → first_broken told ≡ None → IsLawfulClone told
unbroken told e =
    let named = length told.segments in
    let headed = named + length told.names in
    let ids = head_ids told.segments in
    let a = neither (first_false 0 (segments_fit 0 told.segments)) _ e in
    let b = neither (first_false named (names_fit (place_behind 0 told.segments) [] told.names)) _ a.1 in
    let c = neither (first_false headed (has_needed_names told ∷ [])) _ b.1 in
    let d = neither (first_false headed (heads_fit told.names ids told.heads)) _ c.1 in
    let needed = (all-true headed (has_needed_names told ∷ []) c.0).0 in
    record {
      segments = segments-stand 0 told.segments (all-true 0 (segments_fit 0 told.segments) a.0);
      names = names-turn (place_behind 0 told.segments) [] told.names (all-true named (names_fit (place_behind 0 told.segments) [] told.names) b.0);
      needed = λ s id i j. in-true id (map (λ k. k.id) told.names)
          (all-in (λ id. is_in nat_eq id (map (λ k. k.id) told.names)) (s.high ∷ merge_parents s.parents)
          (all-in (λ (s : Segment). list_all (λ id. is_in nat_eq id (map (λ k. k.id) told.names)) (s.high ∷ merge_parents s.parents)) told.segments needed s i) id j);
      heads = heads-named told.names ids told.heads (all-true headed (heads_fit told.names ids told.heads) d.0)
          (leb-true (length ids) (length told.heads) (all-true (headed + length told.heads) (nat_le (length ids) (length told.heads) ∷ []) d.1).0);
    }

whole : (told : CloneData) → IsLawfulClone told → first_broken told ≡ None
whole told h =
    let named = length told.segments in
    let headed = named + length told.names in
    let ids = head_ids told.segments in
    let heads = named-fit told.names ids told.heads h.heads in
    both-none _ _ (none-fails 0 (segments_fit 0 told.segments) (stand-fit 0 told.segments h.segments))
    (both-none _ _ (none-fails named (names_fit (place_behind 0 told.segments) [] told.names) (turn-fit (place_behind 0 told.segments) [] told.names h.names))
    (both-none _ _ (none-fails headed (has_needed_names told ∷ []) (
      in-all-true (λ (s : Segment). list_all (λ id. is_in nat_eq id (map (λ k. k.id) told.names)) (s.high ∷ merge_parents s.parents)) told.segments
          (λ s i. in-all-true (λ id. is_in nat_eq id (map (λ k. k.id) told.names)) (s.high ∷ merge_parents s.parents) (λ id j. true-in id (map (λ k. k.id) told.names) (h.needed s id i j))),
      tt,
    ))
    (both-none _ _ (none-fails headed (heads_fit told.names ids told.heads) heads.0)
    (none-fails (headed + length told.heads) (nat_le (length ids) (length told.heads) ∷ []) (le-leb (length ids) (length told.heads) heads.1, tt)))))

pub unbroken-is-lawful : (told : CloneData) → (first_broken told ≡ None) ↔ IsLawfulClone told
unbroken-is-lawful told = (unbroken told, whole told)
