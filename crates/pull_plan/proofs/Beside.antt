-- Whether what a remote told agrees with what is stored, item by item.
use Rattle.std.proofs.Common.{◌≡◌, ◌≤◌, ◌<◌, ◌+◌, ◌-◌, ◌&&◌, ◌||◌, not, cond, ℕ, zero, suc, Bool, true, false, List, [], ◌∷◌, ◌++◌, length, map, filter, drop, min, nat_eq, nat_le, Option, Some, None, is_some, refl, sym, ap, ap₂, subst, ◌∙◌, ⊎_elim, true≢false, arith, if◌then◌else◌}
use Rattle.std.specs.Prelude.{slice_get, IsTrue, MatchOption, ◌↔◌}
use Rattle.std.specs.List.{AllByRecursion, list_all}
use Rattle.std.specs.Option.{option_to_list}
use Rattle.std.specs.Ordering.{nat_cmp}
use Rattle.std.specs.BTreeSet.{BTreeSet, contains, Updates}
use Rattle.std.specs.Cmp.Lexicographic.{slice_cmp, texts_ties}
use Rattle.std.proofs.lemmas.Bool.{lt-ltb, le-ltb, leb-true, le-leb}
use Rattle.id_groups.specs.Lists.{is_in}
use Rattle.id_groups.specs.Name.{Name, same_name}
use Rattle.id_groups.proofs.Names.{same_name-exact, same_name-self}
use Rattle.segment_codec.specs.Record.{Segment}
use Rattle.segment_codec.specs.Table.{Follow}
use Rattle.segment_codec.proofs.Tables.{le_or_lt, AreOver, AreRising, follow-rising}
use Rattle.segment_codec.specs.Turns.{place_behind}
use Rattle.segment_codec.proofs.Turns.{turn-follow}
use Rattle.batch_codec.specs.Grammar.{cut_below}
use Rattle.remote_rules.specs.Lawful.{MayStandHere}
use Rattle.remote_rules.proofs.Unbroken.{unbroken-is-lawful}
use Rattle.remote_trait.proofs.Items.{in-more}
use Rattle.remote_rules.specs.CloneData.{CloneData, KnownName, names_at, first_false, first_some, first_broken}
use Rattle.change_rules.specs.Disagree.{same_segment, segments_agree}
use Rattle.pull_plan.specs.Pulling.{HasSeen, cut_at, unlike_segment, is_told}

-- ---- segments, one beside the other

-- the first unlike one of these, the first of which has this number
abbrev pub unlike_from : ℕ → List Segment → List Segment → ℕ → ℕ → Option ℕ
unlike_from k told stored below items =
    first_some (first_false k (segments_agree (cut_below below told) (cut_below below stored)))
    (first_false items (nat_le (length (cut_below below stored)) (length (cut_below below told)) ∷ []))

cut-first : (below : ℕ) (s : Segment) (ss : List Segment) → s.low < below → cut_below below (s ∷ ss) ≡ cut_at below s ∷ cut_below below ss
cut-first below s ss lt = ap (λ b. if b then record s { high = min s.high (below - 1) } ∷ cut_below below ss else cut_below below ss) (lt-ltb s.low below lt)

cut-past : (below : ℕ) (s : Segment) (ss : List Segment) → below ≤ s.low → cut_below below (s ∷ ss) ≡ cut_below below ss
cut-past below s ss le = ap (λ b. if b then record s { high = min s.high (below - 1) } ∷ cut_below below ss else cut_below below ss) (le-ltb s.low below le)

le-next : (a b : ℕ) → nat_le (suc a) (suc b) ≡ nat_le a b
le-next a b = by_test (nat_le (suc a) (suc b)) (nat_le a b) refl refl
  where
    by_test : (x y : Bool) → nat_le (suc a) (suc b) ≡ x → nat_le a b ≡ y → x ≡ y
    by_test true true e f = refl
    by_test false false e f = refl
    by_test true false e f = absurd (true≢false (let le = leb-true (suc a) (suc b) e in sym (le-leb a b (omega (arith, le))) ∙ f))
    by_test false true e f = absurd (true≢false (let le = leb-true a b f in sym (le-leb (suc a) (suc b) (omega (arith, le))) ∙ e))

none-le : (a : ℕ) → nat_le (suc a) 0 ≡ false
none-le a = by_test (nat_le (suc a) 0) refl
  where
    by_test : (b : Bool) → nat_le (suc a) 0 ≡ b → b ≡ false
    by_test false e = refl
    by_test true e = absurd (let le = leb-true (suc a) 0 e in let z : ⊥ = omega (arith, le) in z)

-- what begins above an id is cut away with all behind it
pub cut-above : (below : ℕ) (ss : List Segment) → AllByRecursion (λ (s : Segment). below ≤ s.low) ss → cut_below below ss ≡ []
cut-above below [] h = refl
cut-above below (s ∷ ss) h = cut-past below s ss h.0 ∙ cut-above below ss h.1

over-above : (below : ℕ) (s : Segment) (ss : List Segment) → below ≤ s.high → AreOver s ss → AllByRecursion (λ (t : Segment). below ≤ t.low) ss
over-above below s [] le h = tt
over-above below s (t ∷ ss) le h = let lt = h.0 in (omega (arith, lt, le), over-above below s ss le h.1)

pub cut-behind : (below : ℕ) (ss : List Segment) → AreRising ss → (k : ℕ) → ((s : Segment) → slice_get ss k ≡ Some s → s.low < below → ⊥) → cut_below below (drop k ss) ≡ []
cut-behind below [] h zero none = refl
cut-behind below [] h (suc k) none = refl
cut-behind below (s ∷ ss) h zero none =
    let le : below ≤ s.low = ⊎_elim (λ le. le) (λ lt. absurd (none s refl lt)) (le_or_lt below s.low) in
    let up = h.0 in
    cut-past below s ss le ∙ cut-above below ss (over-above below s ss (omega (arith, le, up)) h.1)
cut-behind below (s ∷ ss) h (suc k) none = cut-behind below ss h.2 k none

pub behind-at : {X : Type 0} (xs : List X) (k : ℕ) (x : X) → slice_get xs k ≡ Some x → drop k xs ≡ x ∷ drop (k + 1) xs
behind-at [] k x e = absurd (true≢false (sym (ap is_some e)))
behind-at {X} (y ∷ xs) zero x e = ap (λ z. z ∷ xs) (ap some_or e)
  where
    some_or : Option X → X
    some_or None = y
    some_or (Some a) = a
behind-at (y ∷ xs) (suc k) x e = behind-at xs k x e ∙ ap (λ n. x ∷ drop n (y ∷ xs)) (let one : suc (k + 1) ≡ suc k + 1 = omega arith in one)

pub some-one : {X : Type 0} (x y : X) → Some x ≡ Some y → x ≡ y
some-one {X} x y e = ap some_or e
  where
    some_or : Option X → X
    some_or None = x
    some_or (Some a) = a

pub none-at : {X : Type 0} (xs : List X) (k : ℕ) → length xs ≤ k → (x : X) → slice_get xs k ≡ Some x → ⊥
none-at [] k le x e = true≢false (sym (ap is_some e))
none-at (y ∷ xs) zero le x e = let z : ⊥ = omega (arith, le) in z
none-at (y ∷ xs) (suc k) le x e = none-at xs k (omega (arith, le)) x e

module _ (told stored : List Segment) (below items k : ℕ) (so_far : unlike_segment told stored below items ≡ unlike_from k (drop k told) (drop k stored) below items) where
  -- a segment that is the stored one
  pub unlike-next : (s t : Segment) → slice_get told k ≡ Some s → slice_get stored k ≡ Some t → s.low < below → t.low < below → same_segment (cut_at below s) (cut_at below t) ≡ true
      → unlike_segment told stored below items ≡ unlike_from (k + 1) (drop (k + 1) told) (drop (k + 1) stored) below items
  unlike-next s t at there ls lt same =
      let ss = drop (k + 1) told in let ts = drop (k + 1) stored in
      so_far
      ∙ ap₂ (λ a b. unlike_from k a b below items) (behind-at told k s at) (behind-at stored k t there)
      ∙ ap₂ (λ (a b : List Segment). first_some (first_false k (segments_agree a b)) (first_false items (nat_le (length b) (length a) ∷ []))) (cut-first below s ss ls) (cut-first below t ts lt)
      ∙ ap₂ first_some
      (ap (λ b. if b then first_false (k + 1) (segments_agree (cut_below below ss) (cut_below below ts)) else Some k) same)
      (ap (λ b. first_false items (b ∷ [])) (le-next (length (cut_below below ts)) (length (cut_below below ss))))

  -- one that isn't, or has none beside it
  pub unlike-here : (s : Segment) → slice_get told k ≡ Some s → s.low < below → AreRising stored
      → ((t : Segment) → slice_get stored k ≡ Some t → t.low < below → same_segment (cut_at below s) (cut_at below t) ≡ true → ⊥)
      → unlike_segment told stored below items ≡ Some k
  unlike-here s at ls rising other =
      so_far ∙ ap (λ a. unlike_from k a (drop k stored) below items) (behind-at told k s at)
      ∙ ap (λ (a : List Segment). first_some (first_false k (segments_agree a (cut_below below (drop k stored)))) (first_false items (nat_le (length (cut_below below (drop k stored))) (length a) ∷ []))) (cut-first below s (drop (k + 1) told) ls)
      ∙ ap (λ o. first_some o (first_false items (nat_le (length (cut_below below (drop k stored))) (length (cut_at below s ∷ cut_below below (drop (k + 1) told))) ∷ []))) (by_item (slice_get stored k) refl)
    where
      rest : List Segment
      rest = cut_below below (drop (k + 1) told)

      none-beside : cut_below below (drop k stored) ≡ [] → first_false k (segments_agree (cut_at below s ∷ cut_below below (drop (k + 1) told)) (cut_below below (drop k stored))) ≡ Some k
      none-beside e = ap (λ b. first_false k (segments_agree (cut_at below s ∷ cut_below below (drop (k + 1) told)) b)) e

      beside : (t : Segment) → slice_get stored k ≡ Some t → t.low < below → (b : Bool) → same_segment (cut_at below s) (cut_at below t) ≡ b
          → first_false k (segments_agree (cut_at below s ∷ cut_below below (drop (k + 1) told)) (cut_below below (drop k stored))) ≡ Some k
      beside t there lt true e = absurd (other t there lt e)
      beside t there lt false e =
          ap (λ b. first_false k (segments_agree (cut_at below s ∷ cut_below below (drop (k + 1) told)) (cut_below below b))) (behind-at stored k t there)
          ∙ ap (λ b. first_false k (segments_agree (cut_at below s ∷ cut_below below (drop (k + 1) told)) b)) (cut-first below t (drop (k + 1) stored) lt)
          ∙ ap (λ b. if b then first_false (k + 1) (segments_agree (cut_below below (drop (k + 1) told)) (cut_below below (drop (k + 1) stored))) else Some k) e

      by_item : (o : Option Segment) → slice_get stored k ≡ o → first_false k (segments_agree (cut_at below s ∷ cut_below below (drop (k + 1) told)) (cut_below below (drop k stored))) ≡ Some k
      by_item None e = none-beside (cut-behind below stored rising k (λ t f lt. true≢false (sym (ap is_some (sym e ∙ f)))))
      by_item (Some t) e = ⊎_elim
          (λ (le : below ≤ t.low). none-beside (cut-behind below stored rising k (λ u f lt. let same : t ≡ u = ap some_or (sym e ∙ f) in let m : t.low < below = subst (λ (z : Segment). z.low < below) (sym same) lt in let z : ⊥ = omega (arith, m, le) in z)))
          (λ lt. beside t e lt (same_segment (cut_at below s) (cut_at below t)) refl)
          (le_or_lt below t.low)
        where
          some_or : Option Segment → Segment
          some_or None = t
          some_or (Some a) = a

  -- nothing more is told
  told-out : cut_below below (drop k told) ≡ [] → unlike_segment told stored below items ≡ first_false items (nat_le (length (cut_below below (drop k stored))) 0 ∷ [])
  told-out e = so_far ∙ ap (λ (a : List Segment). first_some (first_false k (segments_agree a (cut_below below (drop k stored)))) (first_false items (nat_le (length (cut_below below (drop k stored))) (length a) ∷ []))) e

  pub unlike-none : AreRising told → ((s : Segment) → slice_get told k ≡ Some s → s.low < below → ⊥) → AreRising stored → ((t : Segment) → slice_get stored k ≡ Some t → t.low < below → ⊥)
      → unlike_segment told stored below items ≡ None
  unlike-none rising none more out =
      told-out (cut-behind below told rising k none)
      ∙ ap (λ (b : List Segment). first_false items (nat_le (length b) 0 ∷ [])) (cut-behind below stored more k out)

  pub unlike-missing : AreRising told → ((s : Segment) → slice_get told k ≡ Some s → s.low < below → ⊥) → (t : Segment) → slice_get stored k ≡ Some t → t.low < below
      → unlike_segment told stored below items ≡ Some items
  unlike-missing rising none t there lt =
      told-out (cut-behind below told rising k none)
      ∙ ap (λ (b : List Segment). first_false items (nat_le (length (cut_below below b)) 0 ∷ [])) (behind-at stored k t there)
      ∙ ap (λ (b : List Segment). first_false items (nat_le (length b) 0 ∷ [])) (cut-first below t (drop (k + 1) stored) lt)
      ∙ ap (λ b. first_false items (b ∷ [])) (none-le (length (cut_below below (drop (k + 1) stored))))

  -- the end of what is told, where so many items stand for one that is missing
  pub unlike-end : AreRising told → ((s : Segment) → slice_get told k ≡ Some s → s.low < below → ⊥) → AreRising stored → (o : Option ℕ)
      → MatchOption o ((t : Segment) → slice_get stored k ≡ Some t → t.low < below → ⊥) (λ n. (n ≡ items) × (t : Segment) × (slice_get stored k ≡ Some t) × (t.low < below))
      → o ≡ unlike_segment told stored below items
  unlike-end rising none more None h = sym (unlike-none rising none more h)
  unlike-end rising none more (Some n) h = ap Some h.0 ∙ sym (unlike-missing rising none h.1 h.2 h.3)

-- ---- names of ids

-- a test of all names of an id
all-named : (p : Name → Bool) (id : ℕ) (ks : List KnownName) → list_all (λ (k : KnownName). not (nat_eq k.id id) || p k.name) ks ≡ list_all p (names_at ks id)
all-named p id [] = refl
all-named p id (k ∷ ks) = by_test (nat_eq k.id id) (all-named p id ks)
  where
    by_test : (b : Bool) → list_all (λ (k : KnownName). not (nat_eq k.id id) || p k.name) ks ≡ list_all p (names_at ks id)
        → ((not b || p k.name) && list_all (λ (k : KnownName). not (nat_eq k.id id) || p k.name) ks) ≡ list_all p (map (λ (k : KnownName). k.name) (cond b (k ∷ filter (λ (k : KnownName). nat_eq k.id id) ks) (filter (λ (k : KnownName). nat_eq k.id id) ks)))
    by_test true g = ap (λ b. p k.name && b) g
    by_test false g = g

pub told-so : (told : CloneData) (id : ℕ) (name : Name) (o : Option Name) → names_at told.names id ≡ option_to_list o → is_told told id name ≡ list_all (λ n. same_name n name) (option_to_list o)
told-so told id name o e = all-named (λ n. same_name n name) id told.names ∙ ap (list_all (λ n. same_name n name)) e

-- a name is the same as another, by a test that decides it
pub same-by : (a b : Name) (t : Bool) → IsTrue t ↔ (a ≡ b) → t ≡ same_name a b
same-by a b true h = sym (subst (λ z. same_name a z ≡ true) (h.0 refl) (same_name-self a))
same-by a b false h = by_test (same_name a b) refl
  where
    by_test : (x : Bool) → same_name a b ≡ x → false ≡ x
    by_test false e = refl
    by_test true e = absurd (true≢false (sym (h.1 (same_name-exact a b e))))

same-turned : (a b : Name) → same_name a b ≡ same_name b a
same-turned a b = by_test (same_name a b) (same_name b a) refl refl
  where
    by_test : (x y : Bool) → same_name a b ≡ x → same_name b a ≡ y → x ≡ y
    by_test true true e f = refl
    by_test false false e f = refl
    by_test true false e f = absurd (true≢false (sym (subst (λ z. same_name z a ≡ true) (same_name-exact a b e) (same_name-self a)) ∙ f))
    by_test false true e f = absurd (true≢false (sym (subst (λ z. same_name z b ≡ true) (same_name-exact b a f) (same_name-self b)) ∙ e))

and-true : (b : Bool) → b ≡ (b && true)
and-true true = refl
and-true false = refl

pub told-is : (told : CloneData) (id : ℕ) (name known : Name) (t : Bool) → names_at told.names id ≡ option_to_list (Some known) → IsTrue t ↔ (known ≡ name) → t ≡ is_told told id name
told-is told id name known t e h = same-by known name t h ∙ and-true (same_name known name) ∙ sym (told-so told id name (Some known) e)

pub told-none : (told : CloneData) (id : ℕ) (name : Name) → names_at told.names id ≡ option_to_list None → true ≡ is_told told id name
told-none told id name e = sym (told-so told id name None e)

-- ---- segments told, in turn

told-follow : (told : CloneData) → first_broken told ≡ None → Follow 0 (place_behind 0 told.segments) told.segments
told-follow told e =
    turn-follow MayStandHere (λ place s h. (h.begins, let b = h.begins in let o = h.order in omega (arith, b, o))) 0 told.segments ((unbroken-is-lawful told).0 e).segments

pub told-rising : (told : CloneData) → first_broken told ≡ None → AreRising told.segments
told-rising told e = follow-rising 0 (place_behind 0 told.segments) told.segments (told-follow told e)

-- ---- names that were seen

pub seen-more : (before : List Name) (seen now : BTreeSet Name) (name : Name) → HasSeen before seen → Updates (slice_cmp nat_cmp) seen now name true → HasSeen (before ++ name ∷ []) now
seen-more before seen now name h u q =
    u.0 q ∙ ap (λ b. cond b true (contains (slice_cmp nat_cmp) seen q)) (sym (texts_ties name q) ∙ same-turned name q) ∙ ap (λ b. cond (same_name q name) true b) (h q)
    ∙ either (same_name q name) (is_in same_name q before) ∙ sym (in-more same_name q before name)
  where
    either : (a b : Bool) → cond a true b ≡ (b || a)
    either true true = refl
    either true false = refl
    either false true = refl
    either false false = refl
