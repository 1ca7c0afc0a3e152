-- A command that doesn't look at the stored world does the same where changes are taken before.
use Rattle.std.proofs.Common.{◌≡◌, ◌<◌, ◌≤◌, ◌+◌, ◌-◌, ◌&&◌, ◌||◌, not, ℕ, Bool, true, false, cond, List, [], ◌∷◌, ◌++◌, length, map, filter, flat_map, min, nat_eq, nat_lt, Option, Some, None, refl, sym, ap, ap₂, ◌∙◌, subst, arith, MatchOption, if◌then◌else◌, true≢false, append-nil, length-append}
use Rattle.std.specs.Prelude.{⊤}
use Rattle.std.specs.Bool.{MatchBool}
use Rattle.std.specs.List.{list_any, range_with_len}
use Rattle.std.proofs.lemmas.Bool.{ltb-true}
use Rattle.std.proofs.lemmas.Grind.{flat_map-append}
use Rattle.std.proofs.lemmas.List.{get_or-set_same, map-append}
use Rattle.id_groups.specs.Lists.{is_in}
use Rattle.id_groups.specs.Name.{Name, same_name}
use Rattle.commit_graph.specs.World.{Row, World, names_of, with_pending}
use Rattle.commit_graph.specs.Graph.{graph_of}
use Rattle.commit_graph.specs.Ids.{id_in}
use Rattle.set_expr.specs.Expr.{Expr, commits_in}
use Rattle.set_expr.specs.Meaning.{IsAnswer}
use Rattle.batch_codec.specs.Payload.{Payload, Known}
use Rattle.change_rules.specs.declared.Limits.{Limits}
use Rattle.change_rules.specs.declared.Limit.TheVariants as limit
use Rattle.change_rules.specs.Lazy.{is_lazy, has_lazy, stored_names}
use Rattle.change_rules.specs.Tables.{known_in}
use Rattle.remote_rules.specs.CloneData.{KnownName}
use Rattle.remote_rules.specs.Mirror.{Mirror}
use Rattle.step_rules.specs.declared.Refusal.{Refusal}
use Rattle.step_rules.specs.declared.Refusal.TheVariants as why
use Rattle.step_rules.specs.State.{State, Stored, Outside, Session, Cache, new_session, session, pending_of, base_of, view_of, world_at}
use Rattle.step_rules.specs.Verb.{Verb, Add, Flush, Reload, Discard, Query, Count, IdOf, Status, Levels, Clone, Pull, Strip, CountMirrors, Drop}
use Rattle.step_rules.specs.Reply.{Reply, Added, Old, Listed, Identified, Sizes, Dropped, Refused}
use Rattle.step_rules.specs.Asked.{is_unnamed, found_as, lazy_among, is_cached, is_found}
use Rattle.step_rules.specs.Worlds.{has, with_added}
use Rattle.step_rules.specs.Tests.{Test, plain, named, looked_up, unknown, twice, differs, full, refuse_if, tests}
use Rattle.step_rules.specs.Asking.{TriesAll}
use Rattle.step_rules.specs.Step.{IsTold, Lists, Answers, CommandStep, GoesOutside, IsRefused, MayWantMemory, without}
use Rattle.step_rules.specs.Isolation.{reads_stored}
use Rattle.step_rules.proofs.Sessions.{world_at-stored}
use Rattle.core_rules.specs.Cores.{Written, with_change, with_changes}
use Rattle.core_rules.proofs.Late.{AllAbove, IsAbove, none-below, none-kept}

-- ---- lists

any-same : {X : Type 0} (f g : X → Bool) (xs : List X) → ((x : X) → f x ≡ g x) → list_any f xs ≡ list_any g xs
any-same f g [] h = refl
any-same f g (x ∷ xs) h = ap₂ (λ (a b : Bool). a || b) (h x) (any-same f g xs h)

map-same : {X Y : Type 0} (f g : X → Y) (xs : List X) → ((x : X) → f x ≡ g x) → map f xs ≡ map g xs
map-same f g [] h = refl
map-same f g (x ∷ xs) h = ap₂ (λ a b. a ∷ b) (h x) (map-same f g xs h)

flat-same : {X Y : Type 0} (f g : X → List Y) (xs : List X) → ((x : X) → f x ≡ g x) → flat_map f xs ≡ flat_map g xs
flat-same f g [] h = refl
flat-same f g (x ∷ xs) h = ap₂ (λ a b. a ++ b) (h x) (flat-same f g xs h)

filter-front : {X : Type 0} (f : X → Bool) (xs ys : List X) → filter f ys ≡ [] → filter f (xs ++ ys) ≡ filter f xs
filter-front f [] ys e = e
filter-front f (x ∷ xs) ys e = ap (λ l. cond (f x) (x ∷ l) l) (filter-front f xs ys e)

in-front : (id : ℕ) (xs ys : List ℕ) → is_in nat_eq id ys ≡ false → is_in nat_eq id (xs ++ ys) ≡ is_in nat_eq id xs
in-front id [] ys e = e
in-front id (x ∷ xs) ys e = ap (λ b. nat_eq id x || b) (in-front id xs ys e)

-- the test of the names that a query prints, by those that aren't stored
abbrev print_test : Cache → List KnownName → List KnownName → Test
print_test cache found lazy =
    let absent = filter (λ k. not (is_cached cache k)) lazy in
    let wanted = filter (λ k. not (is_found found k)) absent in
    record {
      must = length wanted;
      may = (length absent - length wanted) + min (length found) (length lazy - length absent);
      finds = absent;
      refusal = None;
    }

module _ (limits : Limits) (st : Stored) (x : Written) (s : ℕ) (base : (session st s).base ≤ length st.past) (short : length (base_of st s).master ≤ length st.stored.master) (room : s < length st.sessions)
    (above : IsAbove st.stored x.payload) (out : Outside) where
  abbrev p : List (Row Name)
  p = pending_of st s

  abbrev w : World Name
  w = base_of st s

  abbrev next : Stored
  next = with_change st x

  abbrev last : List Known
  last = x.payload.known ++ []

  world-same : (i : ℕ) → i ≤ length st.past → world_at next i ≡ world_at st i
  world-same i le = world_at-stored st x.world x.payload i le

  base-same : base_of next s ≡ w
  base-same = world-same (session st s).base base

  view-same : view_of next s ≡ view_of st s
  view-same = ap (λ v. with_pending v p) base-same

  known-more : known_in next.payloads ≡ known_in st.payloads ++ last
  known-more = flat_map-append (λ (q : Payload). q.known) st.payloads (x.payload ∷ [])

  id-same : (id : ℕ) → id < length w.master → is_in nat_eq id (map (λ (k : Known). k.id) (known_in next.payloads)) ≡ is_in nat_eq id (map (λ (k : Known). k.id) (known_in st.payloads))
  id-same id lt =
      ap (λ (ks : List Known). is_in nat_eq id (map (λ (k : Known). k.id) ks)) known-more
      ∙ ap (is_in nat_eq id) (map-append (λ (k : Known). k.id) (known_in st.payloads) last)
      ∙ in-front id (map (λ (k : Known). k.id) (known_in st.payloads)) (map (λ (k : Known). k.id) last)
      (subst (λ (ks : List Known). is_in nat_eq id (map (λ (k : Known). k.id) ks) ≡ false) (sym (append-nil x.payload.known)) (none-below (length st.stored.master) id x.payload.known above (omega (arith, lt, short))))

  lazy-id : (id : ℕ) → is_lazy next.payloads w id ≡ is_lazy st.payloads w id
  lazy-id id = by_test (nat_lt id (length w.master)) refl
    where
      by_test : (b : Bool) → nat_lt id (length w.master) ≡ b
          → (b && not (is_in nat_eq id (map (λ (k : Known). k.id) (known_in next.payloads)))) ≡ (b && not (is_in nat_eq id (map (λ (k : Known). k.id) (known_in st.payloads))))
      by_test true e = ap not (id-same id (ltb-true id (length w.master) e))
      by_test false e = refl

  lazy-any : has_lazy next.payloads w ≡ has_lazy st.payloads w
  lazy-any = any-same (is_lazy next.payloads w) (is_lazy st.payloads w) (range_with_len 0 (length w.master)) lazy-id

  names-same : stored_names next.payloads w ≡ stored_names st.payloads w
  names-same = ap (λ (ks : List Known). map (λ (k : Known). k.name) ks ++ names_of w.others)
      (ap (λ (ks : List Known). filter (λ (k : Known). nat_lt k.id (length w.master)) ks) known-more
      ∙ filter-front (λ (k : Known). nat_lt k.id (length w.master)) (known_in st.payloads) last
      (subst (λ (ks : List Known). filter (λ (k : Known). nat_lt k.id (length w.master)) ks ≡ []) (sym (append-nil x.payload.known)) (none-kept (length st.stored.master) (length w.master) x.payload.known above short)))

  unnamed-same : (name : Name) → is_unnamed next w name ≡ is_unnamed st w name
  unnamed-same name = ap₂ (λ (a : Bool) (l : List Name). a && not (is_in same_name name l)) lazy-any names-same

  found-same : (name : Name) → found_as next w name ≡ found_as st w name
  found-same name = ap (λ (b : Bool). if is_in same_name name (names_of w.master) && b then record { id = id_in same_name w name; name = name } ∷ [] else []) (lazy-id (id_in same_name w name))

  lazy-same : (names : List Name) → lazy_among next (base_of next s) names ≡ lazy_among st w names
  lazy-same names = ap (λ v. lazy_among next v names) base-same ∙ flat-same (found_as next w) (found_as st w) names found-same

  looked-same : (refuse : Name → Option Refusal) (name : Name) → looked_up next s w refuse name ≡ looked_up st s w refuse name
  looked-same refuse name = ap₂ (λ (a : Bool) (f : List KnownName). named (a && not (is_in same_name name (names_of p))) f (refuse name)) (unnamed-same name) (found-same name)

  looked-all : (names : List Name) → map (looked_up next s (base_of next s) (unknown (view_of next s))) names ≡ map (looked_up st s w (unknown (view_of st s))) names
  looked-all names =
      ap (λ v. map (looked_up next s v (unknown (with_pending v p))) names) base-same
      ∙ map-same (looked_up next s w (unknown (view_of st s))) (looked_up st s w (unknown (view_of st s))) names (looked-same (unknown (view_of st s)))

  abbrev adding : Name → List Name → World Name → List Test
  adding name parents v =
      plain (twice [] parents) ∷ plain (differs v name parents) ∷ plain (if has v name then None else full limit.Pending limits.pending (length p + 1)) ∷ []

  tests-same : (verb : Verb) → reads_stored verb ≡ false → tests limits next s verb ≡ tests limits st s verb
  tests-same (Add name parents) e =
      ap₂ (λ (a : Test) (l : List Test). a ∷ l)
      (ap (λ v. looked_up next s v (λ _. None) name) base-same ∙ looked-same (λ _. None) name)
      (ap₂ (λ (l m : List Test). l ++ m) (looked-all parents) (ap (adding name parents) view-same))
  tests-same (Query q) e = looked-all (commits_in q)
  tests-same (Count q) e = looked-all (commits_in q)
  tests-same (IdOf name) e = looked-all (name ∷ [])
  tests-same Discard e = refl
  tests-same Status e = refl
  tests-same CountMirrors e = refl
  tests-same (Drop k) e = refl
  tests-same (Flush heads) e = absurd (true≢false e)
  tests-same (Strip names) e = absurd (true≢false e)
  tests-same Reload e = absurd (true≢false e)
  tests-same Levels e = absurd (true≢false e)
  tests-same Clone e = absurd (true≢false e)
  tests-same Pull e = absurd (true≢false e)

  with_row : Name → List Name → Session
  with_row name parents = record { base = (session st s).base; pending = p ++ record { name = name; parents = parents } ∷ [] }

  added-same : (name : Name) (parents : List Name) → view_of (with_added st s name parents) s ≡ view_of (with_added next s name parents) s
  unfolding with_row
  added-same name parents =
      let row = with_row name parents in
      ap (λ (y : Session). with_pending (world_at st y.base) y.pending) (get_or-set_same st.sessions s row new_session room)
      ∙ ap (λ v. with_pending v row.pending) (sym base-same)
      ∙ sym (ap (λ (y : Session). with_pending (world_at next y.base) y.pending) (get_or-set_same st.sessions s row new_session room))

  told-same : (verb : Verb) (reply : Reply) (now : Stored) → reads_stored verb ≡ false → IsTold st s verb reply now → IsTold next s verb reply (with_change now x)
  told-same (Add name parents) reply now e g = by_test (has (view_of st s) name) (ap (λ v. has v name) view-same) g
    where
      by_test : (b : Bool) → has (view_of next s) name ≡ b
          → MatchBool b ((reply ≡ Old (id_in same_name (view_of st s) name)) × (now ≡ st)) ((reply ≡ Added (id_in same_name (view_of (with_added st s name parents) s) name)) × (now ≡ with_added st s name parents))
          → MatchBool (has (view_of next s) name) ((reply ≡ Old (id_in same_name (view_of next s) name)) × (with_change now x ≡ next))
          ((reply ≡ Added (id_in same_name (view_of (with_added next s name parents) s) name)) × (with_change now x ≡ with_added next s name parents))
      by_test true f g =
          subst (λ (b : Bool). MatchBool b ((reply ≡ Old (id_in same_name (view_of next s) name)) × (with_change now x ≡ next))
          ((reply ≡ Added (id_in same_name (view_of (with_added next s name parents) s) name)) × (with_change now x ≡ with_added next s name parents))) (sym f)
          (g.0 ∙ ap (λ v. Old (id_in same_name v name)) (sym view-same), ap (λ (z : Stored). with_change z x) g.1)
      by_test false f g =
          subst (λ (b : Bool). MatchBool b ((reply ≡ Old (id_in same_name (view_of next s) name)) × (with_change now x ≡ next))
          ((reply ≡ Added (id_in same_name (view_of (with_added next s name parents) s) name)) × (with_change now x ≡ with_added next s name parents))) (sym f)
          (g.0 ∙ ap (λ v. Added (id_in same_name v name)) (added-same name parents), ap (λ (z : Stored). with_change z x) g.1)
  told-same Discard reply now e g = (g.0, ap (λ (z : Stored). with_change z x) g.1)
  told-same (Count q) reply now e g = (g.0, subst (λ v. IsAnswer (graph_of same_name v) q g.0) (sym view-same) g.1, g.2, ap (λ (z : Stored). with_change z x) g.3)
  told-same (IdOf name) reply now e g = (g.0 ∙ ap (λ v. Identified (id_in same_name v name)) (sym view-same), ap (λ (z : Stored). with_change z x) g.1)
  told-same Status reply now e g = (g.0 ∙ ap (λ (v : World Name). Sizes (length v.master) (length v.others) (length p)) (sym base-same), ap (λ (z : Stored). with_change z x) g.1)
  told-same (Query q) reply now e g = absurd g
  told-same CountMirrors reply now e g = absurd g
  told-same (Drop k) reply now e g = absurd g
  told-same (Flush heads) reply now e g = absurd (true≢false e)
  told-same (Strip names) reply now e g = absurd (true≢false e)
  told-same Reload reply now e g = absurd (true≢false e)
  told-same Levels reply now e g = absurd (true≢false e)
  told-same Clone reply now e g = absurd (true≢false e)
  told-same Pull reply now e g = absurd (true≢false e)

  abbrev here : State
  here = record { store = st; outside = out }

  abbrev there : State
  there = record { store = with_change st x; outside = out }

  -- a state with the change
  abbrev on : State → State
  on z = record { store = with_change z.store x; outside = z.outside }

  lists-same : (q : Expr Name) (mirrors : List Mirror) (found : List KnownName) (reply : Reply) (now : State) → Lists limits here s q mirrors found reply now → Lists limits there s q mirrors found reply (on now)
  lists-same q mirrors found reply now (names, is, verdict, new, fetched, tries, goes, ends) = (
    names,
    subst (λ v. IsAnswer (graph_of same_name v) q names) (sym view-same) is,
    verdict,
    new,
    fetched,
    subst (λ (l : List KnownName). TriesAll ⊤ mirrors (plain (refuse_if (nat_lt limits.answer (length names)) (why.Answer (length names))) ∷ print_test out.cache found l ∷ []) verdict new fetched)
        (sym (lazy-same names)) tries,
    goes,
    by_end verdict ends,
  )
    where
      by_end : (o : Option Refusal) → MatchOption o ((reply ≡ Listed names) × (now.store ≡ st)) (λ refusal. IsRefused st refusal reply now.store)
          → MatchOption o ((reply ≡ Listed names) × (with_change now.store x ≡ with_change st x)) (λ refusal. IsRefused (with_change st x) refusal reply (with_change now.store x))
      by_end None g = (g.0, ap (λ (z : Stored). with_change z x) g.1)
      by_end (Some r) g = (g.0, ap (λ (z : Stored). with_change z x) g.1)

  answers-same : (verb : Verb) (mirrors : List Mirror) (found : List KnownName) (reply : Reply) (now : State) → reads_stored verb ≡ false
      → Answers limits here s verb mirrors found reply now → Answers limits there s verb mirrors found reply (on now)
  answers-same (Add name parents) mirrors found reply now e a = (told-same (Add name parents) reply now.store e a.0, a.1)
  answers-same Discard mirrors found reply now e a = (told-same Discard reply now.store e a.0, a.1)
  answers-same (Count q) mirrors found reply now e a = (told-same (Count q) reply now.store e a.0, a.1)
  answers-same (IdOf name) mirrors found reply now e a = (told-same (IdOf name) reply now.store e a.0, a.1)
  answers-same Status mirrors found reply now e a = (told-same Status reply now.store e a.0, a.1)
  answers-same (Query q) mirrors found reply now e a = lists-same q mirrors found reply now a
  answers-same CountMirrors mirrors found reply now e a = (a.0, ap on a.1)
  answers-same (Drop k) mirrors found reply now e a = by_test (nat_lt k (length mirrors)) a
    where
      by_test : (b : Bool)
          → MatchBool b ((reply ≡ Dropped (length (without k mirrors))) × (now ≡ record here { outside = record here.outside { mirrors = without k mirrors } })) ((reply ≡ Refused why.NoRemote) × (now ≡ here))
          → MatchBool b ((reply ≡ Dropped (length (without k mirrors))) × (on now ≡ record there { outside = record there.outside { mirrors = without k mirrors } })) ((reply ≡ Refused why.NoRemote) × (on now ≡ there))
      by_test true g = (g.0, ap on g.1)
      by_test false g = (g.0, ap on g.1)
  answers-same (Flush heads) mirrors found reply now e a = absurd (true≢false e)
  answers-same (Strip names) mirrors found reply now e a = absurd (true≢false e)
  answers-same Reload mirrors found reply now e a = absurd (true≢false e)
  answers-same Levels mirrors found reply now e a = absurd (true≢false e)
  answers-same Clone mirrors found reply now e a = absurd (true≢false e)
  answers-same Pull mirrors found reply now e a = absurd (true≢false e)

  pub step-same : (verb : Verb) (reply : Reply) (now : State) → reads_stored verb ≡ false → CommandStep limits here s verb reply now → CommandStep limits there s verb reply (on now)
  step-same verb reply now e (verdict, mirrors, found, tries, ends) = (
    verdict,
    mirrors,
    found,
    subst (λ (ts : List Test). TriesAll (MayWantMemory verb) out.mirrors ts verdict mirrors found) (sym (tests-same verb e)) tries,
    by_test verdict ends,
  )
    where
      by_test : (o : Option Refusal)
          → MatchOption o (Answers limits here s verb mirrors found reply now) (λ refusal. IsRefused st refusal reply now.store × GoesOutside out mirrors found now.outside)
          → MatchOption o (Answers limits there s verb mirrors found reply (on now)) (λ refusal. IsRefused (with_change st x) refusal reply (with_change now.store x) × GoesOutside out mirrors found now.outside)
      by_test None a = answers-same verb mirrors found reply now e a
      by_test (Some r) a = ((a.0.0, ap (λ (z : Stored). with_change z x) a.0.1), a.1)

-- where all of these are taken before
pub step-all : (limits : Limits) (more : List Written) (st : Stored) (s : ℕ) (out : Outside) (verb : Verb) (reply : Reply) (now : Stored) (after : Outside) → reads_stored verb ≡ false
    → (session st s).base ≤ length st.past → length (base_of st s).master ≤ length st.stored.master → s < length st.sessions → AllAbove st.stored more
    → CommandStep limits (record { store = st; outside = out }) s verb reply (record { store = now; outside = after })
    → CommandStep limits (record { store = with_changes st more; outside = out }) s verb reply (record { store = with_changes now more; outside = after })
step-all limits [] st s out verb reply now after e base short room above step = step
step-all limits (x ∷ more) st s out verb reply now after e base short room above step =
    let grown = above.1 in
    let longer : length x.world.master ≡ length st.stored.master + length grown.0 = ap length grown.1 ∙ length-append st.stored.master grown.0 in
    let past : length (st.past ++ st.stored ∷ []) ≡ length st.past + 1 = length-append st.past (st.stored ∷ []) in
    let same : length (base_of (with_change st x) s).master ≡ length (base_of st s).master = ap (λ (v : World Name). length v.master) (world_at-stored st x.world x.payload (session st s).base base) in
    step-all limits more (with_change st x) s out verb reply (with_change now x) after e (omega (arith, base, past)) (omega (arith, same, short, longer)) room above.2
    (step-same limits st x s base short room above.0 out verb reply (record { store = now; outside = after }) e step)
