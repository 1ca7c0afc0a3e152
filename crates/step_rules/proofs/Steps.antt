-- Each command leaves worlds.
use Rattle.std.proofs.Common.{◌≡◌, ◌⊎◌, Bool, true, false, not, cond, ℕ, inl, inr, List, [], ◌∷◌, ◌++◌, length, map, Option, Some, None, refl, sym, ap, subst, ◌∙◌, if◌then◌else◌, ⊎_elim, true≢false, is_some, append_assoc, append-nil, MatchOption, nat_lt, arith, length-append}
use Rattle.std.specs.Bool.{MatchBool}
use Rattle.std.specs.Option.{option_map}
use Rattle.std.proofs.lemmas.List.{map-append}
use Rattle.std.proofs.lemmas.Bool.{ltb-false}
use Rattle.id_groups.specs.Lists.{IsIn, is_in, AreAllIn, AreDistinct}
use Rattle.id_groups.specs.Name.{Name, IsName, same_name}
use Rattle.id_groups.proofs.Names.{same_name-exact, same_name-self}
use Rattle.id_groups.proofs.Listing.{found, missing}
use Rattle.commit_graph.specs.World.{Row, World, IsWorld, IsHistory, IsNamedWorld, IsNext, GrowsMaster, rows_of, names_of, with_pending}
use Rattle.commit_graph.proofs.Histories.{in-append, world-next, history-front}
use Rattle.commit_graph.proofs.Down.{in-left, in-right}
use Rattle.commit_graph.proofs.Naming.{named-by, name-of, pending-names, pending-there}
use Rattle.commit_graph.specs.Ids.{id_in}
use Rattle.change_rules.specs.declared.Limits.{Limits}
use Rattle.change_rules.specs.declared.Limit.TheVariants as limit
use Rattle.change_rules.specs.Rebase.{left_of, first_lost, first_conflict}
use Rattle.change_rules.specs.Strip.{stripped}
use Rattle.change_rules.specs.Pull.{pulled}
use Rattle.change_rules.specs.Change.{flush_change, clone_change}
use Rattle.change_rules.specs.Tables.{cloned_count}
use Rattle.change_rules.proofs.Flushes.{flush-world, flush-names, flush-grows, flush-keeps, filtered-names, name-in}
use Rattle.change_rules.proofs.Changed.{rebase-lossless, strip-world, strip-names, pull-world, pull-names}
use Rattle.remote_rules.specs.Mirror.{Mirror}
use Rattle.remote_rules.specs.Known.{master_alone, master_world}
use Rattle.remote_rules.specs.Honest.{IsSoundMirror, IsHonest}
use Rattle.remote_rules.specs.Calls.{IsCloned, IsPulled}
use Rattle.remote_rules.specs.CloneData.{KnownName}
use Rattle.remote_rules.specs.declared.MirrorFault.{MirrorFault}
use Rattle.step_rules.specs.declared.Refusal.{Refusal}
use Rattle.step_rules.specs.declared.Refusal.TheVariants as why
use Rattle.step_rules.specs.State.{State, Stored, IsStore, session, pending_of, base_of, view_of, on_newest, with_stored}
use Rattle.step_rules.specs.Verb.{Verb, IsVerb, Add, Flush, Reload, Discard, Query, Count, IdOf, Status, Levels, Clone, Pull, Strip, CountMirrors, Drop}
use Rattle.step_rules.specs.Reply.{Reply, Old, Added, Cloned, Pulled, Listed, Dropped, Refused}
use Rattle.step_rules.specs.Worlds.{has, same_world, rebased, flush_of, after_flush, after_change, with_added}
use Rattle.step_rules.specs.Tests.{full, unknown, twice, first_some, refuse_if, refused_first, tests}
use Rattle.step_rules.specs.Asking.{refusal_for}
use Rattle.step_rules.specs.Step.{IsTold, TakesFrom, Clones, Pulls, AnsweredFirst, Answers, CommandStep, GoesOutside, IsRefused, UnlessRefused, MayWantMemory, clone_tests, pull_tests, without}
use Rattle.step_rules.proofs.Trying.{Outer, tried-all}
use Rattle.step_rules.proofs.Own.{refusals}
use Rattle.step_rules.proofs.OwnSteps.{log_part, first-tests}
use Rattle.step_rules.proofs.States.{alone, stored-named, with_session-state, with_stored-state, on_newest-state}
use Rattle.step_rules.proofs.Soundness.{AreSound, asks-sound, tries-sound}

pub some-none : {X : Type 0} (x : X) → ◌≡◌ {A = Option X} (Some x) None → ⊥
some-none x e = true≢false (ap is_some e)

pub first-none-append : {X : Type 0} (xs ys : List (Option X)) → first_some (xs ++ ys) ≡ None → (first_some xs ≡ None) × (first_some ys ≡ None)
first-none-append [] ys h = (refl, h)
first-none-append (None ∷ xs) ys h = first-none-append xs ys h
first-none-append (Some x ∷ xs) ys h = absurd (some-none x h)

pub first-none-cons : {X : Type 0} (o : Option X) (ys : List (Option X)) → first_some (o ∷ ys) ≡ None → (o ≡ None) × (first_some ys ≡ None)
first-none-cons None ys h = (refl, h)
first-none-cons (Some x) ys h = absurd (some-none x h)

pub not-refused : (b : Bool) (r : Refusal) → refuse_if (not b) r ≡ None → b ≡ true
not-refused true r h = refl
not-refused false r h = absurd (some-none r h)

map-none : {X Y : Type 0} (f : X → Y) (o : Option X) → option_map f o ≡ None → o ≡ None
map-none f None e = refl
map-none f (Some x) e = absurd (some-none (f x) e)

-- names that no test refuses as unknown are there
all-known : (w : World Name) (names : List Name) → first_some (map (unknown w) names) ≡ None → AreAllIn names (names_of (rows_of w))
all-known w [] h = tt
all-known w (x ∷ names) h =
    let e = first-none-cons (unknown w x) (map (unknown w) names) h in
    (found same_name same_name-exact same_name-self x (names_of (rows_of w)) (not-refused (has w x) _ e.0), all-known w names e.1)

-- parents that aren't refused as given twice are distinct
not-twice : (before parents : List Name) → twice before parents ≡ None → ((p : Name) → IsIn p parents → IsIn p before → ⊥) × AreDistinct parents
not-twice before [] h = ((λ p i j. i), tt)
not-twice before (p ∷ parents) h = by_test (is_in same_name p before) refl h (not-twice (before ++ p ∷ []) parents)
  where
    by_test : (b : Bool) → is_in same_name p before ≡ b → (if b then Some (why.Twice p) else twice (before ++ p ∷ []) parents) ≡ None
        → (twice (before ++ p ∷ []) parents ≡ None → ((q : Name) → IsIn q parents → IsIn q (before ++ p ∷ []) → ⊥) × AreDistinct parents)
        → ((q : Name) → IsIn q (p ∷ parents) → IsIn q before → ⊥) × AreDistinct (p ∷ parents)
    by_test true e f rec = absurd (some-none _ f)
    by_test false e f rec =
        let r = rec f in (
          (λ q i j. ⊎_elim (λ g. missing same_name same_name-exact same_name-self p before e (subst (λ z. IsIn z before) g j)) (λ k. r.0 q k (in-left q before (p ∷ []) j)) i),
          ((λ i. r.0 p i (in-right p before (p ∷ []) (inl refl))), r.1),
        )

named-row : (x : Name) (rows : List (Row Name)) → IsIn x (names_of rows) → (r : Row Name) × IsIn r rows × (x ≡ r.name)
named-row x [] i = absurd i
named-row x (r ∷ rows) (inl e) = (r, inl refl, e)
named-row x (r ∷ rows) (inr i) = let n = named-row x rows i in (n.0, inr n.1, n.2)

-- a pending row's name is in the world, or the row is left
left-or-there : (w : World Name) (pending : List (Row Name)) (x : Name) → IsIn x (names_of pending) → IsIn x (names_of (rows_of w)) ⊎ IsIn x (names_of (left_of same_name w pending))
left-or-there w [] x i = absurd i
left-or-there w (r ∷ pending) x i = by_test (is_in same_name r.name (names_of (rows_of w))) refl (left-or-there w pending x)
  where
    by_test : (b : Bool) → is_in same_name r.name (names_of (rows_of w)) ≡ b
        → (IsIn x (names_of pending) → IsIn x (names_of (rows_of w)) ⊎ IsIn x (names_of (left_of same_name w pending)))
        → IsIn x (names_of (rows_of w)) ⊎ IsIn x (names_of (cond (not b) (r ∷ left_of same_name w pending) (left_of same_name w pending)))
    by_test true e rec = ⊎_elim (λ f. inl (subst (λ z. IsIn z (names_of (rows_of w))) (sym f) (found same_name same_name-exact same_name-self r.name (names_of (rows_of w)) e))) rec i
    by_test false e rec = ⊎_elim (λ f. inr (inl f)) (λ j. ⊎_elim (λ k. inl k) (λ k. inr (inr k)) (rec j)) i

-- the names of a world are among those with pending rows
there-too : (w : World Name) (pending : List (Row Name)) (x : Name) → IsIn x (names_of (rows_of w)) → IsIn x (names_of (rows_of (with_pending w pending)))
there-too w pending x i =
    let n = named-row x (rows_of w) i in
    subst (λ z. IsIn z (names_of (rows_of (with_pending w pending)))) (sym n.2)
    (name-in n.0 (rows_of (with_pending w pending))
    (⊎_elim (λ j. in-left n.0 w.master (w.others ++ pending) j) (λ j. in-right n.0 w.master (w.others ++ pending) (in-left n.0 w.others pending j)) (in-append n.0 w.master w.others n.1)))

-- a name that is in the world or pending is in the world with the rebased rows
known-rebased : (w : World Name) (pending : List (Row Name)) (x : Name) → IsIn x (names_of (rows_of (with_pending w pending))) → IsIn x (names_of (rows_of (with_pending w (left_of same_name w pending))))
known-rebased w pending x i =
    ⊎_elim (λ j. there-too w (left_of same_name w pending) x j)
    (λ j. ⊎_elim (λ k. there-too w (left_of same_name w pending) x k) (λ k. pending-there w (left_of same_name w pending) x k) (left-or-there w pending x j))
    (pending-names w pending x i)

all-kept : (xs ys zs : List Name) → ((x : Name) → IsIn x ys → IsIn x zs) → AreAllIn xs ys → AreAllIn xs zs
all-kept [] ys zs f h = tt
all-kept (x ∷ xs) ys zs f h = (f x h.0, all-kept xs ys zs f h.1)

module _ (st : Stored) (s : ℕ) (h : IsStore st) where
  stored-world : IsNamedWorld st.stored
  stored-world = stored-named st h

  -- where a rebase loses no parent
  rebased-world : first_lost same_name st.stored (pending_of st s) ≡ None → IsNamedWorld (rebased st s)
  rebased-world e = named-by (rebased st s)
      (rebase-lossless same_name same_name-exact same_name-self st.stored (base_of st s) (pending_of st s) stored-world.world (h.sessions s).view.world e)
      (λ x i. ⊎_elim (λ j. name-of st.stored stored-world x j)
      (λ j. name-of (view_of st s) (h.sessions s).view x (pending-there (base_of st s) (pending_of st s) x
      (filtered-names (λ row. not (is_in same_name row.name (names_of (rows_of st.stored)))) x (pending_of st s) j)))
      (pending-names st.stored (left_of same_name st.stored (pending_of st s)) x i))

  -- a world is stored, where it isn't there already
  changed-state : (new : World Name) (payload : _) → IsNamedWorld new → GrowsMaster st.stored new → IsStore (after_change st s new payload)
  changed-state new payload whole grown = either (same_world new st.stored)
    where
      either : (b : Bool) → IsStore (if b then on_newest st s [] else on_newest (with_stored st new payload) s [])
      either true = on_newest-state st s [] h (alone st.stored stored-world)
      either false = on_newest-state (with_stored st new payload) s [] (with_stored-state st new payload h whole grown) (alone new whole)

  module _ (limits : Limits) where
    added-state : (name : Name) (parents : List Name) → IsVerb (Add name parents) → first_some (refusals limits (base_of st s) (pending_of st s) st.stored (Add name parents)) ≡ None
        → has (view_of st s) name ≡ false → IsStore (with_added st s name parents)
    added-state name parents verb none new =
        let parts = first-none-append (map (unknown (view_of st s)) parents) _ none in
        let distinct = not-twice [] parents (first-none-cons (twice [] parents) _ parts.1).0 in
        let row : Row Name = record { name = name; parents = parents } in
        let next : IsNext (names_of (rows_of (view_of st s))) row = record {
          fresh = missing same_name same_name-exact same_name-self name (names_of (rows_of (view_of st s))) new;
          known = all-known (view_of st s) parents parts.0;
          distinct = distinct.1;
          few = verb.1;
        } in
        with_session-state st s (record { base = (session st s).base; pending = pending_of st s ++ row ∷ [] }) h
        (record {
          base = (h.sessions s).base;
          view = subst (λ l. IsNamedWorld (record { master = (base_of st s).master; others = l })) (append_assoc (base_of st s).others (pending_of st s) (row ∷ []))
              (named-by (with_pending (view_of st s) (row ∷ [])) (world-next (view_of st s) row (h.sessions s).view.world next)
              (λ x i. ⊎_elim (λ j. name-of (view_of st s) (h.sessions s).view x j) (λ j. ⊎_elim (λ e. subst IsName (sym e) verb.0.0) (λ k. absurd k) j)
              (pending-names (view_of st s) (row ∷ []) x i)));
        })

    pub flushed-world : (heads : List Name) → first_some (refusals limits (base_of st s) (pending_of st s) st.stored (Flush heads)) ≡ None
        → IsNamedWorld (flush_of st s heads) × GrowsMaster st.stored (flush_of st s heads) × ((x : Name) → IsIn x (names_of (rows_of st.stored)) → IsIn x (names_of (rows_of (flush_of st s heads))))
    flushed-world heads none =
        let parts = first-none-append (map (unknown (with_pending st.stored (pending_of st s))) heads) _ none in
        let sizes : List (Option Refusal) = full limit.Others limits.others (length (flush_of st s heads).others) ∷ full limit.Master limits.master (length (flush_of st s heads).master) ∷ [] in
        let lost = option_map why.Lost (first_lost same_name st.stored (pending_of st s)) in
        let behind = first-none-cons (option_map why.Conflict (first_conflict same_name st.stored (pending_of st s))) (lost ∷ sizes) parts.1 in
        let lossless = map-none why.Lost (first_lost same_name st.stored (pending_of st s)) (first-none-cons lost sizes behind.1).0 in
        let seen = rebased-world lossless in
        let known = all-kept heads (names_of (rows_of (with_pending st.stored (pending_of st s)))) (names_of (rows_of (rebased st s))) (known-rebased st.stored (pending_of st s))
        (all-known (with_pending st.stored (pending_of st s)) heads parts.0) in
        let world : IsWorld (flush_of st s heads) = flush-world same_name same_name-exact same_name-self (rebased st s) seen.world heads known in (
          named-by (flush_of st s heads) world (λ x i. name-of (rebased st s) seen x (flush-names same_name same_name-exact same_name-self (rebased st s) seen.world heads known x i)),
          flush-grows same_name same_name-exact same_name-self (rebased st s) seen.world heads known,
          λ x i. let n = named-row x (rows_of (rebased st s)) (there-too st.stored (left_of same_name st.stored (pending_of st s)) x i) in
              subst (λ z. IsIn z (names_of (rows_of (flush_of st s heads)))) (sym n.2) (name-in n.0 (rows_of (flush_of st s heads)) (flush-keeps same_name same_name-exact same_name-self (rebased st s) seen.world heads known n.0 n.1)),
        )

    flushed-state : (heads : List Name) → first_some (refusals limits (base_of st s) (pending_of st s) st.stored (Flush heads)) ≡ None → IsStore (after_flush st s (flush_of st s heads))
    flushed-state heads none =
        let made = flushed-world heads none in
        changed-state (flush_of st s heads) (flush_change st.stored (flush_of st s heads)) made.0 made.1

  pub stripped-world : (names : List Name) → IsNamedWorld (stripped same_name st.stored names)
  stripped-world names = named-by (stripped same_name st.stored names) (strip-world same_name same_name-exact same_name-self st.stored stored-world.world names)
      (λ x i. name-of st.stored stored-world x (strip-names same_name same_name-exact same_name-self st.stored stored-world.world names x i))

  stripped-state : (names : List Name) → IsStore (after_flush st s (stripped same_name st.stored names))
  stripped-state names =
      changed-state (stripped same_name st.stored names) (flush_change st.stored (stripped same_name st.stored names))
      (named-by (stripped same_name st.stored names) (strip-world same_name same_name-exact same_name-self st.stored stored-world.world names)
      (λ x i. name-of st.stored stored-world x (strip-names same_name same_name-exact same_name-self st.stored stored-world.world names x i)))
      ([], sym (append-nil st.stored.master))

  module _ (r : World Name) (served : IsNamedWorld r) where
    pub master-world : IsWorld (master_alone r)
    master-world = subst (λ l. IsHistory [] l) (sym (append-nil r.master)) (history-front [] r.master r.others served.world)

    pub master-names : (x : Name) → IsIn x (names_of r.master) → IsName x
    master-names x i = name-of r served x (subst (IsIn x) (sym (map-append (λ q. q.name) r.master r.others)) (in-left x (names_of r.master) (names_of r.others) i))

    pub pulled-world : IsNamedWorld (pulled same_name st.stored r)
    pulled-world = named-by (pulled same_name st.stored r) (pull-world same_name same_name-exact same_name-self st.stored r stored-world.world (history-front [] r.master r.others served.world))
        (λ x i. ⊎_elim (λ j. name-of st.stored stored-world x j) (master-names x)
        (pull-names same_name same_name-exact same_name-self st.stored r stored-world.world (history-front [] r.master r.others served.world) x i))

    pulled-state : IsStore (after_flush st s (pulled same_name st.stored r))
    pulled-state =
        changed-state (pulled same_name st.stored r) (flush_change st.stored (pulled same_name st.stored r))
        (named-by (pulled same_name st.stored r) (pull-world same_name same_name-exact same_name-self st.stored r stored-world.world (history-front [] r.master r.others served.world))
        (λ x i. ⊎_elim (λ j. name-of st.stored stored-world x j) (master-names x)
        (pull-names same_name same_name-exact same_name-self st.stored r stored-world.world (history-front [] r.master r.others served.world) x i)))
        (_, refl)

    cloned-state : st.stored.master ≡ [] → IsStore (after_change st s (master_alone r) (clone_change r))
    cloned-state e =
        changed-state (master_alone r) (clone_change r)
        (named-by (master_alone r) master-world (λ x i. master-names x (subst (λ l. IsIn x (names_of l)) (append-nil r.master) i)))
        (r.master, ap (λ l. l ++ r.master) (sym e))

-- the first tests of a command that is answered refuse nothing
pub not-tested : (limits : Limits) (st : Stored) (s : ℕ) (verb : Verb) → (None ≡ refused_first (tests limits st s verb)) ⊎ Outer None → first_some (refusals limits (base_of st s) (pending_of st s) st.stored verb) ≡ None
not-tested limits st s verb (inl e) = (first-none-append (refusals limits (base_of st s) (pending_of st s) st.stored verb) (log_part limits st s verb) (sym (e ∙ first-tests st s limits verb))).0
not-tested limits st s verb (inr o) = absurd o

-- the mirror that answered is sound
pub front-sound : (mirrors : List Mirror) (rows : List (Row Name)) → AreSound mirrors → AnsweredFirst mirrors rows → IsNamedWorld (master_world rows)
front-sound [] r h a = absurd a
front-sound (m ∷ more) r h a = (subst (λ o. MatchOption o (Unit {0}) (IsHonest m.cloned)) a h.0).world

pub no-rows : {X : Type 0} (xs : List X) → length xs ≡ 0 → xs ≡ []
no-rows [] e = refl
no-rows (x ∷ xs) e = absurd (omega (arith, e))

not-empty : (b : Bool) (r : Refusal) → refuse_if b r ≡ None → b ≡ false
not-empty true r e = absurd (some-none r e)
not-empty false r e = refl

module _ (limits : Limits) (st : State) (s : ℕ) (h : IsStore st.store) (sound : AreSound st.outside.mirrors) where
  told-store : (verb : Verb) (reply : Reply) (now : Stored) → IsVerb verb → first_some (refusals limits (base_of st.store s) (pending_of st.store s) st.store.stored verb) ≡ None
      → IsTold st.store s verb reply now → IsStore now
  told-store (Add name parents) reply now v none t = by_test (has (view_of st.store s) name) refl t
    where
      by_test : (b : Bool) → has (view_of st.store s) name ≡ b
          → MatchBool b ((reply ≡ Old (id_in same_name (view_of st.store s) name)) × (now ≡ st.store))
          ((reply ≡ Added (id_in same_name (view_of (with_added st.store s name parents) s) name)) × (now ≡ with_added st.store s name parents))
          → IsStore now
      by_test true e g = subst IsStore (sym g.1) h
      by_test false e g = subst IsStore (sym g.1) (added-state st.store s h limits name parents v none e)
  told-store (Flush heads) reply now v none t = subst IsStore (sym t.1) (flushed-state st.store s h limits heads none)
  told-store (Strip names) reply now v none t = subst IsStore (sym t.1) (stripped-state st.store s h names)
  told-store Reload reply now v none t =
      let lost = option_map why.Lost (first_lost same_name st.store.stored (pending_of st.store s)) in
      let behind = first-none-cons (option_map why.Conflict (first_conflict same_name st.store.stored (pending_of st.store s))) (lost ∷ []) none in
      subst IsStore (sym t.1) (on_newest-state st.store s (left_of same_name st.store.stored (pending_of st.store s)) h
      (rebased-world st.store s h (map-none why.Lost (first_lost same_name st.store.stored (pending_of st.store s)) (first-none-cons lost [] behind.1).0)))
  told-store Discard reply now v none t =
      subst IsStore (sym t.1) (with_session-state st.store s (record { base = (session st.store s).base; pending = [] }) h
      (record {
        base = (h.sessions s).base;
        view = alone (base_of st.store s) (h.worlds (session st.store s).base (h.sessions s).base);
      }))
  told-store (Count e) reply now v none t = subst IsStore (sym t.3) h
  told-store (IdOf name) reply now v none t = subst IsStore (sym t.1) h
  told-store Status reply now v none t = subst IsStore (sym t.1) h
  told-store Levels reply now v none t = subst IsStore (sym t.1) h
  told-store (Query e) reply now v none t = absurd t
  told-store Clone reply now v none t = absurd t
  told-store Pull reply now v none t = absurd t
  told-store CountMirrors reply now v none t = absurd t
  told-store (Drop k) reply now v none t = absurd t

  unless-store : (rs : List (Option Refusal)) (Goes : Reply → Stored → Type 0) (reply : Reply) (now : Stored) → (Goes reply now → IsStore now) → UnlessRefused rs st.store Goes reply now → IsStore now
  unless-store rs Goes reply now f (inl g) = by_test (first_some rs) g
    where
      by_test : (o : Option Refusal) → MatchOption o (Goes reply now) (λ refusal. IsRefused st.store refusal reply now) → IsStore now
      by_test None g = f g
      by_test (Some r) g = subst IsStore (sym g.1) h
  unless-store rs Goes reply now f (inr m) = subst IsStore (sym m.1) h

  taken-store : (Does : Mirror → Mirror → Type 0) (keeps : (m asked : Mirror) → Does m asked → IsSoundMirror m → IsSoundMirror asked) (Makes : World Name → Reply → Stored → Type 0) (mirrors : List Mirror) (found : List KnownName)
      (reply : Reply) (st' : State) → AreSound mirrors → ((r : World Name) → IsNamedWorld r → Makes r reply st'.store → IsStore st'.store) → TakesFrom Does Makes st mirrors found reply st' → IsStore st'.store
  taken-store Does keeps Makes mirrors found reply st' all f (end, new, asks, out, ends) = by_end end ends (asks-sound Does keeps mirrors new end asks all)
    where
      by_end : (o : Option MirrorFault) → MatchOption o ((rows : List (Row Name)) × AnsweredFirst new rows × Makes (master_world rows) reply st'.store) (λ fault. IsRefused st.store (refusal_for fault) reply st'.store) → AreSound new → IsStore st'.store
      by_end None g k = f (master_world g.0) (front-sound new g.0 k g.1) g.2
      by_end (Some x) g k = subst IsStore (sym g.1) h

  pub clone-empty : first_some (refusals limits (base_of st.store s) (pending_of st.store s) st.store.stored Clone) ≡ None → st.store.stored.master ≡ []
  clone-empty none =
      let e = not-empty (nat_lt 0 (length (rows_of st.store.stored))) _ (first-none-cons (refuse_if (nat_lt 0 (length (rows_of st.store.stored))) (why.NotEmpty (length st.store.stored.master) (length st.store.stored.others)))
      (refuse_if (nat_lt 0 (length (pending_of st.store s))) (why.Pending (length (pending_of st.store s))) ∷ []) none).0 in
      no-rows st.store.stored.master (let l = length-append st.store.stored.master st.store.stored.others in let n = ltb-false 0 (length (rows_of st.store.stored)) e in omega (arith, l, n))

  answers-store : (verb : Verb) (mirrors : List Mirror) (found : List KnownName) (reply : Reply) (st' : State) → IsVerb verb → first_some (refusals limits (base_of st.store s) (pending_of st.store s) st.store.stored verb) ≡ None
      → AreSound mirrors → Answers limits st s verb mirrors found reply st' → IsStore st'.store
  answers-store (Add name parents) mirrors found reply st' v none all a = told-store (Add name parents) reply st'.store v none a.0
  answers-store (Flush heads) mirrors found reply st' v none all a = told-store (Flush heads) reply st'.store v none a.0
  answers-store (Strip names) mirrors found reply st' v none all a = told-store (Strip names) reply st'.store v none a.0
  answers-store Reload mirrors found reply st' v none all a = told-store Reload reply st'.store v none a.0
  answers-store Discard mirrors found reply st' v none all a = told-store Discard reply st'.store v none a.0
  answers-store (Count e) mirrors found reply st' v none all a = told-store (Count e) reply st'.store v none a.0
  answers-store (IdOf name) mirrors found reply st' v none all a = told-store (IdOf name) reply st'.store v none a.0
  answers-store Status mirrors found reply st' v none all a = told-store Status reply st'.store v none a.0
  answers-store Levels mirrors found reply st' v none all a = told-store Levels reply st'.store v none a.0
  answers-store (Query e) mirrors found reply st' v none all a = by_test a.2 a.7
    where
      by_test : (o : Option Refusal) → MatchOption o ((reply ≡ Listed a.0) × (st'.store ≡ st.store)) (λ refusal. IsRefused st.store refusal reply st'.store) → IsStore st'.store
      by_test None g = subst IsStore (sym g.1) h
      by_test (Some r) g = subst IsStore (sym g.1) h
  answers-store Clone mirrors found reply st' v none all a =
      taken-store IsCloned (λ m n d. d.keeps.sound) (Clones limits st.store s) mirrors found reply st' all
      (λ r whole. unless-store (clone_tests limits st.store r) (λ told now. (told ≡ Cloned (length r.master)) × (now ≡ after_change st.store s (master_alone r) (clone_change r))) reply st'.store
      (λ g. subst IsStore (sym g.1) (cloned-state st.store s h r whole (clone-empty none)))) a
  answers-store Pull mirrors found reply st' v none all a =
      taken-store (IsPulled (cloned_count st.store.payloads)) (λ m n d. d.keeps.sound) (Pulls limits st.store s) mirrors found reply st' all
      (λ r whole. unless-store (pull_tests limits st.store r)
      (λ told now. (told ≡ Pulled (length (pulled same_name st.store.stored r).master) (length (pulled same_name st.store.stored r).others)) × (now ≡ after_flush st.store s (pulled same_name st.store.stored r))) reply st'.store
      (λ g. subst IsStore (sym g.1) (pulled-state st.store s h r whole))) a
  answers-store CountMirrors mirrors found reply st' v none all a = subst IsStore (sym (ap (λ (z : State). z.store) a.1)) h
  answers-store (Drop k) mirrors found reply st' v none all a = by_test (nat_lt k (length mirrors)) a
    where
      by_test : (b : Bool) → MatchBool b ((reply ≡ Dropped (length (without k mirrors))) × (st' ≡ record st { outside = record st.outside { mirrors = without k mirrors } })) ((reply ≡ Refused why.NoRemote) × (st' ≡ st))
          → IsStore st'.store
      by_test true g = subst IsStore (sym (ap (λ (z : State). z.store) g.1)) h
      by_test false g = subst IsStore (sym (ap (λ (z : State). z.store) g.1)) h

  pub step-store : (verb : Verb) (reply : Reply) (st' : State) → IsVerb verb → CommandStep limits st s verb reply st' → IsStore st'.store
  step-store verb reply st' v (verdict, mirrors, found, tries, ends) =
      by_test verdict (tried-all (MayWantMemory verb) st.outside.mirrors mirrors (tests limits st.store s verb) verdict found tries) ends
    where
      by_test : (o : Option Refusal) → (o ≡ refused_first (tests limits st.store s verb)) ⊎ Outer o
          → MatchOption o (Answers limits st s verb mirrors found reply st') (λ refusal. IsRefused st.store refusal reply st'.store × GoesOutside st.outside mirrors found st'.outside) → IsStore st'.store
      by_test None t a =
          answers-store verb mirrors found reply st' v (not-tested limits st.store s verb t) (tries-sound (MayWantMemory verb) st.outside.mirrors mirrors (tests limits st.store s verb) verdict found tries sound) a
      by_test (Some r) t a = subst IsStore (sym a.0.1) h
