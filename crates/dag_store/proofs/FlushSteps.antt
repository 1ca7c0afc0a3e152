-- The world that a flush makes, and the steps of a flush and a reload.
use Rattle.std.proofs.Common.{◌≡◌, ◌<◌, ⊎_elim, ℕ, false, not, List, [], ◌∷◌, ◌++◌, length, map, set, Option, Some, None, Ok, Err, refl, sym, ap, ap₂, subst, ◌∙◌, arith}
use Rattle.std.specs.List.{AllByRecursion}
use Rattle.std.proofs.lemmas.List.{map-append}
use Rattle.id_groups.specs.Lists.{IsIn, is_in, AreAllIn}
use Rattle.id_groups.specs.Name.{Name, IsName, same_name}
use Rattle.id_groups.proofs.Names.{same_name-exact, same_name-self}
use Rattle.id_groups.proofs.Listing.{there}
use Rattle.commit_graph.specs.World.{Row, World, IsWorld, IsNamedWorld, GrowsMaster, names_of, rows_of, with_pending}
use Rattle.commit_graph.proofs.Naming.{named-by, name-of, pending-names, pending-there}
use Rattle.name_map.specs.Added.{Placed}
use Rattle.change_rules.specs.declared.Limits.{Limits}
use Rattle.change_rules.specs.declared.Limit.TheVariants as limit
use Rattle.change_rules.specs.Standard.{AreLimits}
use Rattle.change_rules.specs.Change.{flush_change}
use Rattle.change_rules.specs.Holding.{HoldPayloads}
use Rattle.change_rules.specs.Rebase.{left_of}
use Rattle.change_rules.proofs.Flushes.{filtered-names}
use Rattle.change_rules.proofs.Held.{change-held}
use Rattle.remote_rules.specs.Mirror.{Mirror}
use Rattle.lazy_names.specs.Cache.{PlainCache}
use Rattle.payload_tables.specs.Kept.{PlainTables}
use Rattle.payload_tables.specs.Pending.{HeldRow, HoldsRows}
use Rattle.step_rules.specs.declared.Refusal.{Refusal}
use Rattle.step_rules.specs.declared.Refusal.TheVariants as why
use Rattle.step_rules.specs.State.{State, Stored, base_of, pending_of, on_newest}
use Rattle.step_rules.specs.Verb.{Flush, Reload}
use Rattle.step_rules.specs.Reply.{Reply, Refused, Reloaded, Flushed}
use Rattle.step_rules.specs.Worlds.{flush_of, same_world}
use Rattle.step_rules.specs.Tests.{Test, first_some, refused_first, refuse_if, tests, unknown, full, rebase_tests, pending_test, looked_up}
use Rattle.step_rules.specs.Asking.{TriesAll}
use Rattle.step_rules.proofs.Own.{refusals}
use Rattle.step_rules.proofs.Steps.{flushed-world, some-none, first-none-cons, first-none-append}
use Rattle.step_rules.proofs.Held.{within-limit, has-some}
use Rattle.store_plans.specs.Sessions.{PlainSession, IsSessionOf}
use Rattle.dag_store.specs.Kept.{PlainStore, IsKept, session_at, sixteen}
use Rattle.dag_store.specs.Stands.{StandsBeside}
use Rattle.store_plans.specs.Looking.{AreRight, IsSoundCache, Tried}
use Rattle.dag_store.specs.Steps.{Leads}
use Rattle.store_plans.specs.Changes.{IsOn, Reloads}
use Rattle.store_plans.proofs.Counts.{pending-many}
use Rattle.store_plans.proofs.Lines.{all-there}
use Rattle.dag_store.proofs.ChangeSteps.{MakesWorld}
use Rattle.dag_store.proofs.Leading.{leads-to, next-goes}
use Rattle.store_plans.proofs.FlushTests.{heads-are, sizes}
use Rattle.dag_store.proofs.FlushStored.{on-of, newest-stands}
use Rattle.store_plans.proofs.RebaseTests.{conflict, lost}

-- ---- the new world

first-skip : {X : Type 0} (o : Option X) (ys : List (Option X)) → o ≡ None → first_some (o ∷ ys) ≡ first_some ys
first-skip None ys e = refl
first-skip (Some x) ys e = absurd (some-none x e)

first-behind : {X : Type 0} (xs ys : List (Option X)) → first_some xs ≡ None → first_some (xs ++ ys) ≡ first_some ys
first-behind [] ys e = refl
first-behind (None ∷ xs) ys e = first-behind xs ys e
first-behind (Some z ∷ xs) ys e = absurd (some-none z e)

abbrev refusal_in_test : Test → Option Refusal
refusal_in_test t = t.refusal

module _ (limits : Limits) (fair : AreLimits limits) (began s : ℕ) (added : List Placed) (x : PlainSession) (st : Stored) (o : IsOn began added x st s) (heads : List Name)
    (passed : refused_first (tests limits st s (Flush heads)) ≡ None) where
  abbrev pub new : World Name
  new = flush_of st s heads

  abbrev lookups : List Test
  lookups = map (looked_up st s st.stored (unknown (with_pending st.stored (pending_of st s)))) heads

  abbrev rows_tests : List Test
  rows_tests = map (pending_test st s) (pending_of st s)

  both : (first_some (map refusal_in_test (lookups ++ rebase_tests st s)) ≡ None) × (first_some (sizes limits st new) ≡ None)
  both = first-none-append (map refusal_in_test (lookups ++ rebase_tests st s)) (sizes limits st new) (sym (ap first_some (map-append refusal_in_test (lookups ++ rebase_tests st s) _)) ∙ passed)

  parts : (first_some (map refusal_in_test lookups) ≡ None) × (first_some (map refusal_in_test (rebase_tests st s)) ≡ None)
  parts = first-none-append (map refusal_in_test lookups) (map refusal_in_test (rebase_tests st s)) (sym (ap first_some (map-append refusal_in_test lookups (rebase_tests st s))) ∙ both.0)

  both-none : (conflict began s added x st o ≡ None) × (lost began s added x st o ≡ None)
  both-none =
      let c = conflict began s added x st o in
      let l = lost began s added x st o in
      let r = first-none-append (map refusal_in_test rows_tests) (c ∷ l ∷ []) (sym (ap first_some (map-append refusal_in_test rows_tests _)) ∙ parts.1) in
      let f = first-none-cons c (l ∷ []) r.1 in
      (f.0, (first-none-cons l [] f.1).0)

  sizes-none : (full limit.Others limits.others (length new.others) ≡ None) × (full limit.Master limits.master (length new.master) ≡ None)
  sizes-none =
      let a = first-none-cons (full limit.Others limits.others (length new.others)) _ both.1 in
      (a.0, (first-none-cons (full limit.Master limits.master (length new.master)) _ a.1).0)

  heads-there : AreAllIn heads (names_of (rows_of (with_pending st.stored (pending_of st s))))
  heads-there = all-there st.payloads st.stored (pending_of st s) heads (ap (λ l. first_some (map refusal_in_test l)) (heads-are limits st s heads heads) ∙ parts.0)

  heads-unknown : (names : List Name) → AreAllIn names (names_of (rows_of (with_pending st.stored (pending_of st s)))) → first_some (map (unknown (with_pending st.stored (pending_of st s))) names) ≡ None
  heads-unknown [] i = refl
  heads-unknown (n ∷ names) i =
      first-skip (unknown (with_pending st.stored (pending_of st s)) n) _
      (ap (λ b. refuse_if (not b) (why.Unknown n)) (there same_name same_name-exact same_name-self n (names_of (rows_of (with_pending st.stored (pending_of st s)))) i.0))
      ∙ heads-unknown names i.1

  plain-none : first_some (refusals limits (base_of st s) (pending_of st s) st.stored (Flush heads)) ≡ None
  plain-none =
      first-behind (map (unknown (with_pending st.stored (pending_of st s))) heads) _ (heads-unknown heads heads-there)
      ∙ first-skip (conflict began s added x st o) _ both-none.0 ∙ first-skip (lost began s added x st o) _ both-none.1
      ∙ first-skip (full limit.Others limits.others (length new.others)) _ sizes-none.0 ∙ first-skip (full limit.Master limits.master (length new.master)) [] sizes-none.1

  facts : IsNamedWorld new × GrowsMaster st.stored new × ((y : Name) → IsIn y (names_of (rows_of st.stored)) → IsIn y (names_of (rows_of new)))
  facts = flushed-world st s o.state limits heads plain-none

  pub new-named : IsNamedWorld new
  new-named = facts.0

  pub new-grows : GrowsMaster st.stored new
  new-grows = facts.1

  pub new-holds : same_world new st.stored ≡ false → HoldPayloads (st.payloads ++ flush_change st.stored new ∷ []) new
  new-holds e =
      let m = within-limit limit.Master limits.master (length new.master) sizes-none.1 in
      let n = within-limit limit.Others limits.others (length new.others) sizes-none.0 in
      let a = fair.master.1 in let b = fair.others.1 in
      change-held st.payloads st.stored new o.hold new-named new-grows (omega (arith, m, a)) (omega (arith, n, b)) (has-some new st.stored facts.2 e)

-- ---- the step

-- a flush makes the world of its heads
pub flush-makes : (limits : Limits) (fair : AreLimits limits) (began : ℕ) (added : List Placed) (x : PlainSession) (st : State) (s : ℕ) (o : IsOn began added x st.store s) (heads : List Name) → AllByRecursion IsName heads
    → MakesWorld limits st s (Flush heads) Flushed (flush_of st.store s heads)
flush-makes limits fair began added x st s o heads named = record {
  is_verb = named;
  refuses = λ left found refusal next t e g. (Some refusal, left, found, t, ((refl, e), g));
  makes = λ left found m n next t em en e g. (None, left, found, t, ((ap₂ {C = Reply} (λ a b. Flushed a b) em en, e), g));
  named = new-named limits fair began s added x st.store o heads;
  grows = new-grows limits fair began s added x st.store o heads;
  holds = new-holds limits fair began s added x st.store o heads;
}

-- ---- a reload

module _ (began : ℕ) (kept : PlainStore) (tables : PlainTables) (k : IsKept kept.log tables kept.sessions kept.limits) (st : State) (old left : List Mirror) (b : PlainCache) (h : StandsBeside began kept old st)
    (s : ℕ) (small : s < sixteen) (right : AreRight st.store.payloads st.store.stored old) (sound : IsSoundCache b) where
  on : IsOn began k.added (session_at kept.sessions s) st.store s
  on = on-of kept.log tables kept.sessions kept.limits k began st.store h.stored s small

  tries : (verdict : Option Refusal) (t : Tried st.store.payloads st.store.stored (tests kept.limits st.store s Reload) old left kept.cache b verdict)
      → TriesAll (Unit {0}) st.outside.mirrors (tests kept.limits st.store s Reload) verdict left t.gained
  tries verdict t = subst (λ m. TriesAll (Unit {0}) m (tests kept.limits st.store s Reload) verdict left t.gained) (sym h.outside_of.mirrors_are) (t.serving right)

  abbrev left_rows : List (Row Name)
  left_rows = left_of same_name st.store.stored (pending_of st.store s)

  rebased-named : IsWorld (with_pending st.store.stored left_rows) → IsNamedWorld (with_pending st.store.stored left_rows)
  rebased-named world = named-by (with_pending st.store.stored left_rows) world
      (λ y i. ⊎_elim (λ j. name-of st.store.stored on.hold.world y j)
      (λ j. name-of (with_pending (base_of st.store s) (pending_of st.store s)) (on.state.sessions s).view y
      (pending-there (base_of st.store s) (pending_of st.store s) y (filtered-names (λ row. not (is_in same_name row.name (names_of (rows_of st.store.stored)))) y (pending_of st.store s) j)))
      (pending-names st.store.stored left_rows y i))

  pub reload-done : (x : PlainSession) (n : ℕ) → IsSessionOf k.added x × (x.payloads ≡ length k.added) → ((rows : List HeldRow) → HoldsRows x.pending rows → n ≡ length rows) → Reloads kept.limits st.store s old left kept.cache b (Ok x)
      → Leads began kept.limits st s Reload (Reloaded n) (record { log = kept.log; sessions = set kept.sessions s x; limits = kept.limits; cache = b }) left
  reload-done x n of len r =
      let p = r.right right in
      leads-to kept.limits began kept st s Reload old left b h sound tt (Reloaded n) r.tried.gained (on_newest st.store s left_rows) (record { log = kept.log; sessions = set kept.sessions s x; limits = kept.limits; cache = b }) refl
      (newest-stands kept.log tables kept.sessions kept.limits k s small x began st.store h.stored of.1 left_rows p (rebased-named p.view)) r.tried.keeps
      (None, left, r.tried.gained, tries None r.tried, ((ap Reloaded (pending-many st.store.stored x.pending left_rows n p len), refl), next-goes kept.cache b old left st h.outside_of sound r.tried.gained r.tried.keeps))

  pub reload-refused : (refusal : Refusal) → Reloads kept.limits st.store s old left kept.cache b (Err refusal)
      → Leads began kept.limits st s Reload (Refused refusal) (record { log = kept.log; sessions = kept.sessions; limits = kept.limits; cache = b }) left
  reload-refused refusal r =
      leads-to kept.limits began kept st s Reload old left b h sound tt (Refused refusal) r.tried.gained st.store (record { log = kept.log; sessions = kept.sessions; limits = kept.limits; cache = b }) refl h.stored r.tried.keeps
      (Some refusal, left, r.tried.gained, tries (Some refusal) r.tried, ((refl, refl), next-goes kept.cache b old left st h.outside_of sound r.tried.gained r.tried.keeps))
