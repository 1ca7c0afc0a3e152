-- The world that a strip makes.
use Rattle.std.proofs.Common.{◌≡◌, ◌≤◌, not, ℕ, Bool, inl, List, [], ◌∷◌, ◌++◌, length, filter, map, nat_lt, Some, None, refl, sym, ap₂, append-nil, arith, le_trans}
use Rattle.std.specs.List.{list_any}
use Rattle.std.proofs.lemmas.Bool.{ltb-true}
use Rattle.std.proofs.lemmas.List.Sums.{count_by-le-length, length-filter}
use Rattle.id_groups.specs.Name.{Name, same_name}
use Rattle.commit_graph.specs.World.{Row, rows_of}
use Rattle.commit_graph.specs.Graph.{graph_of}
use Rattle.commit_graph.specs.Search.{reaches_in}
use Rattle.name_map.specs.Added.{Placed}
use Rattle.change_rules.specs.declared.Limits.{Limits}
use Rattle.change_rules.specs.Change.{flush_change}
use Rattle.change_rules.specs.Holding.{HoldPayloads}
use Rattle.change_rules.proofs.Held.{change-held}
use Rattle.step_rules.specs.declared.Refusal.TheVariants as why
use Rattle.step_rules.specs.State.{State}
use Rattle.step_rules.specs.Verb.{Strip}
use Rattle.step_rules.specs.Reply.{Reply, Stripped}
use Rattle.step_rules.specs.Tests.{has_pending, not_strippable, refuse_if, refused_first, tests}
use Rattle.step_rules.proofs.Steps.{first-none-append, first-none-cons, not-refused, not-tested, stripped-world}
use Rattle.step_rules.proofs.Held.{held-sizes}
use Rattle.store_plans.specs.Sessions.{PlainSession}
use Rattle.store_plans.specs.Changes.{IsOn, strip_of}
use Rattle.dag_store.proofs.ChangeSteps.{MakesWorld}

-- a filter leaves no more
le-filter : {X : Type 0} (f : X → Bool) (xs : List X) → length (filter f xs) ≤ length xs
le-filter f xs = let n = length-filter f xs in let m = count_by-le-length f xs in omega (arith, n, m)

-- a strip makes the world without the names and what descends from them
pub strip-makes : (limits : Limits) (began : ℕ) (added : List Placed) (x : PlainSession) (st : State) (s : ℕ) → IsOn began added x st.store s → (names : List Name) → (names ≡ [] → ⊥)
    → MakesWorld limits st s (Strip names) Stripped (strip_of st.store names)
strip-makes limits began added x st s o names some = record {
  is_verb = some;
  refuses = λ left found refusal next t e g. (Some refusal, left, found, t, ((refl, e), g));
  makes = λ left found m n next t em en e g. (None, left, found, t, ((ap₂ {C = Reply} (λ a b. Stripped a b) em en, e), g));
  named = λ passed. stripped-world st.store s o.state names;
  grows = λ passed. ([], sym (append-nil st.store.stored.master));
  holds = λ passed changes. by_tests passed;
}
  where
    by_tests : refused_first (tests limits st.store s (Strip names)) ≡ None → HoldPayloads (st.store.payloads ++ flush_change st.store.stored (strip_of st.store names) ∷ []) (strip_of st.store names)
    by_tests passed =
        let w = st.store.stored in
        let new = strip_of st.store names in
        let empty = refuse_if (not (nat_lt 0 (length (rows_of new)))) (why.Emptied (length (rows_of w))) in
        let none = not-tested limits st.store s (Strip names) (inl (sym passed)) in
        let first = first-none-cons (has_pending st.store s) (map (not_strippable w) names ++ empty ∷ []) none in
        let last = first-none-cons empty [] (first-none-append (map (not_strippable w) names) (empty ∷ []) first.1).1 in
        let sizes = held-sizes st.store.payloads w o.hold in
        let fewer = le-filter (λ (row : Row Name). not (list_any (λ name. reaches_in same_name (graph_of same_name w) (length (rows_of w)) row.name name) names)) w.others in
        change-held st.store.payloads w new o.hold (stripped-world st.store s o.state names) ([], sym (append-nil w.master)) sizes.0 (le_trans fewer sizes.1)
        (ltb-true 0 (length (rows_of new)) (not-refused (nat_lt 0 (length (rows_of new))) (why.Emptied (length (rows_of w))) last.0))
