-- A log without payloads stores nothing.
use Rattle.std.proofs.Common.{◌≡◌, ◌<◌, ◌≤◌, ◌^◌, ◌⊎◌, inr, ⊎_elim, ℕ, false, List, [], ◌∷◌, ◌++◌, length, replicate, Option, Some, None, is_some, sym, ap, subst, ◌∙◌, true≢false, zero-le}
use Rattle.std.specs.List.{AllByRecursion, AllZip}
use Rattle.std.proofs.lemmas.List.{map-append, length-map}
use Rattle.id_groups.specs.Lists.{IsIn, AreDistinct}
use Rattle.id_groups.specs.Name.{Name}
use Rattle.change_rules.proofs.Lawful.{distinct-join}
use Rattle.payload_tables.specs.declared.base.BaseRef.{BaseRef}
use Rattle.payload_tables.specs.Kept.{PlainTables, AreTablesOf}
use Rattle.payload_tables.specs.Pending.{HeldRow, PlainPending, HoldsRows, FindsRow, row_names}
use Rattle.payload_tables.specs.Bases.{IsBaseOf}
use Rattle.payload_tables.proofs.Lists.{all-append}
use Rattle.change_parts.specs.Asked.{IsFoundIn, MayStore, HaveParents}
use Rattle.flush_plan.specs.Flushing.{MayPlan}
use Rattle.rebase_pending.specs.Rebases.{MayRebaseOn}

pub none-found : (names : List Name) (found : List (Option ℕ)) → found ≡ replicate (length names) None → AllZip (IsFoundIn []) names found
none-found names found e = subst (AllZip (IsFoundIn []) names) (sym e) (none names)
  where
    none : (names : List Name) → AllZip (IsFoundIn []) names (replicate (length names) None)
    none [] = tt
    none (x ∷ names) = (λ i. i, none names)

-- other ids are parents over any master
others-only : (ids : List ℕ) → AllByRecursion (λ p. 2 ^ 56 ≤ p) ids → AllByRecursion (λ p. (p < 0) ⊎ (2 ^ 56 ≤ p)) ids
others-only [] h = tt
others-only (x ∷ ids) h = (inr h.0, others-only ids h.1)

-- no rows
pub no-rows : (pending : PlainPending) → HoldsRows pending [] → pending.first ≡ 0 → MayStore pending []
no-rows pending held first = record { rows = []; held = held; first = first; parents = tt; distinct = tt; fresh = λ x i s. s }

-- a name that no row has
pub no-row : (rows : List HeldRow) (name : Name) (o : Option ℕ) → FindsRow rows name o → is_some o ≡ false → IsIn name (row_names rows) → ⊥
no-row rows name None h e = h
no-row rows name (Some k) h e = absurd (true≢false e)

-- one more row, whose name is new and whose parents are others
pub one-more : (old new : PlainPending) (name : Name) (ids : List ℕ) (m : MayStore old []) → new.first ≡ old.first → HoldsRows new (m.rows ++ record { name = name; parents = ids } ∷ [])
    → (IsIn name (row_names m.rows) → ⊥) → AllByRecursion (λ p. 2 ^ 56 ≤ p) ids → MayStore new []
one-more old new name ids m first held out others =
    let row : HeldRow = record { name = name; parents = ids } in
    record {
      rows = m.rows ++ row ∷ [];
      held = held;
      first = first ∙ m.first;
      parents = all-append (λ (q : HeldRow). AllByRecursion (λ p. (p < 0) ⊎ (2 ^ 56 ≤ p)) q.parents) m.rows (row ∷ []) m.parents (others-only ids others, tt);
      distinct = subst AreDistinct (sym (map-append (λ (q : HeldRow). q.name) m.rows (row ∷ [])))
          (distinct-join (row_names m.rows) (name ∷ []) m.distinct ((λ i. i), tt) (λ x i j. ⊎_elim (λ e. out (subst (λ z. IsIn z (row_names m.rows)) e i)) (λ k. k) j));
      fresh = λ x i s. s;
    }

-- tables of no payloads, and what is flushed over them
pub may-plan : (tables : PlainTables) (bytes : List ℕ) (pending : PlainPending) (heads : List Name) (found : List (Option ℕ))
    → AreTablesOf tables [] → MayStore pending [] → found ≡ replicate (length heads) None → MayPlan tables bytes pending heads found []
may-plan tables bytes pending heads found t m e = record { tables_of = t; stand = tt; pending_rows = m; found_are = none-found heads found e }

-- and what is rebased onto them
pub may-rebase : (tables : PlainTables) (bytes : List ℕ) (base : BaseRef) (pending : PlainPending) (found : List (Option ℕ))
    → AreTablesOf tables [] → IsBaseOf base [] → (m : MayStore pending []) → found ≡ replicate (length m.rows) None → MayRebaseOn tables bytes base pending found [] []
may-rebase tables bytes base pending found t b m e = record {
  tables_of = t;
  stand = tt;
  base_of = b;
  grows = subst (λ n. n ≤ 0) (sym b.count) zero-le;
  rows = m.rows;
  held = m.held;
  first = m.first;
  parents = subst (λ n. HaveParents n m.rows) (sym b.count) m.parents;
  distinct = m.distinct;
  found_are = none-found (row_names m.rows) found (e ∙ ap (λ n. replicate n None) (sym (length-map m.rows (λ (q : HeldRow). q.name))));
}
