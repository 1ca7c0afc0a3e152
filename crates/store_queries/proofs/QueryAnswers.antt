-- The members of an expression in a session's view.
use Rattle.std.proofs.Common.{◌≡◌, ◌≤◌, ◌^◌, ℕ, List, ◌++◌, length, map, Result, Ok, Err, inl, inr, sym, subst, ⊎_elim, arith, lit≤, zero-le, le_refl, length-append}
use Rattle.std.specs.Prelude.{◌↔◌, IsErrAnd}
use Rattle.std.specs.List.{AllByRecursion}
use Rattle.std.proofs.lemmas.List.{take_all}
use Rattle.id_groups.specs.Lists.{IsIn, AreAllIn}
use Rattle.id_groups.specs.Name.{Name, same_name}
use Rattle.id_groups.specs.declared.span.IdSpan.{IdSpan}
use Rattle.commit_graph.specs.World.{Row, World, names_of, rows_of, with_pending}
use Rattle.commit_graph.specs.Ids.{id_in}
use Rattle.commit_graph.specs.Graph.{graph_of}
use Rattle.commit_graph.proofs.Naming.{each}
use Rattle.segment_codec.specs.Record.{Segment}
use Rattle.segment_codec.specs.Table.{Cover, IsHeld, IsLawful}
use Rattle.span_set.specs.Members.{IsMember, IsCanonical, ids_of}
use Rattle.ancestor_query.specs.Graph.{table_graph}
use Rattle.set_expr.specs.Expr.{Expr, commits_in}
use Rattle.set_expr.specs.Ids.{with_ids}
use Rattle.set_expr.specs.Meaning as means
use Rattle.set_expr.specs.Meaning.{IsAnswer}
use Rattle.set_query.specs.declared.evaluation.Answer.{Answer}
use Rattle.set_query.proofs.Ids.{cover-held}
use Rattle.batch_codec.specs.Payload.{Payload}
use Rattle.remote_rules.specs.Mirror.{Mirror}
use Rattle.lazy_names.specs.Cache.{PlainCache}
use Rattle.step_rules.specs.declared.Refusal.{Refusal}
use Rattle.step_rules.specs.declared.Refusal.TheVariants as why
use Rattle.name_map.specs.Added.{Placed}
use Rattle.payload_tables.specs.declared.base.BaseRef.{BaseRef}
use Rattle.payload_tables.specs.Bases.{AreSegmentsOf}
use Rattle.payload_tables.specs.Pending.{PlainPending}
use Rattle.payload_tables.proofs.Basing.{base-others}
use Rattle.store_plans.specs.Looking.{IsViewId, Sees, FindsAll}
use Rattle.store_queries.specs.Querying.{Evaluates}
use Rattle.store_plans.proofs.Lines.{finds-memory}
use Rattle.store_queries.proofs.QueryGraph.{answered}

module _ (base : BaseRef) (pending : PlainPending) (added : List Placed) (w : World Name) (rows : List (Row Name)) (s : Sees base pending added w rows) where
  pub few-masters : length w.master ≤ 2 ^ 32
  few-masters =
      let facts = base-others base.bytes.now base.tables.now base.others.now base.below added s.base_of in
      let small = facts.small in let below = s.base_of.count in let count = s.stand.count in
      omega (arith, small, below, count)

  module _ (flats : List Segment) (segments : AreSegmentsOf (with_pending w rows) flats) where
    covers : Cover flats (length w.master) (length (w.others ++ rows))
    covers = record { front = segments.masters; back = segments.others; parts = segments.parts; master_ids = segments.master_ids; other_ids = segments.other_ids; room = (let few = few-masters in let l : 2 ^ 32 ≤ 2 ^ 56 = lit≤ tt in omega (arith, few, l)) }

    -- the ids of the view are those of the table
    pub view-held : (x : ℕ) → IsViewId w rows x → IsHeld flats x
    view-held x v = (cover-held flats (length w.master) (length (w.others ++ rows)) covers x).1
        (⊎_elim (λ lt. inl (zero-le, omega (arith, lt))) (λ h. inr (h.0, (let lt = h.1 in let n = length-append w.others rows in omega (arith, lt, n)))) v)

    pub held-view : (x : ℕ) → IsHeld flats x → IsViewId w rows x
    held-view x h = ⊎_elim (λ m. inl (let lt = m.1 in omega (arith, lt))) (λ o. inr (o.0, (let lt = o.1 in let n = length-append w.others rows in omega (arith, lt, n))))
        ((cover-held flats (length w.master) (length (w.others ++ rows)) covers x).0 h)

    pub found-held : (ids : List ℕ) → AllByRecursion (IsViewId w rows) ids → (x : ℕ) → IsIn x ids → IsHeld flats x
    found-held ids all x i = view-held x (each (IsViewId w rows) ids all x i)

    pub evaluated : IsLawful flats → (e : Expr Name) → AreAllIn (commits_in e) (names_of (rows_of (with_pending w rows)))
        → (ids : List ℕ) → ids ≡ map (id_in same_name (with_pending w rows)) (commits_in e) → (set : List IdSpan) → IsCanonical set
        → ((x : ℕ) → IsMember set x ↔ means.IsMember (table_graph flats) (with_ids e ids) x)
        → (names : List Name) × IsAnswer (graph_of same_name (with_pending w rows)) e names × (ids_of set ≡ map (id_in same_name (with_pending w rows)) names) × AreAllIn names (names_of (rows_of (with_pending w rows)))
    evaluated lawful e all ids are set canonical members =
        answered (with_pending w rows) s.view.world few-masters flats segments lawful e all ids are set canonical members

-- a refusal of the names is one of the whole
pub err-evaluates : (payloads : List Payload) (w : World Name) (rows : List (Row Name)) (e : Expr Name) (old new : List Mirror) (a b : PlainCache) (r : Result Answer Refusal) (refusal : Refusal)
    → IsErrAnd r (λ g. g ≡ refusal) → FindsAll payloads w rows (commits_in e) old new a b (Err refusal) → Evaluates payloads w rows e old new a b r
err-evaluates payloads w rows e old new a b (Ok v) refusal h f = absurd h
err-evaluates payloads w rows e old new a b (Err g) refusal h f = subst (λ z. Evaluates payloads w rows e old new a b (Err z)) (sym h) (record { tried = f.tried; view = tt; descending = tt; right = λ s. tt })

-- no memory for the answer
pub unanswered : (payloads : List Payload) (w : World Name) (rows : List (Row Name)) (e : Expr Name) (old new : List Mirror) (a b : PlainCache) (ids : List ℕ) → FindsAll payloads w rows (commits_in e) old new a b (Ok ids)
    → Evaluates payloads w rows e old new a b (Err why.Memory)
unanswered payloads w rows e old new a b ids f =
    let g = finds-memory payloads w rows (commits_in e) (length (commits_in e)) old new a b ids
    (subst (λ (l : List Name). FindsAll payloads w rows l old new a b (Ok ids)) (sym (take_all (length (commits_in e)) (commits_in e) (le_refl _))) f) in
    record { tried = g.tried; view = tt; descending = tt; right = λ s. tt }
