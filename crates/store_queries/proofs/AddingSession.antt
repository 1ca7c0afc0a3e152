-- How an add ends for a session.
use Rattle.std.proofs.Common.{◌≡◌, ◌≤◌, ◌+◌, ℕ, inl, List, [], ◌∷◌, ◌++◌, length, map, Option, Some, Result, Ok, Err, None, refl, sym, ap, ap₂, subst, ◌∙◌, ⊎_elim, arith, if◌then◌else◌}
use Rattle.std.specs.Prelude.{OnErr, IsErrAnd}
use Rattle.std.proofs.Common.{Vec, Global}
use Rattle.std.proofs.lemmas.List.{length-map, map-append}
use Rattle.std.proofs.lemmas.Bool.{le-ltb, lt-ltb}
use Rattle.id_groups.specs.Lists.{AreAllIn}
use Rattle.id_groups.specs.Name.{Name, IsName}
use Rattle.id_groups.specs.Id.{other_id}
use Rattle.commit_graph.specs.World.{Row, World, names_of, rows_of, with_pending}
use Rattle.commit_graph.proofs.Down.{in-right}
use Rattle.commit_graph.proofs.Naming.{each}
use Rattle.batch_codec.specs.Payload.{Payload}
use Rattle.name_map.specs.Added.{Placed, payloads_of}
use Rattle.change_rules.specs.declared.Limit.TheVariants as limit
use Rattle.remote_rules.specs.Mirror.{Mirror}
use Rattle.lazy_names.specs.Cache.{PlainCache}
use Rattle.payload_tables.specs.Pending.{HeldRow, PlainPending}
use Rattle.payload_tables.specs.Bases.{held_row}
use Rattle.step_rules.specs.declared.Refusal.{Refusal}
use Rattle.step_rules.specs.declared.Refusal.TheVariants as why
use Rattle.step_rules.specs.Worlds.{has}
use Rattle.step_rules.specs.Tests.{Test, first_some, plain, differs, full, refuse_if, twice}
use Rattle.step_rules.proofs.Steps.{first-none-append, first-none-cons}
use Rattle.step_rules.proofs.Trying.{tried-all}
use Rattle.store_queries.specs.declared.adding.Sought.{Sought}
use Rattle.store_queries.specs.declared.adding.Sought.TheVariants as sought
use Rattle.store_queries.specs.declared.adding.Added.{Added}
use Rattle.store_queries.specs.declared.adding.Added.TheVariants.{New, Old}
use Rattle.change_rules.specs.Lawful.{AreLawful}
use Rattle.store_plans.specs.Sessions.{PlainSession, IsSessionOf, base_added}
use Rattle.store_plans.specs.Looking.{AreRight, test_in, seen_tests, IsSeen}
use Rattle.store_queries.specs.Adding.{AddsRow, Appends, IsNewAmong, MayBeSought, PutsSought, Seeks, add_tests, room_test}
use Rattle.store_queries.proofs.AddingRows.{next-id, next-pending}
use Rattle.store_queries.proofs.AddingWorlds.{kept-more, may-be-parents, not-own, seen-small}
use Rattle.store_plans.proofs.Lines.{all-there}
use Rattle.store_plans.proofs.Trials.{tried-last, tried-memory, tried-stop, tried-then}

pub on-err-map : {X F : Type 0} {P Q : Type 0} (r : Result X F) → (P → Q) → OnErr r P → OnErr r Q
on-err-map (Ok v) f h = tt
on-err-map (Err e) f h = f h

pub err-adds : (most : ℕ) (x : PlainSession) (payloads : List Payload) (w : World Name) (rows : List (Row Name)) (name : Name) (parents : List Name) (old new : List Mirror) (a b : PlainCache) (next : PlainSession) (r : Result Added Refusal) (f : Refusal)
    → IsErrAnd r (λ g. g ≡ f) → AddsRow most x payloads w rows name parents old new a b (Err f) next → AddsRow most x payloads w rows name parents old new a b r next
err-adds most x payloads w rows name parents old new a b next (Ok v) f h q = absurd h
err-adds most x payloads w rows name parents old new a b next (Err g) f h q = subst (λ z. AddsRow most x payloads w rows name parents old new a b (Err z) next) (sym h) q

same-pending : (result : Result Added Refusal) (next x : PlainSession) → OnErr result (next ≡ x) → OnErr result (next.pending ≡ x.pending)
same-pending (Ok v) next x h = tt
same-pending (Err f) next x h = ap (λ (z : PlainSession). z.pending) h

module _ (added : List Placed) (x : PlainSession) (w : World Name) (rows : List (Row Name)) (s : IsSeen added x w rows) (name : Name) (parents : List Name) (few : length parents ≤ 8) (most : ℕ) (old new : List Mirror) (a b : PlainCache) where
  abbrev payloads : List Payload
  payloads = payloads_of (base_added added x)

  abbrev room : Option Refusal
  room = if has (with_pending w rows) name then None else full limit.Pending most (length rows + 1)

  full-not : length rows + 1 ≤ most → None ≡ full limit.Pending most (length rows + 1)
  full-not le = sym (ap (λ z. refuse_if z (why.Full limit.Pending most)) (le-ltb most (length rows + 1) le))

  full-yes : most ≤ length rows → full limit.Pending most (length rows + 1) ≡ Some (why.Full limit.Pending most)
  full-yes le = ap (λ z. refuse_if z (why.Full limit.Pending most)) (lt-ltb most (length rows + 1) (omega (arith, le)))

  -- it was refused before a row was made, or it was there
  pub adds-refused : (f : Refusal) → Seeks (payloads_of (base_added added x)) w rows name parents old new a b (Err f) → AddsRow most x (payloads_of (base_added added x)) w rows name parents old new a b (Err f) x
  adds-refused f q = record {
    tried = tried-stop payloads w (add_tests payloads w rows name parents) (room_test most w rows name ∷ []) old new a b f q.tried;
    leaves = refl;
    right = λ v. tt;
  }

  pub adds-old : (id : ℕ) → Seeks (payloads_of (base_added added x)) w rows name parents old new a b (Ok (sought.Old id)) → AddsRow most x (payloads_of (base_added added x)) w rows name parents old new a b (Ok (Old id)) x
  adds-old id q = record {
    tried = tried-last payloads w (add_tests payloads w rows name parents) room None old new a b q.tried tt
        (λ v. sym (ap (λ z. if z then None else full limit.Pending most (length rows + 1)) (q.right v).0));
    leaves = refl;
    right = λ v. q.right v;
  }

  -- a row was appended, or wasn't
  module _ (ids : Vec ℕ Global) (q : Seeks (payloads_of (base_added added x)) w rows name parents old new a b (Ok (sought.New ids))) where
    abbrev own : List HeldRow
    own = map (held_row (with_pending w rows)) rows

    many : length (map (held_row (with_pending w rows)) rows) ≡ length rows
    many = length-map rows (held_row (with_pending w rows))

    passed : AreRight (payloads_of (base_added added x)) w old → AreAllIn parents (names_of (rows_of (with_pending w rows))) × (twice [] parents ≡ None)
    passed v =
        let whole : first_some (map (λ (t : Test). t.refusal) (add_tests payloads w rows name parents)) ≡ None =
        ⊎_elim (λ e. sym e) (λ o. absurd o) (tried-all (Unit {0}) old new (add_tests payloads w rows name parents) None q.tried.gained (q.tried.serving v)) in
        let none = (first-none-cons (test_in payloads w rows (λ _. None) name).refusal (map (λ (t : Test). t.refusal) (seen_tests payloads w rows parents ++ plain (twice [] parents) ∷ plain (differs (with_pending w rows) name parents) ∷ [])) whole).1 in
        let both = first-none-append (map (λ (t : Test). t.refusal) (seen_tests payloads w rows parents)) (twice [] parents ∷ differs (with_pending w rows) name parents ∷ [])
        (subst (λ l. first_some l ≡ None) (map-append (λ (t : Test). t.refusal) (seen_tests payloads w rows parents) (plain (twice [] parents) ∷ plain (differs (with_pending w rows) name parents) ∷ [])) none) in
        (all-there payloads w rows parents both.0, (first-none-cons (twice [] parents) (differs (with_pending w rows) name parents ∷ []) both.1).0)

    room-is : AreRight (payloads_of (base_added added x)) w old → full limit.Pending most (length rows + 1) ≡ (if has (with_pending w rows) name then None else full limit.Pending most (length rows + 1))
    room-is v = sym (ap (λ z. if z then None else full limit.Pending most (length rows + 1)) (q.right v).0)

    pub row-adds : (result : Result Added Refusal) (next : PlainPending) → Appends most x.pending (map (held_row (with_pending w rows)) rows) name ids.items result next → OnErr result (next ≡ x.pending)
        → AddsRow most x (payloads_of (base_added added x)) w rows name parents old new a b result (record x { pending = next })
    row-adds (Ok (New id)) next h same = record {
      tried = tried-last payloads w (add_tests payloads w rows name parents) room None old new a b q.tried tt
          (λ v. full-not (let lt = h.0 in let long = many in omega (arith, lt, long)) ∙ room-is v);
      leaves = refl;
      right = λ v.
          let named : IsName name = each (λ (r : HeldRow). IsName r.name) (own ++ record { name = name; parents = ids.items } ∷ []) h.3.whole (record { name = name; parents = ids.items }) (in-right (record { name = name; parents = ids.items }) own (record { name = name; parents = ids.items } ∷ []) (inl refl)) in
          let y = q.right v in
          let gone = passed v in
          let first = s.pending_rows.first in
          let long = many in (
            y.0,
            (let i = h.1 in let z : id ≡ other_id (length w.others + length rows) = omega (arith, i, first, long) in z) ∙ next-id w rows s.view name parents named few y.0 gone.0 gone.1,
            next-pending w rows s.view name parents named few y.0 gone.0 gone.1 x.pending next ids.items s.pending_rows y.1 h.2 h.3,
          );
    }
    row-adds (Ok (Old id)) next h same = absurd h
    row-adds (Err (why.Full what n)) next h same = record {
      tried = tried-last payloads w (add_tests payloads w rows name parents) room (Some (why.Full what n)) old new a b q.tried tt
          (λ v. ap₂ (λ z k. Some (why.Full z k)) h.1 h.2 ∙ sym (full-yes (let le = h.0 in let long = many in omega (arith, le, long))) ∙ room-is v);
      leaves = ap {B = PlainSession} (λ p. record x { pending = p }) same;
      right = λ v. tt;
    }
    row-adds (Err why.Memory) next h same = record {
      tried = tried-then payloads w (add_tests payloads w rows name parents) (room_test most w rows name ∷ []) old new new a b b (Some why.Memory) q.tried (tried-memory payloads w (room_test most w rows name ∷ []) new b);
      leaves = ap {B = PlainSession} (λ p. record x { pending = p }) same;
      right = λ v. tt;
    }
    row-adds (Err why.NoRemote) next h same = absurd h
    row-adds (Err (why.Unknown y)) next h same = absurd h
    row-adds (Err (why.Twice y)) next h same = absurd h
    row-adds (Err (why.Differs y)) next h same = absurd h
    row-adds (Err (why.Conflict y)) next h same = absurd h
    row-adds (Err (why.Answer n)) next h same = absurd h
    row-adds (Err (why.NotEmpty m o)) next h same = absurd h
    row-adds (Err (why.Pending n)) next h same = absurd h
    row-adds (Err (why.Remote n)) next h same = absurd h
    row-adds (Err (why.MismatchPath y n)) next h same = absurd h
    row-adds (Err (why.MismatchNames m n)) next h same = absurd h
    row-adds (Err (why.MismatchClone n)) next h same = absurd h
    row-adds (Err (why.MismatchRow n)) next h same = absurd h
    row-adds (Err (why.InMaster y)) next h same = absurd h
    row-adds (Err (why.Lost y)) next h same = absurd h
    row-adds (Err (why.Emptied n)) next h same = absurd h

  -- what was looked up came behind the rows, or was there
  pub sought-adds : (what : Sought) → Seeks (payloads_of (base_added added x)) w rows name parents old new a b (Ok what) → (result : Result Added Refusal) (next : PlainSession)
      → PutsSought most x (map (held_row (with_pending w rows)) rows) name what result next → OnErr result (next ≡ x) → AddsRow most x (payloads_of (base_added added x)) w rows name parents old new a b result next
  sought-adds (sought.Old id) q result next h same =
      subst (λ r. AddsRow most x (payloads_of (base_added added x)) w rows name parents old new a b r next) (sym h.0)
      (subst (AddsRow most x (payloads_of (base_added added x)) w rows name parents old new a b (Ok (Old id))) (sym h.1) (adds-old id q))
  sought-adds (sought.New ids) q result next h same =
      subst (AddsRow most x (payloads_of (base_added added x)) w rows name parents old new a b result) (sym h.0) (row-adds ids q result next.pending h.1 (same-pending result next x same))

-- what was looked up, by what a session that is kept sees
module _ (added : List Placed) (x : PlainSession) (lawful : AreLawful [] (payloads_of added)) (of : IsSessionOf added x) (w : World Name) (rows : List (Row Name)) (s : IsSeen added x w rows) (name : Name) (parents : List Name)
    (few : length parents ≤ 8) (old new : List Mirror) (a b : PlainCache) where
  -- it may come behind the session's rows
  pub sought-fits : (what : Sought) → Seeks (payloads_of (base_added added x)) w rows name parents old new a b (Ok what) → MayBeSought x.pending what
  sought-fits (sought.Old id) q = tt
  sought-fits (sought.New ids) q =
      let count = q.parents_are.2 in
      may-be-parents w rows x.pending ids.items (seen-small added x w rows lawful s) s.pending_rows (omega (arith, count, few)) q.parents_are.1 q.parents_are.0

  -- none of these has its name
  pub sought-new : (what : Sought) → Seeks (payloads_of (base_added added x)) w rows name parents old new a b (Ok what) → IsNewAmong (map (held_row (with_pending w rows)) rows) name what
  sought-new (sought.Old id) q = tt
  sought-new (sought.New ids) q = not-own added x lawful of w rows s name ids.items q.parents_are.0 q.fresh.0 q.fresh.1

  -- the session stays one of the store
  pub sought-kept : (what : Sought) → Seeks (payloads_of (base_added added x)) w rows name parents old new a b (Ok what) → (most : ℕ) (result : Result Added Refusal) (next : PlainSession)
      → PutsSought most x (map (held_row (with_pending w rows)) rows) name what result next → OnErr result (next ≡ x) → IsSessionOf added next
  sought-kept (sought.Old id) q most result next h same = subst (IsSessionOf added) (sym h.1) of
  sought-kept (sought.New ids) q most result next h same = subst (IsSessionOf added) (sym h.0)
      (kept-more added x lawful of w rows s name ids.items q.parents_are.0 q.fresh.0 q.fresh.1 most result next.pending h.1 (same-pending result next x same))
