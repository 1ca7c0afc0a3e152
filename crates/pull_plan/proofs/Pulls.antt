-- A pull is a flush of what was taken of a remote, put behind the world's others.
use Rattle.std.proofs.Common.{[], ◌≡◌, ◌<◌, ◌≤◌, ◌+◌, ◌-◌, ◌^◌, ℕ, not, ◌⊎◌, inl, inr, List, ◌∷◌, ◌++◌, length, map, take, drop, Some, None, refl, sym, ap, subst, ◌∙◌, ⊎_elim, if◌then◌else◌, arith, length-append, lit≤}
use Rattle.std.specs.Prelude.{Result, Ok, Err, IfOk, MatchResult}
use Rattle.std.specs.List.{AllByRecursion}
use Rattle.std.proofs.lemmas.List.{map-append, length-map, take-append-drop}
use Rattle.std.proofs.lemmas.Bool.{le-ltb}
use Rattle.id_groups.specs.Lists.{IsIn, is_in, AreAllIn}
use Rattle.id_groups.specs.Name.{Name, same_name}
use Rattle.id_groups.specs.Id.{is_master_id}
use Rattle.id_groups.proofs.Names.{same_name-exact, same_name-self}
use Rattle.commit_graph.specs.World.{Row, World, IsWorld, IsHistory, empty_world, names_of, rows_of, with_pending}
use Rattle.commit_graph.specs.Ids.{id_in}
use Rattle.commit_graph.proofs.Down.{in-left, in-right}
use Rattle.commit_graph.proofs.Places.{at-name, world-master, below-master, chosen, id-in-master}
use Rattle.assign_ids.specs.declared.graph.Node.{Node}
use Rattle.assign_ids.specs.declared.graph.Node.TheVariants.{Placed as InMaster, Other}
use Rattle.assign_ids.specs.Numbers.{others_of}
use Rattle.name_map.specs.Added.{Placed, payloads_of}
use Rattle.remote_rules.specs.Known.{master_world}
use Rattle.change_rules.specs.declared.Limits.{Limits}
use Rattle.change_rules.specs.declared.Limit.TheVariants.{Others}
use Rattle.change_rules.specs.Rebase.{left_of, first_conflict}
use Rattle.change_rules.specs.Flush.{flushed}
use Rattle.change_rules.specs.Pull.{pulled}
use Rattle.change_rules.specs.Tables.{StandFor, cloned_count}
use Rattle.change_rules.proofs.Flushes.{rebase-world, name-in}
use Rattle.mirror_set.specs.Fresh.{PlainFresh}
use Rattle.payload_tables.specs.Kept.{PlainTables}
use Rattle.payload_tables.specs.Pending.{PlainPending}
use Rattle.payload_tables.specs.Bases.{ArePending, held_row}
use Rattle.change_parts.specs.declared.change.Change.{Change}
use Rattle.change_parts.specs.declared.fault.PlanFault.{PlanFault}
use Rattle.change_parts.specs.declared.fault.PlanFault.TheVariants.{Memory, Full}
use Rattle.change_parts.specs.Moves.{node_of}
use Rattle.change_parts.specs.Plans.{first_fault, conflict_fault, size_refusal, MayMove, IsPlanOf, IsChangeOf, MayComeNext, MayBeStored}
use Rattle.pull_plan.specs.Pulling.{mismatch, pull_refusal}
use Rattle.pull_plan.specs.Taken.{AreTaken, MayTake, MayPut, pull_sizes, any_others}
use Rattle.change_parts.proofs.Planning.{flush-small}
use Rattle.change_parts.proofs.Marking.{filter-short}
use Rattle.pull_plan.proofs.PulledFlushed.{pulled-flushed}
use Rattle.rebase_pending.proofs.Rebased.{pending-there, placed}
use Rattle.pull_plan.proofs.SomeTold.{rows-same}
use Rattle.rebase_pending.proofs.Stepping.{under}

-- ---- lists

all-there : (xs ys : List Name) → ((x : Name) → IsIn x xs → IsIn x ys) → AreAllIn xs ys
all-there [] ys f = tt
all-there (x ∷ xs) ys f = (f x (inl refl), all-there xs ys (λ y i. f y (inr i)))

others-join : (xs ys : List Node) → others_of (xs ++ ys) ≡ others_of xs ++ others_of ys
others-join [] ys = refl
others-join (InMaster ∷ xs) ys = others-join xs ys
others-join (Other k ∷ xs) ys = ap (λ l. k ∷ l) (others-join xs ys)

masters-alone : (ids : List ℕ) → AllByRecursion (λ id. id < 2 ^ 56) ids → others_of (map node_of ids) ≡ []
masters-alone [] h = refl
masters-alone (id ∷ ids) h =
    ap (λ n. others_of (n ∷ map node_of ids)) (chosen (is_master_id id) InMaster (Other (id - 2 ^ 56)) (below-master id h.0)) ∙ masters-alone ids h.1

-- ---- what was taken may move

module _ (tables : PlainTables) (bytes ids : List ℕ) (left : PlainPending) (w : World Name) (rows : List (Row Name)) (p : MayPut tables bytes ids left w rows) where
  abbrev cloned : ℕ
  cloned = cloned_count (payloads_of p.added)

  abbrev view : World Name
  view = with_pending w (left_of same_name w rows)

  theirs : IsHistory [] rows
  theirs = world-master rows p.theirs

  of_none : StandFor (payloads_of []) (empty_world {N = Name})
  of_none = record { count = refl; master = refl; known = tt; others = refl; names = refl }

  small : length w.master ≤ 16777216
  small = flush-small tables bytes p.added w p.tables_of p.stand p.stand_for

  view-is : IsWorld view
  view-is = rebase-world same_name same_name-exact same_name-self w empty_world rows p.world.world theirs (λ x i. absurd i)

  pub pending-is : ArePending w left (left_of same_name w rows)
  pending-is = record { first = p.taken.first; held = p.taken.held; view = view-is }

  there : (x : Name) → IsIn x (names_of rows) → IsIn x (names_of (rows_of view))
  there x i = pending-there p.added [] w empty_world rows p.stand_for p.world.world small of_none theirs (w.master, refl) (λ name i j. absurd i) rows x i

  few : length w.others ≤ 65536
  few = let r = p.taken.held.room in let f = p.taken.first in omega (arith, r, f)

  -- the ids are those of 32 bits in their group
  pub ids-fit : AllByRecursion (λ id. id < 2 ^ 56 + 2 ^ 32) ids
  ids-fit = subst (AllByRecursion (λ id. id < 2 ^ 56 + 2 ^ 32)) (sym p.taken.ids_are)
      (each (names_of (drop cloned rows)) (λ x i. there x (subst (λ l. IsIn x (names_of l)) (take-append-drop cloned rows)
      (subst (IsIn x) (sym (map-append (λ (r : Row Name). r.name) (take cloned rows) (drop cloned rows))) (in-right x (names_of (take cloned rows)) (names_of (drop cloned rows)) i)))))
    where
      bound : (x : Name) → IsIn x (names_of (rows_of view)) → id_in same_name view x < 2 ^ 56 + 2 ^ 32
      bound x i =
          let long = length-map (left_of same_name w rows) (held_row view) in let l = length-append w.others (left_of same_name w rows) in let held = p.taken.held.few in
          ⊎_elim
          (λ m. let e = m.4 in let lt = under w.master m.0 m.1 m.2 in let s = small in let k : 16777216 ≤ 2 ^ 56 = lit≤ tt in omega (arith, e, lt, s, k))
          (λ o. let e = o.4 in let lt = under (w.others ++ left_of same_name w rows) o.0 o.1 o.2 in let f = few in let k : 65536 + 16777216 ≤ 2 ^ 32 = lit≤ tt in omega (arith, e, lt, long, l, held, f, k))
          (placed p.added [] w empty_world rows p.stand_for p.world.world small of_none theirs (w.master, refl) (λ name i j. absurd i) view view-is small x i)

      each : (xs : List Name) → ((x : Name) → IsIn x xs → IsIn x (names_of (rows_of view))) → AllByRecursion (λ id. id < 2 ^ 56 + 2 ^ 32) (map (id_in same_name view) xs)
      each [] f = tt
      each (x ∷ xs) f = (bound x (f x (inl refl)), each xs (λ y i. f y (inr i)))

  -- the cloned rows are in master
  masters : (some : List (Row Name)) → ((r : Row Name) → IsIn r some → IsIn r w.master) → AllByRecursion (λ id. id < 2 ^ 56) (map (id_in same_name view) (names_of some))
  masters [] f = tt
  masters (r ∷ some) f = (
    (let at = at-name w.master r.name (name-in r w.master (f r (inl refl))) in
        let lt = under w.master at.0 at.1 at.2 in let s = small in
        let e = ap (id_in same_name view) (sym at.3) ∙ id-in-master same_name same_name-exact same_name-self view view-is at.0 at.1 at.2 in
        let k : 16777216 ≤ 2 ^ 56 = lit≤ tt in omega (arith, e, lt, s, k)),
    masters some (λ q i. f q (inr i)),
  )

  numbers-are : others_of (map node_of ids) ≡ others_of (map node_of (map (id_in same_name view) (names_of rows)))
  numbers-are =
      let front = map (id_in same_name view) (names_of (take cloned rows)) in
      let back = map (id_in same_name view) (names_of (drop cloned rows)) in
      let parts : map (id_in same_name view) (names_of rows) ≡ front ++ back =
      ap (λ l. map (id_in same_name view) (names_of l)) (sym (take-append-drop cloned rows))
      ∙ ap (map (id_in same_name view)) (map-append (λ (r : Row Name). r.name) (take cloned rows) (drop cloned rows))
      ∙ map-append (id_in same_name view) (names_of (take cloned rows)) (names_of (drop cloned rows)) in
      ap (λ l. others_of (map node_of l)) p.taken.ids_are
      ∙ ap (λ l. l ++ others_of (map node_of back)) (sym (masters-alone front (masters (take cloned rows) (λ r i. in-taken cloned w.master r (subst (IsIn r) p.cloned_rows i)))))
      ∙ sym (others-join (map node_of front) (map node_of back))
      ∙ ap others_of (sym (map-append node_of front back))
      ∙ ap (λ l. others_of (map node_of l)) (sym parts)
    where
      in-taken : (n : ℕ) (xs : List (Row Name)) (r : Row Name) → IsIn r (take n xs) → IsIn r xs
      in-taken n xs r i = subst (IsIn r) (take-append-drop n xs) (in-left r (take n xs) (drop n xs) i)

  pub may-move : (numbers : List ℕ) → numbers ≡ others_of (map node_of ids) → (m : MayMove tables bytes left numbers w (left_of same_name w rows) (names_of rows)) × (m.added ≡ p.added)
  may-move numbers e = (
    record {
      added = p.added;
      tables_of = p.tables_of;
      stand = p.stand;
      stand_for = p.stand_for;
      world = p.world;
      pending_rows = pending-is;
      known = all-there (names_of rows) (names_of (rows_of view)) there;
      numbers_are = e ∙ numbers-are;
    },
    refl,
  )

  abbrev new : World Name
  new = pulled same_name w (master_world rows)

  pub new-is : flushed same_name view (names_of rows) ≡ new
  new-is = sym (pulled-flushed same_name same_name-exact same_name-self w (master_world rows) p.world.world theirs p.taken.calm)

  others-few : length new.others ≤ 65536
  others-few = let s = filter-short (λ (r : Row Name). not (is_in same_name r.name (names_of new.master))) w.others in let f = few in omega (arith, s, f)

  sizes-are : (limits : Limits) (log : ℕ) (payload : List ℕ) → size_refusal (any_others limits) log new payload ≡ pull_sizes limits log new payload
  sizes-are limits log payload = ap (λ b. first_fault (if b then Some (Full Others 65536) else None) (pull_sizes limits log new payload)) (le-ltb 65536 (length new.others) others-few)

  -- what the move answers is what the pull does
  pub pull-means : (limits wide : Limits) → wide ≡ any_others limits → (log : ℕ) (payload : List ℕ) (r : Result Change PlanFault)
      → MatchResult r (λ change. (size_refusal wide log (flushed same_name view (names_of rows)) payload ≡ None) × IsPlanOf change w (flushed same_name view (names_of rows)) payload)
      (λ fault. (fault ≡ Memory) ⊎ (size_refusal wide log (flushed same_name view (names_of rows)) payload ≡ Some fault))
      → MatchResult r (λ change. (pull_sizes limits log new payload ≡ None) × IsPlanOf change w new payload) (λ fault. (fault ≡ Memory) ⊎ (pull_sizes limits log new payload ≡ Some fault))
  pull-means limits wide e log payload r h =
      subst (λ z. MatchResult r (λ change. (z ≡ None) × IsPlanOf change w new payload) (λ fault. (fault ≡ Memory) ⊎ (z ≡ Some fault)))
      (ap (λ l. size_refusal l log new payload) e ∙ sizes-are limits log payload)
      (subst (λ v. MatchResult r (λ change. (size_refusal wide log v payload ≡ None) × IsPlanOf change w v payload) (λ fault. (fault ≡ Memory) ⊎ (size_refusal wide log v payload ≡ Some fault))) new-is h)

  pub change-of-flush : (payload : List ℕ) → IsChangeOf w new payload → IsChangeOf w (flushed same_name view (names_of rows)) payload
  change-of-flush payload h = subst (λ v. IsChangeOf w v payload) (sym new-is) h

-- the log's limit is the same
storable : (limits : Limits) (log : ℕ) (added : List Placed) (change : Change) → MayBeStored 1 (any_others limits) log added change → MayComeNext 1 limits log added change
storable limits log added change h = record {
  stays = h.next.stays;
  changes = λ e. let s = h.next.changes e in (
    s.0,
    record { payload = s.1.payload; follows = s.1.follows; kind_is = s.1.kind_is; master = s.1.master; others = s.1.others; fits = s.1.fits },
  );
}

pub stored-next : (limits wide : Limits) → wide ≡ any_others limits → (log : ℕ) (added : List Placed) (r : Result Change PlanFault) → IfOk r (MayBeStored 1 wide log added) → IfOk r (MayComeNext 1 limits log added)
stored-next limits wide e log added (Ok change) h = storable limits log added change (subst (λ l. MayBeStored 1 l log added change) e h)
stored-next limits wide e log added (Err fault) h = h

-- ---- from what was told to what was taken

pub taken-put : (tables : PlainTables) (bytes : List ℕ) (fresh : PlainFresh) (ids : List ℕ) (left : PlainPending) (w : World Name) (rows : List (Row Name)) (t : MayTake tables bytes fresh w rows) → mismatch t.added fresh ≡ None
    → AreTaken w (cloned_count (payloads_of t.added)) rows ids left → (p : MayPut tables bytes ids left w rows) × (p.added ≡ t.added)
taken-put tables bytes fresh ids left w rows t none taken = (
  record {
    added = t.added;
    tables_of = t.may.tables_of;
    stand = t.may.stand;
    stand_for = t.stand_for;
    world = t.world;
    theirs = t.theirs;
    cloned_rows = rows-same tables bytes fresh w rows t none;
    taken = taken;
  },
  refl,
)

-- ---- what a pull is refused for

pub pull-fault : (limits : Limits) (log : ℕ) (added : List Placed) (fresh : PlainFresh) (w : World Name) (rows : List (Row Name)) (new : World Name) (payload : List ℕ) (fault : PlanFault)
    → (fault ≡ Memory) ⊎ ((mismatch added fresh ≡ Some fault) ⊎ ((mismatch added fresh ≡ None) × (conflict_fault (first_conflict same_name w rows) ≡ Some fault)))
    → (fault ≡ Memory) ⊎ (pull_refusal limits log added fresh w rows new payload ≡ Some fault)
pull-fault limits log added fresh w rows new payload fault (inl e) = inl e
pull-fault limits log added fresh w rows new payload fault (inr (inl e)) = inr (ap (λ o. first_fault o (first_fault (conflict_fault (first_conflict same_name w rows)) (pull_sizes limits log new payload))) e)
pull-fault limits log added fresh w rows new payload fault (inr (inr e)) =
    inr (ap (λ o. first_fault o (first_fault (conflict_fault (first_conflict same_name w rows)) (pull_sizes limits log new payload))) e.0 ∙ ap (λ o. first_fault o (pull_sizes limits log new payload)) e.1)

pub sizes-alone : (limits : Limits) (log : ℕ) (added : List Placed) (fresh : PlainFresh) (w : World Name) (rows : List (Row Name)) (new : World Name) (payload : List ℕ)
    → mismatch added fresh ≡ None → first_conflict same_name w rows ≡ None → pull_refusal limits log added fresh w rows new payload ≡ pull_sizes limits log new payload
sizes-alone limits log added fresh w rows new payload none calm =
    ap (λ o. first_fault o (first_fault (conflict_fault (first_conflict same_name w rows)) (pull_sizes limits log new payload))) none
    ∙ ap (λ o. first_fault (conflict_fault o) (pull_sizes limits log new payload)) calm
