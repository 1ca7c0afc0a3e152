-- With one more row behind it a session may still be kept.
use Rattle.std.proofs.Common.{◌≡◌, ◌<◌, ◌≤◌, ◌+◌, ◌^◌, ℕ, ◌⊎◌, inl, inr, List, [], ◌∷◌, ◌++◌, length, map, take, drop, refl, sym, ap, subst, ◌∙◌, ⊎_elim, arith, append_assoc}
use Rattle.std.specs.List.{AllByRecursion}
use Rattle.std.proofs.lemmas.List.{map-append, length-map, take-append-drop}
use Rattle.id_groups.specs.Lists.{IsIn, AreAllIn, AreDistinct}
use Rattle.id_groups.specs.Name.{Name, IsName, same_name}
use Rattle.id_groups.specs.Id.{other_id}
use Rattle.commit_graph.specs.World.{Row, World, IsNamedWorld, IsHistory, names_of, rows_of, with_pending}
use Rattle.commit_graph.specs.Ids.{id_in}
use Rattle.commit_graph.proofs.Histories.{history-rest}
use Rattle.commit_graph.proofs.Down.{in-left, in-right}
use Rattle.commit_graph.proofs.Naming.{each, named-by, name-of, pending-names}
use Rattle.batch_codec.specs.Grammar.{count_after}
use Rattle.change_rules.specs.Lawful.{AreLawful}
use Rattle.name_map.specs.Added.{Placed, payloads_of}
use Rattle.change_rules.specs.Tables.{StandFor}
use Rattle.payload_tables.specs.Pending.{HeldRow, PlainPending, HoldsRows, row_names}
use Rattle.payload_tables.specs.Bases.{ArePending, held_row}
use Rattle.payload_tables.proofs.Lists.{all-append, names-length, parents-known}
use Rattle.payload_tables.proofs.Naming.{whole-names}
use Rattle.payload_tables.proofs.Rows.{count-rows}
use Rattle.change_parts.specs.Asked.{HaveParents, MayStore}
use Rattle.change_parts.proofs.StoredNames.{lawful-small}
use Rattle.store_plans.specs.Sessions.{PlainSession, IsSessionOf, base_added}
use Rattle.store_plans.specs.Looking.{IsViewId, IsSeen}
use Rattle.store_queries.specs.Adding.{MayBeParents, Appends}
use Rattle.store_queries.specs.declared.adding.Added.{Added}
use Rattle.store_queries.specs.declared.adding.Added.TheVariants.{New, Old}
use Rattle.step_rules.specs.declared.Refusal.{Refusal}
use Rattle.store_plans.proofs.LawfulParts.{lawful-front}
use Rattle.store_plans.proofs.StoredNames.{names-of-rows, stored-are, stored-there}
use Rattle.change_rules.specs.Lazy.{stored_names}
use Rattle.commit_graph.proofs.Histories.{in-append}
use Rattle.std.specs.Prelude.{OnErr, Result, Ok, Err}
use Rattle.payload_tables.specs.Bases.{stored_in}
use Rattle.store_queries.proofs.AddingIds.{ids-parts}

-- the payloads of a session's base are lawful
pub base-lawful : (added : List Placed) (n : ℕ) → AreLawful [] (payloads_of added) → AreLawful [] (payloads_of (take n added))
base-lawful added n h =
    lawful-front [] (payloads_of (take n added)) (payloads_of (drop n added))
    (subst (AreLawful []) (sym (ap payloads_of (take-append-drop n added)) ∙ map-append (λ (a : Placed). a.payload) (take n added) (drop n added)) h)

-- rows that are kept have names
pub pending-named : (w : World Name) (pending : PlainPending) (rows : List (Row Name)) → IsNamedWorld w → ArePending w pending rows → IsNamedWorld (with_pending w rows)
pending-named w pending rows h p =
    let names = subst (AllByRecursion IsName) (names-of-rows (with_pending w rows) rows) (whole-names (map (held_row (with_pending w rows)) rows) p.held.whole) in
    named-by (with_pending w rows) p.view (λ n i. ⊎_elim (λ j. name-of w h n j) (λ j. each IsName (names_of rows) names n j) (pending-names w rows n i))

-- ---- rows that may be stored

history-apart : (before : List Name) (rows : List (Row Name)) (x : Name) → IsHistory before rows → IsIn x before → IsIn x (names_of rows) → ⊥
history-apart before [] x h b i = absurd i
history-apart before (q ∷ rows) x h b (inl e) = h.0.fresh (subst (λ z. IsIn z before) e b)
history-apart before (q ∷ rows) x h b (inr i) = history-apart (before ++ q.name ∷ []) rows x h.1 (in-left x before (q.name ∷ []) b) i

history-distinct : (before : List Name) (rows : List (Row Name)) → IsHistory before rows → AreDistinct (names_of rows)
history-distinct before [] h = tt
history-distinct before (r ∷ rows) h = (history-apart (before ++ r.name ∷ []) rows r.name h.1 (in-right r.name before (r.name ∷ []) (inl refl)), history-distinct (before ++ r.name ∷ []) rows h.1)

-- rows that a session sees behind its base
module _ (added : List Placed) (w : World Name) (stand : StandFor (payloads_of added) w) (small : length w.master ≤ 16777216) (pending : PlainPending) (rows : List (Row Name)) (p : ArePending w pending rows) where
  abbrev v : World Name
  v = with_pending w rows

  parts : IsHistory (names_of (rows_of w)) rows
  parts = history-rest [] (rows_of w) rows (subst (IsHistory []) (sym (append_assoc w.master w.others rows)) p.view)

  parents-have : (some : List (Row Name)) → ((r : Row Name) → IsIn r some → AreAllIn r.parents (names_of (rows_of (with_pending w rows)))) → HaveParents (count_after 0 (payloads_of added)) (map (held_row (with_pending w rows)) some)
  parents-have [] h = tt
  parents-have (r ∷ some) h = (
    subst (λ n. AllByRecursion (λ q. (q < n) ⊎ (2 ^ 56 ≤ q)) (map (id_in same_name (with_pending w rows)) r.parents)) (sym stand.count) (ids-parts (with_pending w rows) p.view small r.parents (h r (inl refl))),
    parents-have some (λ q i. h q (inr i)),
  )

  pub may-store : MayStore pending added
  may-store = record {
    rows = map (held_row (with_pending w rows)) rows;
    held = p.held;
    first = p.first ∙ sym (ap (length {A = Name}) stand.names ∙ names-length w.others);
    parents = parents-have rows (λ r i. parents-known [] (rows_of (with_pending w rows)) p.view r (in-right r w.master (w.others ++ rows) (in-right r w.others rows i)));
    distinct = subst AreDistinct (sym (names-of-rows (with_pending w rows) rows)) (history-distinct (names_of (rows_of w)) rows parts);
    fresh = λ x i j. history-apart (names_of (rows_of w)) rows x parts (stored-there added w stand rows p.view x j) (subst (IsIn x) (names-of-rows (with_pending w rows) rows) i);
  }

pub seen-small : (added : List Placed) (x : PlainSession) (w : World Name) (rows : List (Row Name)) → AreLawful [] (payloads_of added) → IsSeen added x w rows → length w.master ≤ 16777216
seen-small added x w rows lawful s = let n = lawful-small (base_added added x) (base-lawful added x.payloads lawful) in let c = s.stand.count in omega (arith, n, c)

below-all : (w : World Name) (rows : List (Row Name)) (n : ℕ) → length w.others + length rows ≡ n → length w.master ≤ 16777216 → (ids : List ℕ) → AllByRecursion (IsViewId w rows) ids → AllByRecursion (λ id. id < other_id n) ids
below-all w rows n e small [] h = tt
below-all w rows n e small (id ∷ ids) h = (⊎_elim (λ a. omega (arith, a, small)) (λ b. (let lt = b.1 in omega (arith, lt, e))) h.0, below-all w rows n e small ids h.1)

-- the ids of parents that were looked up may be those of a row behind the others
pub may-be-parents : (w : World Name) (rows : List (Row Name)) (pending : PlainPending) (ids : List ℕ) → length w.master ≤ 16777216 → ArePending w pending rows → length ids ≤ 8 → AreDistinct ids → AllByRecursion (IsViewId w rows) ids
    → MayBeParents pending.first (length pending.places) ids
may-be-parents w rows pending ids small p few distinct view =
    let count = count-rows pending (map (held_row (with_pending w rows)) rows) p.held in
    let long = length-map rows (held_row (with_pending w rows)) in
    let first = p.first in
    record {
      few = few;
      distinct = distinct;
      below = below-all w rows (pending.first + length pending.places) (omega (arith, count, long, first)) small ids view;
    }

-- ---- a session stays kept

in-parts : (w : World Name) (rows : List (Row Name)) (masters : ℕ) → masters ≡ length w.master → (ids : List ℕ) → AllByRecursion (IsViewId w rows) ids → AllByRecursion (λ p. (p < masters) ⊎ (2 ^ 56 ≤ p)) ids
in-parts w rows masters e [] h = tt
in-parts w rows masters e (id ∷ ids) h = (⊎_elim (λ a. inl (omega (arith, a, e))) (λ b. inr b.0) h.0, in-parts w rows masters e ids h.1)

distinct-more : (xs : List Name) (x : Name) → AreDistinct xs → (IsIn x xs → ⊥) → AreDistinct (xs ++ x ∷ [])
distinct-more [] x d n = ((λ i. i), tt)
distinct-more (y ∷ xs) x d n = (
  (λ i. ⊎_elim (λ j. d.0 j) (λ j. ⊎_elim (λ e. n (inl (sym e))) (λ k. k) j) (in-append y xs (x ∷ []) i)),
  distinct-more xs x d.1 (λ i. n (inr i)),
)

-- A row that comes behind those of a session, whatever was told of its parents.
module _ (added : List Placed) (x : PlainSession) (lawful : AreLawful [] (payloads_of added)) (of : IsSessionOf added x) (w : World Name) (rows : List (Row Name)) (s : IsSeen added x w rows) (name : Name) (ids : List ℕ)
    (view : AllByRecursion (IsViewId w rows) ids) (unstored : IsIn name (stored_names (payloads_of (base_added added x)) w) → ⊥) (unseen : IsIn name (names_of rows) → ⊥) where
  abbrev own : List HeldRow
  own = map (held_row (with_pending w rows)) rows

  abbrev front : List Placed
  front = base_added added x

  its : MayStore x.pending (base_added added x)
  its = may-store (base_added added x) w s.stand (seen-small added x w rows lawful s) x.pending rows s.pending_rows

  names-more : row_names (map (held_row (with_pending w rows)) rows ++ record { name = name; parents = ids } ∷ []) ≡ names_of rows ++ name ∷ []
  names-more = map-append (λ (r : HeldRow). r.name) (map (held_row (with_pending w rows)) rows) (record { name = name; parents = ids } ∷ []) ∙ ap (λ l. l ++ name ∷ []) (names-of-rows (with_pending w rows) rows)

  pub not-own : IsIn name (row_names (map (held_row (with_pending w rows)) rows)) → ⊥
  not-own i = unseen (subst (IsIn name) (names-of-rows (with_pending w rows) rows) i)

  pub store-more : (new : PlainPending) → new.first ≡ x.pending.first → HoldsRows new (map (held_row (with_pending w rows)) rows ++ record { name = name; parents = ids } ∷ []) → MayStore new (base_added added x)
  unfolding its may-store
  store-more new first held = record {
    rows = map (held_row (with_pending w rows)) rows ++ record { name = name; parents = ids } ∷ [];
    held = held;
    first = first ∙ its.first;
    parents = all-append (λ (r : HeldRow). AllByRecursion (λ p. (p < count_after 0 (payloads_of (base_added added x))) ⊎ (2 ^ 56 ≤ p)) r.parents) (map (held_row (with_pending w rows)) rows) (record { name = name; parents = ids } ∷ [])
        its.parents (in-parts w rows (count_after 0 (payloads_of (base_added added x))) s.stand.count ids view, tt);
    distinct = subst AreDistinct (sym names-more) (distinct-more (names_of rows) name (subst AreDistinct (names-of-rows (with_pending w rows) rows) its.distinct) unseen);
    fresh = λ n i j. ⊎_elim (λ o. its.fresh n (subst (IsIn n) (sym (names-of-rows (with_pending w rows) rows)) o) j)
        (λ o. ⊎_elim (λ e. unstored (subst (IsIn name) (sym (stored-are (base_added added x) w s.stand)) (subst (λ z. IsIn z (map (λ k. k.name) (stored_in (base_added added x)))) e j))) (λ k. k) o)
        (in-append n (names_of rows) (name ∷ []) (subst (IsIn n) names-more i));
  }

  -- the session stays one of the store
  pub kept-more : (most : ℕ) (result : Result Added Refusal) (new : PlainPending) → Appends most x.pending (map (held_row (with_pending w rows)) rows) name ids result new → OnErr result (new ≡ x.pending) → IsSessionOf added (record x { pending = new })
  kept-more most (Ok (New id)) new a same = record { payloads = of.payloads; below = of.below; others = of.others; pending = store-more new a.2 a.3 }
  kept-more most (Ok (Old id)) new a same = absurd a
  kept-more most (Err refusal) new a same = subst (λ (p : PlainPending). IsSessionOf added (record x { pending = p })) (sym same) of
