-- What a strip comes to by numbers, for a world that the tables stand for.
use Rattle.std.proofs.Common.{◌≡◌, ◌<◌, ◌≤◌, ℕ, ◌+◌, ◌-◌, ◌*◌, ◌^◌, false, not, List, [], ◌∷◌, ◌++◌, length, map, filter, take, drop, get_or, slice_get, Some, refl, sym, ap, ap₂, subst, ◌∙◌, arith, append-nil, lit≤}
use Rattle.std.specs.List.{AllByRecursion}
use Rattle.id_groups.specs.Lists.{AreAllIn}
use Rattle.id_groups.specs.Name.{Name, same_name}
use Rattle.id_groups.specs.Id.{other_id}
use Rattle.id_groups.proofs.Names.{same_name-exact, same_name-self}
use Rattle.commit_graph.specs.World.{Row, World, IsWorld, names_of, with_pending}
use Rattle.commit_graph.specs.Ids.{id_in}
use Rattle.commit_graph.proofs.Naming.{all-each}
use Rattle.commit_graph.proofs.Places.{id-in-others, name-at}
use Rattle.segment_codec.specs.Record.{Segment}
use Rattle.segment_codec.specs.Table.{IsLawful, parents_at}
use Rattle.segment_codec.proofs.Tables.{parent-below}
use Rattle.name_map.specs.Added.{Placed, AllStand, payloads_of}
use Rattle.name_map.specs.Part.{upward}
use Rattle.change_rules.specs.Holding.{HoldPayloads}
use Rattle.change_rules.specs.Tables.{StandFor}
use Rattle.payload_tables.specs.Kept.{PlainTables, AreTablesOf}
use Rattle.payload_tables.specs.Pending.{PlainPending, HoldsRows}
use Rattle.payload_tables.specs.declared.base.BaseRef.{BaseRef}
use Rattle.payload_tables.specs.Bases.{ArePending, AreSegmentsOf, MayView}
use Rattle.payload_tables.proofs.Lists.{names-length}
use Rattle.payload_tables.proofs.Rows.{get-below}
use Rattle.change_parts.specs.Asked.{others_count}
use Rattle.change_parts.specs.Plans.{MayMove}
use Rattle.change_parts.specs.Moves.{name_at}
use Rattle.change_parts.specs.Rows.{AreRowsBelow, table_rows}
use Rattle.strip_plan.specs.Stripping.{MayStripOn, MayStrip, AreKept, IsStrip}
use Rattle.change_parts.proofs.Invented.{FitBehind, some-world}
use Rattle.change_parts.proofs.Planning.{move-facts, parents-are, no-parents, names-are}
use Rattle.change_parts.proofs.RowLemmas.{table-below, row-of}
use Rattle.strip_plan.proofs.Stripped.{strip-same, others-size, kept-below, kept-long, all-kept}
use Rattle.change_parts.proofs.TableFacts.{others-facts}

pub others-room : (tables : PlainTables) (bytes : List ℕ) (added : List Placed) → AreTablesOf tables added → AllStand bytes added → tables.others.names + 20 * tables.others.count ≤ length bytes
others-room tables bytes added t stand = (others-facts tables bytes added t stand).room

-- no place
pub none-placed : (none : PlainPending) → HoldsRows none [] → length none.places ≡ 0
none-placed none held = ap (length {A = ℕ}) held.places

-- nothing is pending behind the newest others
module _ (tables : PlainTables) (bytes ids : List ℕ) (none : PlainPending) (held : HoldsRows none []) (first : none.first ≡ tables.others.count) where
  pub view-none : (b : BaseRef) (added : List Placed) → AreTablesOf tables added → AllStand bytes added → MayView b added none
  view-none b added t stand = record { rows = []; held = held; first = first ∙ (others-facts tables bytes added t stand).count; parents = tt }

  pub pending-none : (w : World Name) (given : List Name) → MayStrip tables bytes ids w given → ArePending w none []
  pending-none w given s = record {
    first = first ∙ (others-facts tables bytes s.added s.tables_of s.stand).count ∙ ap (length {A = Name}) s.stand_for.names ∙ names-length w.others;
    held = held;
    view = subst (IsWorld {N = Name}) (ap (λ l. record { master = w.master; others = l }) (sym (append-nil w.others))) s.world.world;
  }

  pub ids-below : (added : List Placed) → MayStripOn tables bytes ids added → (count more : ℕ) → count ≡ tables.others.count → more ≡ length none.places
      → AllByRecursion (λ id. (2 ^ 56 ≤ id) × (id < other_id (count + more))) ids
  ids-below added m count more c p =
      let z = none-placed none held in
      let e : others_count added ≡ count + more = (let f = (others-facts tables bytes added m.tables_of m.stand).count in omega (arith, z, c, p, f)) in
      subst (λ n. AllByRecursion (λ id. (2 ^ 56 ≤ id) × (id < other_id n)) ids) e m.ids_are

-- ---- a world for what is asked of tables

names-for : (w : World Name) → IsWorld w → (ids : List ℕ) → AllByRecursion (λ id. (2 ^ 56 ≤ id) × (id < other_id (length w.others))) ids
    → (given : List Name) × AreAllIn given (names_of w.others) × (ids ≡ map (id_in same_name w) given)
names-for w whole [] h = ([], tt, refl)
names-for w whole (id ∷ ids) h =
    let rest = names-for w whole ids h.1 in
    let low = h.0.0 in let high = h.0.1 in
    let k = id - 2 ^ 56 in
    let r = get-below w.others k (omega (arith, low, high)) in
    let is : id ≡ other_id k = omega (arith, low) in (
      r.0.name ∷ rest.0,
      (name-at w.others k r.0 r.1, rest.1),
      ap₂ (λ a b. a ∷ b) (is ∙ sym (id-in-others same_name same_name-exact same_name-self w whole k r.0 r.1)) rest.2,
    )

-- a world for which the tables stand, and names of its others with these ids
pub strip-asked : (tables : PlainTables) (bytes ids : List ℕ) (added : List Placed) → MayStripOn tables bytes ids added
    → (w : World Name) × (given : List Name) × (s : MayStrip tables bytes ids w given) × (s.added ≡ added)
strip-asked tables bytes ids added m =
    let fit : FitBehind (payloads_of added) [] = record { parents = tt; distinct = tt; whole = tt; few = (let z : 0 ≤ 16777216 = lit≤ tt in z); new = λ x i d. absurd i } in
    let st = some-world (payloads_of added) m.tables_of.lawful [] fit in
    let w = st.of_world in
    let count : others_count added ≡ length w.others = ap (length {A = Name}) st.stand.names ∙ names-length w.others in
    let n = names-for w st.named.world ids (subst (λ c. AllByRecursion (λ id. (2 ^ 56 ≤ id) × (id < other_id c)) ids) count m.ids_are) in (
      w,
      n.0,
      record {
        added = added;
        tables_of = m.tables_of;
        stand = m.stand;
        stand_for = st.stand;
        world = st.named;
        others = n.1;
        ids_are = n.2;
      },
      refl,
    )

-- ---- what is read of the tables

pub rows-older : (flats : List Segment) → IsLawful flats → (n : ℕ) (graph : List (List ℕ)) → graph ≡ table_rows flats n → (k : ℕ) → k < n → AllByRecursion (λ p. p < other_id k) (get_or graph k [])
rows-older flats lawful n graph e k lt =
    subst (AllByRecursion (λ p. p < other_id k)) (sym (ap (λ (l : List (List ℕ)). get_or l k []) e ∙ row-of flats n k lt))
    (all-each (λ p. p < other_id k) (parents_at flats (other_id k)) (λ p i. (parent-below flats lawful (other_id k) p i).0))

-- a strip is planned over what a move of nothing is
as-move : (tables : PlainTables) (bytes ids : List ℕ) (w : World Name) (given : List Name) (s : MayStrip tables bytes ids w given) (none : PlainPending) → ArePending w none [] → MayMove tables bytes none [] w [] []
as-move tables bytes ids w given s none p = record {
  added = s.added;
  tables_of = s.tables_of;
  stand = s.stand;
  stand_for = s.stand_for;
  world = s.world;
  pending_rows = p;
  known = tt;
  numbers_are = refl;
}

pub is-strip : (tables : PlainTables) (bytes ids : List ℕ) (w : World Name) (given : List Name) (s : MayStrip tables bytes ids w given) (none : PlainPending) → ArePending w none []
    → (flats : List Segment) → IsLawful flats → (stored behind : List ℕ) (count more before : ℕ)
    → ((added : List Placed) → AreTablesOf tables added → AllStand bytes added → StandFor (payloads_of added) w → ArePending w none [] → AreSegmentsOf (with_pending w []) flats)
    → stored ≡ take (20 * tables.others.count) (drop tables.others.names bytes) → behind ≡ none.names → count ≡ tables.others.count → more ≡ length none.places → before ≡ tables.flat.end
    → (graph : List (List ℕ)) → graph ≡ table_rows flats (count + more) → (kept : List ℕ) → AreKept graph (count + more) ids kept
    → IsStrip s.added (stored ++ behind) graph (count + more) before kept w given
is-strip tables bytes ids w given s none p flats lawful stored behind count more before view hs hb hc hm he graph g kept k =
    let m = as-move tables bytes ids w given s none p in
    let f = move-facts tables bytes none [] flats stored behind count more before w [] [] m view hs hb hc hm he in
    let o = others-facts tables bytes s.added s.tables_of s.stand in
    let v = with_pending w [] in
    let n = length (w.others ++ []) in
    let same : with_pending w [] ≡ w = ap (λ l. record { master = w.master; others = l }) (append-nil w.others) in
    let world : IsWorld (with_pending w []) = subst (IsWorld {N = Name}) (sym same) s.world.world in
    let parents = λ (i : ℕ). parents_at flats (other_id i) in
    let name = λ (i : ℕ). name_at (stored ++ behind) i in
    let pa = parents-are w [] world flats f.segments f.small f.names_whole [] tt in
    let np = no-parents w [] world flats f.segments f.small f.names_whole [] tt in
    let na : (i : ℕ) (r : Row Name) → slice_get (w.others ++ []) i ≡ Some r → name_at (stored ++ behind) i ≡ r.name = λ i r e. ap (λ b. name_at b i) f.names_are ∙ names-are w [] world flats f.segments f.small f.names_whole [] tt i r e in
    let others : AreAllIn given (names_of v.others) = subst (λ (z : World Name). AreAllIn given (names_of z.others)) (sym same) s.others in
    let ids_are : ids ≡ map (id_in same_name v) given = s.ids_are ∙ ap (λ z. map (id_in same_name z) given) (sym same) in
    let q = subst (λ c. AreKept graph c ids kept) f.n_is k in
    let g2 = subst (λ c. graph ≡ table_rows flats c) f.n_is g in
    let graph_is : (i : ℕ) → i < n → get_or graph i [] ≡ parents_at flats (other_id i) = λ i lt. ap (λ l. get_or l i []) g2 ∙ row-of flats n i lt in
    let whole = filter (λ i. not (get_or q.marks i false)) (upward 0 n) in
    let is : IsStrip s.added (stored ++ behind) graph n (length w.master) whole v given = record {
      hold = subst (HoldPayloads (payloads_of s.added)) (sym same) (record { lawful = s.tables_of.lawful; stand = s.stand_for; world = s.world });
      n_is = refl;
      before_is = refl;
      small = f.small;
      few = (let e = f.n_is in let a = none-placed none p.held in let few = o.few in let c = o.count in omega (arith, e, a, few, c, hc, hm));
      short = kept-long v world f.small parents name pa np na given others ids ids_are graph graph_is q.given q.marks q.given_are q.given_long q.spread;
      rows = subst (AreRowsBelow n) (sym g2) (table-below flats lawful n);
      size = others-size v world f.small parents name pa np na given others ids ids_are graph graph_is q.given q.marks q.given_are q.given_long q.spread;
      below = kept-below v world f.small parents name pa np na given others ids ids_are graph graph_is q.given q.marks q.given_are q.given_long q.spread;
      change = λ new_ids a. strip-same v world f.small parents name pa np na given others ids ids_are graph graph_is q.given q.marks q.given_are q.given_long q.spread new_ids a.each (stored ++ behind) (λ i lt. refl);
      whole = all-kept v world f.small parents name pa np na given others ids ids_are graph graph_is q.given q.marks q.given_are q.given_long q.spread;
    } in
    subst (λ z. IsStrip s.added (stored ++ behind) graph (count + more) before kept z given) same
    (subst (λ c. IsStrip s.added (stored ++ behind) graph c before kept v given) (sym f.n_is)
    (subst (λ b. IsStrip s.added (stored ++ behind) graph n b kept v given) (sym f.before_is)
    (subst (λ l. IsStrip s.added (stored ++ behind) graph n (length w.master) l v given) (sym q.kept_are) is)))
