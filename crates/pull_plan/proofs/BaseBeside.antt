-- The flat segments of the newest base, cut at the cloned count: those of the payloads' master ids.
use Rattle.std.proofs.Common.{◌≡◌, ◌≤◌, ◌+◌, ◌-◌, ◌^◌, ℕ, Bool, true, false, List, [], ◌∷◌, ◌++◌, length, flat_map, min, nat_lt, nat_le, Option, Some, None, refl, sym, ap, ap₂, subst, ◌∙◌, arith, lit≤, zero-le, append-nil, if◌then◌else◌}
use Rattle.std.specs.List.{AllByRecursion}
use Rattle.id_groups.specs.Name.{Name, same_name}
use Rattle.commit_graph.specs.World.{World, IsWorld}
use Rattle.commit_graph.specs.Ids.{parent_ids}
use Rattle.segment_codec.specs.Record.{Segment}
use Rattle.segment_codec.specs.Turns.{is_only}
use Rattle.segment_rules.specs.Flat.{single, with_id, flat_segments_of, parents_listed}
use Rattle.batch_codec.specs.Payload.{Payload}
use Rattle.batch_codec.specs.Grammar.{cut_below}
use Rattle.name_map.specs.Added.{Placed, payloads_of, AllStand}
use Rattle.remote_rules.specs.CloneData.{CloneData, first_false, first_some}
use Rattle.change_rules.specs.Tables.{StandFor, known_in, cloned_count}
use Rattle.change_rules.specs.Disagree.{first_unlike, segments_agree}
use Rattle.payload_tables.specs.declared.base.BaseRef.{BaseRef}
use Rattle.payload_tables.specs.Kept.{PlainTables, AreTablesOf}
use Rattle.payload_tables.specs.Pending.{PlainPending, HoldsRows}
use Rattle.payload_tables.specs.Bases.{ArePending, MayView, flat_segments_in}
use Rattle.payload_tables.proofs.Lists.{names-length}
use Rattle.pull_plan.specs.Pulling.{unlike_segment, unlike_name}
use Rattle.change_parts.proofs.Invented.{Stands, some-world}
use Rattle.change_parts.proofs.TableFacts.{tables-count}
use Rattle.rebase_pending.proofs.Stepping.{no-rows-viewed}
use Rattle.pull_plan.proofs.Beside.{cut-above}
use Rattle.pull_plan.proofs.StoredBeside.{cloned-small}

-- ---- segments from an id on

with-lows : (below id : ℕ) (p : List ℕ) (ss : List Segment) → below ≤ id → AllByRecursion (λ (s : Segment). below ≤ s.low) ss → AllByRecursion (λ (s : Segment). below ≤ s.low) (with_id id p ss)
with-lows below id p [] le h = (le, tt)
with-lows below id p (next ∷ more) le h = by_test (is_only id next.parents)
  where
    by_test : (b : Bool) → AllByRecursion (λ (s : Segment). below ≤ s.low) (if b then record { low = id; high = next.high; level = 0; parents = p } ∷ more else single id p ∷ next ∷ more)
    by_test true = (le, h.1)
    by_test false = (le, h)

lows-from : (below first : ℕ) (ps : List (List ℕ)) → below ≤ first → AllByRecursion (λ (s : Segment). below ≤ s.low) (flat_segments_of first ps)
lows-from below first [] le = tt
lows-from below first (p ∷ ps) le = with-lows below first p (flat_segments_of (first + 1) ps) le (lows-from below (first + 1) ps (omega (arith, le)))

cut-append : (below : ℕ) (a b : List Segment) → cut_below below (a ++ b) ≡ cut_below below a ++ cut_below below b
cut-append below [] b = refl
cut-append below (s ∷ a) b = by_test (nat_lt s.low below) (cut-append below a b)
  where
    by_test : (t : Bool) → cut_below below (a ++ b) ≡ cut_below below a ++ cut_below below b
        → (if t then record s { high = min s.high (below - 1) } ∷ cut_below below (a ++ b) else cut_below below (a ++ b))
        ≡ (if t then record s { high = min s.high (below - 1) } ∷ cut_below below a else cut_below below a) ++ cut_below below b
    by_test true h = ap (λ l. record s { high = min s.high (below - 1) } ∷ l) h
    by_test false h = h

-- ---- the base

first-joined : (a b c : Option ℕ) → first_some a (first_some b c) ≡ first_some (first_some a b) c
first-joined None b c = refl
first-joined (Some n) b c = refl

module _ (tables : PlainTables) (bytes : List ℕ) (none : PlainPending) (held : HoldsRows none []) (first : none.first ≡ tables.others.count) (added : List Placed) (t : AreTablesOf tables added) (stand : AllStand bytes added) where
  pub view-may : (b : BaseRef) → MayView b added none
  view-may b = no-rows-viewed b added none (first ∙ tables-count tables bytes added t stand) held

  some-stands : Stands (payloads_of added) []
  some-stands = some-world (payloads_of added) t.lawful [] (record { parents = tt; distinct = tt; whole = tt; few = zero-le; new = λ x i d. absurd i })

  none-behind : (w : World Name) → StandFor (payloads_of added) w → IsWorld w → ArePending w none []
  none-behind w s world = record {
    first = first ∙ tables-count tables bytes added t stand ∙ ap (length {A = Name}) s.names ∙ names-length w.others;
    held = held;
    view = subst (IsWorld {N = Name}) (ap (λ l. record { master = w.master; others = l }) (sym (append-nil w.others))) world;
  }

  abbrev mine : List Segment
  mine = flat_segments_of 0 (parents_listed (flat_map (λ (p : Payload). p.master) (payloads_of added)))

  module _ (flats : List Segment) (are : (w : World Name) → StandFor (payloads_of added) w → ArePending w none [] → flats ≡ flat_segments_in w ++ []) (cloned : ℕ) (is : cloned ≡ cloned_count (payloads_of added)) where
    flats-cut : cut_below cloned flats ≡ cut_below cloned mine
    flats-cut =
        let s = some-stands in
        let w = s.of_world in
        let small = cloned-small tables added t in
        let masters = flat_segments_of 0 (parent_ids same_name w w.master) in
        let others = flat_segments_of (2 ^ 56) (parent_ids same_name w w.others) in
        let k : 16777216 ≤ 2 ^ 56 = lit≤ tt in
        ap (cut_below cloned) (are w s.stand (none-behind w s.stand s.named.world) ∙ append-nil (flat_segments_in w))
        ∙ cut-append cloned masters others
        ∙ ap (λ l. cut_below cloned masters ++ l) (cut-above cloned others (lows-from cloned (2 ^ 56) (parent_ids same_name w w.others) (omega (arith, small, is, k))))
        ∙ append-nil (cut_below cloned masters)
        ∙ ap (λ ps. cut_below cloned (flat_segments_of 0 ps)) (sym s.stand.master)

    -- the first unlike item is that of the base's segments, or else of the names
    pub first-told : (told : CloneData) (segment name : Option ℕ) → segment ≡ unlike_segment told.segments flats cloned (length told.segments + length told.names + length told.heads)
        → name ≡ unlike_name told.names (known_in (payloads_of added)) cloned (length told.segments)
        → first_unlike (payloads_of added) (cloned_count (payloads_of added)) told ≡ first_some segment name
    first-told told segment name a b =
        let items = length told.segments + length told.names + length told.heads in
        ap (λ n. first_unlike (payloads_of added) n told) (sym is)
        ∙ first-joined (first_false 0 (segments_agree (cut_below cloned told.segments) (cut_below cloned mine))) (first_false items (nat_le (length (cut_below cloned mine)) (length (cut_below cloned told.segments)) ∷ []))
        (unlike_name told.names (known_in (payloads_of added)) cloned (length told.segments))
        ∙ ap₂ first_some
        (ap (λ (l : List Segment). first_some (first_false 0 (segments_agree (cut_below cloned told.segments) l)) (first_false items (nat_le (length l) (length (cut_below cloned told.segments)) ∷ []))) (sym flats-cut) ∙ sym a)
        (sym b)
