-- Tables that are made of many payloads at once.
use Rattle.std.proofs.Common.{◌≡◌, ℕ, List, [], ◌∷◌, ◌++◌, flat_map, None, Result, Ok, Err, refl, sym, ap, ◌∙◌, subst, append_assoc, append-nil}
use Rattle.std.specs.List.{AllByRecursion}
use Rattle.std.specs.Result.{IsErrAnd}
use Rattle.std.proofs.lemmas.List.{map-append}
use Rattle.id_groups.specs.Lists.{AreDistinct}
use Rattle.segment_codec.specs.Table.{Follow}
use Rattle.id_groups.specs.Name.{Name}
use Rattle.batch_codec.specs.Payload.{Payload, known_names}
use Rattle.batch_codec.specs.Grammar.{IsPayload, count_after}
use Rattle.change_rules.specs.Lawful.{AreLawful, MayFollow}
use Rattle.flat_segments.specs.Placed.{segments_of}
use Rattle.flat_segments.specs.Kept.{KeptFlats}
use Rattle.segment_levels.specs.Kept.{KeptLevels}
use Rattle.segment_levels.specs.Flats.{flats_of}
use Rattle.name_map.specs.declared.fault.MapFault.{MapFault}
use Rattle.name_map.specs.declared.fault.MapFault.TheVariants.{Double, Memory as MapMemory}
use Rattle.name_map.specs.Added.{Placed, payloads_of, FollowInLog as Following}
use Rattle.name_map.specs.Map.{PlainMap, IsMapOf}
use Rattle.name_map.specs.Build.{PlainNames, NamesFit}
use Rattle.name_map.proofs.More.{own-distinct}
use Rattle.change_rules.specs.Tables.{remote_heads, cloned_count}
use Rattle.payload_tables.specs.declared.fault.TableFault.{TableFault}
use Rattle.payload_tables.specs.declared.fault.TableFault.TheVariants.{Unlawful}
use Rattle.payload_tables.specs.Kept.{AreTablesOf, AreOthersOf, AreOthersIn, master_records, by_kind, map_fault, version_of, newest_version}
use Rattle.payload_tables.specs.Build.{PlainBuild, HasPlace, HavePlaces, ArePartsOf, IsBuildOf}
use Rattle.segment_codec.specs.Record.{Segment}
use Rattle.edge_index.specs.Index.{PlainEdges, IsEdgeIndexOf}
use Rattle.payload_tables.proofs.Lists.{last-of, count-last, flat-snoc}
use Rattle.payload_tables.proofs.Joined.{follow-join, follow-once}
use Rattle.payload_tables.proofs.Standing.{masters-segments}
use Rattle.payload_tables.proofs.Following.{heads-more, count-more, may-follow, lawful-more}

-- the master ids of payloads that follow one another
following-masters : (count : ℕ) (added : List Placed) → Following count added → Follow count (count_after count (payloads_of added)) (flat_map (λ p. p.master) (payloads_of added))
following-masters count [] f = refl
following-masters count (a ∷ added) f =
    follow-join count a.payload.after (count_after count (payloads_of (a ∷ added))) a.payload.master (flat_map (λ q. q.master) (payloads_of added))
    (subst (λ n. Follow n a.payload.after a.payload.master) f.1 f.0.cover.master) (following-masters a.payload.after added f.2)

pub parts-end : (table : KeptFlats) (levels : KeptLevels) (names : PlainNames) (added : List Placed) → ArePartsOf table levels names added → table.end ≡ count_after 0 (payloads_of added)
parts-end table levels names added b =
    follow-once 0 table.end (count_after 0 (payloads_of added)) (segments_of (master_records added)) b.flat.in_turn
    (subst (Follow 0 (count_after 0 (payloads_of added))) (sym (masters-segments added)) (following-masters 0 added b.names_of.follow))

-- ---- a payload more

places-more : (before more : List Payload) (p : Payload) → HavePlaces before more → HasPlace (before ++ more) p → HavePlaces before (more ++ p ∷ [])
places-more before [] p h f = (subst (λ l. HasPlace l p) (append-nil before) f, tt)
places-more before (q ∷ more) p h f = (h.0, places-more (before ++ q ∷ []) more p h.1 (subst (λ l. HasPlace l p) (sym (append_assoc before (q ∷ []) more)) f))

last-one : (P : Placed → Type 0) (added : List Placed) (a : Placed) → AllByRecursion P (added ++ a ∷ []) → P a
last-one P [] a h = h.0
last-one P (b ∷ added) a h = last-one P added a h.1

pub build-more : (build new : PlainBuild) (added : List Placed) (a : Placed) → IsBuildOf build added → IsPayload a.payload
    → HasPlace (payloads_of added) a.payload → ArePartsOf new.flat new.levels new.names (added ++ a ∷ [])
    → (AreDistinct a.payload.other_names → AreOthersOf new.others a)
    → new.heads ≡ by_kind a.payload.kind a.payload.heads build.heads → new.cloned ≡ by_kind a.payload.kind a.payload.cloned build.cloned → new.version ≡ a.payload.version → IsBuildOf new (added ++ a ∷ [])
build-more build new added a b h place parts others heads cloned version =
    let all : payloads_of (added ++ a ∷ []) ≡ payloads_of added ++ a.payload ∷ [] = map-append (λ (c : Placed). c.payload) added (a ∷ []) in
    record {
      places = subst (HavePlaces []) (sym all) (places-more [] (payloads_of added) a.payload b.places place);
      parts = parts;
      others = subst (AreOthersIn new.others) (sym (last-of None added a)) (others (last-one (λ (c : Placed). AreDistinct c.payload.other_names) added a parts.names_of.distinct));
      heads = heads ∙ ap (by_kind a.payload.kind a.payload.heads) b.heads ∙ heads-more (payloads_of added) a.payload h place.first ∙ ap remote_heads (sym all);
      cloned = cloned ∙ ap (by_kind a.payload.kind a.payload.cloned) b.cloned ∙ count-more (payloads_of added) a.payload h place.first ∙ ap cloned_count (sym all);
      version = version ∙ ap version_of (sym (last-of None (payloads_of added) a.payload)) ∙ ap newest_version (sym all);
    }

-- the own names of a payload that may come are distinct
pub own-names : (before : List Payload) (p : Payload) → MayFollow before p → AreDistinct (known_names p ++ p.other_names)
own-names before p may =
    own-distinct (flat_map known_names before) (known_names p) p.other_names
    (subst (λ (l : List Name). AreDistinct (l ++ p.other_names)) (flat-snoc known_names before p) may.distinct)

-- ---- all of them

lawful-of : (before : List Payload) (added : List Placed) → AreLawful [] before → Following (count_after 0 before) added → HavePlaces before (payloads_of added) → NamesFit before (payloads_of added) → AreLawful before (payloads_of added)
lawful-of before [] done f c n = tt
lawful-of before (a ∷ added) done f c n =
    let may = may-follow before a.payload done f.0 f.1 c.0 n.0 in (
      may,
      lawful-of (before ++ a.payload ∷ []) added (lawful-more [] before a.payload done may) (subst (λ m. Following m added) (sym (count-last 0 before a.payload)) f.2) c.1 n.1,
    )

pub names-fit : (before more : List Payload) → AreLawful before more → NamesFit before more
names-fit before [] h = tt
names-fit before (p ∷ more) h = (h.0.distinct, names-fit (before ++ p ∷ []) more h.1)

pub tables-of : (build : PlainBuild) (names : PlainMap) (edges : PlainEdges) (added : List Placed) → IsBuildOf build added → IsMapOf names added → NamesFit [] (payloads_of added)
    → ((flats : List Segment) → IsEdgeIndexOf edges flats)
    → AreTablesOf (record { flat = build.flat; levels = build.levels; names = names; others = build.others; heads = build.heads; cloned = build.cloned; version = build.version; edges = edges }) added
tables-of build names edges added b is fit index = record {
  lawful = lawful-of [] added tt b.parts.names_of.follow b.places fit;
  flat = b.parts.flat;
  levels = b.parts.levels_of;
  names = is;
  others = b.others;
  heads = b.heads;
  cloned = b.cloned;
  version = b.version;
  edges = index (flats_of build.flat (master_records added));
}

-- ---- faults handed on

double-of : (f : MapFault) → map_fault f ≡ Unlawful → f ≡ Double
double-of Double e = refl
double-of MapMemory e = absurd (cc e)

pub map-double : {T : Type 0} (r : Result T TableFault) (f : MapFault) → IsErrAnd r (λ g. g ≡ map_fault f) → r ≡ Err Unlawful → f ≡ Double
map-double (Ok v) f h e = absurd h
map-double (Err g) f h e = let same : g ≡ Unlawful = cc e in double-of f (sym h ∙ same)

pub fault-same : {T : Type 0} (r : Result T TableFault) (f : TableFault) → IsErrAnd r (λ g. g ≡ f) → r ≡ Err Unlawful → f ≡ Unlawful
fault-same (Ok v) f h e = absurd h
fault-same (Err g) f h e = let same : g ≡ Unlawful = cc e in sym h ∙ same
