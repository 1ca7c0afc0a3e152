-- What an honest remote tells of a master that begins with the cloned rows is that master, and agrees with what is stored.
use Rattle.std.proofs.Common.{◌≡◌, ◌≤◌, ℕ, zero, suc, Bool, true, false, inl, inr, List, [], ◌∷◌, ◌++◌, length, map, take, drop, Option, Some, None, refl, sym, ap, ap₂, subst, ◌∙◌, ⊎_elim, true≢false, arith, if◌then◌else◌}
use Rattle.std.specs.Prelude.{slice_get}
use Rattle.std.specs.List.{cons_option}
use Rattle.std.proofs.lemmas.List.{take-append-drop, take-map, map-append}
use Rattle.change_parts.specs.Plans.{clone_fault, first_fault}
use Rattle.id_groups.specs.Lists.{IsIn}
use Rattle.id_groups.specs.Name.{Name, same_name}
use Rattle.id_groups.specs.Id.{other_id}
use Rattle.id_groups.proofs.Names.{same_name-exact, same_name-self}
use Rattle.id_groups.proofs.Listing.{there}
use Rattle.commit_graph.specs.World.{Row, World, IsNamedWorld, names_of}
use Rattle.commit_graph.specs.Ids.{place_of, id_in, parent_ids}
use Rattle.commit_graph.proofs.Histories.{in-all}
use Rattle.commit_graph.proofs.Places.{world-master}
use Rattle.segment_rules.specs.Flat.{parents_listed}
use Rattle.segment_rules.proofs.Flats.{flat-keeps}
use Rattle.batch_codec.specs.Payload.{Payload}
use Rattle.batch_codec.specs.Grammar.{IsFlush, IsClone, IsWholePayload, count_after}
use Rattle.name_map.specs.Added.{Placed, payloads_of}
use Rattle.remote_rules.specs.CloneData.{CloneData}
use Rattle.remote_rules.specs.Known.{master_world}
use Rattle.remote_rules.specs.Honest.{clone_data_of}
use Rattle.remote_rules.specs.Clones.{IsCloneOf}
use Rattle.change_rules.specs.Lawful.{AreLawful}
use Rattle.change_rules.specs.Tables.{cloned_count}
use Rattle.change_rules.specs.Holding.{HoldPayloads}
use Rattle.change_rules.specs.Disagree.{first_unlike, first_bad_row}
use Rattle.change_rules.proofs.Changes.{parents-known}
use Rattle.change_rules.proofs.Agreeing.{none-unlike, none-bad}
use Rattle.change_rules.proofs.Relation.{clones-are}
use Rattle.payload_tables.proofs.Lists.{count-last}
use Rattle.mirror_set.specs.Fresh.{PlainFresh}
use Rattle.pull_plan.specs.Pulling.{names_at_all, rows_with, told_names, told_rows, row_fault, mismatch}

-- ---- names by their places

place-gives : (names : List Name) (x : Name) → IsIn x names → slice_get names (place_of same_name x names) ≡ Some x
place-gives [] x i = absurd i
place-gives (y ∷ ys) x i = by_test (same_name y x) refl i (place-gives ys x)
  where
    by_test : (b : Bool) → same_name y x ≡ b → IsIn x (y ∷ ys) → (IsIn x ys → slice_get ys (place_of same_name x ys) ≡ Some x) → slice_get (y ∷ ys) (if b then 0 else suc (place_of same_name x ys)) ≡ Some x
    by_test true e j rec = ap Some (same_name-exact y x e)
    by_test false e (inl g) rec = absurd (true≢false (sym (subst (λ z. same_name z x ≡ true) g (same_name-self x)) ∙ e))
    by_test false e (inr j) rec = rec j

id-gives : (rows : List (Row Name)) (x : Name) → IsIn x (names_of rows) → slice_get (names_of rows) (id_in same_name (master_world rows) x) ≡ Some x
id-gives rows x i =
    ap (λ b. slice_get (names_of rows) (if b then place_of same_name x (names_of rows) else other_id (place_of same_name x []))) (there same_name same_name-exact same_name-self x (names_of rows) i)
    ∙ place-gives (names_of rows) x i

names-again : (all : List Name) (f : Name → ℕ) (xs : List Name) → ((x : Name) → IsIn x xs → slice_get all (f x) ≡ Some x) → names_at_all all (map f xs) ≡ xs
names-again all f [] h = refl
names-again all f (x ∷ xs) h = ap (λ o. cons_option o (names_at_all all (map f xs))) (h x (inl refl)) ∙ ap (λ l. x ∷ l) (names-again all f xs (λ y i. h y (inr i)))

rows-again : (all : List Name) (f : Name → ℕ) (rows : List (Row Name)) → ((row : Row Name) → IsIn row rows → (x : Name) → IsIn x row.parents → slice_get all (f x) ≡ Some x)
    → rows_with all (names_of rows) (map (λ (row : Row Name). map f row.parents) rows) ≡ rows
rows-again all f [] h = refl
rows-again all f (row ∷ rows) h =
    ap₂ (λ (ps : List Name) (l : List (Row Name)). record { name = row.name; parents = ps } ∷ l) (names-again all f row.parents (h row (inl refl))) (rows-again all f rows (λ r i. h r (inr i)))

-- a master's rows are told by its clone data and its names
pub master-again : (rows : List (Row Name)) → IsNamedWorld (master_world rows) → rows_with (names_of rows) (names_of rows) (parents_listed (clone_data_of (master_world rows)).segments) ≡ rows
master-again rows named =
    let w = master_world rows in
    ap (rows_with (names_of rows) (names_of rows)) (flat-keeps 0 (parent_ids same_name w rows))
    ∙ rows-again (names_of rows) (id_in same_name w) rows (λ row i x j. id-gives rows x (in-all x row.parents (names_of rows) j (parents-known [] rows (world-master rows named.world) row i)))

-- ---- a list cut and joined again

cut-long : {X : Type 0} (n : ℕ) (xs : List X) → n ≤ length xs → length (take n xs) ≡ n
cut-long zero xs le = refl
cut-long (suc n) [] le = absurd (omega (arith, le))
cut-long (suc n) (x ∷ xs) le = ap suc (cut-long n xs (omega (arith, le)))

left-behind : {X : Type 0} (n : ℕ) (xs ys : List X) → n ≤ length xs → drop n (take n xs ++ ys) ≡ ys
left-behind zero xs ys le = refl
left-behind (suc n) [] ys le = absurd (omega (arith, le))
left-behind (suc n) (x ∷ xs) ys le = left-behind n xs ys (omega (arith, le))

-- ---- what an honest remote tells

pub told-again : (w : World Name) (rows more : List (Row Name)) (cloned : ℕ) (fresh : PlainFresh) → cloned ≤ length w.master → rows ≡ take cloned w.master ++ more → IsNamedWorld (master_world rows)
    → fresh.cloned ≡ clone_data_of (master_world rows) → fresh.names ≡ names_of (drop cloned rows) → told_rows w cloned fresh ≡ rows
told-again w rows more cloned fresh le are named told fetched =
    let behind : drop cloned rows ≡ more = ap (drop cloned) are ∙ left-behind cloned w.master more le in
    let names : told_names w cloned fresh.names ≡ names_of rows =
    ap₂ (λ (a b : List Name). a ++ b) (take-map (λ (r : Row Name). r.name) cloned w.master) (fetched ∙ ap names_of behind)
    ∙ sym (map-append (λ (r : Row Name). r.name) (take cloned w.master) more) ∙ ap names_of (sym are) in
    ap₂ (λ (a : List Name) (t : CloneData). rows_with a a (parents_listed t.segments)) names told ∙ master-again rows named

grown : (before more : List Payload) → AreLawful before more → count_after 0 before ≤ count_after (count_after 0 before) more
grown before [] h = omega arith
grown before (p ∷ more) h =
    let last = count-last 0 before p in
    let up = h.0.whole.counts.grows in let count = h.0.count in
    let rec = subst (λ n. n ≤ count_after n more) last (grown (before ++ p ∷ []) more h.1) in
    omega (arith, up, count, rec)

pub cloned-within : (payloads : List Payload) (w : World Name) → HoldPayloads payloads w → cloned_count payloads ≤ length w.master
cloned-within payloads w hold = subst (λ n. cloned_count payloads ≤ n) hold.stand.count (by_first payloads hold.lawful)
  where
    by_first : (ps : List Payload) → AreLawful [] ps → cloned_count ps ≤ count_after 0 ps
    by_first [] h = omega arith
    by_first (p ∷ more) h =
        let up = grown (p ∷ []) more h.1 in
        ⊎_elim
        (λ (f : IsFlush p). let e = f.cloned in omega (arith, e))
        (⊎_elim (λ (f : IsClone p). let e = f.cloned in omega (arith, e, up)) (λ (f : IsWholePayload p). let le = f.cloned in omega (arith, le, up)))
        h.0.whole.by_kind

pub told-agrees : (added : List Placed) (w : World Name) (rows more : List (Row Name)) (fresh : PlainFresh) → HoldPayloads (payloads_of added) w → rows ≡ take (cloned_count (payloads_of added)) w.master ++ more
    → IsNamedWorld (master_world rows) → fresh.cloned ≡ clone_data_of (master_world rows) → fresh.names ≡ names_of (drop (cloned_count (payloads_of added)) rows) → mismatch added fresh ≡ None
told-agrees added w rows more fresh hold are named told fetched =
    let payloads = payloads_of added in
    let cloned = cloned_count payloads in
    let front = take cloned w.master in
    let rest = drop cloned w.master in
    let le = cloned-within payloads w hold in
    let long = cut-long cloned w.master le in
    let mine : w.master ≡ front ++ rest = sym (take-append-drop cloned w.master) in
    let world : IsNamedWorld (master_world (front ++ more)) = subst (λ l. IsNamedWorld (master_world l)) are named in
    let names : fresh.names ≡ names_of more = fetched ∙ ap (λ l. names_of (drop cloned l)) are ∙ ap names_of (left-behind cloned w.master more le) in
    let tells : fresh.cloned ≡ clone_data_of (master_world (front ++ more)) = told ∙ ap (λ l. clone_data_of (master_world l)) are in
    let first : first_unlike payloads cloned fresh.cloned ≡ None =
    ap₂ (first_unlike payloads) (sym long) tells ∙ none-unlike payloads w front rest more hold mine world in
    let row : first_bad_row payloads cloned fresh.cloned fresh.names ≡ None =
    ap₂ (λ (n : ℕ) (t : CloneData). first_bad_row payloads n t fresh.names) (sym long) tells ∙ ap (first_bad_row payloads (length front) (clone_data_of (master_world (front ++ more)))) names
    ∙ none-bad payloads w front rest more hold mine world in
    ap₂ (λ (a b : Option ℕ). first_fault (clone_fault a) (row_fault b)) first row

-- both, of clone data by what holds of each item
pub honest-told : (added : List Placed) (w : World Name) (rows more : List (Row Name)) (fresh : PlainFresh) → HoldPayloads (payloads_of added) w → IsNamedWorld (master_world rows)
    → rows ≡ take (cloned_count (payloads_of added)) w.master ++ more → IsCloneOf rows fresh.cloned → fresh.names ≡ names_of (drop (cloned_count (payloads_of added)) rows)
    → (told_rows w (cloned_count (payloads_of added)) fresh ≡ rows) × (mismatch added fresh ≡ None)
honest-told added w rows more fresh hold named are clone fetched =
    let told = (clones-are rows named fresh.cloned).0 clone in (
      told-again w rows more (cloned_count (payloads_of added)) fresh (cloned-within (payloads_of added) w hold) are named told fetched,
      told-agrees added w rows more fresh hold are named told fetched,
    )
