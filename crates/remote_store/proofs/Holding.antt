-- A log whose bytes hold a world in which each commit has a known name tells that world's master.
use Rattle.std.proofs.Common.{◌≡◌, ◌≤◌, ◌<◌, ℕ, Bool, true, false, not, ◌&&◌, List, [], ◌∷◌, ◌++◌, Some, None, length, map, flat_map, refl, sym, ap, ap₂, ◌∙◌, arith, nat_eq, nat_lt, nat_le, true≢false, ⊎_elim, if◌then◌else◌}
use Rattle.std.specs.Prelude.{option_and_then}
use Rattle.std.specs.List.{AllByRecursion, range_with_len}
use Rattle.std.specs.Cmp.Lexicographic.{pointwise}
use Rattle.std.proofs.lemmas.Bool.{eq-eqb, le-leb, lt-ltb}
use Rattle.std.proofs.lemmas.List.{length-map}
use Rattle.id_groups.specs.Lists.{AreDistinct, is_in}
use Rattle.id_groups.specs.Name.{Name, same_name}
use Rattle.id_groups.proofs.Names.{same_name-exact, same_name-self}
use Rattle.id_groups.proofs.Listing.{both_true, true_not, found, in-any}
use Rattle.commit_graph.specs.World.{World}
use Rattle.batch_codec.specs.Payload.{Payload, Known, known_names}
use Rattle.batch_codec.specs.Grammar.{count_after, head_names, cloned_head_names}
use Rattle.segment_codec.specs.Record.{Segment}
use Rattle.segment_codec.proofs.Tables.{le_or_lt}
use Rattle.segment_rules.specs.NewLevels.{same_segment}
use Rattle.segment_levels.proofs.Coming as levels
use Rattle.payload_tables.proofs.Lists.{same-self, same-exact}
use Rattle.change_rules.specs.Lawful.{MayFollow, AreLawful, levels_with}
use Rattle.change_rules.specs.Change.{text_of}
use Rattle.change_rules.specs.Holding.{HoldAs, AreSpelled}
use Rattle.change_rules.specs.Lazy.{is_lazy, has_lazy}
use Rattle.change_rules.specs.Tables.{StandFor, known_in}
use Rattle.change_parts.proofs.Fresh.{fresh-number}
use Rattle.remote_store.specs.Told.{are_apart, are_no_later, begins_with, heads_fit, levels_fit, goes_on, may_follow, are_lawful, told_by, told_in, master_rows, master_told}
use Rattle.remote_answers.proofs.Marking.{range-in}
use Rattle.remote_store.proofs.Telling.{payloads-again, rows-are}
use Rattle.remote_store.proofs.Texts.{within-texts}

-- ---- tests of payloads

apart-true : (xs : List Name) → AreDistinct xs → are_apart xs ≡ true
apart-true [] h = refl
apart-true (x ∷ xs) h = both_true (not (is_in same_name x xs)) (are_apart xs) (true_not (is_in same_name x xs) (λ e. h.0 (found same_name same_name-exact same_name-self x xs e))) (apart-true xs h.1)

names-same : (xs : List Name) → pointwise same_name xs xs ≡ true
names-same [] = refl
names-same (x ∷ xs) = both_true (same_name x x) (pointwise same_name xs xs) (same_name-self x) (names-same xs)

nothing-in : (before : List Payload) → before ≡ [] → nat_eq (length before) 0 ≡ true
nothing-in before e = ap (λ (l : List Payload). nat_eq (length l) 0) e

no-later : (version : ℕ) (before : List Payload) → AllByRecursion (λ (q : Payload). q.version ≤ version) before → are_no_later version before ≡ true
no-later version [] h = refl
no-later version (q ∷ before) h = both_true (nat_le q.version version) (are_no_later version before) (le-leb q.version version h.0) (no-later version before h.1)

begins-true : (kind : ℕ) (heads : List Name) (before : List Payload) (p : Payload) → (p.kind ≡ kind → before ≡ []) → (p.kind ≡ kind → p.heads ≡ heads) → begins_with kind heads before p ≡ true
begins-true kind heads before p first has = by_test (nat_eq p.kind kind) refl
  where
    by_test : (b : Bool) → nat_eq p.kind kind ≡ b → (if b then nat_eq (length before) 0 && pointwise same_name p.heads heads else true) ≡ true
    by_test true e =
        let is : p.kind ≡ kind = same-exact p.kind kind e in
        both_true (nat_eq (length before) 0) (pointwise same_name p.heads heads) (nothing-in before (first is)) (ap (λ l. pointwise same_name l heads) (has is) ∙ names-same heads)
    by_test false e = refl

segments-same : (xs : List Segment) → pointwise same_segment xs xs ≡ true
segments-same [] = refl
segments-same (x ∷ xs) = both_true (same_segment x x) (pointwise same_segment xs xs) (levels.same-self x) (segments-same xs)

levels-true : (before : List Payload) (p : Payload) → (p.version ≡ 2 → p.levels ≡ levels_with before p) → levels_fit before p ≡ true
levels-true before p has = by_test (nat_eq p.version 2) refl
  where
    by_test : (b : Bool) → nat_eq p.version 2 ≡ b → (if b then pointwise same_segment p.levels (levels_with before p) else true) ≡ true
    by_test true e =
        ap (λ l. pointwise same_segment l (levels_with before p)) (has (same-exact p.version 2 e)) ∙ segments-same (levels_with before p)
    by_test false e = refl

follows-true : (before : List Payload) (p : Payload) → MayFollow before p → may_follow before p ≡ true
follows-true before p h =
    both_true (goes_on before p) (are_apart (flat_map known_names (before ++ p ∷ []) ++ p.other_names))
    (both_true (nat_eq p.before (count_after 0 before) && are_no_later p.version before) (heads_fit before p && levels_fit before p)
    (both_true (nat_eq p.before (count_after 0 before)) (are_no_later p.version before) (eq-eqb p.before (count_after 0 before) h.count) (no-later p.version before h.version))
    (both_true (heads_fit before p) (levels_fit before p)
    (both_true (begins_with 2 (head_names p) before p) (begins_with 3 (cloned_head_names p) before p)
    (begins-true 2 (head_names p) before p h.clone_first h.clone_heads)
    (begins-true 3 (cloned_head_names p) before p h.whole_first h.whole_heads))
    (levels-true before p h.levels)))
    (apart-true (flat_map known_names (before ++ p ∷ []) ++ p.other_names) h.distinct)

lawful-true : (before payloads : List Payload) → AreLawful before payloads → are_lawful before payloads ≡ true
lawful-true before [] h = refl
lawful-true before (p ∷ more) h =
    both_true (may_follow before p) (are_lawful (before ++ p ∷ []) more) (follows-true before p h.0) (lawful-true (before ++ p ∷ []) more h.1)

-- ---- no commit is without a name

named-of : (payloads : List Payload) (w : World Name) (id : ℕ) → has_lazy payloads w ≡ false → id < length w.master → is_in nat_eq id (map (λ (k : Known). k.id) (known_in payloads)) ≡ true
named-of payloads w id e lt = by_test (is_in nat_eq id (map (λ (k : Known). k.id) (known_in payloads))) refl
  where
    by_test : (b : Bool) → is_in nat_eq id (map (λ (k : Known). k.id) (known_in payloads)) ≡ b → b ≡ true
    by_test true f = refl
    by_test false f = absurd (true≢false (sym (in-any (is_lazy payloads w) (range_with_len 0 (length w.master)) id (range-in 0 (length w.master) id (omega arith) (omega (arith, lt)))
        (both_true (nat_lt id (length w.master)) (not (is_in nat_eq id (map (λ (k : Known). k.id) (known_in payloads)))) (lt-ltb id (length w.master) lt) (ap not f))) ∙ e))

pub all-known : (payloads : List Payload) (w : World Name) → StandFor payloads w → has_lazy payloads w ≡ false → count_after 0 payloads ≤ length (known_in payloads)
all-known payloads w stand e = ⊎_elim (λ le. le) (λ lt. absurd (few lt)) (le_or_lt (count_after 0 payloads) (length (known_in payloads)))
  where
    few : length (known_in payloads) < count_after 0 payloads → ⊥
    few lt =
        let size : length (map (λ (k : Known). k.id) (known_in payloads)) ≡ length (known_in payloads) = length-map (known_in payloads) (λ (k : Known). k.id) in
        let t = fresh-number (length (known_in payloads)) (map (λ (k : Known). k.id) (known_in payloads)) (omega (arith, size)) in
        let c = stand.count in
        let le = t.1 in
        t.2 (found nat_eq same-exact same-self t.0 (map (λ (k : Known). k.id) (known_in payloads)) (named-of payloads w t.0 e (omega (arith, le, lt, c))))

spelled-texts : (texts : List (List ℕ)) (payloads : List Payload) → AreSpelled texts payloads → texts ≡ map text_of payloads
spelled-texts [] [] z = refl
spelled-texts [] (p ∷ payloads) z = absurd z
spelled-texts (t ∷ texts) [] z = absurd z
spelled-texts (t ∷ texts) (p ∷ payloads) z = ap₂ (λ a b. a ∷ b) z.0 (spelled-texts texts payloads z.1)

pub held-told : (limit : ℕ) (bytes : List ℕ) (payloads : List Payload) (w : World Name) → HoldAs limit bytes payloads w → has_lazy payloads w ≡ false → master_told limit bytes ≡ Some w.master
held-told limit bytes payloads w h e =
    let whole = all-known payloads w h.hold.stand e in
    ap (option_and_then told_in) (within-texts limit bytes h.texts h.within h.log)
    ∙ ap told_in (spelled-texts h.texts payloads h.spelled)
    ∙ ap (option_and_then told_by) (payloads-again [] payloads h.hold.lawful)
    ∙ ap (λ (b : Bool). if b then Some (master_rows payloads) else None) (both_true (are_lawful [] payloads) (nat_le (count_after 0 payloads) (length (known_in payloads))) (lawful-true [] payloads h.hold.lawful) (le-leb (count_after 0 payloads) (length (known_in payloads)) whole))
    ∙ ap (λ z. Some z) (rows-are payloads w h.hold.lawful h.hold.stand h.hold.world whole)
