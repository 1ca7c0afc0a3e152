-- Where a log as a remote tells a master, that is one, whatever the bytes are.
use Rattle.std.proofs.Common.{◌≡◌, ◌≤◌, ℕ, zero, suc, Bool, true, false, not, ◌&&◌, List, [], ◌∷◌, ◌++◌, Option, Some, None, length, flat_map, take, drop, refl, sym, ap₂, subst, ◌∙◌, arith, nat_eq, nat_lt, nat_le, true≢false, zero-le, if◌then◌else◌, IfSome}
use Rattle.std.specs.Prelude.{option_and_then, MatchOption}
use Rattle.std.specs.Option.{option_map}
use Rattle.std.specs.List.{AllByRecursion}
use Rattle.std.specs.Int.{w64, from_be_bytes}
use Rattle.std.specs.Cmp.Lexicographic.{pointwise}
use Rattle.std.proofs.lemmas.Bool.{eq-eqb, leb-true}
use Rattle.hex.specs.Hex.{IsBytes}
use Rattle.id_groups.specs.Lists.{AreDistinct, is_in}
use Rattle.id_groups.specs.Name.{Name, same_name}
use Rattle.id_groups.proofs.Names.{same_name-exact, same_name-self}
use Rattle.id_groups.proofs.Listing.{and_true, not_true, there}
use Rattle.commit_graph.specs.World.{Row}
use Rattle.segment_codec.specs.Record.{Segment}
use Rattle.segment_codec.specs.Reading.{◌>>=◌}
use Rattle.segment_codec.proofs.Lists.{bytes-take}
use Rattle.segment_rules.specs.NewLevels.{same_segment}
use Rattle.segment_levels.proofs.Coming as levels
use Rattle.batch_codec.specs.Payload.{Payload, known_names}
use Rattle.batch_codec.specs.Reading.{fixed_at, piece_at, payload_at}
use Rattle.batch_codec.specs.Grammar.{IsPayload, count_after, head_names, cloned_head_names}
use Rattle.batch_codec.proofs.Entries.{bytes-behind}
use Rattle.batch_codec.proofs.Payloads.{payload_takes}
use Rattle.change_rules.specs.Lawful.{MayFollow, AreLawful, levels_with}
use Rattle.change_rules.specs.Tables.{known_in}
use Rattle.payload_tables.proofs.Lists.{same-exact}
use Rattle.change_parts.proofs.Invented.{some-world}
use Rattle.remote_rules.specs.Honest.{IsSoundMirror, IsHonest, clone_data_of}
use Rattle.remote_rules.specs.Known.{master_world}
use Rattle.remote_trait.specs.Calls.{AreMaster}
use Rattle.remote_store.specs.Told.{text_behind, with_text, texts_from, texts_in, texts_within, payloads_in, are_apart, are_no_later, begins_with, heads_fit, levels_fit, goes_on, may_follow, are_lawful, are_whole, master_rows, told_by, told_in, master_told}
use Rattle.remote_store.specs.Remote.{PlainStore, bytes_in, rows_told, mirror_of}
use Rattle.remote_store.proofs.Telling.{rows-are}
use Rattle.remote_store.proofs.Mastering.{master-of}

some-one : {X : Type 0} (a b : X) → Some a ≡ Some b → a ≡ b
some-one a b e = cc

chosen-some : {X : Type 0} (b : Bool) (made x : X) → (if b then None else Some made) ≡ Some x → made ≡ x
chosen-some true made x e = cc
chosen-some false made x e = some-one made x e

-- ---- bytes of texts

fixed-rest : (bytes : List ℕ) (x : ℕ × List ℕ) → IsBytes bytes → fixed_at w64 bytes ≡ Some x → IsBytes x.1
fixed-rest bytes x h e =
    let made : ℕ × List ℕ = (from_be_bytes w64 (take 8 bytes), drop 8 bytes) in
    subst (λ (z : ℕ × List ℕ). IsBytes z.1) (chosen-some (nat_lt (length bytes) 8) made x e) (bytes-behind 8 bytes h)

piece-both : (n : ℕ) (bytes : List ℕ) (x : List ℕ × List ℕ) → IsBytes bytes → piece_at n bytes ≡ Some x → IsBytes x.0 × IsBytes x.1
piece-both n bytes x h e =
    let made : List ℕ × List ℕ = (take n bytes, drop n bytes) in
    subst (λ (z : List ℕ × List ℕ). IsBytes z.0 × IsBytes z.1) (chosen-some (nat_lt (length bytes) n) made x e) (bytes-take n bytes h, bytes-behind n bytes h)

text-both : (bytes : List ℕ) (x : List ℕ × List ℕ) → IsBytes bytes → text_behind bytes ≡ Some x → IsBytes x.0 × IsBytes x.1
text-both bytes x h e = by_count (fixed_at w64 bytes) refl e
  where
    by_count : (o : Option (ℕ × List ℕ)) → fixed_at w64 bytes ≡ o → (o >>= (λ c. piece_at c.0 c.1)) ≡ Some x → IsBytes x.0 × IsBytes x.1
    by_count None f g = cc g
    by_count (Some c) f g = piece-both c.0 c.1 x (fixed-rest bytes c h f) g

text-step : (most : ℕ) → ((bytes : List ℕ) (texts : List (List ℕ)) → IsBytes bytes → texts_from most bytes ≡ Some texts → AllByRecursion IsBytes texts)
    → (o : Option (List ℕ × List ℕ)) (texts : List (List ℕ)) → ((t : List ℕ × List ℕ) → o ≡ Some t → IsBytes t.0 × IsBytes t.1) → with_text o (texts_from most) ≡ Some texts → AllByRecursion IsBytes texts
text-step most rec None texts f e = cc e
text-step most rec (Some t) texts f e = more (texts_from most t.1) refl e
  where
    more : (o : Option (List (List ℕ))) → texts_from most t.1 ≡ o → option_map (λ ts. t.0 ∷ ts) o ≡ Some texts → AllByRecursion IsBytes texts
    more None g e = cc e
    more (Some ts) g e = subst (AllByRecursion IsBytes) (some-one (t.0 ∷ ts) texts e) ((f t refl).0, rec t.1 ts (f t refl).1 g)

gate-step : (b : Bool) (o : Option (List (List ℕ))) (texts : List (List ℕ)) → (o ≡ Some texts → AllByRecursion IsBytes texts) → (if b then o else Some []) ≡ Some texts → AllByRecursion IsBytes texts
gate-step true o texts f e = f e
gate-step false o texts f e = subst (AllByRecursion IsBytes) (some-one [] texts e) tt

texts-bytes : (most : ℕ) (bytes : List ℕ) (texts : List (List ℕ)) → IsBytes bytes → texts_from most bytes ≡ Some texts → AllByRecursion IsBytes texts
texts-bytes zero bytes texts h e = cc e
texts-bytes (suc most) [] texts h e = cc e
texts-bytes (suc most) (gate ∷ behind) texts h e =
    gate-step (nat_eq gate 1) (with_text (text_behind behind) (texts_from most)) texts
    (text-step most (texts-bytes most) (text_behind behind) texts (λ t f. text-both behind t (bytes-behind 1 (gate ∷ behind) h) f)) e

-- ---- payloads that passed the tests

apart-so : (xs : List Name) → are_apart xs ≡ true → AreDistinct xs
apart-so [] e = tt
apart-so (x ∷ xs) e =
    let t = and_true (not (is_in same_name x xs)) (are_apart xs) e in
    ((λ i. not_true (is_in same_name x xs) t.0 (there same_name same_name-exact same_name-self x xs i)), apart-so xs t.1)

names-one : (xs ys : List Name) → pointwise same_name xs ys ≡ true → xs ≡ ys
names-one [] [] e = refl
names-one [] (y ∷ ys) e = absurd (true≢false (sym e))
names-one (x ∷ xs) [] e = absurd (true≢false (sym e))
names-one (x ∷ xs) (y ∷ ys) e =
    let t = and_true (same_name x y) (pointwise same_name xs ys) e in
    ap₂ (λ a b. a ∷ b) (same_name-exact x y t.0) (names-one xs ys t.1)

empty-so : (before : List Payload) → nat_eq (length before) 0 ≡ true → before ≡ []
empty-so [] e = refl
empty-so (p ∷ before) e = let same = same-exact (suc (length before)) 0 e in absurd (omega (arith, same))

later-so : (version : ℕ) (before : List Payload) → are_no_later version before ≡ true → AllByRecursion (λ (q : Payload). q.version ≤ version) before
later-so version [] e = tt
later-so version (q ∷ before) e =
    let t = and_true (nat_le q.version version) (are_no_later version before) e in
    (leb-true q.version version t.0, later-so version before t.1)

begins-so : (kind : ℕ) (heads : List Name) (before : List Payload) (p : Payload) → begins_with kind heads before p ≡ true → p.kind ≡ kind → (before ≡ []) × (p.heads ≡ heads)
begins-so kind heads before p e is =
    let both = subst (λ b. (if b then (nat_eq (length before) 0 && pointwise same_name p.heads heads) else true) ≡ true) (eq-eqb p.kind kind is) e in
    let t = and_true (nat_eq (length before) 0) (pointwise same_name p.heads heads) both in
    (empty-so before t.0, names-one p.heads heads t.1)

segments-one : (xs ys : List Segment) → pointwise same_segment xs ys ≡ true → xs ≡ ys
segments-one [] [] e = refl
segments-one [] (y ∷ ys) e = absurd (true≢false (sym e))
segments-one (x ∷ xs) [] e = absurd (true≢false (sym e))
segments-one (x ∷ xs) (y ∷ ys) e =
    let t = and_true (same_segment x y) (pointwise same_segment xs ys) e in
    ap₂ (λ a b. a ∷ b) (levels.same-exact x y t.0) (segments-one xs ys t.1)

levels-so : (before : List Payload) (p : Payload) → levels_fit before p ≡ true → p.version ≡ 2 → p.levels ≡ levels_with before p
levels-so before p e is =
    segments-one p.levels (levels_with before p) (subst (λ b. (if b then pointwise same_segment p.levels (levels_with before p) else true) ≡ true) (eq-eqb p.version 2 is) e)

follows-so : (before : List Payload) (p : Payload) → IsPayload p → may_follow before p ≡ true → MayFollow before p
follows-so before p whole e =
    let t = and_true (goes_on before p) (are_apart (flat_map known_names (before ++ p ∷ []) ++ p.other_names)) e in
    let u = and_true (nat_eq p.before (count_after 0 before) && are_no_later p.version before) (heads_fit before p && levels_fit before p) t.0 in
    let counts = and_true (nat_eq p.before (count_after 0 before)) (are_no_later p.version before) u.0 in
    let v = and_true (heads_fit before p) (levels_fit before p) u.1 in
    let heads = and_true (begins_with 2 (head_names p) before p) (begins_with 3 (cloned_head_names p) before p) v.0 in
    record {
      whole = whole;
      count = same-exact p.before (count_after 0 before) counts.0;
      version = later-so p.version before counts.1;
      clone_first = λ kind. (begins-so 2 (head_names p) before p heads.0 kind).0;
      clone_heads = λ kind. (begins-so 2 (head_names p) before p heads.0 kind).1;
      whole_first = λ kind. (begins-so 3 (cloned_head_names p) before p heads.1 kind).0;
      whole_heads = λ kind. (begins-so 3 (cloned_head_names p) before p heads.1 kind).1;
      distinct = apart-so (flat_map known_names (before ++ p ∷ []) ++ p.other_names) t.1;
      levels = levels-so before p v.1;
    }

lawful-so : (before payloads : List Payload) → AllByRecursion IsPayload payloads → are_lawful before payloads ≡ true → AreLawful before payloads
lawful-so before [] h e = tt
lawful-so before (p ∷ more) h e =
    let t = and_true (may_follow before p) (are_lawful (before ++ p ∷ []) more) e in
    (follows-so before p h.0 t.0, lawful-so (before ++ p ∷ []) more h.1 t.1)

payload-step : (text : List ℕ) (more payloads : _) → IsBytes text → ((ps : List Payload) → payloads_in more ≡ Some ps → AllByRecursion IsPayload ps)
    → option_and_then (λ p. option_map (λ ps. p ∷ ps) (payloads_in more)) (payload_at text) ≡ Some payloads → AllByRecursion IsPayload payloads
payload-step text more payloads h rec e = by_first (payload_at text) refl e
  where
    by_rest : (p : Payload) → IsPayload p → (o : Option (List Payload)) → payloads_in more ≡ o → option_map (λ ps. p ∷ ps) o ≡ Some payloads → AllByRecursion IsPayload payloads
    by_rest p whole None f g = cc g
    by_rest p whole (Some ps) f g = subst (AllByRecursion IsPayload) (some-one (p ∷ ps) payloads g) (whole, rec ps f)

    by_first : (o : Option Payload) → payload_at text ≡ o → option_and_then (λ p. option_map (λ ps. p ∷ ps) (payloads_in more)) o ≡ Some payloads → AllByRecursion IsPayload payloads
    by_first None f g = cc g
    by_first (Some p) f g = by_rest p (payload_takes text p h f).whole (payloads_in more) refl g

payloads-so : (texts : List (List ℕ)) (payloads : List Payload) → AllByRecursion IsBytes texts → payloads_in texts ≡ Some payloads → AllByRecursion IsPayload payloads
payloads-so [] payloads h e = subst (AllByRecursion IsPayload) (some-one [] payloads e) tt
payloads-so (text ∷ more) payloads h e = payload-step text more payloads h.0 (λ ps f. payloads-so more ps h.1 f) e

-- ---- the rows that are told

told-rows : (payloads : List Payload) (rows : List (Row Name)) → AllByRecursion IsPayload payloads → told_by payloads ≡ Some rows → AreMaster rows
told-rows payloads rows each e = by_test (are_whole payloads) refl e
  where
    by_test : (b : Bool) → are_whole payloads ≡ b → (if b then Some (master_rows payloads) else None) ≡ Some rows → AreMaster rows
    by_test false t f = cc f
    by_test true t f =
        let parts = and_true (are_lawful [] payloads) (nat_le (count_after 0 payloads) (length (known_in payloads))) t in
        let lawful = lawful-so [] payloads each parts.0 in
        let s = some-world payloads lawful [] (record { parents = tt; distinct = tt; whole = tt; few = zero-le; new = λ x i. absurd i }) in
        let is = rows-are payloads s.of_world lawful s.stand s.named (leb-true (count_after 0 payloads) (length (known_in payloads)) parts.1) in
        subst AreMaster (sym is ∙ some-one (master_rows payloads) rows f) (master-of s.of_world s.named)

texts-rows : (texts : List (List ℕ)) (rows : List (Row Name)) → AllByRecursion IsBytes texts → told_in texts ≡ Some rows → AreMaster rows
texts-rows texts rows h e = by_payloads (payloads_in texts) refl e
  where
    by_payloads : (o : Option (List Payload)) → payloads_in texts ≡ o → option_and_then told_by o ≡ Some rows → AreMaster rows
    by_payloads None f g = cc g
    by_payloads (Some payloads) f g = told-rows payloads rows (payloads-so texts payloads h f) g

within-bytes : (limit : ℕ) (bytes : List ℕ) (texts : List (List ℕ)) → IsBytes bytes → texts_within limit bytes ≡ Some texts → AllByRecursion IsBytes texts
within-bytes limit bytes texts h e = by_limit (nat_le (length bytes) limit) e
  where
    by_size : (b : Bool) → (if b then Some [] else texts_from (length bytes) bytes) ≡ Some texts → AllByRecursion IsBytes texts
    by_size true f = subst (AllByRecursion IsBytes) (some-one [] texts f) tt
    by_size false f = texts-bytes (length bytes) bytes texts h f

    by_limit : (b : Bool) → (if b then texts_in bytes else None) ≡ Some texts → AllByRecursion IsBytes texts
    by_limit false f = cc f
    by_limit true f = by_size (nat_le (length bytes) 1) f

master-rows : (limit : ℕ) (bytes : List ℕ) (rows : List (Row Name)) → IsBytes bytes → master_told limit bytes ≡ Some rows → AreMaster rows
master-rows limit bytes rows h e = by_texts (texts_within limit bytes) refl e
  where
    by_texts : (o : Option (List (List ℕ))) → texts_within limit bytes ≡ o → option_and_then told_in o ≡ Some rows → AreMaster rows
    by_texts None f g = cc g
    by_texts (Some texts) f g = texts-rows texts rows (within-bytes limit bytes texts h f) g

store-rows : (limit : ℕ) (o : Option (List ℕ)) (rows : List (Row Name)) → IfSome o IsBytes → option_and_then (master_told limit) o ≡ Some rows → AreMaster rows
store-rows limit None rows h e = cc e
store-rows limit (Some bytes) rows h e = master-rows limit bytes rows h e

pub sound-log : (r : PlainStore) → IfSome (bytes_in r.told) IsBytes → IsSoundMirror (mirror_of r)
sound-log r h = by_rows (rows_told r) (store-rows r.limit (bytes_in r.told))
  where
    by_rows : (o : Option (List (Row Name))) → ((rows : List (Row Name)) → IfSome (bytes_in r.told) IsBytes → o ≡ Some rows → AreMaster rows) → MatchOption o (Unit {0}) (IsHonest (option_map (λ (rows : List (Row Name)). clone_data_of (master_world rows)) o))
    by_rows None f = tt
    by_rows (Some rows) f = record { world = f rows h refl; clone = refl }
