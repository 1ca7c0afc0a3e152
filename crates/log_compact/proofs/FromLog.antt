-- The log that is read: what is made of it, and what its disk holds.
use Rattle.std.proofs.Common.{◌≡◌, ◌≢◌, ◌≤◌, ◌<◌, inl, inr, ⊎_elim, ℕ, List, [], ◌∷◌, length, map, Option, Some, None, Result, Ok, Err, IfSome, refl, sym, ap, ap₂, subst, ◌∙◌, arith, zero-le, append-nil}
use Rattle.std.specs.Prelude.{IfOk}
use Rattle.disk_trait.specs.Since.{IsUntouched}
use Rattle.id_groups.specs.Name.{Name}
use Rattle.commit_graph.specs.World.{World}
use Rattle.disk_trait.specs.Images.{Told, IsImage, IsSound}
use Rattle.disk_trait.specs.Calls.{Goes}
use Rattle.disk_trait.proofs.Loss.{last-append}
use Rattle.disk_trait.proofs.Moments.{weakened}
use Rattle.disk_trait.proofs.Telling.{goes-from, goes-both}
use Rattle.segment_codec.proofs.Tables.{le_or_lt}
use Rattle.gated_log.specs.Log.{IsLog}
use Rattle.gated_log.specs.Held.{Held}
use Rattle.gated_log.specs.Load.{Loads, IsLogOf, IsUnwritten, KeepsBytes, KeepsImages, LeavesOldOrFresh}
use Rattle.gated_log.specs.declared.LoadLog.{LoadLog}
use Rattle.gated_log.specs.declared.LoadLog.TheVariants as logs
use Rattle.gated_log.proofs.Reading.{one-log}
use Rattle.batch_codec.specs.Payload.{Payload, payload_bytes}
use Rattle.batch_codec.specs.Grammar.{IsPayload, count_after}
use Rattle.batch_codec.specs.Reading.{payload_at}
use Rattle.batch_codec.proofs.Payloads.{payload_again}
use Rattle.name_map.specs.Added.{Placed, payloads_of, AllStand}
use Rattle.change_rules.specs.Change.{text_of}
use Rattle.change_rules.specs.Lawful.{AreLawful}
use Rattle.change_rules.specs.Tables.{newest}
use Rattle.change_rules.specs.Holding.{AreSpelled, HoldPayloads, HoldAs, HoldBytes, HoldsNow, KeepsHolding}
use Rattle.change_rules.specs.Unlawful.{IsFirstUnlawful, IsNoLog}
use Rattle.change_rules.proofs.Refusals.{all-stand}
use Rattle.gated_log.proofs.Damage.{log-or-damaged}
use Rattle.payload_tables.specs.Kept.{PlainTables, AreTablesOf}
use Rattle.payload_tables.proofs.Adding.{masters-fit}
use Rattle.payload_tables.proofs.Basing.{OthersFacts, base-others, table-end}
use Rattle.payload_tables.proofs.Lists.{names-length}
use Rattle.change_parts.proofs.Invented.{some-world}
use Rattle.compact_rules.specs.Whole.{whole_change}
use Rattle.log_compact.specs.declared.answer.Compacted.{Compacted}
use Rattle.log_compact.specs.declared.answer.Compacted.TheVariants.{FromBad, Memory}
use Rattle.log_compact.specs.Compacts.{PlainWhole, whole_list, batch_of, MakesWhole, ReadsWhole, from_answer}
use Rattle.log_compact.proofs.ToDisk.{fault-untouched}
use Rattle.log_compact.specs.Sections.{StandsWhole}

-- ---- the texts of payloads

pub no-payloads : (texts : List (List ℕ)) (ps : List Payload) → length texts ≡ 0 → texts ≡ map text_of ps → ps ≡ []
no-payloads texts [] n e = refl
no-payloads texts (p ∷ ps) n e = absurd (let m = ap (length {A = List ℕ}) e in omega (arith, n, m))

pub some-payloads : (texts : List (List ℕ)) (ps : List Payload) → (length texts ≡ 0 → ⊥) → texts ≡ map text_of ps → ps ≢ []
some-payloads texts ps n e none = n (ap (length {A = List ℕ}) (e ∙ ap (map text_of) none))

pub some-bytes : (p : Payload) → 0 < length (payload_bytes p)
some-bytes p = let f = masters-fit p in omega (arith, f)

pub batch-some : (text : List ℕ) → 0 < length text → batch_of text ≡ text ∷ []
batch-some [] lt = absurd (omega (arith, lt))
batch-some (byte ∷ text) lt = refl

pub whole-texts : (ps : List Payload) (w : World Name) (text : List ℕ) → ps ≢ [] → text ≡ payload_bytes (whole_change ps w) → batch_of text ≡ map text_of (whole_list ps w)
whole-texts [] w text some e = absurd (some refl)
whole-texts (p ∷ ps) w text some e = ap batch_of e ∙ batch-some (payload_bytes (whole_change (p ∷ ps) w)) (some-bytes (whole_change (p ∷ ps) w))

pub spelled-so : (ps : List Payload) → AreSpelled (map text_of ps) ps
spelled-so [] = tt
spelled-so (p ∷ ps) = (refl, spelled-so ps)

-- lawful payloads of one list of texts are the same
one-some : (p q : Payload) → Some p ≡ Some q → p ≡ q
one-some p q e = cc

one-payload : (p q : Payload) → IsPayload p → IsPayload q → text_of p ≡ text_of q → p ≡ q
one-payload p q h g e = one-some p q (sym (payload_again p h) ∙ ap payload_at e ∙ payload_again q g)

pub once : (before after ps qs : List Payload) → AreLawful before ps → AreLawful after qs → map text_of ps ≡ map text_of qs → ps ≡ qs
once before after [] [] h g e = refl
once before after [] (q ∷ qs) h g e = absurd (cc e)
once before after (p ∷ ps) [] h g e = absurd (cc e)
once before after (p ∷ ps) (q ∷ qs) h g e =
    let first : text_of p ≡ text_of q = cc e in
    let rest : map text_of ps ≡ map text_of qs = cc e in
    ap₂ {C = List Payload} (λ a b. a ∷ b) (one-payload p q h.0.whole g.0.whole first) (once _ _ ps qs h.1 g.1 rest)

pub spelled-are : (texts : List (List ℕ)) (ps : List Payload) → AreSpelled texts ps → texts ≡ map text_of ps
spelled-are [] [] h = refl
spelled-are [] (p ∷ ps) h = absurd h
spelled-are (t ∷ texts) [] h = absurd h
spelled-are (t ∷ texts) (p ∷ ps) h = ap₂ {C = List (List ℕ)} (λ a b. a ∷ b) h.0 (spelled-are texts ps h.1)

-- what holds a world by some payloads is the log of these
pub held-same : (limit : ℕ) (bytes : List ℕ) (ps payloads : List Payload) (w : World Name) → IsLog bytes (map text_of ps) → AreLawful [] ps → HoldAs limit bytes payloads w → ps ≡ payloads
held-same limit bytes ps payloads w is lawful h =
    once [] [] ps payloads lawful h.hold.lawful (one-log bytes (map text_of ps) h.texts is h.log ∙ spelled-are h.texts payloads h.spelled)

-- a log of lawful payloads isn't refused
pub lawful-log : (limit : ℕ) (bytes : List ℕ) (ps : List Payload) → length bytes ≤ limit → IsLog bytes (map text_of ps) → AreLawful [] ps → IsNoLog limit bytes → ⊥
lawful-log limit bytes ps fits is lawful (inl lt) = absurd (omega (arith, fits, lt))
lawful-log limit bytes ps fits is lawful (inr (inl d)) = log-or-damaged bytes (map text_of ps) d.0 is d.1
lawful-log limit bytes ps fits is lawful (inr (inr u)) =
    all-stand [] (map text_of ps) ps u.1 (spelled-so ps) lawful (subst (λ l. IsFirstUnlawful [] l u.1) (one-log bytes u.0 (map text_of ps) u.2 is) u.3)

-- ---- the tables

-- lawful payloads stand for some world
pub some-whole : (tables : PlainTables) (bytes : List ℕ) (added : List Placed) → AreTablesOf tables added → AllStand bytes added → payloads_of added ≢ [] → (w : World Name) × StandsWhole tables bytes added w
some-whole tables bytes added t stand some =
    let s = some-world (payloads_of added) t.lawful [] (record { parents = tt; distinct = tt; whole = tt; few = zero-le; new = λ x i. absurd i }) in
    (s.of_world, record { tables_of = t; stand = stand; hold = record { lawful = t.lawful; stand = s.stand; world = s.named }; some = some })

pub masters-size : (tables : PlainTables) (added : List Placed) (w : World Name) → AreTablesOf tables added → HoldPayloads (payloads_of added) w → tables.flat.end ≡ length w.master
masters-size tables added w t hold = table-end tables added t ∙ hold.stand.count

others-facts : (tables : PlainTables) (bytes : List ℕ) (added : List Placed) → AreTablesOf tables added → AllStand bytes added
    → OthersFacts bytes tables.others (count_after 0 (payloads_of added)) (newest (payloads_of added))
others-facts tables bytes added t stand = base-others bytes tables tables.others (count_after 0 (payloads_of added)) added (record {
  behind = [];
  tables_of = subst (λ l. AreTablesOf tables l) (sym (append-nil added)) t;
  stand = subst (λ l. AllStand bytes l) (sym (append-nil added)) stand;
  others_of = t.others;
  count = refl;
})

pub others-size : (tables : PlainTables) (bytes : List ℕ) (added : List Placed) (w : World Name) → AreTablesOf tables added → AllStand bytes added → HoldPayloads (payloads_of added) w → tables.others.count ≡ length w.others
others-size tables bytes added w t stand hold = (others-facts tables bytes added t stand).count ∙ ap (length {A = Name}) hold.stand.names ∙ names-length w.others

-- ---- what is answered

pub if-some : (F G : List ℕ → Type 0) (a : Option (List ℕ)) → ((bytes : List ℕ) → F bytes → G bytes) → IfSome a F → IfSome a G
if-some F G None f h = tt
if-some F G (Some bytes) f h = f bytes h

pub ok-map : {X E : Type 0} (r : Result X E) (P Q : X → Type 0) → ((x : X) → P x → Q x) → IfOk r P → IfOk r Q
ok-map (Ok x) P Q f h = f x h
ok-map (Err e) P Q f h = tt

pub read-refused : (limit : ℕ) (bytes : List ℕ) (fault : LoadLog) → Loads limit bytes (Err fault) → ReadsWhole limit bytes (Err (from_answer fault))
read-refused limit bytes (logs.Damaged at) h = inr (inl (at, h.1))
read-refused limit bytes (logs.TooLarge size) h = inl h.0
read-refused limit bytes (logs.Disk fault) h = tt
read-refused limit bytes logs.Memory h = tt

-- ---- its disk

bytes-hold : (limit : ℕ) (w : World Name) (t : Told) → IsSound t → HoldsNow limit t w → HoldBytes limit t.bytes w
bytes-hold limit w t s h = h t.bytes (subst (λ u. IsImage u t.bytes) (sym (last-append t.past t.now t.now)) s.image)

-- a fresh file holds what another one does
fresh-holds : (limit : ℕ) (w : World Name) (old image : List ℕ) → 1 ≤ limit → HoldBytes limit old w → length old ≤ 1 → length image ≤ 1 → HoldBytes limit image w
fresh-holds limit w old image least (payloads, h) short here =
    let none : h.texts ≡ [] = one-log old h.texts [] h.log (inl (short, refl)) in
    (payloads, record { within = omega (arith, least, here); texts = []; log = inl (here, refl); spelled = subst (λ l. AreSpelled l payloads) none h.spelled; hold = h.hold })

-- a file that is no log stays as it was
pub read-untouched : (limit : ℕ) (fault : LoadLog) (d e : Option Told) → 1 ≤ limit → IfSome d (λ t. Loads limit t.bytes (Err fault)) → Goes KeepsImages d e
    → ((size : ℕ) → fault ≡ logs.TooLarge size → Goes (IsUnwritten 2) d e) → ((at : ℕ) → fault ≡ logs.Damaged at → Goes (IsUnwritten 4) d e) → from_answer fault ≡ FromBad → Goes IsUntouched d e
read-untouched limit (logs.Damaged at) d e some loads images large damaged is = fault-untouched limit (logs.Damaged at) d e some loads images large damaged refl
read-untouched limit (logs.TooLarge size) d e some loads images large damaged is = fault-untouched limit (logs.TooLarge size) d e some loads images large damaged refl
read-untouched limit (logs.Disk fault) d e some loads images large damaged is = absurd (cc is)
read-untouched limit logs.Memory d e some loads images large damaged is = absurd (cc is)

unlawful-some : (texts : List (List ℕ)) (r : Result PlainWhole Compacted) → MakesWhole texts r → r ≡ Err FromBad → texts ≢ []
unlawful-some texts r makes is none = (subst (λ ts. MakesWhole ts (Err FromBad)) none (subst (MakesWhole texts) is makes)).1

pub made-untouched : (limit : ℕ) (log : Held) (r : Result PlainWhole Compacted) (d e : Option Told) → MakesWhole log.payloads r
    → IfSome d (λ t. IsLogOf limit t.bytes log) → Goes KeepsImages d e → Goes KeepsBytes d e → r ≡ Err FromBad → Goes IsUntouched d e
made-untouched limit log r d e makes h images kept is =
    let some = unlawful-some log.payloads r makes is in
    let Both : Told → Told → Type 0 = λ a b. KeepsImages a b × KeepsBytes a b in
    goes-from Both IsUntouched (λ t. IsLogOf limit t.bytes log) d e
    (λ a b l both. ⊎_elim (λ few. absurd (some (l.fresh few).0)) (λ many. (both.1 (omega (arith, many)), both.0 (omega (arith, many)))) (le_or_lt (length a.bytes) 1))
    h (goes-both KeepsImages KeepsBytes Both d e (λ a b i k. (i, k)) images kept)

pub keeps-holding : (limit : ℕ) (w : World Name) (a b : Option Told) → 1 ≤ limit → IfSome a IsSound → Goes LeavesOldOrFresh a b → Goes (KeepsHolding limit w) a b
keeps-holding limit w a b least s f = goes-from LeavesOldOrFresh (KeepsHolding limit w) IsSound a b
    (λ x y sound left h. weakened _ (λ moment image. HoldBytes limit image w) x y
    (λ moment image p. ⊎_elim
    (λ old. h image (subst (λ u. IsImage u image) (sym (last-append x.past x.now x.now)) old))
    (λ fresh. fresh-holds limit w x.bytes image least (bytes-hold limit w x sound h) fresh.0 fresh.1) p) left) s f
