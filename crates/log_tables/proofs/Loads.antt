-- Reading a log's payloads in turn.
use Rattle.std.proofs.Common.{◌≡◌, ◌≤◌, ◌<◌, ◌+◌, ℕ, zero, suc, List, [], ◌∷◌, ◌++◌, length, map, take, drop, refl, sym, ap, subst, ◌∙◌, arith, get_or, append-nil, append_assoc}
use Rattle.std.specs.List.{AllByRecursion}
use Rattle.std.proofs.lemmas.List.{take_more, take_all, drop_all, map-append}
use Rattle.std.proofs.Math.Seq.{drop-cons}
use Rattle.batch_codec.specs.Payload.{Payload}
use Rattle.change_rules.specs.Lawful.{AreLawful}
use Rattle.gated_log.specs.Log.{log_length, StandBehind}
use Rattle.name_map.specs.Added.{Placed, payloads_of, AllStand}
use Rattle.change_rules.specs.Change.{text_of}
use Rattle.change_rules.specs.Holding.{IsSpelled}
use Rattle.change_rules.specs.Unlawful.{MayStand, IsFirstUnlawful}
use Rattle.payload_tables.specs.Kept.{PlainTables, AreTablesOf}
use Rattle.payload_tables.proofs.Lists.{all-append}

stand-more : (bytes : List ℕ) (added : List Placed) (a : Placed) → AllStand bytes added → AllStand bytes (a ∷ []) → AllStand bytes (added ++ a ∷ [])
stand-more bytes [] a h s = s
stand-more bytes (b ∷ added) a h s = (h.0, stand-more bytes added a h.1 s)

later : (end next : ℕ) (added : List Placed) → end ≤ next → AllByRecursion (λ (a : Placed). a.at + length (text_of a.payload) ≤ end) added → AllByRecursion (λ (a : Placed). a.at + length (text_of a.payload) ≤ next) added
later end next [] le h = tt
later end next (a ∷ added) le h = (let x = h.0 in omega (arith, le, x), later end next added le h.1)

before : (end size : ℕ) (added : List Placed) → end < size → AllByRecursion (λ (a : Placed). a.at + length (text_of a.payload) ≤ end) added → AllByRecursion (λ (a : Placed). a.at + length (text_of a.payload) < size) added
before end size [] lt h = tt
before end size (a ∷ added) lt h = (let x = h.0 in omega (arith, lt, x), before end size added lt h.1)

-- The first of the payloads were added, and the next one stands behind the place.
pub record ReadSoFar (Are : List Placed → Type 0) (payloads : List (List ℕ)) (bytes : List ℕ) (k end : ℕ) : Type 0 where
  pub added : List Placed
  pub are : Are added
  pub stand : AllStand bytes added
  pub texts : map text_of (payloads_of added) ≡ take k payloads
  pub behind : StandBehind end (drop k payloads) bytes
  pub room : end + log_length (drop k payloads) ≤ length bytes
  pub within : AllByRecursion (λ (a : Placed). a.at + length (text_of a.payload) ≤ end) added

pub read-start : (Are : List Placed → Type 0) (payloads : List (List ℕ)) (bytes : List ℕ) → Are [] → StandBehind 0 payloads bytes → length bytes ≡ log_length payloads → ReadSoFar Are payloads bytes 0 0
read-start Are payloads bytes t places size = record { added = []; are = t; stand = tt; texts = take-none payloads; behind = places; room = omega (arith, size); within = tt }
  where
    take-none : (payloads : List (List ℕ)) → [] ≡ take 0 payloads
    take-none [] = refl
    take-none (p ∷ payloads) = refl

-- the next payload, and those behind it
next-parts : (payloads : List (List ℕ)) (k : ℕ) (text : List ℕ) → k < length payloads → text ≡ get_or payloads k [] → drop k payloads ≡ text ∷ drop (k + 1) payloads
next-parts payloads k text lt is =
    drop-cons payloads k [] lt ∙ ap (λ t. t ∷ drop (suc k) payloads) (sym is) ∙ ap (λ n. text ∷ drop n payloads) (let e : suc k ≡ k + 1 = omega arith in e)

-- there is room for it
pub read-room : (Are : List Placed → Type 0) (payloads : List (List ℕ)) (bytes : List ℕ) (k end : ℕ) → ReadSoFar Are payloads bytes k end → (text : List ℕ) → k < length payloads → text ≡ get_or payloads k []
    → end + 9 + length text ≤ length bytes
read-room Are payloads bytes k end r text lt is =
    let room : end + (9 + length text + log_length (drop (k + 1) payloads)) ≤ length bytes = subst (λ l. end + log_length l ≤ length bytes) (next-parts payloads k text lt is) r.room in
    omega (arith, room)

pub read-next : (Are New : List Placed → Type 0) (payloads : List (List ℕ)) (bytes : List ℕ) (k end at next : ℕ) (r : ReadSoFar Are payloads bytes k end) (text : List ℕ) (p : Payload)
    → k < length payloads → text ≡ get_or payloads k [] → at ≡ end + 9 → next ≡ end + (9 + length text) → IsSpelled text p → New (r.added ++ record { at = at; payload = p } ∷ []) → ReadSoFar New payloads bytes (k + 1) next
read-next Are New payloads bytes k end at next r text p lt is here there spelled t =
    let parts = next-parts payloads k text lt is in
    let behind = subst (λ l. StandBehind end l bytes) parts r.behind in
    let a : Placed = record { at = at; payload = p } in
    let room : end + (9 + length text + log_length (drop (k + 1) payloads)) ≤ length bytes = subst (λ l. end + log_length l ≤ length bytes) parts r.room in
    record {
      added = r.added ++ a ∷ [];
      are = t;
      stand = stand-more bytes r.added a r.stand
          (subst (λ (l : List ℕ). take (length l) (drop at bytes) ≡ l) spelled (subst (λ n. take (length text) (drop n bytes) ≡ text) (sym here) behind.0), tt);
      texts = ap (map text_of) (map-append (λ (b : Placed). b.payload) r.added (a ∷ [])) ∙ map-append text_of (payloads_of r.added) (p ∷ []) ∙ ap (λ l. l ++ text_of p ∷ []) r.texts
          ∙ ap (λ t. take k payloads ++ t ∷ []) (sym spelled ∙ is) ∙ sym (take_more payloads k [] lt);
      behind = subst (λ n. StandBehind n (drop (k + 1) payloads) bytes) (let e : end + 9 + length text ≡ next = omega (arith, there) in e) behind.1;
      room = omega (arith, room, there);
      within = all-append (λ (b : Placed). b.at + length (text_of b.payload) ≤ next) r.added (a ∷ []) (later end next r.added (omega (arith, there)) r.within)
          ((let e = ap (length {A = ℕ}) spelled in omega (arith, here, there, e)), tt);
    }

-- the next text is none that may stand there
first-unlawful : (before ps : List Payload) (texts : List (List ℕ)) (k : ℕ) → AreLawful before ps → map text_of ps ≡ take k texts → k < length texts
    → ((p : Payload) → MayStand (before ++ ps) (get_or texts k []) p → ⊥) → IsFirstUnlawful before texts k
first-unlawful before ps [] k h e lt none = absurd (omega (arith, lt))
first-unlawful before [] (t ∷ texts) zero h e lt none = λ p may. none p (subst (λ l. MayStand l t p) (sym (append-nil before)) may)
first-unlawful before [] (t ∷ texts) (suc k) h e lt none = absurd (cc e)
first-unlawful before (p ∷ ps) (t ∷ texts) zero h e lt none = absurd (cc e)
first-unlawful before (p ∷ ps) (t ∷ texts) (suc k) h e lt none =
    let first : t ≡ text_of p = cc e in
    let rest : map text_of ps ≡ take k texts = cc e in (
      p,
      (first, h.0),
      first-unlawful (before ++ p ∷ []) ps texts k h.1 rest (omega (arith, lt)) (λ q may. none q (subst (λ l. MayStand l (get_or texts k []) q) (append_assoc before (p ∷ []) ps) may)),
    )

pub read-unlawful : (tables : PlainTables) (payloads : List (List ℕ)) (bytes : List ℕ) (k end : ℕ) (r : ReadSoFar (AreTablesOf tables) payloads bytes k end) (text : List ℕ) → k < length payloads → text ≡ get_or payloads k []
    → ((p : Payload) → MayStand (payloads_of r.added) text p → ⊥) → IsFirstUnlawful [] payloads k
read-unlawful tables payloads bytes k end r text lt is none =
    first-unlawful [] (payloads_of r.added) payloads k r.are.lawful r.texts lt (λ p may. none p (subst (λ t. MayStand (payloads_of r.added) t p) (sym is) may))

-- all were read
pub read-all : (Are : List Placed → Type 0) (payloads : List (List ℕ)) (bytes : List ℕ) (k end : ℕ) → ReadSoFar Are payloads bytes k end → length payloads ≤ k
    → (added : List Placed) × Are added × AllStand bytes added × (payloads ≡ map text_of (payloads_of added))
    × AllByRecursion (λ (a : Placed). a.at + length (text_of a.payload) < length bytes) added
read-all Are payloads bytes k end r le =
    let one : log_length (drop k payloads) ≡ 1 = ap log_length (drop_all k payloads le) in
    let room = r.room in
    (r.added, r.are, r.stand, sym (r.texts ∙ take_all k payloads le), before end (length bytes) r.added (omega (arith, room, one)) r.within)
