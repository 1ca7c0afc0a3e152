-- What the reads of a log that grows come to, one behind the other.
use Rattle.std.proofs.Common.{◌≡◌, ◌<◌, ◌≤◌, inr, ⊎_elim, ◌+◌, ◌-◌, ℕ, Bool, true, false, List, [], ◌∷◌, ◌++◌, length, get_or, Option, Some, None, IfSome, Result, Ok, Err, refl, sym, ap, subst, ◌∙◌, arith, length-append}
use Rattle.std.specs.Prelude.{nat_lt}
use Rattle.std.proofs.lemmas.List.{get_or_append_left, get_or-append_right}
use Rattle.std.proofs.lemmas.Bool.{lt-ltb, le-ltb}
use Rattle.outside.specs.Told.{WhereTold}
use Rattle.outside.proofs.ToldLemmas.{WhereTold-join, WhereTold-both}
use Rattle.disk_trait.specs.Images.{Told}
use Rattle.disk_trait.specs.Calls.{Goes, Passes}
use Rattle.disk_trait.proofs.Telling.{goes-then}
use Rattle.disk_trait.specs.Meanwhile.{Meanwhile, Lasts, IsBetween, IsLengthBetween, AreRead}
use Rattle.gated_log.specs.Log.{IsDamaged, batches}
use Rattle.gated_log.specs.Held.{Held}
use Rattle.gated_log.specs.Load.{IsLogOf, Loads, OnlyReads}
use Rattle.gated_log.specs.Growing.{IsGrowing, AreOfMoment}
use Rattle.gated_log.specs.Turns.{IsReading, ReadsBehind, TurnAnswers, TurnLoads, IsDamage, IsMore}
use Rattle.gated_log.specs.declared.LoadLog.{LoadLog}
use Rattle.gated_log.specs.declared.LoadLog.TheVariants.{Damaged, TooLarge, Disk, Memory}
use Rattle.gated_log.specs.declared.turn.Turn.{Turn}
use Rattle.gated_log.specs.declared.turn.Turn.TheVariants.{Whole, Open}
use Rattle.gated_log.proofs.Damage.{below-or-not}
use Rattle.gated_log.proofs.LoadCalls.{reads-join}
use Rattle.gated_log.proofs.Growth.{frame, no-fewer, one-more, log-of-moment, damage-of-moment}

-- ---- two reads, one behind the other

one-of : Bool → ℕ → ℕ → ℕ
one-of true a b = a
one-of false a b = b

module _ (film : ℕ → List ℕ) (start mid now to : ℕ) (le : mid ≤ now) (xs ys : List ℕ) (r : AreRead film start mid 0 xs) (s : AreRead film now to (length xs) ys) where
  when : ℕ → ℕ
  when k = one-of (nat_lt k (length xs)) (r.when k) (s.when (k - length xs))

  before : (k : ℕ) → k < length xs → when k ≡ r.when k
  unfolding when one-of
  before k lt = ap (λ t. one-of t (r.when k) (s.when (k - length xs))) (lt-ltb k (length xs) lt)

  behind : (k : ℕ) → length xs ≤ k → when k ≡ s.when (k - length xs)
  unfolding when one-of
  behind k ge = ap (λ t. one-of t (r.when k) (s.when (k - length xs))) (le-ltb k (length xs) ge)

  between : (k : ℕ) → IsBetween start to (when k)
  between k =
      ⊎_elim
      (λ lt. subst (IsBetween start to) (sym (before k lt)) (let b = r.between k in let d = s.between 0 in (b.0, (let x = b.1 in let y = d.0 in let z = d.1 in omega (arith, x, y, z, le)))))
      (λ ge. subst (IsBetween start to) (sym (behind k ge)) (let b = s.between (k - length xs) in let d = r.between 0 in ((let x = b.0 in let y = d.0 in let z = d.1 in omega (arith, x, y, z, le)), b.1)))
      (below-or-not k (length xs))

  in-order : (j k : ℕ) → j ≤ k → when j ≤ when k
  in-order j k jk =
      ⊎_elim
      (λ klt. (let a = before j (omega (arith, jk, klt)) in let b = before k klt in let c = r.in_order j k jk in omega (arith, a, b, c)))
      (λ kge. ⊎_elim
      (λ jlt. (let a = before j jlt in let b = behind k kge in let c = (r.between j).1 in let d = (s.between (k - length xs)).0 in omega (arith, a, b, c, d, le)))
      (λ jge. (let a = behind j jge in let b = behind k kge in let c = s.in_order (j - length xs) (k - length xs) (omega (arith, jk, jge)) in omega (arith, a, b, c)))
      (below-or-not j (length xs)))
      (below-or-not k (length xs))

  module _ (k : ℕ) (lt : k < length (xs ++ ys)) where
    IsRead : ℕ → Type 0
    IsRead m = (0 + k < length (film m)) × (get_or (xs ++ ys) k 0 ≡ get_or (film m) (0 + k) 0)

    stands : IsRead (when k)
    unfolding IsRead
    stands =
        ⊎_elim
        (λ l. subst IsRead (sym (before k l)) (r.inside k l, get_or_append_left xs ys 0 k l ∙ r.stood k l))
        (λ g.
        (let here : k - length xs < length ys = (let e = length-append xs ys in omega (arith, e, lt, g)) in
        let place : length xs + (k - length xs) ≡ 0 + k = omega (arith, g) in
        subst IsRead (sym (behind k g)) (
          subst (λ p. p < length (film (s.when (k - length xs)))) place (s.inside (k - length xs) here),
          get_or-append_right xs ys (length xs) k 0 refl g ∙ s.stood (k - length xs) here ∙ ap (λ p. get_or (film (s.when (k - length xs))) p 0) place,
        )))
        (below-or-not k (length xs))

  pub read-more : AreRead film start to 0 (xs ++ ys)
  unfolding IsRead
  read-more = record {
    when = when;
    between = between;
    in_order = in-order;
    inside = λ k lt. (stands k lt).0;
    stood = λ k lt. (stands k lt).1;
  }

pub read-until : (film : ℕ → List ℕ) (start to later at : ℕ) (xs : List ℕ) → to ≤ later → AreRead film start to at xs → AreRead film start later at xs
read-until film start to later at xs le r = record {
  when = r.when;
  between = λ k. (let b = r.between k in (b.0, (let x = b.1 in omega (arith, x, le))));
  in_order = r.in_order;
  inside = r.inside;
  stood = r.stood;
}

-- ---- one read in turn

module _ (film : ℕ → List ℕ) (payloads : ℕ → List (List ℕ)) (from start now mid : ℕ) (turns size : ℕ) (bytes after : List ℕ) (g : IsGrowing film payloads from)
    (h : IsReading film payloads from start now turns bytes size) (le : now ≤ mid)
    (more : List ℕ) (is : after ≡ bytes ++ more) (s : AreRead film now mid (length bytes) more) (full : size ≤ length (film now) → length after ≡ size) where
  all-read : AreRead film start mid 0 after
  all-read = subst (AreRead film start mid 0) (sym is) (read-more film start now now mid (omega arith) bytes more h.read s)

  pub long : length after ≡ size
  long = full h.there

  -- the log was read whole
  pub whole-turn : (limit : ℕ) (log : Held) → IsLogOf limit after log → AreOfMoment payloads from mid log.payloads
  whole-turn limit log l = ⊎_elim fresh other h.reached
    where
      fresh : (turns ≡ 0) × (size ≤ 1) × (payloads start ≡ []) → AreOfMoment payloads from mid log.payloads
      fresh f = (start, (h.begun.0, (let b = h.begun.1 in omega (arith, b, le))), (l.fresh (let e = long in let few = f.1 in omega (arith, e, few))).0 ∙ sym f.2)

      other : (2 ≤ size) × (2 ≤ length (film start)) × (moment : ℕ) × IsBetween from now moment × (length (payloads from) + turns ≤ length (payloads moment)) × (length (batches (payloads moment)) < size)
          → AreOfMoment payloads from mid log.payloads
      other o =
          let m = log-of-moment film payloads from g start mid h.begun.0 o.1 after all-read log.payloads (let e = long in let many = o.0 in omega (arith, e, many)) l.is_log in
          (m.0, ((let a = m.1.0 in let b = h.begun.0 in omega (arith, a, b)), m.1.1), m.2)

  -- A payload more was there than could be read.
  pub record IsOpen : Type 0 where
    pub two : 2 ≤ length (film start)
    pub many : 2 ≤ length after
    pub moment : ℕ
    pub between : IsBetween start mid moment
    pub enough : length (payloads from) + (turns + 1) ≤ length (payloads moment)
    pub short : length after ≤ length (batches (payloads moment))

  pub open-turn : (at : ℕ) → IsDamaged after at → IsOpen
  open-turn at d = ⊎_elim (λ f. absurd (let e = long in let few = f.1 in let many = d.0 in omega (arith, e, few, many))) other h.reached
    where
      other : (2 ≤ size) × (2 ≤ length (film start)) × (moment : ℕ) × IsBetween from now moment × (length (payloads from) + turns ≤ length (payloads moment)) × (length (batches (payloads moment)) < size) → IsOpen
      other o =
          let m = damage-of-moment film payloads from g start mid h.begun.0 o.1 after all-read at d in
          let later : from ≤ m.0 = (let a = m.1.0 in let b = h.begun.0 in omega (arith, a, b)) in
          record {
            two = o.1;
            many = d.0;
            moment = m.0;
            between = m.1;
            enough = (let k = one-more film payloads from g o.2 m.0 o.3.0 later (let a = o.5 in let b = m.2 in let e = long in omega (arith, a, b, e)) in let n = o.4 in omega (arith, k, n));
            short = m.2;
          }

  -- then the file is longer than what was read
  pub longer-then : (m : IsOpen) (moment : ℕ) → mid ≤ moment → length after < length (film moment)
  longer-then m moment later =
      let w = frame film payloads from g start moment h.begun.0 m.two (let a = m.between.0 in let b = m.between.1 in omega (arith, a, b, later)) in
      let k = no-fewer film payloads from g m.moment moment (let a = m.between.0 in let b = h.begun.0 in omega (arith, a, b)) (let b = m.between.1 in omega (arith, b, later)) in
      let size = ap length w.whole in
      let sum = length-append (batches (payloads moment)) (w.gate ∷ w.behind) in
      let short = m.short in
      omega (arith, k, size, sum, short)

  -- and the next read is of what there is then
  pub next-turn : (at to longer : ℕ) → mid ≤ to → IsDamaged after at → IsLengthBetween film mid to longer → IsReading film payloads from start to (turns + 1) after longer
  next-turn at to longer later d l =
      let m = open-turn at d in
      let lt : length after < longer = (let k = longer-then m l.0 l.1.0 in let e = l.2 in omega (arith, k, e)) in
      let k = no-fewer film payloads from g m.moment l.0 (let a = m.between.0 in let b = h.begun.0 in omega (arith, a, b)) (let a = m.between.1 in let b = l.1.0 in omega (arith, a, b)) in
      let w = frame film payloads from g start l.0 h.begun.0 m.two (let a = m.between.0 in let b = m.between.1 in let c = l.1.0 in omega (arith, a, b, c)) in
      let size = ap length w.whole in
      let sum = length-append (batches (payloads l.0)) (w.gate ∷ w.behind) in
      record {
        begun = (h.begun.0, (let b = h.begun.1 in omega (arith, b, le, later)));
        read = read-until film start mid to 0 after later all-read;
        there = (let n = g.no_shorter l.0 to (let a = l.1.0 in let b = h.begun.0 in let c = h.begun.1 in omega (arith, a, b, c, le)) l.1.1 in let e = l.2 in omega (arith, n, e));
        reached = inr (
          (let n = m.many in omega (arith, n, lt)),
          m.two,
          m.moment,
          ((let a = m.between.0 in let b = h.begun.0 in omega (arith, a, b)), (let b = m.between.1 in omega (arith, b, later))),
          m.enough,
          (let e = l.2 in omega (arith, k, size, sum, e)),
        );
      }

-- ---- where the disk tells

pub lasts-then : (x y z : Meanwhile) → Lasts x y → Lasts y z → Lasts x z
lasts-then x y z l m = record { film = m.film ∙ l.film; later = (let a = l.later in let b = m.later in omega (arith, a, b)) }

module _ (payloads : ℕ → List (List ℕ)) (from start turns size limit : ℕ) (before after : List ℕ) where
  -- the log is whole
  pub whole_meanwhile : (a b : Option Meanwhile) (log : Held) → WhereTold a b Lasts → WhereTold a b (ReadsBehind before size after) → IsLogOf limit after log
      → WhereTold a b (λ old new. Lasts old new × (IsGrowing old.film payloads from → IsReading old.film payloads from start old.now turns before size → AreOfMoment payloads from new.now log.payloads))
  whole_meanwhile a b log lasts read is =
      WhereTold-both a b Lasts (ReadsBehind before size after) (λ old new. Lasts old new × (IsGrowing old.film payloads from → IsReading old.film payloads from start old.now turns before size → AreOfMoment payloads from new.now log.payloads))
      (λ old new l r. (l, λ g h. whole-turn old.film payloads from start old.now new.now turns size before after g h l.later r.0 r.1 r.2 r.3 limit log is)) lasts read

  Asks : Result Turn LoadLog → Meanwhile → Meanwhile → Type 0
  Asks r old new =
      Lasts old new × (IsGrowing old.film payloads from → IsReading old.film payloads from start old.now turns before size → TurnAnswers limit old.film payloads from start new.now turns after r)

  module _ (at : ℕ) (d : IsDamaged after at) (x y z : Meanwhile) (l : Lasts x y) (p : ReadsBehind before size after x y) where
    asked : (r : Result Turn LoadLog) → IsMore (length after) limit r y z → Asks r x z
    unfolding Asks
    asked (Ok (Whole log)) q = absurd q
    asked (Ok (Open place more)) q = (
      lasts-then x y z l q.0,
      λ g h.
          next-turn x.film payloads from start x.now y.now turns size before after g h l.later p.0 p.1 p.2 p.3 at z.now more q.0.later d
          (subst (λ f. IsLengthBetween f y.now z.now more) l.film q.1),
    )
    asked (Err (Damaged place)) q = (
      lasts-then x y z l q.0,
      λ g h.
          (let m = open-turn x.film payloads from start x.now y.now turns size before after g h l.later p.0 p.1 p.2 p.3 at d in
          let lt = longer-then x.film payloads from start x.now y.now turns size before after g h l.later p.0 p.1 p.2 p.3 m q.1 q.2.0 in
          let le = subst (λ f. length (f q.1) ≤ length after) l.film q.3 in absurd (omega (arith, lt, le))),
    )
    asked (Err (TooLarge more)) q = (
      lasts-then x y z l q.0,
      λ g h. (
        q.1,
        (let w = subst (λ f. IsLengthBetween f y.now z.now more) l.film q.2 in
            (w.0, ((let a = w.1.0 in let b = l.later in let c = h.begun.0 in let e = h.begun.1 in omega (arith, a, b, c, e)), w.1.1), w.2)),
      ),
    )
    asked (Err Memory) q = (lasts-then x y z l q, λ g h. tt)
    asked (Err (Disk fault)) q = (lasts-then x y z l q, λ g h. tt)

  -- the last gate is open, and the size was asked again
  pub open_meanwhile : (a b c : Option Meanwhile) (r : Result Turn LoadLog) (at : ℕ) → WhereTold a b Lasts → WhereTold a b (ReadsBehind before size after) → WhereTold b c (IsMore (length after) limit r) → IsDamaged after at
      → WhereTold a c (λ old new. Lasts old new × (IsGrowing old.film payloads from → IsReading old.film payloads from start old.now turns before size → TurnAnswers limit old.film payloads from start new.now turns after r))
  unfolding Asks
  open_meanwhile a b c r at lasts read asks d =
      WhereTold-join a b c (λ old new. Lasts old new × ReadsBehind before size after old new) (IsMore (length after) limit r) (Asks r)
      (λ x y z p q. asked at d x y z p.0 p.1 r q) (WhereTold-both a b Lasts (ReadsBehind before size after) (λ old new. Lasts old new × ReadsBehind before size after old new) (λ x y l p. (l, p)) lasts read) asks

-- over bytes that nobody else writes
pub open_loads : (a c : Option (List ℕ)) (before after : List ℕ) (size limit at read : ℕ) (r : Result Turn LoadLog) → c ≡ a → read ≡ length after → IfSome a (λ b. size ≡ length b → before ≡ [] → after ≡ b) → IfSome a (λ b. (size ≡ length b) × (before ≡ []))
    → IfSome c (λ b. length b ≤ read → IsDamage at r) → Loads limit after (Err (Damaged at)) → IfSome a (λ b. TurnLoads limit b r)
open_loads None c before after size limit at read r still n whole told same d = tt
open_loads (Some b) c before after size limit at read r still n whole told same d =
    let is : after ≡ b = whole told.0 told.1 in by_result r ((subst (λ o. IfSome o (λ b. length b ≤ read → IsDamage at r)) still same) (omega (arith, ap length is, n)))
  where
    by_result : (q : Result Turn LoadLog) → IsDamage at q → TurnLoads limit b q
    by_result (Ok turn) h = absurd h
    by_result (Err (Damaged place)) h = subst (λ p. Loads limit b (Err (Damaged p))) (sym h) (subst (λ l. Loads limit l (Err (Damaged at))) (whole told.0 told.1) d)
    by_result (Err (TooLarge more)) h = absurd h
    by_result (Err Memory) h = absurd h
    by_result (Err (Disk fault)) h = tt

pub open_once : (a : Option (List ℕ)) (before after : List ℕ) (size limit at : ℕ) (X : Type 0) → IfSome a (λ b. size ≡ length b → before ≡ [] → after ≡ b) → IfSome a (λ b. (size ≡ length b) × (before ≡ []))
    → Loads limit after (Err (Damaged at)) → IfSome a (λ b. ((place : ℕ) → IsDamaged b place → ⊥) → X)
open_once None before after size limit at X whole told d = tt
open_once (Some b) before after size limit at X whole told d = λ no. absurd (no at (subst (λ l. IsDamaged l at) (whole told.0 told.1) d.1))

pub open_reads : (a b c : Option Told) → Goes Passes a b → Goes (OnlyReads 1) b c → Goes (OnlyReads 2) a c
open_reads a b c w x = goes-then Passes (OnlyReads 1) (OnlyReads 2) a b c (λ x y z p q. (1 + q.0, (let n = q.1 in omega (arith, n)), reads-join 1 q.0 x y z p q.2)) w x
