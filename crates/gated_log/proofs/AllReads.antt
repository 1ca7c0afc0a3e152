-- All reads of a log, one behind the other.
use Rattle.std.proofs.Common.{◌≡◌, ◌<◌, ◌≤◌, inl, inr, ⊎_elim, ◌+◌, ℕ, List, [], ◌∷◌, length, Option, Some, None, IfSome, Result, Ok, Err, refl, sym, ap, subst, ◌∙◌, arith, length-append}
use Rattle.outside.specs.Told.{WhereTold}
use Rattle.outside.proofs.ToldLemmas.{WhereTold-join, WhereTold-map, WhereTold-both, WhereTold-same}
use Rattle.disk_trait.specs.Images.{Told}
use Rattle.disk_trait.specs.Calls.{Goes}
use Rattle.disk_trait.specs.Meanwhile.{Meanwhile, Lasts, IsBetween, Measures}
use Rattle.gated_log.specs.Log.{IsLog, batches}
use Rattle.gated_log.specs.Held.{Held}
use Rattle.gated_log.specs.Load.{OnlyReads}
use Rattle.gated_log.specs.Growing.{IsGrowing, AnswersGrown, ReadsGrown, LoadsGrown}
use Rattle.gated_log.specs.Turns.{IsReading, TurnAnswers, TurnLoads}
use Rattle.gated_log.specs.declared.LoadLog.{LoadLog}
use Rattle.gated_log.specs.declared.LoadLog.TheVariants.{Damaged, TooLarge, Disk, Memory}
use Rattle.gated_log.specs.declared.turn.Turn.{Turn}
use Rattle.gated_log.specs.declared.turn.Turn.TheVariants.{Open}
use Rattle.gated_log.proofs.Damage.{below-or-not}
use Rattle.gated_log.proofs.Growth.{frame, no-fewer-payloads}
use Rattle.gated_log.proofs.Turns.{lasts-then}

-- so many reads of a log that grows were made
abbrev pub HasTurned : (ℕ → List (List ℕ)) → ℕ → ℕ → ℕ → ℕ → List ℕ → ℕ → Meanwhile → Meanwhile → Type 0
HasTurned payloads from start first turns items size old new =
    Lasts old new × (IsGrowing old.film payloads from → IsBetween from old.now start → first ≡ length (old.film start) → IsReading old.film payloads from start new.now turns items size)

-- what one read answers
abbrev pub OnceAnswers : ℕ → (ℕ → List (List ℕ)) → ℕ → ℕ → ℕ → List ℕ → ℕ → List ℕ → Result Turn LoadLog → Meanwhile → Meanwhile → Type 0
OnceAnswers limit payloads from start turns before size after r old new =
    Lasts old new × (IsGrowing old.film payloads from → IsReading old.film payloads from start old.now turns before size → TurnAnswers limit old.film payloads from start new.now turns after r)

-- what all reads answer
abbrev pub AllAnswers : ℕ → (ℕ → List (List ℕ)) → ℕ → ℕ → ℕ → Result Held LoadLog → Meanwhile → Meanwhile → Type 0
AllAnswers limit payloads from start first r old new =
    Lasts old new × (IsGrowing old.film payloads from → IsBetween from old.now start → first ≡ length (old.film start) → AnswersGrown limit old.film payloads from new.now r)

pub record IsGoingOn (limit : ℕ) (b0 b1 : Option (List ℕ)) (t0 t1 : Option Told) (m0 m1 : Option Meanwhile) (f0 f1 first size turns : ℕ) (items : List ℕ) : Type 0 where
  pub fits : (size ≤ limit) × (length items ≤ size)
  pub bytes : b1 ≡ b0
  pub told : t1 ≡ t0
  pub faults : f0 ≤ f1
  -- over bytes that nobody else writes none was made
  pub alone : IfSome b0 (λ b. (turns ≡ 0) × (size ≡ length b) × (items ≡ []))
  pub meanwhile : (payloads : ℕ → List (List ℕ)) (from start : ℕ) → WhereTold m0 m1 (HasTurned payloads from start first turns items size)

first-reading : (film : ℕ → List ℕ) (payloads : ℕ → List (List ℕ)) (from start now size : ℕ) → IsGrowing film payloads from → IsBetween from now start → size ≡ length (film start) → IsReading film payloads from start now 0 [] size
first-reading film payloads from start now size g b is = record {
  begun = b;
  read = record { when = λ k. start; between = λ k. (omega arith, b.1); in_order = λ j k le. omega arith; inside = λ k lt. absurd (omega (arith, lt)); stood = λ k lt. absurd (omega (arith, lt)) };
  there = (let n = g.no_shorter start now b.0 b.1 in omega (arith, n, is));
  reached = ⊎_elim (λ few. inl (refl, omega (arith, few), none (omega (arith, few, is)) (g.is_log start b.0))) (λ many. inr (
    many,
    omega (arith, many, is),
    start,
    b,
    (let n = no-fewer-payloads film payloads from g from start (omega arith) b.0 in omega (arith, n)),
    (let w = frame film payloads from g start start b.0 (omega (arith, many, is)) (omega arith) in let e = ap length w.whole in let k = length-append (batches (payloads start)) (w.gate ∷ w.behind) in omega (arith, e, k, is)),
  )) (below-or-not size 2);
}
  where
    none : length (film start) ≤ 1 → IsLog (film start) (payloads start) → payloads start ≡ []
    none few (inl h) = h.1
    none few (inr h) = (let n = h.0 in absurd (omega (arith, n, few)))

same-lasts : (x : Meanwhile) → Lasts x x
same-lasts x = record { film = refl; later = omega arith }

pub going-first : (limit size : ℕ) (b : Option (List ℕ)) (t : Option Told) (m : Option Meanwhile) (f : ℕ) → size ≤ limit → IfSome b (λ l. size ≡ length l) → IsGoingOn limit b b t t m m f f size size 0 []
going-first limit size b t m f fits is = record {
  fits = (fits, omega arith);
  bytes = refl;
  told = refl;
  faults = omega arith;
  alone = alone-of b is;
  meanwhile = λ payloads from start. WhereTold-same m (HasTurned payloads from start size 0 [] size) (λ x. (same-lasts x, λ g between is. first-reading x.film payloads from start x.now size g between is));
}
  where
    alone-of : (o : Option (List ℕ)) → IfSome o (λ l. size ≡ length l) → IfSome o (λ l. (◌≡◌ {A = ℕ} 0 0) × (size ≡ length l) × (◌≡◌ {A = List ℕ} [] []))
    alone-of None h = tt
    alone-of (Some l) h = (refl, h, refl)

if-map : (o : Option (List ℕ)) (P Q : List ℕ → Type 0) → ((l : List ℕ) → P l → Q l) → IfSome o P → IfSome o Q
if-map None P Q f h = tt
if-map (Some l) P Q f h = f l h

module _ (limit : ℕ) (b0 b1 : Option (List ℕ)) (t0 t1 : Option Told) (m0 m1 : Option Meanwhile) (f0 f1 first size turns : ℕ) (items : List ℕ) (h : IsGoingOn limit b0 b1 t0 t1 m0 m1 f0 f1 first size turns items) where
  -- what the next read wants
  pub alone-now : IfSome b1 (λ b. (size ≡ length b) × (items ≡ []))
  alone-now = subst (λ o. IfSome o (λ b. (size ≡ length b) × (items ≡ []))) (sym h.bytes) (if-map b0 (λ b. (turns ≡ 0) × (size ≡ length b) × (items ≡ [])) (λ b. (size ≡ length b) × (items ≡ [])) (λ b x. (x.1, x.2)) h.alone)

  then-answers : (payloads : ℕ → List (List ℕ)) (from start : ℕ) (m2 : Option Meanwhile) (after : List ℕ) (r : Result Turn LoadLog) (Q : Meanwhile → Meanwhile → Type 0)
      → ((x z : Meanwhile) → Lasts x z → (IsGrowing x.film payloads from → IsBetween from x.now start → first ≡ length (x.film start) → TurnAnswers limit x.film payloads from start z.now turns after r) → Q x z)
      → WhereTold m1 m2 (OnceAnswers limit payloads from start turns items size after r) → WhereTold m0 m2 Q
  then-answers payloads from start m2 after r Q f w =
      WhereTold-join m0 m1 m2 (HasTurned payloads from start first turns items size) (OnceAnswers limit payloads from start turns items size after r) Q
      (λ x y z p q. f x z (lasts-then x y z p.0 q.0) (λ g b is.
      (subst (λ film. IsGrowing film payloads from → IsReading film payloads from start y.now turns items size → TurnAnswers limit film payloads from start z.now turns after r) p.0.film q.1) g (p.1 g b is)))
      (h.meanwhile payloads from start) w

  -- a read behind which there is more
  pub going-next : (b2 : Option (List ℕ)) (t2 : Option Told) (m2 : Option Meanwhile) (f2 at size2 : ℕ) (items2 : List ℕ) → IfSome b1 (λ b. TurnLoads limit b (Ok (Open at size2))) → b2 ≡ b1 → Goes (OnlyReads 2) t1 t2 → IfSome t1 (λ t. b1 ≡ Some t.bytes)
      → f1 ≤ f2 → (size2 ≤ limit) × (length items2 ≤ size2) → ((payloads : ℕ → List (List ℕ)) (from start turns : ℕ) → WhereTold m1 m2 (OnceAnswers limit payloads from start turns items size items2 (Ok (Open at size2))))
      → IsGoingOn limit b0 b2 t0 t2 m0 m2 f0 f2 first size2 (turns + 1) items2
  going-next b2 t2 m2 f2 at size2 items2 never still reads tells later fits meanwhile = record {
    fits = fits;
    bytes = still ∙ h.bytes;
    told = gone b1 t1 t2 never tells reads ∙ h.told;
    faults = (let a = h.faults in omega (arith, a, later));
    alone = if-map b0 (λ b. ⊥) (λ b. (turns + 1 ≡ 0) × (size2 ≡ length b) × (items2 ≡ [])) (λ b x. absurd x) (subst (λ o. IfSome o (λ b. ⊥)) h.bytes never);
    meanwhile = λ payloads from start. then-answers payloads from start m2 items2 (Ok (Open at size2)) (HasTurned payloads from start first (turns + 1) items2 size2) (λ x z l f. (l, f)) (meanwhile payloads from start turns);
  }
    where
      gone : (b : Option (List ℕ)) (t u : Option Told) → IfSome b (λ l. ⊥) → IfSome t (λ y. b ≡ Some y.bytes) → Goes (OnlyReads 2) t u → u ≡ t
      gone b None None never is go = refl
      gone b None (Some y) never is go = absurd go
      gone b (Some x) u never is go = absurd (subst (λ o. IfSome o (λ l. ⊥)) is never)

  -- the last read
  pub ends-grown : (m2 : Option Meanwhile) (after : List ℕ) (r : Result Turn LoadLog) (q : Result Held LoadLog)
      → ((film : ℕ → List ℕ) (payloads : ℕ → List (List ℕ)) (from start now : ℕ) → TurnAnswers limit film payloads from start now turns after r → AnswersGrown limit film payloads from now q)
      → ((payloads : ℕ → List (List ℕ)) (from start turns : ℕ) → WhereTold m1 m2 (OnceAnswers limit payloads from start turns items size after r))
      → (payloads : ℕ → List (List ℕ)) (from start : ℕ) → WhereTold m0 m2 (AllAnswers limit payloads from start first q)
  ends-grown m2 after r q so w payloads from start =
      then-answers payloads from start m2 after r (AllAnswers limit payloads from start first q) (λ x z l f. (l, λ g b is. so x.film payloads from start z.now (f g b is))) (w payloads from start turns)

  -- no read more may be made
  pub ends-open : (at : ℕ) → 1000 ≤ turns → (payloads : ℕ → List (List ℕ)) (from start : ℕ) → WhereTold m0 m1 (AllAnswers limit payloads from start first (Err (Damaged at)))
  ends-open at most payloads from start =
      WhereTold-map m0 m1 (HasTurned payloads from start first turns items size) (AllAnswers limit payloads from start first (Err (Damaged at)))
      (λ x y p. (p.0, λ g b is. enough x.film y.now g (p.1 g b is))) (h.meanwhile payloads from start)
    where
      enough : (film : ℕ → List ℕ) (now : ℕ) → IsGrowing film payloads from → IsReading film payloads from start now turns items size → length (payloads from) + 1000 ≤ length (payloads now)
      enough film now g r =
          ⊎_elim (λ none. (let e = none.0 in absurd (omega (arith, e, most))))
          (λ o. (let n = no-fewer-payloads film payloads from g o.2 now o.3.0 o.3.1 in let k = o.4 in omega (arith, n, k, most))) r.reached

-- what the last read answers is what all do
pub answers-fault : (limit : ℕ) (fault : LoadLog) (after : List ℕ) (turns : ℕ) (film : ℕ → List ℕ) (payloads : ℕ → List (List ℕ)) (from start now : ℕ) → TurnAnswers limit film payloads from start now turns after (Err fault) → AnswersGrown limit film payloads from now (Err fault)
answers-fault limit (Damaged at) after turns film payloads from start now h = absurd h
answers-fault limit (TooLarge more) after turns film payloads from start now h = h
answers-fault limit Memory after turns film payloads from start now h = tt
answers-fault limit (Disk fault) after turns film payloads from start now h = tt

-- ---- behind the first size

pub peek_grown : (limit size : ℕ) (payloads : ℕ → List (List ℕ)) (r : Result Held LoadLog) (a b c : Option Meanwhile) → WhereTold a b Lasts → WhereTold a b (Measures size)
    → ((from start : ℕ) → WhereTold b c (AllAnswers limit payloads from start size r)) → WhereTold a c (ReadsGrown limit payloads r)
peek_grown limit size payloads r None b c l m w = tt
peek_grown limit size payloads r (Some x) None c l m w = absurd l
peek_grown limit size payloads r (Some x) (Some y) None l m w = absurd (w 0 0)
peek_grown limit size payloads r (Some x) (Some y) (Some z) l m w =
    let q = w x.now m.0 in
    let at-x = subst (λ film. IsGrowing film payloads x.now → IsBetween x.now y.now m.0 → size ≡ length (film m.0) → AnswersGrown limit film payloads x.now z.now r) l.film q.1 in
    (lasts-then x y z l q.0, λ g. at-x g m.1 m.2)

pub peek_large : (limit size : ℕ) (payloads : ℕ → List (List ℕ)) (a b : Option Meanwhile) → limit < size → WhereTold a b Lasts → WhereTold a b (Measures size) → WhereTold a b (ReadsGrown limit payloads (Err (TooLarge size)))
peek_large limit size payloads a b lt l m = WhereTold-both a b Lasts (Measures size) (ReadsGrown limit payloads (Err (TooLarge size))) (λ x y p q. (p, λ g. (lt, q))) l m

-- ---- behind a sync and the first size

pub lasts-both : (a b c : Option Meanwhile) → WhereTold a b Lasts → WhereTold b c Lasts → WhereTold a c Lasts
lasts-both a b c p q = WhereTold-join a b c Lasts Lasts Lasts lasts-then p q

pub sized-then : (a b c : Option Meanwhile) (size : ℕ) → WhereTold a b Lasts → WhereTold b c (Measures size) → WhereTold a c (Measures size)
sized-then a b c size p q = WhereTold-join a b c Lasts (Measures size) (Measures size)
    (λ x y z l m. (let n = subst (λ film. Measures size (record { film = film; now = y.now }) z) l.film m in (n.0, ((let i = n.1.0 in let j = l.later in omega (arith, i, j)), n.1.1), n.2))) p q

pub load_grown : (limit : ℕ) (payloads : ℕ → List (List ℕ)) (r : Result Held LoadLog) (a c : Option Meanwhile) → WhereTold a c (ReadsGrown limit payloads r) → LoadsGrown limit payloads r a c
load_grown limit payloads r None c w = tt
load_grown limit payloads r (Some x) c w = λ g two. w

-- a fresh file isn't one that had two bytes
pub load_fresh : (limit size : ℕ) (payloads : ℕ → List (List ℕ)) (r : Result Held LoadLog) (a b c : Option Meanwhile) → size ≤ 1 → WhereTold a b (Measures size) → LoadsGrown limit payloads r a c
load_fresh limit size payloads r None b c few m = tt
load_fresh limit size payloads r (Some x) None c few m = absurd m
load_fresh limit size payloads r (Some x) (Some y) c few m = λ g two. (let n = g.no_shorter x.now m.0 (omega arith) m.1.0 in let e = m.2 in absurd (omega (arith, n, e, few, two)))
