-- Films of two moments, and what a read of one sees.
use Rattle.std.proofs.Common.{◌≡◌, ◌<◌, ◌≤◌, ◌⊎◌, inl, inr, IfOk, Result, Ok, Err, ◌+◌, ◌-◌, ℕ, min, Bool, true, false, cond, List, [], ◌∷◌, ◌++◌, length, take, drop, get_or, refl, sym, ap, subst, ◌∙◌, arith, append-nil, append_assoc, length-append, lit≤, lit<}
use Rattle.std.proofs.lemmas.Bool.{ltb-true, ltb-false, eqb-false}
use Rattle.std.proofs.lemmas.List.{length-take, length-drop, get_or-take, get_or-drop, get_or_append_left, get_or-append_right, drop-append-le, take-append-drop}
use Rattle.std.specs.Prelude.{nat_lt}
use Rattle.disk_trait.specs.Meanwhile.{IsBetween, AreRead}
use Rattle.gated_log.specs.Log.{IsLog}
use Rattle.gated_log.specs.Growing.{IsGrowing, AnswersGrown}
use Rattle.gated_log.specs.Held.{Held}
use Rattle.gated_log.specs.declared.LoadLog.{LoadLog}
use Rattle.gated_log.specs.declared.LoadLog.TheVariants.{Damaged, TooLarge}
use Rattle.film_rows.specs.Films.{turning, of_two, GoOn, one_payload, two_payloads}

-- by the moment of a byte: the earlier one in front
between : (now next : ℕ) → now ≤ next → (b : Bool) → IsBetween now next (cond b now next)
between now next le true = (omega arith, le)
between now next le false = (le, omega arith)

order : (now next : ℕ) → now ≤ next → (b c : Bool) → (b ≡ false → c ≡ true → ⊥) → cond b now next ≤ cond c now next
order now next le true true never = omega arith
order now next le true false never = le
order now next le false false never = omega arith
order now next le false true never = absurd (never refl refl)

passed : (m j k : ℕ) → j ≤ k → nat_lt j m ≡ false → nat_lt k m ≡ true → ⊥
passed m j k h e f = let x = ltb-false j m e in let y = ltb-true k m f in omega (arith, x, y, h)

inside : (film : ℕ → List ℕ) (now next at k m : ℕ) (b : Bool) → nat_lt k m ≡ b → (k < m → at + k < length (film now)) → at + k < length (film next) → at + k < length (film (cond b now next))
inside film now next at k m true e f g = f (ltb-true k m e)
inside film now next at k m false e f g = g

stood : (film : ℕ → List ℕ) (now next at k m byte : ℕ) (b : Bool) → nat_lt k m ≡ b → (k < m → byte ≡ get_or (film now) (at + k) 0) → (m ≤ k → byte ≡ get_or (film next) (at + k) 0)
    → byte ≡ get_or (film (cond b now next)) (at + k) 0
stood film now next at k m byte true e f g = f (ltb-true k m e)
stood film now next at k m byte false e f g = g (ltb-false k m e)

-- what was read, the front at one moment and what is behind it at the next one
pub read-twice : (film : ℕ → List ℕ) (now next at front n : ℕ) (out0 out1 : List ℕ) → now ≤ next → length (film now) ≤ length (film next) → n ≡ min (length out0) (length (film next) - at)
    → out1 ≡ of_two at (min (min front (length out0)) (length (film now) - at)) n (film now) (film next) out0
    → AreRead film now next at (take n out1) × (min (length out1) (length (film now) - at) ≤ n)
read-twice film now next at front n out0 out1 le longer count is =
    let a = film now in
    let b = film next in
    let m = min (min front (length out0)) (length a - at) in
    let first = take m (drop at a) in
    let mid = take n (drop at b) ++ drop n out0 in
    let few : m ≤ n = omega (arith, longer, count) in
    let short : length first ≡ m = (let k = length-take m (drop at a) in let j = length-drop at a in omega (arith, k, j)) in
    let cut : length (take n (drop at b)) ≡ n = (let k = length-take n (drop at b) in let j = length-drop at b in omega (arith, k, j, count)) in
    let middle : length mid ≡ length out0 = (let k = length-append (take n (drop at b)) (drop n out0) in let j = length-drop n out0 in omega (arith, k, j, cut, count)) in
    let whole : length out1 ≡ length out0 = (let k = ap length is ∙ length-append first (drop m mid) in let j = length-drop m mid in omega (arith, k, j, short, middle, few, count)) in
    let size : length (take n out1) ≡ n = (let k = length-take n out1 in omega (arith, k, whole, count)) in
    let when : ℕ → ℕ = λ k. cond (nat_lt k m) now next in
    let seen : (k : ℕ) → k < n → get_or (take n out1) k 0 ≡ get_or out1 k 0 = λ k lt. get_or-take n out1 k 0 lt in
    let early : (k : ℕ) → k < n → k < m → get_or (take n out1) k 0 ≡ get_or a (at + k) 0 = λ k lt in_front.
    seen k lt ∙ ap (λ l. get_or l k 0) is ∙ get_or_append_left first (drop m mid) 0 k (omega (arith, in_front, short)) ∙ get_or-take m (drop at a) k 0 in_front ∙ get_or-drop at a k 0 in
    let late : (k : ℕ) → k < n → m ≤ k → get_or (take n out1) k 0 ≡ get_or b (at + k) 0 = λ k lt behind.
    seen k lt ∙ ap (λ l. get_or l k 0) is ∙ get_or-append_right first (drop m mid) m k 0 short behind ∙ get_or-drop m mid (k - m) 0
    ∙ ap (λ i. get_or mid i 0) (let e : m + (k - m) ≡ k = omega (arith, behind) in e)
    ∙ get_or_append_left (take n (drop at b)) (drop n out0) 0 k (omega (arith, lt, cut)) ∙ get_or-take n (drop at b) k 0 lt ∙ get_or-drop at b k 0 in (
      record {
        when = when;
        between = λ k. between now next le (nat_lt k m);
        in_order = λ j k h. order now next le (nat_lt j m) (nat_lt k m) (λ e f. passed m j k h e f);
        inside = λ k lt. inside film now next at k m (nat_lt k m) refl (λ f. omega (arith, f)) (omega (arith, lt, size, count));
        stood = λ k lt. stood film now next at k m (get_or (take n out1) k 0) (nat_lt k m) refl (early k (omega (arith, lt, size))) (late k (omega (arith, lt, size)));
      },
      omega (arith, whole, longer, count),
    )

-- a front that is put over what is there
pub over-front : (front at n r f : ℕ) (a b out0 out1 out2 : List ℕ) → n ≡ min (length out0) (length b - at) → out1 ≡ take n (drop at b) ++ drop n out0
    → f ≡ min front (length out1) → r ≡ min (length (take f out1)) (length a - at) → out2 ≡ take r (drop at a) ++ drop r (take f out1)
    → out2 ++ drop f out1 ≡ of_two at (min (min front (length out0)) (length a - at)) n a b out0
over-front front at n r f a b out0 out1 out2 count is size few put =
    let cut : length (take n (drop at b)) ≡ n = (let k = length-take n (drop at b) in let j = length-drop at b in omega (arith, k, j, count)) in
    let whole : length out1 ≡ length out0 = (let k = ap length is ∙ length-append (take n (drop at b)) (drop n out0) in let j = length-drop n out0 in omega (arith, k, j, cut, count)) in
    let room = length-take f out1 in
    let same : r ≡ min (min front (length out0)) (length a - at) = omega (arith, few, size, whole, room) in
    let within : r ≤ length (take f out1) = omega (arith, few) in
    ap (λ l. l ++ drop f out1) put ∙ append_assoc (take r (drop at a)) (drop r (take f out1)) (drop f out1)
    ∙ ap (λ l. take r (drop at a) ++ l) (sym (drop-append-le r (take f out1) (drop f out1) within) ∙ ap (drop r) (take-append-drop f out1 ∙ is))
    ∙ ap (λ k. take k (drop at a) ++ drop k (take n (drop at b) ++ drop n out0)) same

module _ (change : ℕ) where
  -- what holds of the first and of the later
  turned : {X : Type 0} (P : List X → Type 0) (first later : List X) (b : Bool) → P first → P later → P (cond b first later)
  turned P first later true h k = h
  turned P first later false h k = k

  -- what has turned stays so
  stays : (m n : ℕ) → m ≤ n → nat_lt m change ≡ false → nat_lt n change ≡ true → ⊥
  stays m n le e f = let h = ltb-false m change e in let k = ltb-true n change f in omega (arith, le, h, k)

  longer : (first later : List ℕ) → length first ≤ length later → (b c : Bool) → (b ≡ false → c ≡ true → ⊥) → length (cond b first later) ≤ length (cond c first later)
  longer first later h true true never = omega arith
  longer first later h true false never = h
  longer first later h false false never = omega arith
  longer first later h false true never = absurd (never refl refl)

  -- it has no fewer bytes at a later moment
  pub film-longer : (first later : List ℕ) → length first ≤ length later → (m n : ℕ) → m ≤ n → length (turning change first later m) ≤ length (turning change first later n)
  film-longer first later h m n le = longer first later h (nat_lt m change) (nat_lt n change) (λ e f. stays m n le e f)

  -- two bytes at first are two at each moment
  pub film-two : (m : ℕ) (first later : List ℕ) → 2 ≤ length first → length first ≤ length later → 2 ≤ length (turning change first later m)
  film-two m first later two le = by_test (nat_lt m change)
    where
      by_test : (b : Bool) → 2 ≤ length (cond b first later)
      by_test true = two
      by_test false = omega (arith, two, le)

  pub film-grows : (from : ℕ) (first later : List ℕ) (ps behind : List (List ℕ)) → GoOn first later ps behind → IsGrowing (turning change first later) (turning change ps (ps ++ behind)) from
  film-grows from first later ps behind h = record {
    is_log = λ moment le. logs (nat_lt moment change);
    grows = λ m n lo le. goes (nat_lt m change) (nat_lt n change) (λ e f. stays m n le e f);
    no_shorter = λ m n lo le. film-longer first later h.2 m n le;
  }
    where
      logs : (b : Bool) → IsLog (cond b first later) (cond b ps (ps ++ behind))
      logs true = h.0
      logs false = h.1

      goes : (b c : Bool) → (b ≡ false → c ≡ true → ⊥) → (more : List (List ℕ)) × (cond c ps (ps ++ behind) ≡ cond b ps (ps ++ behind) ++ more)
      goes true true never = ([], sym (append-nil ps))
      goes true false never = (behind, refl)
      goes false false never = ([], sym (append-nil (ps ++ behind)))
      goes false true never = absurd (never refl refl)

  -- what has the value of some moment has one of the two
  either : {X : Type 0} (x first later : List X) (b : Bool) → x ≡ cond b first later → (x ≡ first) ⊎ (x ≡ later)
  either x first later true e = inl e
  either x first later false e = inr e

  module _ (limit from to : ℕ) (first later : List ℕ) (ps behind : List (List ℕ)) where
    -- what a reader answers
    abbrev pub Answered : Result Held LoadLog → Type 0
    Answered r = AnswersGrown limit (turning change first later) (turning change ps (ps ++ behind)) from to r

    pub log-seen : (r : Result Held LoadLog) → Answered r → IfOk r (λ log. (log.payloads ≡ ps) ⊎ (log.payloads ≡ ps ++ behind))
    log-seen (Ok log) a = either log.payloads ps (ps ++ behind) (nat_lt a.0 change) a.2
    log-seen (Err e) a = tt

    came : (b c : Bool) → length (cond b ps (ps ++ behind)) + 1000 ≤ length (cond c ps (ps ++ behind)) → 1000 ≤ length behind
    came true true h = absurd (omega (arith, h))
    came true false h = omega (arith, h, length-append ps behind)
    came false true h = absurd (omega (arith, h, length-append ps behind))
    came false false h = absurd (omega (arith, h))

    pub damage-seen : (r : Result Held LoadLog) (at : ℕ) → r ≡ Err (Damaged at) → Answered r → 1000 ≤ length behind
    damage-seen r at e a = came (nat_lt from change) (nat_lt to change) (subst Answered e a)

    pub size-seen : (r : Result Held LoadLog) (size : ℕ) → r ≡ Err (TooLarge size) → Answered r → (limit < size) × ((size ≡ length first) ⊎ (size ≡ length later))
    size-seen r size e a = let s = subst Answered e a in (s.0, by_test (nat_lt s.1.0 change) s.1.2)
      where
        by_test : (b : Bool) → size ≡ length (cond b first later) → (size ≡ length first) ⊎ (size ≡ length later)
        by_test true f = inl f
        by_test false f = inr f

-- a log of one payload, and that of one more
pub one-goes-on : GoOn one_payload two_payloads ((170 ∷ []) ∷ []) ((187 ∷ []) ∷ [])
one-goes-on = (
  inr (lit≤ tt, (lit< tt, tt), 0, [], eqb-false 0 1 refl, refl),
  inr (lit≤ tt, (lit< tt, (lit< tt, tt)), 0, [], eqb-false 0 1 refl, refl),
  lit≤ tt,
)
