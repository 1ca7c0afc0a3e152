-- Segments that rise: each begins below the next, and the last below the end.
use Rattle.std.proofs.Common.{◌≡◌, ℕ, zero, suc, ◌+◌, ◌-◌, ◌<◌, ◌≤◌, inl, inr, List, [], ◌∷◌, Some, refl, sym, subst, arith}
use Rattle.std.specs.Prelude.{⊤, slice_get}
use Rattle.id_groups.specs.Lists.{IsIn}
use Rattle.segment_codec.specs.Record.{Segment}
use Rattle.segment_codec.specs.Table.{Follow}
use Rattle.segment_codec.proofs.Numbers.{some_is}
use Rattle.flat_segments.specs.Maximal.{begin_of, up_to}

abbrev pub Rise : ℕ → List Segment → Type 0
Rise end [] = ⊤
Rise end (s ∷ more) = (s.low < begin_of end more) × Rise end more

pub begin-up_to : (end : ℕ) (xs : List Segment) → begin_of end (up_to end xs) ≡ begin_of end xs
begin-up_to end [] = refl
begin-up_to end (s ∷ more) = refl

pub rise-begin : (end : ℕ) (xs : List Segment) → Rise end xs → begin_of end xs ≤ end
rise-begin end [] h = omega arith
rise-begin end (s ∷ more) h = let r = rise-begin end more h.1 in let lt = h.0 in omega arith

-- ended where the next begins, they follow one another
pub rise-follow : (end : ℕ) (xs : List Segment) → Rise end xs → Follow (begin_of end xs) end (up_to end xs)
rise-follow end [] h = refl
rise-follow end (s ∷ more) h =
    let lt = h.0 in
    let on : begin_of end more - 1 + 1 ≡ begin_of end more = omega arith in
    (refl, omega arith, subst (λ (n : ℕ). Follow n end (up_to end more)) (sym on) (rise-follow end more h.1))

pub follow-begin : (first end : ℕ) (xs : List Segment) → Follow first end xs → begin_of end xs ≡ first
follow-begin first end [] h = sym h
follow-begin first end (s ∷ more) h = h.0

pub follow-rise : (first end : ℕ) (xs : List Segment) → Follow first end xs → Rise end xs
follow-rise first end [] h = tt
follow-rise first end (s ∷ more) h =
    let low = h.0 in let order = h.1 in let next = follow-begin (s.high + 1) end more h.2 in
    (omega arith, follow-rise (s.high + 1) end more h.2)

-- segments that follow one another end where the next begins
pub follow-up_to : (first end : ℕ) (xs : List Segment) → Follow first end xs → up_to end xs ≡ xs
follow-up_to first end [] h = refl
follow-up_to first end (s ∷ more) h =
    let next = follow-begin (s.high + 1) end more h.2 in
    let high : begin_of end more - 1 ≡ s.high = omega arith in
    let others = follow-up_to (s.high + 1) end more h.2 in
    rw (high, others) refl

pub get-in : {X : Type 0} (xs : List X) (k : ℕ) (x : X) → slice_get xs k ≡ Some x → IsIn x xs
get-in [] k x e = absurd cc
get-in (y ∷ ys) zero x e = inl (sym (some_is y x e))
get-in (y ∷ ys) (suc k) x e = inr (get-in ys k x e)
