-- The room for one payload more.
use Rattle.std.proofs.Common.{◌≡◌, ℕ, ◌≤◌, ◌<◌, Bool, true, false, refl, arith, nat_lt, cond, le_refl, zero-le, Result, Ok, Err, OnErr}
use Rattle.std.proofs.lemmas.Bool.{ltb-true, ltb-false}
use Rattle.gated_log.specs.Held.{room_of}

by_test : (b : Bool) (x : ℕ) → cond b x 0 ≤ x
by_test true x = le_refl x
by_test false x = zero-le

pub room-le : (capacity places used : ℕ) → room_of capacity places used ≤ capacity
unfolding room_of
room-le capacity places used = by_test (nat_lt used places) capacity

some_by_test : (b : Bool) (x used places : ℕ) → nat_lt used places ≡ b → used < places → cond b x 0 ≡ x
some_by_test true x used places e h = refl
some_by_test false x used places e h = absurd (let g = ltb-false used places e in omega (arith, g, h))

pub room-some : (capacity places used : ℕ) → used < places → room_of capacity places used ≡ capacity
unfolding room_of
room-some capacity places used h = some_by_test (nat_lt used places) capacity used places refl h

none_by_test : (b : Bool) (x used places : ℕ) → nat_lt used places ≡ b → places ≤ used → cond b x 0 ≡ 0
none_by_test true x used places e h = absurd (let g = ltb-true used places e in omega (arith, g, h))
none_by_test false x used places e h = refl

pub room-none : (capacity places used : ℕ) → places ≤ used → room_of capacity places used ≡ 0
unfolding room_of
room-none capacity places used h = none_by_test (nat_lt used places) capacity used places refl h

pub on_err : {T E P : Type 0} (r : Result T E) → P → OnErr r P
on_err (Ok x) p = tt
on_err (Err e) p = p

pub on_err_both : {T E P Q R : Type 0} (r : Result T E) → (P → Q → R) → OnErr r P → OnErr r Q → OnErr r R
on_err_both (Ok x) f p q = tt
on_err_both (Err e) f p q = f p q
