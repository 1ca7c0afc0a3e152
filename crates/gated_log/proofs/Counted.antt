-- How many calls were made.
use Rattle.std.proofs.Common.{◌≡◌, ℕ, ◌+◌, ◌*◌, ◌≤◌, List, length, length-append, replicate, Option, Some, None, IfSome, Bool, true, false, nat_le, if◌then◌else◌, ◌∙◌, sym, ap, subst, arith, ⊎_elim}
use Rattle.std.proofs.lemmas.Bool.{le-leb}
use Rattle.std.specs.Prelude.{OnOk, Result, Ok, Err}
use Rattle.std.proofs.lemmas.List.{length-replicate}
use Rattle.gated_log.specs.Log.{IsDamaged}
use Rattle.disk_trait.specs.Images.{Unsynced, Told, moment_of, surely}
use Rattle.disk_trait.specs.Calls.{after_call, Passes, Syncs, Succeeds, OrRefuses, Goes}
use Rattle.disk_trait.proofs.Moments.{moment-call}
use Rattle.disk_trait.proofs.Telling.{goes-then, goes-map, goes-same, goes-from}
use Rattle.gated_log.specs.Load.{WithinCalls, LoadCalls, KeepsBytes, OnlyReads, IsUnwritten, after_reads}
use Rattle.gated_log.proofs.LoadCalls.{IsSized, size_was}

abbrev pub Step : Told → Told → Type 0
Step old new = moment_of new ≤ moment_of old + 2

after-step : (t : Told) (within after : Unsynced) (bytes : List ℕ) (new : Told) → new ≡ after_call t within after bytes → Step t new
after-step t within after bytes new e = let m = ap moment_of e ∙ moment-call t within after bytes in omega (arith, m)

same-step : (t new : Told) → new ≡ t → Step t new
same-step t new e = let m = ap moment_of e in omega (arith, m)

pass-step : (a b : Told) → OrRefuses Passes a b → Step a b
pass-step a b r = ⊎_elim (λ p. after-step a a.now a.now a.bytes b p.1) (λ p. same-step a b p.1) r

pub steps-pass : (a b : Option Told) → Goes (OrRefuses Passes) a b → Goes Step a b
steps-pass a b w = goes-map (OrRefuses Passes) Step a b pass-step w

pub steps-sync : (a b : Option Told) → Goes (Succeeds Syncs) a b → Goes Step a b
steps-sync a b w = goes-map (Succeeds Syncs) Step a b (λ x y r. after-step x x.now (surely x.bytes) x.bytes y r.1) w

pub after-some : (most : ℕ) (a b : Told) → OnlyReads most a b → moment_of b ≤ moment_of a + 2 * most
after-some most a b r =
    let m = ap moment_of r.2 in
    let sum = length-append a.past (replicate (2 * r.0) a.now) in
    let n = length-replicate (2 * r.0) a.now in
    let le = r.1 in
    omega (arith, m, sum, n, le)

pub in-one : (a b : Option Told) → Goes Step a b → Goes (WithinCalls 2) a b
in-one a b v = goes-map Step (WithinCalls 2) a b (λ x y r. omega (arith, r)) v

pub in-none : (a : Option Told) → Goes (WithinCalls 2) a a
in-none a = goes-same (WithinCalls 2) a (λ x. omega arith)

-- ---- as many calls as loading may make
within-six : (a b : Told) → moment_of b ≤ moment_of a + 6 → LoadCalls a b
within-six a b le = λ no. by_length (nat_le (length a.bytes) 1)
  where
    by_length : (c : Bool) → moment_of b ≤ moment_of a + (if c then 8 else 6)
    by_length true = omega (arith, le)
    by_length false = le

within-eight : (a b : Told) → length a.bytes ≤ 1 → moment_of b ≤ moment_of a + 8 → LoadCalls a b
within-eight a b few le = λ no. subst (λ c. moment_of b ≤ moment_of a + (if c then 8 else 6)) (sym (le-leb (length a.bytes) 1 few)) le

pub one-within : (a b : Option Told) → Goes Step a b → Goes LoadCalls a b
one-within a b v = goes-map Step LoadCalls a b (λ x y r. within-six x y (omega (arith, r))) v

pub two-within : (a b c : Option Told) → Goes Step a b → Goes Step b c → Goes LoadCalls a c
two-within a b c v w = goes-then Step Step LoadCalls a b c (λ x y z r s. within-six x z (omega (arith, r, s))) v w

pub sized-within : (a b : Option Told) → Goes IsSized a b → Goes LoadCalls a b
sized-within a b v = goes-map IsSized LoadCalls a b (λ x y s. within-six x y (let m = s.clock in omega (arith, m))) v

-- one read where the bytes that were read aren't damaged, and one call more where they are
pub read-within : (bytes : Option (List ℕ)) (a b c : Option Told) → Goes IsSized a b → IfSome b (λ t. bytes ≡ Some t.bytes) → Goes (OnlyReads 2) b c
    → IfSome bytes (λ l. ((at : ℕ) → IsDamaged l at → ⊥) → Goes (OnlyReads 1) b c) → Goes LoadCalls a c
read-within bytes None None None v t w o = tt
read-within bytes None None (Some z) v t w o = w
read-within bytes None (Some y) c v t w o = absurd v
read-within bytes (Some x) None c v t w o = absurd v
read-within bytes (Some x) (Some y) None v t w o = absurd w
read-within bytes (Some x) (Some y) (Some z) v t w o = λ undamaged.
    let one = (subst (λ l. IfSome l (λ k. ((at : ℕ) → IsDamaged k at → ⊥) → OnlyReads 1 y z)) t o) (λ at d. undamaged at (subst (λ l. IsDamaged l at) v.bytes d)) in
    within-six x z (let m = v.clock in let n = after-some 1 y z one in omega (arith, m, n)) undamaged

pub read-calls : (a b c : Option Told) → Goes IsSized a b → Goes (OnlyReads 2) b c → Goes (WithinCalls 4) a c
read-calls a b c v w = goes-then IsSized (OnlyReads 2) (WithinCalls 4) a b c (λ x y z s r. (let m = s.clock in let n = after-some 2 y z r in omega (arith, m, n))) v w

pub read-damaged : (a b c : Option Told) → Goes IsSized a b → Goes (λ old new. new ≡ after_reads 2 old) b c → Goes (IsUnwritten 4) a c
read-damaged a b c v w = goes-then IsSized (λ old new. new ≡ after_reads 2 old) (IsUnwritten 4) a b c
    (λ x y z s e. ((let m = s.clock in let n = ap moment_of e in let sum = length-append y.past (replicate 4 y.now) in omega (arith, m, n, sum)), ap (λ (t : Told). t.bytes) e ∙ s.bytes, ap (λ (t : Told). t.now) e ∙ s.sure)) v w

pub start-within : (size : ℕ) (a b c : Option Told) → size ≤ 1 → Goes IsSized a b → IfSome b (λ t. size ≡ length t.bytes) → Goes (WithinCalls 2) b c → Goes LoadCalls a c
start-within size a b c few v is w =
    goes-from (λ x z. moment_of z ≤ moment_of x + 8) LoadCalls (λ x. size ≡ length x.bytes) a c (λ x z e le. within-eight x z (omega (arith, e, few)) le) (size_was size a b v is)
    (goes-then IsSized (WithinCalls 2) (λ x z. moment_of z ≤ moment_of x + 8) a b c (λ x y z s r. (let m = s.clock in omega (arith, m, r))) v w)

-- ---- what was written
pub read-kept : (a b c : Option Told) → Goes IsSized a b → Goes Passes b c → Goes KeepsBytes a c
read-kept a b c v w = goes-then IsSized Passes KeepsBytes a b c (λ x y z s r many. ap (λ (t : Told). t.bytes) r ∙ s.bytes) v w

pub start-kept : (size : ℕ) (a b c : Option Told) → size ≤ 1 → Goes IsSized a b → IfSome b (λ t. size ≡ length t.bytes) → Goes (WithinCalls 2) b c → Goes KeepsBytes a c
start-kept size a b c few v is w =
    goes-from (λ x z. moment_of z ≤ moment_of x + 8) KeepsBytes (λ x. size ≡ length x.bytes) a c (λ x z e le many. absurd (omega (arith, e, few, many))) (size_was size a b v is)
    (goes-then IsSized (WithinCalls 2) (λ x z. moment_of z ≤ moment_of x + 8) a b c (λ x y z s r. (let m = s.clock in omega (arith, m, r))) v w)

pub on-ok : {T E P : Type 0} (r : Result T E) → P → OnOk r P
on-ok (Ok x) p = p
on-ok (Err e) p = tt

pub then-ok : {T E P Q : Type 0} (r : Result T E) → (P → Q) → OnOk r P → OnOk r Q
then-ok (Ok x) f p = f p
then-ok (Err e) f p = tt
