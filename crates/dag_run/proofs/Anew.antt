-- Logs that are written anew: where nothing was begun, and statuses.
use Rattle.std.proofs.Common.{ℕ, ◌≡◌, ◌⊎◌, inl, inr, List, Option, Some, None, IfSome, refl, sym, subst, arith}
use Rattle.outside.proofs.ToldLemmas.{WhereTold-same}
use Rattle.disk_trait.specs.Images.{Told}
use Rattle.change_rules.specs.Holding.{HoldAs}
use Rattle.disk_trait.specs.Calls.{Goes}
use Rattle.disk_trait.specs.declared.DiskFault.{DiskFault}
use Rattle.log_compact.specs.Compacts.{IsReadAs, IsWrittenAs, Shrinks, KeepsNoneOrWhole, IsOfFrom}
use Rattle.log_compact.specs.declared.answer.Compacted.{Compacted}
use Rattle.log_compact.specs.declared.answer.Compacted.TheVariants.{Done, FromDisk, FromBad, ToDisk, NotFresh, Full, Memory}
use Rattle.log_compact.proofs.Both.{moments-same, loaded-same}
use Rattle.dag_run.specs.Compacting.{CompactMeans, HasStatus, IsCompactStatus, PutsAnswer}

if-any : (F : List ℕ → Type 0) (a : Option (List ℕ)) → ((bytes : List ℕ) → F bytes) → IfSome a F
if-any F None f = tt
if-any F (Some bytes) f = f bytes

-- for want of memory before anything was read
pub compact-idle : (limit status : ℕ) → status ≡ 7 → (log_bytes spare_bytes : Option (List ℕ)) (spare : Option Told) (taken : Option (List ℕ))
    → CompactMeans limit log_bytes spare_bytes spare spare taken taken status
compact-idle limit status seven log_bytes spare_bytes spare taken = record {
  answer = Memory;
  has = seven;
  puts = WhereTold-same taken (PutsAnswer Memory status) (λ x. refl);
  reads = if-any (λ bytes. IsReadAs limit bytes Memory) log_bytes (λ bytes. tt);
  writes = if-any (λ bytes. IsWrittenAs limit bytes Memory) spare_bytes (λ bytes. tt);
  shrinks = λ payloads w. if-any (λ bytes. HoldAs limit bytes payloads w → Shrinks limit payloads w Memory) log_bytes (λ bytes hold. tt);
  moments = λ payloads w. if-any (λ bytes. HoldAs limit bytes payloads w → Goes (KeepsNoneOrWhole limit payloads w) spare spare) log_bytes
      (λ bytes hold. moments-same limit payloads w spare);
  done = λ payloads w shrunk e. absurd (cc e);
  loaded = λ h. loaded-same spare;
  unwritten = λ e. absurd (cc e);
}

-- ---- which answer a status is of
pub answer-status : (answer : Compacted) (status : ℕ) → HasStatus answer status → IsCompactStatus status
answer-status (Done shrunk) status (inl e) = subst IsCompactStatus (sym e) refl
answer-status (Done shrunk) status (inr e) = subst IsCompactStatus (sym e) refl
answer-status (FromDisk fault) status e = subst IsCompactStatus (sym e) refl
answer-status FromBad status e = subst IsCompactStatus (sym e) refl
answer-status (ToDisk fault) status e = subst IsCompactStatus (sym e) refl
answer-status NotFresh status e = subst IsCompactStatus (sym e) refl
answer-status (Full most) status e = subst IsCompactStatus (sym e) refl
answer-status Memory status e = subst IsCompactStatus (sym e) refl

pub of-log-disk : (answer : Compacted) (status : ℕ) → HasStatus answer status → status ≡ 3 → (fault : DiskFault) × (answer ≡ FromDisk fault)
of-log-disk (Done shrunk) status (inl h) e = absurd (omega (arith, h, e))
of-log-disk (Done shrunk) status (inr h) e = absurd (omega (arith, h, e))
of-log-disk (FromDisk fault) status h e = (fault, refl)
of-log-disk FromBad status h e = (let n : status ≡ 4 = h in absurd (omega (arith, n, e)))
of-log-disk (ToDisk fault) status h e = (let n : status ≡ 13 = h in absurd (omega (arith, n, e)))
of-log-disk NotFresh status h e = (let n : status ≡ 14 = h in absurd (omega (arith, n, e)))
of-log-disk (Full most) status h e = (let n : status ≡ 15 = h in absurd (omega (arith, n, e)))
of-log-disk Memory status h e = (let n : status ≡ 7 = h in absurd (omega (arith, n, e)))

pub of-no-log : (answer : Compacted) (status : ℕ) → HasStatus answer status → status ≡ 4 → answer ≡ FromBad
of-no-log (Done shrunk) status (inl h) e = absurd (omega (arith, h, e))
of-no-log (Done shrunk) status (inr h) e = absurd (omega (arith, h, e))
of-no-log (FromDisk fault) status h e = (let n : status ≡ 3 = h in absurd (omega (arith, n, e)))
of-no-log FromBad status h e = refl
of-no-log (ToDisk fault) status h e = (let n : status ≡ 13 = h in absurd (omega (arith, n, e)))
of-no-log NotFresh status h e = (let n : status ≡ 14 = h in absurd (omega (arith, n, e)))
of-no-log (Full most) status h e = (let n : status ≡ 15 = h in absurd (omega (arith, n, e)))
of-no-log Memory status h e = (let n : status ≡ 7 = h in absurd (omega (arith, n, e)))

pub of-spare-disk : (answer : Compacted) (status : ℕ) → HasStatus answer status → status ≡ 13 → (fault : DiskFault) × (answer ≡ ToDisk fault)
of-spare-disk (Done shrunk) status (inl h) e = absurd (omega (arith, h, e))
of-spare-disk (Done shrunk) status (inr h) e = absurd (omega (arith, h, e))
of-spare-disk (FromDisk fault) status h e = (let n : status ≡ 3 = h in absurd (omega (arith, n, e)))
of-spare-disk FromBad status h e = (let n : status ≡ 4 = h in absurd (omega (arith, n, e)))
of-spare-disk (ToDisk fault) status h e = (fault, refl)
of-spare-disk NotFresh status h e = (let n : status ≡ 14 = h in absurd (omega (arith, n, e)))
of-spare-disk (Full most) status h e = (let n : status ≡ 15 = h in absurd (omega (arith, n, e)))
of-spare-disk Memory status h e = (let n : status ≡ 7 = h in absurd (omega (arith, n, e)))

pub of-log : (answer : Compacted) (status : ℕ) → HasStatus answer status → (status ≡ 3) ⊎ (status ≡ 4) → IsOfFrom answer
of-log answer status h (inl e) = (let p = of-log-disk answer status h e in subst IsOfFrom (sym p.1) tt)
of-log answer status h (inr e) = subst IsOfFrom (sym (of-no-log answer status h e)) tt
