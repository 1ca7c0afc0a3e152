use Rattle.std.proofs.Common.{◌≡◌, ◌≤◌, ◌-◌, ℕ, length, List, true, false}
use Rattle.std.specs.Prelude.{nat_le}
use Rattle.std.specs.List.{AllWithin}
use Rattle.flat_segments.specs.Entries.{PlainEntry}
use Rattle.flat_segments.proofs.search.count_before.Given as goal

pub record Between (id low high : ℕ) (es : List PlainEntry) : Type 0 where
  pub order : low ≤ high
  pub within : high ≤ length es
  pub front : AllWithin (λ (e : PlainEntry). nat_le e.low id ≡ true) es 0 low
  pub back : AllWithin (λ (e : PlainEntry). nat_le e.low id ≡ false) es high (length es)

abbrev pub invariant-search : goal.invariant-search
invariant-search l = Between l.id l.low l.high l.entries

abbrev pub decreases-search : goal.decreases-search
decreases-search l = l.high - l.low
