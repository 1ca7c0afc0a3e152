-- What the source and the sink in memory mean.
use Rattle.std.specs.Prelude.{ℕ, ◌+◌, ◌==◌, Bool, min, List, ◌++◌, drop}
use Rattle.std.specs.List.{list_any}
use Rattle.outside.specs.Counts.{last_count}

-- a source in memory: the bytes left, the most that a call gives, the calls so far, and those that are to fail
pub record MemoryInput : Type 0 where
  pub left : List ℕ
  pub cut : ℕ
  pub calls : ℕ
  pub fails : List ℕ
  pub faults : ℕ

-- a sink in memory: the bytes taken, the calls so far, and those that are to fail
pub record MemoryOutput : Type 0 where
  pub taken : List ℕ
  pub calls : ℕ
  pub fails : List ℕ
  pub faults : ℕ

-- a counter one further, unless it stands at its last value
abbrev pub next_count : ℕ → ℕ
next_count count = min (count + 1) last_count

-- whether the call that is counted next is to fail
abbrev pub is_to_fail : ℕ → List ℕ → Bool
is_to_fail calls fails = list_any (λ number. number == next_count calls) fails

-- the source gave this many bytes
abbrev pub given : MemoryInput → ℕ → MemoryInput
given source count = record source { left = drop count source.left; calls = next_count source.calls }

-- the source failed
abbrev pub source_failed : MemoryInput → MemoryInput
source_failed source = record source { calls = next_count source.calls; faults = next_count source.faults }

-- the sink took these bytes
abbrev pub taken_all : MemoryOutput → List ℕ → MemoryOutput
taken_all sink piece = record sink { taken = sink.taken ++ piece; calls = next_count sink.calls }

-- the sink failed behind these bytes
abbrev pub sink_failed : MemoryOutput → List ℕ → MemoryOutput
sink_failed sink front = record (taken_all sink front) { faults = next_count sink.faults }
