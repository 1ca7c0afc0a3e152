-- Why a run stops, and how it ends then.
use Rattle.std.specs.Prelude.{ℕ, ◌≡◌, ◌⊎◌, ◌<◌, ◌≤◌, ◌==◌, Bool, true, false, List, [], ◌∷◌, Option, Some, None, IsTrue, Ok, Err, ⊤}
use Rattle.std.specs.List.{list_any}
use Rattle.std.specs.declared.result.Result.{Result}
use Rattle.line_io.specs.declared.lines.LineFault.{LineFault}
use Rattle.line_io.specs.declared.lines.LineFault.TheVariants.{Read, Limit}
use Rattle.run_rules.specs.Ends.{End, Done, OverLimit, NoSource, NoSink, NotLoaded, NotStored, NoLog, NoMemory}
use Rattle.dag_run.specs.declared.stops.Stop.{Stop}
use Rattle.dag_run.specs.declared.stops.Stop.TheVariants as stops

-- where no line could be read
abbrev pub stop_of : LineFault → Stop
stop_of Read = stops.Source
stop_of Limit = stops.Limit

-- how the run ends
abbrev pub end_of : Result Unit Stop → End
end_of (Ok x) = Done
end_of (Err stops.Memory) = NoMemory
end_of (Err stops.NoLog) = NoLog
end_of (Err stops.NotLoaded) = NotLoaded
end_of (Err stops.NotStored) = NotStored
end_of (Err stops.Source) = NoSource
end_of (Err stops.Sink) = NoSink
end_of (Err stops.Limit) = OverLimit

-- what may stop a run within a line
abbrev pub IsLineStop : Stop → Type 0
IsLineStop stops.Sink = ⊤
IsLineStop stops.NotStored = ⊤
IsLineStop _ = ⊥

-- what may stop it while the store is loaded
abbrev pub IsLoadStop : Stop → Type 0
IsLoadStop stops.Memory = ⊤
IsLoadStop stops.NoLog = ⊤
IsLoadStop stops.NotLoaded = ⊤
IsLoadStop _ = ⊥

-- what may stop it while lines are answered
abbrev pub IsAnswerStop : Stop → Type 0
IsAnswerStop stops.Sink = ⊤
IsAnswerStop stops.NotStored = ⊤
IsAnswerStop stops.Source = ⊤
IsAnswerStop stops.Limit = ⊤
IsAnswerStop _ = ⊥

-- Whether the input is longer than its limit, where a run went through all of it or ended for that.
abbrev pub IsOverAt : Result Unit Stop → Bool → Type 0
IsOverAt (Ok x) over = over ≡ false
IsOverAt (Err stops.Limit) over = over ≡ true
IsOverAt (Err _) over = ⊤

-- The same of one line's turn: where one was answered, it is afterwards as before.
abbrev pub GoesOver : {S : Type 0} → Result (Option S) Stop → Bool → Bool → Type 0
GoesOver (Ok (Some store)) old new = new ≡ old
GoesOver (Ok None) old new = old ≡ false
GoesOver (Err stops.Limit) old new = old ≡ true
GoesOver (Err _) old new = ⊤

-- the same by the status, of an input of so many bytes
abbrev pub IsOverBy : ℕ → ℕ → ℕ → Type 0
IsOverBy limit status size = (status ≡ 8 → limit < size) × (status ≡ 0 → size ≤ limit)

-- the statuses of a run over lines
abbrev pub IsRunStatus : ℕ → Type 0
IsRunStatus status = IsTrue (list_any (λ known. known == status) (0 ∷ 3 ∷ 4 ∷ 5 ∷ 6 ∷ 7 ∷ 8 ∷ []))

-- those of a demonstration
abbrev pub IsDemoStatus : ℕ → Type 0
IsDemoStatus status = IsTrue (list_any (λ known. known == status) (0 ∷ 6 ∷ 7 ∷ []))

-- the statuses of the program, with that of words that aren't a usage
abbrev pub IsStatus : ℕ → Type 0
IsStatus status = IsTrue (list_any (λ known. known == status) (0 ∷ 2 ∷ 3 ∷ 4 ∷ 5 ∷ 6 ∷ 7 ∷ 8 ∷ 10 ∷ 11 ∷ 12 ∷ 13 ∷ 14 ∷ 15 ∷ []))

-- the status is one of these
abbrev pub IsOneOf : List ℕ → ℕ → Type 0
IsOneOf [] status = ⊥
IsOneOf (one ∷ more) status = (status ≡ one) ⊎ IsOneOf more status
