-- Whether the input is longer than its limit, by how a run ended, whatever the disk.
use Rattle.std.proofs.Common.{ℕ, ◌≡◌, ◌∙◌, Bool, List, Option, Ok, Err, length, sym}
use Rattle.std.specs.declared.result.Result.{Result}
use Rattle.std.proofs.lemmas.Bool.{ltb-true, ltb-false}
use Rattle.outside.specs.Told.{WhereTold}
use Rattle.outside.proofs.ToldLemmas.{WhereTold-same}
use Rattle.line_io.specs.Reading.{Reading, is_over, new_reading}
use Rattle.line_io.specs.Next.{NextLine}
use Rattle.line_io.specs.declared.lines.LineFault.{LineFault}
use Rattle.line_io.specs.declared.lines.LineFault.TheVariants.{Read, Limit}
use Rattle.line_io.proofs.LinesLemmas.{is_over-new}
use Rattle.run_rules.specs.Ends.{status_of as end_status}
use Rattle.dag_run.specs.declared.stops.Stop.{Stop}
use Rattle.dag_run.specs.declared.stops.Stop.TheVariants as stops
use Rattle.dag_run.specs.Modes.{EndsAtOnce, IsUsageOf}
use Rattle.dag_run.specs.Stops.{end_of, stop_of, GoesOver, IsLineStop, IsLoadStop, IsOverAt, IsOverBy}
use Rattle.dag_run.specs.Modes.{IsUsageOf}
use Rattle.program_words.specs.declared.usage.Mode.TheVariants.{Run}
use Rattle.dag_run.proofs.Usages.{only-memory}

-- no line could be read
pub fault-over : (S : Type 0) (fault : LineFault) (old new : Reading) (before after : List ℕ) → NextLine (Err fault) old before new after
    → GoesOver {S = S} (Err (stop_of fault)) (is_over old before) (is_over new after)
fault-over S Read old new before after h = tt
fault-over S Limit old new before after h = h.1

-- a line stopped the run
pub line-over : (S : Type 0) (stop : Stop) → IsLineStop stop → (old new : Bool) → GoesOver {S = S} (Err stop) old new
line-over S stops.Memory is old new = tt
line-over S stops.NoLog is old new = tt
line-over S stops.NotLoaded is old new = tt
line-over S stops.NotStored is old new = tt
line-over S stops.Source is old new = tt
line-over S stops.Sink is old new = tt
line-over S stops.Limit is old new = absurd is

-- one of some lines did
pub stop-over : (S : Type 0) (stop : Stop) (first old new : Bool) → old ≡ first → GoesOver {S = S} (Err stop) old new → IsOverAt (Err stop) first
stop-over S stops.Memory first old new same h = tt
stop-over S stops.NoLog first old new same h = tt
stop-over S stops.NotLoaded first old new same h = tt
stop-over S stops.NotStored first old new same h = tt
stop-over S stops.Source first old new same h = tt
stop-over S stops.Sink first old new same h = tt
stop-over S stops.Limit first old new same h = sym same ∙ h

-- no store was loaded
pub load-over : (stop : Stop) → IsLoadStop stop → (over : Bool) → IsOverAt (Err stop) over
load-over stops.Memory is over = tt
load-over stops.NoLog is over = tt
load-over stops.NotLoaded is over = tt
load-over stops.NotStored is over = tt
load-over stops.Source is over = tt
load-over stops.Sink is over = tt
load-over stops.Limit is over = absurd is

-- by the status, of an input of which nothing was read
pub status-over : (end : Result Unit Stop) (status limit : ℕ) (before : List ℕ) → status ≡ end_status (end_of end) → IsOverAt end (is_over (new_reading limit) before) → IsOverBy limit status (length before)
status-over (Ok x) status limit before e h = (
  λ eight. absurd (let no : end_status (end_of (Ok x)) ≡ 8 = sym e ∙ eight in cc no),
  λ zero. ltb-false limit (length before) (sym (is_over-new limit before) ∙ h),
)
status-over (Err stops.Limit) status limit before e h = (
  λ eight. ltb-true limit (length before) (sym (is_over-new limit before) ∙ h),
  λ zero. absurd (let no : end_status (end_of (Err stops.Limit)) ≡ 0 = sym e ∙ zero in cc no),
)
status-over (Err stops.Memory) status limit before e h = (λ eight. absurd (let no : 7 ≡ 8 = sym e ∙ eight in cc no), λ zero. absurd (let no : 7 ≡ 0 = sym e ∙ zero in cc no))
status-over (Err stops.NoLog) status limit before e h = (λ eight. absurd (let no : 4 ≡ 8 = sym e ∙ eight in cc no), λ zero. absurd (let no : 4 ≡ 0 = sym e ∙ zero in cc no))
status-over (Err stops.NotLoaded) status limit before e h = (λ eight. absurd (let no : 3 ≡ 8 = sym e ∙ eight in cc no), λ zero. absurd (let no : 3 ≡ 0 = sym e ∙ zero in cc no))
status-over (Err stops.NotStored) status limit before e h = (λ eight. absurd (let no : 3 ≡ 8 = sym e ∙ eight in cc no), λ zero. absurd (let no : 3 ≡ 0 = sym e ∙ zero in cc no))
status-over (Err stops.Source) status limit before e h = (λ eight. absurd (let no : 5 ≡ 8 = sym e ∙ eight in cc no), λ zero. absurd (let no : 5 ≡ 0 = sym e ∙ zero in cc no))
status-over (Err stops.Sink) status limit before e h = (λ eight. absurd (let no : 6 ≡ 8 = sym e ∙ eight in cc no), λ zero. absurd (let no : 6 ≡ 0 = sym e ∙ zero in cc no))

-- the words wanted memory
pub once-over : (words : List (List ℕ)) (status limit : ℕ) → EndsAtOnce words status → IsUsageOf Run words → (i : Option (List ℕ)) → WhereTold i i (λ before after. IsOverBy limit status (length before))
once-over words status limit once of i =
    let seven = only-memory words status of.0 once of.1 in
    WhereTold-same i _ (λ x. (λ eight. absurd (let no : 7 ≡ 8 = sym seven ∙ eight in cc no), λ zero. absurd (let no : 7 ≡ 0 = sym seven ∙ zero in cc no)))
