-- What words say of a mode, also where they end the program at once.
use Rattle.std.proofs.Common.{ℕ, ◌≡◌, ◌≤◌, ◌<◌, ◌∙◌, arith, inl, inr, ⊎_elim, List, [], Option, Some, None, Err, refl, sym, ap, subst, subst₂}
use Rattle.id_groups.specs.Name.{Name}
use Rattle.commit_graph.specs.World.{World}
use Rattle.outside.specs.Told.{WhereTold}
use Rattle.outside.proofs.ToldLemmas.{WhereTold-same}
use Rattle.disk_trait.specs.Images.{Told}
use Rattle.batch_codec.specs.Payload.{Payload}
use Rattle.change_rules.specs.declared.Limits.{Limits}
use Rattle.change_rules.specs.Standard.{AreLimits}
use Rattle.remote_rules.specs.Mirror.{Mirror}
use Rattle.program_words.specs.Usage.{WritesNumber, IsUsage}
use Rattle.program_words.specs.declared.usage.Mode.{Mode}
use Rattle.program_words.specs.declared.usage.Mode.TheVariants.{Run, Demo}
use Rattle.program_words.specs.declared.usage.Usage.{Usage}
use Rattle.program_words.proofs.Exactly.{one-usage, no-usage}
use Rattle.dag_run.specs.Ends.{Begins, StatusMeans, EndRefuses}
use Rattle.dag_run.specs.Demo.{DemoMeans}
use Rattle.dag_run.specs.Modes.{IsUsageOf, IsDemoOf, IsRunOf, EndsAtOnce}
use Rattle.dag_run.specs.Seen.{seen, streams}
use Rattle.dag_run.specs.declared.stops.Stop.TheVariants as stops
use Rattle.run_rules.specs.Ends.{NoMemory}
use Rattle.dag_run.proofs.Ending.{ends-unread}
use Rattle.dag_run.proofs.Statuses.{complete}

-- words of a usage end it for want of memory alone
pub only-memory : (words : List (List ℕ)) (status : ℕ) (usage : Usage) → EndsAtOnce words status → IsUsage words usage → status ≡ 7
only-memory words status usage (inl none) is = absurd (no-usage words usage none.1 is)
only-memory words status usage (inr seven) is = seven

-- which is an end that a run may have
pub once-means : (limits : Limits) → AreLimits limits → (words : List (List ℕ)) (status : ℕ) (changes : List ℕ) (cache : ℕ) → EndsAtOnce words status → IsRunOf cache words → changes ≡ []
    → (w : World Name) (payloads : List Payload) (mirrors : List Mirror) (DiskFailed SourceFailed SinkFailed : Type 0) (d : Option Told) (i o : Option (List ℕ))
    → WhereTold (seen d i o) (seen d i o) (λ before after. Begins limits w payloads cache mirrors before → StatusMeans limits w payloads cache mirrors mirrors DiskFailed SourceFailed SinkFailed status changes before after)
once-means limits fair words status changes cache once of none w payloads mirrors DiskFailed SourceFailed SinkFailed d i o =
    WhereTold-same (seen d i o) _ (λ x begins.
    let m = ends-unread limits fair w payloads cache mirrors SinkFailed x begins x refl refl refl in
    subst (λ l. StatusMeans limits w payloads cache mirrors mirrors DiskFailed SourceFailed SinkFailed status l x x) (sym none) (
      NoMemory,
      only-memory words status of.0 once of.1,
      m,
      complete (Err stops.Memory) limits w payloads cache mirrors mirrors (streams x x) DiskFailed SourceFailed SinkFailed x.disk x.disk [] m
          (λ e. ⊎_elim (λ f. absurd (cc f)) (λ f. absurd (cc f)) e) (λ e. absurd (cc e)) (λ e. absurd (cc e)),
    ))

-- and refuses no log
pub once-refuses : (limits : Limits) (words : List (List ℕ)) (status : ℕ) → EndsAtOnce words status → IsUsageOf Run words
    → (d : Option Told) (i o : Option (List ℕ)) → WhereTold (seen d i o) (seen d i o) (EndRefuses limits status)
once-refuses limits words status once of d i o =
    WhereTold-same (seen d i o) _ (λ x. (NoMemory, only-memory words status of.0 once of.1, record { cause = λ e. absurd (cc e); exactly = λ none. inr (inr refl) }))

-- ---- the run
-- there is room for as many names as the words say
pub one-cache : (words : List (List ℕ)) (usage : Usage) (cache : ℕ) → IsUsage words usage → IsRunOf cache words → usage.cache ≡ cache
one-cache words usage cache is of = ap (λ (u : Usage). u.cache) (one-usage words usage of.0 is of.1) ∙ of.3

least-number : (low high : ℕ) (text : Option (List ℕ)) (n : ℕ) → WritesNumber low high text n → low ≤ n
least-number low high None n h = absurd h
least-number low high (Some text) n h = h.2

pub cache-least : (words : List (List ℕ)) (usage : Usage) → IsUsage words usage → 0 < usage.cache
cache-least words usage is = let one = least-number 1 65536 _ usage.cache is.matches.cache in omega (arith, one)

-- ---- the demonstration
-- it has a commit
pub size-least : (words : List (List ℕ)) (usage : Usage) → IsUsage words usage → 1 ≤ usage.size
size-least words usage is = least-number 1 60000 _ usage.size is.matches.size

-- words of one mode are no usage of another
pub one-mode : (words : List (List ℕ)) (usage : Usage) (mode : Mode) → IsUsage words usage → IsUsageOf mode words → usage.mode ≡ mode
one-mode words usage mode is of = ap (λ (u : Usage). u.mode) (one-usage words usage of.0 is of.1) ∙ of.2

pub of-demo : (size start : ℕ) (words : List (List ℕ)) → IsDemoOf size start words → IsUsageOf Demo words
of-demo size start words of = (of.0, of.1, of.2)

-- nothing is put where memory was wanting for the words
pub once-demo : (words : List (List ℕ)) (status size start : ℕ) (o : Option (List ℕ)) → EndsAtOnce words status → IsDemoOf size start words → WhereTold o o (DemoMeans size start status)
once-demo words status size start o once of = WhereTold-same o _ (λ x. inl (only-memory words status of.0 once of.1, refl))

-- the demonstration is that of the numbers that the words are read as
pub demo-means : (words : List (List ℕ)) (usage : Usage) (status size start : ℕ) (o p : Option (List ℕ)) → IsUsage words usage → IsDemoOf size start words
    → WhereTold o p (DemoMeans usage.size usage.start status) → WhereTold o p (DemoMeans size start status)
demo-means words usage status size start o p is of told =
    let same : usage ≡ of.0 = one-usage words usage of.0 is of.1 in
    let sizes : usage.size ≡ size = ap (λ (u : Usage). u.size) same ∙ of.3 in
    let starts : usage.start ≡ start = ap (λ (u : Usage). u.start) same ∙ of.4 in
    subst₂ (λ m n. WhereTold o p (DemoMeans m n status)) sizes starts told
