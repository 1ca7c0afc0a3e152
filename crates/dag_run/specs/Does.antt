-- What the program does: by its mode, what comes out and what a crash leaves; what each status means; and what is left alone.
use Rattle.std.specs.Prelude.{ℕ, ◌≡◌, ◌⊎◌, List, [], ◌∷◌, length, Option, IfSome, Result, Err}
use Rattle.outside.specs.Counts.{Rose}
use Rattle.outside.specs.Told.{WhereTold}
use Rattle.id_groups.specs.Name.{Name}
use Rattle.commit_graph.specs.World.{World}
use Rattle.disk_trait.specs.Images.{Told}
use Rattle.disk_trait.specs.Calls.{Goes}
use Rattle.disk_trait.specs.Since.{IsUntouched}
use Rattle.gated_log.specs.Load.{LeavesOldOrFresh}
use Rattle.batch_codec.specs.Payload.{Payload}
use Rattle.change_rules.specs.Holding.{HoldAs, KeepsHolding}
use Rattle.change_rules.specs.Standard.{standard}
use Rattle.change_rules.specs.declared.Limits.{Limits}
use Rattle.remote_rules.specs.Mirror.{Mirror}
use Rattle.remote_serve.specs.Steps.{ports, served_streams}
use Rattle.program_words.specs.Usage.{IsUsage}
use Rattle.program_words.specs.declared.usage.Mode.{Mode}
use Rattle.program_words.specs.declared.usage.Mode.TheVariants.{Run, Demo, Serve, Bundle, Compact}
use Rattle.program_words.specs.declared.usage.Usage.{Usage}
use Rattle.line_io.specs.Reading.{is_over, new_reading}
use Rattle.run_rules.specs.Means.{Means}
use Rattle.dag_run.specs.Seen.{Seen, seen, streams}
use Rattle.dag_run.specs.declared.stops.Stop.{Stop}
use Rattle.dag_run.specs.declared.stops.Stop.TheVariants.{Memory, NoLog}
use Rattle.dag_run.specs.Stops.{end_of, IsOneOf, IsOverAt, IsOverBy}
use Rattle.dag_run.specs.Ends.{Begins, EndRefuses, HasCauses, RunRefuses, StatusMeans, StatusRefuses}
use Rattle.dag_run.specs.Demo.{DemoMeans}
use Rattle.dag_run.specs.Serving.{ServeMeans, WantsOne}
use Rattle.dag_run.specs.Bundling.{BundleMeans}
use Rattle.dag_run.specs.Compacting.{CompactMeans}
use Rattle.dag_run.specs.Modes.{IsModeStatus, EndsAtOnce}

-- ---- all that the program reaches, as it was and as it is then
-- a disk: itself, what it tells of its moments, the bytes that it had, and its counts of faults
pub record DiskSides (D : Type 0) : Type 0 where
  pub was : D
  pub is : D
  pub before : Option Told
  pub after : Option Told
  pub bytes : Option (List ℕ)
  pub faults : ℕ
  pub faults_then : ℕ

-- the mirrors: themselves, and what they show, of those handed in and of those that are left
pub record MirrorSides (M : Type 0) : Type 0 where
  pub was : M
  pub is : M
  pub first : List Mirror
  pub left : List Mirror

-- a source or a sink: itself, the bytes that it has left or has taken, and its counts of faults
pub record PortSides (P : Type 0) : Type 0 where
  pub was : P
  pub is : P
  pub before : Option (List ℕ)
  pub after : Option (List ℕ)
  pub faults : ℕ
  pub faults_then : ℕ

pub record Around (D M I O : Type 0) : Type 0 where
  pub log : DiskSides D
  pub spare : DiskSides D
  pub mirrors : MirrorSides M
  pub input : PortSides I
  pub output : PortSides O

-- of a disk that tells so
abbrev pub disk_sides : {D : Type 0} → (D → Option Told) → (D → Option (List ℕ)) → (D → ℕ) → D → D → DiskSides D
disk_sides told bytes faults was is = record { was = was; is = is; before = told was; after = told is; bytes = bytes was; faults = faults was; faults_then = faults is }

-- of a source or a sink that tells so
abbrev pub port_sides : {P : Type 0} → (P → Option (List ℕ)) → (P → ℕ) → P → P → PortSides P
port_sides told faults was is = record { was = was; is = is; before = told was; after = told is; faults = faults was; faults_then = faults is }

-- log, source and sink together, where all three tell
abbrev pub seen_before : {D I O : Type 0} → DiskSides D → PortSides I → PortSides O → Option Seen
seen_before log input output = seen log.before input.before output.before

abbrev pub seen_after : {D I O : Type 0} → DiskSides D → PortSides I → PortSides O → Option Seen
seen_after log input output = seen log.after input.after output.after

-- ---- what comes out, and what a crash leaves, by the mode
-- A run answers the lines of its input within these limits, with room for so many names that mirrors gave.
pub record DoesRun {D M I O : Type 0} (limits : Limits) (room : ℕ) (log : DiskSides D) (mirrors : MirrorSides M) (input : PortSides I) (output : PortSides O) (status : ℕ) (changes : List ℕ) : Type 0 where
  -- over a log that holds a world: the replies to the lines, the log at each moment and the moments of its changes, and that no line is left out
  pub means : (w : World Name) (payloads : List Payload) → WhereTold (seen_before log input output) (seen_after log input output)
      (λ before after. Begins limits w payloads room mirrors.first before → StatusMeans limits w payloads room mirrors.first mirrors.left
      (Rose log.faults log.faults_then) (Rose input.faults input.faults_then) (Rose output.faults output.faults_then) status changes before after)
  -- over any log: status 4 exactly where its bytes are no log, unless disk or memory fails before, and nothing is written then
  pub refuses : IfSome log.bytes (λ bytes. StatusRefuses limits.log bytes status)
  pub no_log : WhereTold (seen_before log input output) (seen_after log input output) (EndRefuses limits status)
  -- 8 only of an input that is too long, and 0 of none that is
  pub over : WhereTold input.before input.after (λ before after. IsOverBy limits.input status (length before))

-- A demonstration puts the last four replies of a run in memory over lines that it makes itself.
pub record DoesDemo {D M I O : Type 0} (size start : ℕ) (x : Around D M I O) (status : ℕ) (changes : List ℕ) : Type 0 where
  pub means : WhereTold x.output.before x.output.after (DemoMeans size start status)
  pub log : x.log.is ≡ x.log.was
  pub spare : x.spare.is ≡ x.spare.was
  pub mirrors : x.mirrors.is ≡ x.mirrors.was
  pub input : x.input.is ≡ x.input.was
  pub none : changes ≡ []

-- Serving answers the framed requests of the input over the one mirror.
pub record DoesServe {D M I O : Type 0} (x : Around D M I O) (status : ℕ) (changes : List ℕ) : Type 0 where
  pub means : length x.mirrors.first ≡ 1 → WhereTold (ports x.input.before x.output.before) (ports x.input.after x.output.after)
      (λ before after. ServeMeans standard.input status (served_streams before after) x.mirrors.first x.mirrors.left)
  pub one : WantsOne (length x.mirrors.first) status
  pub log : x.log.is ≡ x.log.was
  pub spare : x.spare.is ≡ x.spare.was
  pub none : changes ≡ []

-- A bundle is put of the master of the log.
pub record DoesBundle {D M I O : Type 0} (x : Around D M I O) (status : ℕ) (changes : List ℕ) : Type 0 where
  pub means : (payloads : List Payload) (w : World Name) → IfSome x.log.bytes (λ bytes. HoldAs standard.log bytes payloads w
      → WhereTold x.output.before x.output.after (BundleMeans payloads w status))
  pub refuses : IfSome x.log.bytes (λ bytes. StatusRefuses standard.log bytes status)
  -- the log at each moment: what it holds, and its bytes as they were unless it was fresh
  pub holds : (w : World Name) → Goes (KeepsHolding standard.log w) x.log.before x.log.after
  pub loaded : Goes LeavesOldOrFresh x.log.before x.log.after
  pub nothing : (status ≡ 0) ⊎ ((status ≡ 6) ⊎ (x.output.is ≡ x.output.was))
  pub spare : x.spare.is ≡ x.spare.was
  pub mirrors : x.mirrors.is ≡ x.mirrors.was
  pub input : x.input.is ≡ x.input.was
  pub none : changes ≡ []

-- The log is written anew, to the spare disk.
pub record DoesCompact {D M I O : Type 0} (x : Around D M I O) (status : ℕ) (changes : List ℕ) : Type 0 where
  -- with what the spare disk has at each moment
  pub means : CompactMeans standard.log x.log.bytes x.spare.bytes x.spare.before x.spare.after x.output.before x.output.after status
  pub holds : (w : World Name) → Goes (KeepsHolding standard.log w) x.log.before x.log.after
  pub loaded : Goes LeavesOldOrFresh x.log.before x.log.after
  pub nothing : (status ≡ 0) ⊎ ((status ≡ 6) ⊎ (x.output.is ≡ x.output.was))
  pub spare : (status ≡ 3) ⊎ (status ≡ 4) → x.spare.is ≡ x.spare.was
  pub mirrors : x.mirrors.is ≡ x.mirrors.was
  pub input : x.input.is ≡ x.input.was
  pub none : changes ≡ []

-- By the mode; a run leaves the spare disk alone, too.
abbrev pub DoesIn : {D M I O : Type 0} → Mode → Usage → Around D M I O → ℕ → List ℕ → Type 0
DoesIn Run usage x status changes = DoesRun standard usage.cache x.log x.mirrors x.input x.output status changes × (x.spare.is ≡ x.spare.was)
DoesIn Demo usage x status changes = DoesDemo usage.size usage.start x status changes
DoesIn Serve usage x status changes = DoesServe x status changes
DoesIn Bundle usage x status changes = DoesBundle x status changes
DoesIn Compact usage x status changes = DoesCompact x status changes

-- ---- what a status means, in each mode
-- who failed, and with which statuses nothing was read, put or asked
pub record Causes {D M I O : Type 0} (x : Around D M I O) (status : ℕ) : Type 0 where
  pub disk : status ≡ 3 → Rose x.log.faults x.log.faults_then
  pub no_log : status ≡ 4 → Goes IsUntouched x.log.before x.log.after × (x.input.is ≡ x.input.was) × (x.output.is ≡ x.output.was) × (x.mirrors.is ≡ x.mirrors.was)
  pub source : status ≡ 5 → Rose x.input.faults x.input.faults_then
  pub sink : status ≡ 6 → Rose x.output.faults x.output.faults_then
  pub spare : status ≡ 13 → Rose x.spare.faults x.spare.faults_then
  pub quiet : IsOneOf (2 ∷ 7 ∷ 10 ∷ 11 ∷ 13 ∷ 14 ∷ 15 ∷ []) status → (x.input.is ≡ x.input.was) × (x.output.is ≡ x.output.was) × (x.mirrors.is ≡ x.mirrors.was)

-- ---- the program
-- What it does over a usage, which ends with this status and tells these changes.
pub record Does {D M I O : Type 0} (usage : Usage) (x : Around D M I O) (status : ℕ) (changes : List ℕ) : Type 0 where
  pub mode : DoesIn usage.mode usage x status changes
  pub known : IsModeStatus usage.mode status
  pub causes : Causes x status

-- It ends at once, with 2 over words that are no usage, and with 7 for want of memory to read them. All is left alone.
pub record EndsUntouched {D M I O : Type 0} (words : List (List ℕ)) (x : Around D M I O) (status : ℕ) (changes : List ℕ) : Type 0 where
  pub why : EndsAtOnce words status
  pub log : x.log.is ≡ x.log.was
  pub spare : x.spare.is ≡ x.spare.was
  pub mirrors : x.mirrors.is ≡ x.mirrors.was
  pub input : x.input.is ≡ x.input.was
  pub output : x.output.is ≡ x.output.was
  pub none : changes ≡ []

-- What it does over words: they are a usage, and it does what that says; or it ends at once.
abbrev pub DoesWords : {D M I O : Type 0} → List (List ℕ) → Around D M I O → ℕ → List ℕ → Type 0
DoesWords words x status changes = ((usage : Usage) × IsUsage words usage × Does usage x status changes) ⊎ EndsUntouched words x status changes

-- ---- for the code's own clauses
-- a run's answers over a log, by how it ended
pub record EndsRun {D M I O : Type 0} (limits : Limits) (room : ℕ) (log : DiskSides D) (mirrors : MirrorSides M) (input : PortSides I) (output : PortSides O) (result : Result Unit Stop) (changes : List ℕ) : Type 0 where
  pub means : (w : World Name) (payloads : List Payload) → WhereTold (seen_before log input output) (seen_after log input output)
      (λ before after. Begins limits w payloads room mirrors.first before → Means limits w payloads room mirrors.first mirrors.left
      (streams before after) (Rose output.faults output.faults_then) before.disk after.disk (end_of result) changes)
  pub over : WhereTold input.before input.after (λ before after. IsOverAt result (is_over (new_reading limits.input) before))
  pub refuses : IfSome log.bytes (λ bytes. RunRefuses limits.log bytes result)
  pub unwritten : result ≡ Err NoLog → Goes IsUntouched log.before log.after × (input.is ≡ input.was) × (output.is ≡ output.was) × (mirrors.is ≡ mirrors.was)
  pub quiet : result ≡ Err Memory → (input.is ≡ input.was) × (output.is ≡ output.was) × (mirrors.is ≡ mirrors.was)
  pub causes : HasCauses log.faults log.faults_then input.faults input.faults_then output.faults output.faults_then result
