-- What a run of the program means: its answers, its mirrors, and what its disk has at each moment.
use Rattle.std.specs.Prelude.{ℕ, ◌≡◌, ◌≤◌, ◌+◌, ◌⊎◌, List, [], ◌∷◌, length, map, nat_le, if◌then◌else◌, ⊤}
use Rattle.line_io.specs.Streams.{Streams}
use Rattle.id_groups.specs.Lists.{IsIn}
use Rattle.id_groups.specs.Name.{Name}
use Rattle.commit_graph.specs.World.{World}
use Rattle.disk_trait.specs.Images.{Told, moment_of}
use Rattle.gated_log.specs.Holding.{IsLogWithin}
use Rattle.batch_codec.specs.Payload.{Payload}
use Rattle.change_rules.specs.declared.Limits.{Limits}
use Rattle.change_rules.specs.Change.{text_of}
use Rattle.change_rules.specs.Unlawful.{IsNoLog}
use Rattle.remote_rules.specs.Mirror.{Mirror}
use Rattle.step_rules.specs.State.{State, Stored, at_start, worlds}
use Rattle.step_rules.specs.Reply.{Reply, Refused}
use Rattle.step_rules.specs.declared.Refusal.TheVariants.{Remote}
use Rattle.step_rules.specs.Rises.{EachWas, HasFailed}
use Rattle.remote_rules.specs.Serving.{NeverFail}
use Rattle.run_rules.specs.Run.{Run, Step}
use Rattle.run_rules.specs.Ends.{End, Done, OverLimit, NoMemory, NotLoaded, NotStored, NoLog, EndsAs}
use Rattle.run_rules.specs.Stopped.{Stopped}

-- The next line would have stored a world, after asking the mirrors so.
abbrev pub WouldStore : Limits → State → List (List ℕ) → List Mirror → Stored → Type 0
WouldStore limits last [] mirrors final = ⊥
WouldStore limits last (line ∷ more) mirrors final =
    (reply : Reply) × (after : State) × Step limits last line reply after × (after.store.past ≡ worlds last.store)
    × (final ≡ after.store) × (mirrors ≡ after.outside.mirrors)

-- The mirrors as they are left, and all that was stored: those of the last state. Where a commit met a fault of the disk, its line
-- may have asked them, and its world counts too.
abbrev pub Leaves : End → Limits → State → List (List ℕ) → List Mirror → Stored → Type 0
Leaves NotStored limits last more mirrors final = WouldStore limits last more mirrors final
Leaves end limits last more mirrors final = (mirrors ≡ last.outside.mirrors) × (final ≡ last.store)

-- the moment at which loading has ended: it makes four calls of the disk for a fresh file, and three for any other
abbrev pub loaded_at : Told → ℕ
loaded_at old = moment_of old + (if nat_le (length old.bytes) 1 then 8 else 6)

-- the last of some moments, or this one
abbrev pub last_of : ℕ → List ℕ → ℕ
last_of at [] = at
last_of at (next ∷ more) = last_of next more

-- When each change was acknowledged: four calls of the disk behind the change before it, the first one behind loading.
abbrev pub AreCommits : ℕ → List ℕ → Type 0
AreCommits at [] = ⊤
AreCommits at (next ∷ more) = (next ≡ at + 8) × AreCommits next more

-- The disk's clock at the end is no later than that of the last change, or of loading; or else one of the four calls of a commit
-- failed. Nothing else calls the disk.
abbrev pub CallsEnd : End → Told → List ℕ → ℕ → Type 0
CallsEnd NotStored old changes moment = moment ≤ last_of (loaded_at old) changes + 8
CallsEnd end old changes moment = moment ≤ last_of (loaded_at old) changes

-- where all was read the disk has the last state's payloads
abbrev pub Keeps : End → ℕ → List Payload → Told → Type 0
Keeps Done limit payloads disk = IsLogWithin limit (map text_of payloads) disk.bytes
Keeps OverLimit limit payloads disk = IsLogWithin limit (map text_of payloads) disk.bytes
Keeps end limit payloads disk = ⊤

-- A run from the world of the start, with the mirrors handed in, that ended so: the lines that it executed, their replies and the
-- state that they led to; and what the streams, the mirrors and the disk say of it.
pub record Means (limits : Limits) (w : World Name) (payloads : List Payload) (room : ℕ) (mirrors mirrors_now : List Mirror)
    (io : Streams) (SinkFailed : Type 0) (old new : Told) (end : End) (changes : List ℕ) : Type 0 where
  pub lines : List (List ℕ)
  pub replies : List Reply
  pub last : State
  pub run : Run limits (at_start w payloads room mirrors) lines replies last
  -- the lines behind them
  pub more : List (List ℕ)
  pub ends : EndsAs end limits.input io SinkFailed lines more replies
  -- each change was acknowledged once
  pub stored : length changes ≡ length last.store.past
  -- all that was stored, and the change that a fault of the disk cut short
  pub final : Stored
  pub leaves : Leaves end limits last more mirrors_now final
  pub each : AreCommits (loaded_at old) changes
  pub calls : CallsEnd end old changes (moment_of new)
  pub stopped : Stopped limits.log w payloads changes final old new
  -- from the first sync on all is sure, unless this call failed, the first of loading
  pub sure : (stopped.sure ≤ moment_of old + 2) ⊎ ((end ≡ NotLoaded) × (moment_of new ≤ moment_of old + 2))
  pub kept : Keeps end limits.log last.store.payloads new

-- What refuses a log, over any disk that tells its bytes: only bytes that are no log, with nothing written to the disk or put; and
-- over such bytes a run ends so, unless a call of loading failed or memory was wanting before the first line.
pub record RefusesLog (limit : ℕ) (io : Streams) (old new : Told) (end : End) : Type 0 where
  pub cause : end ≡ NoLog → IsNoLog limit old.bytes × (new.bytes ≡ old.bytes) × (io.now ≡ io.taken)
  pub exactly : IsNoLog limit old.bytes → (end ≡ NoLog) ⊎ ((end ≡ NotLoaded) ⊎ (end ≡ NoMemory))

-- Where no count of disk, source and sink rose and the input is within its limit, the run ends with all lines answered, unless memory
-- was wanting before the first. Where the mirrors never fail, or the count of some mirror that is left didn't rise, no line is
-- refused because all failed.
pub record IsComplete (limits : Limits) (mirrors mirrors_now : List Mirror) (io : Streams) (DiskFailed SourceFailed SinkFailed : Type 0) (end : End) (replies : List Reply) : Type 0 where
  pub ends : ¬ DiskFailed → ¬ SourceFailed → ¬ SinkFailed → length io.input ≤ limits.input → (end ≡ Done) ⊎ (end ≡ NoMemory)
  pub answered : NeverFail mirrors ⊎ ¬ (EachWas HasFailed mirrors mirrors_now) → (n : ℕ) → ¬ (IsIn (Refused (Remote n)) replies)
