-- What a crash may leave, at each moment of a run.
use Rattle.std.specs.Prelude.{ℕ, ◌<◌, ◌≤◌, ◌≡◌, ◌⊎◌, ◌+◌, List, length, map, filter, take, nat_le}
use Rattle.std.specs.List.{AllByRecursion}
use Rattle.std.specs.List.Sorted.{IsStrictlyIncreasing}
use Rattle.id_groups.specs.Name.{Name}
use Rattle.commit_graph.specs.World.{World}
use Rattle.disk_trait.specs.Images.{Told, LeftAt, moment_of}
use Rattle.gated_log.specs.Holding.{IsLogWithin}
use Rattle.batch_codec.specs.Payload.{Payload}
use Rattle.change_rules.specs.Change.{text_of}
use Rattle.change_rules.specs.Holding.{HoldBytes, HoldPayloads}
use Rattle.step_rules.specs.State.{Stored, world_at}

-- how many changes were acknowledged up to a moment
abbrev pub acknowledged : List ℕ → ℕ → ℕ
acknowledged changes moment = length (filter (λ at. nat_le at moment) changes)

-- The bytes are the log of the payloads of the start and of so many changes since: of all that were acknowledged up to the
-- moment, and of at most one more.
abbrev pub IsPrefix : ℕ → List Payload → Stored → List ℕ → ℕ → List ℕ → Type 0
IsPrefix limit payloads final changes moment image =
    (count : ℕ) × (count ≤ length final.past)
    × ((count ≡ acknowledged changes moment) ⊎ (count ≡ acknowledged changes moment + 1))
    × IsLogWithin limit (map text_of (take (length payloads + count) final.payloads)) image

-- A run over a disk from a world with these payloads, that stored the changes of the last state, acknowledged at these
-- moments, or began one more. What crashes leave is said in two parts, joined by the payloads alone.
pub record Stopped (limit : ℕ) (w : World Name) (payloads : List Payload) (changes : List ℕ) (final : Stored) (old new : Told) : Type 0 where
  -- the moment at which loading had made the bytes sure
  pub sure : ℕ
  -- before it, what a crash leaves holds the world of the start
  pub loading : (moment : ℕ) (image : List ℕ) → moment_of old ≤ moment → moment < sure → moment ≤ moment_of new
      → LeftAt new moment image → HoldBytes limit image w
  -- from then on, it has the payloads of a prefix of the changes
  pub bytes : (moment : ℕ) (image : List ℕ) → moment_of old ≤ moment → sure ≤ moment → moment ≤ moment_of new
      → LeftAt new moment image → IsPrefix limit payloads final changes moment image
  -- the payloads of a prefix of the changes hold the world that was stored by the last of them
  pub worlds : (count : ℕ) → count ≤ length final.past → HoldPayloads (take (length payloads + count) final.payloads) (world_at final count)
  -- the changes are acknowledged one after another, before the end
  pub ascend : IsStrictlyIncreasing changes
  pub ended : AllByRecursion (λ at. at ≤ moment_of new) changes

-- The log has the payloads of the start, and one for each change since; those of each prefix of the changes hold the world
-- that was stored by the last of them.
pub record ArePrefixes (payloads : List Payload) (st : Stored) : Type 0 where
  pub front : take (length payloads) st.payloads ≡ payloads
  pub size : length st.payloads ≡ length payloads + length st.past
  pub worlds : (count : ℕ) → count ≤ length st.past → HoldPayloads (take (length payloads + count) st.payloads) (world_at st count)
