-- What the calls of a disk in memory made of it, moment by moment.
use Rattle.std.specs.Prelude.{◌≡◌, ℕ, zero, suc, min, List, [], ◌∷◌, ◌++◌, length, take, map, slice_index_or}
use Rattle.disk_trait.specs.Images.{Unsynced, Told, surely}
use Rattle.disk_trait.specs.Calls.{overwritten, with_range}
use Rattle.disk_memory.specs.declared.call.Call.{Call}
use Rattle.disk_memory.specs.declared.call.Kind.{Kind}
use Rattle.disk_memory.specs.declared.call.Kind.TheVariants.{Write, Sync}

-- one moment: what a crash may leave of it, and what a read gives
pub record Scene : Type 0 where
  pub unsynced : Unsynced
  pub bytes : List ℕ

-- the scenes at the moments that are over, the first one first, and the one now
pub record History : Type 0 where
  pub past : List Scene
  pub now : Scene

-- all of it is sure
abbrev pub synced_scene : List ℕ → Scene
synced_scene bytes = record { unsynced = surely bytes; bytes = bytes }

-- the piece was written there, and may be lost
abbrev pub written_scene : ℕ → List ℕ → Scene → Scene
written_scene at piece scene = record { unsynced = with_range scene.unsynced at (length piece); bytes = overwritten scene.bytes at piece }

-- a call later: the scene within it, and that after it
abbrev pub after : History → Scene → Scene → History
after h within next = record { past = h.past ++ h.now ∷ within ∷ []; now = next }

-- so many calls that changed nothing
unfoldable pub passes : ℕ → History → History
passes zero h = h
passes (suc n) h = let before = passes n h in after before before.now before.now

-- a call that changed something; a write begins inside
abbrev pub done : Kind → History → History
done (Write at piece) h = let next = written_scene (min at (length h.now.bytes)) piece.items h.now in after h next next
done Sync h = after h h.now (synced_scene h.now.bytes)

unfoldable pub replayed : History → List Call → History
replayed h [] = h
replayed h (call ∷ calls) = replayed (done call.kind (passes call.idle h)) calls

-- by what the disk had at first, the calls that changed something, and how many came behind them
unfoldable pub history_of : List ℕ → List Call → ℕ → History
history_of start calls idle = passes idle (replayed (record { past = []; now = synced_scene start }) calls)

-- what is told of it
unfoldable pub told_of : History → Told
told_of h = record { bytes = h.now.bytes; past = map (λ scene. scene.unsynced) h.past; now = h.now.unsynced }

-- the scenes at all moments up to now
abbrev pub scenes_of : History → List Scene
scenes_of h = h.past ++ h.now ∷ []

-- what was at each moment up to the old one's stays as it was
abbrev pub Keeps : History → History → Type 0
Keeps old new = take (length (scenes_of old)) (scenes_of new) ≡ scenes_of old

-- the scene at a moment
abbrev pub scene_at : History → ℕ → Scene
scene_at h moment = slice_index_or (scenes_of h) moment h.now
