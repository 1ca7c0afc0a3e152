-- What C is told of the calls of the log's disk that are to be performed.
use Rattle.std.specs.Prelude.{◌≡◌, ℕ, List, [], length, Option, None, Some}
use Rattle.call_disk.specs.Noted.{Call, Write, Sync, behind_first}
use Rattle.call_disk.specs.Awaited.{awaited}
use Rattle.segdag_c.specs.declared.held.Held.{Held}

-- the kind of the next one, and of a write its place and how many bytes it has
abbrev pub IsSaid : Option Call → ℕ → ℕ → ℕ → Type 0
IsSaid None kind at size = kind ≡ 0
IsSaid (Some (Write from piece)) kind at size = (kind ≡ 1) × (at ≡ from) × (size ≡ length piece)
IsSaid (Some Sync) kind at size = kind ≡ 2

-- the bytes that it writes
abbrev pub piece_of : Option Call → List ℕ
piece_of None = []
piece_of (Some (Write from piece)) = piece
piece_of (Some Sync) = []

-- the first one goes, and nothing else
pub record IsPerformed (before after : Held) : Type 0 where
  pub calls : awaited after.log ≡ behind_first (awaited before.log)
  pub store : after.store ≡ before.store
  pub mirrors : after.mirrors ≡ before.mirrors
  pub reply : after.reply ≡ before.reply
  pub names : after.names ≡ before.names
