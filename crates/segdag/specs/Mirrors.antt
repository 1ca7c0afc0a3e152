-- The mirrors that the words of remotes make.
use Rattle.std.specs.Prelude.{ℕ, Bool, ◌≡◌, ◌^◌, List, [], ◌∷◌, Option, Some, None, ⊤}
use Rattle.remote_rules.specs.Mirror.{Mirror as Shown}
use Rattle.remote_store.specs.Remote.{mirror_of as log_shown}
use Rattle.remote_bundle.specs.Remote.{mirror_of as bundle_shown}
use Rattle.remote_pipe.specs.Remote.{mirror_of as pipe_shown}
use Rattle.change_rules.specs.Standard.{standard}
use Rattle.segdag.specs.Remotes.{NamesSo}
use Rattle.segdag.specs.declared.remotes.Named.{Named}
use Rattle.segdag.specs.declared.remotes.Named.TheVariants as names
use Rattle.segdag.specs.declared.mirror.Mirror.{Mirror}
use Rattle.segdag.specs.declared.mirror.Mirror.TheVariants.{Log, Bundle, Pipe}

-- a mirror shows what that shows of which it is made
abbrev pub shown_of : Mirror → Shown
shown_of (Log r) = log_shown r.log
shown_of (Bundle r) = bundle_shown r
shown_of (Pipe r) = pipe_shown r

-- Of what a word names this mirror is made: a log within the program's own limit, a bundle of at most 2^30 bytes, or a mirror behind a pipe;
-- and none of a pipe that isn't asked.
abbrev pub IsMadeOf : Named → Option Mirror → Type 0
IsMadeOf (names.Log path) (Some (Log r)) = r.log.limit ≡ standard.log
IsMadeOf (names.Bundle path) (Some (Bundle r)) = r.limit ≡ 2 ^ 30
IsMadeOf (names.Pipe to from) (Some (Pipe r)) = ⊤
IsMadeOf names.Unasked None = ⊤
IsMadeOf named made = ⊥

-- a mirror, where there is one, in front of the others
abbrev pub with_made : Option Mirror → List Mirror → List Mirror
with_made None mirrors = mirrors
with_made (Some m) mirrors = m ∷ mirrors

-- these words make these mirrors, in their order
abbrev pub AreMadeOf : Bool → List (List ℕ) → List Mirror → Type 0
AreMadeOf is_run [] mirrors = mirrors ≡ []
AreMadeOf is_run (word ∷ words) mirrors =
    (named : Named) × NamesSo is_run word named × (made : Option Mirror) × IsMadeOf named made
    × (others : List Mirror) × (mirrors ≡ with_made made others) × AreMadeOf is_run words others
