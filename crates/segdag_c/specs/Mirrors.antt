-- What the mirrors of an open log show.
use Rattle.std.specs.Prelude.{List, map}
use Rattle.remote_rules.specs.Mirror.{Mirror as Shown}
use Rattle.remote_store.specs.Remote.{mirror_of as log_shown}
use Rattle.remote_bundle.specs.Remote.{mirror_of as bundle_shown}
use Rattle.segdag_c.specs.declared.mirror.Mirror.{Mirror}
use Rattle.segdag_c.specs.declared.mirror.Mirror.TheVariants.{Log, Bundle}

-- a mirror shows what that shows of which it is made
abbrev pub shown_of : Mirror → Shown
shown_of (Log number r) = log_shown r.log
shown_of (Bundle number r) = bundle_shown r

-- all of them, in the order in which they are asked
abbrev pub shown_all : List Mirror → List Shown
shown_all mirrors = map shown_of mirrors
