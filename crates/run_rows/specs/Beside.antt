-- What contracts see of a mirror that a case names.
use Rattle.remote_rules.specs.Mirror.{Mirror}
use Rattle.remote_trait.specs.Calls.{fixed_mirror}
use Rattle.remote_memory.specs.Memory.{mirror_of}
use Rattle.run_rows.specs.declared.beside.Beside.{Beside}
use Rattle.run_rows.specs.declared.beside.Beside.TheVariants.{Honest, Liar}

-- a mirror shows what that shows of which it is made
abbrev pub shown_of : Beside → Mirror
shown_of (Honest r) = mirror_of r
shown_of (Liar r) = fixed_mirror r.cloned r.asked
