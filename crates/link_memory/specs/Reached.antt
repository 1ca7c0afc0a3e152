-- What contracts see of a mirror as it is reached.
use Rattle.remote_rules.specs.Mirror.{Mirror}
use Rattle.remote_pipe.specs.Remote.{mirror_of}
use Rattle.link_memory.specs.declared.reached.Reached.{Reached}
use Rattle.link_memory.specs.declared.reached.Reached.TheVariants.{Near, Far}

-- itself, or what it is over its link
abbrev pub shown_of : {R : Type 0} → (R → Mirror) → Reached R → Mirror
shown_of shown (Near r) = shown r
shown_of shown (Far r) = mirror_of r
