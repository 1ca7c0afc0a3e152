-- Who is at the other end of a link in memory.
use Rattle.std.specs.Prelude.{ℕ, List, ◌++◌, drop, flat_map, Option, Some, None, Vec}
use Rattle.std.specs.declared.alloc.Global.{Global}
use Rattle.remote_rules.specs.Mirror.{Mirror}
use Rattle.remote_pipe.specs.Peer.{Peer}
use Rattle.link_memory.specs.declared.wrong.Wrong.{Wrong}

-- who serves this mirror, with these bytes to come, to whom those were put
abbrev pub server_of : Mirror → List ℕ → List ℕ → Peer
server_of m left taken = record { mirror = Some m; left = left; taken = taken }

-- the same, where all answers come as they are; where something is wrong about one it isn't told
abbrev pub peer_over : Option (ℕ × Wrong) → Mirror → List ℕ → List ℕ → Option Peer
peer_over None m left taken = Some (server_of m left taken)
peer_over (Some wrong) m left taken = None

-- the mirror that is served, where all answers come as they are
abbrev pub served_over : Option (ℕ × Wrong) → Mirror → Option Mirror
served_over None m = Some m
served_over (Some wrong) m = None

-- the bytes that are to come of frames, of the first of which so many came
abbrev pub coming_of : ℕ → List ℕ → List (Vec ℕ Global) → List ℕ
coming_of at first later = drop at first ++ flat_map (λ (f : Vec ℕ Global). f.items) later
