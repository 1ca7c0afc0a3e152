-- The world with the new master rows of a remote.
use Rattle.std.specs.Prelude.{Bool, ◌++◌}
use Rattle.commit_graph.specs.World.{World, names_of}
use Rattle.change_rules.specs.Flush.{rows_outside}

-- The remote's master rows that the world's master hasn't come behind it, in the remote's order; the others that are now in
-- master go from the others.
abbrev pub pulled : {N : Type 0} → (N → N → Bool) → World N → World N → World N
pulled same w remote =
    let master = w.master ++ rows_outside same remote.master (names_of w.master) in
    record { master = master; others = rows_outside same w.others (names_of master) }
