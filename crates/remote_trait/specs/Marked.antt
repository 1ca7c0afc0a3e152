-- Sets of ids that clone data are gone over by.
use Rattle.std.specs.Prelude.{ℕ, Bool, false, length, nat_lt, slice_index_or, if◌then◌else◌}
use Rattle.std.specs.Ordering.{nat_cmp}
use Rattle.std.specs.BTreeSet.{contains}
use Rattle.remote_trait.specs.declared.marked.MarkedIds.{MarkedIds}

-- whether an id is in the set: by its mark if it has one
abbrev pub has : MarkedIds → ℕ → Bool
has ids q = if nat_lt q (length ids.marks.items) then slice_index_or ids.marks.items q false else contains nat_cmp ids.others q
