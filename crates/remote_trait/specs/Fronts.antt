-- The first bytes of names.
use Rattle.std.specs.Prelude.{ℕ, length, nat_lt, take, if◌then◌else◌}
use Rattle.std.specs.Int.{w64, from_be_bytes}
use Rattle.id_groups.specs.Name.{Name}

-- the first eight bytes as a number; 0 where there are fewer
unfoldable pub front_of : Name → ℕ
front_of name = if nat_lt (length name) 8 then 0 else from_be_bytes w64 (take 8 name)
