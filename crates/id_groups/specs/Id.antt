-- Ids of commits: the numbers from 0 in the master group, and those from 2 ^ 56 on in the other.
use Rattle.std.specs.Prelude.{ℕ, ◌+◌, ◌-◌, ◌^◌, Bool, List, ◌∷◌, nat_lt, if◌then◌else◌, decimal}
use Rattle.id_groups.specs.declared.id.Group.{Group}
use Rattle.id_groups.specs.declared.id.Group.TheVariants.{Master, Others}

-- the id of place j of the non-master group
abbrev pub other_id : ℕ → ℕ
other_id j = 2 ^ 56 + j

-- ids stay below this number
abbrev pub id_end : ℕ
id_end = 2 ^ 57

-- whether an id is one of the master group: those below 2 ^ 56 are
abbrev pub is_master_id : ℕ → Bool
is_master_id id = nat_lt id (2 ^ 56)

-- the group of an id: each has one, and the other group has all from 2 ^ 56 on
abbrev pub group_of : ℕ → Group
group_of id = if is_master_id id then Master else Others

-- the place of an id in its group
abbrev pub place_of : ℕ → ℕ
place_of id = if is_master_id id then id else id - 2 ^ 56

-- how an id is printed: `5` at place 5 of master, `N5` at place 5 of the others
abbrev pub id_text : ℕ → List ℕ
id_text id = if is_master_id id then decimal id else 78 ∷ decimal (id - 2 ^ 56)
