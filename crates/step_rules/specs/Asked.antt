-- Which names and ids have to be asked of a mirror.
use Rattle.std.specs.Prelude.{ℕ, Bool, not, ◌&&◌, List, [], ◌∷◌, map, flat_map, nat_eq, is_some, if◌then◌else◌}
use Rattle.id_groups.specs.Lists.{is_in}
use Rattle.id_groups.specs.Name.{Name, same_name}
use Rattle.commit_graph.specs.World.{World, names_of}
use Rattle.commit_graph.specs.Ids.{id_in}
use Rattle.change_rules.specs.Lazy.{is_lazy, has_lazy, stored_names}
use Rattle.remote_rules.specs.CloneData.{KnownName}
use Rattle.step_rules.specs.State.{Stored, Cache, pending_of}

-- whether a name that is looked up in a world has to be asked: some commit there has no stored name, and this is no stored name
abbrev pub is_unnamed : Stored → World Name → Name → Bool
is_unnamed st w name = has_lazy st.payloads w && not (is_in same_name name (stored_names st.payloads w))

-- whether a name of a session's line has to be asked, that is looked up in a world: it isn't pending either
abbrev pub is_asked : Stored → ℕ → World Name → Name → Bool
is_asked st s w name = is_unnamed st w name && not (is_in same_name name (names_of (pending_of st s)))

-- a commit of master that has no stored name, with its id: what an ask for its name may find
abbrev pub found_as : Stored → World Name → Name → List KnownName
found_as st w name =
    let id = id_in same_name w name in
    if is_in same_name name (names_of w.master) && is_lazy st.payloads w id then record { id = id; name = name } ∷ [] else []

-- whether the cache has a name for the id
abbrev pub is_cached : Cache → KnownName → Bool
is_cached cache k = is_some (cache k.id)

-- whether the id is one of those found
abbrev pub is_found : List KnownName → KnownName → Bool
is_found found k = is_in nat_eq k.id (map (λ c. c.id) found)

-- the commits among these that have no stored name, with their ids
abbrev pub lazy_among : Stored → World Name → List Name → List KnownName
lazy_among st w names = flat_map (found_as st w) names
