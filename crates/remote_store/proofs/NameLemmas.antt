-- Looking names up.
use Rattle.std.proofs.Common.{ℕ, ◌<◌, List, Option, Some, None, length, refl, arith}
use Rattle.std.specs.Option.{IsSome}
use Rattle.id_groups.specs.Name.{Name}
use Rattle.id_groups.specs.declared.name.NameRef.{NameRef}
use Rattle.commit_graph.specs.World.{Row}
use Rattle.name_map.specs.Added.{known_of}
use Rattle.name_map.specs.Map.{PlainMap, IsIdOf, NamesAs}
use Rattle.remote_answers.specs.Master.{IsIdIn}
use Rattle.remote_answers.proofs.Walking.{some-at, within, id-there}
use Rattle.remote_store.specs.Names.{AreLogNames}

-- the id of a name, by what is known
pub id-known : (names : PlainMap) (bytes : List ℕ) (count : ℕ) (rows : List (Row Name)) (m : AreLogNames names bytes count rows) (name : Name) (o : Option ℕ) → IsIdOf (known_of m.added) name count o → IsIdIn rows name o
id-known names bytes count rows m name None f = λ i.
    let t = id-there rows name i in
    let lt = within rows t.0 name t.1 in
    let e = m.size in
    f t.0 (omega (arith, lt, e)) ((m.named t.0 name).1 t.1)
id-known names bytes count rows m name (Some id) f = (m.named id name).0 f.1

-- each id of a row has a known name
pub name-known : (names : PlainMap) (bytes : List ℕ) (count : ℕ) (rows : List (Row Name)) (m : AreLogNames names bytes count rows) (id : ℕ) → id < length rows → (o : Option NameRef) → NamesAs (known_of m.added) id o → IsSome o
name-known names bytes count rows m id lt None f = let t = some-at rows id lt in absurd (f t.0.name ((m.named id t.0.name).1 (record { row = t.0; there = t.1; named = refl })))
name-known names bytes count rows m id lt (Some name) f = refl
