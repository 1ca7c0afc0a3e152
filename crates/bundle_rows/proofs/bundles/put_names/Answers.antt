use Rattle.std.proofs.Common.{List, [], ◌∷◌, ◌++◌, subst}
use Rattle.id_groups.specs.Name.{Name}
use Rattle.bundle_codec.specs.Building.{IsBuilt}
use Rattle.bundle_rows.specs.Fork.{name_to}
use Rattle.bundle_rows.proofs.bundles.put_names.Goals as goal

pub returns-clause-built : goal.returns-clause-built
returns-clause-built c = λ d built none.
    let a1 = c.in_ok-put_name.ensures.built d built in
    let a2 = c.in_ok-put_name-2.ensures.built _ a1 in
    let a3 = c.in_ok-put_name-3.ensures.built _ a2 in
    let a4 = c.in_ok-put_name-4.ensures.built _ a3 in
    let a5 = c.in_ok-put_name-5.ensures.built _ a4 in
    let a6 = c.in_ok-put_name-6.ensures.built _ a5 in
    subst (λ (ns : List Name). IsBuilt c.put_name-6.new.build (record d { names = (((((ns ++ name_to 1 ∷ []) ++ name_to 2 ∷ []) ++ name_to 3 ∷ []) ++ name_to 4 ∷ []) ++ name_to 5 ∷ []) ++ name_to 6 ∷ [] })) none a6
