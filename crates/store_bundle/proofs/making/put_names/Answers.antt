use Rattle.std.proofs.Common.{ℕ, ◌≡◌, List, Some, take, sym, subst, ◌∙◌, arith}
use Rattle.std.specs.Prelude.{slice_get}
use Rattle.std.proofs.lemmas.List.{length-map, take_all}
use Rattle.id_groups.specs.Name.{Name}
use Rattle.commit_graph.specs.World.{Row, names_of}
use Rattle.bundle_codec.specs.Building.{IsBuilt}
use Rattle.store_bundle.proofs.Bundling.{take-one}
use Rattle.store_bundle.proofs.making.put_names.Goals as goal

pub places-preserved : goal.places-preserved
places-preserved c = record {
  built = λ w segments h n b.
      let e = subst (λ (k : ℕ). slice_get (names_of w.master) k ≡ Some c.name-name.result.bytes.now) c.master.ensures (c.name-name.ensures w h) in
      subst (λ (l : List Name). IsBuilt c.name.new.self (record { segments = segments; names = l })) (sym (take-one (names_of w.master) c.places.place c.name-name.result.bytes.now e))
      (c.in_ok-name.ensures.ok (record { segments = segments; names = take c.places.place (names_of w.master) }) (c.places.invariant.built w segments h n b));
  rows = c.in_ok-name.ensures.rows ∙ c.places.invariant.rows;
}

pub returns-clause-ok : goal.returns-clause-ok
returns-clause-ok c = λ w segments h n b.
    let size = length-map w.master (λ (row : Row Name). row.name) in
    let end = c.places-test.false in
    subst (λ (l : List Name). IsBuilt c.places.build (record { segments = segments; names = l })) (take_all c.places.place (names_of w.master) (omega (arith, size, end, n))) (c.places.invariant.built w segments h n b)
