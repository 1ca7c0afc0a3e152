use Rattle.std.proofs.Common.{subst}
use Rattle.id_groups.specs.Lists.{IsIn}
use Rattle.id_groups.specs.Name.{Name, same_name}
use Rattle.id_groups.proofs.Names.{same_name-exact, same_name-self}
use Rattle.commit_graph.specs.World.{World, rows_of, names_of}
use Rattle.commit_graph.proofs.Places.{IsFound, found-in-master, found-in-others, not-in-world, place-fits}
use Rattle.commit_graph.proofs.world.World.find.Goals as goal

pub returns-in-Some : goal.returns-in-Some
returns-in-Some c =
    let w : World Name = record { master = c.self.inside.master.items; others = c.self.inside.others.items } in
    let f = subst (λ (v : World Name). IsFound same_name v c.args.name.now c.master.result) c.self.view_is
    (found-in-master same_name same_name-exact same_name-self w c.self.invariant.0.world c.self.invariant.1
    c.as_slice.result.now c.as_slice.ensures.value c.args.name.now c.in-Some.place c.in-Some.ensures c.master.result c.master.ensures) in
    record { id = (f.there, f.same_id); row = f.row; named = f.named }

pub returns-in_err-place-clause-id : goal.returns-in_err-place-clause-id
returns-in_err-place-clause-id c =
    let w : World Name = record { master = c.self.inside.master.items; others = c.self.inside.others.items } in
    rw c.from_residual.ensures
    (subst (λ (v : World Name). IsIn c.args.name.now (names_of (rows_of v)) → ⊥) c.self.view_is
    (not-in-world w c.args.name.now c.as_slice.result.now c.as_slice-2.result.now c.as_slice.ensures.value c.as_slice-2.ensures.value
    c.in_default.ensures c.in_err-place.ensures))

pub other-requires : goal.other-requires
other-requires c =
    let t = c.in_ok-place.ensures in
    place-fits c.as_slice-2.result.now c.self.inside.others.items c.in_ok-place.place t.0 c.as_slice-2.ensures.value c.self.invariant.2 t.1

pub returns : goal.returns
returns c =
    let w : World Name = record { master = c.self.inside.master.items; others = c.self.inside.others.items } in
    let f = subst (λ (v : World Name). IsFound same_name v c.args.name.now c.other.result) c.self.view_is
    (found-in-others same_name same_name-exact same_name-self w c.self.invariant.0.world
    c.as_slice-2.result.now c.as_slice-2.ensures.value c.args.name.now c.in_ok-place.place c.in_ok-place.ensures c.other.result c.other.ensures) in
    record { id = (f.there, f.same_id); row = f.row; named = f.named }
