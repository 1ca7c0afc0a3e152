use Rattle.std.proofs.Common.{List, length, take, subst, IfSome}
use Rattle.id_groups.specs.Name.{Name}
use Rattle.commit_graph.specs.World.{Row}
use Rattle.remote_trait.specs.Honest.{AreNamesOf}
use Rattle.remote_store.specs.Told.{told_in}
use Rattle.remote_store.proofs.Mastering.{told-so}
use Rattle.remote_store.proofs.loaded.Loaded.put_names.Goals as goal

pub put_names-requires-clause-master : goal.put_names-requires-clause-master
put_names-requires-clause-master c =
    let read = c.self.invariant.0 in let t = c.table_of-table.ensures read in let n = c.names_of-names.ensures c.self.inside.none read in
    (read.of_world.master, (t.1, n))

pub returns-clause-names : goal.returns-clause-names
returns-clause-names c =
    let read = c.self.invariant.0 in let t = c.table_of-table.ensures read in let n = c.names_of-names.ensures c.self.inside.none read in
    let P : List (Row Name) → Type 0 = λ rows. AreNamesOf rows c.args.x.now c.args.back (length c.args.out.now) (take c.put_names.result c.put_names.new.out) in
    subst (λ texts. IfSome (told_in texts) P) c.self.view_is
    (told-so c.self.inside.log c.self.inside.tables c.self.inside.none read P (c.put_names.ensures.names read.of_world.master (t.1, n)))
