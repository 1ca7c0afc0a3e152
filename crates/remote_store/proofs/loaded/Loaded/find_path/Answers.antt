use Rattle.std.proofs.Common.{List, sym, subst, IfSome}
use Rattle.id_groups.specs.Name.{Name}
use Rattle.commit_graph.specs.World.{Row}
use Rattle.remote_trait.specs.Honest.{IsPathOf}
use Rattle.remote_answers.specs.Paths.{IsReachedBy}
use Rattle.remote_store.specs.Told.{told_in}
use Rattle.remote_store.proofs.Indexing.{reached-later}
use Rattle.remote_store.proofs.Mastering.{told-so}
use Rattle.remote_store.proofs.loaded.Loaded.find_path.Goals as goal

pub go_to-requires : goal.go_to-requires
go_to-requires c =
    let later = c.index_edges.ensures c.self.inside.none c.self.invariant.0 in let read = later.0 in let t = c.table_of-table.ensures read in let n = c.names_of-names.ensures c.self.inside.none read in
    (read.of_world.master, (t.1, n))

pub invariant_of-self : goal.invariant_of-self
invariant_of-self c =
    let later = c.index_edges.ensures c.self.inside.none c.self.invariant.0 in let read = later.0 in let t = c.table_of-table.ensures read in let n = c.names_of-names.ensures c.self.inside.none read in (
      read,
      subst (λ flats. IsReachedBy flats read.of_world.master c.go_to.new.self) t.0
          (c.go_to.ensures.reached read.of_world.master (t.1, n) (subst (λ flats. IsReachedBy flats read.of_world.master c.self.inside.reached) (sym t.0) (reached-later c.self.inside.reached c.self.invariant.0.of_world read.of_world later.1 c.self.invariant.1))),
    )

pub find_path-requires : goal.find_path-requires
find_path-requires c =
    let later = c.index_edges.ensures c.self.inside.none c.self.invariant.0 in let read = later.0 in let t = c.table_of-table.ensures read in let n = c.names_of-names.ensures c.self.inside.none read in (
      read.of_world.master,
      (t.1, n),
      c.go_to.ensures.reached read.of_world.master (t.1, n) (subst (λ flats. IsReachedBy flats read.of_world.master c.self.inside.reached) (sym t.0) (reached-later c.self.inside.reached c.self.invariant.0.of_world read.of_world later.1 c.self.invariant.1)),
    )

pub invariant_of-self-2 : goal.invariant_of-self-2
invariant_of-self-2 c =
    let later = c.index_edges.ensures c.self.inside.none c.self.invariant.0 in let read = later.0 in let t = c.table_of-table.ensures read in let n = c.names_of-names.ensures c.self.inside.none read in (
      read,
      subst (λ flats. IsReachedBy flats read.of_world.master c.go_to.new.self) t.0
          (c.go_to.ensures.reached read.of_world.master (t.1, n) (subst (λ flats. IsReachedBy flats read.of_world.master c.self.inside.reached) (sym t.0) (reached-later c.self.inside.reached c.self.invariant.0.of_world read.of_world later.1 c.self.invariant.1))),
    )

pub returns-clause-path : goal.returns-clause-path
returns-clause-path c =
    let later = c.index_edges.ensures c.self.inside.none c.self.invariant.0 in let read = later.0 in let t = c.table_of-table.ensures read in let n = c.names_of-names.ensures c.self.inside.none read in
    let at = c.go_to.ensures.reached read.of_world.master (t.1, n) (subst (λ flats. IsReachedBy flats read.of_world.master c.self.inside.reached) (sym t.0) (reached-later c.self.inside.reached c.self.invariant.0.of_world read.of_world later.1 c.self.invariant.1)) in
    let P : List (Row Name) → Type 0 = λ rows. IsPathOf rows c.args.heads.now c.args.name.now c.find_path.result in
    subst (λ texts. IfSome (told_in texts) P) c.self.view_is
    (told-so c.self.inside.log c.index_edges.new.tables c.self.inside.none read P
    (subst (λ heads. IsPathOf read.of_world.master heads c.args.name.now c.find_path.result) c.in_ok-go_to.ensures.heads (c.find_path.ensures read.of_world.master (t.1, n) at)))

pub table_of-table-requires : goal.table_of-table-requires
table_of-table-requires c = (c.index_edges.ensures c.self.inside.none c.self.invariant.0).0
