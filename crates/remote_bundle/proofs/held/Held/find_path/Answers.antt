use Rattle.std.proofs.Common.{List, sym, subst, IfSome}
use Rattle.id_groups.specs.Name.{Name}
use Rattle.commit_graph.specs.World.{Row}
use Rattle.remote_trait.specs.Honest.{IsPathOf}
use Rattle.bundle_codec.specs.Bundle.{rows_of}
use Rattle.remote_answers.specs.Paths.{IsReachedBy}
use Rattle.remote_bundle.specs.Held.{IsReadOf, rows_in}
use Rattle.remote_bundle.proofs.Fitting.{told-so}
use Rattle.remote_bundle.proofs.held.Held.find_path.Goals as goal

pub returns-clause-path : goal.returns-clause-path
returns-clause-path c =
    let h = c.self.invariant in
    let read = subst (λ b. IsReadOf b h.0) (sym c.index_edges.ensures) h.1 in
    let t = c.segments-table.ensures h.0 read in let n = c.names-names.ensures h.0 read in
    let at = c.go_to.ensures.reached (rows_of h.0) (t.1, n) (subst (λ flats. IsReachedBy flats (rows_of h.0) c.self.inside.reached) (sym t.0) h.2) in
    let P : List (Row Name) → Type 0 = λ rows. IsPathOf rows c.args.heads.now c.args.name.now c.find_path.result in
    subst (λ bytes. IfSome (rows_in bytes) P) c.self.view_is
    (told-so h.0 h.1.bundle c.self.inside.bundle.bytes h.1.spelled P
    (subst (λ heads. IsPathOf (rows_of h.0) heads c.args.name.now c.find_path.result) c.in_ok-go_to.ensures.heads (c.find_path.ensures (rows_of h.0) (t.1, n) at)))
