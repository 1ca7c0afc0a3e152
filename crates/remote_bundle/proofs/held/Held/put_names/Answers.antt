use Rattle.std.proofs.Common.{List, length, take, subst, IfSome}
use Rattle.id_groups.specs.Name.{Name}
use Rattle.commit_graph.specs.World.{Row}
use Rattle.remote_trait.specs.Honest.{AreNamesOf}
use Rattle.bundle_codec.specs.Bundle.{rows_of}
use Rattle.remote_bundle.specs.Held.{rows_in}
use Rattle.remote_bundle.proofs.Fitting.{told-so}
use Rattle.remote_bundle.proofs.held.Held.put_names.Goals as goal

pub returns-clause-names : goal.returns-clause-names
returns-clause-names c =
    let h = c.self.invariant in let t = c.segments-table.ensures h.0 h.1 in let n = c.names-names.ensures h.0 h.1 in
    let P : List (Row Name) → Type 0 = λ rows. AreNamesOf rows c.args.x.now c.args.back (length c.args.out.now) (take c.put_names.result c.put_names.new.out) in
    subst (λ bytes. IfSome (rows_in bytes) P) c.self.view_is
    (told-so h.0 h.1.bundle c.self.inside.bundle.bytes h.1.spelled P (c.put_names.ensures.names (rows_of h.0) (t.1, n)))
