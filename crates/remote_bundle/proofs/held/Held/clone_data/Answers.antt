use Rattle.std.proofs.Common.{◌≡◌, subst, List, IfSome}
use Rattle.id_groups.specs.Name.{Name}
use Rattle.commit_graph.specs.World.{Row}
use Rattle.remote_rules.specs.Clones.{IsCloneOf}
use Rattle.remote_rules.specs.Known.{master_world}
use Rattle.remote_rules.specs.Honest.{clone_data_of}
use Rattle.change_rules.proofs.Relation.{clones-are}
use Rattle.bundle_codec.specs.Bundle.{rows_of}
use Rattle.remote_bundle.specs.Held.{rows_in}
use Rattle.remote_bundle.proofs.Fitting.{told-so}
use Rattle.remote_bundle.proofs.Fitting.{ok-map}
use Rattle.remote_bundle.proofs.held.Held.clone_data.Goals as goal

pub returns : goal.returns
returns c =
    let h = c.self.invariant in let t = c.segments-table.ensures h.0 h.1 in let n = c.names-names.ensures h.0 h.1 in
    ok-map c.clone_of.result (λ given f.
    let e = f (rows_of h.0) (t.1, n) in
    let P : List (Row Name) → Type 0 = λ rows. IsCloneOf rows given × (given ≡ clone_data_of (master_world rows)) in
    subst (λ bytes. IfSome (rows_in bytes) P) c.self.view_is
    (told-so h.0 h.1.bundle c.self.inside.bundle.bytes h.1.spelled P ((clones-are (rows_of h.0) t.1.world given).1 e, e)))
    c.clone_of.ensures
