use Rattle.std.proofs.Common.{◌≡◌, subst, IfSome}
use Rattle.remote_rules.specs.Clones.{IsCloneOf}
use Rattle.remote_rules.specs.Known.{master_world}
use Rattle.remote_rules.specs.Honest.{clone_data_of}
use Rattle.change_rules.proofs.Relation.{clones-are}
use Rattle.remote_store.specs.Told.{told_in}
use Rattle.remote_store.proofs.Mastering.{told-so}
use Rattle.remote_store.proofs.Mirroring.{ok-map}
use Rattle.remote_store.proofs.loaded.Loaded.clone_data.Goals as goal

pub clone_of-requires : goal.clone_of-requires
clone_of-requires c =
    let read = c.self.invariant.0 in let t = c.table_of-table.ensures read in let n = c.names_of-names.ensures c.self.inside.none read in
    (read.of_world.master, (t.1, n))

pub returns : goal.returns
returns c =
    let read = c.self.invariant.0 in let t = c.table_of-table.ensures read in let n = c.names_of-names.ensures c.self.inside.none read in
    ok-map c.clone_of.result (λ given f.
    let e = f read.of_world.master (t.1, n) in
    subst (λ texts. IfSome (told_in texts) (λ rows. IsCloneOf rows given × (given ≡ clone_data_of (master_world rows)))) c.self.view_is
    (told-so c.self.inside.log c.self.inside.tables c.self.inside.none read (λ rows. IsCloneOf rows given × (given ≡ clone_data_of (master_world rows)))
    ((clones-are read.of_world.master t.1.world given).1 e, e)))
    c.clone_of.ensures
