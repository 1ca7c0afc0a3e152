use Rattle.std.proofs.Common.{ℕ, List, [], sym, subst, ◌∙◌, append-nil}
use Rattle.name_map.specs.Added.{AllStand}
use Rattle.payload_tables.specs.Bases.{flat_segments_in}
use Rattle.high_segments.specs.Views.{flats_in}
use Rattle.remote_store.proofs.Mastering.{none-pending, read-master}
use Rattle.remote_store.proofs.loaded.table_of.Goals as goal

pub returns : goal.returns
returns c = λ read.
    let log = c.args.log.now in
    let tables = c.args.tables.now in
    let none = c.args.none.now in
    let stand = subst (λ (l : List ℕ). AllStand l read.added) (sym c.bytes.ensures.bytes) read.stand in
    let base = c.newest.ensures read.added read.tables_of stand in
    let flats = c.view.ensures.flats read.added read.of_world [] base read.stands (none-pending log tables none read) in
    let graph = c.view.ensures.graph read.added read.of_world [] base read.stands (none-pending log tables none read) in
    (flats ∙ append-nil (flat_segments_in read.of_world), read-master log tables none read (flats_in c.view.result) graph flats)
