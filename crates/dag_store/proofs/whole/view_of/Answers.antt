use Rattle.std.proofs.Common.{ℕ, List, [], sym, subst}
use Rattle.name_map.specs.Added.{AllStand}
use Rattle.dag_store.proofs.WholeLemmas.{lends-master, whole-sees}
use Rattle.dag_store.proofs.whole.view_of.Goals as goal

pub returns : goal.returns
returns c = λ w h.
    let log = c.args.log.now in
    let tables = c.args.tables.now in
    let none = c.args.none.now in
    let base = c.newest.ensures h.added h.tables_of (subst (λ (l : List ℕ). AllStand l h.added) (sym c.bytes.ensures.bytes) h.stand) in
    let seen = whole-sees log tables none w h c.newest.result base in
    lends-master log tables none w h (record { view = c.view.result }) (c.view.ensures.flats h.added w [] base h.stands seen.pending_rows)
