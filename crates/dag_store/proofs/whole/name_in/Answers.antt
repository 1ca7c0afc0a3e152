use Rattle.std.proofs.Common.{ℕ, List, sym, subst}
use Rattle.name_map.specs.Added.{AllStand}
use Rattle.name_map.specs.Map.{IsMapOf}
use Rattle.dag_store.proofs.WholeLemmas.{name-is, some-name}
use Rattle.dag_store.proofs.whole.name_in.Goals as goal

pub unwrap-requires : goal.unwrap-requires
unwrap-requires c =
    let r = c.requires in
    let h = r.2 in
    let named = c.name.ensures.name h.added (subst (λ m. IsMapOf m h.added) (sym c.names.ensures) h.tables_of.names) (subst (λ (l : List ℕ). AllStand l h.added) (sym c.bytes.ensures.bytes) h.stand) in
    some-name c.args.log.now c.args.tables.now r.0 r.1 h c.args.id r.3 c.name.result named

pub returns : goal.returns
returns c = λ none w h.
    let named = c.name.ensures.name h.added (subst (λ m. IsMapOf m h.added) (sym c.names.ensures) h.tables_of.names) (subst (λ (l : List ℕ). AllStand l h.added) (sym c.bytes.ensures.bytes) h.stand) in
    name-is c.args.log.now c.args.tables.now none w h c.args.id c.name.result c.unwrap.result named c.unwrap.ensures
