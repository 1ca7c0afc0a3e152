use Rattle.std.proofs.Common.{sym, subst}
use Rattle.name_map.specs.Added.{AllStand}
use Rattle.remote_store.proofs.Indexing.{read-indexed}
use Rattle.remote_store.proofs.loaded.index_edges.Goals as goal

pub index-requires : goal.index-requires
index-requires c = let read = c.requires.1 in (read.added, read.tables_of, subst (λ bytes. AllStand bytes read.added) (sym c.bytes.ensures.bytes) read.stand)

pub returns : goal.returns
returns c = λ none read.
    read-indexed c.args.log.now c.args.tables.now c.index.new.self none read
    (c.index.ensures.tables read.added read.tables_of (subst (λ bytes. AllStand bytes read.added) (sym c.bytes.ensures.bytes) read.stand))
