use Rattle.std.proofs.Common.{refl, []}
use Rattle.payload_tables.proofs.tables.Tables.empty.Goals as goal

pub returns : goal.returns
returns c = record {
  lawful = tt;
  flat = c.empty.ensures;
  levels = c.empty-2.ensures;
  names = c.empty-3.ensures;
  others = c.empty-4.ensures;
  heads = c.new.ensures.items;
  cloned = refl;
  version = refl;
  edges = c.empty-5.ensures [];
}
