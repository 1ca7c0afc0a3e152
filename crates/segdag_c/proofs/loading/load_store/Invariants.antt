use Rattle.segdag_c.proofs.Settling.{lender}
use Rattle.segdag_c.proofs.loading.load_store.Given as goal

abbrev pub ghosts-load_on : goal.ghosts-load_on
ghosts-load_on g a = record { disk = lender a.bytes.now g.disk }
