use Rattle.std.proofs.Common.{◌∙◌, arith}
use Rattle.change_parts.proofs.NamesInTurn.{name-behind}
use Rattle.change_parts.proofs.names.Names.at.Goals as goal

pub returns : goal.returns
returns c = c.piece-2.ensures ∙ name-behind c.args.self.now.stored.now c.args.self.now.pending.now c.args.self.now.count c.args.k c.args.self.now.stored_size (let f = c.if-k-self.false in omega (arith, f))
