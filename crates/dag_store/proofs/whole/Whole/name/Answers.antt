use Rattle.dag_store.proofs.whole.Whole.name.Goals as goal

pub returns : goal.returns
returns c = λ w h. c.name_in.ensures c.args.self.now.none w h
