use Rattle.plain_query.proofs.Gathering.{only-one}
use Rattle.plain_query.proofs.words.one.Goals as goal

pub returns : goal.returns
returns c = only-one c.none-members.result c.add.new.self c.args.name.now c.none-members.ensures c.in_ok-add.ensures
