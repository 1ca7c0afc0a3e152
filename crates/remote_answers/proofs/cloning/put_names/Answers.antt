use Rattle.std.proofs.Common.{◌+◌, ◌<◌, ◌^◌, length, ◌∙◌, arith}
use Rattle.remote_answers.proofs.Cloned.{names-step}
use Rattle.remote_answers.proofs.cloning.put_names.Goals as goal

pub master-requires : goal.master-requires
master-requires g c = let t = c.ids-test.true in let few = c.requires.few in omega (arith, t, few)

pub put_name-requires-clause-room : goal.put_name-requires-clause-room
put_name-requires-clause-room g c =
    let f = c.ids.invariant.few in let t = c.ids-test.true in let few = c.requires.few in
    let room : length c.ids.given.names + 1 < 2 ^ 32 = omega (arith, f, t, few) in room

pub ids-preserved : goal.ids-preserved
ids-preserved g c = record {
  names = λ rows are. names-step rows c.args.stored.now c.ids.place c.master.result c.ids.given.names c.put_name.new.given.names c.master.ensures (c.ids.invariant.names rows are) (c.in_ok-put_name.ensures.names rows are);
  few = let f = c.ids.invariant.few in let m = c.in_ok-put_name.ensures.few in omega (arith, f, m);
  segments = c.in_ok-put_name.ensures.segments ∙ c.ids.invariant.segments;
  heads = c.in_ok-put_name.ensures.heads ∙ c.ids.invariant.heads;
}
