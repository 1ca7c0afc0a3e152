use Rattle.std.proofs.Common.{sym, ◌∙◌, subst, ◌≤◌, ℕ}
use Rattle.batch_codec.specs.Lent.{lent_names}
use Rattle.name_map.proofs.Meeting.{meet-found, missing-more, missing-all}
use Rattle.name_map.proofs.adding.has_one_of.Goals as goal

pub returns-then-is_some-clause-meet : goal.returns-then-is_some-clause-meet
returns-then-is_some-clause-meet c = λ all is stand e.
    meet-found all (lent_names c.args.names.now) c.names.i c.at.result.bytes.now c.find.result c.at.ensures (c.find.ensures all is stand) (sym c.is_some.ensures ∙ c.if-is_some.true)

pub names-preserved : goal.names-preserved
names-preserved c = λ all is stand.
    missing-more all (lent_names c.args.names.now) c.names.i c.at.result.bytes.now c.find.result (c.names.invariant all is stand) c.at.ensures (c.find.ensures all is stand) (sym c.is_some.ensures ∙ c.if-is_some.false)

pub returns-clause-apart : goal.returns-clause-apart
returns-clause-apart c = λ all is stand e.
    missing-all all (lent_names c.args.names.now) c.names.i (c.names.invariant all is stand) (subst (λ (n : ℕ). n ≤ c.names.i) c.len-i-end.ensures c.names-test.false)
