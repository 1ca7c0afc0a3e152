use Rattle.std.proofs.Common.{ap, ◌∙◌}
use Rattle.batch_codec.specs.Reading.{joined}
use Rattle.batch_codec.specs.Lent.{lent_names, masters_of}
use Rattle.batch_codec.proofs.Cut.{no-masters, no-heads, others-are}
use Rattle.batch_codec.proofs.batch.cut_payload.Goals as goal

pub returns-in_err-masters-clause-exact : goal.returns-in_err-masters-clause-exact
returns-in_err-masters-clause-exact c = λ p e. absurd (no-masters c.args.payload.now p e c.in_err-masters.ensures.exact)

pub returns-in_err-heads-clause-exact : goal.returns-in_err-heads-clause-exact
returns-in_err-heads-clause-exact c = λ p e.
    absurd (no-heads c.args.payload.now p (masters_of c.in_ok-masters.masters) c.in_ok-masters.rest.now e c.in_ok-masters.ensures.exact c.in_err-heads.ensures.exact)

pub cut_others-requires-clause-whole : goal.cut_others-requires-clause-whole
cut_others-requires-clause-whole c =
    let r = c.requires in
    let o = others-are c.args.payload.now r.0 (masters_of c.in_ok-masters.masters) c.in_ok-masters.rest.now (lent_names c.in_ok-heads.heads) c.in_ok-heads.rest.now r.1 c.in_ok-masters.ensures.exact c.in_ok-heads.ensures.exact in
    (o.0, o.1)

pub returns-in_err-others-clause-exact : goal.returns-in_err-others-clause-exact
returns-in_err-others-clause-exact c = λ p e.
    let o = others-are c.args.payload.now p (masters_of c.in_ok-masters.masters) c.in_ok-masters.rest.now (lent_names c.in_ok-heads.heads) c.in_ok-heads.rest.now e c.in_ok-masters.ensures.exact c.in_ok-heads.ensures.exact in
    absurd (c.in_err-others.ensures.exact o.0 o.1)

pub returns-clause-exact : goal.returns-clause-exact
returns-clause-exact c = λ p e.
    let o = others-are c.args.payload.now p (masters_of c.in_ok-masters.masters) c.in_ok-masters.rest.now (lent_names c.in_ok-heads.heads) c.in_ok-heads.rest.now e c.in_ok-masters.ensures.exact c.in_ok-heads.ensures.exact in
    c.joined_parts.ensures.parts ∙ ap (joined (masters_of c.in_ok-masters.masters) (lent_names c.in_ok-heads.heads)) (c.in_ok-others.ensures.exact o.0 o.1) ∙ o.2
