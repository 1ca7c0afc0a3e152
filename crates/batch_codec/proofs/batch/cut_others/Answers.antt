use Rattle.std.proofs.Common.{[], ap₂, arith}
use Rattle.batch_codec.specs.Reading.{Others}
use Rattle.batch_codec.proofs.Cut.{no-count, no-records, others-cut, sections-cut, names-within}
use Rattle.batch_codec.proofs.batch.cut_others.Goals as goal

pub returns-in_err-count-clause-exact : goal.returns-in_err-count-clause-exact
returns-in_err-count-clause-exact c = λ o e. absurd (no-count c.args.after c.args.bytes.now (o, []) e c.in_err-count.ensures.exact)

pub returns-in_err-records_count-clause-exact : goal.returns-in_err-records_count-clause-exact
returns-in_err-records_count-clause-exact c = λ o e.
    absurd (no-records c.args.after c.args.bytes.now (o, []) c.in_ok-count.count c.in_ok-count.rest.now e c.in_ok-count.ensures.exact c.in_err-records_count.ensures.exact)

pub overflow_sub-rest : goal.overflow_sub-rest
overflow_sub-rest c =
    let w = c.requires.whole in
    let cut = others-cut c.args.after c.args.bytes.now w.0 c.in_ok-count.count c.in_ok-count.rest.now c.in_ok-records_count.records_count c.in_ok-records_count.rest.now (λ i. omega (arith, c.type_inv.bytes i)) w.1
    c.in_ok-count.ensures.exact c.in_ok-records_count.ensures.exact in
    names-within c.in_ok-count.count c.in_ok-records_count.records_count c.in_ok-records_count.rest.now w.0 cut

pub overflow_sub-other_names : goal.overflow_sub-other_names
overflow_sub-other_names c =
    let w = c.requires.whole in
    let cut = others-cut c.args.after c.args.bytes.now w.0 c.in_ok-count.count c.in_ok-count.rest.now c.in_ok-records_count.records_count c.in_ok-records_count.rest.now (λ i. omega (arith, c.type_inv.bytes i)) w.1
    c.in_ok-count.ensures.exact c.in_ok-records_count.ensures.exact in
    let within = names-within c.in_ok-count.count c.in_ok-records_count.records_count c.in_ok-records_count.rest.now w.0 cut in
    let first = c.in_ok-count.ensures.size in
    let second = c.in_ok-records_count.ensures.size in
    let total = c.requires.total in
    omega (arith, within, first, second, total)

pub invariant_of-others : goal.invariant_of-others
invariant_of-others c =
    let w = c.requires.whole in
    let cut = others-cut c.args.after c.args.bytes.now w.0 c.in_ok-count.count c.in_ok-count.rest.now c.in_ok-records_count.records_count c.in_ok-records_count.rest.now (λ i. omega (arith, c.type_inv.bytes i)) w.1
    c.in_ok-count.ensures.exact c.in_ok-records_count.ensures.exact in
    let s = sections-cut c.in_ok-count.count c.in_ok-records_count.records_count c.in_ok-records_count.rest.now c.split_at.result.0.now c.split_at.result.1.now w.0 cut c.split_at.ensures.front c.split_at.ensures.back in
    record { many = s.many; spelled = s.spelled }

pub invariant_of-other_names : goal.invariant_of-other_names
invariant_of-other_names c =
    let w = c.requires.whole in
    let cut = others-cut c.args.after c.args.bytes.now w.0 c.in_ok-count.count c.in_ok-count.rest.now c.in_ok-records_count.records_count c.in_ok-records_count.rest.now (λ i. omega (arith, c.type_inv.bytes i)) w.1
    c.in_ok-count.ensures.exact c.in_ok-records_count.ensures.exact in
    record { size = (sections-cut c.in_ok-count.count c.in_ok-records_count.records_count c.in_ok-records_count.rest.now c.split_at.result.0.now c.split_at.result.1.now w.0 cut c.split_at.ensures.front c.split_at.ensures.back).size }

pub returns-clause-exact : goal.returns-clause-exact
returns-clause-exact c = λ o e.
    let cut = others-cut c.args.after c.args.bytes.now o c.in_ok-count.count c.in_ok-count.rest.now c.in_ok-records_count.records_count c.in_ok-records_count.rest.now (λ i. omega (arith, c.type_inv.bytes i)) e
    c.in_ok-count.ensures.exact c.in_ok-records_count.ensures.exact in
    let s = sections-cut c.in_ok-count.count c.in_ok-records_count.records_count c.in_ok-records_count.rest.now c.split_at.result.0.now c.split_at.result.1.now o cut c.split_at.ensures.front c.split_at.ensures.back in
    ap₂ (λ segments names. (let r : Others = record { others = segments; other_names = names } in r)) s.segments s.names
