use Rattle.std.proofs.Common.{◌^◌, sym, ◌∙◌, arith}
use Rattle.batch_codec.specs.Lent.{lent_ids}
use Rattle.batch_codec.proofs.Entries.{ids-length}
use Rattle.batch_codec.proofs.Ascending.{search-starts, search-narrow, search-ends, found-at}
use Rattle.batch_codec.proofs.rules.knows.Goals as goal

pub search-init : goal.search-init
search-init c = search-starts (lent_ids c.args.known) c.args.known.count c.args.number

pub returns-then-found-number : goal.returns-then-found-number
returns-then-found-number c =
    let bound = c.search.invariant.bound in
    let many = ids-length c.args.known.count c.args.known.bytes.now in
    sym (found-at c.args.number (lent_ids c.args.known) c.probe-middle.result (let under = c.probe-middle.ensures.high in omega (arith, under, bound, many))
    (sym c.number_at-found.ensures ∙ c.if-found-number.true))

pub search-preserved : goal.search-preserved
search-preserved c =
    search-narrow (2 ^ 57) (lent_ids c.args.known) c.args.known.count c.args.number c.search.low c.probe-middle.result c.search.high c.number_at-found.result c.narrowed.result
    (ids-length c.args.known.count c.args.known.bytes.now) c.args.known.ascending c.search.invariant c.probe-middle.ensures.low c.probe-middle.ensures.high c.number_at-found.ensures c.if-found-number.false
    c.narrowed.ensures.above c.narrowed.ensures.below

pub returns : goal.returns
returns c =
    sym (search-ends (lent_ids c.args.known) c.args.known.count c.args.number c.search.low c.search.high (ids-length c.args.known.count c.args.known.bytes.now) c.search.invariant c.search-test.false)
