use Rattle.std.proofs.Common.{sym, ◌∙◌, arith}
use Rattle.batch_codec.specs.Lent.{lent_ids}
use Rattle.batch_codec.proofs.Entries.{ids-length}
use Rattle.batch_codec.proofs.Knowing.{few-known, told-known}
use Rattle.batch_codec.proofs.rules.knows_behind.Goals as goal

pub returns-then-count-more : goal.returns-then-count-more
returns-then-count-more c =
    let few = c.if-count-more.true in
    let count = c.from-count.ensures in
    sym (few-known c.args.cloned c.args.after (lent_ids c.args.known) c.if-after-cloned.false (omega (arith, few, count, ids-length c.args.known.count c.args.known.bytes.now)))

pub returns : goal.returns
returns c =
    let enough = c.if-count-more.false in
    told-known c.args.cloned c.args.after c.from-count.result c.number_at.result (lent_ids c.args.known) (ids-length c.args.known.count c.args.known.bytes.now ∙ sym c.from-count.ensures)
    c.if-after-cloned.false enough c.number_at.ensures
