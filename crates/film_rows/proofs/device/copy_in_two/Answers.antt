use Rattle.film_rows.proofs.Filming.{over-front}
use Rattle.film_rows.proofs.device.copy_in_two.Goals as goal

pub returns-clause-bytes : goal.returns-clause-bytes
returns-clause-bytes c =
    over-front c.args.front c.args.at c.copy_out-count.result c.copy_out.result c.min-front.result c.args.earlier.now c.args.later.now c.args.out.now c.copy_out-count.new.out c.copy_out.new.out
    c.copy_out-count.ensures.count c.copy_out-count.ensures.bytes c.min-front.ensures c.copy_out.ensures.count c.copy_out.ensures.bytes
