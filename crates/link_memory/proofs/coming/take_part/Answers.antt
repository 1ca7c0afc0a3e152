use Rattle.std.proofs.Common.{rules, arith, ◌≡◌, ◌≤◌, ◌+◌, length, drop, take, ◌++◌}
use Rattle.std.proofs.lemmas.Grind.{common_steps}
use Rattle.link_memory.proofs.Over.{given}
use Rattle.link_memory.proofs.coming.take_part.Goals as goal

pub returns-clause-parts : goal.returns-clause-parts
returns-clause-parts c =
    let n = c.min-count.result in
    given c.args.frame.now c.copy_from_slice.new.self (drop n c.args.out.now) c.args.at.now n (search rules) (omega arith)
