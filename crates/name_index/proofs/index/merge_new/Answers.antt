use Rattle.std.proofs.Common.{arith, subst}
use Rattle.name_index.specs.Runs.{AreRuns}
use Rattle.name_index.proofs.Inserting.{merged-last, only-holds, only-of}
use Rattle.name_index.proofs.index.merge_new.Goals as goal

pub returns-in-len1 : goal.returns-in-len1
returns-in-len1 c = λ held named runs stand holds stands.
    let some = c.in-len1.len_at_least in let few = c.in-len1.len_below in
    let one = only-of c.args.runs.now c.only-item.result (omega (arith, some)) (omega (arith, few)) c.only-item.is in
    let due = only-holds c.only-item.result held (subst (λ rs. AreRuns rs held) one runs) in
    merged-last c.args.old.now.at c.args.old.now.bytes.now c.args.new.now.at c.args.new.now.bytes.now c.only-item.result c.args.run.now c.in_ok-merged.merged held named due holds stand stands c.in_ok-merged.ensures

pub returns : goal.returns
returns c = λ held named runs stand holds stands.
    merged-last c.args.old.now.at c.args.old.now.bytes.now c.args.new.now.at c.args.new.now.bytes.now c.in_ok-due.due c.args.run.now c.in_ok-merged-2.merged held named (c.in_ok-due.ensures held runs stand) holds stand stands c.in_ok-merged-2.ensures
