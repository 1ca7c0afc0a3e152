use Rattle.std.proofs.Common.{arith}
use Rattle.bench.proofs.Building.{wrote-first, wrote-next, built-all}
use Rattle.bench.proofs.graph.written.Goals as goal

pub records-init : goal.records-init
records-init c = wrote-first _ c.push_first.new.out.items c.new-records.ensures.items c.in_ok-push_first.ensures

pub records-preserved : goal.records-preserved
records-preserved c = wrote-next c.records.records.items c.push_record.new.out.items c.records.k c.records.invariant c.in_ok-push_record.ensures

pub returns : goal.returns
returns c = let most = c.requires.most in let le = c.records.auto.k-end c.requires.some in built-all c.records.records.items c.records.k (omega (arith, most, le)) c.records.invariant
