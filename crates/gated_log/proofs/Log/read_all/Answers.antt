use Rattle.std.proofs.Common.{List, ℕ, Ok, Err, IfSome, sym, ap, subst, arith}
use Rattle.outside.specs.Told.{WhereTold}
use Rattle.gated_log.specs.Turns.{TurnAnswers, TurnLoads}
use Rattle.gated_log.proofs.AllReads.{IsGoingOn, OnceAnswers, going-first, going-next, ends-grown, ends-open, answers-fault}
use Rattle.gated_log.proofs.Log.read_all.Goals as goal

pub reads-init : goal.reads-init
reads-init g c =
    let d = g.D.Disk in
    let n = c.args.disk.now in
    subst (λ (l : List ℕ). IsGoingOn c.args.limit (d.bytes n) (d.bytes n) (d.told n) (d.told n) (d.meanwhile n) (d.meanwhile n) (d.faults n) (d.faults n) c.args.size c.args.size 0 l) (sym c.new-bytes.ensures.items)
    (going-first c.args.limit c.args.size (d.bytes n) (d.told n) (d.meanwhile n) (d.faults n) c.requires.limits.2 c.requires.size)

pub returns-in-Ok-Whole-clause-meanwhile : goal.returns-in-Ok-Whole-clause-meanwhile
returns-in-Ok-Whole-clause-meanwhile g c =
    ends-grown _ _ _ _ _ _ _ _ _ _ _ _ _ c.reads.invariant (g.D.Disk.meanwhile c.read_once.new.disk) c.read_once.new.bytes.items (Ok c.in-Ok-Whole.field-0) (Ok c.in-Ok-Whole.log)
    (λ film payloads from start now h. subst (λ t. TurnAnswers c.args.limit film payloads from start now c.reads.turns c.read_once.new.bytes.items (Ok t)) c.in-Ok-Whole.field-0-is h) c.in-Ok-Whole.ensures.meanwhile

pub returns-in-Err-clause-meanwhile : goal.returns-in-Err-clause-meanwhile
returns-in-Err-clause-meanwhile g c =
    ends-grown _ _ _ _ _ _ _ _ _ _ _ _ _ c.reads.invariant (g.D.Disk.meanwhile c.read_once.new.disk) c.read_once.new.bytes.items (Err c.in-Err.fault) (Err c.in-Err.fault)
    (answers-fault c.args.limit c.in-Err.fault c.read_once.new.bytes.items c.reads.turns) c.in-Err.ensures.meanwhile

pub reads-preserved : goal.reads-preserved
reads-preserved g c =
    let d = g.D.Disk in
    let n = c.read_once.new.disk in
    going-next _ _ _ _ _ _ _ _ _ _ _ _ _ c.reads.invariant (d.bytes n) (d.told n) (d.meanwhile n) (d.faults n) c.in-Ok-Open.at c.in-Ok-Open.longer c.read_once.new.bytes.items
    (subst (λ t. IfSome (d.bytes c.reads.disk) (λ b. TurnLoads c.args.limit b (Ok t))) c.in-Ok-Open.field-0-is c.in-Ok-Open.ensures.loads)
    c.in-Ok-Open.ensures.still c.in-Ok-Open.ensures.reads (g.met.D.Disk.tells c.reads.disk) c.in-Ok-Open.ensures.later
    (c.in-Ok-Open.ensures.open c.in-Ok-Open.at c.in-Ok-Open.longer (ap (λ t. Ok t) c.in-Ok-Open.field-0-is))
    (subst (λ t. (payloads : ℕ → List (List ℕ)) (from start turns : ℕ) → WhereTold (d.meanwhile c.reads.disk) (d.meanwhile n) (OnceAnswers c.args.limit payloads from start turns c.reads.bytes.items c.reads.size c.read_once.new.bytes.items (Ok t))) c.in-Ok-Open.field-0-is c.in-Ok-Open.ensures.meanwhile)

pub returns-clause-meanwhile : goal.returns-clause-meanwhile
returns-clause-meanwhile g c = ends-open _ _ _ _ _ _ _ _ _ _ _ _ _ c.reads.invariant c.reads.open (omega (arith, c.reads-test.false))
