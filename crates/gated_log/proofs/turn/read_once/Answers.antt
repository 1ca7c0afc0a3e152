use Rattle.std.proofs.Common.{List, ℕ, ◌≡◌, length, sym, ap, subst, Err, arith}
use Rattle.outside.specs.Told.{WhereTold}
use Rattle.gated_log.specs.Log.{IsDamaged}
use Rattle.gated_log.specs.Load.{Loads}
use Rattle.gated_log.specs.Turns.{IsMore, ReadsBehind}
use Rattle.gated_log.proofs.Turns.{whole_meanwhile, open_meanwhile, open_loads, open_once, open_reads}
use Rattle.gated_log.proofs.turn.read_once.Goals as goal

pub returns-in-Ok-clause-meanwhile : goal.returns-in-Ok-clause-meanwhile
returns-in-Ok-clause-meanwhile g c = λ payloads from start turns.
    whole_meanwhile payloads from start turns c.args.size c.args.limit c.args.bytes.now.items c.read_behind.new.bytes.items (g.D.Disk.meanwhile c.args.disk.now) (g.D.Disk.meanwhile c.read_behind.new.disk) c.in-Ok.log
    c.in_ok-read_behind.ensures.lasts c.in_ok-read_behind.ensures.read c.in-Ok.ensures.loads

pub returns-in-Err-Damaged-clause-loads : goal.returns-in-Err-Damaged-clause-loads
returns-in-Err-Damaged-clause-loads g c =
    open_loads (g.D.Disk.bytes c.args.disk.now) (g.D.Disk.bytes c.read_behind.new.disk) c.args.bytes.now.items c.read_behind.new.bytes.items c.args.size c.args.limit c.in-Err-Damaged.at c.len.result _
    c.in_ok-read_behind.ensures.still (let k = c.in-Err-Damaged.ensures.kept in omega (arith, ap length k)) c.in_ok-read_behind.ensures.whole c.requires.told c.ask_again.ensures.same
    (subst (λ e. Loads c.args.limit c.read_behind.new.bytes.items (Err e)) c.in-Err-Damaged.field-0-is c.in-Err-Damaged.ensures.loads)

pub returns-in-Err-Damaged-clause-meanwhile : goal.returns-in-Err-Damaged-clause-meanwhile
returns-in-Err-Damaged-clause-meanwhile g c = λ payloads from start turns.
    let kept = c.in-Err-Damaged.ensures.kept in
    let a = g.D.Disk.meanwhile c.args.disk.now in
    let b = g.D.Disk.meanwhile c.read_behind.new.disk in
    let e = g.D.Disk.meanwhile c.ask_again.new.disk in
    open_meanwhile payloads from start turns c.args.size c.args.limit c.args.bytes.now.items c.of_bytes.new.bytes.items a b e c.ask_again.result c.in-Err-Damaged.at c.in_ok-read_behind.ensures.lasts
    (subst (λ (l : List ℕ). WhereTold a b (ReadsBehind c.args.bytes.now.items c.args.size l)) (sym kept) c.in_ok-read_behind.ensures.read)
    (subst (λ n. WhereTold b e (IsMore n c.args.limit c.ask_again.result)) (let n : c.len.result ≡ length c.of_bytes.new.bytes.items = omega arith in n) c.ask_again.ensures.meanwhile)
    (subst (λ (l : List ℕ). IsDamaged l c.in-Err-Damaged.at) (sym kept) (subst (λ e. Loads c.args.limit c.read_behind.new.bytes.items (Err e)) c.in-Err-Damaged.field-0-is c.in-Err-Damaged.ensures.loads).1)

pub returns-in-Err-Damaged-clause-reads : goal.returns-in-Err-Damaged-clause-reads
returns-in-Err-Damaged-clause-reads g c = open_reads (g.D.Disk.told c.args.disk.now) (g.D.Disk.told c.read_behind.new.disk) (g.D.Disk.told c.ask_again.new.disk) c.in_ok-read_behind.ensures.ok c.ask_again.ensures.reads

pub returns-in-Err-Damaged-clause-once : goal.returns-in-Err-Damaged-clause-once
returns-in-Err-Damaged-clause-once g c =
    open_once (g.D.Disk.bytes c.args.disk.now) c.args.bytes.now.items c.read_behind.new.bytes.items c.args.size c.args.limit c.in-Err-Damaged.at _
    c.in_ok-read_behind.ensures.whole c.requires.told (subst (λ e. Loads c.args.limit c.read_behind.new.bytes.items (Err e)) c.in-Err-Damaged.field-0-is c.in-Err-Damaged.ensures.loads)
