use Rattle.std.proofs.Common.{◌≡◌, length, [], Err, arith}
use Rattle.disk_trait.proofs.Telling.{of_told}
use Rattle.gated_log.specs.Load.{Loads}
use Rattle.gated_log.specs.declared.LoadLog.TheVariants.{TooLarge}
use Rattle.gated_log.proofs.LoadCalls.{sync_fails, size_fails, sized, sized_keeps, images_kept, payloads_kept, start_images, start_keeps, read_keeps, size_is, read_done, start_done}
use Rattle.gated_log.proofs.Fresh.{old_kept, fresh_started}
use Rattle.gated_log.proofs.Sureness.{sure_behind, sure_sized, sure_read, behind_of, behind_none, behind_size}
use Rattle.gated_log.proofs.AllReads.{peek_grown, peek_large, lasts-both, sized-then, load_grown, load_fresh}
use Rattle.gated_log.proofs.Counted.{read-calls, read-damaged, steps-pass, steps-sync, one-within, two-within, sized-within, read-within, start-within, read-kept, start-kept, on-ok, then-ok}
use Rattle.gated_log.proofs.Log.load.Goals as goal

pub returns-in_err-sync-clause-moments : goal.returns-in_err-sync-clause-moments
returns-in_err-sync-clause-moments g c = λ ps. payloads_kept c.args.limit ps (g.D.Disk.told c.args.disk.now) (g.D.Disk.told c.sync.new.self) (sync_fails (g.D.Disk.told c.args.disk.now) (g.D.Disk.told c.sync.new.self) c.in_err-sync.ensures.err)

pub returns-in_err-size-clause-images : goal.returns-in_err-size-clause-images
returns-in_err-size-clause-images g c = images_kept (g.D.Disk.told c.args.disk.now) (g.D.Disk.told c.size.new.self) (size_fails (g.D.Disk.told c.args.disk.now) (g.D.Disk.told c.sync.new.self) (g.D.Disk.told c.size.new.self) (g.met.D.Disk.sound c.args.disk.now) c.in_ok-sync.ensures.ok c.in_err-size.ensures.err)

pub returns-in_err-size-clause-moments : goal.returns-in_err-size-clause-moments
returns-in_err-size-clause-moments g c = λ ps. payloads_kept c.args.limit ps (g.D.Disk.told c.args.disk.now) (g.D.Disk.told c.size.new.self) (size_fails (g.D.Disk.told c.args.disk.now) (g.D.Disk.told c.sync.new.self) (g.D.Disk.told c.size.new.self) (g.met.D.Disk.sound c.args.disk.now) c.in_ok-sync.ensures.ok c.in_err-size.ensures.err)

pub returns-then-size-limit-clause-images : goal.returns-then-size-limit-clause-images
returns-then-size-limit-clause-images g c = images_kept (g.D.Disk.told c.args.disk.now) (g.D.Disk.told c.size.new.self) (sized_keeps (g.D.Disk.told c.args.disk.now) (g.D.Disk.told c.size.new.self) (sized (g.D.Disk.told c.args.disk.now) (g.D.Disk.told c.sync.new.self) (g.D.Disk.told c.size.new.self) (g.met.D.Disk.sound c.args.disk.now) c.in_ok-sync.ensures.ok c.in_ok-size.ensures.ok))

pub returns-then-size-le1-clause-images : goal.returns-then-size-le1-clause-images
returns-then-size-le1-clause-images g c = start_images c.args.limit c.in_ok-size.size (g.D.Disk.told c.args.disk.now) (g.D.Disk.told c.size.new.self) (g.D.Disk.told c.start.new.disk) (sized (g.D.Disk.told c.args.disk.now) (g.D.Disk.told c.sync.new.self) (g.D.Disk.told c.size.new.self) (g.met.D.Disk.sound c.args.disk.now) c.in_ok-sync.ensures.ok c.in_ok-size.ensures.ok) (c.start.ensures.moments []) (size_is c.in_ok-size.size (g.D.Disk.told c.sync.new.self) (g.D.Disk.told c.size.new.self) c.in_ok-size.ensures.ok (of_told (λ b. c.in_ok-size.size ≡ length b) (g.D.Disk.bytes c.sync.new.self) (g.D.Disk.told c.sync.new.self) (g.met.D.Disk.tells c.sync.new.self) c.in_ok-size.ensures.size)) (omega arith)

pub returns-then-size-le1-clause-moments : goal.returns-then-size-le1-clause-moments
returns-then-size-le1-clause-moments g c = λ ps. start_keeps c.args.limit ps (g.D.Disk.told c.args.disk.now) (g.D.Disk.told c.size.new.self) (g.D.Disk.told c.start.new.disk) (sized (g.D.Disk.told c.args.disk.now) (g.D.Disk.told c.sync.new.self) (g.D.Disk.told c.size.new.self) (g.met.D.Disk.sound c.args.disk.now) c.in_ok-sync.ensures.ok c.in_ok-size.ensures.ok) (c.start.ensures.moments ps)

pub returns-clause-images : goal.returns-clause-images
returns-clause-images g c = images_kept (g.D.Disk.told c.args.disk.now) (g.D.Disk.told c.read_all.new.disk) (read_keeps (g.D.Disk.told c.args.disk.now) (g.D.Disk.told c.size.new.self) (g.D.Disk.told c.read_all.new.disk) (sized (g.D.Disk.told c.args.disk.now) (g.D.Disk.told c.sync.new.self) (g.D.Disk.told c.size.new.self) (g.met.D.Disk.sound c.args.disk.now) c.in_ok-sync.ensures.ok c.in_ok-size.ensures.ok) c.read_all.ensures.reads)

pub returns-clause-moments : goal.returns-clause-moments
returns-clause-moments g c = λ ps. payloads_kept c.args.limit ps (g.D.Disk.told c.args.disk.now) (g.D.Disk.told c.read_all.new.disk) (read_keeps (g.D.Disk.told c.args.disk.now) (g.D.Disk.told c.size.new.self) (g.D.Disk.told c.read_all.new.disk) (sized (g.D.Disk.told c.args.disk.now) (g.D.Disk.told c.sync.new.self) (g.D.Disk.told c.size.new.self) (g.met.D.Disk.sound c.args.disk.now) c.in_ok-sync.ensures.ok c.in_ok-size.ensures.ok) c.read_all.ensures.reads)

pub returns-clause-done : goal.returns-clause-done
returns-clause-done g c = read_done c.args.limit c.in_ok-size.size (g.D.Disk.told c.args.disk.now) (g.D.Disk.told c.size.new.self) (g.D.Disk.told c.read_all.new.disk) c.read_all.result (sized (g.D.Disk.told c.args.disk.now) (g.D.Disk.told c.sync.new.self) (g.D.Disk.told c.size.new.self) (g.met.D.Disk.sound c.args.disk.now) c.in_ok-sync.ensures.ok c.in_ok-size.ensures.ok) c.read_all.ensures.ok (size_is c.in_ok-size.size (g.D.Disk.told c.sync.new.self) (g.D.Disk.told c.size.new.self) c.in_ok-size.ensures.ok (of_told (λ b. c.in_ok-size.size ≡ length b) (g.D.Disk.bytes c.sync.new.self) (g.D.Disk.told c.sync.new.self) (g.met.D.Disk.tells c.sync.new.self) c.in_ok-size.ensures.size)) (omega arith) (omega arith) (of_told (λ b. Loads c.args.limit b c.read_all.result) (g.D.Disk.bytes c.size.new.self) (g.D.Disk.told c.size.new.self) (g.met.D.Disk.tells c.size.new.self) c.read_all.ensures.answers)

pub returns-in_err-size-clause-fresh : goal.returns-in_err-size-clause-fresh
returns-in_err-size-clause-fresh g c = old_kept (g.D.Disk.told c.args.disk.now) (g.D.Disk.told c.size.new.self) (size_fails (g.D.Disk.told c.args.disk.now) (g.D.Disk.told c.sync.new.self) (g.D.Disk.told c.size.new.self) (g.met.D.Disk.sound c.args.disk.now) c.in_ok-sync.ensures.ok c.in_err-size.ensures.err)

pub returns-then-size-limit-clause-fresh : goal.returns-then-size-limit-clause-fresh
returns-then-size-limit-clause-fresh g c = old_kept (g.D.Disk.told c.args.disk.now) (g.D.Disk.told c.size.new.self) (sized_keeps (g.D.Disk.told c.args.disk.now) (g.D.Disk.told c.size.new.self) (sized (g.D.Disk.told c.args.disk.now) (g.D.Disk.told c.sync.new.self) (g.D.Disk.told c.size.new.self) (g.met.D.Disk.sound c.args.disk.now) c.in_ok-sync.ensures.ok c.in_ok-size.ensures.ok))

pub returns-then-size-le1-clause-fresh : goal.returns-then-size-le1-clause-fresh
returns-then-size-le1-clause-fresh g c = fresh_started c.in_ok-size.size (g.D.Disk.told c.args.disk.now) (g.D.Disk.told c.size.new.self) (g.D.Disk.told c.start.new.disk) (sized (g.D.Disk.told c.args.disk.now) (g.D.Disk.told c.sync.new.self) (g.D.Disk.told c.size.new.self) (g.met.D.Disk.sound c.args.disk.now) c.in_ok-sync.ensures.ok c.in_ok-size.ensures.ok)
    (size_is c.in_ok-size.size (g.D.Disk.told c.sync.new.self) (g.D.Disk.told c.size.new.self) c.in_ok-size.ensures.ok (of_told (λ b. c.in_ok-size.size ≡ length b) (g.D.Disk.bytes c.sync.new.self) (g.D.Disk.told c.sync.new.self) (g.met.D.Disk.tells c.sync.new.self) c.in_ok-size.ensures.size)) (omega arith) c.start.ensures.fresh

pub returns-then-size-le1-clause-done : goal.returns-then-size-le1-clause-done
returns-then-size-le1-clause-done g c = start_done c.in_ok-size.size (g.D.Disk.told c.args.disk.now) (g.D.Disk.told c.size.new.self) (g.D.Disk.told c.start.new.disk) c.start.result (sized (g.D.Disk.told c.args.disk.now) (g.D.Disk.told c.sync.new.self) (g.D.Disk.told c.size.new.self) (g.met.D.Disk.sound c.args.disk.now) c.in_ok-sync.ensures.ok c.in_ok-size.ensures.ok)
    c.start.ensures.ok (size_is c.in_ok-size.size (g.D.Disk.told c.sync.new.self) (g.D.Disk.told c.size.new.self) c.in_ok-size.ensures.ok (of_told (λ b. c.in_ok-size.size ≡ length b) (g.D.Disk.bytes c.sync.new.self) (g.D.Disk.told c.sync.new.self) (g.met.D.Disk.tells c.sync.new.self) c.in_ok-size.ensures.size)) (omega arith)

pub returns-clause-fresh : goal.returns-clause-fresh
returns-clause-fresh g c = old_kept (g.D.Disk.told c.args.disk.now) (g.D.Disk.told c.read_all.new.disk) (read_keeps (g.D.Disk.told c.args.disk.now) (g.D.Disk.told c.size.new.self) (g.D.Disk.told c.read_all.new.disk) (sized (g.D.Disk.told c.args.disk.now) (g.D.Disk.told c.sync.new.self) (g.D.Disk.told c.size.new.self) (g.met.D.Disk.sound c.args.disk.now) c.in_ok-sync.ensures.ok c.in_ok-size.ensures.ok) c.read_all.ensures.reads)

pub returns-then-size-limit-clause-sure : goal.returns-then-size-limit-clause-sure
returns-then-size-limit-clause-sure g c = λ no ps. sure_sized c.args.limit ps (g.D.Disk.told c.args.disk.now) (g.D.Disk.told c.sync.new.self) (g.D.Disk.told c.size.new.self) c.in_ok-sync.ensures.ok c.in_ok-size.ensures.ok

pub returns-then-size-le1-clause-sure : goal.returns-then-size-le1-clause-sure
returns-then-size-le1-clause-sure g c = λ no ps. sure_behind c.args.limit ps (g.D.Disk.told c.args.disk.now) (g.D.Disk.told c.sync.new.self) (g.D.Disk.told c.size.new.self) (g.D.Disk.told c.start.new.disk) c.in_ok-sync.ensures.ok c.in_ok-size.ensures.ok (c.start.ensures.moments ps)

pub returns-clause-sure : goal.returns-clause-sure
returns-clause-sure g c = λ no ps. sure_read c.args.limit ps (g.D.Disk.told c.args.disk.now) (g.D.Disk.told c.sync.new.self) (g.D.Disk.told c.size.new.self) (g.D.Disk.told c.read_all.new.disk) c.in_ok-sync.ensures.ok c.in_ok-size.ensures.ok c.read_all.ensures.reads

pub returns-in_err-sync-clause-within : goal.returns-in_err-sync-clause-within
returns-in_err-sync-clause-within g c = one-within (g.D.Disk.told c.args.disk.now) (g.D.Disk.told c.sync.new.self) (steps-pass (g.D.Disk.told c.args.disk.now) (g.D.Disk.told c.sync.new.self) c.in_err-sync.ensures.err)

pub returns-in_err-size-clause-within : goal.returns-in_err-size-clause-within
returns-in_err-size-clause-within g c =
    two-within (g.D.Disk.told c.args.disk.now) (g.D.Disk.told c.sync.new.self) (g.D.Disk.told c.size.new.self) (steps-sync (g.D.Disk.told c.args.disk.now) (g.D.Disk.told c.sync.new.self) c.in_ok-sync.ensures.ok) (steps-pass (g.D.Disk.told c.sync.new.self) (g.D.Disk.told c.size.new.self) c.in_err-size.ensures.err)

pub returns-then-size-limit-clause-within : goal.returns-then-size-limit-clause-within
returns-then-size-limit-clause-within g c = sized-within (g.D.Disk.told c.args.disk.now) (g.D.Disk.told c.size.new.self) (sized (g.D.Disk.told c.args.disk.now) (g.D.Disk.told c.sync.new.self) (g.D.Disk.told c.size.new.self) (g.met.D.Disk.sound c.args.disk.now) c.in_ok-sync.ensures.ok c.in_ok-size.ensures.ok)

pub returns-then-size-le1-clause-within : goal.returns-then-size-le1-clause-within
returns-then-size-le1-clause-within g c = start-within c.in_ok-size.size (g.D.Disk.told c.args.disk.now) (g.D.Disk.told c.size.new.self) (g.D.Disk.told c.start.new.disk) (omega arith) (sized (g.D.Disk.told c.args.disk.now) (g.D.Disk.told c.sync.new.self) (g.D.Disk.told c.size.new.self) (g.met.D.Disk.sound c.args.disk.now) c.in_ok-sync.ensures.ok c.in_ok-size.ensures.ok) (size_is c.in_ok-size.size (g.D.Disk.told c.sync.new.self) (g.D.Disk.told c.size.new.self) c.in_ok-size.ensures.ok (of_told (λ b. c.in_ok-size.size ≡ length b) (g.D.Disk.bytes c.sync.new.self) (g.D.Disk.told c.sync.new.self) (g.met.D.Disk.tells c.sync.new.self) c.in_ok-size.ensures.size)) c.start.ensures.calls

pub returns-clause-within : goal.returns-clause-within
returns-clause-within g c = read-within (g.D.Disk.bytes c.size.new.self) (g.D.Disk.told c.args.disk.now) (g.D.Disk.told c.size.new.self) (g.D.Disk.told c.read_all.new.disk) (sized (g.D.Disk.told c.args.disk.now) (g.D.Disk.told c.sync.new.self) (g.D.Disk.told c.size.new.self) (g.met.D.Disk.sound c.args.disk.now) c.in_ok-sync.ensures.ok c.in_ok-size.ensures.ok) (g.met.D.Disk.tells c.size.new.self) c.read_all.ensures.reads c.read_all.ensures.once

pub returns-clause-calls : goal.returns-clause-calls
returns-clause-calls g c = read-calls (g.D.Disk.told c.args.disk.now) (g.D.Disk.told c.size.new.self) (g.D.Disk.told c.read_all.new.disk) (sized (g.D.Disk.told c.args.disk.now) (g.D.Disk.told c.sync.new.self) (g.D.Disk.told c.size.new.self) (g.met.D.Disk.sound c.args.disk.now) c.in_ok-sync.ensures.ok c.in_ok-size.ensures.ok) c.read_all.ensures.reads

pub returns-clause-damaged : goal.returns-clause-damaged
returns-clause-damaged g c = λ at is. read-damaged (g.D.Disk.told c.args.disk.now) (g.D.Disk.told c.size.new.self) (g.D.Disk.told c.read_all.new.disk) (sized (g.D.Disk.told c.args.disk.now) (g.D.Disk.told c.sync.new.self) (g.D.Disk.told c.size.new.self) (g.met.D.Disk.sound c.args.disk.now) c.in_ok-sync.ensures.ok c.in_ok-size.ensures.ok) (c.read_all.ensures.damaged at is)

pub returns-then-size-limit-clause-meanwhile : goal.returns-then-size-limit-clause-meanwhile
returns-then-size-limit-clause-meanwhile g c = λ payloads.
    let a = g.D.Disk.meanwhile c.args.disk.now in
    let b = g.D.Disk.meanwhile c.sync.new.self in
    let e = g.D.Disk.meanwhile c.size.new.self in
    load_grown c.args.limit payloads (Err (TooLarge c.in_ok-size.size)) a e
    (peek_large c.args.limit c.in_ok-size.size payloads a e (omega arith) (lasts-both a b e c.in_ok-sync.ensures.lasts c.in_ok-size.ensures.lasts) (sized-then a b e c.in_ok-size.size c.in_ok-sync.ensures.lasts c.in_ok-size.ensures.measured))

pub returns-then-size-le1-clause-meanwhile : goal.returns-then-size-le1-clause-meanwhile
returns-then-size-le1-clause-meanwhile g c = λ payloads.
    let a = g.D.Disk.meanwhile c.args.disk.now in
    let b = g.D.Disk.meanwhile c.sync.new.self in
    let e = g.D.Disk.meanwhile c.size.new.self in
    load_fresh c.args.limit c.in_ok-size.size payloads _ a e (g.D.Disk.meanwhile c.start.new.disk) (omega arith) (sized-then a b e c.in_ok-size.size c.in_ok-sync.ensures.lasts c.in_ok-size.ensures.measured)

pub returns-clause-meanwhile : goal.returns-clause-meanwhile
returns-clause-meanwhile g c = λ payloads.
    let a = g.D.Disk.meanwhile c.args.disk.now in
    let b = g.D.Disk.meanwhile c.sync.new.self in
    let e = g.D.Disk.meanwhile c.size.new.self in
    let f = g.D.Disk.meanwhile c.read_all.new.disk in
    load_grown c.args.limit payloads c.read_all.result a f
    (peek_grown c.args.limit c.in_ok-size.size payloads c.read_all.result a e f (lasts-both a b e c.in_ok-sync.ensures.lasts c.in_ok-size.ensures.lasts)
    (sized-then a b e c.in_ok-size.size c.in_ok-sync.ensures.lasts c.in_ok-size.ensures.measured) (λ from start. c.read_all.ensures.meanwhile payloads from start))

pub returns-then-size-le1-clause-unwritten : goal.returns-then-size-le1-clause-unwritten
returns-then-size-le1-clause-unwritten g c = on-ok c.start.result (start-kept c.in_ok-size.size (g.D.Disk.told c.args.disk.now) (g.D.Disk.told c.size.new.self) (g.D.Disk.told c.start.new.disk) (omega arith) (sized (g.D.Disk.told c.args.disk.now) (g.D.Disk.told c.sync.new.self) (g.D.Disk.told c.size.new.self) (g.met.D.Disk.sound c.args.disk.now) c.in_ok-sync.ensures.ok c.in_ok-size.ensures.ok) (size_is c.in_ok-size.size (g.D.Disk.told c.sync.new.self) (g.D.Disk.told c.size.new.self) c.in_ok-size.ensures.ok (of_told (λ b. c.in_ok-size.size ≡ length b) (g.D.Disk.bytes c.sync.new.self) (g.D.Disk.told c.sync.new.self) (g.met.D.Disk.tells c.sync.new.self) c.in_ok-size.ensures.size)) c.start.ensures.calls)

pub returns-clause-unwritten : goal.returns-clause-unwritten
returns-clause-unwritten g c = then-ok c.read_all.result (read-kept (g.D.Disk.told c.args.disk.now) (g.D.Disk.told c.size.new.self) (g.D.Disk.told c.read_all.new.disk) (sized (g.D.Disk.told c.args.disk.now) (g.D.Disk.told c.sync.new.self) (g.D.Disk.told c.size.new.self) (g.met.D.Disk.sound c.args.disk.now) c.in_ok-sync.ensures.ok c.in_ok-size.ensures.ok)) c.read_all.ensures.ok

pub returns-in_err-sync-clause-behind : goal.returns-in_err-sync-clause-behind
returns-in_err-sync-clause-behind g c = λ ps. behind_none c.args.limit ps (g.D.Disk.told c.args.disk.now) (g.D.Disk.told c.sync.new.self) c.in_err-sync.ensures.err

pub returns-in_err-size-clause-behind : goal.returns-in_err-size-clause-behind
returns-in_err-size-clause-behind g c = λ ps. behind_size c.args.limit ps (g.D.Disk.told c.args.disk.now) (g.D.Disk.told c.sync.new.self) (g.D.Disk.told c.size.new.self) c.in_ok-sync.ensures.ok c.in_err-size.ensures.err

pub returns-then-size-limit-clause-behind : goal.returns-then-size-limit-clause-behind
returns-then-size-limit-clause-behind g c = λ ps. behind_of c.args.limit ps (g.D.Disk.told c.args.disk.now) (g.D.Disk.told c.size.new.self) (sure_sized c.args.limit ps (g.D.Disk.told c.args.disk.now) (g.D.Disk.told c.sync.new.self) (g.D.Disk.told c.size.new.self) c.in_ok-sync.ensures.ok c.in_ok-size.ensures.ok)

pub returns-then-size-le1-clause-behind : goal.returns-then-size-le1-clause-behind
returns-then-size-le1-clause-behind g c = λ ps. behind_of c.args.limit ps (g.D.Disk.told c.args.disk.now) (g.D.Disk.told c.start.new.disk) (sure_behind c.args.limit ps (g.D.Disk.told c.args.disk.now) (g.D.Disk.told c.sync.new.self) (g.D.Disk.told c.size.new.self) (g.D.Disk.told c.start.new.disk) c.in_ok-sync.ensures.ok c.in_ok-size.ensures.ok (c.start.ensures.moments ps))

pub returns-clause-behind : goal.returns-clause-behind
returns-clause-behind g c = λ ps. behind_of c.args.limit ps (g.D.Disk.told c.args.disk.now) (g.D.Disk.told c.read_all.new.disk) (sure_read c.args.limit ps (g.D.Disk.told c.args.disk.now) (g.D.Disk.told c.sync.new.self) (g.D.Disk.told c.size.new.self) (g.D.Disk.told c.read_all.new.disk) c.in_ok-sync.ensures.ok c.in_ok-size.ensures.ok c.read_all.ensures.reads)
