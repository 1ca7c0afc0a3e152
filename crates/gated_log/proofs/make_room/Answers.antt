use Rattle.std.proofs.Common.{◌≡◌, ◌<◌, ◌≤◌, ◌+◌, length, vec_capacity, sym, ◌∙◌, arith}
use Rattle.std.proofs.lemmas.Result.{on_ok_weaker, on_err_weaker}
use Rattle.std.specs.Vec.{vec_len}
use Rattle.gated_log.proofs.Rooms.{room-le, room-some, room-none, on_err, on_err_both}
use Rattle.gated_log.proofs.make_room.Goals as goal

pub returns-in_err-try_reserve-clause-full : goal.returns-in_err-try_reserve-clause-full
returns-in_err-try_reserve-clause-full c = on_err c.from_residual.result (let f = c.in_err-try_reserve.ensures.full in let m = room-le (vec_capacity c.args.bytes.now) (vec_capacity c.args.gates.now) (length c.args.gates.now.items) in omega (arith, f, m, c.args.bytes.now.ok.0))

pub returns-clause-room : goal.returns-clause-room
returns-clause-room c = on_ok_weaker c.try_reserve-2.result
    (λ (h : vec_len c.try_reserve-2.new.self + 1 ≤ vec_capacity c.try_reserve-2.new.self).
    let e = c.try_reserve-2.ensures.len in
    let b = c.in_ok-try_reserve.ensures.ok in
    let l = c.in_ok-try_reserve.ensures.len in
    let some = room-some (vec_capacity c.try_reserve.new.self) (vec_capacity c.try_reserve-2.new.self) (length c.args.gates.now.items) (omega (arith, h, e, c.args.gates.now.ok.0)) in
    omega (arith, some, b, l, c.args.bytes.now.ok.0)) c.try_reserve-2.ensures.ok

pub returns-clause-same : goal.returns-clause-same
returns-clause-same c = on_err_both c.try_reserve-2.result
    (λ (f : vec_capacity c.args.gates.now < vec_len c.args.gates.now + 1) (k : vec_capacity c.try_reserve-2.new.self ≡ vec_capacity c.args.gates.now).
    room-none (vec_capacity c.try_reserve.new.self) (vec_capacity c.try_reserve-2.new.self) (length c.args.gates.now.items) (omega (arith, f, k, c.args.gates.now.ok.0)) ∙ sym (room-none (vec_capacity c.args.bytes.now) (vec_capacity c.args.gates.now) (length c.args.gates.now.items) (omega (arith, f, c.args.gates.now.ok.0))))
    c.try_reserve-2.ensures.full c.try_reserve-2.ensures.err

pub returns-clause-full : goal.returns-clause-full
returns-clause-full c = on_err_weaker c.try_reserve-2.result
    (λ (f : vec_capacity c.args.gates.now < vec_len c.args.gates.now + 1).
    let none = room-none (vec_capacity c.args.bytes.now) (vec_capacity c.args.gates.now) (length c.args.gates.now.items) (omega (arith, f, c.args.gates.now.ok.0)) in omega (arith, none)) c.try_reserve-2.ensures.full
