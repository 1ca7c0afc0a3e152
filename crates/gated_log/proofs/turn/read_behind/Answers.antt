use Rattle.std.proofs.Common.{◌≡◌, ◌++◌, ◌-◌, ◌+◌, ◌∙◌, ℕ, List, ap, take, drop, length, arith}
use Rattle.std.proofs.lemmas.List.{length-drop, length-take-le}
use Rattle.gated_log.proofs.Turning.{cut_back, front_kept, all_there, reads_behind, reads_none, reads_one}
use Rattle.gated_log.proofs.turn.read_behind.Goals as goal

pub returns-in_err-count-clause-reads : goal.returns-in_err-count-clause-reads
returns-in_err-count-clause-reads g c = reads_none (g.D.Disk.told c.args.disk.now) (g.D.Disk.told c.read.new.self) c.in_err-count.ensures.err

pub returns-clause-whole : goal.returns-clause-whole
returns-clause-whole g c =
    let now = c.deref_mut.result.now in
    let end = c.len-end.result in
    let out = take (length now - end) (drop end now) in
    let fits = c.requires.0 in
    let long : length now ≡ c.args.size = omega (arith, c.in_ok-fill_up.ensures.len, c.deref_mut.ensures.len) in
    let dropped = length-drop end now in
    let room : length out ≡ c.args.size - end = (let e = length-take-le (length now - end) (drop end now) (omega (arith, dropped)) in omega (arith, e, long)) in
    let kept : take end now ≡ c.args.bytes.now.items = front_kept c.args.bytes.now.items now c.in_ok-fill_up.ensures.front.0 end (c.deref_mut.ensures.value ∙ c.in_ok-fill_up.ensures.front.1) (omega arith) in
    let is : c.truncate.new.self.items ≡ c.args.bytes.now.items ++ take c.in_ok-count.count c.read.new.out =
    c.truncate.ensures.items ∙ cut_back (take end now) c.read.new.out _ _ c.fill_up.new.bytes.len (end + c.in_ok-count.count) c.in_ok-count.count (let e = length-take-le end now (omega arith) in omega (arith, e)) (omega (arith, c.read.auto.out, c.in_ok-count.ensures.bound)) (omega (arith, c.in_ok-count.ensures.bound, room, long))
    ∙ ap (λ (l : List ℕ). l ++ take c.in_ok-count.count c.read.new.out) kept in
    all_there (g.D.Disk.bytes c.args.disk.now) c.args.bytes.now.items c.truncate.new.self.items out c.read.new.out end c.args.size c.in_ok-count.count is (omega arith) room c.in_ok-count.ensures.count c.in_ok-count.ensures.bytes

pub returns-clause-read : goal.returns-clause-read
returns-clause-read g c =
    let now = c.deref_mut.result.now in
    let end = c.len-end.result in
    let out = take (length now - end) (drop end now) in
    let fits = c.requires.0 in
    let long : length now ≡ c.args.size = omega (arith, c.in_ok-fill_up.ensures.len, c.deref_mut.ensures.len) in
    let dropped = length-drop end now in
    let room : length out ≡ c.args.size - end = (let e = length-take-le (length now - end) (drop end now) (omega (arith, dropped)) in omega (arith, e, long)) in
    let kept : take end now ≡ c.args.bytes.now.items = front_kept c.args.bytes.now.items now c.in_ok-fill_up.ensures.front.0 end (c.deref_mut.ensures.value ∙ c.in_ok-fill_up.ensures.front.1) (omega arith) in
    let is : c.truncate.new.self.items ≡ c.args.bytes.now.items ++ take c.in_ok-count.count c.read.new.out =
    c.truncate.ensures.items ∙ cut_back (take end now) c.read.new.out _ _ c.fill_up.new.bytes.len (end + c.in_ok-count.count) c.in_ok-count.count (let e = length-take-le end now (omega arith) in omega (arith, e)) (omega (arith, c.read.auto.out, c.in_ok-count.ensures.bound)) (omega (arith, c.in_ok-count.ensures.bound, room, long))
    ∙ ap (λ (l : List ℕ). l ++ take c.in_ok-count.count c.read.new.out) kept in
    reads_behind (g.D.Disk.meanwhile c.args.disk.now) (g.D.Disk.meanwhile c.read.new.self) c.args.bytes.now.items c.truncate.new.self.items out c.read.new.out end c.args.size c.in_ok-count.count is (omega arith) fits room c.read.auto.out c.in_ok-count.ensures.bound c.in_ok-count.ensures.read

pub returns-clause-reads : goal.returns-clause-reads
returns-clause-reads g c = reads_one (g.D.Disk.told c.args.disk.now) (g.D.Disk.told c.read.new.self) c.in_ok-count.ensures.ok
