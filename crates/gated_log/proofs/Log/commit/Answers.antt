use Rattle.std.proofs.Common.{◌≡◌, ◌≤◌, ◌+◌, [], ◌∷◌, ◌++◌, length, IfSome, vec_capacity, sym, ◌∙◌, ap, ap₂, subst, arith}
use Rattle.disk_trait.specs.Images.{moment_of}
use Rattle.gated_log.specs.Log.{batches, StandsFrom}
use Rattle.gated_log.specs.Held.{Held, room_of, log_bytes}
use Rattle.gated_log.proofs.Shapes.{stands-last}
use Rattle.gated_log.proofs.Stages.{kept_at_start}
use Rattle.gated_log.proofs.Commits.{done_parts, reads, start, allowed, fails_1, fails_2, cut_1, cut_2, allowed_2, kept, done, whole_at_end, fits_by_test}
use Rattle.gated_log.proofs.Log.commit.Goals as goal

pub returns-then-is_full-clause-moments : goal.returns-then-is_full-clause-moments
returns-then-is_full-clause-moments g c =
    let r = reads c.self.inside.gates.items c.self.inside.bytes.items c.self.inside.limit (room_of (vec_capacity c.self.inside.bytes) (vec_capacity c.self.inside.gates) (length c.self.inside.gates.items)) c.args.self c.self.view_is c.self.invariant in
    kept_at_start c.args.self c.args.payload.now r.closed r.lengths (g.D.Disk.told c.args.disk.now) c.requires

pub returns-in-Err-clause-moments : goal.returns-in-Err-clause-moments
returns-in-Err-clause-moments g c =
    let r = reads c.self.inside.gates.items c.self.inside.bytes.items c.self.inside.limit (room_of (vec_capacity c.self.inside.bytes) (vec_capacity c.self.inside.gates) (length c.self.inside.gates.items)) c.args.self c.self.view_is c.self.invariant in
    kept_at_start c.args.self c.args.payload.now r.closed r.lengths (g.D.Disk.told c.args.disk.now) c.requires

pub write_surely-requires : goal.write_surely-requires
write_surely-requires g c =
    let r = reads c.self.inside.gates.items c.self.inside.bytes.items c.self.inside.limit (room_of (vec_capacity c.self.inside.bytes) (vec_capacity c.self.inside.gates) (length c.self.inside.gates.items)) c.args.self c.self.view_is c.self.invariant in
    let size : c.len-end.result ≡ length c.self.inside.bytes.items = omega (arith, c.self.inside.bytes.ok.0) in
    let room : length c.self.inside.bytes.items + length c.args.payload.now + 9 ≤ c.self.inside.limit = fits_by_test c.self.inside.limit (length c.self.inside.bytes.items) (length c.args.payload.now) c.len-end.result c.is_full.result c.if-is_full.false c.is_full.ensures size in
    let s = start c.self.inside.gates.items c.self.inside.bytes.items c.args.payload.now c.deref.result.now c.self.inside.limit c.args.self c.len-end.result (g.D.Disk.told c.args.disk.now) r room (c.deref.ensures.value ∙ c.in_default.ensures.ok.0) size (g.met.D.Disk.sound c.args.disk.now) c.requires in
    allowed c.args.self c.args.payload.now c.len-end.result _ (g.D.Disk.told c.args.disk.now) s

pub returns-in-Err-write_surely-clause-moments : goal.returns-in-Err-write_surely-clause-moments
returns-in-Err-write_surely-clause-moments g c =
    let r = reads c.self.inside.gates.items c.self.inside.bytes.items c.self.inside.limit (room_of (vec_capacity c.self.inside.bytes) (vec_capacity c.self.inside.gates) (length c.self.inside.gates.items)) c.args.self c.self.view_is c.self.invariant in
    let size : c.len-end.result ≡ length c.self.inside.bytes.items = omega (arith, c.self.inside.bytes.ok.0) in
    let room : length c.self.inside.bytes.items + length c.args.payload.now + 9 ≤ c.self.inside.limit = fits_by_test c.self.inside.limit (length c.self.inside.bytes.items) (length c.args.payload.now) c.len-end.result c.is_full.result c.if-is_full.false c.is_full.ensures size in
    let s = start c.self.inside.gates.items c.self.inside.bytes.items c.args.payload.now c.deref.result.now c.self.inside.limit c.args.self c.len-end.result (g.D.Disk.told c.args.disk.now) r room (c.deref.ensures.value ∙ c.in_default.ensures.ok.0) size (g.met.D.Disk.sound c.args.disk.now) c.requires in
    fails_1 c.args.self c.args.payload.now c.len-end.result _ (g.D.Disk.told c.args.disk.now) s (g.D.Disk.told c.write_surely.new.disk) c.in-Err-write_surely.ensures.err

pub write_surely-requires-2 : goal.write_surely-requires-2
write_surely-requires-2 g c =
    let r = reads c.self.inside.gates.items c.self.inside.bytes.items c.self.inside.limit (room_of (vec_capacity c.self.inside.bytes) (vec_capacity c.self.inside.gates) (length c.self.inside.gates.items)) c.args.self c.self.view_is c.self.invariant in
    let size : c.len-end.result ≡ length c.self.inside.bytes.items = omega (arith, c.self.inside.bytes.ok.0) in
    let room : length c.self.inside.bytes.items + length c.args.payload.now + 9 ≤ c.self.inside.limit = fits_by_test c.self.inside.limit (length c.self.inside.bytes.items) (length c.args.payload.now) c.len-end.result c.is_full.result c.if-is_full.false c.is_full.ensures size in
    let s = start c.self.inside.gates.items c.self.inside.bytes.items c.args.payload.now c.deref.result.now c.self.inside.limit c.args.self c.len-end.result (g.D.Disk.told c.args.disk.now) r room (c.deref.ensures.value ∙ c.in_default.ensures.ok.0) size (g.met.D.Disk.sound c.args.disk.now) c.requires in
    allowed_2 c.args.self c.args.payload.now c.len-end.result _ (g.D.Disk.told c.args.disk.now) s (g.D.Disk.told c.write_surely.new.disk) c.in_default-write_surely.ensures.ok

pub returns-in-Err-write_surely-2-clause-moments : goal.returns-in-Err-write_surely-2-clause-moments
returns-in-Err-write_surely-2-clause-moments g c =
    let r = reads c.self.inside.gates.items c.self.inside.bytes.items c.self.inside.limit (room_of (vec_capacity c.self.inside.bytes) (vec_capacity c.self.inside.gates) (length c.self.inside.gates.items)) c.args.self c.self.view_is c.self.invariant in
    let size : c.len-end.result ≡ length c.self.inside.bytes.items = omega (arith, c.self.inside.bytes.ok.0) in
    let room : length c.self.inside.bytes.items + length c.args.payload.now + 9 ≤ c.self.inside.limit = fits_by_test c.self.inside.limit (length c.self.inside.bytes.items) (length c.args.payload.now) c.len-end.result c.is_full.result c.if-is_full.false c.is_full.ensures size in
    let s = start c.self.inside.gates.items c.self.inside.bytes.items c.args.payload.now c.deref.result.now c.self.inside.limit c.args.self c.len-end.result (g.D.Disk.told c.args.disk.now) r room (c.deref.ensures.value ∙ c.in_default.ensures.ok.0) size (g.met.D.Disk.sound c.args.disk.now) c.requires in
    fails_2 c.args.self c.args.payload.now c.len-end.result _ (g.D.Disk.told c.args.disk.now) s (g.D.Disk.told c.write_surely.new.disk) (g.D.Disk.told c.write_surely-2.new.disk) c.in_default-write_surely.ensures.ok c.in-Err-write_surely-2.ensures.err

pub invariant_of-result-2 : goal.invariant_of-result-2
invariant_of-result-2 g c =
    let r = reads c.self.inside.gates.items c.self.inside.bytes.items c.self.inside.limit (room_of (vec_capacity c.self.inside.bytes) (vec_capacity c.self.inside.gates) (length c.self.inside.gates.items)) c.args.self c.self.view_is c.self.invariant in
    let size : c.len-end.result ≡ length c.self.inside.bytes.items = omega (arith, c.self.inside.bytes.ok.0) in
    let room : length c.self.inside.bytes.items + length c.args.payload.now + 9 ≤ c.self.inside.limit = fits_by_test c.self.inside.limit (length c.self.inside.bytes.items) (length c.args.payload.now) c.len-end.result c.is_full.result c.if-is_full.false c.is_full.ensures size in
    let e = whole_at_end c.self.inside.gates.items c.self.inside.bytes.items c.args.payload.now c.stage.new.gates.items c.stage.new.bytes.items c.self.inside.limit c.args.self c.len-end.result r room c.in_default.ensures.ok.0 c.in_default.ensures.ok.1 size in
    e.0

pub returns-clause-answers : goal.returns-clause-answers
returns-clause-answers g c =
    let r = reads c.self.inside.gates.items c.self.inside.bytes.items c.self.inside.limit (room_of (vec_capacity c.self.inside.bytes) (vec_capacity c.self.inside.gates) (length c.self.inside.gates.items)) c.args.self c.self.view_is c.self.invariant in
    let size : c.len-end.result ≡ length c.self.inside.bytes.items = omega (arith, c.self.inside.bytes.ok.0) in
    let room : length c.self.inside.bytes.items + length c.args.payload.now + 9 ≤ c.self.inside.limit = fits_by_test c.self.inside.limit (length c.self.inside.bytes.items) (length c.args.payload.now) c.len-end.result c.is_full.result c.if-is_full.false c.is_full.ensures size in
    let e = whole_at_end c.self.inside.gates.items c.self.inside.bytes.items c.args.payload.now c.stage.new.gates.items c.stage.new.bytes.items c.self.inside.limit c.args.self c.len-end.result r room c.in_default.ensures.ok.0 c.in_default.ensures.ok.1 size in
    (let w = r.within in omega (arith, room, ap length r.front, r.most), e.1, e.2, r.most)

pub returns-clause-moments : goal.returns-clause-moments
returns-clause-moments g c =
    let r = reads c.self.inside.gates.items c.self.inside.bytes.items c.self.inside.limit (room_of (vec_capacity c.self.inside.bytes) (vec_capacity c.self.inside.gates) (length c.self.inside.gates.items)) c.args.self c.self.view_is c.self.invariant in
    let size : c.len-end.result ≡ length c.self.inside.bytes.items = omega (arith, c.self.inside.bytes.ok.0) in
    let room : length c.self.inside.bytes.items + length c.args.payload.now + 9 ≤ c.self.inside.limit = fits_by_test c.self.inside.limit (length c.self.inside.bytes.items) (length c.args.payload.now) c.len-end.result c.is_full.result c.if-is_full.false c.is_full.ensures size in
    let s = start c.self.inside.gates.items c.self.inside.bytes.items c.args.payload.now c.deref.result.now c.self.inside.limit c.args.self c.len-end.result (g.D.Disk.told c.args.disk.now) r room (c.deref.ensures.value ∙ c.in_default.ensures.ok.0) size (g.met.D.Disk.sound c.args.disk.now) c.requires in
    kept c.args.self c.args.payload.now c.len-end.result _ (g.D.Disk.told c.args.disk.now) s (g.D.Disk.told c.write_surely.new.disk) (g.D.Disk.told c.write_surely-2.new.disk) c.in_default-write_surely.ensures.ok c.in_default-write_surely-2.ensures.ok

pub returns-clause-done : goal.returns-clause-done
returns-clause-done g c = λ log clock same.
    let r = reads c.self.inside.gates.items c.self.inside.bytes.items c.self.inside.limit (room_of (vec_capacity c.self.inside.bytes) (vec_capacity c.self.inside.gates) (length c.self.inside.gates.items)) c.args.self c.self.view_is c.self.invariant in
    let size : c.len-end.result ≡ length c.self.inside.bytes.items = omega (arith, c.self.inside.bytes.ok.0) in
    let room : length c.self.inside.bytes.items + length c.args.payload.now + 9 ≤ c.self.inside.limit = fits_by_test c.self.inside.limit (length c.self.inside.bytes.items) (length c.args.payload.now) c.len-end.result c.is_full.result c.if-is_full.false c.is_full.ensures size in
    let s = start c.self.inside.gates.items c.self.inside.bytes.items c.args.payload.now c.deref.result.now c.self.inside.limit c.args.self c.len-end.result (g.D.Disk.told c.args.disk.now) r room (c.deref.ensures.value ∙ c.in_default.ensures.ok.0) size (g.met.D.Disk.sound c.args.disk.now) c.requires in
    let e = whole_at_end c.self.inside.gates.items c.self.inside.bytes.items c.args.payload.now c.stage.new.gates.items c.stage.new.bytes.items c.self.inside.limit c.args.self c.len-end.result r room c.in_default.ensures.ok.0 c.in_default.ensures.ok.1 size in
    let parts = done_parts _ log _ clock same in
    done c.args.self c.args.payload.now c.len-end.result _ (g.D.Disk.told c.args.disk.now) s log clock (g.D.Disk.told c.write_surely.new.disk) (g.D.Disk.told c.write_surely-2.new.disk) c.in_default-write_surely.ensures.ok c.in_default-write_surely-2.ensures.ok
    (sym (ap (λ (l : Held). l.payloads) parts.0) ∙ e.1) (sym (ap (λ (l : Held). l.gate) parts.0) ∙ e.2) (sym (ap (λ (l : Held). l.limit) parts.0) ∙ r.most)
    (subst (λ n. IfSome (g.D.Disk.told c.write_surely-2.new.disk) (λ t. n ≡ moment_of t)) parts.1 c.clock.ensures.moment)

pub returns-clause-place : goal.returns-clause-place
returns-clause-place g c = λ log clock same.
    let r = reads c.self.inside.gates.items c.self.inside.bytes.items c.self.inside.limit (room_of (vec_capacity c.self.inside.bytes) (vec_capacity c.self.inside.gates) (length c.self.inside.gates.items)) c.args.self c.self.view_is c.self.invariant in
    let size : c.len-end.result ≡ length c.self.inside.bytes.items = omega (arith, c.self.inside.bytes.ok.0) in
    let room : length c.self.inside.bytes.items + length c.args.payload.now + 9 ≤ c.self.inside.limit = fits_by_test c.self.inside.limit (length c.self.inside.bytes.items) (length c.args.payload.now) c.len-end.result c.is_full.result c.if-is_full.false c.is_full.ensures size in
    let e = whole_at_end c.self.inside.gates.items c.self.inside.bytes.items c.args.payload.now c.stage.new.gates.items c.stage.new.bytes.items c.self.inside.limit c.args.self c.len-end.result r room c.in_default.ensures.ok.0 c.in_default.ensures.ok.1 size in
    let parts = done_parts _ log _ clock same in
    subst (λ b. StandsFrom (length (log_bytes c.args.self) + 8) c.args.payload.now b)
    (sym (ap₂ (λ ps gate. batches ps ++ gate ∷ []) (sym (ap (λ (l : Held). l.payloads) parts.0) ∙ e.1) (sym (ap (λ (l : Held). l.gate) parts.0) ∙ e.2)))
    (stands-last c.args.self.payloads c.args.payload.now c.args.self.gate)

pub returns-in-Err-write_surely-clause-stopped : goal.returns-in-Err-write_surely-clause-stopped
returns-in-Err-write_surely-clause-stopped g c = λ fault is.
    let r = reads c.self.inside.gates.items c.self.inside.bytes.items c.self.inside.limit (room_of (vec_capacity c.self.inside.bytes) (vec_capacity c.self.inside.gates) (length c.self.inside.gates.items)) c.args.self c.self.view_is c.self.invariant in
    let size : c.len-end.result ≡ length c.self.inside.bytes.items = omega (arith, c.self.inside.bytes.ok.0) in
    let room : length c.self.inside.bytes.items + length c.args.payload.now + 9 ≤ c.self.inside.limit = fits_by_test c.self.inside.limit (length c.self.inside.bytes.items) (length c.args.payload.now) c.len-end.result c.is_full.result c.if-is_full.false c.is_full.ensures size in
    let s = start c.self.inside.gates.items c.self.inside.bytes.items c.args.payload.now c.deref.result.now c.self.inside.limit c.args.self c.len-end.result (g.D.Disk.told c.args.disk.now) r room (c.deref.ensures.value ∙ c.in_default.ensures.ok.0) size (g.met.D.Disk.sound c.args.disk.now) c.requires in
    cut_1 c.args.self c.args.payload.now c.len-end.result _ (g.D.Disk.told c.args.disk.now) s (g.D.Disk.told c.write_surely.new.disk) c.in-Err-write_surely.ensures.err

pub returns-in-Err-write_surely-2-clause-stopped : goal.returns-in-Err-write_surely-2-clause-stopped
returns-in-Err-write_surely-2-clause-stopped g c = λ fault is.
    let r = reads c.self.inside.gates.items c.self.inside.bytes.items c.self.inside.limit (room_of (vec_capacity c.self.inside.bytes) (vec_capacity c.self.inside.gates) (length c.self.inside.gates.items)) c.args.self c.self.view_is c.self.invariant in
    let size : c.len-end.result ≡ length c.self.inside.bytes.items = omega (arith, c.self.inside.bytes.ok.0) in
    let room : length c.self.inside.bytes.items + length c.args.payload.now + 9 ≤ c.self.inside.limit = fits_by_test c.self.inside.limit (length c.self.inside.bytes.items) (length c.args.payload.now) c.len-end.result c.is_full.result c.if-is_full.false c.is_full.ensures size in
    let s = start c.self.inside.gates.items c.self.inside.bytes.items c.args.payload.now c.deref.result.now c.self.inside.limit c.args.self c.len-end.result (g.D.Disk.told c.args.disk.now) r room (c.deref.ensures.value ∙ c.in_default.ensures.ok.0) size (g.met.D.Disk.sound c.args.disk.now) c.requires in
    cut_2 c.args.self c.args.payload.now c.len-end.result _ (g.D.Disk.told c.args.disk.now) s (g.D.Disk.told c.write_surely.new.disk) (g.D.Disk.told c.write_surely-2.new.disk) c.in_default-write_surely.ensures.ok c.in-Err-write_surely-2.ensures.err
