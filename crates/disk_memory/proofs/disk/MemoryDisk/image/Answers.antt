use Rattle.std.proofs.Common.{◌≡◌, ◌<◌, ℕ, List, length, get_or, sym, ◌∙◌, ap, subst, arith, true≢false}
use Rattle.disk_memory.specs.declared.call.Call.{Call}
use Rattle.disk_memory.specs.Scenes.{synced_scene}
use Rattle.disk_memory.specs.Views.{Shows}
use Rattle.disk_memory.proofs.Covering.{at_first, at_next, exit_before, exit_within, exit_behind, few_moments, if_ok}
use Rattle.disk_memory.proofs.disk.MemoryDisk.image.Goals.{else-is_sync-via-then-is_sync+else-choice-before-2, else-is_sync-via-else-is_sync}
use Rattle.disk_memory.proofs.disk.MemoryDisk.image.Goals as goal

pub calls-init : goal.calls-init
calls-init c =
    at_first c.args.self.now.start.items c.args.self.now.calls.items c.args.choice.now.moment c.in_ok-view.view (subst (λ (l : List ℕ). Shows (synced_scene l) c.in_ok-view.view) c.deref.ensures.value c.in_ok-view.ensures)

pub overflow_mul-before : goal.overflow_mul-before
overflow_mul-before c =
    let lt : c.calls.call-index < length c.args.self.now.calls.items = (let a = c.calls-test.true in let b = c.deref-call-items.ensures.value in omega (arith, a, ap length b)) in
    let is : c.call-item.result ≡ get_or c.args.self.now.calls.items c.calls.call-index c.call-item.result = c.call-item.is ∙ ap (λ (l : List Call). get_or l c.calls.call-index c.call-item.result) c.deref-call-items.ensures.value in
    let few = few_moments c.args.self.now.start.items c.args.self.now.calls.items c.args.self.now.idle c.calls.call-index c.calls.clock c.args.choice.now.moment c.call-item.result c.calls.view c.calls.invariant lt is in
    let early = c.args.self.now.sound.early in omega (arith, few, early)

pub overflow_add-before : goal.overflow_add-before
overflow_add-before c =
    let lt : c.calls.call-index < length c.args.self.now.calls.items = (let a = c.calls-test.true in let b = c.deref-call-items.ensures.value in omega (arith, a, ap length b)) in
    let is : c.call-item.result ≡ get_or c.args.self.now.calls.items c.calls.call-index c.call-item.result = c.call-item.is ∙ ap (λ (l : List Call). get_or l c.calls.call-index c.call-item.result) c.deref-call-items.ensures.value in
    let few = few_moments c.args.self.now.start.items c.args.self.now.calls.items c.args.self.now.idle c.calls.call-index c.calls.clock c.args.choice.now.moment c.call-item.result c.calls.view c.calls.invariant lt is in
    let early = c.args.self.now.sound.early in omega (arith, few, early)

pub overflow_add-clock : goal.overflow_add-clock
overflow_add-clock c =
    let lt : c.calls.call-index < length c.args.self.now.calls.items = (let a = c.calls-test.true in let b = c.deref-call-items.ensures.value in omega (arith, a, ap length b)) in
    let is : c.call-item.result ≡ get_or c.args.self.now.calls.items c.calls.call-index c.call-item.result = c.call-item.is ∙ ap (λ (l : List Call). get_or l c.calls.call-index c.call-item.result) c.deref-call-items.ensures.value in
    let few = few_moments c.args.self.now.start.items c.args.self.now.calls.items c.args.self.now.idle c.calls.call-index c.calls.clock c.args.choice.now.moment c.call-item.result c.calls.view c.calls.invariant lt is in
    let early = c.args.self.now.sound.early in omega (arith, few, early)

pub returns-then-choice-before : goal.returns-then-choice-before
returns-then-choice-before c =
    let lt : c.calls.call-index < length c.args.self.now.calls.items = (let a = c.calls-test.true in let b = c.deref-call-items.ensures.value in omega (arith, a, ap length b)) in
    let is : c.call-item.result ≡ get_or c.args.self.now.calls.items c.calls.call-index c.call-item.result = c.call-item.is ∙ ap (λ (l : List Call). get_or l c.calls.call-index c.call-item.result) c.deref-call-items.ensures.value in
    if_ok c.image.result _ _ (λ image made. exit_before c.args.self.now.start.items c.args.self.now.calls.items c.args.self.now.idle c.calls.call-index c.calls.clock c.args.choice.now.moment c.call-item.result c.calls.view c.args.choice.now.fill c.args.choice.now.size image.items c.calls.invariant lt is c.if-choice-before.true made) c.image.ensures

pub returns-then-choice-before-2 : goal.returns-then-choice-before-2
returns-then-choice-before-2 c =
    let lt : c.calls.call-index < length c.args.self.now.calls.items = (let a = c.calls-test.true in let b = c.deref-call-items.ensures.value in omega (arith, a, ap length b)) in
    let is : c.call-item.result ≡ get_or c.args.self.now.calls.items c.calls.call-index c.call-item.result = c.call-item.is ∙ ap (λ (l : List Call). get_or l c.calls.call-index c.call-item.result) c.deref-call-items.ensures.value in
    if_ok c.image-then-choice-before-2.result _ _ (λ image made. exit_within c.args.self.now.start.items c.args.self.now.calls.items c.args.self.now.idle c.calls.call-index c.calls.clock c.args.choice.now.moment c.call-item.result c.calls.view c.args.choice.now.fill c.args.choice.now.size image.items c.calls.invariant lt is ((c.is_sync.ensures).0 c.if-is_sync.true) c.if-choice-before-2.true made) c.image-then-choice-before-2.ensures

pub calls-preserved : goal.calls-preserved
calls-preserved c =
    let lt : c.calls.call-index < length c.args.self.now.calls.items = (let a = c.calls-test.true in let b = c.deref-call-items.ensures.value in omega (arith, a, ap length b)) in
    let is : c.call-item.result ≡ get_or c.args.self.now.calls.items c.calls.call-index c.call-item.result = c.call-item.is ∙ ap (λ (l : List Call). get_or l c.calls.call-index c.call-item.result) c.deref-call-items.ensures.value in
    at_next c.args.self.now.start.items c.args.self.now.calls.items c.calls.call-index c.calls.clock c.args.choice.now.moment c.call-item.result c.calls.view c.in_ok-view-2.view
    c.calls.invariant lt is (let a = c.if-choice-before.false in omega (arith, a)) (λ kind same. elim c.else-is_sync.branch [
      | else-is_sync-via-then-is_sync+else-choice-before-2 w ↦ w.if-choice-before-2.false same
      | else-is_sync-via-else-is_sync w ↦ true≢false (sym (c.is_sync.ensures.1 kind) ∙ w.if-is_sync.false)
    ]) c.in_ok-view-2.ensures

pub returns : goal.returns
returns c =
    let end = (let a = c.calls-test.false in let b = c.deref-call-items.ensures.value in a) in
    if_ok c.image-2.result _ _ (λ image made. exit_behind c.args.self.now.start.items c.args.self.now.calls.items c.args.self.now.idle c.calls.call-index c.calls.clock c.args.choice.now.moment c.calls.view c.args.choice.now.fill c.args.choice.now.size image.items c.calls.invariant (let b = ap length c.deref-call-items.ensures.value in omega (arith, end, b)) c.requires made) c.image-2.ensures
