use Rattle.std.proofs.Common.{ℕ, ◌≡◌, List, Some, None, Ok, Err, sym, ap, subst}
use Rattle.outside.specs.Counts.{Rose}
use Rattle.outside.proofs.ToldLemmas.{WhereTold-both, WhereTold-map}
use Rattle.disk_trait.specs.Images.{Told, IsSound}
use Rattle.disk_trait.proofs.Telling.{goes-told, if_forth}
use Rattle.gated_log.specs.Holding.{IsOnDisk}
use Rattle.line_io.specs.Next.{NextLine, IsLine, IsReadOut}
use Rattle.line_io.specs.Reading.{is_over}
use Rattle.dag_run.specs.Seen.{seen}
use Rattle.dag_run.specs.Lines.{LineLeaves, LineReplies}
use Rattle.dag_run.proofs.Doing.{ready-line}
use Rattle.dag_run.proofs.Seeing.{Each, seen-each, sound-told, same-told, rose-since}
use Rattle.dag_run.proofs.Going.{going-as, going-line}
use Rattle.dag_run.proofs.Ending.{means-as, going-end, going-fault, going-stop}
use Rattle.dag_run.proofs.Statuses.{fault-answers, line-answers}
use Rattle.dag_run.proofs.Over.{fault-over, line-over}
use Rattle.dag_store.specs.Kept.{PlainStore}
use Rattle.dag_run.proofs.program.answer_next.Goals as goal

pub returns-in-Err-clause-means : goal.returns-in-Err-clause-means
returns-in-Err-clause-means g c = λ limits w payloads room first faults fair same le.
    let fault = c.in-Err.fault in
    let failed : Type 0 = Rose faults (g.O.Sink.faults c.args.output.now) in
    let e = g.D.Disk.told c.args.reach.disk.now in
    let j = g.I.Source.left c.args.input.now in let k = g.I.Source.left c.next.new.source in
    let q = g.O.Sink.taken c.args.output.now in
    let Q : Told → Told → Type 0 = λ x y. (y ≡ x) × IsSound x in
    let L : List ℕ → List ℕ → Type 0 = λ x y. NextLine (Err fault) c.args.lines.now x c.next.new.self y in
    rw c.fail_run.ensures (WhereTold-map (seen e j q) (seen e k q) (Each Q L (λ x y. y ≡ x)) _
    (λ y z t before begins h. going-fault limits fair w payloads room first failed before begins _ c.args.store c.args.reach.changes.now.items c.args.lines.now c.next.new.self y z h fault t.disk.0 t.disk.1 t.taken t.left)
    (seen-each e e j k q q Q L (λ x y. y ≡ x) (sound-told e (g.met.D.Disk.sound c.args.reach.disk.now)) c.in-Err.ensures.line (same-told q)))

pub returns-in-Err-clause-stop : goal.returns-in-Err-clause-stop
returns-in-Err-clause-stop g c =
    rw c.fail_run.ensures (fault-answers c.in-Err.fault)

pub returns-in-Err-execute-clause-means : goal.returns-in-Err-execute-clause-means
returns-in-Err-execute-clause-means g c = λ limits w payloads room first faults fair same le.
    let store = c.args.store in
    let stop = c.in-Err-execute.stop in
    let kind = c.in-Ok-Some.kind in
    let old = c.args.lines.now in let new = c.next.new.self in
    let step = c.in-Err-execute.ensures in
    let failed : Type 0 = Rose faults (g.O.Sink.faults c.execute.new.output) in
    let here : Type 0 = Rose (g.O.Sink.faults c.args.output.now) (g.O.Sink.faults c.execute.new.output) in
    let e = g.D.Disk.told c.args.reach.disk.now in let f = g.D.Disk.told c.execute.new.reach.0 in
    let j = g.I.Source.left c.args.input.now in let k = g.I.Source.left c.next.new.source in
    let q = g.O.Sink.taken c.args.output.now in let r = g.O.Sink.taken c.execute.new.output in
    let Q : Told → Told → Type 0 = LineLeaves store step.payload step.clock (Err stop) in
    let L : List ℕ → List ℕ → Type 0 = λ x y. NextLine (Ok (Some kind)) old x new y × (IsReadOut old x → IsReadOut new y) in
    let T : List ℕ → List ℕ → Type 0 = λ x y. (line : List ℕ) → IsLine kind c.text.result.now line → LineReplies _ _ here store line step.payload step.clock (Err stop) x y in
    let left = WhereTold-both j k (λ x y. NextLine (Ok (Some kind)) old x new y) (λ x y. IsReadOut old x → IsReadOut new y) L (λ x y a b. (a, b)) (rw c.in-Ok-Some.field-0-is at c.in-Ok-Some.ensures.line) c.in-Ok-Some.ensures.end in
    (WhereTold-map (seen e j q) (seen f k r) (Each Q L T) _
    (λ y z t before begins h. means-as limits w payloads room _ _ failed (Err stop) _ _ before z step.noted
    (going-stop limits fair w payloads room first failed before begins _ store c.args.reach.changes.now.items old new y z h _ kind step.payload step.clock same t.left.0 t.left.1 here
    (rose-since faults (g.O.Sink.faults c.args.output.now) (g.O.Sink.faults c.execute.new.output) le) stop
    (λ l is. t.taken l (subst (λ text. IsLine kind text l) (sym c.text.ensures) is)) t.disk))
    (seen-each e f j k q r Q L T (goes-told Q e f step.leaves) left step.tells))

pub returns-in-Err-execute-clause-stop : goal.returns-in-Err-execute-clause-stop
returns-in-Err-execute-clause-stop g c =
    (line-answers c.in-Err-execute.stop c.in-Err-execute.ensures.ends.stop)

pub returns-in-Ok-clause-means : goal.returns-in-Ok-clause-means
returns-in-Ok-clause-means g c = λ limits w payloads room first faults fair same le.
    let store = c.args.store in
    let next = c.in-Ok.next in
    let kind = c.in-Ok-Some.kind in
    let old = c.args.lines.now in let new = c.next.new.self in
    let step = c.in-Ok.ensures in
    let here : Type 0 = Rose (g.O.Sink.faults c.args.output.now) (g.O.Sink.faults c.execute.new.output) in
    let e = g.D.Disk.told c.args.reach.disk.now in let f = g.D.Disk.told c.execute.new.reach.0 in
    let j = g.I.Source.left c.args.input.now in let k = g.I.Source.left c.next.new.source in
    let q = g.O.Sink.taken c.args.output.now in let r = g.O.Sink.taken c.execute.new.output in
    let Q : Told → Told → Type 0 = LineLeaves store step.payload step.clock (Ok next) in
    let L : List ℕ → List ℕ → Type 0 = λ x y. NextLine (Ok (Some kind)) old x new y × (IsReadOut old x → IsReadOut new y) in
    let T : List ℕ → List ℕ → Type 0 = λ x y. (line : List ℕ) → IsLine kind c.text.result.now line → LineReplies _ _ here store line step.payload step.clock (Ok next) x y in
    let left = WhereTold-both j k (λ x y. NextLine (Ok (Some kind)) old x new y) (λ x y. IsReadOut old x → IsReadOut new y) L (λ x y a b. (a, b)) (rw c.in-Ok-Some.field-0-is at c.in-Ok-Some.ensures.line) c.in-Ok-Some.ensures.end in
    WhereTold-map (seen e j q) (seen f k r) (Each Q L T) _
    (λ y z t before begins h. going-as limits w payloads room _ _ next _ _ new before z step.noted
    (going-line limits fair w payloads room _ _ _ before y z begins store c.args.reach.changes.now.items old new kind step.payload step.clock same h t.left.0 t.left.1 next here
    (λ l is. t.taken l (subst (λ text. IsLine kind text l) (sym c.text.ensures) is)) t.disk))
    (seen-each e f j k q r Q L T (goes-told Q e f step.leaves) left step.tells)

pub returns-in-Ok-clause-ready : goal.returns-in-Ok-clause-ready
returns-in-Ok-clause-ready g c =
    let store = c.args.store in
    let next = c.in-Ok.next in
    let step = c.in-Ok.ensures in
    if_forth (LineLeaves store step.payload step.clock (Ok next)) (IsOnDisk store.log) (IsOnDisk next.log) (g.D.Disk.told c.args.reach.disk.now) (g.D.Disk.told c.execute.new.reach.0) (ready-line store next step.payload step.clock) step.leaves c.requires.ready

pub returns-in-Ok-None-clause-means : goal.returns-in-Ok-None-clause-means
returns-in-Ok-None-clause-means g c = λ limits w payloads room first faults fair same le.
    let failed : Type 0 = Rose faults (g.O.Sink.faults c.args.output.now) in
    let old = c.args.lines.now in let new = c.next.new.self in
    let e = g.D.Disk.told c.args.reach.disk.now in
    let j = g.I.Source.left c.args.input.now in let k = g.I.Source.left c.next.new.source in
    let q = g.O.Sink.taken c.args.output.now in
    let ended = (c.in-Ok-None.ensures.done (ap Ok c.in-Ok-None.field-0-is)).ended in
    let Q : Told → Told → Type 0 = λ x y. (y ≡ x) × IsSound x in
    let L : List ℕ → List ℕ → Type 0 = λ x y. NextLine (Ok None) old x new y × (IsReadOut old x → IsReadOut new y) in
    let left = WhereTold-both j k (λ x y. NextLine (Ok None) old x new y) (λ x y. IsReadOut old x → IsReadOut new y) L (λ x y a b. (a, b)) (rw c.in-Ok-None.field-0-is at c.in-Ok-None.ensures.line) c.in-Ok-None.ensures.end in
    rw c.end_run.ensures (WhereTold-map (seen e j q) (seen e k q) (Each Q L (λ x y. y ≡ x)) _
    (λ y z t before begins h. going-end limits fair w payloads room first failed before begins _ c.args.store c.args.reach.changes.now.items old new y z h t.disk.0 t.disk.1 t.taken t.left.0 (t.left.1 h.reads.out ended))
    (seen-each e e j k q q Q L (λ x y. y ≡ x) (sound-told e (g.met.D.Disk.sound c.args.reach.disk.now)) left (same-told q)))

pub returns-in-Err-clause-over : goal.returns-in-Err-clause-over
returns-in-Err-clause-over g c =
    let old = c.args.lines.now in let new = c.next.new.self in
    rw c.fail_run.ensures (WhereTold-map (g.I.Source.left c.args.input.now) (g.I.Source.left c.next.new.source) (λ x y. NextLine (Err c.in-Err.fault) old x new y) _
    (λ x y h. fault-over PlainStore c.in-Err.fault old new x y h) c.in-Err.ensures.line)

pub returns-in-Ok-clause-over : goal.returns-in-Ok-clause-over
returns-in-Ok-clause-over g c =
    let old = c.args.lines.now in let new = c.next.new.self in
    WhereTold-map (g.I.Source.left c.args.input.now) (g.I.Source.left c.next.new.source) (λ x y. NextLine (Ok (Some c.in-Ok-Some.kind)) old x new y) _
    (λ x y h. h.3) (rw c.in-Ok-Some.field-0-is at c.in-Ok-Some.ensures.line)

pub returns-in-Ok-None-clause-over : goal.returns-in-Ok-None-clause-over
returns-in-Ok-None-clause-over g c =
    let old = c.args.lines.now in let new = c.next.new.self in
    rw c.end_run.ensures (WhereTold-map (g.I.Source.left c.args.input.now) (g.I.Source.left c.next.new.source) (λ x y. NextLine (Ok None) old x new y) _
    (λ x y h. h.1) (rw c.in-Ok-None.field-0-is at c.in-Ok-None.ensures.line))

pub returns-in-Err-execute-clause-over : goal.returns-in-Err-execute-clause-over
returns-in-Err-execute-clause-over g c =
    let old = c.args.lines.now in let new = c.next.new.self in
    WhereTold-map (g.I.Source.left c.args.input.now) (g.I.Source.left c.next.new.source) (λ x y. NextLine (Ok (Some c.in-Ok-Some.kind)) old x new y) _
    (λ x y h. line-over PlainStore c.in-Err-execute.stop c.in-Err-execute.ensures.ends.stop (is_over old x) (is_over new y)) (rw c.in-Ok-Some.field-0-is at c.in-Ok-Some.ensures.line)
