-- What is still to come of who is served at the other end, where it was asked ahead.
use Rattle.std.proofs.Common.{◌≡◌, ◌≤◌, ◌<◌, ◌^◌, ◌⊎◌, inr, ⊎_elim, ℕ, Bool, false, List, [], ◌∷◌, ◌++◌, length, take, Option, Some, None, Ok, Err, refl, sym, ap, subst, ◌∙◌, append_assoc, append-nil}
use Rattle.std.specs.Prelude.{is_some, IfSome}
use Rattle.std.specs.declared.result.Result.{Result}
use Rattle.outside.specs.Told.{WhereTold}
use Rattle.id_groups.specs.Name.{Name}
use Rattle.commit_graph.specs.World.{Row}
use Rattle.remote_rules.specs.CloneData.{CloneData}
use Rattle.remote_rules.specs.Mirror.{Mirror}
use Rattle.remote_trait.specs.Honest.{AreNamesOf}
use Rattle.remote_trait.specs.Runs.{Run}
use Rattle.remote_trait.specs.declared.fault.RemoteFault.{RemoteFault}
use Rattle.remote_trait.specs.declared.fault.RemoteFault.TheVariants as remote
use Rattle.remote_serve.specs.Frames.{frame}
use Rattle.remote_serve.specs.Requests.{IsRequest}
use Rattle.remote_serve.specs.Answers.{Answer, Named, LeftBy, answer_bytes, frame_of, longest_answer, IsAnswer}
use Rattle.remote_pipe.specs.Peer.{Peer, request_frame, PutsWhole, PutsFront}
use Rattle.remote_pipe.specs.Exchange.{Took}
use Rattle.remote_pipe.specs.Line.{PlainLine, Keeps, CountsOne, AwaitsNothing, served_by}
use Rattle.remote_pipe.specs.Remote.{mirror_by}
use Rattle.remote_pipe.specs.Ahead.{request_of, AsksAhead, AsksBehind, BreaksAt, PutsAll, TookAhead, StopsAhead, Stopping, FailingAhead, TakesAhead, Passes, WasAllowed, AreToCome, AwaitsOf, Awaits}
use Rattle.remote_pipe.specs.declared.fault.PipeFault.{PipeFault}
use Rattle.remote_pipe.specs.declared.fault.PipeFault.TheVariants.{NotPut, NotTaken, Ended, BadLength, NoAnswer, Memory}
use Rattle.remote_pipe.proofs.Framing.{one-frame, one-framed, short-frame, allowed-short, served-put}
use Rattle.remote_pipe.proofs.Mirrors.{Stands, names-stands, stands-self, stands-then}

unserved-awaits : (runs : List Run) (left : List ℕ) (n : Option Mirror) → is_some n ≡ false → AwaitsOf runs left n
unserved-awaits runs left None e = tt
unserved-awaits runs left (Some n) e = absurd cc

none-served : (n : Option Mirror) → is_some n ≡ false → n ≡ None
none-served None e = refl
none-served (Some n) e = absurd cc

pub awaits-nothing : (p : Option Peer) → Awaits [] p → AwaitsNothing p
awaits-nothing None h = tt
awaits-nothing (Some x) h = by x.mirror h
  where
    by : (m : Option Mirror) → AwaitsOf [] x.left m → IfSome m (λ _. x.left ≡ [])
    by None h = tt
    by (Some m) h = h

pub nothing-awaits : (p : Option Peer) → AwaitsNothing p → Awaits [] p
nothing-awaits None h = tt
nothing-awaits (Some x) h = by x.mirror h
  where
    by : (m : Option Mirror) → IfSome m (λ _. x.left ≡ []) → AwaitsOf [] x.left m
    by None h = tt
    by (Some m) h = h

-- ---- a frame that is taken

short-answer : (m : Mirror) (run : Run) (answer : Answer) → WasAllowed m run answer → length (answer_bytes answer) ≤ longest_answer
short-answer m run answer w = allowed-short (request_of run) w.before w.after answer w.allows

-- what is to come behind it
behind-frame : (run : Run) (more : List Run) (body : List ℕ) (x y : Peer) (m : Mirror) → length body < 2 ^ 32 → Took (frame body) x y → AreToCome m (run ∷ more) x.left → AreToCome m more y.left
behind-frame run more body x y m len t h =
    let one = one-frame body (answer_bytes h.0) y.left h.1 len (short-frame (length (answer_bytes h.0)) (short-answer m run h.0 h.2)) (sym t.split ∙ h.3) in
    subst (λ (l : List ℕ). AreToCome m more l) (sym one.1) h.4

frame-awaits : (run : Run) (more : List Run) (body : List ℕ) (x y : Peer) → length body < 2 ^ 32 → Took (frame body) x y → AwaitsOf (run ∷ more) x.left x.mirror → AwaitsOf more y.left y.mirror
frame-awaits run more body x y len t h = subst (λ (o : Option Mirror). AwaitsOf more y.left o) (sym t.mirror) (by x.mirror h)
  where
    by : (m : Option Mirror) → AwaitsOf (run ∷ more) x.left m → AwaitsOf more y.left m
    by None h = tt
    by (Some m) h = behind-frame run more body x y m len t h

pub taken-allowed : (run : Run) (more : List Run) (answer : Answer) (x y : Peer) (m : Mirror) → IsAnswer answer → length (answer_bytes answer) ≤ longest_answer
    → x.mirror ≡ Some m → AreToCome m (run ∷ more) x.left → Took (frame_of answer) x y → (y.mirror ≡ Some m) × WasAllowed m run answer × AreToCome m more y.left
taken-allowed run more answer x y m is short e h t =
    let one = one-framed answer h.0 y.left h.1 is h.2.is short (short-answer m run h.0 h.2) (sym t.split ∙ h.3) in
    (t.mirror ∙ e, subst (λ (a : Answer). WasAllowed m run a) (sym one.0) h.2, subst (λ (l : List ℕ). AreToCome m more l) (sym one.1) h.4)

-- ---- a run that is put

moved : (m n : Mirror) (run : Run) (answer : Answer) → n.master ≡ m.master → n.cloned ≡ m.cloned → n.settled ≡ m.settled → WasAllowed m run answer → WasAllowed n run answer
moved m n run answer e f g w = record {
  before = w.before;
  after = w.after;
  is = w.is;
  leaves = w.leaves;
  allows = w.allows;
  master = w.master ∙ sym e;
  cloned = w.cloned ∙ sym f;
  settled = w.settled ∙ sym g;
}

come-more : (m n : Mirror) (runs : List Run) (run : Run) (left : List ℕ) (answer : Answer) → n.master ≡ m.master → n.cloned ≡ m.cloned → n.settled ≡ m.settled → AreToCome m runs left → WasAllowed n run answer
    → AreToCome n (runs ++ run ∷ []) (left ++ frame_of answer)
come-more m n [] run left answer e f g h w = (answer, [], w, ap (λ (l : List ℕ). l ++ frame_of answer) h ∙ sym (append-nil (frame_of answer)), refl)
come-more m n (r ∷ runs) run left answer e f g h w = (
  h.0,
  h.1 ++ frame_of answer,
  moved m n r h.0 e f g h.2,
  ap (λ (l : List ℕ). l ++ frame_of answer) h.3 ∙ append_assoc (frame_of h.0) h.1 (frame_of answer),
  come-more m n runs run h.1 answer e f g h.4 w,
)

pub put-allowed : (run : Run) (runs : List Run) (x y : Peer) (m : Mirror) → IsRequest (request_of run) → x.mirror ≡ Some m → AreToCome m runs x.left → PutsWhole (request_frame (request_of run)) x y
    → (n : Mirror) × (y.mirror ≡ Some n) × LeftBy (request_of run) m n × AreToCome n (runs ++ run ∷ []) y.left
put-allowed run runs x y m is e h p =
    let s = served-put (request_of run) m y.mirror x.mirror p.came is e p.brings in
    let l = s.2.0 in
    let answer = s.2.1 in
    let w : WasAllowed s.0 run answer = record { before = m; after = s.0; is = s.2.2; leaves = l; allows = s.2.3; master = sym l.master; cloned = sym l.cloned; settled = sym l.settled } in
    let came : y.left ≡ x.left ++ frame_of answer = p.left ∙ ap (λ (l : List ℕ). x.left ++ l) s.2.4 in
    (s.0, s.1, l, subst (λ (l : List ℕ). AreToCome s.0 (runs ++ run ∷ []) l) (sym came) (come-more m s.0 runs run x.left answer l.master l.cloned l.settled h w))

put-awaits : (run : Run) (runs : List Run) (x y : Peer) → IsRequest (request_of run) → is_some y.mirror ≡ is_some x.mirror → PutsWhole (request_frame (request_of run)) x y → AwaitsOf runs x.left x.mirror → AwaitsOf (runs ++ run ∷ []) y.left y.mirror
put-awaits run runs x y is kept p h = by x.mirror refl h
  where
    by : (m : Option Mirror) → x.mirror ≡ m → AwaitsOf runs x.left m → AwaitsOf (runs ++ run ∷ []) y.left y.mirror
    by None e h = unserved-awaits (runs ++ run ∷ []) y.left y.mirror (kept ∙ ap (λ (o : Option Mirror). is_some o) e)
    by (Some m) e h = let n = put-allowed run runs x y m is e h p in subst (λ (o : Option Mirror). AwaitsOf (runs ++ run ∷ []) y.left o) (sym n.1) n.3

put-stands : (run : Run) (x y : Peer) → IsRequest (request_of run) → is_some y.mirror ≡ is_some x.mirror → PutsWhole (request_frame (request_of run)) x y → Stands x.mirror y.mirror
put-stands run x y is kept p = by x.mirror refl
  where
    by : (m : Option Mirror) → x.mirror ≡ m → Stands x.mirror y.mirror
    by None e = subst (λ (o : Option Mirror). Stands o y.mirror) (sym e) (subst (λ (o : Option Mirror). Stands None o) (sym (none-served y.mirror (kept ∙ ap (λ (o : Option Mirror). is_some o) e))) tt)
    by (Some m) e =
        let s = served-put (request_of run) m y.mirror x.mirror p.came is e p.brings in
        subst (λ (o : Option Mirror). Stands o y.mirror) (sym e) (subst (λ (o : Option Mirror). Stands (Some m) o) (sym s.1) (names-stands run.from run.back run.count (Some m) (Some s.0) (inr s.2.0)))

-- ---- where the link tells

told-take : (run : Run) (more : List Run) (body : List ℕ) (p q : Option Peer) → length body < 2 ^ 32 → is_some (served_by q) ≡ is_some (served_by p) → WhereTold p q (Took (frame body)) → Awaits (run ∷ more) p → Awaits more q
told-take run more body None None len kept w h = tt
told-take run more body None (Some y) len kept w h = unserved-awaits more y.left y.mirror kept
told-take run more body (Some x) None len kept w h = absurd w
told-take run more body (Some x) (Some y) len kept w h = frame-awaits run more body x y len w h

told-put : (run : Run) (runs : List Run) (p q : Option Peer) → IsRequest (request_of run) → is_some (served_by q) ≡ is_some (served_by p) → WhereTold p q (PutsWhole (request_frame (request_of run))) → Awaits runs p → Awaits (runs ++ run ∷ []) q
told-put run runs None None is kept w h = tt
told-put run runs None (Some y) is kept w h = unserved-awaits (runs ++ run ∷ []) y.left y.mirror kept
told-put run runs (Some x) None is kept w h = absurd w
told-put run runs (Some x) (Some y) is kept w h = put-awaits run runs x y is kept w h

told-stands : (run : Run) (p q : Option Peer) → IsRequest (request_of run) → is_some (served_by q) ≡ is_some (served_by p) → WhereTold p q (PutsWhole (request_frame (request_of run))) → Stands (served_by p) (served_by q)
told-stands run None None is kept w = tt
told-stands run None (Some y) is kept w = subst (λ (o : Option Mirror). Stands None o) (sym (none-served y.mirror kept)) tt
told-stands run (Some x) None is kept w = absurd w
told-stands run (Some x) (Some y) is kept w = put-stands run x y is kept w

same-served : (P : Peer → Peer → Type 0) (p q : Option Peer) → ((x y : Peer) → P x y → y.mirror ≡ x.mirror) → is_some (served_by q) ≡ is_some (served_by p) → WhereTold p q P → served_by q ≡ served_by p
same-served P None None f kept w = refl
same-served P None (Some y) f kept w = none-served y.mirror kept
same-served P (Some x) None f kept w = absurd w
same-served P (Some x) (Some y) f kept w = f x y w

peer-served : (p q : Option Peer) → q ≡ p → served_by q ≡ served_by p
peer-served p q e = ap (λ (o : Option Peer). served_by o) e

stops-mirror : (fault : PipeFault) (run : Run) (x y : Peer) → StopsAhead fault (request_of run) x y → y.mirror ≡ x.mirror
stops-mirror NotPut run x y s = absurd s
stops-mirror NotTaken run x y s = s.1.mirror
stops-mirror Ended run x y s = s.1.mirror
stops-mirror BadLength run x y s = s.3.mirror
stops-mirror NoAnswer run x y s = s.1.mirror
stops-mirror Memory run x y s = s.1.mirror

-- ---- an answer that is taken, whatever becomes of it

-- no more is asked
abbrev pub IsStuck : PlainLine → Type 0
IsStuck line = line.stopped ≡ None → ⊥

stuck-some : (o : Option PipeFault) (fault : PipeFault) → o ≡ Some fault → o ≡ None → ⊥
stuck-some o fault e f = cc

took-served : (answer : Answer) (before now : PlainLine) → Keeps before now → TookAhead answer before now → served_by now.peer ≡ served_by before.peer
took-served answer before now k t = same-served (Took (frame_of answer)) before.peer now.peer (λ x y h. h.mirror) k.served t.took

took-awaits : (run : Run) (more : List Run) (answer : Answer) (before now : PlainLine) → Keeps before now → TookAhead answer before now → Awaits (run ∷ more) before.peer → Awaits more now.peer
took-awaits run more answer before now k t h =
    told-take run more (answer_bytes answer) before.peer now.peer (short-frame (length (answer_bytes answer)) t.short) k.served t.took h

stopping-served : (run : Run) (before now : PlainLine) (was is : Option PipeFault) → Keeps before now → Stopping (request_of run) before now was is → served_by now.peer ≡ served_by before.peer
stopping-served run before now (Some fault) is k s = peer-served before.peer now.peer s.1
stopping-served run before now None (Some fault) k s = same-served (StopsAhead fault (request_of run)) before.peer now.peer (λ x y h. stops-mirror fault run x y h) k.served s.1
stopping-served run before now None None k s = absurd s

stopping-stuck : (run : Run) (before now : PlainLine) (was is : Option PipeFault) → Stopping (request_of run) before now was is → is ≡ None → ⊥
stopping-stuck run before now (Some fault) is s e = stuck-some is fault s.0 e
stopping-stuck run before now None (Some fault) s e = absurd cc
stopping-stuck run before now None None s e = absurd s

failing-served : (run : Run) (before now : PlainLine) (was is : Option PipeFault) → Keeps before now → FailingAhead (request_of run) before now was is → served_by now.peer ≡ served_by before.peer
failing-served run before now (Some fault) is k s = stopping-served run before now (Some fault) is k s
failing-served run before now None (Some fault) k s = stopping-served run before now None (Some fault) k s
failing-served run before now None None k s = took-served s.0 before now k s.2

failing-awaits : (run : Run) (more : List Run) (before now : PlainLine) (was is : Option PipeFault) → Keeps before now → (was ≡ None → Awaits (run ∷ more) before.peer) → FailingAhead (request_of run) before now was is → is ≡ None → Awaits more now.peer
failing-awaits run more before now (Some fault) is k h s e = absurd (stopping-stuck run before now (Some fault) is s e)
failing-awaits run more before now None (Some fault) k h s e = absurd cc
failing-awaits run more before now None None k h s e = took-awaits run more s.0 before now k s.2 (h refl)

memory-served : (run : Run) (before now : PlainLine) → Keeps before now → WhereTold before.peer now.peer (StopsAhead Memory (request_of run)) → served_by now.peer ≡ served_by before.peer
memory-served run before now k w = same-served (StopsAhead Memory (request_of run)) before.peer now.peer (λ x y h. stops-mirror Memory run x y h) k.served w

-- ---- names of it

pub takes-served : (run : Run) (out : List Name) (before now : PlainLine) (result : Result ℕ RemoteFault) → TakesAhead (request_of run) out before now result → served_by now.peer ≡ served_by before.peer
takes-served run out before now (Ok n) t = took-served (Named (take n out)) before now t.keeps t.ends.4
takes-served run out before now (Err remote.Failed) t = failing-served run before now before.stopped now.stopped t.keeps t.ends.1
takes-served run out before now (Err remote.Memory) t = memory-served run before now t.keeps t.ends.3

pub takes-awaits : (run : Run) (more : List Run) (out : List Name) (before now : PlainLine) (result : Result ℕ RemoteFault) → (before.stopped ≡ None → Awaits (run ∷ more) before.peer) → TakesAhead (request_of run) out before now result
    → now.stopped ≡ None → Awaits more now.peer
takes-awaits run more out before now (Ok n) h t e = took-awaits run more (Named (take n out)) before now t.keeps t.ends.4 (h t.ends.0)
takes-awaits run more out before now (Err remote.Failed) h t e = failing-awaits run more before now before.stopped now.stopped t.keeps h t.ends.1 e
takes-awaits run more out before now (Err remote.Memory) h t e = absurd (stuck-some now.stopped Memory t.ends.1 e)

pub takes-right : (run : Run) (more : List Run) (out : List Name) (n : ℕ) (before now : PlainLine) (m : Mirror) → (before.stopped ≡ None → Awaits (run ∷ more) before.peer) → TakesAhead (request_of run) out before now (Ok n)
    → served_by before.peer ≡ Some m → IfSome m.master (λ rows. AreNamesOf rows run.from run.back run.count (take n out))
takes-right run more out n before now m h t e = told before.peer now.peer (h t.ends.0) t.ends.4.took e
  where
    told : (p q : Option Peer) → Awaits (run ∷ more) p → WhereTold p q (Took (frame_of (Named (take n out)))) → served_by p ≡ Some m → IfSome m.master (λ rows. AreNamesOf rows run.from run.back run.count (take n out))
    told None q h w e = absurd cc
    told (Some x) None h w e = absurd w
    told (Some x) (Some y) h w e =
        let c = subst (λ (o : Option Mirror). AwaitsOf (run ∷ more) x.left o) e h in
        let k = t.ends.4 in
        let a = taken-allowed run more (Named (take n out)) x y m k.is_answer k.short e c w in
        subst (λ (o : Option (List (Row Name))). IfSome o (λ rows. AreNamesOf rows run.from run.back run.count (take n out))) a.1.master a.1.allows.0.1

-- ---- an answer that is passed

pub passes-served : (run : Run) (before now : PlainLine) (result : Result Unit RemoteFault) → Passes (request_of run) before now result → served_by now.peer ≡ served_by before.peer
passes-served run before now (Ok done) p = took-served p.ends.3 before now p.keeps p.ends.5
passes-served run before now (Err remote.Failed) p = stopping-served run before now before.stopped now.stopped p.keeps p.ends.1
passes-served run before now (Err remote.Memory) p = memory-served run before now p.keeps p.ends.3

pub passes-awaits : (run : Run) (more : List Run) (before now : PlainLine) → (before.stopped ≡ None → Awaits (run ∷ more) before.peer) → Passes (request_of run) before now (Ok tt) → now.stopped ≡ None → Awaits more now.peer
passes-awaits run more before now h p e = took-awaits run more p.ends.3 before now p.keeps p.ends.5 (h p.ends.0)

pub passes-stuck : (run : Run) (before now : PlainLine) (fault : RemoteFault) → Passes (request_of run) before now (Err fault) → IsStuck now
passes-stuck run before now remote.Failed p = stopping-stuck run before now before.stopped now.stopped p.ends.1
passes-stuck run before now remote.Memory p = stuck-some now.stopped Memory p.ends.1

pub passes-counted : (run : Run) (before now : PlainLine) (fault : RemoteFault) → Passes (request_of run) before now (Err fault) → fault ≡ remote.Failed → CountsOne before now
passes-counted run before now remote.Failed p e = p.ends.0
passes-counted run before now remote.Memory p e = absurd cc

-- ---- runs that are put

-- what is told is told still, and what awaits is what was asked
pub record IsAsked (queue : List Run) (before now : PlainLine) : Type 0 where
  pub awaits : now.stopped ≡ None → Awaits queue now.peer
  pub stands : Stands (served_by before.peer) (served_by now.peer)
  pub faults : now.faults ≡ before.faults

one-asked : (run : Run) (queue : List Run) (before now : PlainLine) → (before.stopped ≡ None → Awaits queue before.peer) → AsksAhead run before now → IsAsked (queue ++ run ∷ []) before now
one-asked run queue before now h a = record {
  awaits = λ e. told-put run queue before.peer now.peer a.0 a.2.0.served a.2.3 (h a.1);
  stands = told-stands run before.peer now.peer a.0 a.2.0.served a.2.3;
  faults = a.2.2;
}

behind-asked : (put queue : List Run) (before now : PlainLine) → (before.stopped ≡ None → Awaits queue before.peer) → AsksBehind put before now → IsAsked (queue ++ put) before now
behind-asked [] queue before now h a =
    subst (λ (l : PlainLine). IsAsked (queue ++ []) before l) (sym a) (record {
      awaits = subst (λ (q : List Run). before.stopped ≡ None → Awaits q before.peer) (sym (append-nil queue)) h;
      stands = stands-self (served_by before.peer);
      faults = refl;
    })
behind-asked (run ∷ more) queue before now h a =
    let first = one-asked run queue before a.0 h a.1 in
    let others = behind-asked more (queue ++ run ∷ []) a.0 now first.awaits a.2 in
    record {
      awaits = subst (λ (q : List Run). now.stopped ≡ None → Awaits q now.peer) (append_assoc queue (run ∷ []) more) others.awaits;
      stands = stands-then (served_by before.peer) (served_by a.0.peer) (served_by now.peer) first.stands others.stands;
      faults = others.faults ∙ first.faults;
    }

pub same-stands : (m n : Option Mirror) → n ≡ m → Stands m n
same-stands m n e = subst (λ (o : Option Mirror). Stands m o) (sym e) (stands-self m)

broken-asked : (run : Run) (queue : List Run) (before now : PlainLine) → BreaksAt run before now → IsAsked queue before now
broken-asked run queue before now b = record {
  awaits = λ e. absurd (stuck-some now.stopped NotPut b.2.1 e);
  stands = same-stands (served_by before.peer) (served_by now.peer) (same-served (PutsFront (request_frame (request_of run))) before.peer now.peer (λ x y h. h.mirror) b.2.0.served b.2.4);
  faults = b.2.2;
}

pub all-asked : (runs queue later : List Run) (before now : PlainLine) → (before.stopped ≡ None → Awaits queue before.peer) → PutsAll runs queue before later now → IsAsked later before now
all-asked runs queue later before now h p =
    let a = behind-asked p.put queue before p.mid h p.asks in
    ⊎_elim (λ e. subst (λ (l : PlainLine). IsAsked later before l) (sym e.0) (subst (λ (q : List Run). IsAsked q before p.mid) (sym e.1) a))
    (λ b. (let c = broken-asked b.0 later p.mid now b.3 in record {
      awaits = c.awaits;
      stands = stands-then (served_by before.peer) (served_by p.mid.peer) (served_by now.peer) a.stands c.stands;
      faults = c.faults ∙ a.faults;
    })) p.end

-- what it shows as a mirror is the same
pub stands-shown : (m n : Option Mirror) (f f' a : ℕ) → Stands m n → f' ≡ f → mirror_by n f' a ≡ mirror_by m f a
stands-shown None None f f' a s e = ap (λ (k : ℕ). mirror_by None k a) e
stands-shown None (Some n) f f' a s e = absurd s
stands-shown (Some m) None f f' a s e = absurd s
stands-shown (Some m) (Some n) f f' a s e =
    ap (λ (r : Option (List (Row Name))). (let k : Mirror = record { master = r; cloned = n.cloned; settled = n.settled; to_come = None; faults = f'; asked = a } in k)) s.0
    ∙ ap (λ (r : Option CloneData). (let k : Mirror = record { master = m.master; cloned = r; settled = n.settled; to_come = None; faults = f'; asked = a } in k)) s.1
    ∙ ap (λ (r : Bool). (let k : Mirror = record { master = m.master; cloned = m.cloned; settled = r; to_come = None; faults = f'; asked = a } in k)) s.2
    ∙ ap (λ (r : ℕ). (let k : Mirror = record { master = m.master; cloned = m.cloned; settled = m.settled; to_come = None; faults = r; asked = a } in k)) e
