-- What comes of a frame that is taken of what was asked ahead.
use Rattle.std.proofs.Common.{◌≡◌, ◌⊎◌, ℕ, List, length, take, Option, Some, None, Ok, Err, Vec, refl, sym, ap, subst, ◌∙◌, arith}
use Rattle.std.specs.declared.result.Result.{Result}
use Rattle.std.specs.declared.alloc.Global.{Global}
use Rattle.outside.specs.Counts.{Rose}
use Rattle.outside.specs.Told.{WhereTold}
use Rattle.outside.proofs.ToldLemmas.{WhereTold-map}
use Rattle.id_groups.specs.Name.{Name}
use Rattle.segment_codec.proofs.Numbers.{IsBytes}
use Rattle.remote_trait.specs.declared.fault.RemoteFault.{RemoteFault}
use Rattle.remote_trait.specs.declared.fault.RemoteFault.TheVariants as remote
use Rattle.remote_serve.specs.Frames.{frame}
use Rattle.remote_serve.specs.Requests.{Request, ToNames}
use Rattle.remote_serve.specs.Answers.{Answer, Named, frame_of}
use Rattle.remote_pipe.specs.Answering.{Fits, IsRefusal, IsAnswerLength}
use Rattle.remote_pipe.specs.Reading.{answer_at}
use Rattle.remote_pipe.specs.Peer.{Peer}
use Rattle.remote_pipe.specs.Exchange.{Took}
use Rattle.remote_pipe.specs.Line.{PlainLine, Keeps, CountsOne}
use Rattle.remote_pipe.specs.Ahead.{TookAhead, StopsAhead, Stopping, FailingAhead, TakesAhead, Passes}
use Rattle.remote_pipe.specs.Steps.{AreBytes, Reads, TakesFrame, StopsTaken, GetsTaken, EndsRead, LetsBy, LeavesLink}
use Rattle.remote_pipe.specs.declared.fault.PipeFault.{PipeFault}
use Rattle.remote_pipe.specs.declared.fault.PipeFault.TheVariants.{NotPut, NotTaken, Ended, BadLength, NoAnswer, Memory}
use Rattle.remote_pipe.specs.declared.reading.ReadFault.{ReadFault}
use Rattle.remote_pipe.specs.declared.reading.ReadFault.TheVariants as read
use Rattle.remote_pipe.proofs.AnswerReads.{answer_takes}
use Rattle.remote_pipe.proofs.Asking.{trade-cause, cause-kept, counts-so, keeps-more, no-answers}

-- ---- no body

-- a line was stopped by this fault
pub record StopsTake (fault : PipeFault) (before mid now : PlainLine) (result : RemoteFault) : Type 0 where
  pub never : fault ≡ NotPut → ⊥
  pub going : before.stopped ≡ None
  pub faults : mid.faults ≡ before.faults
  pub cause : fault ≡ NotTaken → Rose before.take_faults mid.take_faults
  pub stops : WhereTold before.peer mid.peer (TakesFrame (Err fault))
  pub link : LeavesLink mid now
  pub stopped : now.stopped ≡ Some fault
  pub failed : (fault ≡ Memory → ⊥) → (result ≡ remote.Failed) × CountsOne mid now
  pub memory : fault ≡ Memory → (result ≡ remote.Memory) × (now.faults ≡ mid.faults)

told-taken : (fault : PipeFault) (before mid now : PlainLine) → LeavesLink mid now → WhereTold before.peer mid.peer (TakesFrame (Err fault)) → WhereTold before.peer now.peer (TakesFrame (Err fault))
told-taken fault before mid now l w = subst (λ (p : Option Peer). WhereTold before.peer p (TakesFrame (Err fault))) (sym l.peer) w

failed-taken : (fault : PipeFault) (before mid now : PlainLine) (result : RemoteFault) → (fault ≡ Memory → ⊥) → StopsTake fault before mid now result → GetsTaken before now (Err result)
failed-taken fault before mid now result never s =
    let f = s.failed never in
    let cause = cause-kept fault before mid now s.link (trade-cause fault before mid (λ e. absurd (s.never e)) s.cause) in
    subst (λ (r : RemoteFault). GetsTaken before now (Err r)) (sym f.0) (
      counts-so before mid now s.faults f.1,
      subst (λ (a : Option PipeFault). StopsTaken before now a now.stopped) (sym s.going)
          (subst (λ (b : Option PipeFault). StopsTaken before now None b) (sym s.stopped) (cause, told-taken fault before mid now s.link s.stops)),
    )

wanting-taken : (before mid now : PlainLine) (result : RemoteFault) → StopsTake Memory before mid now result → GetsTaken before now (Err result)
wanting-taken before mid now result s =
    let f = s.memory refl in
    subst (λ (r : RemoteFault). GetsTaken before now (Err r)) (sym f.0) (s.going, s.stopped, f.1 ∙ s.faults, told-taken Memory before mid now s.link s.stops)

pub taken-stopped : (fault : PipeFault) (before mid now : PlainLine) (result : RemoteFault) → StopsTake fault before mid now result → GetsTaken before now (Err result)
taken-stopped NotPut before mid now result s = absurd (s.never refl)
taken-stopped NotTaken before mid now result s = failed-taken NotTaken before mid now result (λ e. absurd cc) s
taken-stopped Ended before mid now result s = failed-taken Ended before mid now result (λ e. absurd cc) s
taken-stopped BadLength before mid now result s = failed-taken BadLength before mid now result (λ e. absurd cc) s
taken-stopped NoAnswer before mid now result s = failed-taken NoAnswer before mid now result (λ e. absurd cc) s
taken-stopped Memory before mid now result s = wanting-taken before mid now result s

-- ---- to who asked ahead

ahead-stop : (fault : PipeFault) (request : Request) (p q : Option Peer) → WhereTold p q (TakesFrame (Err fault)) → WhereTold p q (StopsAhead fault request)
ahead-stop NotPut request p q w = w
ahead-stop NotTaken request p q w = w
ahead-stop Ended request p q w = w
ahead-stop BadLength request p q w = w
ahead-stop NoAnswer request p q w = WhereTold-map p q (TakesFrame (Err NoAnswer)) (StopsAhead NoAnswer request) (λ x y z. absurd z) w
ahead-stop Memory request p q w = w

stopping-so : (request : Request) (before now : PlainLine) (was is : Option PipeFault) → StopsTaken before now was is → Stopping request before now was is
stopping-so request before now (Some fault) is s = s
stopping-so request before now None (Some fault) s = (s.0, ahead-stop fault request before.peer now.peer s.1)
stopping-so request before now None None s = absurd s

failing-ahead : (request : Request) (before now : PlainLine) (was is : Option PipeFault) → Stopping request before now was is → FailingAhead request before now was is
failing-ahead request before now (Some fault) is s = s
failing-ahead request before now None (Some fault) s = s
failing-ahead request before now None None s = absurd s

pub takes-fault : (request : Request) (out : List Name) (before now : PlainLine) (fault : RemoteFault) → Keeps before now → GetsTaken before now (Err fault) → TakesAhead request out before now (Err fault)
takes-fault request out before now remote.Failed k g =
    record { keeps = k; ends = (g.0, failing-ahead request before now before.stopped now.stopped (stopping-so request before now before.stopped now.stopped g.1)) }
takes-fault request out before now remote.Memory k g = record { keeps = k; ends = (g.0, g.1, g.2, ahead-stop Memory request before.peer now.peer g.3) }

pub passes-fault : (request : Request) (before now : PlainLine) (fault : RemoteFault) → Keeps before now → GetsTaken before now (Err fault) → Passes request before now (Err fault)
passes-fault request before now remote.Failed k g = record { keeps = k; ends = (g.0, stopping-so request before now before.stopped now.stopped g.1) }
passes-fault request before now remote.Memory k g = record { keeps = k; ends = (g.0, g.1, g.2, ahead-stop Memory request before.peer now.peer g.3) }

-- ---- a body

-- a body that was taken
pub record Took-body (body : List ℕ) (before mid : PlainLine) : Type 0 where
  pub keeps : Keeps before mid
  pub going : before.stopped ≡ None
  pub goes : mid.stopped ≡ None
  pub faults : mid.faults ≡ before.faults
  pub long : IsAnswerLength (length body)
  pub took : WhereTold before.peer mid.peer (Took (frame body))

body-so : (body : Vec ℕ Global) (before mid : PlainLine) → Keeps before mid → GetsTaken before mid (Ok body) → Took-body body.items before mid
body-so body before mid k g = record { keeps = k; going = g.0; goes = g.1; faults = g.2; long = g.3; took = g.4 }

took-ahead : (answer : Answer) (body : List ℕ) (before mid now : PlainLine) → Took-body body before mid → IsBytes body → now.peer ≡ mid.peer → answer_at body ≡ Some answer → TookAhead answer before now
took-ahead answer body before mid now g bytes p e =
    let t = answer_takes body answer bytes e in
    let few = g.long.1 in
    let size = ap (length {A = ℕ}) t.spelled in
    record {
      is_answer = t.is;
      short = omega (arith, few, size);
      took = subst (λ (o : Option Peer). WhereTold before.peer o (Took (frame_of answer))) (sym p)
          (subst (λ (l : List ℕ). WhereTold before.peer mid.peer (Took (frame l))) t.spelled g.took);
    }

failing-refused : (request : Request) (before now : PlainLine) (was is : Option PipeFault) → was ≡ None → is ≡ None → ((refusal : Answer) × IsRefusal refusal × TookAhead refusal before now) → FailingAhead request before now was is
failing-refused request before now was is w i t =
    subst (λ (a : Option PipeFault). FailingAhead request before now a is) (sym w) (subst (λ (b : Option PipeFault). FailingAhead request before now None b) (sym i) t)

stopping-now : (request : Request) (before now : PlainLine) (was is : Option PipeFault) → was ≡ None → is ≡ Some NoAnswer → WhereTold before.peer now.peer (StopsAhead NoAnswer request) → Stopping request before now was is
stopping-now request before now was is w i t =
    subst (λ (a : Option PipeFault). Stopping request before now a is) (sym w) (subst (λ (b : Option PipeFault). Stopping request before now None b) (sym i) (tt, t))

none-told : (request : Request) (body : List ℕ) (before mid now : PlainLine) → Took-body body before mid → now.peer ≡ mid.peer
    → ((answer : Answer) → answer_at body ≡ Some answer → (Fits request answer ⊎ IsRefusal answer) → ⊥) → WhereTold before.peer now.peer (StopsAhead NoAnswer request)
none-told request body before mid now g p never =
    subst (λ (o : Option Peer). WhereTold before.peer o (StopsAhead NoAnswer request)) (sym p)
    (WhereTold-map before.peer mid.peer (Took (frame body)) (StopsAhead NoAnswer request) (λ x y t. (body, t, g.long, no-answers request body never)) g.took)

take-read : (request : Request) (out : List Name) (body : List ℕ) (read_as : Result ℕ ReadFault) (before mid now : PlainLine) (result : Result ℕ RemoteFault)
    → Took-body body before mid → IsBytes body → Reads request (λ n. Named (take n out)) body read_as → (read_as ≡ Err read.Memory → ⊥) → EndsRead read_as mid now result → TakesAhead request out before now result
take-read request out body (Ok n) before mid now result g bytes r never e =
    subst (λ (l : PlainLine). TakesAhead request out before l result) (sym e.0) (subst (λ (z : Result ℕ RemoteFault). TakesAhead request out before mid z) (sym e.1) (record {
      keeps = g.keeps;
      ends = (g.going, g.goes, g.faults, r.1, took-ahead (Named (take n out)) body before mid mid g bytes refl r.0);
    }))
take-read request out body (Err read.Refused) before mid now result g bytes r never e =
    subst (λ (z : Result ℕ RemoteFault). TakesAhead request out before now z) (sym e.4) (record {
      keeps = keeps-more before mid now g.keeps e.0 e.2;
      ends = (counts-so before mid now g.faults e.1, failing-refused request before now before.stopped now.stopped g.going (e.3 ∙ g.goes) (r.0, r.1, took-ahead r.0 body before mid now g bytes e.0.peer r.2));
    })
take-read request out body (Err read.NoAnswer) before mid now result g bytes r never e =
    subst (λ (z : Result ℕ RemoteFault). TakesAhead request out before now z) (sym e.4) (record {
      keeps = keeps-more before mid now g.keeps e.0 e.2;
      ends = (
        counts-so before mid now g.faults e.1,
        failing-ahead request before now before.stopped now.stopped (stopping-now request before now before.stopped now.stopped g.going e.3 (none-told request body before mid now g e.0.peer r)),
      );
    })
take-read request out body (Err read.Memory) before mid now result g bytes r never e = absurd (never refl)

-- the names of a body that was taken
pub takes-body : (request : Request) (out : List Name) (body : Vec ℕ Global) (lent : List ℕ) (read_as : Result ℕ ReadFault) (before mid now : PlainLine) (result : Result ℕ RemoteFault)
    → lent ≡ body.items → AreBytes lent → Keeps before mid → GetsTaken before mid (Ok body) → Reads request (λ n. Named (take n out)) lent read_as → (read_as ≡ Err read.Memory → ⊥) → EndsRead read_as mid now result
    → TakesAhead request out before now result
takes-body request out body lent read_as before mid now result e bytes k g r never end =
    take-read request out body.items read_as before mid now result (body-so body before mid k g) (subst AreBytes e bytes)
    (subst (λ (l : List ℕ). Reads request (λ n. Named (take n out)) l read_as) e r) never end

-- a body that was taken and thrown away
pub passes-body : (x : Name) (back most : ℕ) (body : Vec ℕ Global) (lent : List ℕ) (before mid now : PlainLine) (result : Result Unit RemoteFault)
    → lent ≡ body.items → Keeps before mid → GetsTaken before mid (Ok body) → LetsBy lent most mid now result → Passes (ToNames x back most) before now result
passes-body x back most body lent before mid now (Ok done) e k g l =
    let b = body-so body before mid k g in
    let f = l.2 in
    subst (λ (n : PlainLine). Passes (ToNames x back most) before n (Ok done)) (sym l.0) (record {
      keeps = k;
      ends = (g.0, g.1, g.2, f.0, f.2 x back, took-ahead f.0 body.items before mid mid b (subst AreBytes e l.1) refl (ap answer_at (sym e) ∙ f.1));
    })
passes-body x back most body lent before mid now (Err fault) e k g l =
    let b = body-so body before mid k g in
    subst (λ (f : RemoteFault). Passes (ToNames x back most) before now (Err f)) (sym l.2) (record {
      keeps = keeps-more before mid now k l.1 l.4;
      ends = (
        counts-so before mid now g.2 l.3,
        stopping-now (ToNames x back most) before now before.stopped now.stopped g.0 l.5
            (none-told (ToNames x back most) body.items before mid now b l.1.peer (λ answer f. l.0 x back answer (ap answer_at e ∙ f))),
      );
    })
