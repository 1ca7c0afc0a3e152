-- What comes of a request that is asked over a line.
use Rattle.std.proofs.Common.{◌≡◌, ◌≤◌, ◌+◌, ◌⊎◌, inl, inr, ℕ, min, List, length, Option, Some, None, Ok, Err, Vec, refl, sym, ap, subst, ◌∙◌, arith}
use Rattle.std.specs.Prelude.{is_some, IfOk}
use Rattle.std.specs.declared.result.Result.{Result}
use Rattle.std.specs.declared.alloc.Global.{Global}
use Rattle.outside.specs.Counts.{Rose, last_count}
use Rattle.outside.specs.Told.{WhereTold}
use Rattle.outside.proofs.ToldLemmas.{WhereTold-map}
use Rattle.segment_codec.proofs.Numbers.{IsBytes}
use Rattle.remote_trait.specs.declared.fault.RemoteFault.{RemoteFault}
use Rattle.remote_trait.specs.declared.fault.RemoteFault.TheVariants as remote
use Rattle.remote_serve.specs.Frames.{frame}
use Rattle.remote_serve.specs.Requests.{Request, IsRequest}
use Rattle.remote_serve.specs.Answers.{Answer, frame_of}
use Rattle.remote_pipe.specs.Answering.{Answers, Fits, IsRefusal, IsAnswerLength}
use Rattle.remote_pipe.specs.Reading.{answer_at}
use Rattle.remote_pipe.specs.Peer.{Peer, request_frame}
use Rattle.remote_pipe.specs.Exchange.{Asked, StopsAs}
use Rattle.remote_pipe.specs.Line.{PlainLine, Keeps, HasFaultCause, StopsBehind, TookAnswer, Failing, Wanting, CountsOne, Asks, served_by}
use Rattle.remote_pipe.specs.Steps.{Reads, LeavesLink, StopsNow, WantsNow, GetsBody, EndsRead, AreBytes}
use Rattle.remote_pipe.specs.declared.fault.PipeFault.{PipeFault}
use Rattle.remote_pipe.specs.declared.fault.PipeFault.TheVariants.{NotPut, NotTaken, Ended, BadLength, NoAnswer, Memory}
use Rattle.remote_pipe.specs.declared.reading.ReadFault.{ReadFault}
use Rattle.remote_pipe.specs.declared.reading.ReadFault.TheVariants as read
use Rattle.remote_pipe.proofs.AnswerReads.{answer_takes, answer_again}

-- ---- no body

-- a line was stopped by this fault
pub record Stops (fault : PipeFault) (bytes : List ℕ) (before mid now : PlainLine) (result : RemoteFault) : Type 0 where
  pub going : before.stopped ≡ None
  pub faults : mid.faults ≡ before.faults
  pub cause : HasFaultCause fault before mid
  pub stops : WhereTold before.peer mid.peer (StopsAs fault bytes)
  pub link : LeavesLink mid now
  pub stopped : now.stopped ≡ Some fault
  pub failed : (fault ≡ Memory → ⊥) → (result ≡ remote.Failed) × CountsOne mid now
  pub memory : fault ≡ Memory → (result ≡ remote.Memory) × (now.faults ≡ mid.faults)

pub counts-so : (before mid now : PlainLine) → mid.faults ≡ before.faults → CountsOne mid now → CountsOne before now
counts-so before mid now e c = c ∙ ap (λ (n : ℕ). min (n + 1) last_count) e

pub cause-kept : (fault : PipeFault) (before mid now : PlainLine) → LeavesLink mid now → HasFaultCause fault before mid → HasFaultCause fault before now
cause-kept NotPut before mid now l h = subst (λ (n : ℕ). Rose before.put_faults n) (sym l.put_faults) h
cause-kept NotTaken before mid now l h = subst (λ (n : ℕ). Rose before.take_faults n) (sym l.take_faults) h
cause-kept Ended before mid now l h = tt
cause-kept BadLength before mid now l h = tt
cause-kept NoAnswer before mid now l h = tt
cause-kept Memory before mid now l h = tt

stops-now : (fault : PipeFault) (bytes : List ℕ) (before now : PlainLine) (was is : Option PipeFault) → was ≡ None → is ≡ Some fault
    → HasFaultCause fault before now → WhereTold before.peer now.peer (StopsAs fault bytes) → StopsNow bytes before now was is
stops-now fault bytes before now was is w i cause stops =
    subst (λ (a : Option PipeFault). StopsNow bytes before now a is) (sym w) (subst (λ (b : Option PipeFault). StopsNow bytes before now None b) (sym i) (cause, stops))

wants-now : (bytes : List ℕ) (before now : PlainLine) (was is : Option PipeFault) → was ≡ None → is ≡ Some Memory
    → WhereTold before.peer now.peer (StopsAs Memory bytes) → WantsNow bytes before now was is
wants-now bytes before now was is w i stops =
    subst (λ (a : Option PipeFault). WantsNow bytes before now a is) (sym w) (subst (λ (b : Option PipeFault). WantsNow bytes before now None b) (sym i) (refl, stops))

told-now : (fault : PipeFault) (bytes : List ℕ) (before mid now : PlainLine) → LeavesLink mid now → WhereTold before.peer mid.peer (StopsAs fault bytes) → WhereTold before.peer now.peer (StopsAs fault bytes)
told-now fault bytes before mid now l w = subst (λ (p : Option Peer). WhereTold before.peer p (StopsAs fault bytes)) (sym l.peer) w

failed-body : (fault : PipeFault) (bytes : List ℕ) (before mid now : PlainLine) (result : RemoteFault) → (fault ≡ Memory → ⊥) → Stops fault bytes before mid now result → GetsBody bytes before now (Err result)
failed-body fault bytes before mid now result never s =
    let f = s.failed never in
    subst (λ (r : RemoteFault). GetsBody bytes before now (Err r)) (sym f.0) (
      counts-so before mid now s.faults f.1,
      stops-now fault bytes before now before.stopped now.stopped s.going s.stopped (cause-kept fault before mid now s.link s.cause) (told-now fault bytes before mid now s.link s.stops),
    )

wanting-body : (bytes : List ℕ) (before mid now : PlainLine) (result : RemoteFault) → Stops Memory bytes before mid now result → GetsBody bytes before now (Err result)
wanting-body bytes before mid now result s =
    let f = s.memory refl in
    subst (λ (r : RemoteFault). GetsBody bytes before now (Err r)) (sym f.0)
    (f.1 ∙ s.faults, wants-now bytes before now before.stopped now.stopped s.going s.stopped (told-now Memory bytes before mid now s.link s.stops))

pub stopped-body : (fault : PipeFault) (bytes : List ℕ) (before mid now : PlainLine) (result : RemoteFault) → Stops fault bytes before mid now result → GetsBody bytes before now (Err result)
stopped-body NotPut bytes before mid now result s = failed-body NotPut bytes before mid now result (λ e. absurd cc) s
stopped-body NotTaken bytes before mid now result s = failed-body NotTaken bytes before mid now result (λ e. absurd cc) s
stopped-body Ended bytes before mid now result s = failed-body Ended bytes before mid now result (λ e. absurd cc) s
stopped-body BadLength bytes before mid now result s = failed-body BadLength bytes before mid now result (λ e. absurd cc) s
stopped-body NoAnswer bytes before mid now result s = failed-body NoAnswer bytes before mid now result (λ e. absurd cc) s
stopped-body Memory bytes before mid now result s = wanting-body bytes before mid now result s

-- why a trade failed
pub trade-cause : (fault : PipeFault) (before mid : PlainLine) → (fault ≡ NotPut → Rose before.put_faults mid.put_faults) → (fault ≡ NotTaken → Rose before.take_faults mid.take_faults) → HasFaultCause fault before mid
trade-cause NotPut before mid p t = p refl
trade-cause NotTaken before mid p t = t refl
trade-cause Ended before mid p t = tt
trade-cause BadLength before mid p t = tt
trade-cause NoAnswer before mid p t = tt
trade-cause Memory before mid p t = tt

-- ---- no body, to who asks

behind : (fault : PipeFault) (request : Request) (before now : PlainLine) → WhereTold before.peer now.peer (StopsAs fault (request_frame request)) → WhereTold before.peer now.peer (StopsBehind fault request)
behind NotPut request before now w = w
behind NotTaken request before now w = w
behind Ended request before now w = w
behind BadLength request before now w = w
behind NoAnswer request before now w = WhereTold-map before.peer now.peer (StopsAs NoAnswer (request_frame request)) (StopsBehind NoAnswer request) (λ x y z. absurd z) w
behind Memory request before now w = w

failing-so : (request : Request) (before now : PlainLine) (was is : Option PipeFault) → IsRequest request → StopsNow (request_frame request) before now was is → Failing request before now was is
failing-so request before now (Some fault) is r s = s
failing-so request before now None (Some fault) r s = (r, s.0, behind fault request before now s.1)
failing-so request before now None None r s = absurd s

wanting-so : (request : Request) (before now : PlainLine) (was is : Option PipeFault) → IsRequest request → WantsNow (request_frame request) before now was is → Wanting request before now was is
wanting-so request before now (Some fault) is r s = s
wanting-so request before now None (Some fault) r s = (r, s.0, s.1)
wanting-so request before now None None r s = inl s

pub asks-fault : {T : Type 0} (request : Request) (answer_of : T → Answer) (before now : PlainLine) (fault : RemoteFault) → IsRequest request → Keeps before now
    → GetsBody (request_frame request) before now (Err fault) → Asks request answer_of before now (Err fault)
asks-fault request answer_of before now remote.Failed r k g = record { keeps = k; ends = (g.0, failing-so request before now before.stopped now.stopped r g.1) }
asks-fault request answer_of before now remote.Memory r k g = record { keeps = k; ends = (g.0, wanting-so request before now before.stopped now.stopped r g.1) }

-- ---- a body

-- a body that was taken, and what reading it came to
pub record Gets (request : Request) (body : List ℕ) (before mid : PlainLine) : Type 0 where
  pub is : IsRequest request
  pub bytes : IsBytes body
  pub keeps : Keeps before mid
  pub going : before.stopped ≡ None
  pub goes : mid.stopped ≡ None
  pub faults : mid.faults ≡ before.faults
  pub long : IsAnswerLength (length body)
  pub asked : WhereTold before.peer mid.peer (Asked (request_frame request) (frame body))

took : (request : Request) (answer : Answer) (body : List ℕ) (before mid now : PlainLine) → Gets request body before mid → now.peer ≡ mid.peer → answer_at body ≡ Some answer → TookAnswer request answer before now
took request answer body before mid now g p e =
    let t = answer_takes body answer g.bytes e in
    let few = g.long.1 in
    let size = ap (length {A = ℕ}) t.spelled in
    record {
      is_request = g.is;
      is_answer = t.is;
      short = omega (arith, few, size);
      asked = subst (λ (o : Option Peer). WhereTold before.peer o (Asked (request_frame request) (frame_of answer))) (sym p)
          (subst (λ (l : List ℕ). WhereTold before.peer mid.peer (Asked (request_frame request) (frame l))) t.spelled g.asked);
    }

keeps-self : (line : PlainLine) → Keeps line line
keeps-self line = record { served = refl; put_faults = omega arith; take_faults = omega arith; faults = omega arith }

pub keeps-more : (before mid now : PlainLine) → Keeps before mid → LeavesLink mid now → mid.faults ≤ now.faults → Keeps before now
keeps-more before mid now k l le =
    let a = k.put_faults in let b = k.take_faults in let c = k.faults in
    let d = l.put_faults in let e = l.take_faults in
    record {
      served = ap (λ (o : Option Peer). is_some (served_by o)) l.peer ∙ k.served;
      put_faults = omega (arith, a, d);
      take_faults = omega (arith, b, e);
      faults = omega (arith, c, le);
    }

pub keeps-left : (before now : PlainLine) → LeavesLink before now → before.faults ≤ now.faults → Keeps before now
keeps-left before now l le = keeps-more before before now (keeps-self before) l le

failing-now : (request : Request) (before now : PlainLine) (was is : Option PipeFault) → was ≡ None → is ≡ None → ((refusal : Answer) × IsRefusal refusal × TookAnswer request refusal before now) → Failing request before now was is
failing-now request before now was is w i t =
    subst (λ (a : Option PipeFault). Failing request before now a is) (sym w) (subst (λ (b : Option PipeFault). Failing request before now None b) (sym i) (inl t))

failing-stop : (request : Request) (before now : PlainLine) (was is : Option PipeFault) → IsRequest request → was ≡ None → is ≡ Some NoAnswer → WhereTold before.peer now.peer (StopsBehind NoAnswer request) → Failing request before now was is
failing-stop request before now was is r w i t =
    subst (λ (a : Option PipeFault). Failing request before now a is) (sym w) (subst (λ (b : Option PipeFault). Failing request before now None b) (sym i) (r, tt, t))

wanting-now : (request : Request) (body : List ℕ) (before now : PlainLine) (was is : Option PipeFault) → was ≡ None → is ≡ None → IsRequest request → IsAnswerLength (length body)
    → WhereTold before.peer now.peer (Asked (request_frame request) (frame body)) → Wanting request before now was is
wanting-now request body before now was is w i r len t =
    subst (λ (a : Option PipeFault). Wanting request before now a is) (sym w) (subst (λ (b : Option PipeFault). Wanting request before now None b) (sym i) (inr (r, body, len, t)))

pub no-answers : (request : Request) (body : List ℕ) → ((answer : Answer) → answer_at body ≡ Some answer → (Fits request answer ⊎ IsRefusal answer) → ⊥) → Answers request body → ⊥
no-answers request body never a = never a.0 (ap answer_at a.2 ∙ answer_again a.0 a.1) a.3

pub asks-read : {T : Type 0} (request : Request) (answer_of : T → Answer) (body : List ℕ) (read_as : Result T ReadFault) (before mid now : PlainLine) (result : Result T RemoteFault)
    → Gets request body before mid → Reads request answer_of body read_as → EndsRead read_as mid now result → Asks request answer_of before now result
asks-read {T} request answer_of body (Ok value) before mid now result g r e =
    subst (λ (n : PlainLine). Asks request answer_of before n result) (sym e.0) (subst (λ (z : Result T RemoteFault). Asks request answer_of before mid z) (sym e.1) (record {
      keeps = g.keeps;
      ends = (g.going, g.goes, g.faults, r.1, took request (answer_of value) body before mid mid g refl r.0);
    }))
asks-read {T} request answer_of body (Err read.Refused) before mid now result g r e =
    subst (λ (z : Result T RemoteFault). Asks request answer_of before now z) (sym e.4) (record {
      keeps = keeps-more before mid now g.keeps e.0 e.2;
      ends = (counts-so before mid now g.faults e.1, failing-now request before now before.stopped now.stopped g.going (e.3 ∙ g.goes) (r.0, r.1, took request r.0 body before mid now g e.0.peer r.2));
    })
asks-read {T} request answer_of body (Err read.NoAnswer) before mid now result g r e =
    subst (λ (z : Result T RemoteFault). Asks request answer_of before now z) (sym e.4) (record {
      keeps = keeps-more before mid now g.keeps e.0 e.2;
      ends = (
        counts-so before mid now g.faults e.1,
        failing-stop request before now before.stopped now.stopped g.is g.going e.3
            (subst (λ (o : Option Peer). WhereTold before.peer o (StopsBehind NoAnswer request)) (sym e.0.peer)
            (WhereTold-map before.peer mid.peer (Asked (request_frame request) (frame body)) (StopsBehind NoAnswer request) (λ x y a. (body, a, g.long, no-answers request body r)) g.asked)),
      );
    })
asks-read {T} request answer_of body (Err read.Memory) before mid now result g r e =
    subst (λ (n : PlainLine). Asks request answer_of before n result) (sym e.0) (subst (λ (z : Result T RemoteFault). Asks request answer_of before mid z) (sym e.1) (record {
      keeps = g.keeps;
      ends = (g.faults, wanting-now request body before mid before.stopped mid.stopped g.going g.goes g.is g.long g.asked);
    }))

-- a body that came of a request's frame
pub gets-so : (request : Request) (body : Vec ℕ Global) (before mid : PlainLine) → IsRequest request → IsBytes body.items → Keeps before mid → GetsBody (request_frame request) before mid (Ok body) → Gets request body.items before mid
gets-so request body before mid is bytes k g = record { is = is; bytes = bytes; keeps = k; going = g.0; goes = g.1; faults = g.2; long = g.3; asked = g.4 }

-- what a body that came of a request's frame answers
pub asks-body : {T : Type 0} (request : Request) (answer_of : T → Answer) (body : Vec ℕ Global) (lent : List ℕ) (read_as : Result T ReadFault) (before mid now : PlainLine) (result : Result T RemoteFault)
    → IsRequest request → lent ≡ body.items → AreBytes lent → Keeps before mid → GetsBody (request_frame request) before mid (Ok body) → Reads request answer_of lent read_as → EndsRead read_as mid now result
    → Asks request answer_of before now result
asks-body {T} request answer_of body lent read_as before mid now result is e bytes k g r end =
    asks-read request answer_of body.items read_as before mid now result (gets-so request body before mid is (subst AreBytes e bytes) k g)
    (subst (λ (l : List ℕ). Reads request answer_of l read_as) e r) end

-- the answer under another function that gives the same
pub asks-same : {T : Type 0} (request : Request) (f g : T → Answer) (before now : PlainLine) (result : Result T RemoteFault) → IfOk result (λ v. f v ≡ g v)
    → Asks request f before now result → Asks request g before now result
asks-same request f g before now (Ok v) e a =
    record { keeps = a.keeps; ends = (a.ends.0, a.ends.1, a.ends.2, subst (Fits request) e a.ends.3, subst (λ (b : Answer). TookAnswer request b before now) e a.ends.4) }
asks-same request f g before now (Err remote.Failed) e a = record { keeps = a.keeps; ends = a.ends }
asks-same request f g before now (Err remote.Memory) e a = record { keeps = a.keeps; ends = a.ends }

-- an answer that is another value's
pub asks-value : {S T : Type 0} (request : Request) (f : S → Answer) (g : T → Answer) (before now : PlainLine) (s : S) (t : T) → f s ≡ g t → Asks request f before now (Ok s) → Asks request g before now (Ok t)
asks-value request f g before now s t e a =
    record { keeps = a.keeps; ends = (a.ends.0, a.ends.1, a.ends.2, subst (Fits request) e a.ends.3, subst (λ (b : Answer). TookAnswer request b before now) e a.ends.4) }
