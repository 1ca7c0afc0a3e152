-- What a call over a line leaves of who is served at the other end.
use Rattle.std.proofs.Common.{◌≡◌, ◌≤◌, ◌<◌, ◌^◌, ◌⊎◌, inl, inr, ⊎_elim, ℕ, false, List, [], length, Option, Some, None, Ok, Err, refl, sym, ap, subst, ◌∙◌}
use Rattle.std.specs.Prelude.{is_some, IfSome}
use Rattle.std.specs.declared.result.Result.{Result}
use Rattle.outside.specs.Told.{WhereTold}
use Rattle.remote_rules.specs.Mirror.{Mirror}
use Rattle.remote_trait.specs.Calls.{Leaves}
use Rattle.remote_trait.specs.declared.fault.RemoteFault.{RemoteFault}
use Rattle.remote_trait.specs.declared.fault.RemoteFault.TheVariants as remote
use Rattle.remote_serve.specs.Frames.{frame}
use Rattle.remote_serve.specs.Requests.{Request, ToClone, ToNames, ToPath, IsRequest}
use Rattle.remote_serve.specs.Answers.{Answer, Allows, LeftBy, answer_bytes, frame_of}
use Rattle.remote_pipe.specs.Peer.{Peer, request_frame}
use Rattle.remote_pipe.specs.Exchange.{Asked, StopsAs}
use Rattle.remote_pipe.specs.Line.{PlainLine, Keeps, StopsBehind, TookAnswer, Failing, Wanting, Asks, AwaitsNothing, served_by}
use Rattle.remote_pipe.specs.Remote.{mirror_by}
use Rattle.remote_pipe.specs.declared.fault.PipeFault.{PipeFault}
use Rattle.remote_pipe.specs.declared.fault.PipeFault.TheVariants.{NotPut, NotTaken, Ended, BadLength, NoAnswer, Memory}
use Rattle.remote_pipe.proofs.Framing.{served-put, served-body, served-answer, short-frame}

-- what is left of a mirror that is served: it is as it was, or as the call for a request leaves it
abbrev pub Left : Request → Option Mirror → Option Mirror → Type 0
Left request None None = Unit {0}
Left request None (Some n) = ⊥
Left request (Some m) None = ⊥
Left request (Some m) (Some n) = (n ≡ m) ⊎ LeftBy request m n

-- nothing awaits where more is asked
abbrev pub IsQuiet : PlainLine → Type 0
IsQuiet line = line.stopped ≡ None → AwaitsNothing line.peer

pub same-left : (request : Request) (m n : Option Mirror) → n ≡ m → Left request m n
same-left request None None e = tt
same-left request None (Some n) e = absurd cc
same-left request (Some m) None e = absurd cc
same-left request (Some m) (Some n) e = inl cc

none-left : (request : Request) (n : Option Mirror) → is_some n ≡ false → Left request None n
none-left request None e = tt
none-left request (Some n) e = absurd cc

put-left : (request : Request) (m n : Option Mirror) (next : Mirror) (was : Mirror) → m ≡ Some was → n ≡ Some next → LeftBy request was next → Left request m n
put-left request m n next was e f l = subst (λ (a : Option Mirror). Left request a n) (sym e) (subst (λ (b : Option Mirror). Left request (Some was) b) (sym f) (inr l))

-- ---- one peer

-- where bytes were taken behind a request
asked-left : (request : Request) (came : List ℕ) (x y : Peer) → IsRequest request → is_some y.mirror ≡ is_some x.mirror → Asked (request_frame request) came x y → Left request x.mirror y.mirror
asked-left request came x y is kept a = by x.mirror refl
  where
    by : (m : Option Mirror) → x.mirror ≡ m → Left request x.mirror y.mirror
    by None e = subst (λ (o : Option Mirror). Left request o y.mirror) (sym e) (none-left request y.mirror (kept ∙ ap (λ (o : Option Mirror). is_some o) e))
    by (Some m) e =
        let s = served-put request m a.mid.mirror x.mirror a.put.came is e a.put.brings in
        put-left request x.mirror y.mirror s.0 m e (a.mirror ∙ s.1) s.2.0

-- where a frame was taken, none of the mirror's bytes awaits then
asked-quiet : (request : Request) (body : List ℕ) (x y : Peer) → IsRequest request → length body < 2 ^ 32 → is_some y.mirror ≡ is_some x.mirror → AwaitsNothing (Some x) → Asked (request_frame request) (frame body) x y → AwaitsNothing (Some y)
asked-quiet request body x y is len kept none a = by x.mirror refl
  where
    unserved : (n : Option Mirror) → is_some n ≡ false → IfSome n (λ _. y.left ≡ [])
    unserved None e = tt
    unserved (Some n) e = absurd cc

    some : (n : Option Mirror) → y.left ≡ [] → IfSome n (λ _. y.left ≡ [])
    some None e = tt
    some (Some n) e = e

    by : (m : Option Mirror) → x.mirror ≡ m → IfSome y.mirror (λ _. y.left ≡ [])
    by None e = unserved y.mirror (kept ∙ ap (λ (o : Option Mirror). is_some o) e)
    by (Some m) e =
        let quiet : x.left ≡ [] = subst (λ (o : Option Mirror). IfSome o (λ _. x.left ≡ [])) e none in
        some y.mirror (served-body request body m x y is len e quiet a).left

stops-left : (fault : PipeFault) (request : Request) (x y : Peer) → IsRequest request → is_some y.mirror ≡ is_some x.mirror → StopsBehind fault request x y → Left request x.mirror y.mirror
stops-left NotPut request x y is kept s = same-left request x.mirror y.mirror s.mirror
stops-left NotTaken request x y is kept s = asked-left request s.0 x y is kept s.1
stops-left Ended request x y is kept s = asked-left request s.0 x y is kept s.1
stops-left BadLength request x y is kept s = asked-left request _ x y is kept s.3
stops-left NoAnswer request x y is kept s = asked-left request (frame s.0) x y is kept s.1
stops-left Memory request x y is kept s = asked-left request s.0 x y is kept s.1

-- ---- where the link tells

told-left : (request : Request) (P : Peer → Peer → Type 0) (p q : Option Peer) → ((x y : Peer) → is_some y.mirror ≡ is_some x.mirror → P x y → Left request x.mirror y.mirror) → is_some (served_by q) ≡ is_some (served_by p)
    → WhereTold p q P → Left request (served_by p) (served_by q)
told-left request P None q f kept w = none-left request (served_by q) kept
told-left request P (Some x) None f kept w = absurd w
told-left request P (Some x) (Some y) f kept w = f x y kept w

told-quiet : (request : Request) (body : List ℕ) (p q : Option Peer) → IsRequest request → length body < 2 ^ 32 → is_some (served_by q) ≡ is_some (served_by p) → AwaitsNothing p
    → WhereTold p q (Asked (request_frame request) (frame body)) → AwaitsNothing q
told-quiet request body None None is len kept none w = tt
told-quiet request body None (Some y) is len kept none w = unserved y.mirror kept
  where
    unserved : (n : Option Mirror) → is_some n ≡ false → IfSome n (λ _. y.left ≡ [])
    unserved None e = tt
    unserved (Some n) e = absurd cc
told-quiet request body (Some x) None is len kept none w = absurd w
told-quiet request body (Some x) (Some y) is len kept none w = asked-quiet request body x y is len kept none w

peer-left : (request : Request) (p q : Option Peer) → q ≡ p → Left request (served_by p) (served_by q)
peer-left request p q e = same-left request (served_by p) (served_by q) (ap (λ (o : Option Peer). served_by o) e)

-- ---- a call

took-left : (request : Request) (answer : Answer) (before now : PlainLine) → Keeps before now → TookAnswer request answer before now → Left request (served_by before.peer) (served_by now.peer)
took-left request answer before now k t =
    told-left request (Asked (request_frame request) (frame_of answer)) before.peer now.peer (λ x y kept a. asked-left request (frame_of answer) x y t.is_request kept a) k.served t.asked

took-quiet : (request : Request) (answer : Answer) (before now : PlainLine) → Keeps before now → AwaitsNothing before.peer → TookAnswer request answer before now → AwaitsNothing now.peer
took-quiet request answer before now k none t =
    told-quiet request (answer_bytes answer) before.peer now.peer t.is_request (short-frame (length (answer_bytes answer)) t.short) k.served none t.asked

failing-left : (request : Request) (before now : PlainLine) (was is : Option PipeFault) → Keeps before now → Failing request before now was is → Left request (served_by before.peer) (served_by now.peer)
failing-left request before now (Some fault) is k f = peer-left request before.peer now.peer f.1
failing-left request before now None (Some fault) k f =
    told-left request (StopsBehind fault request) before.peer now.peer (λ x y kept s. stops-left fault request x y f.0 kept s) k.served f.2
failing-left request before now None None k f = ⊎_elim (λ t. took-left request t.0 before now k t.2) (λ u. peer-left request before.peer now.peer u.1) f

wanting-left : (request : Request) (before now : PlainLine) (was is : Option PipeFault) → Keeps before now → Wanting request before now was is → Left request (served_by before.peer) (served_by now.peer)
wanting-left request before now (Some fault) is k f = absurd f
wanting-left request before now None (Some fault) k f =
    told-left request (StopsAs Memory (request_frame request)) before.peer now.peer (λ x y kept s. stops-left Memory request x y f.0 kept s) k.served f.2
wanting-left request before now None None k f =
    ⊎_elim (λ e. peer-left request before.peer now.peer e)
    (λ t. told-left request (Asked (request_frame request) (frame t.1)) before.peer now.peer (λ x y kept a. asked-left request (frame t.1) x y t.0 kept a) k.served t.3) f

pub asks-left : {T : Type 0} (request : Request) (answer_of : T → Answer) (before now : PlainLine) (result : Result T RemoteFault) → Asks request answer_of before now result
    → Left request (served_by before.peer) (served_by now.peer)
asks-left request answer_of before now (Ok value) a = took-left request (answer_of value) before now a.keeps a.ends.4
asks-left request answer_of before now (Err remote.Failed) a = failing-left request before now before.stopped now.stopped a.keeps a.ends.1
asks-left request answer_of before now (Err remote.Memory) a = wanting-left request before now before.stopped now.stopped a.keeps a.ends.1

same-quiet : (p q : Option Peer) → q ≡ p → AwaitsNothing p → AwaitsNothing q
same-quiet p q e none = subst AwaitsNothing (sym e) none

failing-quiet : (request : Request) (before now : PlainLine) (was is : Option PipeFault) → Keeps before now → (was ≡ None → AwaitsNothing before.peer) → Failing request before now was is → is ≡ None → AwaitsNothing now.peer
failing-quiet request before now (Some fault) is k none f e = absurd (stuck is f.0 e)
  where
    stuck : (i : Option PipeFault) → i ≡ Some fault → i ≡ None → ⊥
    stuck i a b = cc
failing-quiet request before now None (Some fault) k none f e = absurd cc
failing-quiet request before now None None k none f e =
    ⊎_elim (λ t. took-quiet request t.0 before now k (none refl) t.2) (λ u. same-quiet before.peer now.peer u.1 (none refl)) f

wanting-quiet : (request : Request) (before now : PlainLine) (was is : Option PipeFault) → Keeps before now → (was ≡ None → AwaitsNothing before.peer) → Wanting request before now was is → is ≡ None → AwaitsNothing now.peer
wanting-quiet request before now (Some fault) is k none f e = absurd f
wanting-quiet request before now None (Some fault) k none f e = absurd cc
wanting-quiet request before now None None k none f e =
    ⊎_elim (λ s. same-quiet before.peer now.peer s (none refl))
    (λ t. told-quiet request t.1 before.peer now.peer t.0 (short-frame (length t.1) t.2.1) k.served (none refl) t.3) f

pub asks-quiet : {T : Type 0} (request : Request) (answer_of : T → Answer) (before now : PlainLine) (result : Result T RemoteFault) → IsQuiet before → Asks request answer_of before now result → IsQuiet now
asks-quiet request answer_of before now (Ok value) quiet a = λ _. took-quiet request (answer_of value) before now a.keeps (quiet a.ends.0) a.ends.4
asks-quiet request answer_of before now (Err remote.Failed) quiet a = failing-quiet request before now before.stopped now.stopped a.keeps quiet a.ends.1
asks-quiet request answer_of before now (Err remote.Memory) quiet a = wanting-quiet request before now before.stopped now.stopped a.keeps quiet a.ends.1

-- an answer is one that the mirror allows
pub asks-allowed : {T : Type 0} (request : Request) (answer_of : T → Answer) (before now : PlainLine) (value : T) (m : Mirror) → IsQuiet before → Asks request answer_of before now (Ok value)
    → served_by before.peer ≡ Some m → (n : Mirror) × (served_by now.peer ≡ Some n) × LeftBy request m n × Allows m n request (answer_of value)
asks-allowed request answer_of before now value m quiet a e = told before.peer now.peer (quiet a.ends.0) a.ends.4.asked e
  where
    told : (p q : Option Peer) → AwaitsNothing p → WhereTold p q (Asked (request_frame request) (frame_of (answer_of value))) → served_by p ≡ Some m
        → (n : Mirror) × (served_by q ≡ Some n) × LeftBy request m n × Allows m n request (answer_of value)
    told None q none w e = absurd cc
    told (Some x) None none w e = absurd w
    told (Some x) (Some y) none w e =
        let quiet : x.left ≡ [] = subst (λ (o : Option Mirror). IfSome o (λ _. x.left ≡ [])) e none in
        let t = a.ends.4 in
        let s = served-answer request (answer_of value) x y m t.is_request t.is_answer t.short e quiet w in
        (s.0, s.1, s.3, s.4)

-- ---- in the words of remotes

leaves-by : (count : ℕ → ℕ) (m n : Mirror) (f f' a a' : ℕ) → n.master ≡ m.master → n.cloned ≡ m.cloned → n.settled ≡ m.settled → f ≤ f' → a' ≡ count a → a ≤ a' → Leaves count (mirror_by (Some m) f a) (mirror_by (Some n) f' a')
leaves-by count m n f f' a a' x y z le e more = record { master = x; cloned = y; settled = z; to_come = tt; faults = le; asked = e; more = more }

-- requests that are none for a refresh leave what is told
abbrev pub Stands : Option Mirror → Option Mirror → Type 0
Stands None None = Unit {0}
Stands None (Some n) = ⊥
Stands (Some m) None = ⊥
Stands (Some m) (Some n) = (n.master ≡ m.master) × (n.cloned ≡ m.cloned) × (n.settled ≡ m.settled)

leaves-stands : (count : ℕ → ℕ) (m n : Mirror) → ((n ≡ m) ⊎ Leaves count m n) → Stands (Some m) (Some n)
leaves-stands count m n either =
    ⊎_elim (λ e. (ap (λ (k : Mirror). k.master) e, ap (λ (k : Mirror). k.cloned) e, ap (λ (k : Mirror). k.settled) e)) (λ l. (l.master, l.cloned, l.settled)) either

pub clone-stands : (m n : Option Mirror) → Left ToClone m n → Stands m n
clone-stands None None l = tt
clone-stands None (Some n) l = absurd l
clone-stands (Some m) None l = absurd l
clone-stands (Some m) (Some n) l = leaves-stands _ m n l

pub names-stands : (x : List ℕ) (back count : ℕ) (m n : Option Mirror) → Left (ToNames x back count) m n → Stands m n
names-stands x back count None None l = tt
names-stands x back count None (Some n) l = absurd l
names-stands x back count (Some m) None l = absurd l
names-stands x back count (Some m) (Some n) l = leaves-stands _ m n l

pub path-stands : (heads : List (List ℕ)) (name : List ℕ) (m n : Option Mirror) → Left (ToPath heads name) m n → Stands m n
path-stands heads name None None l = tt
path-stands heads name None (Some n) l = absurd l
path-stands heads name (Some m) None l = absurd l
path-stands heads name (Some m) (Some n) l = leaves-stands _ m n l

pub stands-self : (m : Option Mirror) → Stands m m
stands-self None = tt
stands-self (Some m) = (refl, refl, refl)

pub stands-then : (l m n : Option Mirror) → Stands l m → Stands m n → Stands l n
stands-then None None n a b = b
stands-then None (Some m) n a b = absurd a
stands-then (Some l) None n a b = absurd a
stands-then (Some l) (Some m) None a b = absurd b
stands-then (Some l) (Some m) (Some n) a b = (b.0 ∙ a.0, b.1 ∙ a.1, b.2 ∙ a.2)

pub stands-leaves : (count : ℕ → ℕ) (m n : Option Mirror) (f f' a a' : ℕ) → Stands m n → f ≤ f' → a' ≡ count a → a ≤ a' → Leaves count (mirror_by m f a) (mirror_by n f' a')
stands-leaves count None None f f' a a' s le e more = record { master = refl; cloned = refl; settled = refl; to_come = tt; faults = le; asked = e; more = more }
stands-leaves count None (Some n) f f' a a' s le e more = absurd s
stands-leaves count (Some m) None f f' a a' s le e more = absurd s
stands-leaves count (Some m) (Some n) f f' a a' s le e more = leaves-by count m n f f' a a' s.0 s.1 s.2 le e more
