-- A frame stands in front of bytes in one way, and what is answered to who serves a mirror.
use Rattle.std.proofs.Common.{◌≡◌, ℕ, ◌+◌, ◌^◌, ◌<◌, ◌≤◌, List, [], ◌++◌, length, take, drop, Some, refl, sym, ap, subst, ◌∙◌, arith, append_assoc, lit≤, Option, None}
use Rattle.std.specs.Int.{w32, to_be_bytes}
use Rattle.std.proofs.lemmas.List.{take_at, drop_at, append-nil}
use Rattle.remote_rules.specs.Mirror.{Mirror}
use Rattle.remote_serve.specs.Frames.{frame}
use Rattle.remote_serve.specs.Requests.{Request, IsRequest}
use Rattle.remote_serve.specs.Answers.{Answer, Refreshed, Cloned, Named, Led, HasFailed, IsTooLong, IsNoRequest, HasNoMemory, Allows, LeftBy, answer_bytes, frame_of, longest_answer, IsAnswer}
use Rattle.remote_serve.proofs.Fronts.{one-length}
use Rattle.remote_pipe.specs.Peer.{Peer, request_frame, Brings, Serves}
use Rattle.remote_pipe.specs.Exchange.{Asked}
use Rattle.remote_pipe.proofs.AnswerReads.{one-answer}

pub one-frame : (a b x y : List ℕ) → length a < 2 ^ 32 → length b < 2 ^ 32 → frame a ++ x ≡ frame b ++ y → (a ≡ b) × (x ≡ y)
one-frame a b x y la lb e =
    let e' = sym (append_assoc (to_be_bytes w32 (length a)) a x) ∙ e ∙ append_assoc (to_be_bytes w32 (length b)) b y in
    let p = one-length (length a) (length b) (a ++ x) (b ++ y) la lb e' in
    let same = p.0 in (
      sym (take_at a x (length a) refl) ∙ ap (λ (l : List ℕ). take (length a) l) p.1 ∙ take_at b y (length a) (sym same),
      sym (drop_at a x (length a) refl) ∙ ap (λ (l : List ℕ). drop (length a) l) p.1 ∙ drop_at b y (length a) (sym same),
    )

pub short-frame : (n : ℕ) → n ≤ longest_answer → n < 2 ^ 32
short-frame n le = let k : 2 ^ 30 < 2 ^ 32 = lit≤ tt in omega (arith, le, k)

pub one-framed : (a b : Answer) (x y : List ℕ) → IsAnswer a → IsAnswer b → length (answer_bytes a) ≤ longest_answer → length (answer_bytes b) ≤ longest_answer
    → frame_of a ++ x ≡ frame_of b ++ y → (a ≡ b) × (x ≡ y)
one-framed a b x y ha hb la lb e =
    let p = one-frame (answer_bytes a) (answer_bytes b) x y (short-frame (length (answer_bytes a)) la) (short-frame (length (answer_bytes b)) lb) e in
    (one-answer a b ha hb p.0, p.1)

-- no answer that is allowed is too long
pub allowed-short : (request : Request) (m n : Mirror) (a : Answer) → Allows m n request a → length (answer_bytes a) ≤ longest_answer
allowed-short request m n Refreshed h = h.1
allowed-short request m n (Cloned told) h = h.1
allowed-short request m n (Named names) h = h.1
allowed-short request m n (Led found) h = h.1
allowed-short request m n HasFailed h = lit≤ tt
allowed-short request m n IsTooLong h = lit≤ tt
allowed-short request m n IsNoRequest h = absurd h
allowed-short request m n HasNoMemory h = lit≤ tt

-- what is left where a mirror is served whose bytes had all come, and a frame was taken behind a request
pub record ServedBody (request : Request) (body : List ℕ) (m : Mirror) (now : Peer) : Type 0 where
  pub next : Mirror
  pub mirror : now.mirror ≡ Some next
  pub left : now.left ≡ []
  pub serves : LeftBy request m next
  pub answer : Answer
  pub is : IsAnswer answer
  pub allows : Allows m next request answer
  pub spelled : body ≡ answer_bytes answer

pub served-put : (request : Request) (m : Mirror) (n : Option Mirror) (was : Option Mirror) (came : List ℕ) → IsRequest request → was ≡ Some m → Brings (request_frame request) was n came
    → (next : Mirror) × (n ≡ Some next) × Serves request m next came
served-put request m n None came is e b = absurd cc
served-put request m None (Some w) came is e b = absurd b
served-put request m (Some next) (Some w) came is e b =
    let same : w ≡ m = some_same w m e in
    (next, refl, subst (λ (q : Mirror). Serves request q next came) same (b request is refl))
  where
    some_same : (x y : Mirror) → (let o : Option Mirror = Some x in o) ≡ Some y → x ≡ y
    some_same x y h = cc

pub served-body : (request : Request) (body : List ℕ) (m : Mirror) (before now : Peer) → IsRequest request → length body < 2 ^ 32 → before.mirror ≡ Some m → before.left ≡ []
    → Asked (request_frame request) (frame body) before now → ServedBody request body m now
served-body request body m before now is len told none h =
    let s = served-put request m h.mid.mirror before.mirror h.put.came is told h.put.brings in
    let answer = s.2.1 in
    let allows = s.2.3 in
    let came : h.put.came ≡ frame_of answer = s.2.4 in
    let all : frame body ++ now.left ≡ frame_of answer ++ [] = sym h.split ∙ h.put.left ∙ ap (λ (l : List ℕ). l ++ h.put.came) none ∙ came ∙ sym (append-nil (frame_of answer)) in
    let one = one-frame body (answer_bytes answer) now.left [] len (short-frame (length (answer_bytes answer)) (allowed-short request m s.0 answer allows)) all in
    record {
      next = s.0;
      mirror = h.mirror ∙ s.1;
      left = one.1;
      serves = s.2.0;
      answer = answer;
      is = s.2.2;
      allows = allows;
      spelled = one.0;
    }

-- it is the answer that was taken
pub served-answer : (request : Request) (answer : Answer) (before now : Peer) (m : Mirror) → IsRequest request → IsAnswer answer → length (answer_bytes answer) ≤ longest_answer
    → before.mirror ≡ Some m → before.left ≡ [] → Asked (request_frame request) (frame_of answer) before now
    → (n : Mirror) × (now.mirror ≡ Some n) × (now.left ≡ []) × LeftBy request m n × Allows m n request answer
served-answer request answer before now m is fits short told none h =
    let s = served-body request (answer_bytes answer) m before now is (short-frame (length (answer_bytes answer)) short) told none h in
    (s.next, s.mirror, s.left, s.serves, subst (λ a. Allows m s.next request a) (sym (one-answer answer s.answer fits s.is s.spelled)) s.allows)
