-- Bytes that are taken one piece after another.
use Rattle.std.proofs.Common.{◌≡◌, ◌≤◌, ◌<◌, ◌+◌, ◌-◌, ◌++◌, ℕ, List, length, take, drop, refl, sym, ap, ◌∙◌, arith, append_assoc, length-append, length-take, length-drop}
use Rattle.std.proofs.Math.Seq.{take-append-add}
use Rattle.std.proofs.lemmas.List.{take-append-le}
use Rattle.remote_pipe.specs.Peer.{Peer}
use Rattle.std.proofs.Common.{Ok, Err, [], ◌^◌, subst}
use Rattle.std.proofs.lemmas.List.{append-nil}
use Rattle.std.specs.Prelude.{Vec}
use Rattle.std.specs.declared.alloc.Global.{Global}
use Rattle.std.specs.declared.result.Result.{Result}
use Rattle.std.specs.Int.{w32, to_be_bytes}
use Rattle.remote_serve.specs.Frames.{frame}
use Rattle.remote_serve.proofs.Fronts.{one-length}
use Rattle.remote_pipe.specs.Answering.{IsAnswerLength}
use Rattle.remote_pipe.specs.Peer.{PutsWhole}
use Rattle.remote_pipe.specs.Exchange.{Asked, HasAnswer, Exchanges, Took}
use Rattle.remote_pipe.specs.Steps.{AddsPiece, FillsBody, TakesLength, TakesRest, TakesFrame}
use Rattle.remote_pipe.specs.declared.fault.PipeFault.{PipeFault}
use Rattle.remote_pipe.specs.declared.fault.PipeFault.TheVariants.{NotPut, NotTaken, Ended, BadLength, NoAnswer, Memory}
use Rattle.remote_pipe.proofs.Framing.{short-frame}
use borrow.Rule.Slice.PartMut.{put_mid}

-- a buffer keeps its length where its end is put anew
pub mid-long : {X : Type 0} (out more : List X) (at : ℕ) → at ≤ length out → length more ≡ length (drop at out) → length (put_mid at (length out - at) out more) ≡ length out
mid-long out more at le size = grind (arith, length-append, length-take, length-drop)

-- the front of it then
pub mid-front : {X : Type 0} (out more : List X) (at n : ℕ) → at ≤ length out → n ≤ length more → take (at + n) (put_mid at (length out - at) out more) ≡ take at out ++ take n more
mid-front {X} out more at n le fits =
    let front : length (take at out) ≡ at = omega (arith, length-take {A = X} at out, le) in
    let rest = drop (length out - at) (drop at out) in
    ap (λ (k : ℕ). take (k + n) (take at out ++ (more ++ rest))) (sym front)
    ∙ take-append-add (take at out) (more ++ rest) n ∙ ap (λ (l : List X). take at out ++ l) (take-append-le n more rest fits)

-- two pieces in turn
pub took-more : (a b whole : List ℕ) (x y z : Peer) → whole ≡ a ++ b → Took a x y → Took b y z → Took whole x z
took-more a b whole x y z e p q = record {
  split = p.split ∙ ap (λ (l : List ℕ). a ++ l) q.split ∙ sym (append_assoc a b z.left) ∙ ap (λ (l : List ℕ). l ++ z.left) (sym e);
  taken = q.taken ∙ p.taken;
  mirror = q.mirror ∙ p.mirror;
}

-- ---- a piece

-- ---- pieces in turn

few-more : (len count : ℕ) (old body f a : List ℕ) → body ≡ old ++ f → count ≤ len - length body → length a < count → length old + length (f ++ a) < len
few-more len count old body f a e within lt =
    let size = ap (length {A = ℕ}) e ∙ length-append old f in
    omega (arith, within, lt, size, length-append f a)

pub fills-fault : (len count : ℕ) (old body more : List ℕ) (fault : PipeFault) (x y z : Peer) → count ≤ len - length body → ((came : List ℕ) × Took came x y × (body ≡ old ++ came))
    → AddsPiece count body (Err fault) more y z → FillsBody len old (Err fault) more x z
fills-fault len count old body more NotPut x y z within f a = absurd a
fills-fault len count old body more NotTaken x y z within f a =
    (f.0 ++ a.0, took-more f.0 a.0 (f.0 ++ a.0) x y z refl f.1 a.1, few-more len count old body f.0 a.0 f.2 within a.2)
fills-fault len count old body more Ended x y z within f a =
    (f.0 ++ a.0, took-more f.0 a.0 (f.0 ++ a.0) x y z refl f.1 a.1, few-more len count old body f.0 a.0 f.2 within a.2, a.3)
fills-fault len count old body more BadLength x y z within f a = absurd a
fills-fault len count old body more NoAnswer x y z within f a = absurd a
fills-fault len count old body more Memory x y z within f a = (f.0 ++ a.0, took-more f.0 a.0 (f.0 ++ a.0) x y z refl f.1 a.1)

-- ---- a frame

no-answer-short : (came : List ℕ) → length came < 4 → HasAnswer came → ⊥
no-answer-short came lt h =
    let len = ap (length {A = ℕ}) h.3 ∙ length-append (frame h.0) h.1 in
    let more = length-append (to_be_bytes w32 (length h.0)) h.0 in
    let four : length (to_be_bytes w32 (length h.0)) ≡ 4 = refl in
    omega (arith, len, more, four, lt)

pub frame-fault : (fault : PipeFault) (x y : Peer) → TakesLength (Err fault) x y → TakesFrame (Err fault) x y
frame-fault NotPut x y t = absurd t
frame-fault NotTaken x y t = (t.0, t.1, no-answer-short t.0 t.2)
frame-fault Ended x y t = (t.0, t.1, no-answer-short t.0 t.2, t.3)
frame-fault BadLength x y t = absurd t
frame-fault NoAnswer x y t = absurd t
frame-fault Memory x y t = absurd t

no-answer-part : (n : ℕ) (came : List ℕ) → n < 2 ^ 32 → length came < n → HasAnswer (to_be_bytes w32 n ++ came) → ⊥
no-answer-part n came small lt h =
    let p = one-length n (length h.0) came (h.0 ++ h.1) small (short-frame (length h.0) h.2.1) (h.3 ∙ append_assoc (to_be_bytes w32 (length h.0)) h.0 h.1) in
    let same = p.0 in
    let len = ap (length {A = ℕ}) p.1 ∙ length-append h.0 h.1 in
    omega (arith, same, len, lt)

pub frame-taken : (n : ℕ) (result : Result (Vec ℕ Global) PipeFault) (x y z : Peer) → TakesLength (Ok n) x y → TakesRest n result y z → TakesFrame result x z
frame-taken n (Ok body) x y z t b =
    let len = b.1.1 in
    (took-more (to_be_bytes w32 n) body.items (frame body.items) x y z (ap (λ (k : ℕ). to_be_bytes w32 k ++ body.items) len) t.1 b.1.0, subst IsAnswerLength (sym len) b.0)
frame-taken n (Err NotPut) x y z t b = absurd b.1
frame-taken n (Err NotTaken) x y z t b = (to_be_bytes w32 n ++ b.1.0, took-more (to_be_bytes w32 n) b.1.0 (to_be_bytes w32 n ++ b.1.0) x y z refl t.1 b.1.1, no-answer-part n b.1.0 t.0 b.1.2)
frame-taken n (Err Ended) x y z t b = (to_be_bytes w32 n ++ b.1.0, took-more (to_be_bytes w32 n) b.1.0 (to_be_bytes w32 n ++ b.1.0) x y z refl t.1 b.1.1, no-answer-part n b.1.0 t.0 b.1.2, b.1.3)
frame-taken n (Err BadLength) x y z t b = (n, t.0, b.0, took-more (to_be_bytes w32 n) [] (to_be_bytes w32 n) x y z (sym (append-nil (to_be_bytes w32 n))) t.1 b.1)
frame-taken n (Err NoAnswer) x y z t b = absurd b.1
frame-taken n (Err Memory) x y z t b = (to_be_bytes w32 n ++ b.1.0, took-more (to_be_bytes w32 n) b.1.0 (to_be_bytes w32 n ++ b.1.0) x y z refl t.1 b.1.1)

-- ---- behind what was put

pub asked-took : (asked came : List ℕ) (x y z : Peer) → PutsWhole asked x y → Took came y z → Asked asked came x z
asked-took asked came x y z p t = record { mid = y; put = p; split = t.split; taken = t.taken; mirror = t.mirror }

pub exchanged : (asked : List ℕ) (result : Result (Vec ℕ Global) PipeFault) (x y z : Peer) → PutsWhole asked x y → TakesFrame result y z → Exchanges asked result x z
exchanged asked (Ok body) x y z p t = (asked-took asked (frame body.items) x y z p t.0, t.1)
exchanged asked (Err NotPut) x y z p t = absurd t
exchanged asked (Err NotTaken) x y z p t = (t.0, asked-took asked t.0 x y z p t.1, t.2)
exchanged asked (Err Ended) x y z p t = (t.0, asked-took asked t.0 x y z p t.1, t.2, t.3)
exchanged asked (Err BadLength) x y z p t = (t.0, t.1, t.2, asked-took asked (to_be_bytes w32 t.0) x y z p t.3)
exchanged asked (Err NoAnswer) x y z p t = absurd t
exchanged asked (Err Memory) x y z p t = (t.0, asked-took asked t.0 x y z p t.1)
