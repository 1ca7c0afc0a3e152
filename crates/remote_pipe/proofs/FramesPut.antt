-- The pieces of requests that are put one behind another.
use Rattle.std.proofs.Common.{◌≡◌, ℕ, ◌+◌, List, [], ◌∷◌, ◌++◌, length, sym, ap, ◌∙◌, arith, length-append, append_assoc}
use Rattle.std.specs.Int.{w32, w64, to_be_bytes}
use Rattle.remote_serve.specs.Frames.{frame}
use Rattle.remote_serve.specs.Requests.{ToNames}
use Rattle.remote_pipe.specs.Peer.{request_frame}

-- a kind and three pieces behind a front
four-behind : (o t u v z x y w : List ℕ) (k : ℕ) → t ≡ o ++ k ∷ [] → u ≡ t ++ x → v ≡ u ++ y → z ≡ v ++ w → z ≡ o ++ (k ∷ x ++ (y ++ w))
four-behind o t u v z x y w k a b c d =
    d ∙ ap (λ (l : List ℕ). l ++ w) (c ∙ ap (λ (l : List ℕ). l ++ y) (b ∙ ap (λ (l : List ℕ). l ++ x) a))
    ∙ append_assoc ((o ++ k ∷ []) ++ x) y w ∙ append_assoc (o ++ k ∷ []) x (y ++ w) ∙ append_assoc o (k ∷ []) (x ++ (y ++ w))

-- a body that was put behind its length
framed : (out body : List ℕ) (n : ℕ) → length body ≡ n → out ≡ to_be_bytes w32 n ++ body → out ≡ frame body
framed out body n len e = e ∙ ap (λ (k : ℕ). to_be_bytes w32 k ++ body) (sym len)

pub names-framed : (o t u v z x : List ℕ) (back count size : ℕ) → length x ≡ 20 → size ≡ 20 → o ≡ to_be_bytes w32 (13 + size) → t ≡ o ++ 3 ∷ [] → u ≡ t ++ x
    → v ≡ u ++ to_be_bytes w64 back → z ≡ v ++ to_be_bytes w32 count → z ≡ request_frame (ToNames x back count)
names-framed o t u v z x back count size twenty is a b c d e =
    let rest = to_be_bytes w64 back ++ to_be_bytes w32 count in
    let all : length (3 ∷ x ++ rest) ≡ 13 + size = omega (arith, twenty, is, length-append x rest) in
    framed z (3 ∷ x ++ rest) (13 + size) all (four-behind o t u v z x (to_be_bytes w64 back) (to_be_bytes w32 count) 3 b c d e ∙ ap (λ (l : List ℕ). l ++ (3 ∷ x ++ rest)) a)
