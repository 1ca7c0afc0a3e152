use Rattle.std.proofs.Common.{◌≡◌, ◌≤◌, ℕ, List, [], ◌∷◌, ◌++◌, length, take, drop, refl, ap, ◌∙◌, suc, arith}
use Rattle.std.proofs.lemmas.List.{length-take, length-drop, drop-append-le, take-append-le}
use Rattle.batch_codec.specs.Payload.{payload_bytes}
use Rattle.name_map.specs.Added.{Placed, AllStand}
use Rattle.name_map.proofs.laws.payloads_stay.Goals as goal

one-stays : (whole bytes more : List ℕ) (at : ℕ) → take (length whole) (drop at bytes) ≡ whole → take (length whole) (drop at (bytes ++ more)) ≡ whole
one-stays [] bytes more at h = refl
one-stays (x ∷ whole) bytes more at h =
    let n : ℕ = suc (length whole) in
    let size = ap (length {A = ℕ}) h in
    let within : n ≤ length (drop at bytes) = omega (arith, size, length-take {A = ℕ} n (drop at bytes)) in
    let before : at ≤ length bytes = omega (arith, within, length-drop {A = ℕ} at bytes) in
    ap (take n) (drop-append-le at bytes more before) ∙ take-append-le n (drop at bytes) more within ∙ h

all-stay : (bytes more : List ℕ) (added : List Placed) → AllStand bytes added → AllStand (bytes ++ more) added
all-stay bytes more [] h = tt
all-stay bytes more (a ∷ added) h = (one-stays (payload_bytes a.payload) bytes more a.at h.0, all-stay bytes more added h.1)

pub returns : goal.returns
returns c = all-stay
