-- Bytes from whose front a record was taken, piece by piece.
use Rattle.std.proofs.Common.{◌≡◌, ℕ, List, ◌++◌, Option, Some, None, Bor, sym, ap, ◌∙◌, append_assoc}
use Rattle.std.specs.Prelude.{◌≢◌, IfSome, MatchOption}
use Rattle.segment_codec.specs.Record.{Segment, segment_bytes, head_bytes, parents_bytes}
use Rattle.segment_codec.proofs.Lengths.{record-parts}

pub stripped : (s : Segment) (bytes front behind parents : List ℕ) (r : Option (Bor (List ℕ))) → bytes ≡ front ++ behind → front ≡ head_bytes s → parents ≡ parents_bytes s
    → MatchOption r ((rest : List ℕ) → behind ≢ parents ++ rest) (λ x. behind ≡ parents ++ x.now) → IfSome r (λ rest. bytes ≡ segment_bytes s ++ rest.now)
stripped s bytes front behind parents None e head is more = tt
stripped s bytes front behind parents (Some x) e head is more =
    e ∙ ap (λ z. front ++ z) more ∙ ap (λ z. z ++ (parents ++ x.now)) head ∙ ap (λ z. head_bytes s ++ (z ++ x.now)) is
    ∙ sym (append_assoc (head_bytes s) (parents_bytes s) x.now) ∙ ap (λ z. z ++ x.now) (sym (record-parts s))
