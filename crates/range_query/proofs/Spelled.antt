-- Bytes that spell ids.
use Rattle.std.proofs.Common.{◌≡◌, ℕ, ◌+◌, ◌<◌, ◌≤◌, ◌^◌, ◌%◌, inl, inr, List, [], ◌∷◌, flat_map, refl, sym, subst}
use Rattle.id_groups.specs.Lists.{IsIn}
use Rattle.id_groups.specs.declared.span.IdSpan.{IdSpan}
use Rattle.commit_graph.proofs.Down.{in-left, in-right}
use Rattle.segment_codec.specs.Number.{number_bytes}
use Rattle.segment_codec.specs.Record.{Segment, parents_bytes}
use Rattle.segment_codec.proofs.Numbers.{number_last, number_next}
use Rattle.span_set.specs.Members.{IsMember}
use Rattle.range_query.specs.Parts.{HasParentIn}

-- the first byte of an id's spelling
pub in-short : (n id : ℕ) → n ≡ id → n < 128 → IsIn n (number_bytes id)
in-short n id e lt = subst (λ m. IsIn n (number_bytes m)) e (subst (IsIn n) (sym (number_last n lt)) (inl refl))

pub in-long : (n id : ℕ) → n ≡ id → 128 ≤ n → n < 2 ^ 64 → IsIn (n % 128 + 128) (number_bytes id)
in-long n id e le fits = subst (λ m. IsIn (n % 128 + 128) (number_bytes m)) e (subst (IsIn (n % 128 + 128)) (sym (number_next n le fits)) (inl refl))

-- a byte of one number is a byte of all
in-bytes : (ns : List ℕ) (n b : ℕ) → IsIn n ns → IsIn b (number_bytes n) → IsIn b (flat_map number_bytes ns)
in-bytes [] n b i h = absurd i
in-bytes (m ∷ ns) n b (inl e) h = in-left b (number_bytes m) (flat_map number_bytes ns) (subst (λ k. IsIn b (number_bytes k)) e h)
in-bytes (m ∷ ns) n b (inr i) h = in-right b (number_bytes m) (flat_map number_bytes ns) (in-bytes ns n b i h)

-- where a byte that spells each member is none of the parents' bytes, no parent is a member
pub unspelled : (set : List IdSpan) (s : Segment) (b : ℕ) (bytes : List ℕ) → bytes ≡ parents_bytes s → ((x : ℕ) → IsMember set x → IsIn b (number_bytes x))
    → (IsIn b bytes → ⊥) → HasParentIn set s → ⊥
unspelled set s b bytes is spelled none h = none (subst (IsIn b) (sym is) (in-bytes s.parents h.0 b h.1 (spelled h.0 h.2)))
