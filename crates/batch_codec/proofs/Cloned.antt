-- What a payload doesn't know was cloned, and the heads of what was.
use Rattle.std.proofs.Common.{◌≡◌, ℕ, ◌-◌, ◌<◌, ◌≤◌, Bool, cond, List, [], ◌∷◌, min, refl, ap, ap₂, ◌∙◌, inl, inr, arith}
use Rattle.std.proofs.lemmas.Bool.{lt-ltb, cases_lt}
use Rattle.id_groups.specs.Lists.{IsIn}
use Rattle.segment_codec.specs.Record.{Segment}
use Rattle.batch_codec.specs.Payload.{Payload, known_ids}
use Rattle.batch_codec.specs.Grammar.{IsPayload, cut_below, heads_among, head_names, cloned_head_names}
use Rattle.batch_codec.proofs.Meanings.{follow-within}
use Rattle.batch_codec.proofs.Knowing.{LieBelow, highest}

pub unknown-cloned : (p : Payload) (id : ℕ) → IsPayload p → p.before ≤ id → id < p.after → (IsIn id (known_ids p) → ⊥) → id < p.cloned
unknown-cloned p id h low high unknown = elim h.by_kind [
  | inl f ↦ absurd (unknown (f.all_known id low high))
  | inr g ↦ elim g [
    | inl c ↦ let all = c.cloned in omega (arith, all, high)
    | inr w ↦ elim (cases_lt id p.cloned) [
      | inl lt ↦ lt
      | inr ge ↦ absurd (unknown (w.all_known id ge high))
    ]
  ]
]

-- segments that lie below the end are cut nowhere
pub cut-whole : (end : ℕ) (ss : List Segment) → LieBelow end ss → cut_below end ss ≡ ss
cut-whole end [] h = refl
cut-whole end (s ∷ ss) h =
    let up = h.0.0 in let lt = h.0.1 in
    ap (λ (b : Bool). cond b (record s { high = min s.high (end - 1) } ∷ cut_below end ss) (cut_below end ss)) (lt-ltb s.low end (omega (arith, up, lt)))
    ∙ ap₂ {C = List Segment} (λ (n : ℕ) (l : List Segment). record s { high = n } ∷ l) (highest end s lt) (cut-whole end ss h.1)

clones-all : (p : Payload) → IsPayload p → p.kind ≡ 2 → p.cloned ≡ p.after
clones-all p h kind = elim h.by_kind [
  | inl f ↦ let one = f.kind in absurd (omega (arith, one, kind))
  | inr g ↦ elim g [
    | inl c ↦ c.cloned
    | inr w ↦ let three = w.kind in absurd (omega (arith, three, kind))
  ]
]

-- the heads of a clone are those of its cloned ids
pub heads-cloned : (p : Payload) → IsPayload p → p.kind ≡ 2 → cloned_head_names p ≡ head_names p
heads-cloned p h kind =
    ap (λ (ss : List Segment). heads_among ss p.known)
    (ap (λ (n : ℕ). cut_below n p.master) (clones-all p h kind) ∙ cut-whole p.after p.master (follow-within p.before p.after p.master h.cover.master))
