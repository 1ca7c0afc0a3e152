-- Numbers that ascend.
use Rattle.std.proofs.Common.{◌≡◌, ℕ, zero, suc, ◌+◌, ◌<◌, ◌≤◌, inl, inr, true, leb, List, [], ◌∷◌, subst, arith}
use Rattle.std.proofs.lemmas.Bool.{and_parts, leb-true}
use Rattle.id_groups.specs.Lists.{IsIn}
use Rattle.id_groups.specs.declared.span.IdSpan.{IdSpan}
use Rattle.segment_codec.specs.Reading.{ascend_from}
use Rattle.segment_codec.specs.Record.{Segment, HasLevelsParents}
use Rattle.segment_codec.specs.Table.{IsEnding}
use Rattle.segment_codec.proofs.Orders.{ascending-decided}
use Rattle.span_set.specs.Members.{IsMember}

-- they ascend from some number on
abbrev pub Climb : List ℕ → Type 0
Climb ns = (least : ℕ) × (ascend_from least ns ≡ true)

above : (least : ℕ) (ns : List ℕ) (m : ℕ) → ascend_from least ns ≡ true → IsIn m ns → least ≤ m
above least [] m h i = absurd i
above least (n ∷ ns) m h (inl e) = omega (arith, leb-true least n (and_parts (leb least n) (ascend_from (n + 1) ns) h).0, e)
above least (n ∷ ns) m h (inr i) =
    let p = and_parts (leb least n) (ascend_from (n + 1) ns) h in
    omega (arith, leb-true least n p.0, above (n + 1) ns m p.1 i)

-- where the first is above all members, none is a member
pub climb-out : (set : List IdSpan) (greatest n : ℕ) (all ns : List ℕ) → all ≡ n ∷ ns → Climb all → ((x : ℕ) → IsMember set x → x ≤ greatest) → greatest < n
    → ((p : ℕ) × IsIn p all × IsMember set p) → ⊥
climb-out set greatest n all ns e h most lt (p, i, m) =
    out (subst Climb e h) (subst (IsIn p) e i)
  where
    out : Climb (n ∷ ns) → IsIn p (n ∷ ns) → ⊥
    out k (inl same) = let le = most p m in absurd (omega arith)
    out k (inr j) = let le = most p m in let up = above (n + 1) ns p (and_parts (leb k.0 n) (ascend_from (n + 1) ns) k.1).1 j in absurd (omega arith)

-- the parents of a segment of a higher level ascend
pub ending-ascends : (flats : List Segment) (level id : ℕ) (s : Segment) → 0 < level → IsEnding flats level id s → ascend_from 0 s.parents ≡ true
ending-ascends flats zero id s some end = absurd (omega arith)
ending-ascends flats (suc k) id s some end =
    let order = subst (λ n. HasLevelsParents n s.parents) end.1 end.0.level_parents in
    ascending-decided 0 s.parents (λ i. omega arith) order.1
