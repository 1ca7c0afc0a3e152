-- The greatest ids of a list of spans.
use Rattle.std.proofs.Common.{◌≡◌, ℕ, zero, suc, ◌+◌, ◌-◌, ◌<◌, ◌≤◌, List, [], ◌∷◌, ◌++◌, length, get_or, take, drop, min, max, refl, sym, subst, arith, ap, ap₂, ◌∙◌}
use Rattle.std.proofs.Math.Seq.{drop-cons, take-suc}
use Rattle.std.proofs.lemmas.List.{append_assoc, append-nil, take-append-drop}
use Rattle.id_groups.specs.declared.span.IdSpan.{IdSpan}
use Rattle.id_groups.specs.Span.{IsSpan}
use Rattle.span_set.specs.Members.{IsCanonical, width, descending_from, ids_of}
use Rattle.span_set.specs.Places.{AreAbove}
use Rattle.span_set.proofs.Order.{span-at}
use Rattle.span_set.proofs.MemberLemmas.{above-at, canonical-left, canonical-middle}
use Rattle.span_set.proofs.Counts.{ids-append}

take-none : (m : ℕ) (rest : List ℕ) → m ≡ 0 → [] ≡ take m rest
take-none m rest e = subst (λ k. [] ≡ take k rest) (sym e) refl

-- the first `left` of n ids are the w ids from p on
take-descending : (low n left p w m : ℕ) (rest : List ℕ) → p + w ≡ low + n → w ≡ min n left → m ≡ left - n
    → take left (descending_from low n ++ rest) ≡ descending_from p w ++ take m rest
take-descending low zero left p zero m rest e f g = ap (λ k. take k rest) (omega arith)
take-descending low zero left p (suc w) m rest e f g = absurd (omega arith)
take-descending low (suc n) zero p zero m rest e f g = take-none m rest (omega arith)
take-descending low (suc n) zero p (suc w) m rest e f g = absurd (omega arith)
take-descending low (suc n) (suc left) p zero m rest e f g = absurd (omega arith)
take-descending low (suc n) (suc left) p (suc w) m rest e f g =
    ap₂ {C = List ℕ} (λ a l. a ∷ l) (omega arith) (take-descending low n left p w m rest (omega arith) (omega arith) (omega arith))

-- the part of s that has its `left` greatest ids
pub record IsUpperPart (s part : IdSpan) (left : ℕ) : Type 0 where
  pub high : part.high ≡ s.high
  pub low : part.low ≡ max s.low (s.high + 1 - left)

pub upper-span : (s part : IdSpan) (left : ℕ) → IsSpan s → 0 < left → IsUpperPart s part left → IsSpan part
upper-span s part left sp some p =
    let h = p.high in let l = p.low in let o = sp.order in let b = sp.bound in record {
      order = omega arith;
      bound = omega arith;
      group = λ small. let g = sp.group (omega arith) in omega arith;
    }

upper-whole : (s part : IdSpan) (left : ℕ) → IsUpperPart s part left → s.high + 1 - s.low ≤ left → s.low ≤ s.high → part ≡ s
upper-whole s part left p le o =
    let l = p.low in ap₂ {C = IdSpan} (λ a b. record { low = a; high = b }) (omega arith) p.high

-- a list with one more part: what is asked for is there, or still to come
pub record Takes (all held : List IdSpan) (i left n : ℕ) : Type 0 where
  pub canonical : IsCanonical held
  pub whole : 0 < left → held ≡ take i all
  pub ids : ids_of held ++ take left (ids_of (drop i all)) ≡ take n (ids_of all)

above-same : (t u : IdSpan) (xs : List IdSpan) → t.high ≡ u.high → AreAbove u xs → AreAbove t xs
above-same t u [] e h = tt
above-same t u (x ∷ xs) e h =
    let a = h.0.under in
    (record { under = omega arith; apart = λ g. h.0.apart (omega arith) }, above-same t u xs e h.1)

module _ (all held : List IdSpan) (i k left rest n : ℕ) (s part : IdSpan) (ca : IsCanonical all) (lt : i < length all) (is : s ≡ get_or all i s)
    (some : 0 < left) (p : IsUpperPart s part left) (ki : k ≡ suc i) (rest-is : rest ≡ left - (part.high + 1 - part.low)) (t : Takes all held i left n) where
  split : all ≡ take i all ++ (s ∷ drop (suc i) all)
  split = sym (take-append-drop i all) ∙ ap (λ l. take i all ++ l) (drop-cons all i s lt ∙ ap (λ u. u ∷ drop (suc i) all) (sym is))

  span : IsSpan s
  span = subst IsSpan (sym is) (span-at all i s ca lt)

  pub take-part : Takes all (held ++ part ∷ []) k rest n
  take-part =
      let cs : IsCanonical (take i all ++ (s ∷ drop (suc i) all)) = subst IsCanonical split ca in
      let above = above-at (take i all) (s ∷ drop (suc i) all) 0 s cs (omega arith) in
      let held-is = t.whole some in
      let order = span.order in
      let high = p.high in let low = p.low in
      let cut = take-descending s.low (width s) left part.low (width part) rest (ids_of (drop (suc i) all)) (omega arith) (omega arith) (omega arith) in
      let behind : ids_of (drop i all) ≡ descending_from s.low (width s) ++ ids_of (drop (suc i) all) =
      ap ids_of (drop-cons all i s lt ∙ ap (λ u. u ∷ drop (suc i) all) (sym is)) in
      record {
        canonical = subst (λ l. IsCanonical (l ++ part ∷ [])) (sym held-is)
            (canonical-middle part (take i all) [] [] (subst IsCanonical (sym (append-nil (take i all))) (canonical-left (take i all) (s ∷ drop (suc i) all) cs))
            (upper-span s part left span some p) (above-same part s (take i all) high above) tt);
        whole = λ more.
            ap₂ {C = List IdSpan} (λ l u. l ++ u ∷ []) held-is (upper-whole s part left p (omega arith) order ∙ is)
            ∙ sym (take-suc all i s lt) ∙ ap (λ k. take k all) (sym ki);
        ids =
            ap (λ l. l ++ take rest (ids_of (drop k all))) (ids-append held (part ∷ []) ∙ ap (λ l. ids_of held ++ l) (append-nil (descending_from part.low (width part))))
            ∙ ap (λ k. ids_of held ++ descending_from part.low (width part) ++ take rest (ids_of (drop k all))) ki
            ∙ append_assoc (ids_of held) (descending_from part.low (width part)) (take rest (ids_of (drop (suc i) all)))
            ∙ ap (λ l. ids_of held ++ l) (sym cut)
            ∙ ap (λ l. ids_of held ++ take left l) (sym behind)
            ∙ t.ids;
      }
