-- From bytes to a log.
use Rattle.std.proofs.Common.{◌≡◌, ℕ, ◌≤◌, ◌+◌, ◌^◌, List, [], ◌∷◌, ◌++◌, length, take, refl, sym, ◌∙◌, ap, subst, arith, length-append, append_assoc, take_at}
use Rattle.gated_log.specs.Log.{IsLog, batches}
use Rattle.gated_log.specs.Held.{held, IsWhole, payloads_at, gate_of}
use Rattle.gated_log.specs.Scan.{IsClosedAt}
use Rattle.gated_log.specs.Load.{IsLogOf}
use Rattle.gated_log.proofs.Shapes.{is_log, is_whole}

pub fresh_whole : (gates items : List ℕ) (limit : ℕ) → gates ≡ [] → items ≡ 0 ∷ [] → 1 ≤ limit → limit ≤ 2 ^ 32 → IsWhole gates items limit × (payloads_at gates items ≡ []) × (gate_of items ≡ 0)
fresh_whole gates items limit none is least most = is_whole gates items limit [] 0 none is tt (omega arith) (let l = ap length is in omega (arith, l, least)) most

pub loaded : (bytes d gates items : List ℕ) (limit room end : ℕ) → IsClosedAt d gates end → d ≡ bytes → items ≡ take (end + 1) bytes → 2 ≤ length bytes → length bytes ≤ limit → limit ≤ 2 ^ 32
    → IsWhole gates items limit × IsLogOf limit bytes (held gates items limit room)
loaded bytes d gates items limit room end c same is long fits most =
    let front = batches c.payloads in
    let whole : bytes ≡ front ++ c.gate ∷ c.behind = sym same ∙ c.whole in
    let split : bytes ≡ (front ++ c.gate ∷ []) ++ c.behind = whole ∙ sym (append_assoc front (c.gate ∷ []) c.behind) in
    let items_are : items ≡ front ++ c.gate ∷ [] = is ∙ ap (take (end + 1)) split ∙ take_at (front ++ c.gate ∷ []) c.behind (end + 1) (length-append front (c.gate ∷ []) ∙ (let p = c.place in let e : length front + 1 ≡ end + 1 = omega (arith, p) in e)) in
    let size : length items ≤ limit = (let a = ap length items_are in let b = ap length split in omega (arith, a, b, length-append (front ++ c.gate ∷ []) c.behind, fits)) in
    let w = is_whole gates items limit c.payloads c.gate c.opened items_are c.lengths c.closed size most in (
      w.0,
      record {
        most = refl;
        fits = fits;
        is_log = subst (λ l. IsLog bytes l) (sym w.1) (is_log bytes c.payloads c.gate c.behind c.lengths c.closed whole);
        begins = λ _. (fits, c.behind, split ∙ ap (λ l. l ++ c.behind) (sym items_are ∙ w.0.whole));
        fresh = λ short. absurd (omega (arith, short, long));
      },
    )
