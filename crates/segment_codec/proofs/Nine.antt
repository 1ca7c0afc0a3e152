-- The spellings of numbers of two, three and four groups, and of nine.
use Rattle.std.proofs.Common.{◌≡◌, ℕ, ◌+◌, ◌*◌, ◌/◌, ◌%◌, ◌^◌, ◌<◌, ◌≤◌, List, [], ◌∷◌, sym, ap, ◌∙◌, arith, lit≤}
use Rattle.segment_codec.specs.Number.{number_bytes}
use Rattle.segment_codec.proofs.Numbers.{number_next, number_last}

-- one group more than those of what is left
more-group : (n a : ℕ) (rest : List ℕ) → 128 ≤ n → n < 2 ^ 64 → a ≡ n / 128 → number_bytes a ≡ rest → number_bytes n ≡ (n % 128 + 128) ∷ rest
more-group n a rest le lt is e = number_next n le lt ∙ ap (λ m. (n % 128 + 128) ∷ number_bytes m) (sym is) ∙ ap (λ z. (n % 128 + 128) ∷ z) e

-- a number within bounds, and the one a group behind it
record Within (low end n : ℕ) : Type 0 where
  pub least : low ≤ n
  pub below : n < end

behind : (least end n a : ℕ) → Within (128 * least) (128 * end) n → a ≡ n / 128 → Within least end a
behind least end n a w is = let le = w.least in let lt = w.below in record { least = omega (arith, le, is); below = omega (arith, lt, is) }

pub two-groups : (n a : ℕ) → 2 ^ 7 ≤ n → n < 2 ^ 14 → a ≡ n / 128 → number_bytes n ≡ (n % 128 + 128) ∷ a ∷ []
two-groups n a le lt ia =
    let k : 2 ^ 14 ≤ 2 ^ 64 = lit≤ tt in
    let small : a < 128 = omega (arith, lt, ia) in
    more-group n a (a ∷ []) (omega (arith, le)) (omega (arith, k, lt)) ia (number_last a small)

pub three-groups : (n a b : ℕ) → 2 ^ 14 ≤ n → n < 2 ^ 21 → a ≡ n / 128 → b ≡ a / 128 → number_bytes n ≡ (n % 128 + 128) ∷ (a % 128 + 128) ∷ b ∷ []
three-groups n a b le lt ia ib =
    let k : 2 ^ 21 ≤ 2 ^ 64 = lit≤ tt in
    let wa = behind (2 ^ 7) (2 ^ 14) n a (record { least = let k : 128 * 2 ^ 7 ≤ 2 ^ 14 = lit≤ tt in omega (arith, k, le); below = let k : 2 ^ 21 ≤ 128 * 2 ^ 14 = lit≤ tt in omega (arith, k, lt) }) ia in
    more-group n a ((a % 128 + 128) ∷ b ∷ []) (let k : 128 ≤ 2 ^ 14 = lit≤ tt in omega (arith, k, le)) (omega (arith, k, lt)) ia (two-groups a b wa.least wa.below ib)

pub four-groups : (n a b d : ℕ) → 2 ^ 21 ≤ n → n < 2 ^ 28 → a ≡ n / 128 → b ≡ a / 128 → d ≡ b / 128
    → number_bytes n ≡ (n % 128 + 128) ∷ (a % 128 + 128) ∷ (b % 128 + 128) ∷ d ∷ []
four-groups n a b d le lt ia ib id =
    let k : 2 ^ 28 ≤ 2 ^ 64 = lit≤ tt in
    let wa = behind (2 ^ 14) (2 ^ 21) n a (record { least = let k : 128 * 2 ^ 14 ≤ 2 ^ 21 = lit≤ tt in omega (arith, k, le); below = let k : 2 ^ 28 ≤ 128 * 2 ^ 21 = lit≤ tt in omega (arith, k, lt) }) ia in
    more-group n a ((a % 128 + 128) ∷ (b % 128 + 128) ∷ d ∷ []) (let k : 128 ≤ 2 ^ 21 = lit≤ tt in omega (arith, k, le)) (omega (arith, k, lt)) ia (three-groups a b d wa.least wa.below ib id)

pub nine-groups : (n a b c d e f g h : ℕ) → 2 ^ 56 ≤ n → n < 2 ^ 63 → a ≡ n / 128 → b ≡ a / 128 → c ≡ b / 128 → d ≡ c / 128 → e ≡ d / 128 → f ≡ e / 128 → g ≡ f / 128 → h ≡ g / 128
    → number_bytes n ≡ (n % 128 + 128) ∷ (a % 128 + 128) ∷ (b % 128 + 128) ∷ (c % 128 + 128) ∷ (d % 128 + 128) ∷ (e % 128 + 128) ∷ (f % 128 + 128) ∷ (g % 128 + 128) ∷ h ∷ []
nine-groups n a b c d e f g h le lt ia ib ic jd ie jf ig ih =
    let wn : Within (2 ^ 56) (2 ^ 63) n = record { least = le; below = lt } in
    let wa = behind (2 ^ 49) (2 ^ 56) n a (record { least = let k : 128 * 2 ^ 49 ≤ 2 ^ 56 = lit≤ tt in let m = wn.least in omega (arith, k, m); below = let k : 2 ^ 63 ≤ 128 * 2 ^ 56 = lit≤ tt in let m = wn.below in omega (arith, k, m) }) ia in
    let wb = behind (2 ^ 42) (2 ^ 49) a b (record { least = let k : 128 * 2 ^ 42 ≤ 2 ^ 49 = lit≤ tt in let m = wa.least in omega (arith, k, m); below = let k : 2 ^ 56 ≤ 128 * 2 ^ 49 = lit≤ tt in let m = wa.below in omega (arith, k, m) }) ib in
    let wc = behind (2 ^ 35) (2 ^ 42) b c (record { least = let k : 128 * 2 ^ 35 ≤ 2 ^ 42 = lit≤ tt in let m = wb.least in omega (arith, k, m); below = let k : 2 ^ 49 ≤ 128 * 2 ^ 42 = lit≤ tt in let m = wb.below in omega (arith, k, m) }) ic in
    let wd = behind (2 ^ 28) (2 ^ 35) c d (record { least = let k : 128 * 2 ^ 28 ≤ 2 ^ 35 = lit≤ tt in let m = wc.least in omega (arith, k, m); below = let k : 2 ^ 42 ≤ 128 * 2 ^ 35 = lit≤ tt in let m = wc.below in omega (arith, k, m) }) jd in
    let we = behind (2 ^ 21) (2 ^ 28) d e (record { least = let k : 128 * 2 ^ 21 ≤ 2 ^ 28 = lit≤ tt in let m = wd.least in omega (arith, k, m); below = let k : 2 ^ 35 ≤ 128 * 2 ^ 28 = lit≤ tt in let m = wd.below in omega (arith, k, m) }) ie in
    let wf = behind (2 ^ 14) (2 ^ 21) e f (record { least = let k : 128 * 2 ^ 14 ≤ 2 ^ 21 = lit≤ tt in let m = we.least in omega (arith, k, m); below = let k : 2 ^ 28 ≤ 128 * 2 ^ 21 = lit≤ tt in let m = we.below in omega (arith, k, m) }) jf in
    let wg = behind (2 ^ 7) (2 ^ 14) f g (record { least = let k : 128 * 2 ^ 7 ≤ 2 ^ 14 = lit≤ tt in let m = wf.least in omega (arith, k, m); below = let k : 2 ^ 21 ≤ 128 * 2 ^ 14 = lit≤ tt in let m = wf.below in omega (arith, k, m) }) ig in
    let wh = behind (2 ^ 0) (2 ^ 7) g h (record { least = let k : 128 * 2 ^ 0 ≤ 2 ^ 7 = lit≤ tt in let m = wg.least in omega (arith, k, m); below = let k : 2 ^ 14 ≤ 128 * 2 ^ 7 = lit≤ tt in let m = wg.below in omega (arith, k, m) }) ih in
    let small : h < 128 = wh.below in
    let eh = number_last h small in
    let eg = more-group g h _ (let k : 128 ≤ 2 ^ 7 = lit≤ tt in let m = wg.least in omega (arith, k, m)) (let k : 2 ^ 14 ≤ 2 ^ 64 = lit≤ tt in let m = wg.below in omega (arith, k, m)) ih eh in
    let ef = more-group f g _ (let k : 128 ≤ 2 ^ 14 = lit≤ tt in let m = wf.least in omega (arith, k, m)) (let k : 2 ^ 21 ≤ 2 ^ 64 = lit≤ tt in let m = wf.below in omega (arith, k, m)) ig eg in
    let ee = more-group e f _ (let k : 128 ≤ 2 ^ 21 = lit≤ tt in let m = we.least in omega (arith, k, m)) (let k : 2 ^ 28 ≤ 2 ^ 64 = lit≤ tt in let m = we.below in omega (arith, k, m)) jf ef in
    let ed = more-group d e _ (let k : 128 ≤ 2 ^ 28 = lit≤ tt in let m = wd.least in omega (arith, k, m)) (let k : 2 ^ 35 ≤ 2 ^ 64 = lit≤ tt in let m = wd.below in omega (arith, k, m)) ie ee in
    let ec = more-group c d _ (let k : 128 ≤ 2 ^ 35 = lit≤ tt in let m = wc.least in omega (arith, k, m)) (let k : 2 ^ 42 ≤ 2 ^ 64 = lit≤ tt in let m = wc.below in omega (arith, k, m)) jd ed in
    let eb = more-group b c _ (let k : 128 ≤ 2 ^ 42 = lit≤ tt in let m = wb.least in omega (arith, k, m)) (let k : 2 ^ 49 ≤ 2 ^ 64 = lit≤ tt in let m = wb.below in omega (arith, k, m)) ic ec in
    let ea = more-group a b _ (let k : 128 ≤ 2 ^ 49 = lit≤ tt in let m = wa.least in omega (arith, k, m)) (let k : 2 ^ 56 ≤ 2 ^ 64 = lit≤ tt in let m = wa.below in omega (arith, k, m)) ib eb in
    let en = more-group n a _ (let k : 128 ≤ 2 ^ 56 = lit≤ tt in let m = wn.least in omega (arith, k, m)) (let k : 2 ^ 63 ≤ 2 ^ 64 = lit≤ tt in let m = wn.below in omega (arith, k, m)) ia ea in
    en
