-- What a text spells whose first word is cut off.
use Rattle.std.proofs.Common.{◌≡◌, ◌≢◌, ◌<◌, ◌≤◌, ◌+◌, ◌-◌, ℕ, true, false, ◌⊎◌, inl, inr, List, [], ◌∷◌, ◌++◌, None, Ok, Err, take, length, get_or, refl, sym, ◌∙◌, ap, subst, arith, append_assoc, append-nil}
use Rattle.std.specs.Prelude.{nat_eq, codes, IfOk}
use Rattle.std.specs.declared.result.Result.{Result}
use Rattle.std.specs.Cmp.Lexicographic.{pointwise, bytes_decides}
use Rattle.std.proofs.lemmas.Bool.{true≢false, eqb-false, ne_eqb}
use Rattle.std.proofs.lemmas.List.{length-append, take_more}
use Rattle.outside.proofs.PartsLemmas.{none-append}
use Rattle.id_groups.specs.Name.{Name, SpellsName, name_of}
use Rattle.id_groups.proofs.Names.{name_of-spelled}
use Rattle.set_expr.specs.declared.words.Word.{Word}
use Rattle.set_expr.specs.declared.words.Call.{Call}
use Rattle.set_expr.specs.declared.words.PairCall.{PairCall}
use Rattle.set_expr.specs.declared.words.Head.{Head}
use Rattle.set_expr.specs.declared.words.Head.TheVariants as heads
use Rattle.set_expr.specs.Expr.{Expr, One, Named, Of, OfTwo, Up, Top, node_count, depth, commits_in}
use Rattle.set_expr.specs.Spelling.{word_text, call_text, pair_text, SpellsNumber, SpellsTree, SpellsExpr, one_argument, two_arguments}
use Rattle.set_expr.specs.Fronts.{head_text, Unmarked, Ends, Breaks, IsFront, IsLeaf, IsLast, IsUp}
use Rattle.set_expr.proofs.Marks.{unmarked-number, unmarked-name, unmarked-word, part-same, word-same, word-apart}
use Rattle.set_expr.proofs.OneSpelling.{Heads, Stands, one-head, ACall, heads-stand, head-of, head-two, head-up, head-top, one-tree}

-- another text than the word
pub not-same : (text word : List ℕ) → false ≡ pointwise nat_eq text word → text ≡ word → ⊥
not-same text word h e = true≢false (sym ((bytes_decides text word).1 e) ∙ sym h)

pub depth-above : {N : Type 0} (e : Expr N) → 0 < depth e
depth-above (One x) = omega arith
depth-above (Named word) = omega arith
depth-above (Of call s) = omega arith
depth-above (OfTwo call a b) = omega arith
depth-above (Up x n) = omega arith
depth-above (Top s n) = omega arith

pub nodes-above : {N : Type 0} (e : Expr N) → 0 < node_count e
nodes-above (One x) = omega arith
nodes-above (Named word) = omega arith
nodes-above (Of call s) = omega arith
nodes-above (OfTwo call a b) = omega arith
nodes-above (Up x n) = omega arith
nodes-above (Top s n) = omega arith

-- each name is a node
pub few-names : {N : Type 0} (e : Expr N) → length (commits_in e) ≤ node_count e
few-names (One x) = omega arith
few-names (Named word) = omega arith
few-names (Of call s) = let few = few-names s in omega arith
few-names {N = N} (OfTwo call a b) = let few = few-names a in let more = few-names b in omega (arith, length-append {A = N})
few-names (Up x n) = omega arith
few-names (Top s n) = let few = few-names s in omega arith

-- no expression has no level, and none has no node
pub none-flat : (text : List ℕ) (levels nodes : ℕ) → levels ≡ 0 → (e : Expr Name) (rest : List ℕ) → IsFront text levels nodes e rest → ⊥
none-flat text levels nodes zero e rest f = let above = depth-above e in omega (arith, f.deep)

pub none-bare : (text : List ℕ) (levels nodes : ℕ) → nodes ≡ 0 → (e : Expr Name) (rest : List ℕ) → IsFront text levels nodes e rest → ⊥
none-bare text levels nodes zero e rest f = let above = nodes-above e in omega (arith, f.many)

-- one more byte that is no mark
unmarked-one : (b : ℕ) → (b ≡ 40 → ⊥) → (b ≡ 41 → ⊥) → (b ≡ 44 → ⊥) → Unmarked (b ∷ [])
unmarked-one b x y z = record { opening = (ne_eqb b 40 x, tt); closing = (ne_eqb b 41 y, tt); comma = (ne_eqb b 44 z, tt) }

pub unmarked-more : (xs : List ℕ) (i d : ℕ) → i < length xs → Unmarked (take i xs)
    → (((get_or xs i d ≡ 40) ⊎ ((get_or xs i d ≡ 41) ⊎ (get_or xs i d ≡ 44))) → ⊥) → Unmarked (take (i + 1) xs)
unmarked-more xs i d lt u off =
    let b = get_or xs i d in
    let one = unmarked-one b (λ e. off (inl e)) (λ e. off (inr (inl e))) (λ e. off (inr (inr e))) in
    let next : take (i + 1) xs ≡ take i xs ++ b ∷ [] = take_more xs i d lt in
    subst Unmarked (sym next) (record {
      opening = none-append 40 (take i xs) (b ∷ []) u.opening one.opening;
      closing = none-append 41 (take i xs) (b ∷ []) u.closing one.closing;
      comma = none-append 44 (take i xs) (b ∷ []) u.comma one.comma;
    })

-- what breaks a word and is no opening bracket ends an expression
pub breaks-ends : (xs : List ℕ) → Breaks xs → ((rest : List ℕ) → xs ≡ 40 ∷ rest → ⊥) → Ends xs
breaks-ends [] b none = tt
breaks-ends (c ∷ xs) (inl e) none = absurd (none xs (ap (λ z. z ∷ xs) e))
breaks-ends (c ∷ xs) (inr e) none = e

-- a text that is cut at the same kind of place twice
breaks-marked : (b : ℕ) (xs rest : List ℕ) → Unmarked (b ∷ xs) → Breaks (b ∷ rest) → ⊥
breaks-marked b xs rest h (inl e) = eqb-false b 40 h.opening.0 e
breaks-marked b xs rest h (inr (inl e)) = eqb-false b 41 h.closing.0 e
breaks-marked b xs rest h (inr (inr e)) = eqb-false b 44 h.comma.0 e

unmarked-tail : (b : ℕ) (xs : List ℕ) → Unmarked (b ∷ xs) → Unmarked xs
unmarked-tail b xs h = record { opening = h.opening.1; closing = h.closing.1; comma = h.comma.1 }

pub cut-same : (u x v y : List ℕ) → Unmarked u → Unmarked v → Breaks x → Breaks y → u ++ x ≡ v ++ y → (u ≡ v) × (x ≡ y)
cut-same [] x [] y h k i j e = (refl, e)
cut-same [] [] (c ∷ v) y h k i j e = cc
cut-same [] (b ∷ x) (c ∷ v) y h k i j e = let same : b ≡ c = cc in absurd (breaks-marked c v x k (let P : ℕ → Type 0 = λ n. (n ≡ 40) ⊎ ((n ≡ 41) ⊎ (n ≡ 44)) in subst P same i))
cut-same (b ∷ u) x [] [] h k i j e = cc
cut-same (b ∷ u) x [] (c ∷ y) h k i j e = let same : c ≡ b = cc in absurd (breaks-marked b u y h (let P : ℕ → Type 0 = λ n. (n ≡ 40) ⊎ ((n ≡ 41) ⊎ (n ≡ 44)) in subst P same j))
cut-same (b ∷ u) x (c ∷ v) y h k i j e =
    let head : b ≡ c = cc in
    let tail : u ++ x ≡ v ++ y = cc in
    let rest = cut-same u x v y (unmarked-tail b u h) (unmarked-tail c v k) i j tail in
    (cc, rest.1)

-- a text that is no name and no word
pub no-leaf : (text : List ℕ) → None ≡ name_of text → ((word : Word) → text ≡ word_text word → ⊥) → (e : Expr Name) → IsLeaf text e → ⊥
no-leaf text none words (One x) h = let some = name_of-spelled text x h in cc (none, some)
no-leaf text none words (Named word) h = words word h
no-leaf text none words (Of call s) h = h
no-leaf text none words (OfTwo call a b) h = h
no-leaf text none words (Up x n) h = h
no-leaf text none words (Top s n) h = h

-- a text that is cut behind its first word, which opens no bracket
module _ (text word behind : List ℕ) (whole : text ≡ word ++ behind) (plain : Unmarked word) (breaks : Breaks behind) (shut : (rest : List ℕ) → behind ≡ 40 ∷ rest → ⊥) where
  stands : Stands text word behind
  stands = record { plain = plain; ends = breaks-ends behind breaks shut; whole = whole }

  pub only-leaf : (levels nodes : ℕ) (e : Expr Name) (rest : List ℕ) → IsFront text levels nodes e rest → IsLeaf word e
  only-leaf levels nodes (One x) rest f =
      subst (λ (t : List ℕ). SpellsName t x) (word-same f.front rest word behind (unmarked-name f.front x f.spells) plain f.ends (breaks-ends behind breaks shut) (sym f.whole ∙ whole)).0 f.spells
  only-leaf levels nodes (Named w) rest f =
      sym (word-same f.front rest word behind (subst Unmarked (sym f.spells) (unmarked-word w)) plain f.ends (breaks-ends behind breaks shut) (sym f.whole ∙ whole)).0 ∙ f.spells
  only-leaf levels nodes (Of call s) rest f = absurd (heads-stand (f.front ++ rest) text (ACall (heads.Of call)) _ word behind (head-of f.front rest call s f.spells) stands (sym f.whole))
  only-leaf levels nodes (OfTwo call s t) rest f = absurd (heads-stand (f.front ++ rest) text (ACall (heads.OfTwo call)) _ word behind (head-two f.front rest call s t f.spells) stands (sym f.whole))
  only-leaf levels nodes (Up x n) rest f = absurd (heads-stand (f.front ++ rest) text (ACall heads.Up) _ word behind (head-up f.front rest x n f.spells) stands (sym f.whole))
  only-leaf levels nodes (Top s n) rest f = absurd (heads-stand (f.front ++ rest) text (ACall heads.Top) _ word behind (head-top f.front rest s n f.spells) stands (sym f.whole))

regroup-one : (word a rest : List ℕ) → word ++ 40 ∷ (a ++ 41 ∷ rest) ≡ one_argument word a ++ rest
regroup-one word a rest = sym (simp append_assoc)

regroup-two : (word a b rest : List ℕ) → word ++ 40 ∷ (a ++ 44 ∷ (b ++ 41 ∷ rest)) ≡ two_arguments word a b ++ rest
regroup-two word a b rest = sym (simp append_assoc)

-- two expressions at the front of one text
pub one-front : (text : List ℕ) (l m k n : ℕ) (e f : Expr Name) (x y : List ℕ) → IsFront text l m e x → IsFront text k n f y → (e ≡ f) × (x ≡ y)
one-front text l m k n e f x y h g = one-tree e f h.front g.front x y h.spells g.spells h.ends g.ends (sym h.whole ∙ g.whole)

-- what stands behind the bracket that a head opens
abbrev pub Opens : Head → List ℕ → List ℕ → ℕ → ℕ → Type 0
Opens (heads.Of call) inner rest levels left = (s : Expr Name) × IsFront inner (levels - 1) left s (41 ∷ rest) × Ends rest
Opens (heads.OfTwo call) inner rest levels left =
    (s : Expr Name) × (t : Expr Name) × (more : List ℕ) × IsFront inner (levels - 1) left s (44 ∷ more)
    × IsFront more (levels - 1) (left - node_count s) t (41 ∷ rest) × Ends rest
Opens heads.Up inner rest levels left = (x : Name) × (n : ℕ) × IsUp inner x n rest
Opens heads.Top inner rest levels left = (s : Expr Name) × (n : ℕ) × (more : List ℕ) × IsFront inner (levels - 1) left s more × IsLast more n rest

-- a text that is cut at the bracket behind its first word
module _ (text word behind inner : List ℕ) (levels nodes left : ℕ) (cut : text ≡ word ++ behind) (bracket : behind ≡ 40 ∷ inner) (plain : Unmarked word) (taken : left + 1 ≡ nodes) where
  whole : text ≡ word ++ 40 ∷ inner
  whole = cut ∙ ap (λ (t : List ℕ). word ++ t) bracket

  same-head : (e : Expr Name) (rest : List ℕ) (head : Head) (f : IsFront text levels nodes e rest) (x : List ℕ) (h : Heads (f.front ++ rest) (ACall head) x)
      → h.word ≡ head_text head → (word ≡ head_text head) × (x ≡ inner)
  same-head e rest head f x h is =
      let same = part-same 40 h.word x word inner h.plain.opening plain.opening (sym h.whole ∙ sym f.whole ∙ whole) in
      (sym same.0 ∙ is, same.1)

  -- no name and no word
  no-stand : (e : Expr Name) (rest : List ℕ) (f : IsFront text levels nodes e rest) → Unmarked f.front → ⊥
  no-stand e rest f u = word-apart f.front rest word inner u f.ends plain (sym f.whole ∙ whole)

  pub opens : (e : Expr Name) (rest : List ℕ) → IsFront text levels nodes e rest
      → (head : Head) × (word ≡ head_text head) × Opens head inner rest levels left
  opens (One x) rest f = absurd (no-stand (One x) rest f (unmarked-name f.front x f.spells))
  opens (Named w) rest f = absurd (no-stand (Named w) rest f (subst Unmarked (sym f.spells) (unmarked-word w)))
  opens (Of call s) rest f =
      let q = same-head (Of call s) rest (heads.Of call) f _ (head-of f.front rest call s f.spells) refl in (
        heads.Of call,
        q.0,
        (
          s,
          record {
            front = f.spells.0;
            whole = sym q.1;
            spells = f.spells.1;
            ends = inl refl;
            deep = omega (arith, f.deep);
            many = omega (arith, f.many);
          },
          f.ends,
        ),
      )
  opens (OfTwo call s t) rest f =
      let q = same-head (OfTwo call s t) rest (heads.OfTwo call) f _ (head-two f.front rest call s t f.spells) refl in (
        heads.OfTwo call,
        q.0,
        (
          s,
          t,
          f.spells.1 ++ 41 ∷ rest,
          record {
            front = f.spells.0;
            whole = sym q.1;
            spells = f.spells.2;
            ends = inr refl;
            deep = omega (arith, f.deep);
            many = omega (arith, f.many);
          },
          record {
            front = f.spells.1;
            whole = refl;
            spells = f.spells.3;
            ends = inl refl;
            deep = omega (arith, f.deep);
            many = omega (arith, f.many);
          },
          f.ends,
        ),
      )
  opens (Up x n) rest f =
      let q = same-head (Up x n) rest heads.Up f _ (head-up f.front rest x n f.spells) refl in (
        heads.Up,
        q.0,
        (
          x,
          n,
          record {
            name = f.spells.0;
            behind = 44 ∷ (f.spells.1 ++ 41 ∷ rest);
            whole = sym q.1;
            spells = f.spells.2;
            last = record { digits = f.spells.1; whole = refl; spells = f.spells.3; ends = f.ends };
          },
        ),
      )
  opens (Top s n) rest f =
      let q = same-head (Top s n) rest heads.Top f _ (head-top f.front rest s n f.spells) refl in (
        heads.Top,
        q.0,
        (
          s,
          n,
          44 ∷ (f.spells.1 ++ 41 ∷ rest),
          record {
            front = f.spells.0;
            whole = sym q.1;
            spells = f.spells.2;
            ends = inr refl;
            deep = omega (arith, f.deep);
            many = omega (arith, f.many);
          },
          record { digits = f.spells.1; whole = refl; spells = f.spells.3; ends = f.ends },
        ),
      )

  -- the word opens nothing
  pub no-head : ((head : Head) → word ≡ head_text head → ⊥) → (e : Expr Name) (rest : List ℕ) → IsFront text levels nodes e rest → ⊥
  no-head none e rest f = let o = opens e rest f in none o.0 o.1

  -- the word opens this
  pub opened : (head : Head) → word ≡ head_text head → (e : Expr Name) (rest : List ℕ) → IsFront text levels nodes e rest → Opens head inner rest levels left
  opened head is e rest f =
      let o = opens e rest f in
      subst (λ (h : Head). Opens h inner rest levels left) (one-head o.0 head (sym o.1 ∙ is)) o.2

  -- the first set can't be read
  pub fail-set : (call : Call) → word ≡ head_text (heads.Of call) → ((s : Expr Name) (y : List ℕ) → IsFront inner (levels - 1) left s y → ⊥)
      → (e : Expr Name) (rest : List ℕ) → IsFront text levels nodes e rest → ⊥
  fail-set call is none e rest f = let o = opened (heads.Of call) is e rest f in none o.0 (41 ∷ rest) o.1

  pub fail-first : (call : PairCall) → word ≡ head_text (heads.OfTwo call) → ((s : Expr Name) (y : List ℕ) → IsFront inner (levels - 1) left s y → ⊥)
      → (e : Expr Name) (rest : List ℕ) → IsFront text levels nodes e rest → ⊥
  fail-first call is none e rest f = let o = opened (heads.OfTwo call) is e rest f in none o.0 (44 ∷ o.2) o.3

  pub fail-most : word ≡ head_text heads.Top → ((s : Expr Name) (y : List ℕ) → IsFront inner (levels - 1) left s y → ⊥)
      → (e : Expr Name) (rest : List ℕ) → IsFront text levels nodes e rest → ⊥
  fail-most is none e rest f = let o = opened heads.Top is e rest f in none o.0 o.2 o.3

  pub fail-up : word ≡ head_text heads.Up → ((x : Name) (n : ℕ) (y : List ℕ) → IsUp inner x n y → ⊥)
      → (e : Expr Name) (rest : List ℕ) → IsFront text levels nodes e rest → ⊥
  fail-up is none e rest f = let o = opened heads.Up is e rest f in none o.0 o.1 rest o.2

  pub up-front : word ≡ head_text heads.Up → 0 < levels → (e : Expr Name) (rest : List ℕ) → (x : Name) × (n : ℕ) × (e ≡ Up x n) × IsUp inner x n rest → IsFront text levels nodes e rest
  up-front is deep e rest (x, n, same, u) = subst (λ (t : Expr Name). IsFront text levels nodes t rest) (sym same) (record {
    front = two_arguments (codes "up") u.name u.last.digits;
    whole = whole ∙ ap (λ (w : List ℕ). w ++ 40 ∷ inner) is ∙ ap (λ (i : List ℕ). codes "up" ++ 40 ∷ i) (u.whole ∙ ap (λ (b : List ℕ). u.name ++ b) u.last.whole)
        ∙ regroup-two (codes "up") u.name u.last.digits rest;
    spells = (u.name, u.last.digits, u.spells, u.last.spells, refl);
    ends = u.last.ends;
    deep = omega arith;
    many = omega arith;
  })

  module _ (set : Expr Name) (behind_set : List ℕ) (f : IsFront inner (levels - 1) left set behind_set) where
    -- no bracket closes the call
    pub fail-close : (call : Call) → word ≡ head_text (heads.Of call) → ((y : List ℕ) → behind_set ≡ 41 ∷ y → Ends y → ⊥)
        → (e : Expr Name) (rest : List ℕ) → IsFront text levels nodes e rest → ⊥
    fail-close call is none e rest g =
        let o = opened (heads.Of call) is e rest g in
        let same = one-front inner (levels - 1) left (levels - 1) left o.0 set (41 ∷ rest) behind_set o.1 f in
        none rest (sym same.1) o.2

    pub call-front : (call : Call) → word ≡ head_text (heads.Of call) → 0 < levels → (e : Expr Name) (rest : List ℕ)
        → (e ≡ Of call set) × (behind_set ≡ 41 ∷ rest) × Ends rest → IsFront text levels nodes e rest
    call-front call is deep e rest (same, closes, ends) = subst (λ (t : Expr Name). IsFront text levels nodes t rest) (sym same) (record {
      front = one_argument (call_text call) f.front;
      whole = whole ∙ ap (λ (w : List ℕ). w ++ 40 ∷ inner) is ∙ ap (λ (i : List ℕ). call_text call ++ 40 ∷ i) (f.whole ∙ ap (λ (b : List ℕ). f.front ++ b) closes)
          ∙ regroup-one (call_text call) f.front rest;
      spells = (f.front, f.spells, refl);
      ends = ends;
      deep = let d = f.deep in omega arith;
      many = let m = f.many in omega arith;
    })

    -- no number stands behind the set
    pub fail-last : word ≡ head_text heads.Top → ((n : ℕ) (y : List ℕ) → IsLast behind_set n y → ⊥)
        → (e : Expr Name) (rest : List ℕ) → IsFront text levels nodes e rest → ⊥
    fail-last is none e rest g =
        let o = opened heads.Top is e rest g in
        let same = one-front inner (levels - 1) left (levels - 1) left o.0 set o.2 behind_set o.3 f in
        none o.1 rest (subst (λ (t : List ℕ). IsLast t o.1 rest) same.1 o.4)

    pub top-front : word ≡ head_text heads.Top → 0 < levels → (e : Expr Name) (rest : List ℕ) → (n : ℕ) × (e ≡ Top set n) × IsLast behind_set n rest → IsFront text levels nodes e rest
    top-front is deep e rest (n, same, l) = subst (λ (t : Expr Name). IsFront text levels nodes t rest) (sym same) (record {
      front = two_arguments (codes "top") f.front l.digits;
      whole = whole ∙ ap (λ (w : List ℕ). w ++ 40 ∷ inner) is ∙ ap (λ (i : List ℕ). codes "top" ++ 40 ∷ i) (f.whole ∙ ap (λ (b : List ℕ). f.front ++ b) l.whole)
          ∙ regroup-two (codes "top") f.front l.digits rest;
      spells = (f.front, l.digits, f.spells, l.spells, refl);
      ends = l.ends;
      deep = let d = f.deep in omega arith;
      many = let m = f.many in omega arith;
    })

    -- no comma stands behind the first set
    pub fail-comma : (call : PairCall) → word ≡ head_text (heads.OfTwo call) → ((y : List ℕ) → behind_set ≡ 44 ∷ y → ⊥)
        → (e : Expr Name) (rest : List ℕ) → IsFront text levels nodes e rest → ⊥
    fail-comma call is none e rest g =
        let o = opened (heads.OfTwo call) is e rest g in
        let same = one-front inner (levels - 1) left (levels - 1) left o.0 set (44 ∷ o.2) behind_set o.3 f in
        none o.2 (sym same.1)

    module _ (call : PairCall) (is : word ≡ head_text (heads.OfTwo call)) (more : List ℕ) (comma : behind_set ≡ 44 ∷ more) (last : ℕ) (spent : last + node_count set ≡ left) where
      second-front : (e : Expr Name) (rest : List ℕ) → IsFront text levels nodes e rest → (t : Expr Name) × IsFront more (levels - 1) last t (41 ∷ rest) × Ends rest
      second-front e rest g =
          let o = opened (heads.OfTwo call) is e rest g in
          let same = one-front inner (levels - 1) left (levels - 1) left o.0 set (44 ∷ o.2) behind_set o.3 f in
          let both : 44 ∷ o.2 ≡ 44 ∷ more = same.1 ∙ comma in
          let tail : o.2 ≡ more = cc in
          let sizes : left - node_count o.0 ≡ last = ap (λ (t : Expr Name). left - node_count t) same.0 ∙ (let by : left - node_count set ≡ last = omega arith in by) in
          (o.1, subst (λ (m : ℕ). IsFront more (levels - 1) m o.1 (41 ∷ rest)) sizes (subst (λ (t : List ℕ). IsFront t (levels - 1) (left - node_count o.0) o.1 (41 ∷ rest)) tail o.4), o.5)

      -- the second set can't be read
      pub fail-second : ((t : Expr Name) (y : List ℕ) → IsFront more (levels - 1) last t y → ⊥) → (e : Expr Name) (rest : List ℕ) → IsFront text levels nodes e rest → ⊥
      fail-second none e rest g = let o = second-front e rest g in none o.0 (41 ∷ rest) o.1

      module _ (other : Expr Name) (behind_both : List ℕ) (h : IsFront more (levels - 1) last other behind_both) where
        pub fail-pair : ((y : List ℕ) → behind_both ≡ 41 ∷ y → Ends y → ⊥) → (e : Expr Name) (rest : List ℕ) → IsFront text levels nodes e rest → ⊥
        fail-pair none e rest g =
            let o = second-front e rest g in
            let same = one-front more (levels - 1) last (levels - 1) last o.0 other (41 ∷ rest) behind_both o.1 h in
            none rest (sym same.1) o.2

        pub pair-front : 0 < levels → (e : Expr Name) (rest : List ℕ) → (e ≡ OfTwo call set other) × (behind_both ≡ 41 ∷ rest) × Ends rest → IsFront text levels nodes e rest
        pair-front deep e rest (same, closes, ends) = subst (λ (t : Expr Name). IsFront text levels nodes t rest) (sym same) (record {
          front = two_arguments (pair_text call) f.front h.front;
          whole = whole ∙ ap (λ (w : List ℕ). w ++ 40 ∷ inner) is
              ∙ ap (λ (i : List ℕ). pair_text call ++ 40 ∷ i) (f.whole ∙ ap (λ (b : List ℕ). f.front ++ b) (comma ∙ ap (λ (m : List ℕ). 44 ∷ m) (h.whole ∙ ap (λ (b : List ℕ). h.front ++ b) closes)))
              ∙ regroup-two (pair_text call) f.front h.front rest;
          spells = (f.front, h.front, f.spells, h.spells, refl);
          ends = ends;
          deep = let d = f.deep in let k = h.deep in omega arith;
          many = let m = f.many in let k = h.many in omega arith;
        })

-- a number that is read in two steps
pub last-cut : (text behind digits closing : List ℕ) → text ≡ 44 ∷ behind → behind ≡ digits ++ closing → Unmarked digits → Breaks closing
    → (n : ℕ) (rest : List ℕ) → IsLast text n rest → SpellsNumber digits n × (closing ≡ 41 ∷ rest)
last-cut text behind digits closing whole split plain breaks n rest l =
    let same : 44 ∷ behind ≡ 44 ∷ (l.digits ++ 41 ∷ rest) = sym whole ∙ l.whole in
    let tail : behind ≡ l.digits ++ 41 ∷ rest = cc in
    let cut = cut-same l.digits (41 ∷ rest) digits closing (subst Unmarked (sym l.spells.1) (unmarked-number n l.spells.0)) plain (inr (inl refl)) breaks (sym tail ∙ split) in
    (subst (λ (t : List ℕ). SpellsNumber t n) cut.0 l.spells, sym cut.1)

-- a name before the comma
pub up-cut : (text name behind : List ℕ) → text ≡ name ++ behind → Unmarked name → Breaks behind
    → (x : Name) (n : ℕ) (rest : List ℕ) → IsUp text x n rest → SpellsName name x × IsLast behind n rest
up-cut text name behind split plain breaks x n rest u =
    let cut = cut-same u.name u.behind name behind (unmarked-name u.name x u.spells) plain (subst Breaks (sym u.last.whole) (inr (inr refl))) breaks (sym u.whole ∙ split) in
    (subst (λ (t : List ℕ). SpellsName t x) cut.0 u.spells, subst (λ (t : List ℕ). IsLast t n rest) cut.1 u.last)

-- a fact on a result that is there
pub on-ok : {T E : Type 0} (r : Result T E) (P Q : T → Type 0) → ((x : T) → P x → Q x) → IfOk r P → IfOk r Q
on-ok (Ok x) P Q step h = step x h
on-ok (Err e) P Q step h = tt

-- the whole text
pub whole-front : (text : List ℕ) (e : Expr Name) → SpellsExpr text e → IsFront text 32 256 e []
whole-front text e h = record { front = text; whole = sym (append-nil text); spells = h.2; ends = tt; deep = h.1; many = h.0 }

pub front-whole : (text : List ℕ) (e : Expr Name) (rest : List ℕ) → rest ≡ [] → IsFront text 32 256 e rest → SpellsExpr text e
front-whole text e rest none f =
    (f.many, f.deep, subst (λ (t : List ℕ). SpellsTree t e) (sym (f.whole ∙ ap (λ (r : List ℕ). f.front ++ r) none ∙ append-nil f.front)) f.spells)

pub no-more : (text : List ℕ) (e : Expr Name) (rest : List ℕ) → IsFront text 32 256 e rest → (0 < length rest) → (f : Expr Name) → SpellsExpr text f → ⊥
no-more text e rest g some f h = let same = one-front text 32 256 32 256 e f rest [] g (whole-front text f h) in let none = ap length same.1 in omega arith
