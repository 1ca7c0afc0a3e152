-- No text spells two expressions.
use Rattle.std.proofs.Common.{◌≡◌, ◌≤◌, ℕ, inl, inr, List, [], ◌∷◌, ◌++◌, Option, Some, None, Ok, length, refl, sym, ◌∙◌, ap, ap₂, subst, arith, append_assoc}
use Rattle.std.specs.Prelude.{if◌then◌else◌, codes}
use Rattle.std.specs.Str.{bytes_eq}
use Rattle.std.proofs.lemmas.Fmt.{decimal_injective}
use Rattle.hex.specs.Hex.{decode_of}
use Rattle.hex.proofs.HexLemmas.{decode_of-ok}
use Rattle.id_groups.specs.Name.{Name, SpellsName}
use Rattle.set_expr.specs.declared.words.Word.{Word}
use Rattle.set_expr.specs.declared.words.Word.TheVariants as words
use Rattle.set_expr.specs.declared.words.Call.{Call}
use Rattle.set_expr.specs.declared.words.Head.{Head}
use Rattle.set_expr.specs.declared.words.Head.TheVariants as heads
use Rattle.set_expr.specs.declared.words.Call.TheVariants as calls
use Rattle.set_expr.specs.declared.words.PairCall.{PairCall}
use Rattle.set_expr.specs.declared.words.PairCall.TheVariants as pairs
use Rattle.set_expr.specs.Expr.{Expr, One, Named, Of, OfTwo, Up, Top}
use Rattle.set_expr.specs.Spelling.{word_text, call_text, pair_text, one_argument, two_arguments, SpellsNumber, SpellsTree, SpellsExpr}
use Rattle.set_expr.specs.Fronts.{head_text, Unmarked, Ends}
use Rattle.set_expr.proofs.Marks.{unmarked-word, unmarked-call, unmarked-pair, unmarked-up, unmarked-top, unmarked-name, unmarked-number, part-same, word-same, word-apart}

-- what a word stands for
pub data Form : Type 0 where
  AWord : Word → Form
  ACall : Head → Form

abbrev pub form_of : List ℕ → Option Form
form_of text =
    if bytes_eq text (codes "all") then Some (AWord words.All)
    else if bytes_eq text (codes "master") then Some (AWord words.Master)
    else if bytes_eq text (codes "others") then Some (AWord words.Others)
    else if bytes_eq text (codes "parents") then Some (ACall (heads.Of calls.Parents))
    else if bytes_eq text (codes "children") then Some (ACall (heads.Of calls.Children))
    else if bytes_eq text (codes "ancestors") then Some (ACall (heads.Of calls.Ancestors))
    else if bytes_eq text (codes "descendants") then Some (ACall (heads.Of calls.Descendants))
    else if bytes_eq text (codes "heads") then Some (ACall (heads.Of calls.Heads))
    else if bytes_eq text (codes "roots") then Some (ACall (heads.Of calls.Roots))
    else if bytes_eq text (codes "tips") then Some (ACall (heads.Of calls.Tips))
    else if bytes_eq text (codes "merges") then Some (ACall (heads.Of calls.Merges))
    else if bytes_eq text (codes "common") then Some (ACall (heads.Of calls.Common))
    else if bytes_eq text (codes "line") then Some (ACall (heads.Of calls.Line))
    else if bytes_eq text (codes "gca") then Some (ACall (heads.Of calls.Gca))
    else if bytes_eq text (codes "range") then Some (ACall (heads.OfTwo pairs.Range))
    else if bytes_eq text (codes "only") then Some (ACall (heads.OfTwo pairs.Only))
    else if bytes_eq text (codes "union") then Some (ACall (heads.OfTwo pairs.Union))
    else if bytes_eq text (codes "inter") then Some (ACall (heads.OfTwo pairs.Inter))
    else if bytes_eq text (codes "minus") then Some (ACall (heads.OfTwo pairs.Minus))
    else if bytes_eq text (codes "up") then Some (ACall heads.Up)
    else if bytes_eq text (codes "top") then Some (ACall heads.Top)
    else None

form-word : (word : Word) → form_of (word_text word) ≡ Some (AWord word)
form-word words.All = refl
form-word words.Master = refl
form-word words.Others = refl

pub form-head : (head : Head) → form_of (head_text head) ≡ Some (ACall head)
form-head (heads.Of calls.Parents) = refl
form-head (heads.Of calls.Children) = refl
form-head (heads.Of calls.Ancestors) = refl
form-head (heads.Of calls.Descendants) = refl
form-head (heads.Of calls.Heads) = refl
form-head (heads.Of calls.Roots) = refl
form-head (heads.Of calls.Tips) = refl
form-head (heads.Of calls.Merges) = refl
form-head (heads.Of calls.Common) = refl
form-head (heads.Of calls.Line) = refl
form-head (heads.Of calls.Gca) = refl
form-head (heads.OfTwo pairs.Range) = refl
form-head (heads.OfTwo pairs.Only) = refl
form-head (heads.OfTwo pairs.Union) = refl
form-head (heads.OfTwo pairs.Inter) = refl
form-head (heads.OfTwo pairs.Minus) = refl
form-head heads.Up = refl
form-head heads.Top = refl

-- a word opens one thing
pub one-head : (h k : Head) → head_text h ≡ head_text k → h ≡ k
one-head h k e = let same : Some (ACall h) ≡ Some (ACall k) = sym (form-head h) ∙ ap form_of e ∙ form-head k in cc

-- the text is a word, an opening bracket and what is behind it
pub record Heads (text : List ℕ) (form : Form) (behind : List ℕ) : Type 0 where
  pub word : List ℕ
  pub plain : Unmarked word
  pub means : form_of word ≡ Some form
  pub whole : text ≡ word ++ 40 ∷ behind

-- the text is a word with an end behind it
pub record Stands (text word rest : List ℕ) : Type 0 where
  pub plain : Unmarked word
  pub ends : Ends rest
  pub whole : text ≡ word ++ rest

abbrev pub heads-one : (text : List ℕ) (form : Form) (word a x : List ℕ) → Unmarked word → form_of word ≡ Some form → text ≡ one_argument word a → Heads (text ++ x) form (a ++ 41 ∷ x)
heads-one text form word a x plain means is = record {
  word = word;
  plain = plain;
  means = means;
  whole = ap (λ t. t ++ x) is ∙ (let regroup : one_argument word a ++ x ≡ word ++ 40 ∷ (a ++ 41 ∷ x) = simp append_assoc in regroup);
}

abbrev pub heads-two : (text : List ℕ) (form : Form) (word a b x : List ℕ) → Unmarked word → form_of word ≡ Some form → text ≡ two_arguments word a b → Heads (text ++ x) form (a ++ 44 ∷ (b ++ 41 ∷ x))
heads-two text form word a b x plain means is = record {
  word = word;
  plain = plain;
  means = means;
  whole = ap (λ t. t ++ x) is ∙ (let regroup : two_arguments word a b ++ x ≡ word ++ 40 ∷ (a ++ 44 ∷ (b ++ 41 ∷ x)) = simp append_assoc in regroup);
}

-- two such texts that are the same
pub heads-same : (s t : List ℕ) (F G : Form) (x y : List ℕ) → Heads s F x → Heads t G y → s ≡ t → (F ≡ G) × (x ≡ y)
heads-same s t F G x y h k e =
    let same = part-same 40 h.word x k.word y h.plain.opening k.plain.opening (sym h.whole ∙ e ∙ k.whole) in
    let forms : Some F ≡ Some G = sym h.means ∙ ap form_of same.0 ∙ k.means in
    (cc, same.1)

pub heads-stand : (s t : List ℕ) (F : Form) (x w y : List ℕ) → Heads s F x → Stands t w y → s ≡ t → ⊥
heads-stand s t F x w y h k e = word-apart w y h.word x k.plain k.ends h.plain (sym k.whole ∙ sym e ∙ h.whole)

pub stands-same : (s t u x v y : List ℕ) → Stands s u x → Stands t v y → s ≡ t → (u ≡ v) × (x ≡ y)
stands-same s t u x v y h k e = word-same u x v y h.plain k.plain h.ends k.ends (sym h.whole ∙ e ∙ k.whole)

pub names-same : (s t : List ℕ) (a b : Name) → SpellsName s a → SpellsName t b → s ≡ t → a ≡ b
names-same s t a b h k e = let same : Ok a ≡ Ok b = sym h.1 ∙ ap decode_of e ∙ k.1 in cc

pub numbers-same : (s t : List ℕ) (m n : ℕ) → SpellsNumber s m → SpellsNumber t n → s ≡ t → m ≡ n
numbers-same s t m n h k e = decimal_injective m n h.0 k.0 (sym h.1 ∙ e ∙ k.1)

-- a name is longer than any word
long-name : (text : List ℕ) (name : Name) (word : Word) → SpellsName text name → text ≡ word_text word → ⊥
long-name text name word h e = let size = (decode_of-ok text name h.1).2 in let short = short-word word in omega (arith, size, h.0, short, ap length e)
  where
    short-word : (word : Word) → length (word_text word) ≤ 6
    short-word words.All = omega arith
    short-word words.Master = omega arith
    short-word words.Others = omega arith

-- each form, with what is behind its first word
pub stand-one : (a x : List ℕ) (name : Name) → SpellsName a name → Ends x → Stands (a ++ x) a x
stand-one a x name h i = record { plain = unmarked-name a name h; ends = i; whole = refl }

pub stand-named : (a x : List ℕ) (word : Word) → a ≡ word_text word → Ends x → Stands (a ++ x) a x
stand-named a x word h i = record { plain = subst Unmarked (sym h) (unmarked-word word); ends = i; whole = refl }

abbrev pub head-of : (a x : List ℕ) (call : Call) (s : Expr Name) (h : SpellsTree a (Of call s)) → Heads (a ++ x) (ACall (heads.Of call)) (h.0 ++ 41 ∷ x)
head-of a x call s h = heads-one a (ACall (heads.Of call)) (call_text call) h.0 x (unmarked-call call) (form-head (heads.Of call)) h.2

abbrev pub head-two : (a x : List ℕ) (call : PairCall) (s t : Expr Name) (h : SpellsTree a (OfTwo call s t)) → Heads (a ++ x) (ACall (heads.OfTwo call)) (h.0 ++ 44 ∷ (h.1 ++ 41 ∷ x))
head-two a x call s t h = heads-two a (ACall (heads.OfTwo call)) (pair_text call) h.0 h.1 x (unmarked-pair call) (form-head (heads.OfTwo call)) h.4

abbrev pub head-up : (a x : List ℕ) (name : Name) (n : ℕ) (h : SpellsTree a (Up name n)) → Heads (a ++ x) (ACall heads.Up) (h.0 ++ 44 ∷ (h.1 ++ 41 ∷ x))
head-up a x name n h = heads-two a (ACall heads.Up) (codes "up") h.0 h.1 x unmarked-up refl h.4

abbrev pub head-top : (a x : List ℕ) (s : Expr Name) (n : ℕ) (h : SpellsTree a (Top s n)) → Heads (a ++ x) (ACall heads.Top) (h.0 ++ 44 ∷ (h.1 ++ 41 ∷ x))
head-top a x s n h = heads-two a (ACall heads.Top) (codes "top") h.0 h.1 x unmarked-top refl h.4

-- what stands between a comma and a closing bracket is a number
pub number-behind : (s t : List ℕ) (m n : ℕ) (x y : List ℕ) → SpellsNumber s m → SpellsNumber t n → s ++ 41 ∷ x ≡ t ++ 41 ∷ y → (m ≡ n) × (x ≡ y)
number-behind s t m n x y h k e =
    let same = part-same 41 s x t y (subst Unmarked (sym h.1) (unmarked-number m h.0)).closing (subst Unmarked (sym k.1) (unmarked-number n k.0)).closing e in
    (numbers-same s t m n h k same.0, same.1)

-- two texts with an end behind each
pub one-tree : (e f : Expr Name) (a b x y : List ℕ) → SpellsTree a e → SpellsTree b f → Ends x → Ends y → a ++ x ≡ b ++ y → (e ≡ f) × (x ≡ y)
one-tree (One m) (One n) a b x y h k i j e =
    let same = stands-same (a ++ x) (b ++ y) a x b y (stand-one a x m h i) (stand-one b y n k j) e in
    (ap (λ z. One z) (names-same a b m n h k same.0), same.1)
one-tree (One m) (Named w) a b x y h k i j e =
    let same = stands-same (a ++ x) (b ++ y) a x b y (stand-one a x m h i) (stand-named b y w k j) e in
    absurd (long-name a m w h (same.0 ∙ k))
one-tree (Named v) (One n) a b x y h k i j e =
    let same = stands-same (a ++ x) (b ++ y) a x b y (stand-named a x v h i) (stand-one b y n k j) e in
    absurd (long-name b n v k (sym same.0 ∙ h))
one-tree (Named v) (Named w) a b x y h k i j e =
    let same = stands-same (a ++ x) (b ++ y) a x b y (stand-named a x v h i) (stand-named b y w k j) e in
    let forms : Some (AWord v) ≡ Some (AWord w) = sym (form-word v) ∙ ap form_of (sym h ∙ same.0 ∙ k) ∙ form-word w in
    let words : v ≡ w = cc in
    (ap (λ z. Named z) words, same.1)
one-tree (One m) (Of d t) a b x y h k i j e = absurd (heads-stand (b ++ y) (a ++ x) (ACall (heads.Of d)) _ a x (head-of b y d t k) (stand-one a x m h i) (sym e))
one-tree (One m) (OfTwo d t u) a b x y h k i j e = absurd (heads-stand (b ++ y) (a ++ x) (ACall (heads.OfTwo d)) _ a x (head-two b y d t u k) (stand-one a x m h i) (sym e))
one-tree (One m) (Up t n) a b x y h k i j e = absurd (heads-stand (b ++ y) (a ++ x) (ACall heads.Up) _ a x (head-up b y t n k) (stand-one a x m h i) (sym e))
one-tree (One m) (Top t n) a b x y h k i j e = absurd (heads-stand (b ++ y) (a ++ x) (ACall heads.Top) _ a x (head-top b y t n k) (stand-one a x m h i) (sym e))
one-tree (Named v) (Of d t) a b x y h k i j e = absurd (heads-stand (b ++ y) (a ++ x) (ACall (heads.Of d)) _ a x (head-of b y d t k) (stand-named a x v h i) (sym e))
one-tree (Named v) (OfTwo d t u) a b x y h k i j e = absurd (heads-stand (b ++ y) (a ++ x) (ACall (heads.OfTwo d)) _ a x (head-two b y d t u k) (stand-named a x v h i) (sym e))
one-tree (Named v) (Up t n) a b x y h k i j e = absurd (heads-stand (b ++ y) (a ++ x) (ACall heads.Up) _ a x (head-up b y t n k) (stand-named a x v h i) (sym e))
one-tree (Named v) (Top t n) a b x y h k i j e = absurd (heads-stand (b ++ y) (a ++ x) (ACall heads.Top) _ a x (head-top b y t n k) (stand-named a x v h i) (sym e))
one-tree (Of c s) (One n) a b x y h k i j e = absurd (heads-stand (a ++ x) (b ++ y) (ACall (heads.Of c)) _ b y (head-of a x c s h) (stand-one b y n k j) e)
one-tree (Of c s) (Named w) a b x y h k i j e = absurd (heads-stand (a ++ x) (b ++ y) (ACall (heads.Of c)) _ b y (head-of a x c s h) (stand-named b y w k j) e)
one-tree (Of c s) (Of d t) a b x y h k i j e =
    let same = heads-same (a ++ x) (b ++ y) (ACall (heads.Of c)) (ACall (heads.Of d)) _ _ (head-of a x c s h) (head-of b y d t k) e in
    let first = one-tree s t h.0 k.0 (41 ∷ x) (41 ∷ y) h.1 k.1 (inl refl) (inl refl) same.1 in
    let form : ACall (heads.Of c) ≡ ACall (heads.Of d) = same.0 in
    let calls : c ≡ d = cc in
    let tail : 41 ∷ x ≡ 41 ∷ y = first.1 in
    (ap₂ {C = Expr Name} (λ p q. Of p q) calls first.0, cc)
one-tree (Of c s) (OfTwo d t u) a b x y h k i j e =
    let same = (heads-same (a ++ x) (b ++ y) (ACall (heads.Of c)) (ACall (heads.OfTwo d)) _ _ (head-of a x c s h) (head-two b y d t u k) e).0 in cc
one-tree (Of c s) (Up t n) a b x y h k i j e =
    let same = (heads-same (a ++ x) (b ++ y) (ACall (heads.Of c)) (ACall heads.Up) _ _ (head-of a x c s h) (head-up b y t n k) e).0 in cc
one-tree (Of c s) (Top t n) a b x y h k i j e =
    let same = (heads-same (a ++ x) (b ++ y) (ACall (heads.Of c)) (ACall heads.Top) _ _ (head-of a x c s h) (head-top b y t n k) e).0 in cc
one-tree (OfTwo c s u) (One n) a b x y h k i j e = absurd (heads-stand (a ++ x) (b ++ y) (ACall (heads.OfTwo c)) _ b y (head-two a x c s u h) (stand-one b y n k j) e)
one-tree (OfTwo c s u) (Named w) a b x y h k i j e = absurd (heads-stand (a ++ x) (b ++ y) (ACall (heads.OfTwo c)) _ b y (head-two a x c s u h) (stand-named b y w k j) e)
one-tree (OfTwo c s u) (Of d t) a b x y h k i j e =
    let same = (heads-same (a ++ x) (b ++ y) (ACall (heads.OfTwo c)) (ACall (heads.Of d)) _ _ (head-two a x c s u h) (head-of b y d t k) e).0 in cc
one-tree (OfTwo c s u) (OfTwo d t v) a b x y h k i j e =
    let same = heads-same (a ++ x) (b ++ y) (ACall (heads.OfTwo c)) (ACall (heads.OfTwo d)) _ _ (head-two a x c s u h) (head-two b y d t v k) e in
    let first = one-tree s t h.0 k.0 (44 ∷ (h.1 ++ 41 ∷ x)) (44 ∷ (k.1 ++ 41 ∷ y)) h.2 k.2 (inr refl) (inr refl) same.1 in
    let behind : 44 ∷ (h.1 ++ 41 ∷ x) ≡ 44 ∷ (k.1 ++ 41 ∷ y) = first.1 in
    let inner : h.1 ++ 41 ∷ x ≡ k.1 ++ 41 ∷ y = cc in
    let second = one-tree u v h.1 k.1 (41 ∷ x) (41 ∷ y) h.3 k.3 (inl refl) (inl refl) inner in
    let form : ACall (heads.OfTwo c) ≡ ACall (heads.OfTwo d) = same.0 in
    let calls : c ≡ d = cc in
    let firsts : s ≡ t = first.0 in
    let seconds : u ≡ v = second.0 in
    let tail : 41 ∷ x ≡ 41 ∷ y = second.1 in
    (cc, cc)
one-tree (OfTwo c s u) (Up t n) a b x y h k i j e =
    let same = (heads-same (a ++ x) (b ++ y) (ACall (heads.OfTwo c)) (ACall heads.Up) _ _ (head-two a x c s u h) (head-up b y t n k) e).0 in cc
one-tree (OfTwo c s u) (Top t n) a b x y h k i j e =
    let same = (heads-same (a ++ x) (b ++ y) (ACall (heads.OfTwo c)) (ACall heads.Top) _ _ (head-two a x c s u h) (head-top b y t n k) e).0 in cc
one-tree (Up s m) (One n) a b x y h k i j e = absurd (heads-stand (a ++ x) (b ++ y) (ACall heads.Up) _ b y (head-up a x s m h) (stand-one b y n k j) e)
one-tree (Up s m) (Named w) a b x y h k i j e = absurd (heads-stand (a ++ x) (b ++ y) (ACall heads.Up) _ b y (head-up a x s m h) (stand-named b y w k j) e)
one-tree (Up s m) (Of d t) a b x y h k i j e =
    let same = (heads-same (a ++ x) (b ++ y) (ACall heads.Up) (ACall (heads.Of d)) _ _ (head-up a x s m h) (head-of b y d t k) e).0 in cc
one-tree (Up s m) (OfTwo d t u) a b x y h k i j e =
    let same = (heads-same (a ++ x) (b ++ y) (ACall heads.Up) (ACall (heads.OfTwo d)) _ _ (head-up a x s m h) (head-two b y d t u k) e).0 in cc
one-tree (Up s m) (Up t n) a b x y h k i j e =
    let same = heads-same (a ++ x) (b ++ y) (ACall heads.Up) (ACall heads.Up) _ _ (head-up a x s m h) (head-up b y t n k) e in
    let first = part-same 44 h.0 (h.1 ++ 41 ∷ x) k.0 (k.1 ++ 41 ∷ y) (unmarked-name h.0 s h.2).comma (unmarked-name k.0 t k.2).comma same.1 in
    let second = number-behind h.1 k.1 m n x y h.3 k.3 first.1 in
    (ap₂ {C = Expr Name} (λ p q. Up p q) (names-same h.0 k.0 s t h.2 k.2 first.0) second.0, second.1)
one-tree (Up s m) (Top t n) a b x y h k i j e =
    let same = (heads-same (a ++ x) (b ++ y) (ACall heads.Up) (ACall heads.Top) _ _ (head-up a x s m h) (head-top b y t n k) e).0 in cc
one-tree (Top s m) (One n) a b x y h k i j e = absurd (heads-stand (a ++ x) (b ++ y) (ACall heads.Top) _ b y (head-top a x s m h) (stand-one b y n k j) e)
one-tree (Top s m) (Named w) a b x y h k i j e = absurd (heads-stand (a ++ x) (b ++ y) (ACall heads.Top) _ b y (head-top a x s m h) (stand-named b y w k j) e)
one-tree (Top s m) (Of d t) a b x y h k i j e =
    let same = (heads-same (a ++ x) (b ++ y) (ACall heads.Top) (ACall (heads.Of d)) _ _ (head-top a x s m h) (head-of b y d t k) e).0 in cc
one-tree (Top s m) (OfTwo d t u) a b x y h k i j e =
    let same = (heads-same (a ++ x) (b ++ y) (ACall heads.Top) (ACall (heads.OfTwo d)) _ _ (head-top a x s m h) (head-two b y d t u k) e).0 in cc
one-tree (Top s m) (Up t n) a b x y h k i j e =
    let same = (heads-same (a ++ x) (b ++ y) (ACall heads.Top) (ACall heads.Up) _ _ (head-top a x s m h) (head-up b y t n k) e).0 in cc
one-tree (Top s m) (Top t n) a b x y h k i j e =
    let same = heads-same (a ++ x) (b ++ y) (ACall heads.Top) (ACall heads.Top) _ _ (head-top a x s m h) (head-top b y t n k) e in
    let first = one-tree s t h.0 k.0 (44 ∷ (h.1 ++ 41 ∷ x)) (44 ∷ (k.1 ++ 41 ∷ y)) h.2 k.2 (inr refl) (inr refl) same.1 in
    let behind : 44 ∷ (h.1 ++ 41 ∷ x) ≡ 44 ∷ (k.1 ++ 41 ∷ y) = first.1 in
    let inner : h.1 ++ 41 ∷ x ≡ k.1 ++ 41 ∷ y = cc in
    let second = number-behind h.1 k.1 m n x y h.3 k.3 inner in
    (ap₂ {C = Expr Name} (λ p q. Top p q) first.0 second.0, second.1)

pub one-expression : (text : List ℕ) (a b : Expr Name) → SpellsExpr text a → SpellsExpr text b → a ≡ b
one-expression text a b h k = (one-tree a b text text [] [] h.2 k.2 tt tt refl).0
