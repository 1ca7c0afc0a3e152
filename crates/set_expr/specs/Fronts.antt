-- Expressions at the front of a text, and what stands behind them.
use Rattle.std.specs.Prelude.{◌≡◌, ◌≤◌, ⊤, ◌⊎◌, ℕ, List, [], ◌∷◌, ◌++◌, codes}
use Rattle.outside.specs.Parts.{HasNone}
use Rattle.id_groups.specs.Name.{Name, SpellsName}
use Rattle.set_expr.specs.declared.words.Head.{Head}
use Rattle.set_expr.specs.declared.words.Head.TheVariants as heads
use Rattle.set_expr.specs.Expr.{Expr, One, Named, Of, OfTwo, Up, Top, node_count, depth}
use Rattle.set_expr.specs.Spelling.{word_text, call_text, pair_text, SpellsNumber, SpellsTree}

-- the word that opens a bracket
abbrev pub head_text : Head → List ℕ
head_text (heads.Of call) = call_text call
head_text (heads.OfTwo call) = pair_text call
head_text heads.Up = codes "up"
head_text heads.Top = codes "top"

-- the bytes have no bracket and no comma
pub record Unmarked (xs : List ℕ) : Type 0 where
  pub opening : HasNone 40 xs
  pub closing : HasNone 41 xs
  pub comma : HasNone 44 xs

-- what follows an expression: nothing, a closing bracket or a comma
abbrev pub Ends : List ℕ → Type 0
Ends [] = ⊤
Ends (c ∷ rest) = (c ≡ 41) ⊎ (c ≡ 44)

-- what follows a word: the same, or an opening bracket
abbrev pub Breaks : List ℕ → Type 0
Breaks [] = ⊤
Breaks (c ∷ rest) = (c ≡ 40) ⊎ ((c ≡ 41) ⊎ (c ≡ 44))

-- the text is that of the expression with the rest behind it; the expression has at most so many levels and nodes
pub record IsFront (text : List ℕ) (levels nodes : ℕ) (e : Expr Name) (rest : List ℕ) : Type 0 where
  pub front : List ℕ
  pub whole : text ≡ front ++ rest
  pub spells : SpellsTree front e
  pub ends : Ends rest
  pub deep : depth e ≤ levels
  pub many : node_count e ≤ nodes

-- the text is that of a name or a word alone
abbrev pub IsLeaf : List ℕ → Expr Name → Type 0
IsLeaf text (One x) = SpellsName text x
IsLeaf text (Named word) = text ≡ word_text word
IsLeaf text (Of call s) = ⊥
IsLeaf text (OfTwo call s t) = ⊥
IsLeaf text (Up x n) = ⊥
IsLeaf text (Top s n) = ⊥

-- the text is a comma, the number, a closing bracket and the rest
pub record IsLast (text : List ℕ) (n : ℕ) (rest : List ℕ) : Type 0 where
  pub digits : List ℕ
  pub whole : text ≡ 44 ∷ (digits ++ 41 ∷ rest)
  pub spells : SpellsNumber digits n
  pub ends : Ends rest

-- the text is the name, a comma, the number, a closing bracket and the rest
pub record IsUp (text : List ℕ) (x : Name) (n : ℕ) (rest : List ℕ) : Type 0 where
  pub name : List ℕ
  pub behind : List ℕ
  pub whole : text ≡ name ++ behind
  pub spells : SpellsName name x
  pub last : IsLast behind n rest
