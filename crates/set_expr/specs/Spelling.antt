-- How an expression is spelled.
use Rattle.std.specs.Prelude.{◌≡◌, ℕ, ◌<◌, ◌≤◌, ◌^◌, List, ◌++◌, decimal, codes}
use Rattle.id_groups.specs.Name.{Name, SpellsName}
use Rattle.set_expr.specs.declared.words.Word.{Word}
use Rattle.set_expr.specs.declared.words.Word.TheVariants as words
use Rattle.set_expr.specs.declared.words.Call.{Call}
use Rattle.set_expr.specs.declared.words.Call.TheVariants as calls
use Rattle.set_expr.specs.declared.words.PairCall.{PairCall}
use Rattle.set_expr.specs.declared.words.PairCall.TheVariants as pairs
use Rattle.set_expr.specs.Expr.{Expr, One, Named, Of, OfTwo, Up, Top, node_count, depth}

-- the word of a set that one word names
abbrev pub word_text : Word → List ℕ
word_text words.All = codes "all"
word_text words.Master = codes "master"
word_text words.Others = codes "others"

-- the word of a call of one set
abbrev pub call_text : Call → List ℕ
call_text calls.Parents = codes "parents"
call_text calls.Children = codes "children"
call_text calls.Ancestors = codes "ancestors"
call_text calls.Descendants = codes "descendants"
call_text calls.Heads = codes "heads"
call_text calls.Roots = codes "roots"
call_text calls.Tips = codes "tips"
call_text calls.Merges = codes "merges"
call_text calls.Common = codes "common"
call_text calls.Gca = codes "gca"
call_text calls.Line = codes "line"

-- the word of a call of two sets
abbrev pub pair_text : PairCall → List ℕ
pair_text pairs.Range = codes "range"
pair_text pairs.Only = codes "only"
pair_text pairs.Union = codes "union"
pair_text pairs.Inter = codes "inter"
pair_text pairs.Minus = codes "minus"

-- `word(s)`
abbrev pub one_argument : List ℕ → List ℕ → List ℕ
one_argument word s = word ++ codes "(" ++ s ++ codes ")"

-- `word(a,b)`
abbrev pub two_arguments : List ℕ → List ℕ → List ℕ → List ℕ
two_arguments word a b = word ++ codes "(" ++ a ++ codes "," ++ b ++ codes ")"

-- the text is the number in decimal, which fits 64 bits
abbrev pub SpellsNumber : List ℕ → ℕ → Type 0
SpellsNumber text n = (n < 2 ^ 64) × (text ≡ decimal n)

-- the text is the expression's, whatever its size
abbrev pub SpellsTree : List ℕ → Expr Name → Type 0
SpellsTree text (One x) = SpellsName text x
SpellsTree text (Named word) = text ≡ word_text word
SpellsTree text (Of call s) = (a : List ℕ) × SpellsTree a s × (text ≡ one_argument (call_text call) a)
SpellsTree text (OfTwo call s t) = (a : List ℕ) × (b : List ℕ) × SpellsTree a s × SpellsTree b t × (text ≡ two_arguments (pair_text call) a b)
SpellsTree text (Up x n) = (a : List ℕ) × (b : List ℕ) × SpellsName a x × SpellsNumber b n × (text ≡ two_arguments (codes "up") a b)
SpellsTree text (Top s n) = (a : List ℕ) × (b : List ℕ) × SpellsTree a s × SpellsNumber b n × (text ≡ two_arguments (codes "top") a b)

-- the text spells the expression, of at most 256 nodes and depth 32
abbrev pub SpellsExpr : List ℕ → Expr Name → Type 0
SpellsExpr text e = (node_count e ≤ 256) × (depth e ≤ 32) × SpellsTree text e
