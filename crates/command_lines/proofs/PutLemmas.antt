-- Texts of replies, and how they are sent.
use Rattle.std.proofs.Common.{ℕ, ◌≤◌, ◌<◌, ◌+◌, ◌-◌, ◌^◌, ◌≡◌, Bool, true, false, List, [], ◌∷◌, ◌++◌, length, take, drop, map, refl, sym, ◌∙◌, ap, subst, arith, rules, decimal, append_assoc, append-nil, add-one, min, length-take, length-drop, Ok, Err, codes}
use borrow.Rule.Slice.PartMut.{mid_of}
use Rattle.std.specs.Prelude.{Option, Some, Result, flat_map, slice_get}
use Rattle.outside.specs.Told.{WhereTold, Puts}
use Rattle.outside.proofs.ToldLemmas.{WhereTold-join}
use Rattle.std.proofs.lemmas.Fmt.{length-decimal-le}
use Rattle.std.proofs.lemmas.List.{take-append-le, take_min, take-append-drop, map-append, take_all}
use Rattle.std.proofs.Math.Seq.{take-append-add, take-suc}
use Rattle.id_groups.specs.Name.{Name, hex_text}
use Rattle.id_groups.specs.Id.{id_text, is_master_id}
use Rattle.outside.specs.Told.{TookFront}
use Rattle.std.proofs.lemmas.Grind.{common_steps, flat_map-append}
use Rattle.std.proofs.lemmas.Option.{slice_get_within, get_or_from_slice_get}
use Rattle.step_rules.specs.Reply.{LevelSizes, reply_text, words_text}
use Rattle.command_lines.specs.Sending.{Sends, lines_text, listed_text}

decimal-short : (n : ℕ) → n < 2 ^ 64 → length (decimal n) ≤ 20
decimal-short n h = search (rules, length-decimal-le 20)

-- a printed id is short
pub id_text-short : (id : ℕ) → id < 2 ^ 57 → length (id_text id) ≤ 24
id_text-short id h = by_group (is_master_id id) refl
  where
    by_group : (b : Bool) → is_master_id id ≡ b → length (id_text id) ≤ 24
    by_group true e = let short : length (decimal id) ≤ 20 = decimal-short id (omega (arith, h)) in rw e (omega (arith, short))
    by_group false e = let short : length (decimal (id - 2 ^ 56)) ≤ 20 = decimal-short (id - 2 ^ 56) (omega (arith, h)) in rw e (omega (arith, short))

-- lines before others
pub lines-append : (xs ys : List (List ℕ)) → lines_text (xs ++ ys) ≡ lines_text xs ++ lines_text ys
lines-append [] ys = refl
lines-append (x ∷ xs) ys = ap (λ t. (x ++ 10 ∷ []) ++ t) (lines-append xs ys) ∙ sym (append_assoc (x ++ 10 ∷ []) (lines_text xs) (lines_text ys))

-- a block was put, or not, and then a line was appended
pub sends-more : (text block mid new line x y z : List ℕ) → Sends text block x y → Sends block mid y z → new ≡ mid ++ line → Sends (text ++ line) new x z
sends-more text block mid new line x y z a b is = (
  a.0 ++ b.0,
  b.1 ∙ ap (λ t. t ++ b.0) a.1 ∙ append_assoc x a.0 b.0,
  ap (λ t. t ++ line) (a.2 ∙ ap (λ t. a.0 ++ t) b.2) ∙ regroup a.0 b.0 mid line ∙ ap (λ t. (a.0 ++ b.0) ++ t) (sym is),
)
  where
    regroup : (p q r s : List ℕ) → (p ++ (q ++ r)) ++ s ≡ (p ++ q) ++ (r ++ s)
    regroup p q r s = simp append_assoc

-- the last block was put
pub sends-all : (text block x y z : List ℕ) → Sends text block x y → z ≡ y ++ block → z ≡ x ++ text
sends-all text block x y z a is = is ∙ ap (λ t. t ++ block) a.1 ∙ append_assoc x a.0 block ∙ ap (λ t. x ++ t) (sym a.2)

-- a front of a front is a front of the whole
front-of-front : (n : ℕ) (xs ys : List ℕ) → (k : ℕ) × (take n xs ≡ take k (xs ++ ys))
front-of-front n xs ys =
    let short : min n (length xs) ≤ length xs = omega arith in
    (min n (length xs), sym (take-append-le (min n (length xs)) xs ys short ∙ take_min n xs))

-- a front of the block was put
pub sends-front : (text block more x y z : List ℕ) → Sends text block x y → TookFront block y z → TookFront (text ++ more) x z
sends-front text block more x y z a t =
    let inner = front-of-front t.0 block more in (
      length a.0 + inner.0,
      t.1 ∙ ap (λ s. s ++ take t.0 block) a.1 ∙ append_assoc x a.0 (take t.0 block)
          ∙ ap (λ s. x ++ (a.0 ++ s)) inner.1
          ∙ ap (λ s. x ++ s) (sym (take-append-add a.0 (block ++ more) inner.0) ∙ ap (take (length a.0 + inner.0)) (sym (append_assoc a.0 block more) ∙ ap (λ s. s ++ more) (sym a.2))),
    )

-- the end of a buffer, from the place at which so many bytes begin
pub end-of-buffer : (buf : List ℕ) (start n : ℕ) → start + n ≡ 24 → n ≤ 20 → length (mid_of start (24 - start) buf) ≤ 20
end-of-buffer buf start n e short = omega (arith, length-take {A = ℕ}, length-drop {A = ℕ})

-- the block of a text's end is put, behind what was sent of it
pub sends-puts : {E : Type 0} (a b : Option (List ℕ)) (c : Option (List ℕ)) (r : Result Unit E) (text block : List ℕ) → WhereTold a b (Sends text block) → Puts b c r block → Puts a c r text
sends-puts a b c (Ok x) text block old put = WhereTold-join a b c _ _ _ (λ x y z s e. sends-all text block x y z s e) old put
sends-puts a b c (Err x) text block old put =
    WhereTold-join a b c _ _ _ (λ x y z s t. subst (λ all. TookFront all x z) (append-nil text) (sends-front text block [] x y z s t)) old put

-- the numbers of the first levels, behind the word
abbrev pub levels_front : List ℕ → ℕ → List ℕ
levels_front counts k = words_text (codes "ok") (map decimal (take k counts))

number-more : (xs ys : List ℕ) → words_text (codes "ok") (map decimal (xs ++ ys)) ≡ words_text (codes "ok") (map decimal xs) ++ flat_map (λ next. 32 ∷ next) (map decimal ys)
number-more xs ys =
    let blank : List ℕ → List ℕ = λ next. 32 ∷ next in
    ap (λ (l : List (List ℕ)). codes "ok" ++ flat_map blank l) (map-append decimal xs ys)
    ∙ ap (λ (l : List ℕ). codes "ok" ++ l) (flat_map-append blank (map decimal xs) (map decimal ys))
    ∙ sym (append_assoc (codes "ok") (flat_map blank (map decimal xs)) (flat_map blank (map decimal ys)))

-- one number more
pub level-next : (counts : List ℕ) (k n : ℕ) → slice_get counts k ≡ Some n → levels_front counts (k + 1) ≡ levels_front counts k ++ 32 ∷ decimal n
level-next counts k n is =
    let below = slice_get_within counts k n is in
    let front : take (k + 1) counts ≡ take k counts ++ n ∷ [] =
    rw add-one (take-suc counts k 0 below ∙ ap (λ (z : ℕ). take k counts ++ z ∷ []) (get_or_from_slice_get counts k n 0 is)) in
    ap (λ (l : List ℕ). words_text (codes "ok") (map decimal l)) front ∙ number-more (take k counts) (n ∷ [])
    ∙ ap (λ (l : List ℕ). levels_front counts k ++ l) (append-nil (32 ∷ decimal n))

-- the whole line, and its end
pub levels-whole : (counts : List ℕ) → reply_text (LevelSizes counts) ≡ words_text (codes "ok") (map decimal counts) ++ 10 ∷ []
levels-whole counts = append-nil (words_text (codes "ok") (map decimal counts) ++ 10 ∷ [])

pub levels-split : (counts : List ℕ) (k : ℕ) → (more : List ℕ) × (reply_text (LevelSizes counts) ≡ levels_front counts k ++ more)
levels-split counts k =
    let blank : List ℕ → List ℕ = λ next. 32 ∷ next in
    let rest = flat_map blank (map decimal (drop k counts)) in (
      rest ++ 10 ∷ [],
      levels-whole counts
          ∙ ap (λ (l : List ℕ). words_text (codes "ok") (map decimal l) ++ 10 ∷ []) (sym (take-append-drop k counts))
          ∙ ap (λ (l : List ℕ). l ++ 10 ∷ []) (number-more (take k counts) (drop k counts))
          ∙ append_assoc (levels_front counts k) rest (10 ∷ []),
    )

pub levels-end : (counts : List ℕ) (k : ℕ) → length counts ≤ k → reply_text (LevelSizes counts) ≡ levels_front counts k ++ 10 ∷ []
levels-end counts k all = levels-whole counts ∙ ap (λ (l : List ℕ). words_text (codes "ok") (map decimal l) ++ 10 ∷ []) (sym (take_all k counts all))

-- how many names there are, as the last line tells it
abbrev pub count_lines : ℕ → List (List ℕ)
count_lines count = words_text (codes "ok") (decimal count ∷ []) ∷ []

-- one name more
pub name-next : (done : List Name) (name : Name) → lines_text (map hex_text (done ++ name ∷ [])) ≡ lines_text (map hex_text done) ++ lines_text (hex_text name ∷ [])
name-next done name = ap lines_text (map-append hex_text done (name ∷ [])) ∙ lines-append (map hex_text done) (hex_text name ∷ [])

-- all lines of an answer, of which the first names were sent
pub names-part : (count : ℕ) (all done left : List Name) → all ≡ done ++ left → (more : List ℕ) × (listed_text all count ≡ lines_text (map hex_text done) ++ more)
names-part count all done left is =
    let last = count_lines count in (
      lines_text (map hex_text left ++ last),
      ap (λ (l : List Name). lines_text (map hex_text l ++ last)) is
          ∙ ap (λ (l : List (List ℕ)). lines_text (l ++ last)) (map-append hex_text done left)
          ∙ ap lines_text (append_assoc (map hex_text done) (map hex_text left) last)
          ∙ lines-append (map hex_text done) (map hex_text left ++ last),
    )

pub names-all : (count : ℕ) (all done left : List Name) → all ≡ done ++ left → left ≡ [] → listed_text all count ≡ lines_text (map hex_text done) ++ lines_text (count_lines count)
names-all count all done left is none =
    let same : all ≡ done = is ∙ ap (λ (l : List Name). done ++ l) none ∙ append-nil done in
    ap (λ (l : List Name). lines_text (map hex_text l ++ count_lines count)) same ∙ lines-append (map hex_text done) (count_lines count)

-- which is short
pub count-short : (n : ℕ) → n < 2 ^ 64 → length (lines_text (words_text (codes "ok") (decimal n ∷ []) ∷ [])) ≤ 64
count-short n h = let short = decimal-short n h in grind (arith, common_steps, short)
