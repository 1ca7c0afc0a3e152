-- Words of a text, and the names that they spell.
use Rattle.std.proofs.Common.{ℕ, suc, ◌==◌, ◌<◌, ◌+◌, ◌≡◌, Bool, true, false, List, [], ◌∷◌, ◌++◌, length, take, drop, get_or, refl, sym, ◌∙◌, ap, subst, arith, Option, Some, None, append_assoc, append-nil, true≢false}
use Rattle.std.specs.Prelude.{position}
use Rattle.std.specs.List.{AllZip}
use Rattle.hex.specs.Hex.{is_hex_digit}
use Rattle.hex.proofs.HexLemmas.{decode_of-ok}
use Rattle.outside.specs.Parts.{cut_at, put_before, split_at, HasNone}
use Rattle.outside.proofs.PartsLemmas.{split-part, split-rest, position-none, position-some}
use Rattle.id_groups.specs.Name.{Name, SpellsName, name_of}
use Rattle.id_groups.proofs.Names.{name_of-spelled, spelled-name_of}
use Rattle.run_rules.specs.Grammar.{more_words}

-- x before the list, where both are there
abbrev pub cons_some : Option Name → Option (List Name) → Option (List Name)
cons_some (Some x) (Some xs) = Some (x ∷ xs)
cons_some (Some x) None = None
cons_some None rest = None

-- the names that words spell, where each word spells one
abbrev pub names_in : List (List ℕ) → Option (List Name)
names_in [] = Some []
names_in (word ∷ words) = cons_some (name_of word) (names_in words)

-- names before others, where those are there
abbrev pub prepend : List Name → Option (List Name) → Option (List Name)
prepend names None = None
prepend names (Some more) = Some (names ++ more)

cons-some : (o : Option Name) (r : Option (List Name)) (names : List Name) → cons_some o r ≡ Some names
    → (x : Name) × (xs : List Name) × (o ≡ Some x) × (r ≡ Some xs) × (names ≡ x ∷ xs)
cons-some (Some x) (Some xs) names h = (x, xs, refl, refl, sym (some-same h))
  where
    some-same : Some (x ∷ xs) ≡ Some names → x ∷ xs ≡ names
    some-same e = cc e
cons-some (Some x) None names h = cc h
cons-some None r names h = cc h

-- the words spell the names that are read from them, and no others
pub names-spelled : (words : List (List ℕ)) (names : List Name) → names_in words ≡ Some names → AllZip SpellsName words names
names-spelled [] names h = let e : [] ≡ names = cc h in subst (AllZip SpellsName []) e tt
names-spelled (word ∷ words) names h =
    let p = cons-some (name_of word) (names_in words) names h in
    subst (AllZip SpellsName (word ∷ words)) (sym p.4) (spelled-name_of word p.0 p.2, names-spelled words p.1 p.3)

pub spelled-names : (words : List (List ℕ)) (names : List Name) → AllZip SpellsName words names → names_in words ≡ Some names
spelled-names [] [] h = refl
spelled-names [] (n ∷ names) h = absurd h
spelled-names (word ∷ words) [] h = absurd h
spelled-names (word ∷ words) (n ∷ names) h = rw (name_of-spelled word n h.0, spelled-names words names h.1) refl

-- a name's digits have no blank among them
digits-no-blank : (text : List ℕ) → ((k : ℕ) (d : ℕ) → k < length text → is_hex_digit (get_or text k d) ≡ true) → HasNone 32 text
digits-no-blank [] h = tt
digits-no-blank (c ∷ text) h = (none-blank c (h 0 0 (omega arith)), digits-no-blank text (λ k d below. h (suc k) d (omega (arith, below))))
  where
    none-blank : (c : ℕ) → is_hex_digit c ≡ true → (c == 32) ≡ false
    none-blank c digit = elim (c == 32) as (λ b. (c == 32) ≡ b → b ≡ false) [
      | true ↦ λ e. let is : c ≡ 32 = grind (arith, e) in absurd (true≢false (sym (subst (λ x. is_hex_digit x ≡ true) is digit)))
      | false ↦ λ e. refl
    ] refl

pub name-no-blank : (text : List ℕ) (name : Name) → SpellsName text name → HasNone 32 text
name-no-blank text name h = digits-no-blank text (decode_of-ok text name h.1).1

-- and there are 40 of them
pub name-long : (text : List ℕ) (name : Name) → SpellsName text name → length text ≡ 40
name-long text name h = let size = (decode_of-ok text name h.1).2 in omega (arith, size, h.0)

-- words without blanks, with blanks between them, are split into the words
pub split-words : (word : List ℕ) (words : List (List ℕ)) (names : List Name) → AllZip SpellsName (word ∷ words) names
    → split_at 32 (word ++ more_words words) ≡ word ∷ words
split-words word [] [] h = absurd h
split-words word [] (n ∷ names) h = rw (append-nil word) (split-rest 32 word (name-no-blank word n h.0))
split-words word (next ∷ words) [] h = absurd h
split-words word (next ∷ words) (n ∷ names) h =
    split-part 32 word (next ++ more_words words) (name-no-blank word n h.0) ∙ ap (λ r. word ∷ r) (split-words next words names h.1)

-- one more byte in front of the first word
put-words : (c : ℕ) (parts : List (List ℕ)) (rest text : List ℕ) → more_words (parts ++ rest ∷ []) ≡ 32 ∷ text
    → more_words ((put_before c parts rest).parts ++ (put_before c parts rest).rest ∷ []) ≡ 32 ∷ (c ∷ text)
put-words c [] rest text h = let e : rest ++ [] ≡ text = cc h in ap (λ xs. 32 ∷ (c ∷ xs)) e
put-words c (part ∷ parts) rest text h = let e : part ++ more_words (parts ++ rest ∷ []) ≡ text = cc h in ap (λ xs. 32 ∷ (c ∷ xs)) e

-- the words of a text, with a blank before each, are a blank and the text
pub words-of-text : (text : List ℕ) → more_words (split_at 32 text) ≡ 32 ∷ text
words-of-text [] = refl
words-of-text (c ∷ text) = by_test (c == 32) refl (words-of-text text)
  where
    by_test : (b : Bool) → (c == 32) ≡ b → more_words (split_at 32 text) ≡ 32 ∷ text → more_words (split_at 32 (c ∷ text)) ≡ 32 ∷ (c ∷ text)
    by_test true e h = let is : c ≡ 32 = grind (arith, e) in rw e (rw is (ap (λ xs. 32 ∷ xs) h))
    by_test false e h = rw e (put-words c (cut_at 32 text).parts (cut_at 32 text).rest text h)

-- the names before the first blank and behind it
spelled-word : (text : List ℕ) (len : ℕ) → position (λ b. b == 32) text ≡ Some len
    → names_in (split_at 32 text) ≡ cons_some (name_of (take len text)) (names_in (split_at 32 (drop (len + 1) text)))
spelled-word text len h =
    let at = position-some 32 text len h in
    ap (λ xs. names_in (split_at 32 xs)) at.whole ∙ ap names_in (split-part 32 (take len text) (drop (len + 1) text) at.part)

spelled-last : (text : List ℕ) → position (λ b. b == 32) text ≡ None → names_in (split_at 32 text) ≡ cons_some (name_of text) (Some [])
spelled-last text h = ap names_in (split-rest 32 text (position-none 32 text h))

prepend-word : (names : List Name) (name : Name) (o : Option (List Name))
    → prepend names (cons_some (Some name) o) ≡ prepend (names ++ name ∷ []) o
prepend-word names name None = refl
prepend-word names name (Some more) = ap (λ xs. Some xs) (sym (append_assoc names (name ∷ []) more))

module _ (text rest : List ℕ) (names : List Name) (so_far : names_in (split_at 32 text) ≡ prepend names (names_in (split_at 32 rest))) where
  -- a word that is no name
  pub stop-word : (len : ℕ) (word : List ℕ) → None ≡ name_of word → word ≡ take len rest
      → Some len ≡ position (λ b. b == 32) rest → names_in (split_at 32 text) ≡ None
  stop-word len word none is at =
      so_far ∙ ap (λ o. prepend names o) (spelled-word rest len (sym at) ∙ ap (λ o. cons_some o (names_in (split_at 32 (drop (len + 1) rest)))) (sym (none ∙ ap name_of is)))

  pub stop-last : None ≡ name_of rest → None ≡ position (λ b. b == 32) rest → names_in (split_at 32 text) ≡ None
  stop-last none at = so_far ∙ ap (λ o. prepend names o) (spelled-last rest (sym at) ∙ ap (λ o. cons_some o (Some [])) (sym none))

  -- a word that is a name
  pub next-word : (behind : List ℕ) (more : List Name) (len : ℕ) (word : List ℕ) (name : Name) → Some name ≡ name_of word → word ≡ take len rest
      → behind ≡ drop (len + 1) rest → more ≡ names ++ name ∷ []
      → Some len ≡ position (λ b. b == 32) rest → names_in (split_at 32 text) ≡ prepend more (names_in (split_at 32 behind))
  next-word behind more len word name some is after pushed at =
      rw (pushed, after) (so_far ∙ ap (λ o. prepend names o) (spelled-word rest len (sym at) ∙ ap (λ o. cons_some o (names_in (split_at 32 (drop (len + 1) rest)))) (sym (some ∙ ap name_of is)))
      ∙ prepend-word names name (names_in (split_at 32 (drop (len + 1) rest))))

  pub last-word : (more : List Name) (name : Name) → Some name ≡ name_of rest → more ≡ names ++ name ∷ []
      → None ≡ position (λ b. b == 32) rest → names_in (split_at 32 text) ≡ Some more
  last-word more name some pushed at =
      rw pushed (so_far ∙ ap (λ o. prepend names o) (spelled-last rest (sym at) ∙ ap (λ o. cons_some o (Some [])) (sym some)))

-- words of which one is no name spell no names
pub no-names : (words : List (List ℕ)) → names_in words ≡ None → (names : List Name) → ¬ (AllZip SpellsName words names)
no-names words none names h = let e = spelled-names words names h in cc (sym none ∙ e)
