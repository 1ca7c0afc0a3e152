-- Filters of fronts.
use Rattle.std.proofs.Common.{◌≡◌, ◌∙◌, refl, sym, ap, ℕ, zero, suc, ◌<◌, ◌≤◌, length, set, get_or, List, [], ◌∷◌, map, inl, inr, true, false, true≢false, ⊎_elim, Bool, arith}
use Rattle.std.specs.Prelude.{bit_and, bit_or, Some}
use Rattle.std.specs.Int.{bit_at}
use Rattle.std.specs.List.{slice_get}
use Rattle.std.proofs.lemmas.Bool.{cases_eq, eqb-true, eq-eqb}
use Rattle.std.proofs.lemmas.List.{length-set}
use Rattle.std.proofs.lemmas.Nat.{and_or_self}
use Rattle.std.proofs.lemmas.Option.{slice_get-get_or, slice_get_past}
use Rattle.std.proofs.lemmas.Nat.Bits.{same_from_bits, bit_at_and, bit_at_or}
use Rattle.id_groups.specs.Lists.{IsIn}
use Rattle.id_groups.specs.Name.{Name}
use Rattle.name_index.specs.declared.entry.Entry.{Entry}
use Rattle.name_index.specs.Filter.{lets_pass, has_all, word_for, mask_of, PassAll}
use Rattle.name_index.specs.Named.{NamedPlace, names_in}
use Rattle.name_index.specs.Runs.{entry_of, front_of}

-- bits that a word has stay where others are set
kept-bit : (a n m i : ℕ) → bit_and a m ≡ m → bit_at (bit_and (bit_or a n) m) i ≡ bit_at m i
kept-bit a n m i has =
    let had = sym (bit_at_and a m i) ∙ ap (λ z. bit_at z i) has in
    let now = bit_at_and (bit_or a n) m i in
    let either = bit_at_or a n i in
    omega (arith, had, now, either)

kept-bits : (a n m : ℕ) → bit_and a m ≡ m → bit_and (bit_or a n) m ≡ m
kept-bits a n m has = same_from_bits _ _ (λ i. kept-bit a n m i has)

get-set-same : (xs : List ℕ) (i x : ℕ) → i < length xs → slice_get (set xs i x) i ≡ Some x
get-set-same [] i x lt = absurd (omega (arith, lt))
get-set-same (y ∷ ys) zero x lt = refl
get-set-same (y ∷ ys) (suc i) x lt = get-set-same ys i x (omega (arith, lt))

get-set-other : (xs : List ℕ) (i j x : ℕ) → (j ≡ i → ⊥) → slice_get (set xs i x) j ≡ slice_get xs j
get-set-other [] i j x n = refl
get-set-other (y ∷ ys) zero zero x n = absurd (n refl)
get-set-other (y ∷ ys) zero (suc j) x n = refl
get-set-other (y ∷ ys) (suc i) zero x n = refl
get-set-other (y ∷ ys) (suc i) (suc j) x n = get-set-other ys i j x (λ e. n (ap suc e))

-- the bits of a front are set in its word
abbrev marked : List ℕ → ℕ → ℕ → List ℕ
marked words at mask = set words at (bit_or (get_or words at 0) mask)

-- what the words let pass, where their number is that of others
abbrev passes_in : List ℕ → ℕ → ℕ → Bool
passes_in words count front = has_all (slice_get words (word_for front count)) (mask_of front)

pub mark-own : (words : List ℕ) (at mask front : ℕ) → at ≡ word_for front (length words) → mask ≡ mask_of front → at < length words → lets_pass (marked words at mask) front ≡ true
mark-own words at mask front is bits lt =
    let word = bit_or (get_or words at 0) mask in
    ap (λ n. passes_in (marked words at mask) n front) (length-set words at word)
    ∙ ap (λ k. has_all (slice_get (marked words at mask) k) (mask_of front)) (sym is)
    ∙ ap (λ o. has_all o (mask_of front)) (get-set-same words at word lt)
    ∙ eq-eqb _ _ (ap (λ m. bit_and word m) (sym bits) ∙ and_or_self mask (get_or words at 0) ∙ bits)

mark-same : (words : List ℕ) (at mask f : ℕ) → at < length words → word_for f (length words) ≡ at → lets_pass words f ≡ true → passes_in (marked words at mask) (length words) f ≡ true
mark-same words at mask f lt is pass =
    let word = get_or words at 0 in
    let had : has_all (Some word) (mask_of f) ≡ true = ap (λ o. has_all o (mask_of f)) (sym (ap (slice_get words) is ∙ slice_get-get_or words at 0 lt)) ∙ pass in
    ap (λ k. has_all (slice_get (marked words at mask) k) (mask_of f)) is
    ∙ ap (λ o. has_all o (mask_of f)) (get-set-same words at (bit_or word mask) lt)
    ∙ eq-eqb _ _ (kept-bits word mask (mask_of f) (eqb-true _ _ had))

mark-other : (words : List ℕ) (at mask f : ℕ) → (word_for f (length words) ≡ at → ⊥) → lets_pass words f ≡ true → passes_in (marked words at mask) (length words) f ≡ true
mark-other words at mask f n pass = ap (λ o. has_all o (mask_of f)) (get-set-other words at (word_for f (length words)) (bit_or (get_or words at 0) mask) n) ∙ pass

pub mark-others : (words : List ℕ) (at mask f : ℕ) → at < length words → lets_pass words f ≡ true → lets_pass (marked words at mask) f ≡ true
mark-others words at mask f lt pass =
    ap (λ n. passes_in (marked words at mask) n f) (length-set words at (bit_or (get_or words at 0) mask))
    ∙ ⊎_elim (λ e. mark-same words at mask f lt e pass) (λ n. mark-other words at mask f n pass) (cases_eq (word_for f (length words)) at)

-- a front whose word isn't there passes
pub past-own : (words : List ℕ) (at front : ℕ) → at ≡ word_for front (length words) → length words ≤ at → lets_pass words front ≡ true
past-own words at front is le = ap (λ o. has_all o (mask_of front)) (slice_get_past words _ (omega (arith, is, le)))

-- the words let pass what others do
abbrev pub PassMore : List ℕ → List ℕ → Type 0
PassMore words more = (f : ℕ) → lets_pass words f ≡ true → lets_pass more f ≡ true

-- where the fronts of the rest pass, those of all entries do, also with further bits
abbrev pub Marking : List ℕ → List Entry → List Entry → Type 0
Marking words rest entries = (more : List ℕ) → PassMore words more → PassAll more rest → PassAll more entries

pub mark-more : (words now : List ℕ) (e : Entry) (rest entries : List Entry) → PassMore words now → lets_pass now e.front ≡ true → Marking words (e ∷ rest) entries → Marking now rest entries
mark-more words now e rest entries keeps own before more m pass = before more (λ f h. m f (keeps f h)) (m e.front own, pass)

pub mark-end : (words : List ℕ) (entries : List Entry) → Marking words [] entries → PassAll words entries
mark-end words entries m = m words (λ f h. h) tt

-- a name whose front the words keep back is none of those whose fronts pass
pub none-passes : (words : List ℕ) (held : List NamedPlace) (name : Name) → PassAll words (map entry_of held) → lets_pass words (front_of name) ≡ false → IsIn name (names_in held) → ⊥
none-passes words [] name pass off i = i
none-passes words (n ∷ ns) name pass off (inl e) = true≢false (sym pass.0 ∙ ap (λ z. lets_pass words (front_of z)) (sym e) ∙ off)
none-passes words (n ∷ ns) name pass off (inr i) = none-passes words ns name pass.1 off i
