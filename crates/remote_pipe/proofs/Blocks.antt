-- Names that are asked for in blocks.
use Rattle.std.proofs.Common.{◌≡◌, ◌≤◌, ◌<◌, ◌+◌, ◌-◌, ◌⊎◌, inl, inr, ⊎_elim, ℕ, Bool, true, false, ltb, List, [], ◌∷◌, ◌++◌, length, take, Ok, refl, sym, ap, ap₂, subst, ◌∙◌, arith, length-take, length-append, append-nil}
use Rattle.std.specs.List.{flat_map}
use Rattle.std.proofs.lemmas.Bool.{ltb-true, ltb-false}
use Rattle.std.proofs.lemmas.Grind.{flat_map-append}
use Rattle.std.proofs.lemmas.List.Concat.{flat_map-cons}
use Rattle.id_groups.specs.Name.{Name}
use Rattle.remote_serve.specs.Requests.{Request, ToNames, most_names}
use Rattle.remote_serve.specs.Answers.{Named}
use Rattle.remote_pipe.specs.Line.{PlainLine, Asks}
use Rattle.remote_pipe.specs.Remote.{AsksBlocks, AsksNames, EndsNames, LastNames, block_of}
use Rattle.remote_pipe.proofs.Asking.{asks-value}

abbrev pub joined : List (List Name) → List Name
joined blocks = flat_map (λ (names : List Name). names) blocks

asked-from : (x : Name) (b c n m : ℕ) → b ≡ c → n ≡ m → (let r : Request = ToNames x b n in r) ≡ ToNames x c m
asked-from x b c n m e f = ap₂ (λ (k : ℕ) (l : ℕ). (let r : Request = ToNames x k l in r)) e f

asks-from : (x : Name) (b c n m : ℕ) (names : List Name) (before now : PlainLine) → b ≡ c → n ≡ m → Asks {T = List Name} (ToNames x b n) Named before now (Ok names) → Asks {T = List Name} (ToNames x c m) Named before now (Ok names)
asks-from x b c n m names before now e f a = subst (λ (r : Request). Asks {T = List Name} r Named before now (Ok names)) (asked-from x b c n m e f) a

-- one block more
pub blocks-then : (x : Name) (back : ℕ) (blocks : List (List Name)) (names : List Name) (before mid now : PlainLine) → AsksBlocks x back blocks before mid → length names ≡ most_names
    → Asks {T = List Name} (ToNames x (back + length (joined blocks)) most_names) Named mid now (Ok names) → AsksBlocks x back (blocks ++ names ∷ []) before now
blocks-then x back [] names before mid now same len a = (
  len,
  now,
  subst (λ (l : PlainLine). Asks {T = List Name} (ToNames x back most_names) Named l now (Ok names)) same
      (asks-from x (back + 0) back most_names most_names names mid now (omega arith) refl a),
  refl,
)
blocks-then x back (block ∷ blocks) names before mid now h len a =
    let first = h.0 in
    let size = ap (length {A = Name}) (flat_map-cons (λ (names : List Name). names) block blocks) ∙ length-append block (joined blocks) in (
      first,
      h.1,
      h.2,
      blocks-then x (back + most_names) blocks names h.1 mid now h.3 len
          (asks-from x (back + length (joined (block ∷ blocks))) (back + most_names + length (joined blocks)) most_names most_names names mid now (omega (arith, first, size)) refl a),
    )

module _ (x : Name) (back room done n : ℕ) (blocks : List (List Name)) (out out2 rest new : List Name) (before mid now : PlainLine)
    (asked : AsksBlocks x back blocks before mid) (is : joined blocks ≡ take done out) (lt : done < length out) (len : length out ≡ room)
    (wanted : length rest ≡ room - done) (few : n ≤ block_of (length rest)) (size : length new ≡ length rest)
    (a : Asks {T = ℕ} (ToNames x (back + done) (block_of (length rest))) (λ (k : ℕ). Named (take k new)) mid now (Ok n))
    (front : take (done + n) out2 ≡ take done out ++ take n new) where
  many : length (joined blocks) ≡ done
  many = omega (arith, ap (length {A = Name}) is, length-take {A = Name} done out, lt)

  got : length (take n new) ≡ n
  got = omega (arith, length-take {A = Name} n new, few, size)

  named : Asks {T = List Name} (ToNames x (back + done) (block_of (length rest))) Named mid now (Ok (take n new))
  named = asks-value {S = ℕ} {T = List Name} (ToNames x (back + done) (block_of (length rest))) (λ (k : ℕ). Named (take k new)) Named mid now n (take n new) refl a

  whole : take (done + n) out2 ≡ joined blocks ++ take n new
  whole = front ∙ ap (λ (l : List Name). l ++ take n new) (sym is)

  -- the last names came
  pub names-end : (n < most_names) ⊎ (done + n ≡ room) → AsksNames x back room before now (Ok (done + n)) out2
  names-end either =
      let last : LastNames x (back + length (joined blocks)) (room - length (joined blocks)) (take n new) mid now = inr (
        omega (arith, many, lt, len),
        asks-from x (back + done) (back + length (joined blocks)) (block_of (length rest)) (block_of (room - length (joined blocks))) (take n new) mid now (omega (arith, many)) (omega (arith, many, wanted)) named,
        which (ltb n (block_of (room - length (joined blocks)))) refl,
      ) in
      let ends : EndsNames x back room (joined blocks) mid now (Ok (done + n)) out2 = (take n new, omega (arith, many, got), whole, last) in
      (blocks, mid, asked, ends)
    where
      which : (b : Bool) → ltb n (block_of (room - length (joined blocks))) ≡ b
          → (length (take n new) ≡ room - length (joined blocks)) ⊎ (length (take n new) < block_of (room - length (joined blocks)))
      which true t = inr (let less = ltb-true n (block_of (room - length (joined blocks))) t in omega (arith, less, got))
      which false t =
          let least = ltb-false n (block_of (room - length (joined blocks))) t in
          inl (⊎_elim (λ small. omega (arith, small, least, few, wanted, many, got)) (λ full. omega (arith, full, many, got)) either)

  -- a full block came
  pub names-more : (n < most_names → ⊥) → (done + n ≡ length out2 → ⊥) → length out2 ≡ length out
      → (more : List (List Name)) × AsksBlocks x back more before now × (joined more ≡ take (done + n) out2)
  names-more full going same =
      let all : n ≡ most_names = omega (arith, full, few) in (
        blocks ++ take n new ∷ [],
        blocks-then x back blocks (take n new) before mid now asked (got ∙ all)
            (asks-from x (back + done) (back + length (joined blocks)) (block_of (length rest)) most_names (take n new) mid now (omega (arith, many)) (omega (arith, few, all)) named),
        flat_map-append (λ (names : List Name). names) blocks (take n new ∷ []) ∙ ap (λ (l : List Name). joined blocks ++ l) (append-nil (take n new)) ∙ sym whole,
      )
