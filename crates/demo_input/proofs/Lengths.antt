-- How long lines are.
use Rattle.std.proofs.Common.{ℕ, zero, suc, ◌≡◌, ◌*◌, ◌%◌, ◌==◌, ◌≤◌, Bool, true, false, List, [], ◌∷◌, ◌++◌, if◌then◌else◌, length, length-append, codes, refl, arith}
use Rattle.hex.proofs.HexLemmas.{length-encode_with}
use Rattle.id_groups.specs.Name.{hex_text}
use Rattle.demo_input.specs.Drawing.{drawn, parents_at}
use Rattle.demo_input.specs.Lines.{commit_name, names_text, add_text, flush_text, ancestors_text}

name-size : (i : ℕ) → length (hex_text (commit_name i)) ≡ 40
name-size i = length-encode_with _ (commit_name i)

names-size : (commits : List ℕ) → length (names_text commits) ≡ 41 * length commits
names-size [] = refl
names-size (i ∷ more) =
    let one = name-size i in
    let both = length-append (hex_text (commit_name i)) (names_text more) in
    let rest = names-size more in
    omega (arith, one, both, rest)

few : (a b c : List ℕ) (p q : Bool) → length a ≤ 2 → length b ≤ 2 → length c ≤ 2 → length (if p then a else if q then b else c) ≤ 2
few a b c true q one two three = one
few a b c false true one two three = two
few a b c false false one two three = three

few-parents : (i x : ℕ) → length (parents_at i x) ≤ 2
few-parents zero x = omega arith
few-parents (suc zero) x = omega arith
few-parents (suc (suc i)) x =
    let r = drawn x in
    few _ _ _ (r % 16 == 0) (r % 16 == 1) (omega arith) (omega arith) (omega arith)

pub add-short : (i x : ℕ) → length (add_text i x) ≤ 128
add-short i x =
    let le = few-parents i x in
    let is = names-size (i ∷ parents_at i x) in
    let all = length-append (codes "0 add") (names_text (i ∷ parents_at i x)) in
    omega (arith, le, is, all)

pub flush-short : (i : ℕ) → length (flush_text i) ≤ 128
flush-short i =
    let is = names-size (i ∷ []) in
    let all = length-append (codes "0 flush") (names_text (i ∷ [])) in
    omega (arith, is, all)

pub ancestors-short : (i : ℕ) → length (ancestors_text i) ≤ 128
ancestors-short i =
    let is = name-size i in
    let front = length-append (codes "0 count ancestors(") (hex_text (commit_name i)) in
    let all = length-append (codes "0 count ancestors(" ++ hex_text (commit_name i)) (codes ")") in
    omega (arith, is, front, all)
