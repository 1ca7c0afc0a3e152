use Rattle.std.proofs.Common.{ℕ, ◌≡◌, ◌≤◌, ◌-◌, List, [], ◌∷◌, length, map, string_bytes, take, drop, Some, sym, ◌∙◌, ap, arith, rules}
use Rattle.std.specs.Prelude.{slice_get}
use Rattle.std.specs.Option.{option_map}
use Rattle.std.proofs.lemmas.List.{drop-map, take-map, take_all, length-drop}
use Rattle.dag_run.specs.Words.{dashes_at, split_of}
use Rattle.dag_run.specs.declared.words.Split.{Split}
use Rattle.segdag.specs.Remotes.{between_of, remote_words}
use Rattle.segdag.specs.Usage.{mode_words}
use Rattle.segdag.proofs.words.parts_of.Goals as goal

-- what is behind a place, by a function of each item
behind : {X Y : Type 0} (f : X → Y) (place : ℕ) (items : List X)
    → map f (take (length items - place) (drop place items)) ≡ drop place (map f items)
behind f place items =
    let short : length (drop place items) ≤ length items - place = omega (arith, length-drop place items) in
    ap (map f) (take_all (length items - place) (drop place items) short) ∙ sym (drop-map f place items)

mode-of : {X : Type 0} (f : X → List ℕ) (all rest : List X) (name : X) (split : Split) → all ≡ name ∷ rest → Some split ≡ split_of (dashes_at (map f rest))
    → mode_words (map f all) ≡ Some (map f (take (length rest - split.rest) (drop split.rest rest)))
mode-of f all rest name split cut is =
    ap (λ xs. mode_words (map f xs)) cut ∙ ap (option_map (λ (s : Split). drop s.rest (map f rest))) (sym is) ∙ ap Some (sym (behind f split.rest rest))

remotes-of : {X : Type 0} (f : X → List ℕ) (all rest found : List X) (name : X) (split : Split) → all ≡ name ∷ rest → Some split ≡ split_of (dashes_at (map f rest))
    → found ≡ drop split.remotes (take (split.rest - 1) rest) → map f found ≡ remote_words (map f all)
remotes-of f all rest found name split cut is between =
    ap (map f) between ∙ sym (drop-map f split.remotes (take (split.rest - 1) rest)) ∙ ap (drop split.remotes) (sym (take-map f (split.rest - 1) rest))
    ∙ ap (λ s. between_of s (map f rest)) is ∙ sym (ap (λ xs. remote_words (map f xs)) cut)

path-of : {X : Type 0} (f : X → List ℕ) (all rest : List X) (name path : X) → all ≡ name ∷ rest → Some path ≡ slice_get rest 0 → slice_get (map f all) 1 ≡ Some (f path)
path-of f all [] name path cut e = absurd (cc e)
path-of f all (x ∷ rest) name path cut e = ap (λ xs. slice_get (map f xs) 1) cut ∙ sym (ap (option_map f) e)

pub returns-clause-parts : goal.returns-clause-parts
returns-clause-parts c =
    let all = c.args.words.now in
    let rest = c.in_ok-_name.rest.now in
    let split = c.in_ok-split.split in
    let cut : all ≡ c.in_ok-_name._name.now ∷ rest = search rules in (record {
      path = path-of string_bytes all rest c.in_ok-_name._name.now c.in_ok-path.path.now cut c.in_ok-path.ensures.value;
      remotes = remotes-of string_bytes all rest c.between.result.now c.in_ok-_name._name.now split cut c.in_ok-split.ensures.parts c.between.ensures.words;
      mode = mode-of string_bytes all rest c.in_ok-_name._name.now split cut c.in_ok-split.ensures.parts;
    })
