-- Where clap takes the words each option has a number within its bounds.
use Rattle.std.proofs.Common.{◌≡◌, ◌⊎◌, ◌∙◌, ◌<◌, ◌≤◌, ◌^◌, ◌-◌, ap, ℕ, zero, suc, Bool, true, false, not, List, [], ◌∷◌, length, map, is_some, Option, Some, None, refl, sym, subst, inl, inr, arith, codes, cond, drop}
use Rattle.std.specs.List.{slice_index_or}
use Rattle.std.specs.Str.{bytes_eq}
use Rattle.std.specs.Prelude.{pos, unwrap_or, slice_index, ◌==◌, ◌↔◌}
use Rattle.std.specs.Str.Parse.{IsNumeral, digits_value, starts_with_minus, without_leading_plus}
use Rattle.std.proofs.lemmas.Bool.{eqb-true}
use Rattle.std.proofs.lemmas.Slice.Eq.{bytes_eq-Decides}
use Rattle.std.proofs.lemmas.Int.{ints}
use Rattle.std.proofs.lemmas.List.{get_or-map, length-map}
use Rattle.clap.specs.Lexer.{without_minus}
use Rattle.clap.specs.Texts.{items_of}
use Rattle.clap.specs.Words.{App, Rule, Text, app_of, rule_of, found_of, first_value, one_text}
use Rattle.clap.specs.Walk.{is_empty, is_free_arg, is_simple_arg}
use Rattle.clap.specs.Simple.{has_plain_fields}
use Rattle.clap.specs.Facts.{args_of, least_values, unwrap_or_range}
use Rattle.clap.specs.Built.{IsPlain, IsPlainArg, IsParsedFrom, IsAuto}
use Rattle.clap.specs.Values.{Accepts, IsSignedIn, IsUnsignedIn, read_as, reading_of}
use Rattle.clap.specs.declared.builder.action.ArgAction.TheVariants.{Set}
use Rattle.clap.specs.declared.builder.arg.Arg.{Arg}
use Rattle.clap.specs.declared.builder.command.Command.{Command}
use Rattle.clap.specs.declared.builder.command.Command.TheViews.{out-Command}
use Rattle.clap.specs.declared.builder.value_parser.ValueParser.{ValueParser}
use Rattle.clap.specs.declared.builder.value_parser.ValueParser.TheVariants as parser
use Rattle.clap.specs.declared.parser.matches.ArgMatches.{ArgMatches}
use Rattle.clap.proofs.WalkLemmas.{both}
use Rattle.program_words.specs.Command.{command, mode, cache, size, start, wait}
use Rattle.program_words.specs.Usage.{WritesNumber, Finds, mode_text}
use Rattle.program_words.specs.declared.usage.Mode.{Mode}
use Rattle.program_words.specs.declared.usage.Usage.{Usage}
use Rattle.program_words.proofs.Defaults.{default-text}

-- what a test of a rule says of its argument
none-in : {X : Type 0} (xs : List X) → is_empty xs ≡ true → xs ≡ []
none-in [] e = refl
none-in (x ∷ xs) e = let none = eqb-true _ _ e in absurd (omega arith)

denied : (b : Bool) → not b ≡ true → b ≡ false
denied true e = cc
denied false e = refl

is-none : {X : Type 0} (o : Option X) → not (is_some o) ≡ true → o ≡ None
is-none None e = refl
is-none (Some x) e = cc

plain-arg : (a : Arg) → is_simple_arg a ≡ true → is_free_arg a ≡ true → IsPlainArg a
plain-arg a simple free =
    let overrides = both _ _ simple in
    let ifs = both _ _ overrides.1 in
    let groups = both _ _ ifs.1 in
    let exclusive = both _ _ free in
    let conflicts = both _ _ exclusive.1 in
    (denied _ exclusive.0, none-in _ conflicts.0, none-in _ overrides.0, none-in _ groups.0)

-- the rules of the command's arguments
abbrev all-rules : List Rule
all-rules = mode ∷ cache ∷ size ∷ start ∷ wait ∷ []

abbrev rule : ℕ → Rule
rule k = slice_index_or all-rules k mode

simple-rule : (k : ℕ) → (rule k).is_simple ≡ true
simple-rule zero = refl
simple-rule (suc zero) = refl
simple-rule (suc (suc zero)) = refl
simple-rule (suc (suc (suc zero))) = refl
simple-rule (suc (suc (suc (suc zero)))) = refl
simple-rule (suc (suc (suc (suc (suc k))))) = refl

free-rule : (k : ℕ) → (rule k).is_free ≡ true
free-rule zero = refl
free-rule (suc zero) = refl
free-rule (suc (suc zero)) = refl
free-rule (suc (suc (suc zero))) = refl
free-rule (suc (suc (suc (suc zero)))) = refl
free-rule (suc (suc (suc (suc (suc k))))) = refl

-- an option of the command: its rule, and that no other has its id
record IsOption (n : ℕ) (id : Text) (q : ValueParser) : Type 0 where
  place : n < 5
  word : (rule n).id ≡ id
  parser : (rule n).parser ≡ Some q
  action : (rule n).action ≡ Some Set
  range : (rule n).range ≡ None
  default : 0 < length (rule n).defaults
  case : (rule n).ignore_case ≡ false
  only : (j : ℕ) → j < 5 → bytes_eq (rule j).id id ≡ true → j ≡ n
  named : id ≡ [] → ⊥
  own : (id ≡ codes "help") ⊎ (id ≡ codes "version") → ⊥

module _ (c : Command) (m : ArgMatches) (p : IsParsedFrom c m) (is : app_of c ≡ command) where
  rules-are : map rule_of (args_of c) ≡ all-rules
  rules-are = ap (λ (a : App). a.top.rules) is

  five : length (args_of c) ≡ 5
  five = sym (length-map (args_of c) rule_of) ∙ ap length rules-are

  rule-at : (k : ℕ) (d : Arg) → k < 5 → rule_of (slice_index_or (args_of c) k d) ≡ rule k
  rule-at k d lt =
      sym (get_or-map rule_of (args_of c) k d mode (omega (arith, five))) ∙ ap (λ rules. slice_index_or rules k mode) rules-are

  fields : has_plain_fields (out-Command c) ≡ true
  fields = ap (λ (a : App). a.top.is_plain) is

  globals : (out-Command c).has_globals ≡ false
  globals = denied _ (both _ _ (both _ _ (both _ _ fields).1).1).0

  plain : IsPlain c
  plain = (
    (λ k d lt.
        let within : k < 5 = omega (arith, five) in
        plain-arg (slice_index_or (args_of c) k d) (ap (λ (r : Rule). r.is_simple) (rule-at k d within) ∙ simple-rule k)
        (ap (λ (r : Rule). r.is_free) (rule-at k d within) ∙ free-rule k)),
    none-in _ (both _ _ fields).0,
  )

  some-arg : Arg
  some-arg = go (args_of c) five
    where
      go : (xs : List Arg) → length xs ≡ 5 → Arg
      go [] e = absurd (omega arith)
      go (x ∷ xs) e = x

  -- what an option has passed its parser
  option-text : (n : ℕ) (id : Text) (q : ValueParser) → IsOption n id q
      → (t : Text) × (one_text (found_of m) id ≡ Some (read_as (reading_of q) t)) × Accepts false q t
  option-text n id q o =
      let d = some-arg in
      let a = slice_index_or (args_of c) n d in
      let at : rule_of a ≡ rule n = rule-at n d o.place in
      let lt : n < length (args_of c) = omega (arith, five, o.place) in
      let simple : is_simple_arg a ≡ true = ap (λ (r : Rule). r.is_simple) at ∙ simple-rule n in
      let overrides = both _ _ simple in
      let ifs = both _ _ overrides.1 in
      let groups = both _ _ ifs.1 in
      let delim = both _ _ groups.1 in
      let id-is : a.id.now ≡ id = ap (λ (r : Rule). r.id) at ∙ o.word in
      let range : a.num_vals ≡ None = ap (λ (r : Rule). r.range) at ∙ o.range in
      let defaults : 0 < length (items_of a.default_vals) =
      subst (λ count. 0 < count) (sym (ap (λ (r : Rule). length r.defaults) at) ∙ length-map (items_of a.default_vals) _) o.default in
      let least : 1 ≤ least_values a = subst (λ r. 1 ≤ (unwrap_or_range r).start_inclusive) (sym range) (omega arith) in
      let unique : (j : ℕ) (e : Arg) → j < length (args_of c) → bytes_eq (slice_index_or (args_of c) j e).id.now a.id.now ≡ true → j ≡ n =
      λ j e low same.
      let within : j < 5 = omega (arith, five) in
      let its : (slice_index_or (args_of c) j e).id.now ≡ (rule j).id = ap (λ (r : Rule). r.id) (rule-at j e within) in
      o.only j within (rw (its, id-is) at same) in
      let named : a.id.now ≡ [] → ⊥ = λ empty. o.named (sym id-is ∙ empty) in
      let own : IsAuto a → ⊥ = λ auto. o.own (elim auto [ inl h ↦ inl (sym id-is ∙ h) | inr h ↦ inr (sym id-is ∙ h) ]) in
      let got = default-text c m p plain globals n d lt (none-in _ ifs.0, defaults) (ap (λ (r : Rule). r.action) at ∙ o.action)
      (is-none _ delim.0) least unique named own q (ap (λ (r : Rule). r.parser) at ∙ o.parser) in
      let case : a.ignore_case ≡ false = ap (λ (r : Rule). r.ignore_case) at ∙ o.case in (
        got.0,
        subst (λ word. one_text (found_of m) word ≡ Some (read_as (reading_of q) got.0)) id-is got.1,
        subst (λ b. Accepts b q got.0) case got.2,
      )

without-minus-cond : (t : Text) → without_minus t ≡ cond (starts_with_minus t) (drop 1 t) t
without-minus-cond [] = refl
without-minus-cond (x ∷ xs) = go (x == 45)
  where
    go : (b : Bool) → unwrap_or (cond b (Some xs) None) (x ∷ xs) ≡ cond b xs (x ∷ xs)
    go true = refl
    go false = refl

-- a text that passed bounds from 1 on writes a number within them
signed-written : (high : ℕ) (o : Option Text) (t : Text) → o ≡ Some (without_minus t) → IsSignedIn (pos 1) (pos high) t
    → (n : ℕ) × WritesNumber 1 high o n
signed-written high o t is passed = go (starts_with_minus t) refl
  where
    go : (b : Bool) → starts_with_minus t ≡ b → (n : ℕ) × WritesNumber 1 high o n
    go true minus =
        let low = rw minus at passed.2 in
        absurd (omega (arith, ints))
    go false minus =
        let low = rw minus at passed.2 in
        let most = rw minus at passed.3 in
        let numeral : IsNumeral 10 (without_leading_plus t) = rw minus at passed.0 in
        let whole : without_minus t ≡ t = without-minus-cond t ∙ ap (λ b. cond b (drop 1 t) t) minus in (
          digits_value 10 (without_leading_plus t),
          subst (λ w. WritesNumber 1 high w (digits_value 10 (without_leading_plus t))) (sym (is ∙ ap Some whole))
              (numeral, refl, omega (arith, ints), omega (arith, ints)),
        )

long-written : (high : ℕ) (o : Option Text) (t : Text) → o ≡ Some t → IsUnsignedIn 0 high t → (n : ℕ) × WritesNumber 0 high o n
long-written high o t is passed = (
  digits_value 10 (without_leading_plus t),
  subst (λ w. WritesNumber 0 high w (digits_value 10 (without_leading_plus t))) (sym is) (passed.0, refl, passed.2, passed.3),
)

cache-option : IsOption 1 (codes "cache") (parser.Signed (pos 1) (pos 65536))
cache-option = record {
  place = omega arith;
  word = refl;
  parser = refl;
  action = refl;
  range = refl;
  default = omega arith;
  case = refl;
  only = alone;
  named = λ e. let bad : 99 ≡ 0 = ap (λ (t : Text). slice_index t 0) e in absurd (omega arith);
  own = λ auto. elim auto [
    | inl h ↦ let bad : 99 ≡ 104 = ap (λ (t : Text). slice_index t 0) h in absurd (omega arith)
    | inr h ↦ let bad : 99 ≡ 118 = ap (λ (t : Text). slice_index t 0) h in absurd (omega arith)
  ];
}
  where
    alone : (j : ℕ) → j < 5 → bytes_eq (rule j).id (codes "cache") ≡ true → j ≡ 1
    alone zero lt e = let bad : false ≡ true = e in cc
    alone (suc zero) lt e = refl
    alone (suc (suc zero)) lt e = let bad : false ≡ true = e in cc
    alone (suc (suc (suc zero))) lt e = let bad : false ≡ true = e in cc
    alone (suc (suc (suc (suc zero)))) lt e = let bad : false ≡ true = e in cc
    alone (suc (suc (suc (suc (suc j))))) lt e = absurd (omega arith)

size-option : IsOption 2 (codes "size") (parser.Signed (pos 1) (pos 60000))
size-option = record {
  place = omega arith;
  word = refl;
  parser = refl;
  action = refl;
  range = refl;
  default = omega arith;
  case = refl;
  only = alone;
  named = λ e. let bad : 115 ≡ 0 = ap (λ (t : Text). slice_index t 0) e in absurd (omega arith);
  own = λ auto. elim auto [
    | inl h ↦ let bad : 115 ≡ 104 = ap (λ (t : Text). slice_index t 0) h in absurd (omega arith)
    | inr h ↦ let bad : 115 ≡ 118 = ap (λ (t : Text). slice_index t 0) h in absurd (omega arith)
  ];
}
  where
    alone : (j : ℕ) → j < 5 → bytes_eq (rule j).id (codes "size") ≡ true → j ≡ 2
    alone zero lt e = let bad : false ≡ true = e in cc
    alone (suc zero) lt e = let bad : false ≡ true = e in cc
    alone (suc (suc zero)) lt e = refl
    alone (suc (suc (suc zero))) lt e = let bad : false ≡ true = e in cc
    alone (suc (suc (suc (suc zero)))) lt e = let bad : false ≡ true = e in cc
    alone (suc (suc (suc (suc (suc j))))) lt e = absurd (omega arith)

start-option : IsOption 3 (codes "start") (parser.Unsigned 0 (2 ^ 64 - 1))
start-option = record {
  place = omega arith;
  word = refl;
  parser = refl;
  action = refl;
  range = refl;
  default = omega arith;
  case = refl;
  only = alone;
  named = λ e. let bad : 115 ≡ 0 = ap (λ (t : Text). slice_index t 0) e in absurd (omega arith);
  own = λ auto. elim auto [
    | inl h ↦ let bad : 115 ≡ 104 = ap (λ (t : Text). slice_index t 0) h in absurd (omega arith)
    | inr h ↦ let bad : 115 ≡ 118 = ap (λ (t : Text). slice_index t 0) h in absurd (omega arith)
  ];
}
  where
    alone : (j : ℕ) → j < 5 → bytes_eq (rule j).id (codes "start") ≡ true → j ≡ 3
    alone zero lt e = let bad : false ≡ true = e in cc
    alone (suc zero) lt e = let bad : false ≡ true = e in cc
    alone (suc (suc zero)) lt e = let bad : false ≡ true = e in cc
    alone (suc (suc (suc zero))) lt e = refl
    alone (suc (suc (suc (suc zero)))) lt e = let bad : false ≡ true = e in cc
    alone (suc (suc (suc (suc (suc j))))) lt e = absurd (omega arith)

-- a flag is given or it isn't
says-flag : (o : Option Text) → (b : Bool) × ((b ≡ true) ↔ (o ≡ Some (codes "true")))
says-flag None = (
  false,
  ((λ e. let bad : false ≡ true = e in cc), (λ e. cc)),
)
says-flag (Some text) =
    let decides = bytes_eq-Decides text (codes "true") in
    (bytes_eq text (codes "true"), ((λ e. ap Some (decides.0 e)), (λ e. decides.1 (ap (λ o. unwrap_or o []) e))))

-- so a mode is all that may be wanting
pub usage-of-mode : (c : Command) (m : ArgMatches) → IsParsedFrom c m → app_of c ≡ command → (given : Mode)
    → first_value (found_of m) (codes "MODE") ≡ Some (mode_text given) → (usage : Usage) × Finds m usage
usage-of-mode c m p is given e =
    let cached = option-text c m p is 1 (codes "cache") _ cache-option in
    let sized = option-text c m p is 2 (codes "size") _ size-option in
    let started = option-text c m p is 3 (codes "start") _ start-option in
    let cache-is = signed-written 65536 _ cached.0 cached.1 cached.2 in
    let size-is = signed-written 60000 _ sized.0 sized.1 sized.2 in
    let start-is = long-written (2 ^ 64 - 1) _ started.0 started.1 started.2 in
    let waits = says-flag (first_value (found_of m) (codes "wait")) in
    let usage : Usage = record { mode = given; cache = cache-is.0; size = size-is.0; start = start-is.0; wait = waits.0 } in
    (usage, record { mode = e; cache = cache-is.1; size = size-is.1; start = start-is.1; wait = waits.1 })
