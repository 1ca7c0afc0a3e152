-- The test of equality of names decides it.
use Rattle.std.proofs.Common.{◌≡◌, ◌<◌, ℕ, suc, true, List, [], ◌∷◌, slice_index, Some, None, Ok, Err, ap, sym, ◌∙◌, length, ◌*◌, arith}
use Rattle.std.specs.List.{AllByRecursion}
use Rattle.hex.proofs.HexLemmas.{decode_of-ok, decode_sized-ok, decode_sized-twice}
use Rattle.hex.specs.declared.error.FromHexError.{FromHexError}
use Rattle.hex.specs.Hex.{decode_sized}
use Rattle.std.specs.declared.result.Result.{Result}
use Rattle.std.specs.declared.option.Option.{Option}
use Rattle.std.proofs.lemmas.Cmp.{nat_list_eq_equiv}
use Rattle.std.specs.Cmp.Lexicographic.{bytes_decides}
use Rattle.id_groups.specs.Name.{Name, IsName, SpellsName, same_name, name_of, decoded}

pub same_name-exact : (a b : Name) → same_name a b ≡ true → a ≡ b
same_name-exact a b h = (bytes_decides a b).0 h

pub same_name-self : (a : Name) → same_name a a ≡ true
same_name-self a = nat_list_eq_equiv.refl a

all-bytes : (xs : List ℕ) → ((i : ℕ) → slice_index xs i < 256) → AllByRecursion (λ b. b < 256) xs
all-bytes [] h = tt
all-bytes (x ∷ xs) h = (h 0, all-bytes xs (λ i. h (suc i)))

-- what is spelled is a name
pub spelled-name : (text : List ℕ) (name : Name) → SpellsName text name → IsName name
spelled-name text name h = (h.0, all-bytes name (decode_of-ok text name h.1).3)

ok-of : (r : Result Name FromHexError) (name : Name) → decoded r ≡ Some name → r ≡ Ok name
ok-of (Ok bytes) name h = ap (λ o. option_case o) h
  where
    option_case : Option Name → Result Name FromHexError
    option_case None = Ok name
    option_case (Some x) = Ok x
ok-of (Err e) name h = cc h

-- the name that is read from a text is the one that it spells
pub name_of-spelled : (text : List ℕ) (name : Name) → SpellsName text name → name_of text ≡ Some name
unfolding name_of
name_of-spelled text name h =
    let size = (decode_of-ok text name h.1) in
    let len : length text ≡ 2 * 20 = size.2 ∙ ap (λ n. 2 * n) h.0 in
    ap decoded (decode_sized-twice text 20 len ∙ h.1)

pub spelled-name_of : (text : List ℕ) (name : Name) → name_of text ≡ Some name → SpellsName text name
unfolding name_of
spelled-name_of text name h =
    let ok = ok-of (decode_sized text 20) name h in
    let len = decode_sized-ok text 20 name ok in
    let same = sym (decode_sized-twice text 20 len) ∙ ok in
    let size = (decode_of-ok text name same).2 in
    (omega (arith, size, len), same)
