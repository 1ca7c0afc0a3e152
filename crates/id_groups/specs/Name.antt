-- Names of commits: 20 bytes, shown as 40 hex digits.
use Rattle.std.specs.Prelude.{◌≡◌, ◌<◌, ℕ, Bool, List, length, nat_eq, Some, None, Ok, Err}
use Rattle.std.specs.declared.option.Option.{Option}
use Rattle.std.specs.declared.result.Result.{Result}
use Rattle.std.specs.List.{AllByRecursion}
use Rattle.std.specs.Cmp.Lexicographic.{pointwise}
use Rattle.hex.specs.declared.error.FromHexError.{FromHexError}
use Rattle.hex.specs.Hex.{encode_lower, decode_of, decode_sized}

-- a name, as its bytes
abbrev pub Name : Type 0
Name = List ℕ

-- 20 numbers, each of them a byte
abbrev pub IsName : Name → Type 0
IsName name = (length name ≡ 20) × AllByRecursion (λ b. b < 256) name

-- whether two names are the same
abbrev pub same_name : Name → Name → Bool
same_name = pointwise nat_eq

-- how a name is printed: two lower-case digits a byte
abbrev pub hex_text : Name → List ℕ
hex_text = encode_lower

-- the text is 40 hex digits, in either case, and stands for the name
abbrev pub SpellsName : List ℕ → Name → Type 0
SpellsName text name = (length name ≡ 20) × (decode_of text ≡ Ok name)

-- the bytes that decoding gave, or none where it was refused, whatever the cause
abbrev pub decoded : Result Name FromHexError → Option Name
decoded (Ok bytes) = Some bytes
decoded (Err e) = None

-- the name that a text spells, if it spells one
unfoldable pub name_of : List ℕ → Option Name
name_of text = decoded (decode_sized text 20)
