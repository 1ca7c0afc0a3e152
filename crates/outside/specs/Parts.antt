-- Bytes cut at a byte: the parts that one ends, and what stands behind the last.
use Rattle.std.specs.Prelude.{ℕ, ◌==◌, ◌≡◌, false, List, [], ◌∷◌, ◌++◌, ⊤, if◌then◌else◌}

pub record Cut : Type 0 where
  -- the parts that the byte ends, each without it
  pub parts : List (List ℕ)
  -- what stands behind the last of them
  pub rest : List ℕ

-- one more byte in front of what is cut
abbrev pub put_before : ℕ → List (List ℕ) → List ℕ → Cut
put_before byte [] rest = record { parts = []; rest = byte ∷ rest }
put_before byte (part ∷ parts) rest = record { parts = (byte ∷ part) ∷ parts; rest = rest }

-- the bytes cut at each byte that equals the mark
abbrev pub cut_at : ℕ → List ℕ → Cut
cut_at mark [] = record { parts = []; rest = [] }
cut_at mark (byte ∷ bytes) =
    let behind = cut_at mark bytes in
    if byte == mark then record { parts = [] ∷ behind.parts; rest = behind.rest } else put_before byte behind.parts behind.rest

-- no byte equals the mark
abbrev pub HasNone : ℕ → List ℕ → Type 0
HasNone mark [] = ⊤
HasNone mark (byte ∷ bytes) = ((byte == mark) ≡ false) × HasNone mark bytes

-- the bytes between the marks: the parts, and what stands behind the last
abbrev pub split_at : ℕ → List ℕ → List (List ℕ)
split_at mark bytes = (cut_at mark bytes).parts ++ (cut_at mark bytes).rest ∷ []
