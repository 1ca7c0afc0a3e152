-- The input lines of a demonstration.
use Rattle.std.specs.Prelude.{ℕ, ◌+◌, ◌-◌, ◌%◌, ◌==◌, ◌||◌, Bool, List, [], ◌∷◌, ◌++◌, codes, replicate, flat_map, if◌then◌else◌}
use Rattle.std.specs.List.{range_with_len}
use Rattle.std.specs.Int.{to_be_bytes, w64}
use Rattle.id_groups.specs.Name.{Name, hex_text}
use Rattle.demo_input.specs.Drawing.{parents_at, number_of}

-- the name of commit i: 12 zero bytes and then i + 1 in 8 bytes
abbrev pub commit_name : ℕ → Name
commit_name i = replicate 12 0 ++ to_be_bytes w64 (i + 1)

-- the names of these commits, a blank before each
abbrev pub names_text : List ℕ → List ℕ
names_text commits = flat_map (λ i. 32 ∷ hex_text (commit_name i)) commits

-- commit i is added, where this number is reached
abbrev pub add_text : ℕ → ℕ → List ℕ
add_text i x = codes "0 add" ++ names_text (i ∷ parents_at i x)

-- commit i is flushed
abbrev pub flush_text : ℕ → List ℕ
flush_text i = codes "0 flush" ++ names_text (i ∷ [])

-- a flush follows each thousandth commit and the last one
abbrev pub is_flushed : ℕ → ℕ → Bool
is_flushed size i = (i + 1) % 1000 == 0 || i + 1 == size

-- the line of a flush, where there is one
abbrev pub flush_lines : Bool → ℕ → List (List ℕ)
flush_lines is_due i = if is_due then flush_text i ∷ [] else []

-- the lines of commit i
abbrev pub lines_of : ℕ → ℕ → ℕ → List (List ℕ)
lines_of size start i = add_text i (number_of start i) ∷ flush_lines (is_flushed size i) i

-- the lines of the commits from i on
abbrev pub lines_from : ℕ → ℕ → ℕ → List (List ℕ)
lines_from size start i = flat_map (lines_of size start) (range_with_len i (size - i))

-- the lines of all commits; their replies aren't printed
abbrev pub commit_lines : ℕ → ℕ → List (List ℕ)
commit_lines size start = lines_from size start 0

-- how many ancestors commit i has is asked
abbrev pub ancestors_text : ℕ → List ℕ
ancestors_text i = codes "0 count ancestors(" ++ hex_text (commit_name i) ++ codes ")"

-- the last four lines, whose replies are printed
abbrev pub last_lines : ℕ → List (List ℕ)
last_lines size =
    codes "0 status"
    ∷ ancestors_text (size - 1)
    ∷ codes "0 count merges(all)"
    ∷ codes "0 count heads(all)"
    ∷ []

-- all lines
abbrev pub demo_lines : ℕ → ℕ → List (List ℕ)
demo_lines size start = commit_lines size start ++ last_lines size
