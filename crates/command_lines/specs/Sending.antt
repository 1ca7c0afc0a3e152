-- Texts of lines, and how they are sent in blocks.
use Rattle.std.specs.Prelude.{ℕ, ◌≡◌, List, [], ◌∷◌, ◌++◌, map, codes, decimal, flat_map}
use Rattle.id_groups.specs.Name.{Name, hex_text}
use Rattle.step_rules.specs.declared.Refusal.{Refusal}
use Rattle.step_rules.specs.declared.Refusal.TheVariants as why
use Rattle.step_rules.specs.Reply.{words_text}

-- of the text some was put, and the rest waits in the block
abbrev pub Sends : List ℕ → List ℕ → List ℕ → List ℕ → Type 0
Sends text block before now = (sent : List ℕ) × (now ≡ before ++ sent) × (text ≡ sent ++ block)

-- lines as they are written, each ended by a line feed
abbrev pub lines_text : List (List ℕ) → List ℕ
lines_text lines = flat_map (λ line. line ++ 10 ∷ []) lines

-- the words that a refusal's line begins with
abbrev pub refusal_head : Refusal → List ℕ
refusal_head (why.Unknown name) = codes "err unknown"
refusal_head (why.Twice name) = codes "err twice"
refusal_head (why.Differs name) = codes "err differs"
refusal_head (why.Conflict name) = codes "err conflict"
refusal_head (why.Lost name) = codes "err lost"
refusal_head (why.InMaster name) = codes "err master"
refusal_head (why.Emptied n) = codes "err empty"
refusal_head (why.Full what n) = codes "err full"
refusal_head (why.Answer n) = codes "err answer"
refusal_head (why.NotEmpty m o) = codes "err not-empty"
refusal_head (why.Pending p) = codes "err pending"
refusal_head why.NoRemote = codes "err no-remote"
refusal_head (why.Remote n) = codes "err remote"
refusal_head (why.MismatchPath from back) = codes "err mismatch path"
refusal_head (why.MismatchNames asked got) = codes "err mismatch names"
refusal_head (why.MismatchClone at) = codes "err mismatch clone"
refusal_head (why.MismatchRow id) = codes "err mismatch row"
refusal_head why.Memory = codes "err memory"

-- the names, one a line, and this number of them: the text of an answer, where it is how many they are
abbrev pub listed_text : List Name → ℕ → List ℕ
listed_text names count = lines_text (map hex_text names ++ words_text (codes "ok") (decimal count ∷ []) ∷ [])

-- the line that tells of a log written anew: its world's sizes, and how long the log was that was read and the one that was written
abbrev pub shrunk_text : ℕ → ℕ → ℕ → ℕ → List ℕ
shrunk_text master others length_from length_to =
    lines_text (words_text (codes "ok compacted") (decimal master ∷ decimal others ∷ decimal length_from ∷ decimal length_to ∷ []) ∷ [])
