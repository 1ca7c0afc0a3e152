-- The master that the bytes of a log tell whole: the world's, where each commit has a known name.
use Rattle.std.specs.Prelude.{ℕ, zero, suc, Bool, true, not, ◌&&◌, List, [], ◌∷◌, ◌++◌, Option, Some, None, length, map, flat_map, nat_eq, nat_le, option_and_then, if◌then◌else◌, slice_index_or}
use Rattle.std.specs.Option.{option_map}
use Rattle.std.specs.Cmp.Lexicographic.{pointwise}
use Rattle.std.specs.Int.{w64}
use Rattle.id_groups.specs.Lists.{is_in}
use Rattle.id_groups.specs.Name.{Name, same_name}
use Rattle.commit_graph.specs.World.{Row}
use Rattle.segment_codec.specs.Reading.{◌>>=◌}
use Rattle.segment_rules.specs.Flat.{parents_listed}
use Rattle.segment_rules.specs.NewLevels.{same_segment}
use Rattle.batch_codec.specs.Payload.{Payload, known_names}
use Rattle.batch_codec.specs.Reading.{fixed_at, piece_at, payload_at}
use Rattle.batch_codec.specs.Grammar.{count_after, head_names, cloned_head_names}
use Rattle.change_rules.specs.Lawful.{levels_with}
use Rattle.change_rules.specs.Tables.{known_in}

-- the text behind an open gate, and the bytes from the next gate on
abbrev pub text_behind : List ℕ → Option (List ℕ × List ℕ)
text_behind bytes = do
  count ← fixed_at w64 bytes
  piece_at count.0 count.1

-- a text in front of the others
abbrev pub with_text : Option (List ℕ × List ℕ) → (List ℕ → Option (List (List ℕ))) → Option (List (List ℕ))
with_text None more = None
with_text (Some text) more = option_map (λ texts. text.0 ∷ texts) (more text.1)

-- the texts behind the open gates from here up to the first closed one, at most so many; none where a batch runs past the end
abbrev pub texts_from : ℕ → List ℕ → Option (List (List ℕ))
texts_from zero bytes = None
texts_from (suc most) [] = None
texts_from (suc most) (gate ∷ behind) = if nat_eq gate 1 then with_text (text_behind behind) (texts_from most) else Some []

-- the texts of a log; none where it is damaged
abbrev pub texts_in : List ℕ → Option (List (List ℕ))
texts_in bytes = if nat_le (length bytes) 1 then Some [] else texts_from (length bytes) bytes

-- the payloads that these texts spell; none where one of them is outside the grammar
abbrev pub payloads_in : List (List ℕ) → Option (List Payload)
payloads_in [] = Some []
payloads_in (text ∷ more) = option_and_then (λ p. option_map (λ ps. p ∷ ps) (payloads_in more)) (payload_at text)

-- whether no name is twice there
abbrev pub are_apart : List Name → Bool
are_apart [] = true
are_apart (name ∷ names) = not (is_in same_name name names) && are_apart names

-- whether none of these is of a later version
abbrev pub are_no_later : ℕ → List Payload → Bool
are_no_later version [] = true
are_no_later version (q ∷ before) = nat_le q.version version && are_no_later version before

-- whether a payload of this kind comes first and has these heads
abbrev pub begins_with : ℕ → List Name → List Payload → Payload → Bool
begins_with kind heads before p = if nat_eq p.kind kind then nat_eq (length before) 0 && pointwise same_name p.heads heads else true

-- whether a clone, or a whole store, comes first and has the heads that its cloned segments give
abbrev pub heads_fit : List Payload → Payload → Bool
heads_fit before p = begins_with 2 (head_names p) before p && begins_with 3 (cloned_head_names p) before p

-- whether a payload of version 2 has the segments of levels that come with it
abbrev pub levels_fit : List Payload → Payload → Bool
levels_fit before p = if nat_eq p.version 2 then pointwise same_segment p.levels (levels_with before p) else true

-- whether the counts, the version, the heads and the levels of a payload in the grammar go on from these
abbrev pub goes_on : List Payload → Payload → Bool
goes_on before p =
    (nat_eq p.before (count_after 0 before) && are_no_later p.version before) && (heads_fit before p && levels_fit before p)

-- whether a payload in the grammar may come behind these
abbrev pub may_follow : List Payload → Payload → Bool
may_follow before p = goes_on before p && are_apart (flat_map known_names (before ++ p ∷ []) ++ p.other_names)

-- whether each may come behind those before it
abbrev pub are_lawful : List Payload → List Payload → Bool
are_lawful before [] = true
are_lawful before (p ∷ more) = may_follow before p && are_lawful (before ++ p ∷ []) more

-- all known names, in the order of their ids
abbrev pub names_known : List Payload → List Name
names_known payloads = map (λ k. k.name) (known_in payloads)

-- rows by their names and their parents' ids, which are places in the list of all names
abbrev pub rows_by : List Name → List Name → List (List ℕ) → List (Row Name)
rows_by all (name ∷ names) (parents ∷ more) = record { name = name; parents = map (λ id. slice_index_or all id []) parents } ∷ rows_by all names more
rows_by all names more = []

-- the master rows of payloads that know the name of each id
abbrev pub master_rows : List Payload → List (Row Name)
master_rows payloads = rows_by (names_known payloads) (names_known payloads) (parents_listed (flat_map (λ p. p.master) payloads))

-- whether they are lawful and each master id has a known name
abbrev pub are_whole : List Payload → Bool
are_whole payloads = are_lawful [] payloads && nat_le (count_after 0 payloads) (length (known_in payloads))

-- the master that lawful payloads tell; none where an id has no known name
abbrev pub told_by : List Payload → Option (List (Row Name))
told_by payloads = if are_whole payloads then Some (master_rows payloads) else None

-- the master that the texts of a log tell
abbrev pub told_in : List (List ℕ) → Option (List (Row Name))
told_in texts = option_and_then told_by (payloads_in texts)

-- the texts of a log within a limit
abbrev pub texts_within : ℕ → List ℕ → Option (List (List ℕ))
texts_within limit bytes = if nat_le (length bytes) limit then texts_in bytes else None

-- the master that a file's bytes tell
abbrev pub master_told : ℕ → List ℕ → Option (List (Row Name))
master_told limit bytes = option_and_then told_in (texts_within limit bytes)
