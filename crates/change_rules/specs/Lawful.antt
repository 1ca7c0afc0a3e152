-- Which payloads a log may have, one behind the other.
use Rattle.std.specs.Prelude.{◌≡◌, ◌≤◌, List, [], ◌∷◌, ◌++◌, ⊤, flat_map}
use Rattle.std.specs.List.{AllByRecursion}
use Rattle.id_groups.specs.Lists.{AreDistinct}
use Rattle.segment_codec.specs.Record.{Segment}
use Rattle.segment_rules.specs.Flat.{flat_segments_of, parents_listed}
use Rattle.segment_rules.specs.NewLevels.{new_levels}
use Rattle.batch_codec.specs.Payload.{Payload, known_names}
use Rattle.batch_codec.specs.Grammar.{IsPayload, count_after, head_names, cloned_head_names}

-- the flat segments of the master group by these payloads
abbrev pub master_flats : List Payload → List Segment
master_flats payloads = flat_segments_of 0 (parents_listed (flat_map (λ p. p.master) payloads))

-- the segments of levels that come with a payload behind these: those of the master group with it that weren't there without it
abbrev pub levels_with : List Payload → Payload → List Segment
levels_with before p = new_levels (master_flats before) (master_flats (before ++ p ∷ []))

-- a payload that may come behind these
pub record MayFollow (before : List Payload) (p : Payload) : Type 0 where
  pub whole : IsPayload p
  pub count : p.before ≡ count_after 0 before
  -- behind a payload of the second version none of the first comes
  pub version : AllByRecursion (λ (q : Payload). q.version ≤ p.version) before
  pub clone_first : p.kind ≡ 2 → before ≡ []
  pub clone_heads : p.kind ≡ 2 → p.heads ≡ head_names p
  pub whole_first : p.kind ≡ 3 → before ≡ []
  pub whole_heads : p.kind ≡ 3 → p.heads ≡ cloned_head_names p
  pub distinct : AreDistinct (flat_map known_names (before ++ p ∷ []) ++ p.other_names)
  pub levels : p.version ≡ 2 → p.levels ≡ levels_with before p

-- each payload may come behind those before it
abbrev pub AreLawful : List Payload → List Payload → Type 0
AreLawful before [] = ⊤
AreLawful before (p ∷ more) = MayFollow before p × AreLawful (before ++ p ∷ []) more
