-- What is kept of payloads that are added before their names are looked at.
use Rattle.std.specs.Prelude.{◌≡◌, ◌≢◌, ◌≤◌, ℕ, List, [], ◌∷◌, ◌++◌, ⊤}
use Rattle.id_groups.specs.Name.{Name}
use Rattle.batch_codec.specs.Payload.{Payload}
use Rattle.batch_codec.specs.Grammar.{cloned_head_names}
use Rattle.change_rules.specs.Lawful.{levels_with}
use Rattle.change_rules.specs.Tables.{remote_heads, cloned_count}
use Rattle.flat_segments.specs.Kept.{KeptFlats, IsTableOf}
use Rattle.segment_levels.specs.Kept.{KeptLevels, AreLevelsOf}
use Rattle.segment_levels.specs.Flats.{flats_of}
use Rattle.name_map.specs.Added.{Placed, payloads_of}
use Rattle.name_map.specs.Build.{PlainNames, AreNamesOf}
use Rattle.payload_tables.specs.Kept.{PlainOthers, AreOthersIn, last_added, master_records, newest_version}

-- what is kept
pub record PlainBuild : Type 0 where
  pub flat : KeptFlats
  pub levels : KeptLevels
  pub names : PlainNames
  -- the other ids of the newest payload
  pub others : PlainOthers
  -- the heads of the remote that was cloned, and how many commits came
  pub heads : List Name
  pub cloned : ℕ
  -- the version of the newest one, and 0 where there is none
  pub version : ℕ

-- What a payload behind these owes, but for its grammar, its count and its names: a clone or a whole store comes first, and its heads
-- are those by its segments; no earlier version comes behind a later one; and its segments of levels are those that come with it.
pub record HasPlace (before : List Payload) (p : Payload) : Type 0 where
  pub first : p.kind ≢ 1 → before ≡ []
  pub heads : p.kind ≢ 1 → p.heads ≡ cloned_head_names p
  pub version : newest_version before ≤ p.version
  pub levels : p.version ≡ 2 → p.levels ≡ levels_with before p

-- each payload owes that behind those before it
abbrev pub HavePlaces : List Payload → List Payload → Type 0
HavePlaces before [] = ⊤
HavePlaces before (p ∷ more) = HasPlace before p × HavePlaces (before ++ p ∷ []) more

-- the table, its levels and the names are those of the payloads
pub record ArePartsOf (table : KeptFlats) (levels : KeptLevels) (names : PlainNames) (added : List Placed) : Type 0 where
  pub flat : IsTableOf table (master_records added)
  pub levels_of : AreLevelsOf levels (flats_of table (master_records added))
  pub names_of : AreNamesOf names added

-- It is kept of the payloads that were added, in this order, which are lawful but for what their names are.
pub record IsBuildOf (build : PlainBuild) (added : List Placed) : Type 0 where
  pub places : HavePlaces [] (payloads_of added)
  pub parts : ArePartsOf build.flat build.levels build.names added
  pub others : AreOthersIn build.others (last_added added)
  pub heads : build.heads ≡ remote_heads (payloads_of added)
  pub cloned : build.cloned ≡ cloned_count (payloads_of added)
  pub version : build.version ≡ newest_version (payloads_of added)
