-- What a strip looks up and what it plans.
use Rattle.std.specs.Prelude.{◌≡◌, ◌<◌, ◌≤◌, ◌^◌, ℕ, List, [], Result}
use Rattle.id_groups.specs.Lists.{IsIn}
use Rattle.id_groups.specs.Name.{Name, same_name}
use Rattle.id_groups.specs.Id.{other_id}
use Rattle.commit_graph.specs.World.{World, names_of}
use Rattle.commit_graph.specs.Ids.{id_in}
use Rattle.batch_codec.specs.Payload.{Payload}
use Rattle.name_map.specs.Added.{Placed, payloads_of}
use Rattle.change_parts.specs.Asked.{others_count}
use Rattle.change_parts.specs.declared.change.Change.{Change}
use Rattle.remote_rules.specs.Mirror.{Mirror}
use Rattle.lazy_names.specs.Cache.{PlainCache}
use Rattle.change_rules.specs.declared.Limits.{Limits}
use Rattle.step_rules.specs.declared.Refusal.{Refusal}
use Rattle.step_rules.specs.State.{Stored}
use Rattle.step_rules.specs.Verb.{Strip}
use Rattle.step_rules.specs.Tests.{Test, not_strippable}
use Rattle.store_plans.specs.declared.changing.Next.{Next}
use Rattle.store_plans.specs.Looking.{test_in}
use Rattle.store_plans.specs.Changes.{FindsIt, FindsEach, PlansChange, PreparesChange, strip_of}

-- The test of a name that is to be stripped: it is looked up in the stored world, and refused where it is one of master, or nowhere.
abbrev pub strip_test : List Payload → World Name → Name → Test
strip_test payloads w = test_in payloads w [] (not_strippable w)

-- an id of the others of these payloads
abbrev pub IsOtherId : List Placed → ℕ → Type 0
IsOtherId added id = (2 ^ 56 ≤ id) × (id < other_id (others_count added))

-- whatever is found for a name is such an id
abbrev pub MayBeOther : List Placed → Name → ℕ → Type 0
MayBeOther added name id = IsOtherId added id

-- the name is one of the world's others, and this its id
abbrev pub IsOtherOf : World Name → Name → ℕ → Type 0
IsOtherOf w name id = IsIn name (names_of w.others) × (id ≡ id_in same_name w name)

-- a name that is to be stripped, and names
abbrev pub FindsOther : List Placed → World Name → Name → List Mirror → List Mirror → PlainCache → PlainCache → Result ℕ Refusal → Type 0
FindsOther added w = FindsIt added w (strip_test (payloads_of added) w) (MayBeOther added) (IsOtherOf w)

abbrev pub FindsOthers : List Placed → World Name → List Name → List Mirror → List Mirror → PlainCache → PlainCache → Result (List ℕ) Refusal → Type 0
FindsOthers added w = FindsEach added w (strip_test (payloads_of added) w) (MayBeOther added) (IsOtherOf w)

-- what the plan of a strip answers, and what was prepared
abbrev pub PlansStrip : Limits → Stored → ℕ → List Name → List Mirror → List Mirror → PlainCache → PlainCache → Result Change Refusal → Type 0
PlansStrip limits st s names = PlansChange limits st s (Strip names) (strip_of st names)

abbrev pub PreparesStrip : Limits → Stored → ℕ → List Name → List Mirror → List Mirror → PlainCache → PlainCache → Result Next Refusal → Type 0
PreparesStrip limits st s names = PreparesChange limits st s (Strip names) (strip_of st names)
