-- What heads reach, and ways to ids from those that may be named.
use Rattle.std.specs.Prelude.{◌≡◌, ◌≤◌, ◌+◌, ◌↔◌, ℕ, List, Some, length, IsTrue}
use Rattle.id_groups.specs.Lists.{IsIn}
use Rattle.id_groups.specs.Name.{Name}
use Rattle.id_groups.specs.declared.span.IdSpan.{IdSpan}
use Rattle.commit_graph.specs.World.{Row}
use Rattle.commit_graph.specs.Graph.{first_ancestor}
use Rattle.commit_graph.specs.Sets as sets
use Rattle.segment_codec.specs.Record.{Segment}
use Rattle.segment_codec.specs.Table.{segment_at, parents_at}
use Rattle.span_set.specs.Members.{IsMember}
use Rattle.ancestor_query.specs.Graph.{table_graph}
use Rattle.remote_trait.specs.Honest.{IsNamed}
use Rattle.remote_answers.specs.declared.reached.Reached.{Reached}
use Rattle.remote_answers.specs.declared.path.Way.{Way}
use Rattle.remote_answers.specs.declared.path.Child.{Child}

-- the id of a row that is one of the heads
abbrev pub IsHeadId : List (Row Name) → List Name → ℕ → Type 0
IsHeadId rows heads id = (name : Name) × IsIn name heads × IsNamed rows id name

-- the sets have the ids of the heads that are there, and the ids that these reach
pub record AreReached (flats : List Segment) (rows : List (Row Name)) (heads : List Name) (tops ids : List IdSpan) : Type 0 where
  pub heads_are : (x : ℕ) → IsMember tops x ↔ IsHeadId rows heads x
  pub ids_are : (x : ℕ) → IsMember ids x ↔ sets.ancestors (table_graph flats) (IsMember tops) x

-- the same of what is kept
abbrev pub IsReachedBy : List Segment → List (Row Name) → Reached → Type 0
IsReachedBy flats rows reached = AreReached flats rows reached.heads.items reached.tops reached.ids

-- a parent of a merge that is reached
abbrev pub IsMergeParent : List Segment → List IdSpan → ℕ → Type 0
IsMergeParent flats ids id = (merge : ℕ) × IsMember ids merge × (2 ≤ length (parents_at flats merge)) × IsIn id (parents_at flats merge)

-- first parents lead on this way to the id
abbrev pub LeadsTo : List Segment → ℕ → Way → Type 0
LeadsTo flats id way = first_ancestor (table_graph flats) way.back way.from ≡ Some id

-- the segment begins with a child of the id, which is reached
pub record BeginsChild (flats : List Segment) (ids : List IdSpan) (id : ℕ) (s : Segment) : Type 0 where
  pub holds : segment_at flats s.low ≡ Some s
  pub reached : IsMember ids s.low
  pub child : IsIn id s.parents

-- it is the lowest id of the segment, which has the id as a parent, and is reached
pub record IsBegunBy (ids : List IdSpan) (id : ℕ) (s : Segment) (child : Child) : Type 0 where
  pub is : child.id ≡ s.low
  pub reached : IsMember ids child.id
  pub parent : IsIn id s.parents
  pub merge : IsTrue child.is_merge ↔ 2 ≤ length s.parents

-- it is a child of the id that begins a segment and is reached
pub record IsChild (flats : List Segment) (ids : List IdSpan) (id : ℕ) (child : Child) : Type 0 where
  pub segment : Segment
  pub begins : BeginsChild flats ids id segment
  pub is : child.id ≡ segment.low
  pub merge : IsTrue child.is_merge ↔ 2 ≤ length segment.parents

-- the greatest id that is reached, from that of the old way on and up to this one
pub record IsLast (ids : List IdSpan) (high : ℕ) (old new : Way) : Type 0 where
  pub reached : IsMember ids new.from
  pub above : old.from ≤ new.from
  pub within : new.from ≤ high
  pub greatest : (x : ℕ) → IsMember ids x → x ≤ high → x ≤ new.from
  pub back : new.back + old.from ≡ old.back + new.from
