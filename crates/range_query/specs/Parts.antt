-- What the ids of one segment have to do with a set.
use Rattle.std.specs.Prelude.{◌≡◌, ℕ, ◌<◌, ◌≤◌, ◌-◌, ◌⊎◌, List, Option, Some, None, ⊤, length}
use Rattle.id_groups.specs.Lists.{IsIn}
use Rattle.id_groups.specs.declared.span.IdSpan.{IdSpan}
use Rattle.id_groups.specs.Span.{IsInSpan}
use Rattle.commit_graph.specs.Graph.{Graph, Reaches}
use Rattle.commit_graph.specs.Sets as sets
use Rattle.segment_codec.specs.Number.{number_bytes}
use Rattle.segment_codec.specs.Record.{Segment}
use Rattle.segment_codec.specs.Table.{IsInSegment, parents_in}
use Rattle.span_set.specs.Members.{IsMember}

-- a parent of the segment's lowest id is a member
abbrev pub HasParentIn : List IdSpan → Segment → Type 0
HasParentIn spans s = (p : ℕ) × IsIn p s.parents × IsMember spans p

-- a parent of one of the segment's ids is a member
abbrev pub HasParentOf : List IdSpan → Segment → ℕ → Type 0
HasParentOf spans s x = (p : ℕ) × IsIn p (parents_in (Some s) x) × IsMember spans p

-- an id of the segment above its lowest, and the id before it is a member
abbrev pub IsMoved : List IdSpan → Segment → ℕ → Type 0
IsMoved spans s x = (s.low < x) × (x ≤ s.high) × IsMember spans (x - 1)

-- an id of the segment with a parent that is a member
abbrev pub IsChildIn : List IdSpan → Segment → ℕ → Type 0
IsChildIn spans s x = ((x ≡ s.low) × HasParentIn spans s) ⊎ IsMoved spans s x

-- the byte, if there is one, is one of those that spell a member
abbrev pub AreSpelledWith : List IdSpan → Option ℕ → Type 0
AreSpelledWith spans None = ⊤
AreSpelledWith spans (Some byte) = (x : ℕ) → IsMember spans x → IsIn byte (number_bytes x)

-- no member lies below the id
abbrev pub StandFrom : ℕ → List IdSpan → Type 0
StandFrom low spans = (x : ℕ) → IsMember spans x → low ≤ x

-- no member is an id of the segment below its highest, or a parent of it
abbrev pub IsApart : List IdSpan → Segment → Type 0
IsApart spans s = ((x : ℕ) → IsMember spans x → s.low ≤ x → s.high ≤ x) × (HasParentIn spans s → ⊥)

-- no id from the lowest to the highest has a parent that is a member
abbrev pub LackChildren : Graph ℕ → List IdSpan → ℕ → ℕ → Type 0
LackChildren g spans low high = (x : ℕ) → low ≤ x → x ≤ high → sets.children g (IsMember spans) x → ⊥

-- all members lie below the id
abbrev pub StandBelow : ℕ → List IdSpan → Type 0
StandBelow low spans = (x : ℕ) → IsMember spans x → x < low

-- the segment's lowest id, where a parent of it is in the answer so far, or a member
abbrev pub Enters : List IdSpan → List IdSpan → Segment → ℕ → Type 0
Enters answer spans s y = ((y ≡ s.low) × HasParentIn answer s) ⊎ IsMember spans y

-- an id of the segment at or above such a one
abbrev pub IsReachedIn : List IdSpan → List IdSpan → Segment → ℕ → Type 0
IsReachedIn answer spans s x = (x ≤ s.high) × (y : ℕ) × Enters answer spans s y × (s.low ≤ y) × (y ≤ x)

-- a parent of the segment's lowest id, no lower than a lowest one, that isn't missed
abbrev pub LacksParent : List IdSpan → ℕ → Segment → Type 0
LacksParent missed lowest s = (p : ℕ) × IsIn p s.parents × (lowest ≤ p) × (IsMember missed p → ⊥)

-- an id of the segment, or one below it in the segment, that is a member or has such a parent
abbrev pub IsMetIn : List IdSpan → List IdSpan → ℕ → Segment → ℕ → Type 0
IsMetIn missed spans lowest s x = (y : ℕ) × (((y ≡ s.low) × LacksParent missed lowest s) ⊎ IsMember spans y) × (s.low ≤ y) × (y ≤ x)

-- an id of the segment that isn't
abbrev pub IsMissedIn : List IdSpan → List IdSpan → ℕ → Segment → ℕ → Type 0
IsMissedIn missed spans lowest s x = IsInSegment x s × (IsMetIn missed spans lowest s x → ⊥)

-- a set with all that its members reach, from a lowest id on
abbrev pub IsClosedFrom : Graph ℕ → ℕ → List IdSpan → Type 0
IsClosedFrom g low spans = (x y : ℕ) → IsMember spans x → Reaches g x y → low ≤ y → IsMember spans y

-- the segment's lowest id, where it is a merge and one of the span's ids
abbrev pub IsMergeIn : IdSpan → Segment → ℕ → Type 0
IsMergeIn span s x = (x ≡ s.low) × IsInSpan x span × (2 ≤ length s.parents)
