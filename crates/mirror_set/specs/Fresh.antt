-- What a pull takes from a mirror: its clone data behind a refresh, and the names of its rows from an id on.
use Rattle.std.specs.Prelude.{◌≡◌, ◌<◌, ◌≤◌, ◌+◌, ◌-◌, ◌++◌, ℕ, Option, Some, None, List, [], ◌∷◌, length, take, drop, reverse, ⊤, IfSome}
use Rattle.std.specs.Prelude.{Ok, Err}
use Rattle.std.specs.declared.result.Result.{Result}
use Rattle.id_groups.specs.Name.{Name}
use Rattle.commit_graph.specs.World.{Row, names_of}
use Rattle.segment_codec.specs.Turns.{place_behind}
use Rattle.remote_rules.specs.CloneData.{CloneData, first_broken}
use Rattle.remote_rules.specs.Clones.{IsCloneOf}
use Rattle.remote_rules.specs.Mirror.{Mirror}
use Rattle.remote_rules.specs.declared.MirrorFault.{MirrorFault}
use Rattle.remote_rules.specs.declared.MirrorFault.TheVariants as ask
use Rattle.remote_trait.specs.Calls.{Refreshes, AreMaster, Fails}
use Rattle.remote_trait.specs.Honest.{AreNamesOf}
use Rattle.remote_trait.specs.declared.fault.RemoteFault.{RemoteFault}
use Rattle.remote_trait.specs.declared.fault.RemoteFault.TheVariants as remote
use Rattle.mirror_set.specs.Asking.{AreFailed, Answered, IsItsClone}
use Rattle.mirror_set.specs.Round.{Stays}
use Rattle.mirror_set.specs.declared.fresh.FreshFault.{FreshFault}
use Rattle.mirror_set.specs.declared.fresh.FreshFault.TheVariants.{NoRemote, AllFailed, BadClone, BadNames, Memory}
use Rattle.mirror_set.specs.declared.pulling.PartFault.{PartFault}
use Rattle.mirror_set.specs.declared.pulling.PartFault.TheVariants as part

-- clone data, and the names of the ids from some id on, ascending
pub record PlainFresh : Type 0 where
  pub cloned : CloneData
  pub names : List Name

-- how many ids the segments have from this one on
abbrev pub count_from : ℕ → CloneData → ℕ
count_from from told = place_behind 0 told.segments - from

-- What a pull from this id on leaves of a mirror: it was refreshed, and was then asked for no more names than it has rows from
-- there on, where it tells its rows.
pub record IsPulledFrom (from : ℕ) (before now : Mirror) : Type 0 where
  pub mid : Mirror
  pub refreshed : Refreshes before mid
  -- for how many names it was asked at most
  pub most : ℕ
  pub stays : Stays most mid now
  pub few : IfSome now.master (λ rows. most ≤ length rows - from)

-- It is the mirror's clone data, which breaks no rule, with a name for each of its ids from there on; where the mirror tells its
-- rows, they are the rows' names.
pub record IsItsFresh (from : ℕ) (fresh : PlainFresh) (m : Mirror) : Type 0 where
  pub clone : IsItsClone fresh.cloned m
  pub unbroken : first_broken fresh.cloned ≡ None
  pub count : length fresh.names ≡ count_from from fresh.cloned
  pub names : IfSome m.master (λ rows. AreMaster rows → fresh.names ≡ names_of (drop from rows))

-- its clone data break a rule at this item first
pub record GaveBroken (at : ℕ) (m : Mirror) : Type 0 where
  pub given : CloneData
  pub clone : IsItsClone given m
  pub broken : first_broken given ≡ Some at

-- it gave fewer names than were asked, so it tells no master
pub record GaveFew (asked given : ℕ) (m : Mirror) : Type 0 where
  pub fewer : given < asked
  pub untold : IfSome m.master (λ rows. AreMaster rows → ⊥)

-- what one asking call of a pull leaves, by its answer
abbrev pub AsksFresh : ℕ → List Mirror → List Mirror → Result PlainFresh FreshFault → Type 0
AsksFresh from before now (Ok fresh) = Answered (IsPulledFrom from) (IsItsFresh from fresh) before now
AsksFresh from before now (Err NoRemote) = (before ≡ []) × (now ≡ [])
AsksFresh from before now (Err (AllFailed n)) = (n ≡ length before) × (0 < n) × AreFailed (IsPulledFrom from) before now
AsksFresh from before now (Err (BadClone at)) = Answered (IsPulledFrom from) (GaveBroken at) before now
AsksFresh from before now (Err (BadNames asked given)) = Answered (IsPulledFrom from) (GaveFew asked given) before now
AsksFresh from before now (Err Memory) = Answered (IsPulledFrom from) (λ _. ⊤) before now

-- The fault with which such a call ended as an ask, if it did with one: what a mirror answered that is refused is an answer.
abbrev pub fresh_end : Result PlainFresh FreshFault → Option MirrorFault
fresh_end (Err NoRemote) = Some ask.NoRemote
fresh_end (Err (AllFailed n)) = Some (ask.AllFailed n)
fresh_end (Err Memory) = Some ask.Memory
fresh_end _ = None

-- what a pull's calls on one mirror answer
abbrev pub GivesFresh : ℕ → Mirror → Mirror → Result PlainFresh PartFault → Type 0
GivesFresh from before now (Ok fresh) = IsItsFresh from fresh now
GivesFresh from before now (Err part.Failed) = Fails before now
GivesFresh from before now (Err (part.BadClone at)) = GaveBroken at now
GivesFresh from before now (Err (part.BadNames asked given)) = GaveFew asked given now
GivesFresh from before now (Err part.Memory) = ⊤

-- what a pull's calls on the first mirror leave, by their answer
pub record FirstPulled (from : ℕ) (before now : List Mirror) (result : Result PlainFresh PartFault) : Type 0 where
  pub first : Mirror
  pub next : Mirror
  pub rest : List Mirror
  pub was : before ≡ first ∷ rest
  pub is : now ≡ next ∷ rest
  pub left : IsPulledFrom from first next
  pub gives : GivesFresh from first next result

-- a fault of a remote's call, as that of a pull
abbrev pub part_fault : RemoteFault → PartFault
part_fault remote.Failed = part.Failed
part_fault remote.Memory = part.Memory

-- the names of a master's rows, from an id on, so many
abbrev pub names_between : List (Row Name) → ℕ → ℕ → List Name
names_between rows from count = take count (drop from (names_of rows))

-- It gave fewer names than were asked for of ids of this clone data, so it tells no master whose clone data these are.
pub record GivesFew (told : CloneData) (asked given : ℕ) (m : Mirror) : Type 0 where
  pub fewer : given < asked
  pub untold : IfSome m.master (λ rows. AreMaster rows → IsCloneOf rows told → ⊥)

-- What asks for the names of some ids of this clone data leave of a mirror, where so many names were asked for at most: it tells what it told.
abbrev pub AsksOn : CloneData → ℕ → Mirror → Mirror → Result ⊤ PartFault → Type 0
AsksOn told most before now (Ok done) = Stays most before now
AsksOn told most before now (Err part.Failed) = Stays most before now × Fails before now
AsksOn told most before now (Err (part.BadClone at)) = ⊥
AsksOn told most before now (Err (part.BadNames asked given)) = Stays most before now × GivesFew told asked given now
AsksOn told most before now (Err part.Memory) = Stays most before now

-- where the mirror tells its rows, the names of the first of x and its first parents, so many, are these
abbrev pub GaveLine : Name → ℕ → ℕ → Mirror → (List Name → Type 0) → Type 0
GaveLine x room count m Are = IfSome m.master (λ rows. (got : List Name) × (length got ≡ count) × AreNamesOf rows x 0 room got × Are got)

-- What a call for so many names, back from x, leaves of a mirror and gives: all of them, put behind those before with the last one first,
-- or fewer.
abbrev pub AsksLine : Name → ℕ → List Name → List Name → Mirror → Mirror → Result ⊤ PartFault → Type 0
AsksLine x count names more before now (Ok done) = Stays count before now × (length more ≡ length names + count) × GaveLine x count count now (λ got. more ≡ names ++ reverse got)
AsksLine x count names more before now (Err part.Failed) = Stays count before now × Fails before now
AsksLine x count names more before now (Err (part.BadClone at)) = ⊥
AsksLine x count names more before now (Err (part.BadNames asked given)) = Stays count before now × (asked ≡ count) × (given < count) × GaveLine x count given now (λ got. ⊤)
AsksLine x count names more before now (Err part.Memory) = Stays count before now

-- The names of the ids below an end, from an id on: where the mirror tells its master, whose clone data these are, they are its rows'.
abbrev pub AreNamesBelow : ℕ → ℕ → CloneData → Mirror → List Name → Type 0
AreNamesBelow from end told m names = IfSome m.master (λ rows. AreMaster rows → IsCloneOf rows told → names ≡ names_between rows from (end - from))
