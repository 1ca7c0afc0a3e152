-- What a payload that is added must be, and how its names may meet others.
use Rattle.std.specs.Prelude.{ℕ, List}
use Rattle.id_groups.specs.Lists.{IsIn, AreDistinct}
use Rattle.id_groups.specs.Name.{Name}
use Rattle.batch_codec.specs.declared.whole.BatchRef.{BatchRef}
use Rattle.batch_codec.specs.Lent.{payload_of}
use Rattle.name_index.specs.declared.index.IndexFault.{IndexFault}
use Rattle.name_index.specs.declared.index.IndexFault.TheVariants.{Double as IndexDouble, Memory as IndexMemory}
use Rattle.name_map.specs.declared.fault.MapFault.{MapFault}
use Rattle.name_map.specs.declared.fault.MapFault.TheVariants.{Double, Memory}
use Rattle.name_map.specs.Added.{Placed}

-- the payload at its place
abbrev pub placed : ℕ → BatchRef → Placed
placed at batch = record { at = at; payload = payload_of batch }

-- no name is in both lists
abbrev pub Apart : List Name → List Name → Type 0
Apart names others = (name : Name) → IsIn name names → IsIn name others → ⊥

-- some name is in both lists
pub record Meet (names others : List Name) : Type 0 where
  pub name : Name
  pub first : IsIn name names
  pub second : IsIn name others

-- no two of the other names are the same, and none is a known name, of this payload or of those before
pub record OthersFit (old known others : List Name) : Type 0 where
  pub distinct : AreDistinct others
  pub new_apart : Apart known others
  pub old_apart : Apart old others

-- the same cause, as a map tells it
abbrev pub fault_of : IndexFault → MapFault
fault_of IndexDouble = Double
fault_of IndexMemory = Memory
