-- The stored master, as it is lent.
use Rattle.std.proofs.Common.{◌≡◌, ◌<◌, ◌^◌, ℕ, false, true, List, [], ◌++◌, Option, Some, None, length, refl, sym, ap, subst, ◌∙◌, append-nil}
use Rattle.std.specs.Prelude.{slice_get, MatchOption, IfSome}
use Rattle.std.specs.Option.{IsSome}
use Rattle.id_groups.specs.Lists.{IsIn}
use Rattle.id_groups.specs.Name.{Name, same_name}
use Rattle.id_groups.specs.declared.name.NameRef.{NameRef}
use Rattle.commit_graph.specs.World.{World, names_of}
use Rattle.commit_graph.specs.Ids.{parent_ids}
use Rattle.segment_rules.specs.Flat.{flat_segments_of}
use Rattle.gated_log.specs.Held.{Held}
use Rattle.batch_codec.specs.Payload.{Known, Payload}
use Rattle.name_map.specs.Added.{Placed, known_of}
use Rattle.name_map.specs.Map.{NamesAs}
use Rattle.high_segments.specs.Views.{flats_in}
use Rattle.payload_tables.specs.declared.base.BaseRef.{BaseRef}
use Rattle.change_rules.specs.Lazy.{has_lazy}
use Rattle.payload_tables.specs.Kept.{PlainTables, PlainOthers, AreTablesOf}
use Rattle.payload_tables.specs.Pending.{PlainPending}
use Rattle.payload_tables.specs.Bases.{IsBaseOf, flat_segments_in}
use Rattle.payload_tables.proofs.Basing.{table-end}
use Rattle.change_parts.specs.Asked.{others_count}
use Rattle.store_plans.specs.Looking.{Sees}
use Rattle.dag_store.specs.Whole.{IsWhole, IsWholeOf, AreSegments}
use Rattle.dag_store.specs.declared.whole.Whole.{Whole}
use Rattle.dag_store.specs.declared.whole.Segments.{Segments}
use Rattle.store_plans.proofs.HeadTests.{sees-none}
use Rattle.store_plans.proofs.Counts.{others-many}
use Rattle.store_plans.proofs.StoredNames.{known-name, known-row}

-- what was found is the master of some world
pub some-whole : (payloads : List Payload) (w : World Name) (o : Option Whole) → MatchOption o (has_lazy payloads w ≡ true) (λ whole. (has_lazy payloads w ≡ false) × IsWhole whole w) → IfSome o (λ whole. (x : World Name) × IsWhole whole x)
some-whole payloads w None h = tt
some-whole payloads w (Some whole) h = (w, h.1)

-- rows of none behind all payloads
pub none-first : (tables : PlainTables) (added : List Placed) → AreTablesOf tables added → (others : PlainOthers) → others ≡ tables.others → (n m : ℕ) → n ≡ others.count → m ≡ n → m ≡ others_count added
none-first tables added t others is n m count from = from ∙ count ∙ ap (λ (o : PlainOthers). o.count) is ∙ others-many tables.others added t.others

module _ (log : Held) (tables : PlainTables) (none : PlainPending) (w : World Name) (h : IsWholeOf log tables none w) where
  pub rows-are : (n : ℕ) → n ≡ tables.flat.end → n ≡ length w.master
  rows-are n e = e ∙ table-end tables h.added h.tables_of ∙ h.stands.count

  -- the newest base sees its world
  pub whole-sees : (base : BaseRef) → IsBaseOf base h.added → Sees base none h.added w []
  whole-sees base b = sees-none base none h.added w b h.no_rows h.first h.stands h.named

  -- the segments of a view are the master's and others
  pub lends-master : (segments : Segments) → flats_in segments.view ≡ flat_segments_in w ++ [] → AreSegments segments w
  lends-master segments e = record { behind = flat_segments_of (2 ^ 56) (parent_ids same_name w w.others); parts = e ∙ append-nil (flat_segments_in w) }

  -- each master id has a known name
  pub some-name : (id : ℕ) → id < length w.master → (o : Option NameRef) → NamesAs (known_of h.added) id o → IsSome o
  some-name id lt None f = let k = known-name h.added w h.stands h.all_named id lt in absurd (f k.0.name (subst (λ n. IsIn {X = Known} (record { id = n; name = k.0.name }) (known_of h.added)) (sym k.2) k.1))
  some-name id lt (Some name) f = refl

  -- which is its row's
  pub name-is : (id : ℕ) (o : Option NameRef) (name : NameRef) → NamesAs (known_of h.added) id o → o ≡ Some name → slice_get (names_of w.master) id ≡ Some name.bytes.now
  name-is id o name f e = known-row h.added w h.stands (record { id = id; name = name.bytes.now }) (subst (NamesAs (known_of h.added) id) e f)
