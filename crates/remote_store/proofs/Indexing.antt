-- A log that was read, to whose tables edges came.
use Rattle.std.proofs.Common.{◌≡◌, refl, sym, subst}
use Rattle.id_groups.specs.Name.{Name}
use Rattle.commit_graph.specs.World.{World}
use Rattle.gated_log.specs.Held.{Held}
use Rattle.payload_tables.specs.Kept.{PlainTables, AreTablesOf}
use Rattle.payload_tables.specs.Bases.{flat_segments_in}
use Rattle.payload_tables.specs.Pending.{PlainPending}
use Rattle.remote_answers.specs.Paths.{IsReachedBy}
use Rattle.remote_answers.specs.declared.reached.Reached.{Reached}
use Rattle.remote_store.specs.Loaded.{IsRead}

pub read-indexed : (log : Held) (old new : PlainTables) (none : PlainPending) (read : IsRead log old none) → AreTablesOf new read.added → (later : IsRead log new none) × (later.of_world ≡ read.of_world)
read-indexed log old new none read are = (
  record {
    added = read.added;
    tables_of = are;
    stand = read.stand;
    texts = read.texts;
    all_known = read.all_known;
    first = read.first;
    no_rows = read.no_rows;
    of_world = read.of_world;
    stands = read.stands;
    named = read.named;
  },
  refl,
)

pub reached-later : (reached : Reached) (w later : World Name) → later ≡ w → IsReachedBy (flat_segments_in w) w.master reached → IsReachedBy (flat_segments_in later) later.master reached
reached-later reached w later e h = subst (λ (z : World Name). IsReachedBy (flat_segments_in z) z.master reached) (sym e) h
