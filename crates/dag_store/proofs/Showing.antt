-- A store is shown by the payloads and the rows of what it stands for.
use Rattle.std.proofs.Common.{◌≡◌, ℕ, List, [], ◌∷◌, map, refl, sym, ap, subst}
use Rattle.id_groups.specs.Name.{Name}
use Rattle.commit_graph.specs.World.{Row, World}
use Rattle.payload_tables.specs.Pending.{HoldsRows}
use Rattle.payload_tables.specs.Bases.{held_row as held_id_row}
use Rattle.step_rules.specs.State.{State, pending_of, view_of}
use Rattle.step_rules.specs.Stands.{KeptStore, StandsFor, id_row}
use Rattle.dag_store.specs.Kept.{PlainStore, session_at}
use Rattle.remote_rules.specs.Mirror.{Mirror}
use Rattle.dag_store.specs.Stands.{StandsBeside}
use Rattle.dag_store.specs.Shown.{held_row, IsShownAs}

held-rows : (w : World Name) (rows : List (Row Name)) → map (held_id_row w) rows ≡ map held_row (map (id_row w) rows)
held-rows w [] = refl
held-rows w (r ∷ rows) = ap (λ l. held_id_row w r ∷ l) (held-rows w rows)

pub shown-stands : (began : ℕ) (kept : PlainStore) (mirrors : List Mirror) (st : State) → StandsBeside began kept mirrors st → (shown : KeptStore) × IsShownAs kept shown × StandsFor began shown st
shown-stands began kept mirrors st h = (
  record {
    payloads = st.store.payloads;
    sessions = λ s. record { payloads = (session_at kept.sessions s).payloads; pending = map (id_row (view_of st.store s)) (pending_of st.store s) };
    cache = st.outside.cache;
    room = kept.cache.capacity;
  },
  record {
    texts = h.stored.texts;
    bases = λ s lt. refl;
    rows = λ s lt. subst (HoldsRows (session_at kept.sessions s).pending) (held-rows (view_of st.store s) (pending_of st.store s)) (h.stored.sessions s lt).pending.held;
    cache = h.outside_of.has;
    room = refl;
  },
  record {
    payloads = refl;
    count = h.stored.count;
    worlds = h.stored.worlds;
    bases = λ s lt. (h.stored.sessions s lt).payloads;
    pending = λ s lt. refl;
    cache = λ id. refl;
    room = sym h.outside_of.room;
  },
)
