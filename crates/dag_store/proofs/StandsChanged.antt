-- What a store stands for after a change that was prepared, whichever command it is of.
use Rattle.std.proofs.Common.{◌≡◌, ◌<◌, ℕ, true, false, List, [], ◌∷◌, ◌++◌, length, map, set, refl, sym, ap, ap₂, subst, ◌∙◌, arith, length-append, le_refl}
use Rattle.std.proofs.lemmas.List.{map-append, length-map}
use Rattle.id_groups.specs.Name.{Name}
use Rattle.commit_graph.specs.World.{World, IsNamedWorld, GrowsMaster, with_pending}
use Rattle.gated_log.specs.Held.{Held}
use Rattle.batch_codec.specs.Payload.{Payload}
use Rattle.name_map.specs.Added.{Placed, payloads_of}
use Rattle.change_rules.specs.Change.{text_of}
use Rattle.change_rules.specs.Holding.{HoldPayloads}
use Rattle.payload_tables.specs.Kept.{PlainTables}
use Rattle.payload_tables.specs.Bases.{ArePending}
use Rattle.change_parts.specs.declared.change.Change.{Change}
use Rattle.step_rules.specs.State.{Stored, on_newest, with_stored}
use Rattle.step_rules.proofs.States.{alone, at-newest}
use Rattle.store_plans.specs.Sessions.{PlainSession}
use Rattle.dag_store.specs.Kept.{PlainStore, IsKept, no_cache, session_at, sixteen}
use Rattle.dag_store.specs.Stands.{Stands}
use Rattle.store_plans.specs.Changes.{HasRoom, IsOn, IsPrepared, IsReady, added_behind, next_place}
use Rattle.dag_store.proofs.Sees.{once}
use Rattle.dag_store.proofs.Standing.{stands-with}
use Rattle.dag_store.proofs.FlushStored.{on-of, stands-room, newest-stands, none-pending, stands-stored}

module _ (began : ℕ) (kept : PlainStore) (tables : PlainTables) (k : IsKept kept.log tables kept.sessions kept.limits) (st : Stored) (h : Stands began kept st) (s : ℕ) (small : s < sixteen)
    (reserved : Held) (after : PlainTables) (change : Change) (x : PlainSession) (p : IsPrepared kept.limits kept.log reserved tables after k.added change x) (room : HasRoom kept.log reserved) where
  on : IsOn began k.added (session_at kept.sessions s) st s
  on = on-of kept.log tables kept.sessions kept.limits k began st h s small

  -- nothing is stored: the session is on the newest world, without rows
  pub stands-as-before : change.same ≡ true → Stands began (record { log = reserved; sessions = set kept.sessions s x; limits = kept.limits; cache = no_cache }) (on_newest st s [])
  stands-as-before same =
      let q = (p.same same).1 in
      stands-room began kept.log reserved (set kept.sessions s x) kept.limits (on_newest st s []) (ap (λ (l : Held). l.payloads) room)
      (newest-stands kept.log tables kept.sessions kept.limits k s small x began st h q.1 []
      (none-pending k.added x st.stored q (subst (λ l. HoldPayloads l st.stored) (sym on.payloads) on.hold)) (alone st.stored on.hold.world))

  -- the payload of the change is stored, and the new world
  module _ (new : World Name) (last : Payload) (changes : change.same ≡ false) (text : change.payload ≡ text_of last) (named : IsNamedWorld new) (grows : GrowsMaster st.stored new)
      (holds : HoldPayloads (st.payloads ++ last ∷ []) new) where
    ready : IsReady kept.limits kept.log reserved after k.added change x
    ready = p.ready changes

    abbrev more : List Placed
    more = added_behind kept.log k.added ready.last

    are : payloads_of more ≡ st.payloads ++ last ∷ []
    are = once [] [] (payloads_of more) (st.payloads ++ last ∷ []) ready.tables_of.lawful holds.lawful
        (ap (map text_of) (map-append (λ (a : Placed). a.payload) k.added (record { at = next_place kept.log; payload = ready.last } ∷ []))
        ∙ map-append text_of (payloads_of k.added) (ready.last ∷ [])
        ∙ ap₂ (λ l t. map text_of l ++ t ∷ []) on.payloads (sym ready.storable.payload ∙ text)
        ∙ sym (map-append text_of st.payloads (last ∷ [])))

    pub stands-changed : (log : Held) → log.payloads ≡ reserved.payloads ++ change.payload ∷ [] → Stands began (record { log = log; sessions = set kept.sessions s x; limits = kept.limits; cache = no_cache }) (on_newest (with_stored st new last) s [])
    stands-changed log is =
        let o = on in
        let next = with_stored st new last in
        let place = length (st.past ++ st.stored ∷ []) in
        let stored = stands-stored began kept st h new last named grows holds log (is ∙ ap₂ (λ a b. a ++ b ∷ []) (ap (λ (l : Held). l.payloads) room) text) in
        let n = ready.session_of.1 in
        let l = length-append k.added (record { at = next_place kept.log; payload = ready.last } ∷ []) in
        let e = ap length o.payloads in let m = length-map k.added (λ (a : Placed). a.payload) in let c = o.count in let g = length-append st.past (st.stored ∷ []) in
        stands-with began (record { log = log; sessions = kept.sessions; limits = kept.limits; cache = no_cache }) next s x (record { base = place; pending = [] }) small k.count stored
        (record { base = le_refl _; view = subst (λ w. IsNamedWorld (with_pending w [])) (sym (at-newest st new last place refl)) (alone new named) })
        (record {
          payloads = omega (arith, n, l, e, m, c, g);
          pending = subst (λ w. ArePending w x.pending []) (sym (at-newest st new last place refl)) (none-pending more x new ready.session_of (subst (λ l. HoldPayloads l new) (sym are) holds));
        })
