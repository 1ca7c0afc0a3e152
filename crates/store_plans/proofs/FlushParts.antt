-- What is asked of a rebase and of a plan.
use Rattle.std.proofs.Common.{◌≡◌, ◌≤◌, ◌<◌, ◌+◌, ◌*◌, ◌^◌, ℕ, true, false, true≢false, Result, Ok, Err, IfOk, OnOk, List, [], ◌∷◌, ◌++◌, map, length, drop, Option, refl, sym, ap, ap₂, subst, ◌∙◌, arith}
use Rattle.std.specs.declared.alloc.AllocError.{AllocError}
use Rattle.std.proofs.lemmas.List.{take-append-drop, length-map, map-append}
use Rattle.std.proofs.lemmas.Bool.{eq-eqb, ne_eqb}
use Rattle.id_groups.specs.Name.{Name, same_name}
use Rattle.commit_graph.specs.World.{names_of}
use Rattle.batch_codec.specs.Grammar.{count_after}
use Rattle.gated_log.specs.Held.{Held, log_bytes, longer}
use Rattle.gated_log.proofs.Places.{length-log}
use Rattle.batch_codec.specs.Payload.{Payload, payload_bytes}
use Rattle.change_rules.specs.declared.Limits.{Limits}
use Rattle.change_rules.specs.Lawful.{MayFollow}
use Rattle.name_map.specs.Added.{Placed, payloads_of, AllStand, FollowInLog as Following}
use Rattle.change_rules.specs.Change.{text_of}
use Rattle.payload_tables.specs.declared.base.BaseRef.{BaseRef}
use Rattle.payload_tables.specs.Kept.{PlainTables, AreTablesOf}
use Rattle.change_parts.specs.declared.change.Change.{Change}
use Rattle.payload_tables.specs.Pending.{PlainPending, HoldsRows, row_names}
use Rattle.payload_tables.specs.Bases.{IsBaseOf, ArePending}
use Rattle.change_rules.specs.Tables.{StandFor}
use Rattle.payload_tables.proofs.Basing.{count-front}
use Rattle.change_parts.specs.Asked.{HaveParents}
use Rattle.rebase_pending.specs.Rebases.{MayRebaseOn}
use Rattle.change_parts.specs.Plans.{MayComeNext, stored_id}
use Rattle.rebase_pending.specs.Rebases.{MayRebase}
use Rattle.flush_plan.specs.Flushing.{MayFlush}
use Rattle.change_rules.specs.Rebase.{left_of}
use Rattle.gated_log.specs.Log.{log_length}
use Rattle.step_rules.specs.State.{Stored, session, base_of, pending_of}
use Rattle.step_rules.specs.Tests.{is_on_newest}
use Rattle.store_plans.specs.Sessions.{PlainSession, IsSessionOf, base_added, IsOnNewest}
use Rattle.store_plans.specs.Changes.{IsOn, IsPrepared, AreOver, RowsFound, added_behind, next_place, HasRoom}
use Rattle.store_plans.proofs.StillStored.{still-stored}

module _ (log : Held) (tables : PlainTables) (added : List Placed) (over : AreOver log tables added) (x : PlainSession) (h : IsSessionOf added x) (bytes : List ℕ) (all : bytes ≡ log_bytes log) where
  abbrev before : List Placed
  before = base_added added x

  pub all-stand : AllStand bytes added
  all-stand = subst (λ l. AllStand l added) (sym all) over.stand

  grown : count_after 0 (payloads_of before) ≤ count_after 0 (payloads_of added)
  grown =
      let whole : before ++ drop x.payloads added ≡ added = take-append-drop x.payloads added in
      subst (λ l. count_after 0 (payloads_of before) ≤ count_after 0 (payloads_of l)) whole
      (count-front 0 before (drop x.payloads added) (subst (λ l. Following 0 l) (sym whole) over.tables_of.names.follow))

  parts : payloads_of added ≡ payloads_of before ++ payloads_of (drop x.payloads added)
  parts = ap payloads_of (sym (take-append-drop x.payloads added)) ∙ map-append (λ (a : Placed). a.payload) before (drop x.payloads added)

  pub may-rebase-on : (base : BaseRef) → IsBaseOf base before → (pending : PlainPending) → pending ≡ x.pending → (found : List (Option ℕ)) → RowsFound added x.pending found
      → MayRebaseOn tables bytes base pending found added before
  may-rebase-on base b pending is found f = record {
    tables_of = over.tables_of;
    stand = all-stand;
    base_of = b;
    grows = (let c = b.count in let g = grown in omega (arith, c, g));
    rows = h.pending.rows;
    held = subst (λ p. HoldsRows p h.pending.rows) (sym is) h.pending.held;
    first = ap (λ (p : PlainPending). p.first) is ∙ h.pending.first;
    parents = subst (λ n. HaveParents n h.pending.rows) (sym b.count) h.pending.parents;
    distinct = h.pending.distinct;
    found_are = f (row_names h.pending.rows) (h.pending.rows, h.pending.held, refl);
  }

  -- the same for a state
  module _ (began s : ℕ) (st : Stored) (o : IsOn began added x st s) where
    held-many : length log.payloads ≡ length st.payloads
    held-many = ap length over.texts ∙ length-map (payloads_of added) text_of ∙ ap length o.payloads

    -- whether the session is on the newest world
    pub is-newest : x.payloads ≡ length log.payloads → is_on_newest st s ≡ true
    is-newest e = let a = o.session.payloads in let c = o.count in let m = held-many in eq-eqb (session st s).base (length st.past) (omega (arith, a, c, m, e))

    pub isnt-newest : (x.payloads ≡ length log.payloads → ⊥) → is_on_newest st s ≡ false
    isnt-newest d = let a = o.session.payloads in let c = o.count in let m = held-many in ne_eqb (session st s).base (length st.past) (λ z. d (omega (arith, a, c, m, z)))

    pub may-rebase : (base : BaseRef) → IsBaseOf base before → (pending : PlainPending) → pending ≡ x.pending → (found : List (Option ℕ)) → found ≡ map (stored_id st.stored) (names_of (pending_of st s))
        → MayRebase tables bytes base pending found st.stored (base_of st s) (pending_of st s)
    may-rebase base b pending is found f = record {
      added = added;
      tables_of = over.tables_of;
      stand = all-stand;
      stand_for = subst (λ l. StandFor l st.stored) (sym o.payloads) o.hold.stand;
      world = o.hold.world.world;
      before = before;
      base_of = b;
      base_stands = o.base.stand;
      pending_rows = subst (λ p. ArePending (base_of st s) p (pending_of st s)) (sym is) o.session.pending;
      grows = o.grows;
      missing = still-stored added (payloads_of before) (payloads_of (drop x.payloads added)) parts (base_of st s) st.stored over.tables_of.lawful o.base.stand (subst (λ l. StandFor l st.stored) (sym o.payloads) o.hold.stand) o.base.world.world o.grows;
      found_are = f;
    }

module _ (log : Held) (tables : PlainTables) (added : List Placed) (over : AreOver log tables added) (x : PlainSession) (h : IsSessionOf added x) (bytes : List ℕ) (all : bytes ≡ log_bytes log)
    (began s : ℕ) (st : Stored) (o : IsOn began added x st s) where
  pub may-flush : (left : PlainPending) → ArePending st.stored left (left_of same_name st.stored (pending_of st s)) → (heads : List Name) (found : List (Option ℕ))
      → found ≡ map (stored_id st.stored) heads
      → MayFlush tables bytes left heads found st.stored (left_of same_name st.stored (pending_of st s))
  may-flush left p heads found f = record {
    added = added;
    tables_of = over.tables_of;
    stand = all-stand log tables added over x h bytes all;
    stand_for = subst (λ l. StandFor l st.stored) (sym o.payloads) o.hold.stand;
    world = o.hold.world;
    pending_rows = p;
    found_are = f;
  }

  pub log-size : length bytes ≡ log_length log.payloads → length bytes ≡ log_length (map text_of st.payloads)
  log-size e = e ∙ ap log_length (over.texts ∙ ap (map text_of) o.payloads)

pub count-added : (log : Held) (tables : PlainTables) (added : List Placed) → AreOver log tables added → length log.payloads ≡ length added
count-added log tables added v = ap length v.texts ∙ length-map (payloads_of added) text_of ∙ length-map added (λ (a : Placed). a.payload)

pub behind-is : (log : Held) (added : List Placed) (last p : Payload) (at : ℕ) → at ≡ next_place log → p ≡ last → added ++ record { at = at; payload = p } ∷ [] ≡ added_behind log added last
behind-is log added last p at e f = ap₂ {C = List Placed} (λ n q. added ++ record { at = n; payload = q } ∷ []) e f

many : (texts : List (List ℕ)) → 9 * length texts + 1 ≤ log_length texts
many [] = omega arith
many (t ∷ texts) = let m = many texts in omega (arith, m)

-- a log within the bounds of the format has few payloads
pub few-payloads : (log : Held) (payload : List ℕ) → longer log payload ≤ 2 ^ 32 → length log.payloads + 1 < 2 ^ 32
few-payloads log payload le =
    let m = many log.payloads in
    let l = length-log log.payloads log.gate in
    omega (arith, m, l, le)

-- memory was taken for the payload of a change
pub change-ready : (limits : Limits) (old new : Held) (before after : PlainTables) (kind : ℕ) (added : List Placed) (change : Change) → MayComeNext kind limits (length (log_bytes old)) added change → change.same ≡ false
    → old.limit ≡ limits.log → HasRoom old new → (payload : List ℕ) → payload ≡ change.payload → (result : Result PlainSession AllocError) → OnOk result (longer old payload ≤ new.room)
    → ((last : Payload) → MayFollow (payloads_of added) last → payload ≡ payload_bytes last → IfOk result (λ x. AreTablesOf after (added_behind old added last) × IsOnNewest (added_behind old added last) x))
    → IfOk result (IsPrepared limits old new before after added change)
change-ready limits old new before after kind added change s f limit room payload is (Err e) enough made = tt
change-ready limits old new before after kind added change s f limit room payload is (Ok x) enough made =
    let (last, storable) = s.changes f in
    let both = made last storable.follows (is ∙ storable.payload) in
    let long : longer new change.payload ≡ longer old change.payload = ap (λ (l : Held). longer l change.payload) room in
    let long_so : longer old payload ≡ longer old change.payload = ap (longer old) is in
    let same_limit : new.limit ≡ old.limit = ap (λ (l : Held). l.limit) room in
    record {
      same = λ e. absurd (true≢false (sym e ∙ f));
      ready = λ e. record {
        room = room;
        fits = (let fit = storable.fits in omega (arith, fit, long, same_limit, limit));
        enough = omega (arith, enough, long, long_so);
        kind = kind;
        last = last;
        storable = storable;
        tables_of = both.0;
        session_of = both.1;
      };
    }
