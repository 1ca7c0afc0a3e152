-- What others have stored may be taken.
use Rattle.std.proofs.Common.{◌≡◌, ◌<◌, ◌≤◌, ◌+◌, ◌*◌, ℕ, suc, List, [], ◌∷◌, ◌++◌, length, map, drop, get_or, replicate, sym, ap, ap₂, ◌∙◌, subst, subst₂, arith, ⊎_elim, le_refl, length-append}
use Rattle.id_groups.specs.Name.{Name}
use Rattle.commit_graph.specs.World.{World, GrowsMaster, empty_world}
use Rattle.batch_codec.specs.Payload.{Payload}
use Rattle.gated_log.specs.Log.{log_length}
use Rattle.change_rules.specs.declared.Limits.{Limits}
use Rattle.change_rules.specs.Change.{text_of}
use Rattle.change_rules.specs.Holding.{HoldPayloads}
use Rattle.step_rules.specs.State.{State, Stored, Outside, Session, IsHeld, IsState, IsStore, new_session, start}
use Rattle.step_rules.specs.Verb.{IsVerb}
use Rattle.change_rules.specs.Standard.{AreLimits}
use Rattle.step_rules.proofs.Cached.{cached-next}
use Rattle.step_rules.proofs.Held.{step-held}
use Rattle.step_rules.proofs.Kept.{step-state}
use Rattle.step_rules.proofs.Sessions.{newest-now, world_at-stored}
use Rattle.step_rules.proofs.States.{start-state, with_stored-state}
use Rattle.core_rules.specs.Cores.{Written, Core, Cores, Line, Move, Take, Say, Does, Go, StoresNone, StoresThis, TakesNext, at_first, lacks, with_change, with_changes}
use Rattle.core_rules.specs.Taking.{AllMayCome, AreLawful, HasVerb, IsLawfulStart, MayCome}
use Rattle.core_rules.proofs.Drops.{drop-behind, drop-last, drop-next}
use Rattle.core_rules.proofs.Joining.{Agree, at-core, bare, first-agree, line-agree, take-agree}
use Rattle.core_rules.proofs.Late.{is-late}

-- ---- a state that takes a change

module _ (limits : Limits) (st : State) (x : Written) (may : MayCome limits st.store.stored st.store.payloads x) where
  abbrev pub taking : State
  taking = record { store = with_change st.store x; outside = st.outside }

  pub taken-state : IsState st → IsHeld limits st.store → IsState taking
  taken-state h held = record {
    store = with_stored-state st.store x.world x.payload h.store may.hold.world may.grows;
    outside = record {
      few = h.outside.few;
      names = λ id name e. cached-next st.store x.world x.payload may.grows (is-late st.store.payloads x.payload st.store.stored x.world held.hold may.hold) (record { id = id; name = name }) (h.outside.names id name e);
      mirrors = h.outside.mirrors;
    };
  }

  pub taken-held : IsHeld limits taking.store
  taken-held = record { hold = may.hold; within = may.within }

-- ---- what a core stores may come behind what it had stored

stored-may : (limits : Limits) (c d : Stored) (x : Written) → StoresThis x c d → IsStore d → IsHeld limits d → MayCome limits c.stored c.payloads x
stored-may limits c d x this h held = record {
  grows = subst₂ GrowsMaster
      (ap (λ (past : List (World Name)). get_or (past ++ d.stored ∷ []) (length c.past) empty_world) this.0
      ∙ world_at-stored c d.stored x.payload (length c.past) (le_refl _) ∙ newest-now c)
      (newest-now d ∙ this.1)
      (h.grows (length c.past) (length d.past)
      (let e : length d.past ≡ length c.past + 1 = ap length this.0 ∙ length-append c.past (c.stored ∷ []) in omega (arith, e)) (le_refl _));
  hold = subst₂ HoldPayloads this.2 this.1 held.hold;
  within = subst (λ (ps : List Payload). log_length (map text_of ps) ≤ limits.log) this.2 held.within;
}

come-append : (limits : Limits) (m : List Written) (x : Written) (st : Stored) → AllMayCome limits st.stored st.payloads m → MayCome limits (with_changes st m).stored (with_changes st m).payloads x
    → AllMayCome limits st.stored st.payloads (m ++ x ∷ [])
come-append limits [] x st h may = (may, tt)
come-append limits (y ∷ m) x st h may = (h.0, come-append limits m x (with_change st y) h.1 may)

-- ---- all moves

module _ (limits : Limits) (n : ℕ) (first : Stored) where
  pub take-lawful : (i : ℕ) (old new : Cores) → i < n → TakesNext i old new → AreLawful limits n old → AreLawful limits n new
  take-lawful i old new is_core h lawful =
      let st = (old.core i).state in
      let come : AllMayCome limits st.store.stored st.store.payloads (h.change ∷ h.rest) = subst (AllMayCome limits st.store.stored st.store.payloads) h.lacked (lawful.come i is_core) in
      let rest : lacks new i ≡ h.rest = ap₂ (λ (z : Core) (ch : List Written). drop z.took ch) h.core h.changes ∙ drop-next (old.core i).took old.changes h.change h.rest h.lacked in
      record {
        states = at-core (λ k. k < n → IsState (new.core k).state) i
            (λ lt. subst (λ (z : Core). IsState z.state) (sym h.core) (taken-state limits st h.change come.0 (lawful.states i lt) (lawful.held i lt)))
            (λ k ne lt. subst (λ (z : Core). IsState z.state) (sym (h.others k ne)) (lawful.states k lt));
        held = at-core (λ k. k < n → IsHeld limits (new.core k).state.store) i
            (λ lt. subst (λ (z : Core). IsHeld limits z.state.store) (sym h.core) (taken-held limits st h.change come.0))
            (λ k ne lt. subst (λ (z : Core). IsHeld limits z.state.store) (sym (h.others k ne)) (lawful.held k lt));
        come = at-core (λ k. k < n → AllMayCome limits (new.core k).state.store.stored (new.core k).state.store.payloads (lacks new k)) i
            (λ lt. subst (λ m. AllMayCome limits (new.core i).state.store.stored (new.core i).state.store.payloads m) (sym rest)
            (subst (λ (z : Core). AllMayCome limits z.state.store.stored z.state.store.payloads h.rest) (sym h.core) come.1))
            (λ k ne lt. subst (λ ch. AllMayCome limits (new.core k).state.store.stored (new.core k).state.store.payloads (drop (new.core k).took ch)) (sym h.changes)
            (subst (λ (z : Core). AllMayCome limits z.state.store.stored z.state.store.payloads (drop z.took old.changes)) (sym (h.others k ne)) (lawful.come k lt)));
      }

  module _ (fit : AreLimits limits) (line : Line) (old new : Cores) (b : Stored) (l : List Session) (outs : ℕ → Outside) (a : Agree n first old b l outs) (h : Does limits n line old new)
      (is_verb : IsVerb line.verb) (lawful : AreLawful limits n old) where
    abbrev c : State
    c = (old.core line.core).state

    abbrev d : State
    d = (new.core line.core).state

    state-now : IsState d
    state-now = step-state limits c line.session (lawful.states line.core h.is_core) line.verb line.reply d is_verb h.step

    held-now : IsHeld limits d.store
    held-now = step-held limits fit c line.session (lawful.states line.core h.is_core) (lawful.held line.core h.is_core) line.verb line.reply d h.step

    states : (k : ℕ) → k < n → IsState (new.core k).state
    states = at-core (λ k. k < n → IsState (new.core k).state) line.core (λ lt. state-now) (λ k ne lt. subst (λ (z : Core). IsState z.state) (sym (h.others k ne)) (lawful.states k lt))

    held : (k : ℕ) → k < n → IsHeld limits (new.core k).state.store
    held = at-core (λ k. k < n → IsHeld limits (new.core k).state.store) line.core (λ lt. held-now) (λ k ne lt. subst (λ (z : Core). IsHeld limits z.state.store) (sym (h.others k ne)) (lawful.held k lt))

    say-none : StoresNone c.store d.store → new.changes ≡ old.changes → (new.core line.core).took ≡ (old.core line.core).took → AreLawful limits n new
    say-none none same took = record {
      states = states;
      held = held;
      come = at-core (λ k. k < n → AllMayCome limits (new.core k).state.store.stored (new.core k).state.store.payloads (lacks new k)) line.core
          (λ lt. subst (λ m. AllMayCome limits d.store.stored d.store.payloads m) (sym (ap₂ (λ (m : ℕ) (ch : List Written). drop m ch) took same))
          (subst₂ (λ (w : World Name) (ps : List Payload). AllMayCome limits w ps (lacks old line.core)) (sym none.1) (sym none.2) (lawful.come line.core lt)))
          (λ k ne lt. subst (λ ch. AllMayCome limits (new.core k).state.store.stored (new.core k).state.store.payloads (drop (new.core k).took ch)) (sym same)
          (subst (λ (z : Core). AllMayCome limits z.state.store.stored z.state.store.payloads (drop z.took old.changes)) (sym (h.others k ne)) (lawful.come k lt)));
    }

    say-this : (x : Written) → StoresThis x c.store d.store → lacks old line.core ≡ [] → new.changes ≡ old.changes ++ x ∷ [] → (new.core line.core).took ≡ suc (old.core line.core).took → AreLawful limits n new
    say-this x this none more took =
        let may = stored-may limits c.store d.store x this state-now.store held-now in
        record {
          states = states;
          held = held;
          come = at-core (λ k. k < n → AllMayCome limits (new.core k).state.store.stored (new.core k).state.store.payloads (lacks new k)) line.core
              (λ lt. subst (λ m. AllMayCome limits d.store.stored d.store.payloads m)
              (sym (ap₂ (λ (m : ℕ) (ch : List Written). drop m ch) took more ∙ drop-last (old.core line.core).took old.changes x (a.few line.core lt) none)) tt)
              (λ k ne lt. (let ck = (old.core k).state.store in
              let same : bare c.store ≡ bare (with_changes ck (lacks old k)) = sym (a.store line.core h.is_core ∙ ap (λ m. bare (with_changes c.store m)) none) ∙ a.store k lt in
              let grown = come-append limits (lacks old k) x ck (lawful.come k lt)
              (subst₂ (λ (w : World Name) (ps : List Payload). MayCome limits w ps x) (ap (λ (z : Stored). z.stored) same) (ap (λ (z : Stored). z.payloads) same) may) in
              subst (λ ch. AllMayCome limits (new.core k).state.store.stored (new.core k).state.store.payloads (drop (new.core k).took ch)) (sym more)
              (subst (λ (z : Core). AllMayCome limits z.state.store.stored z.state.store.payloads (drop z.took (old.changes ++ x ∷ []))) (sym (h.others k ne))
              (subst (λ m. AllMayCome limits ck.stored ck.payloads m) (sym (drop-behind (old.core k).took old.changes x (a.few k lt))) grown))));
        }

    pub say-lawful : AreLawful limits n new
    say-lawful = ⊎_elim (λ p. say-none p.0 p.1 p.2) (λ p. say-this p.0 p.1 p.2 p.3 p.4) h.publishes

  go-lawful : AreLimits limits → (moves : List Move) (old new : Cores) (b : Stored) (l : List Session) (outs : ℕ → Outside) → Agree n first old b l outs → AreLawful limits n old → Go limits n HasVerb old moves new
      → AreLawful limits n new
  go-lawful fit [] old new b l outs a lawful g = subst (AreLawful limits n) (sym g) lawful
  go-lawful fit (Take i ∷ moves) old new b l outs a lawful g =
      go-lawful fit moves g.0 new b l outs (take-agree n first i old g.0 b l outs a g.2) (take-lawful i old g.0 g.1 g.2 lawful) g.3
  go-lawful fit (Say line ∷ moves) old new b l outs a lawful g =
      let one = line-agree limits n first line old g.0 b l outs a g.2 in
      go-lawful fit moves g.0 new one.0 one.1 one.2 one.3 (say-lawful fit line old g.0 b l outs a g.2 g.1 lawful) g.3

pub first-lawful : (limits : Limits) (n : ℕ) (w : World Name) (payloads : List Payload) (outside : ℕ → Outside) → IsLawfulStart limits w payloads outside → AreLawful limits n (at_first w payloads outside)
first-lawful limits n w payloads outside h = record {
  states = λ i lt. record { store = start-state w payloads h.world; outside = h.outsides i };
  held = λ i lt. h.held;
  come = λ i lt. tt;
}

pub all-lawful : (limits : Limits) (n : ℕ) (w : World Name) (payloads : List Payload) (outside : ℕ → Outside) (moves : List Move) (cores : Cores) → IsLawfulStart limits w payloads outside
    → Go limits n HasVerb (at_first w payloads outside) moves cores → AreLawful limits n cores
all-lawful limits n w payloads outside moves cores h g =
    go-lawful limits n (start w payloads) h.limits_fit moves (at_first w payloads outside) cores (start w payloads) (replicate (n * 16) new_session) outside
    (first-agree n w payloads outside) (first-lawful limits n w payloads outside h) g
