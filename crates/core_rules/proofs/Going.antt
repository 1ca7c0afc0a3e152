-- What a core may do.
use Rattle.std.proofs.Common.{◌≡◌, ◌≢◌, ◌<◌, ◌⊎◌, ℕ, suc, Bool, inl, inr, List, [], ◌∷◌, ◌++◌, length, nat_eq, replicate, refl, sym, ap, ◌∙◌, subst, arith, ⊎_elim, if◌then◌else◌}
use Rattle.std.proofs.lemmas.Bool.{eq-eqb, ne_eqb}
use Rattle.id_groups.specs.Name.{Name}
use Rattle.commit_graph.specs.World.{World}
use Rattle.batch_codec.specs.Payload.{Payload}
use Rattle.change_rules.specs.declared.Limits.{Limits}
use Rattle.step_rules.specs.State.{State, Stored, new_session}
use Rattle.step_rules.specs.Verb.{Verb}
use Rattle.step_rules.specs.Reply.{Reply}
use Rattle.step_rules.specs.Step.{CommandStep}
use Rattle.core_rules.specs.Cores.{Written, Core, Cores, Line, Does, StoresNone, StoresThis, TakesNext, lacks, with_change}
use Rattle.core_rules.specs.Taking.{opened_late, reloaded}
use Rattle.core_rules.proofs.Beside.{Effect, Leaves, Puts, Adds, applied, step-beside}

effect-stores : (ef : Effect) (c : Stored) (s : ℕ) → StoresNone c (applied ef c s) ⊎ ((x : Written) × StoresThis x c (applied ef c s))
effect-stores Leaves c s = inl (refl, refl, refl)
effect-stores (Puts y) c s = inl (refl, refl, refl)
effect-stores (Adds new payload) c s = inr (record { payload = payload; world = new }, (refl, refl, refl))

-- a command stores nothing, or one change
pub stores-one : (limits : Limits) (st now : State) (s : ℕ) (verb : Verb) (reply : Reply) → s < length st.store.sessions → CommandStep limits st s verb reply now
    → StoresNone st.store now.store ⊎ ((x : Written) × StoresThis x st.store now.store)
stores-one limits st now s verb reply room step =
    let e = step-beside limits st st.store.sessions s s refl room room verb reply now step in
    subst (λ (z : Stored). StoresNone st.store z ⊎ ((x : Written) × StoresThis x st.store z)) (sym e.1) (effect-stores e.0 st.store s)

-- the cores with another one at that place
abbrev put_core : Cores → ℕ → Core → List Written → Cores
put_core cores i core changes = record { changes = changes; core = λ k. if nat_eq k i then core else cores.core k }

put-here : (cores : Cores) (i : ℕ) (core : Core) (changes : List Written) → (put_core cores i core changes).core i ≡ core
put-here cores i core changes = ap (λ (b : Bool). if b then core else cores.core i) (eq-eqb i i refl)

put-there : (cores : Cores) (i : ℕ) (core : Core) (changes : List Written) (k : ℕ) → k ≢ i → (put_core cores i core changes).core k ≡ cores.core k
put-there cores i core changes k ne = ap (λ (b : Bool). if b then core else cores.core k) (ne_eqb k i ne)

pub may-take : (cores : Cores) (i : ℕ) (x : Written) (rest : List Written) → lacks cores i ≡ x ∷ rest → (new : Cores) × TakesNext i cores new
may-take cores i x rest e =
    let c = cores.core i in
    let core : Core = record { took = suc c.took; state = record { store = with_change c.state.store x; outside = c.state.outside } } in (
      put_core cores i core cores.changes,
      record { change = x; rest = rest; lacked = e; changes = refl; core = put-here cores i core cores.changes; others = put-there cores i core cores.changes },
    )

module _ (limits : Limits) (n : ℕ) (cores : Cores) (line : Line) (now : State) (is_core : line.core < n) (is_session : line.session < 16) (step : CommandStep limits (cores.core line.core).state line.session line.verb line.reply now) where
  abbrev c : Core
  c = cores.core line.core

  does : (took : ℕ) (changes : List Written)
      → (StoresNone c.state.store now.store × (changes ≡ cores.changes) × (took ≡ c.took))
      ⊎ ((x : Written) × StoresThis x c.state.store now.store × (lacks cores line.core ≡ []) × (changes ≡ cores.changes ++ x ∷ []) × (took ≡ suc c.took))
      → Does limits n line cores (put_core cores line.core (record { took = took; state = now }) changes)
  does took changes p =
      let core : Core = record { took = took; state = now } in
      let here = put-here cores line.core core changes in
      record {
        is_core = is_core;
        is_session = is_session;
        step = subst (λ (z : Core). CommandStep limits (cores.core line.core).state line.session line.verb line.reply z.state) (sym here) step;
        publishes = ⊎_elim
            (λ q. inl (
              subst (λ (z : Core). StoresNone (cores.core line.core).state.store z.state.store) (sym here) q.0,
              q.1,
              ap (λ (z : Core). z.took) here ∙ q.2,
            ))
            (λ q. inr (
              q.0,
              subst (λ (z : Core). StoresThis q.0 (cores.core line.core).state.store z.state.store) (sym here) q.1,
              q.2,
              q.3,
              ap (λ (z : Core). z.took) here ∙ q.4,
            ))
            p;
        others = put-there cores line.core core changes;
      }

  pub may-do : (length (cores.core line.core).state.store.sessions ≡ 16) → ((lacks cores line.core ≡ []) ⊎ StoresNone (cores.core line.core).state.store now.store) → (new : Cores) × Does limits n line cores new
  may-do six may =
      let room : line.session < length c.state.store.sessions = omega (arith, six, is_session) in
      ⊎_elim
      (λ none. (put_core cores line.core (record { took = c.took; state = now }) cores.changes, does c.took cores.changes (inl (none, refl, refl))))
      (λ this. ⊎_elim
      (λ all. (put_core cores line.core (record { took = suc c.took; state = now }) (cores.changes ++ this.0 ∷ []), does (suc c.took) (cores.changes ++ this.0 ∷ []) (inr (this.0, this.1, all, refl, refl))))
      (λ none. (put_core cores line.core (record { took = c.took; state = now }) cores.changes, does c.took cores.changes (inl (none, refl, refl))))
      may)
      (stores-one limits c.state now line.session line.verb line.reply room step)

pub all-reloaded : (past : List (World Name)) (w : World Name) (payloads : List Payload) → reloaded 16 (record { past = past; stored = w; payloads = payloads; sessions = replicate 16 new_session }) ≡ opened_late past w payloads
all-reloaded past w payloads = refl
