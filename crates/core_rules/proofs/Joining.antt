-- Several stores over one list of changes are one store.
use Rattle.std.proofs.Common.{◌≡◌, ◌≢◌, ◌<◌, ◌≤◌, ◌+◌, ◌*◌, ℕ, suc, inl, inr, List, [], ◌∷◌, ◌++◌, length, drop, replicate, get_or, refl, sym, ap, ap₂, ◌∙◌, subst, arith, ⊎_elim, zero-le, length-append}
use Rattle.std.proofs.lemmas.Bool.{cases_eq}
use Rattle.std.proofs.lemmas.List.{length-replicate}
use Rattle.id_groups.specs.Name.{Name}
use Rattle.commit_graph.specs.World.{World, with_pending}
use Rattle.batch_codec.specs.Payload.{Payload}
use Rattle.change_rules.specs.declared.Limits.{Limits}
use Rattle.step_rules.specs.State.{Stored, Outside, Session, IsStore, new_session, session, start, base_of, pending_of, view_of}
use Rattle.step_rules.specs.Step.{CommandStep}
use Rattle.step_rules.proofs.Sessions.{copies, world_at-stored}
use Rattle.core_rules.specs.Cores.{Written, Core, Cores, Line, Move, Take, Say, Does, Go, IsAny, IsCurrent, StoresNone, StoresThis, TakesNext, at_first, lacks, lines_in, with_change, with_changes}
use Rattle.core_rules.specs.Joint.{Joint, Answers, AnswersBehind, AnswersEarlier, HaveStoredSame, IsJointOf, Runs, joint_start, number, state_of}
use Rattle.core_rules.proofs.Drops.{drop-next, drop-some, drop-behind, drop-last}
use Rattle.core_rules.proofs.Beside.{Effect, applied, applied-beside, applied-other, applied-own, beside, length-applied, step-beside}

-- what a session has where a change is taken
pub base-unseen : (st : Stored) (x : Written) (s : ℕ) → IsStore st → base_of (with_change st x) s ≡ base_of st s
base-unseen st x s h = world_at-stored st x.world x.payload (session st s).base ((h.sessions s).base)

pub view-unseen : (st : Stored) (x : Written) (s : ℕ) → IsStore st → view_of (with_change st x) s ≡ view_of st s
view-unseen st x s h = ap (λ w. with_pending w (pending_of st s)) (base-unseen st x s h)

-- ---- what is stored, whatever the sessions

abbrev pub bare : Stored → Stored
bare st = beside st []

abbrev of_parts : List (World Name) → World Name → List Payload → Stored
of_parts past stored payloads = record { past = past; stored = stored; payloads = payloads; sessions = [] }

pub bares : (x y : Stored) → x.past ≡ y.past → x.stored ≡ y.stored → x.payloads ≡ y.payloads → bare x ≡ bare y
bares x y e f g = ap (λ p. of_parts p x.stored x.payloads) e ∙ ap (λ w. of_parts y.past w x.payloads) f ∙ ap (λ q. of_parts y.past y.stored q) g

pub parts : (x y : Stored) → bare x ≡ bare y → HaveStoredSame x y
parts x y e = (ap (λ (z : Stored). z.past) (sym e), ap (λ (z : Stored). z.stored) (sym e), ap (λ (z : Stored). z.payloads) (sym e))

changes-beside : (more : List Written) (c : Stored) (l : List Session) → with_changes (beside c l) more ≡ beside (with_changes c more) l
changes-beside [] c l = refl
changes-beside (x ∷ more) c l = changes-beside more (with_change c x) l

changes-append : (more : List Written) (x : Written) (c : Stored) → with_changes c (more ++ x ∷ []) ≡ with_change (with_changes c more) x
changes-append [] x c = refl
changes-append (y ∷ more) x c = changes-append more x (with_change c y)

pub bare-changes : (more : List Written) (x y : Stored) → bare x ≡ bare y → bare (with_changes x more) ≡ bare (with_changes y more)
bare-changes more x y e = sym (changes-beside more x []) ∙ ap (λ (z : Stored). with_changes z more) e ∙ changes-beside more y []

-- a fact of each core, by the core that moves and the others
pub at-core : (P : ℕ → Type 0) (i : ℕ) → P i → ((k : ℕ) → k ≢ i → P k) → (k : ℕ) → P k
at-core P i here there k = ⊎_elim (λ same. subst P (sym same) here) (λ ne. there k ne) (cases_eq k i)

-- The one store stands for the cores: it has stored what b has, its sessions are l, and these are outside of each core.
pub record Agree (n : ℕ) (first : Stored) (cores : Cores) (b : Stored) (l : List Session) (outs : ℕ → Outside) : Type 0 where
  pub count : length l ≡ n * 16
  pub outside : (k : ℕ) → outs k ≡ (cores.core k).state.outside
  pub store : (k : ℕ) → k < n → bare b ≡ bare (with_changes (cores.core k).state.store (lacks cores k))
  pub sessions : (k u : ℕ) → k < n → u < 16 → get_or l (number k u) new_session ≡ session (cores.core k).state.store u
  pub sixteen : (k : ℕ) → k < n → length (cores.core k).state.store.sessions ≡ 16
  pub few : (k : ℕ) → k < n → (cores.core k).took ≤ length cores.changes
  pub all : bare b ≡ bare (with_changes first cores.changes)

-- ---- a core takes a change

module _ (n : ℕ) (first : Stored) (i : ℕ) (old new : Cores) (b : Stored) (l : List Session) (outs : ℕ → Outside) (a : Agree n first old b l outs) (h : TakesNext i old new) where
  lacks-rest : lacks new i ≡ h.rest
  lacks-rest = ap₂ (λ (z : Core) (ch : List Written). drop z.took ch) h.core h.changes ∙ drop-next (old.core i).took old.changes h.change h.rest h.lacked

  pub take-agree : Agree n first new b l outs
  take-agree = record {
    count = a.count;
    outside = at-core (λ k. outs k ≡ (new.core k).state.outside) i
        (a.outside i ∙ sym (ap (λ (z : Core). z.state.outside) h.core))
        (λ k ne. a.outside k ∙ sym (ap (λ (z : Core). z.state.outside) (h.others k ne)));
    store = at-core (λ k. k < n → bare b ≡ bare (with_changes (new.core k).state.store (lacks new k))) i
        (λ lt. a.store i lt ∙ ap (λ m. bare (with_changes (old.core i).state.store m)) h.lacked
        ∙ sym (ap₂ (λ (z : Core) (m : List Written). bare (with_changes z.state.store m)) h.core lacks-rest))
        (λ k ne lt. a.store k lt ∙ sym (ap₂ (λ (z : Core) (ch : List Written). bare (with_changes z.state.store (drop z.took ch))) (h.others k ne) h.changes));
    sessions = at-core (λ k. (u : ℕ) → k < n → u < 16 → get_or l (number k u) new_session ≡ session (new.core k).state.store u) i
        (λ u lt lu. a.sessions i u lt lu ∙ sym (ap (λ (z : Core). session z.state.store u) h.core))
        (λ k ne u lt lu. a.sessions k u lt lu ∙ sym (ap (λ (z : Core). session z.state.store u) (h.others k ne)));
    sixteen = at-core (λ k. k < n → length (new.core k).state.store.sessions ≡ 16) i
        (λ lt. ap (λ (z : Core). length z.state.store.sessions) h.core ∙ a.sixteen i lt)
        (λ k ne lt. ap (λ (z : Core). length z.state.store.sessions) (h.others k ne) ∙ a.sixteen k lt);
    few = at-core (λ k. k < n → (new.core k).took ≤ length new.changes) i
        (λ lt. (let some = drop-some (old.core i).took old.changes h.change h.rest h.lacked in
        let took : (new.core i).took ≡ suc (old.core i).took = ap (λ (z : Core). z.took) h.core in
        let long : length new.changes ≡ length old.changes = ap length h.changes in omega (arith, some, took, long)))
        (λ k ne lt. (let f = a.few k lt in
        let took : (new.core k).took ≡ (old.core k).took = ap (λ (z : Core). z.took) (h.others k ne) in
        let long : length new.changes ≡ length old.changes = ap length h.changes in omega (arith, f, took, long)));
    all = a.all ∙ sym (ap (λ m. bare (with_changes first m)) h.changes);
  }

-- ---- a core carries out a line

module _ (limits : Limits) (n : ℕ) (first : Stored) (line : Line) (old new : Cores) (b : Stored) (l : List Session) (outs : ℕ → Outside) (a : Agree n first old b l outs) (h : Does limits n line old new) where
  abbrev i : ℕ
  i = line.core

  abbrev s : ℕ
  s = line.session

  abbrev t : ℕ
  t = number line.core line.session

  abbrev c : Stored
  c = (old.core line.core).state.store

  abbrev d : Stored
  d = (new.core line.core).state.store

  abbrev behind : List Written
  behind = lacks old line.core

  same-session : session (beside c l) t ≡ session c s
  same-session = a.sessions i s h.is_core h.is_session

  is-here : s < length c.sessions
  is-here = let six = a.sixteen i h.is_core in let lt : s < 16 = h.is_session in omega (arith, six, lt)

  is-there : t < length l
  is-there = let count = a.count in let core = h.is_core in let lt : s < 16 = h.is_session in omega (arith, count, core, lt)

  crossing : (ef : Effect) × (d ≡ applied ef c s)
      × CommandStep limits (record { store = beside c l; outside = (old.core line.core).state.outside }) t line.verb line.reply
      (record { store = applied ef (beside c l) t; outside = (new.core line.core).state.outside })
  crossing = step-beside limits (old.core line.core).state l s t same-session is-here is-there line.verb line.reply (new.core line.core).state h.step

  -- nothing is stored
  store-none : StoresNone c d → bare (with_changes d behind) ≡ bare b
  store-none none = bare-changes behind d c (bares d c none.0 none.1 none.2) ∙ sym (a.store i h.is_core)

  -- a change is
  store-this : (x : Written) → behind ≡ [] → StoresThis x c d → (z : Stored) (m : List Written) → bare b ≡ bare (with_changes z m) → bare (with_changes d behind) ≡ bare (with_changes z (m ++ x ∷ []))
  store-this x none is z m e =
      ap (λ (ch : List Written). bare (with_changes d ch)) none
      ∙ bares d (with_change c x) is.0 is.1 is.2
      ∙ ap (λ (ch : List Written). bare (with_change (with_changes c ch) x)) (sym none)
      ∙ ap (λ (y : Stored). bare (with_change y x)) (sym (a.store i h.is_core) ∙ e)
      ∙ sym (ap bare (changes-append m x z))

  module _ (ef : Effect) (is : d ≡ applied ef c s) where
    abbrev after : List Session
    after = (applied ef (beside c l) t).sessions

    abbrev was : Joint
    was = record { store = beside b l; outside = outs }

    abbrev now : Joint
    now = record { store = beside (with_changes d behind) after; outside = λ k. (new.core k).state.outside }

    store-is : applied ef (beside c l) t ≡ beside d after
    store-is = applied-beside ef c l s t ∙ ap (λ (z : Stored). beside z after) (sym is)

    answers-behind : CommandStep limits (record { store = beside c l; outside = (old.core line.core).state.outside }) t line.verb line.reply
        (record { store = applied ef (beside c l) t; outside = (new.core line.core).state.outside }) → AnswersBehind limits line behind was now
    answers-behind step = record {
      before = beside c l;
      after = beside d after;
      was = ap (λ (z : Stored). beside z l) (a.store i h.is_core) ∙ sym (changes-beside behind c l);
      is = sym (changes-beside behind d after);
      step = subst (λ (o : Outside). CommandStep limits (record { store = beside c l; outside = o }) t line.verb line.reply (record { store = beside d after; outside = (new.core line.core).state.outside }))
          (sym (a.outside i))
          (subst (λ (z : Stored). CommandStep limits (record { store = beside c l; outside = (old.core line.core).state.outside }) t line.verb line.reply
          (record { store = z; outside = (new.core line.core).state.outside })) store-is step);
      unstored = ⊎_elim (λ x. inr x.0) (λ x. inl x.2) h.publishes;
      others = λ k ne. ap (λ (z : Core). z.state.outside) (h.others k ne) ∙ sym (a.outside k);
    }

    sessions-here : (u : ℕ) → i < n → u < 16 → get_or after (number i u) new_session ≡ session d u
    sessions-here u lt lu = ⊎_elim
        (λ same. subst (λ z. get_or after (number i z) new_session ≡ session d z) (sym same) (applied-own ef c l s t is-here is-there same-session ∙ sym (ap (λ (z : Stored). session z s) is)))
        (λ ne. applied-other ef (beside c l) t (number i u) (λ f. ne (omega (arith, f))) ∙ a.sessions i u lt lu ∙ sym (applied-other ef c s u ne) ∙ sym (ap (λ (z : Stored). session z u) is))
        (cases_eq u s)

    sessions-there : (k : ℕ) → k ≢ i → (u : ℕ) → k < n → u < 16 → get_or after (number k u) new_session ≡ session (new.core k).state.store u
    sessions-there k ne u lt lu =
        let ls : s < 16 = h.is_session in
        applied-other ef (beside c l) t (number k u) (λ f. omega (arith, f, ne, lu, ls)) ∙ a.sessions k u lt lu ∙ sym (ap (λ (z : Core). session z.state.store u) (h.others k ne))

    count-after : length after ≡ n * 16
    count-after = length-applied ef (beside c l) t ∙ a.count

    sixteen-here : i < n → length d.sessions ≡ 16
    sixteen-here lt = ap (λ (z : Stored). length z.sessions) is ∙ length-applied ef c s ∙ a.sixteen i lt

    agree-none : StoresNone c d → new.changes ≡ old.changes → (new.core line.core).took ≡ (old.core line.core).took → Agree n first new (with_changes d behind) after (λ k. (new.core k).state.outside)
    agree-none none same took = record {
      count = count-after;
      outside = λ k. refl;
      store = at-core (λ k. k < n → bare (with_changes d behind) ≡ bare (with_changes (new.core k).state.store (lacks new k))) line.core
          (λ lt. sym (ap₂ (λ (m : ℕ) (ch : List Written). bare (with_changes d (drop m ch))) took same))
          (λ k ne lt. store-none none ∙ a.store k lt ∙ sym (ap₂ (λ (z : Core) (ch : List Written). bare (with_changes z.state.store (drop z.took ch))) (h.others k ne) same));
      sessions = at-core (λ k. (u : ℕ) → k < n → u < 16 → get_or after (number k u) new_session ≡ session (new.core k).state.store u) line.core sessions-here sessions-there;
      sixteen = at-core (λ k. k < n → length (new.core k).state.store.sessions ≡ 16) line.core sixteen-here
          (λ k ne lt. ap (λ (z : Core). length z.state.store.sessions) (h.others k ne) ∙ a.sixteen k lt);
      few = at-core (λ k. k < n → (new.core k).took ≤ length new.changes) line.core
          (λ lt. (let f = a.few line.core lt in let long : length new.changes ≡ length old.changes = ap length same in omega (arith, f, took, long)))
          (λ k ne lt. (let f = a.few k lt in
          let is_took : (new.core k).took ≡ (old.core k).took = ap (λ (z : Core). z.took) (h.others k ne) in
          let long : length new.changes ≡ length old.changes = ap length same in omega (arith, f, is_took, long)));
      all = store-none none ∙ a.all ∙ sym (ap (λ m. bare (with_changes first m)) same);
    }

    agree-this : (x : Written) → StoresThis x c d → behind ≡ [] → new.changes ≡ old.changes ++ x ∷ [] → (new.core line.core).took ≡ suc (old.core line.core).took
        → Agree n first new (with_changes d behind) after (λ k. (new.core k).state.outside)
    agree-this x this none more took = record {
      count = count-after;
      outside = λ k. refl;
      store = at-core (λ k. k < n → bare (with_changes d behind) ≡ bare (with_changes (new.core k).state.store (lacks new k))) line.core
          (λ lt. ap (λ (m : List Written). bare (with_changes d m))
          (none ∙ sym (ap₂ (λ (m : ℕ) (ch : List Written). drop m ch) took more ∙ drop-last (old.core line.core).took old.changes x (a.few line.core lt) none)))
          (λ k ne lt. store-this x none this (old.core k).state.store (lacks old k) (a.store k lt)
          ∙ sym (ap (λ (m : List Written). bare (with_changes (old.core k).state.store m)) (drop-behind (old.core k).took old.changes x (a.few k lt)))
          ∙ sym (ap₂ (λ (z : Core) (ch : List Written). bare (with_changes z.state.store (drop z.took ch))) (h.others k ne) more));
      sessions = at-core (λ k. (u : ℕ) → k < n → u < 16 → get_or after (number k u) new_session ≡ session (new.core k).state.store u) line.core sessions-here sessions-there;
      sixteen = at-core (λ k. k < n → length (new.core k).state.store.sessions ≡ 16) line.core sixteen-here
          (λ k ne lt. ap (λ (z : Core). length z.state.store.sessions) (h.others k ne) ∙ a.sixteen k lt);
      few = at-core (λ k. k < n → (new.core k).took ≤ length new.changes) line.core
          (λ lt. (let f = a.few line.core lt in
          let long : length new.changes ≡ length old.changes + 1 = ap length more ∙ length-append old.changes (x ∷ []) in omega (arith, f, took, long)))
          (λ k ne lt. (let f = a.few k lt in
          let is_took : (new.core k).took ≡ (old.core k).took = ap (λ (z : Core). z.took) (h.others k ne) in
          let long : length new.changes ≡ length old.changes + 1 = ap length more ∙ length-append old.changes (x ∷ []) in omega (arith, f, is_took, long)));
      all = store-this x none this first old.changes a.all ∙ sym (ap (λ m. bare (with_changes first m)) more);
    }

  -- the one store goes on with the line
  pub line-agree : (b' : Stored) × (l' : List Session) × (outs' : ℕ → Outside) × Agree n first new b' l' outs'
      × AnswersBehind limits line (lacks old line.core) (record { store = beside b l; outside = outs }) (record { store = beside b' l'; outside = outs' })
  line-agree =
      let x = crossing in (
        with_changes d behind,
        (applied x.0 (beside c l) t).sessions,
        (λ k. (new.core k).state.outside),
        ⊎_elim (λ p. agree-none x.0 x.1 p.0 p.1 p.2) (λ p. agree-this x.0 x.1 p.0 p.1 p.2 p.3 p.4) h.publishes,
        answers-behind x.0 x.1 x.2,
      )

  -- over the store that has the core's parts
  pub line-before : line-agree.4.before ≡ beside (old.core line.core).state.store l
  unfolding line-agree answers-behind
  line-before = refl

-- ---- all moves

-- what is asked of a line is what is wanted of its answer, where it is answered behind the changes that its core lacks
module _ (limits : Limits) (n : ℕ) (first : Stored) (May : Cores → Line → Type 0) (Wanted : Line → Joint → Joint → Type 0)
    (gives : (cores : Cores) (line : Line) (was now : Joint) → May cores line → AnswersBehind limits line (lacks cores line.core) was now → Wanted line was now) where
  go-agree : (moves : List Move) (old new : Cores) (b : Stored) (l : List Session) (outs : ℕ → Outside) → Agree n first old b l outs → Go limits n May old moves new
      → (b' : Stored) × (l' : List Session) × (outs' : ℕ → Outside) × Agree n first new b' l' outs'
      × Runs Wanted (record { store = beside b l; outside = outs }) (lines_in moves) (record { store = beside b' l'; outside = outs' })
  go-agree [] old new b l outs a g = (b, l, outs, subst (λ (z : Cores). Agree n first z b l outs) (sym g) a, refl)
  go-agree (Take i ∷ moves) old new b l outs a g = go-agree moves g.0 new b l outs (take-agree n first i old g.0 b l outs a g.2) g.3
  go-agree (Say line ∷ moves) old new b l outs a g =
      let one = line-agree limits n first line old g.0 b l outs a g.2 in
      let rest = go-agree moves g.0 new one.0 one.1 one.2 one.3 g.3 in (
        rest.0,
        rest.1,
        rest.2,
        rest.3,
        (record { store = beside one.0 one.1; outside = one.2 }, gives old line (record { store = beside b l; outside = outs }) (record { store = beside one.0 one.1; outside = one.2 }) g.1 one.4, rest.4),
      )

pub first-agree : (n : ℕ) (w : World Name) (payloads : List Payload) (outside : ℕ → Outside) → Agree n (start w payloads) (at_first w payloads outside) (start w payloads) (replicate (n * 16) new_session) outside
first-agree n w payloads outside = record {
  count = length-replicate (n * 16) new_session;
  outside = λ k. refl;
  store = λ k lt. refl;
  sessions = λ k u lt lu. copies (n * 16) (number k u) new_session ∙ sym (copies 16 u new_session);
  sixteen = λ k lt. refl;
  few = λ k lt. zero-le;
  all = refl;
}

pub agree-joint : (n : ℕ) (w : World Name) (payloads : List Payload) (cores : Cores) (b : Stored) (l : List Session) (outs : ℕ → Outside) → Agree n (start w payloads) cores b l outs
    → IsJointOf n w payloads cores (record { store = beside b l; outside = outs })
agree-joint n w payloads cores b l outs a = record {
  all = parts b (with_changes (start w payloads) cores.changes) a.all;
  each = λ i lt. parts b (with_changes (cores.core i).state.store (lacks cores i)) (a.store i lt);
  sessions = a.sessions;
  outsides = λ i lt. a.outside i;
}

-- a line that is answered behind no change is answered now
pub answered-now : (limits : Limits) (line : Line) (last : List Written) (old new : Joint) → last ≡ [] → AnswersBehind limits line last old new → Answers limits line old new
answered-now limits line last old new none h =
    let was : old.store ≡ h.before = h.was ∙ ap (λ m. with_changes h.before m) none in
    let is : new.store ≡ h.after = h.is ∙ ap (λ m. with_changes h.after m) none in
    record {
      step = subst (λ (z : Stored). CommandStep limits (record { store = z; outside = old.outside line.core }) (number line.core line.session) line.verb line.reply (state_of new line.core)) (sym was)
          (subst (λ (z : Stored). CommandStep limits (record { store = h.before; outside = old.outside line.core }) (number line.core line.session) line.verb line.reply
          (record { store = z; outside = new.outside line.core })) (sym is) h.step);
      others = h.others;
    }

pub one-store : (limits : Limits) (n : ℕ) (w : World Name) (payloads : List Payload) (outside : ℕ → Outside) (moves : List Move) (cores : Cores)
    → Go limits n IsCurrent (at_first w payloads outside) moves cores
    → (joint : Joint) × Runs (Answers limits) (joint_start n w payloads outside) (lines_in moves) joint × IsJointOf n w payloads cores joint
one-store limits n w payloads outside moves cores g =
    let gives : (cores : Cores) (line : Line) (was now : Joint) → IsCurrent cores line → AnswersBehind limits line (lacks cores line.core) was now → Answers limits line was now
    = λ cores line was now none h. answered-now limits line (lacks cores line.core) was now none h in
    let r = go-agree limits n (start w payloads) IsCurrent (Answers limits) gives moves (at_first w payloads outside) cores (start w payloads) (replicate (n * 16) new_session) outside
    (first-agree n w payloads outside) g in
    (record { store = beside r.0 r.1; outside = r.2 }, r.4, agree-joint n w payloads cores r.0 r.1 r.2 r.3)

pub one-store-behind : (limits : Limits) (n : ℕ) (w : World Name) (payloads : List Payload) (outside : ℕ → Outside) (moves : List Move) (cores : Cores)
    → Go limits n IsAny (at_first w payloads outside) moves cores
    → (joint : Joint) × Runs (AnswersEarlier limits) (joint_start n w payloads outside) (lines_in moves) joint × IsJointOf n w payloads cores joint
one-store-behind limits n w payloads outside moves cores g =
    let gives : (cores : Cores) (line : Line) (was now : Joint) → IsAny cores line → AnswersBehind limits line (lacks cores line.core) was now → AnswersEarlier limits line was now
    = λ cores line was now any h. (lacks cores line.core, h) in
    let r = go-agree limits n (start w payloads) IsAny (AnswersEarlier limits) gives moves (at_first w payloads outside) cores (start w payloads) (replicate (n * 16) new_session) outside
    (first-agree n w payloads outside) g in
    (record { store = beside r.0 r.1; outside = r.2 }, r.4, agree-joint n w payloads cores r.0 r.1 r.2 r.3)
