-- Cores that take what others have stored before they look at the stored world.
use Rattle.std.proofs.Common.{◌≡◌, ◌<◌, ◌≤◌, ◌+◌, ◌*◌, ℕ, Bool, true, false, List, [], ◌∷◌, ◌++◌, length, map, replicate, None, refl, sym, ap, ◌∙◌, subst, arith, le_refl, length-append}
use Rattle.id_groups.specs.Name.{Name, same_name}
use Rattle.commit_graph.specs.World.{Row, World}
use Rattle.batch_codec.specs.Payload.{Payload}
use Rattle.std.specs.Option.{option_map}
use Rattle.change_rules.specs.declared.Limits.{Limits}
use Rattle.change_rules.specs.Rebase.{left_of, first_conflict, first_lost}
use Rattle.change_rules.specs.Standard.{AreLimits}
use Rattle.step_rules.specs.declared.Refusal.TheVariants as why
use Rattle.step_rules.specs.State.{State, Stored, Outside, Session, IsHeld, IsStore, new_session, base_of, on_newest, pending_of, session, start, world_at}
use Rattle.step_rules.specs.Verb.{Reload}
use Rattle.step_rules.specs.Reply.{Reloaded}
use Rattle.step_rules.specs.Tests.{pending_test, plain}
use Rattle.step_rules.specs.Asking.{TriesAll}
use Rattle.step_rules.specs.Step.{CommandStep, MayWantMemory}
use Rattle.step_rules.specs.Isolation.{reads_stored}
use Rattle.step_rules.proofs.Plain.{all-tries, outside-same}
use Rattle.step_rules.proofs.Sessions.{newest-now}
use Rattle.core_rules.specs.Cores.{Written, Cores, Line, Move, Take, Say, Does, Go, at_first, lacks, lines_in, with_changes}
use Rattle.core_rules.specs.Joint.{Joint, Answers, AnswersBehind, IsJointOf, Runs, joint_start, number, state_of}
use Rattle.core_rules.specs.Taking.{AllMayCome, AreLawful, FollowsToRead, IsLawfulStart}
use Rattle.core_rules.proofs.Beside.{beside}
use Rattle.core_rules.proofs.Joining.{Agree, agree-joint, answered-now, first-agree, line-agree, line-before, take-agree}
use Rattle.core_rules.proofs.Late.{AllAbove, all-above}
use Rattle.core_rules.proofs.Reading.{step-all}
use Rattle.core_rules.proofs.Taking.{first-lawful, say-lawful, take-lawful}

-- a session's base has no more master commits than are stored
base-short : (c : Stored) (s : ℕ) → IsStore c → length (base_of c s).master ≤ length c.stored.master
base-short c s h =
    let b = (h.sessions s).base in
    let g = h.grows (session c s).base (length c.past) b (le_refl _) in
    let long : length (world_at c (length c.past)).master ≡ length (base_of c s).master + length g.0 = ap length g.1 ∙ length-append (base_of c s).master g.0 in
    let last : length (world_at c (length c.past)).master ≡ length c.stored.master = ap (λ (w : World Name). length w.master) (newest-now c) in
    omega (arith, long, last)

-- what a session needs for its command to do the same where these are taken before
abbrev Fits : ℕ → List Written → Stored → Type 0
Fits t more z = ((session z t).base ≤ length z.past) × (length (base_of z t).master ≤ length z.stored.master) × (t < length z.sessions) × AllAbove z.stored more

fits-beside : (limits : Limits) (c : Stored) (l : List Session) (s t : ℕ) (more : List Written) → session (beside c l) t ≡ session c s → t < length l → IsStore c → IsHeld limits c
    → AllMayCome limits c.stored c.payloads more → Fits t more (beside c l)
fits-beside limits c l s t more e room h held come = (
  subst (λ (y : Session). y.base ≤ length c.past) (sym e) ((h.sessions s).base),
  subst (λ (y : Session). length (world_at c y.base).master ≤ length c.stored.master) (sym e) (base-short c s h),
  room,
  all-above limits c.stored c.payloads more held.hold come,
)

answered-anyway : (limits : Limits) (line : Line) (last : List Written) (old new : Joint) (h : AnswersBehind limits line last old new) → reads_stored line.verb ≡ false
    → Fits (number line.core line.session) last h.before → Answers limits line old new
answered-anyway limits line last old new h e fits =
    let t = number line.core line.session in
    record {
      step = subst (λ (z : Stored). CommandStep limits (record { store = z; outside = old.outside line.core }) t line.verb line.reply (state_of new line.core)) (sym h.was)
          (subst (λ (z : Stored). CommandStep limits (record { store = with_changes h.before last; outside = old.outside line.core }) t line.verb line.reply (record { store = z; outside = new.outside line.core })) (sym h.is)
          (step-all limits last h.before t (old.outside line.core) line.verb line.reply h.after (new.outside line.core) e fits.0 fits.1 fits.2 fits.3 h.step));
      others = h.others;
    }

module _ (limits : Limits) (n : ℕ) (first : Stored) (fit : AreLimits limits) where
  line-answers : (line : Line) (old new : Cores) (b : Stored) (l : List Session) (outs : ℕ → Outside) (a : Agree n first old b l outs) (h : Does limits n line old new) → AreLawful limits n old
      → (reads_stored line.verb ≡ true → lacks old line.core ≡ [])
      → let one = line-agree limits n first line old new b l outs a h in Answers limits line (record { store = beside b l; outside = outs }) (record { store = beside one.0 one.1; outside = one.2 })
  line-answers line old new b l outs a h lawful follows = by_test (reads_stored line.verb) refl
    where
      was : Joint
      was = record { store = beside b l; outside = outs }

      by_test : (r : Bool) → reads_stored line.verb ≡ r
          → let one = line-agree limits n first line old new b l outs a h in Answers limits line (record { store = beside b l; outside = outs }) (record { store = beside one.0 one.1; outside = one.2 })
      by_test true e =
          let one = line-agree limits n first line old new b l outs a h in
          answered-now limits line (lacks old line.core) (record { store = beside b l; outside = outs }) (record { store = beside one.0 one.1; outside = one.2 }) (follows e) one.4
      by_test false e =
          let one = line-agree limits n first line old new b l outs a h in
          let c = (old.core line.core).state.store in
          let t = number line.core line.session in
          let room : t < length l = (let count = a.count in let core = h.is_core in let lt : line.session < 16 = h.is_session in omega (arith, count, core, lt)) in
          answered-anyway limits line (lacks old line.core) (record { store = beside b l; outside = outs }) (record { store = beside one.0 one.1; outside = one.2 }) one.4 e
          (subst (Fits t (lacks old line.core)) (sym (line-before limits n first line old new b l outs a h))
          (fits-beside limits c l line.session t (lacks old line.core) (a.sessions line.core line.session h.is_core h.is_session) room (lawful.states line.core h.is_core).store (lawful.held line.core h.is_core)
          (lawful.come line.core h.is_core)))

  go-reading : (moves : List Move) (old new : Cores) (b : Stored) (l : List Session) (outs : ℕ → Outside) → Agree n first old b l outs → AreLawful limits n old → Go limits n FollowsToRead old moves new
      → (b' : Stored) × (l' : List Session) × (outs' : ℕ → Outside) × Agree n first new b' l' outs'
      × Runs (Answers limits) (record { store = beside b l; outside = outs }) (lines_in moves) (record { store = beside b' l'; outside = outs' })
  go-reading [] old new b l outs a lawful g = (b, l, outs, subst (λ (z : Cores). Agree n first z b l outs) (sym g) a, refl)
  go-reading (Take i ∷ moves) old new b l outs a lawful g =
      go-reading moves g.0 new b l outs (take-agree n first i old g.0 b l outs a g.2) (take-lawful limits n first i old g.0 g.1 g.2 lawful) g.3
  go-reading (Say line ∷ moves) old new b l outs a lawful g =
      let one = line-agree limits n first line old g.0 b l outs a g.2 in
      let rest = go-reading moves g.0 new one.0 one.1 one.2 one.3 (say-lawful limits n first fit line old g.0 b l outs a g.2 g.1.0 lawful) g.3 in (
        rest.0,
        rest.1,
        rest.2,
        rest.3,
        (record { store = beside one.0 one.1; outside = one.2 }, line-answers line old g.0 b l outs a g.2 lawful g.1.1, rest.4),
      )

pub one-store-reading : (limits : Limits) (n : ℕ) (w : World Name) (payloads : List Payload) (outside : ℕ → Outside) (moves : List Move) (cores : Cores) → IsLawfulStart limits w payloads outside
    → Go limits n FollowsToRead (at_first w payloads outside) moves cores
    → (joint : Joint) × Runs (Answers limits) (joint_start n w payloads outside) (lines_in moves) joint × IsJointOf n w payloads cores joint
one-store-reading limits n w payloads outside moves cores h g =
    let r = go-reading limits n (start w payloads) h.limits_fit moves (at_first w payloads outside) cores (start w payloads) (replicate (n * 16) new_session) outside
    (first-agree n w payloads outside) (first-lawful limits n w payloads outside h) g in
    (record { store = beside r.0 r.1; outside = r.2 }, r.4, agree-joint n w payloads cores r.0 r.1 r.2 r.3)

-- ---- a core that is opened later

pub reload-empty : (limits : Limits) (st : State) (s : ℕ) → pending_of st.store s ≡ [] → CommandStep limits st s Reload (Reloaded 0) (record { store = on_newest st.store s []; outside = st.outside })
reload-empty limits st s e = (
  None,
  st.outside.mirrors,
  [],
  subst (λ (rows : List (Row Name)). TriesAll (MayWantMemory Reload) st.outside.mirrors
      (map (pending_test st.store s) rows ++ plain (option_map why.Conflict (first_conflict same_name st.store.stored rows)) ∷ plain (option_map why.Lost (first_lost same_name st.store.stored rows)) ∷ []) None st.outside.mirrors [])
      (sym e) (all-tries (MayWantMemory Reload) st.outside.mirrors (plain None ∷ plain None ∷ []) ((refl, refl), ((refl, refl), tt))),
  (
    subst (λ (rows : List (Row Name)). (Reloaded 0 ≡ Reloaded (length (left_of same_name st.store.stored rows))) × (on_newest st.store s [] ≡ on_newest st.store s (left_of same_name st.store.stored rows))) (sym e) (refl, refl),
    outside-same st (on_newest st.store s []),
  ),
)
