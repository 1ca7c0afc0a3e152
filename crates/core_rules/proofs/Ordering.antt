-- Lines of cores that may be behind, put in the order of the changes that their cores had taken.
use Rattle.std.proofs.Common.{◌≡◌, ◌≢◌, ◌<◌, ◌+◌, ◌*◌, ℕ, zero, suc, Bool, true, false, cond, List, [], ◌∷◌, ◌++◌, length, drop, replicate, get_or, set, nat_eq, refl, sym, ap, ap₂, ◌∙◌, subst, arith, ⊎_elim, true≢false, append-nil, append_assoc, length-append, if◌then◌else◌}
use Rattle.std.specs.Prelude.{⊤}
use Rattle.std.proofs.lemmas.Bool.{cases_eq, eq-eqb, ne_eqb}
use Rattle.std.proofs.lemmas.List.{get_or-set_other, length-replicate, length-set, set_comm}
use Rattle.id_groups.specs.Name.{Name}
use Rattle.commit_graph.specs.World.{World}
use Rattle.batch_codec.specs.Payload.{Payload}
use Rattle.change_rules.specs.declared.Limits.{Limits}
use Rattle.step_rules.specs.State.{State, Stored, Outside, Session, new_session, session, start, worlds}
use Rattle.step_rules.specs.Verb.{Verb}
use Rattle.step_rules.specs.Reply.{Reply}
use Rattle.step_rules.specs.Step.{CommandStep}
use Rattle.step_rules.proofs.Sessions.{copies}
use Rattle.core_rules.specs.Cores.{Written, Core, Cores, Line, Move, Take, Say, Does, Go, IsAny, StoresNone, StoresThis, TakesNext, at_first, lines_in, with_change, with_changes}
use Rattle.core_rules.specs.Joint.{Joint, Answers, IsJointOf, Runs, joint_start, number, of_core, state_of}
use Rattle.core_rules.proofs.Beside.{Effect, Leaves, Puts, Adds, applied, applied-beside, applied-other, applied-own, beside, length-applied, step-beside}
use Rattle.core_rules.proofs.Joining.{at-core, bare, bares, bare-changes, parts}

-- ---- lines of one core among those of all

add-first : (b : Bool) (x : Line) (all few more : List Line) → all ≡ few ++ more → cond b (x ∷ all) all ≡ cond b (x ∷ few) few ++ more
add-first true x all few more e = ap (λ z. x ∷ z) e
add-first false x all few more e = e

split-core : (k : ℕ) (xs ys : List Line) → of_core k (xs ++ ys) ≡ of_core k xs ++ of_core k ys
split-core k [] ys = refl
split-core k (x ∷ xs) ys = add-first (nat_eq x.core k) x (of_core k (xs ++ ys)) (of_core k xs) (of_core k ys) (split-core k xs ys)

none-first : (b : Bool) (x : Line) (zs : List Line) → cond b (x ∷ zs) zs ≡ [] → (b ≡ false) × (zs ≡ [])
none-first true x zs e = absurd (let l : suc (length zs) ≡ 0 = ap length e in omega (arith, l))
none-first false x zs e = (refl, e)

not-core : (a k : ℕ) → nat_eq a k ≡ false → a ≢ k
not-core a k e same = true≢false (sym (eq-eqb a k same) ∙ e)

none-parts : (k : ℕ) (xs : List Line) (line : Line) (ys : List Line) → of_core k (xs ++ line ∷ ys) ≡ [] → (of_core k xs ≡ []) × (line.core ≢ k) × (of_core k ys ≡ [])
none-parts k [] line ys e = let h = none-first (nat_eq line.core k) line (of_core k ys) e in (refl, not-core line.core k h.0, h.1)
none-parts k (x ∷ xs) line ys e =
    let h = none-first (nat_eq x.core k) x (of_core k (xs ++ line ∷ ys)) e in
    let rest = none-parts k xs line ys h.1 in
    (ap (λ b. cond b (x ∷ of_core k xs) (of_core k xs)) h.0 ∙ rest.0, rest.1, rest.2)

none-one : (k : ℕ) (line : Line) → line.core ≢ k → of_core k (line ∷ []) ≡ []
none-one k line ne = ap (λ (b : Bool). cond b (line ∷ []) []) (ne_eqb line.core k ne)

behind-both : (k : ℕ) (quiet : List Line) (line : Line) (more fewer last : List Line) → of_core k more ≡ of_core k fewer ++ last → of_core k (quiet ++ line ∷ more) ≡ of_core k (quiet ++ line ∷ fewer) ++ last
behind-both k [] line more fewer last e = add-first (nat_eq line.core k) line (of_core k more) (of_core k fewer) last e
behind-both k (q ∷ quiet) line more fewer last e =
    add-first (nat_eq q.core k) q (of_core k (quiet ++ line ∷ more)) (of_core k (quiet ++ line ∷ fewer)) last (behind-both k quiet line more fewer last e)

-- a line put between, of a core that has none behind it
put-between : (k : ℕ) (quiet : List Line) (line next : Line) (more : List Line) → of_core line.core (next ∷ more) ≡ []
    → of_core k ((quiet ++ line ∷ []) ++ next ∷ more) ≡ of_core k (quiet ++ next ∷ more) ++ of_core k (line ∷ [])
put-between k quiet line next more none = ⊎_elim
    (λ same. subst (λ z. of_core z ((quiet ++ line ∷ []) ++ next ∷ more) ≡ of_core z (quiet ++ next ∷ more) ++ of_core z (line ∷ [])) same own)
    (λ ne. split-core k (quiet ++ line ∷ []) (next ∷ more)
    ∙ ap (λ l. l ++ of_core k (next ∷ more)) (split-core k quiet (line ∷ []) ∙ ap (λ l. of_core k quiet ++ l) (none-one k line ne) ∙ append-nil (of_core k quiet))
    ∙ sym (split-core k quiet (next ∷ more)) ∙ sym (append-nil (of_core k (quiet ++ next ∷ more))) ∙ ap (λ l. of_core k (quiet ++ next ∷ more) ++ l) (sym (none-one k line ne)))
    (cases_eq line.core k)
  where
    own : of_core line.core ((quiet ++ line ∷ []) ++ next ∷ more) ≡ of_core line.core (quiet ++ next ∷ more) ++ of_core line.core (line ∷ [])
    own =
        let i = line.core in
        split-core i (quiet ++ line ∷ []) (next ∷ more)
        ∙ ap (λ l. of_core i (quiet ++ line ∷ []) ++ l) none
        ∙ append-nil (of_core i (quiet ++ line ∷ []))
        ∙ split-core i quiet (line ∷ [])
        ∙ ap (λ l. l ++ of_core i (line ∷ [])) (sym (append-nil (of_core i quiet)) ∙ ap (λ l. of_core i quiet ++ l) (sym none) ∙ sym (split-core i quiet (next ∷ more)))

-- ---- a core in the one store

-- the state of a core with more changes taken
abbrev taken : State → List Written → State
taken st more = record { store = with_changes st.store more; outside = st.outside }

record AgreesAt (n i : ℕ) (st : State) (joint : Joint) : Type 0 where
  l : List Session
  is : joint.store ≡ beside st.store l
  count : length l ≡ n * 16
  sessions : (u : ℕ) → u < 16 → get_or l (number i u) new_session ≡ session st.store u
  outside : joint.outside i ≡ st.outside
  sixteen : length st.store.sessions ≡ 16

-- an effect that stores nothing
abbrev IsQuiet : Effect → Type 0
IsQuiet Leaves = ⊤
IsQuiet (Puts x) = ⊤
IsQuiet (Adds new payload) = ⊥

quiet-effect : (ef : Effect) (st : Stored) (s : ℕ) (now : Stored) → now ≡ applied ef st s → now.past ≡ st.past → IsQuiet ef
quiet-effect Leaves st s now is e = tt
quiet-effect (Puts x) st s now is e = tt
quiet-effect (Adds new payload) st s now is e =
    let longer : length now.past ≡ length st.past + 1 = ap (λ (z : Stored). length z.past) is ∙ length-append st.past (st.stored ∷ []) in
    let same : length now.past ≡ length st.past = ap length e in omega (arith, longer, same)

-- effects on two sessions, in either order
commute : (a b : Effect) (st : Stored) (s t : ℕ) → IsQuiet a → s ≢ t → applied b (applied a st s) t ≡ applied a (applied b st t) s
commute Leaves b st s t q ne = refl
commute (Adds new payload) b st s t q ne = absurd q
commute (Puts x) Leaves st s t q ne = refl
commute (Puts x) (Puts y) st s t q ne = ap (λ l. beside st l) (set_comm st.sessions s t x y ne)
commute (Puts x) (Adds new payload) st s t q ne =
    ap (λ l. beside (record { past = st.past ++ st.stored ∷ []; stored = new; payloads = st.payloads ++ payload ∷ []; sessions = [] }) l)
    (set_comm st.sessions s t x (record { base = length (st.past ++ st.stored ∷ []); pending = [] }) ne)

-- a quiet effect leaves what is stored
quiet-self : (ef : Effect) (st : Stored) (t : ℕ) → IsQuiet ef → StoresNone st (applied ef st t)
quiet-self Leaves st t q = (refl, refl, refl)
quiet-self (Puts x) st t q = (refl, refl, refl)
quiet-self (Adds new payload) st t q = absurd q

quiet-none : (ef : Effect) (a b : Stored) (t : ℕ) → IsQuiet ef → StoresNone a b → StoresNone (applied ef a t) (applied ef b t)
quiet-none Leaves a b t q h = h
quiet-none (Puts x) a b t q h = h
quiet-none (Adds new payload) a b t q h = absurd q

quiet-this : (ef : Effect) (x : Written) (a b : Stored) (t : ℕ) → IsQuiet ef → StoresThis x a b → StoresThis x (applied ef a t) (applied ef b t)
quiet-this Leaves x a b t q h = h
quiet-this (Puts y) x a b t q h = h
quiet-this (Adds new payload) x a b t q h = absurd q

quiet-beside : (ef : Effect) (c : Stored) (l : List Session) (t : ℕ) → IsQuiet ef → applied ef (beside c l) t ≡ beside c (applied ef (beside c l) t).sessions
quiet-beside Leaves c l t q = refl
quiet-beside (Puts x) c l t q = refl
quiet-beside (Adds new payload) c l t q = absurd q

-- a command does the same where another session was changed before
step-apart : (limits : Limits) (ef : Effect) (store now : Stored) (out after : Outside) (s t : ℕ) (verb : Verb) (reply : Reply) → IsQuiet ef → s ≢ t → t < length store.sessions
    → CommandStep limits (record { store = store; outside = out }) t verb reply (record { store = now; outside = after })
    → CommandStep limits (record { store = applied ef store s; outside = out }) t verb reply (record { store = applied ef now s; outside = after })
step-apart limits Leaves store now out after s t verb reply q ne room step = step
step-apart limits (Adds new payload) store now out after s t verb reply q ne room step = absurd q
step-apart limits (Puts x) store now out after s t verb reply q ne room step =
    let y = step-beside limits (record { store = store; outside = out }) (set store.sessions s x) t t (get_or-set_other store.sessions s t x new_session (λ f. ne (sym f))) room
    (let long : length (set store.sessions s x) ≡ length store.sessions = length-set store.sessions s x in omega (arith, long, room)) verb reply (record { store = now; outside = after }) step in
    subst (λ (z : Stored). CommandStep limits (record { store = applied (Puts x) store s; outside = out }) t verb reply (record { store = z; outside = after }))
    (commute (Puts x) y.0 store s t tt ne ∙ ap (λ (z : Stored). applied (Puts x) z s) (sym y.1)) y.2

module _ (limits : Limits) (n : ℕ) where
  record Turn (line : Line) (old new : Joint) : Type 0 where
    is_core : line.core < n
    is_session : line.session < 16
    count : length old.store.sessions ≡ n * 16
    answers : Answers limits line old new

  turn-room : (line : Line) (old new : Joint) → Turn line old new → number line.core line.session < length old.store.sessions
  turn-room line old new h = let count = h.count in let core = h.is_core in let lt = h.is_session in omega (arith, count, core, lt)

  turn-effect : (line : Line) (old new : Joint) → Turn line old new → (ef : Effect) × (new.store ≡ applied ef old.store (number line.core line.session))
  turn-effect line old new h =
      let t = number line.core line.session in
      let room = turn-room line old new h in
      let x = step-beside limits (state_of old line.core) old.store.sessions t t refl room room line.verb line.reply (state_of new line.core) h.answers.step in
      (x.0, x.1)

  -- lines that store nothing
  abbrev Quiet : Joint → List Line → Joint → Type 0
  Quiet old [] new = new ≡ old
  Quiet old (line ∷ lines) new = (mid : Joint) × Turn line old mid × StoresNone old.store mid.store × Quiet mid lines new

  quiet-append : (old mid new : Joint) (lines : List Line) (line : Line) → Quiet old lines mid → Turn line mid new → StoresNone mid.store new.store → Quiet old (lines ++ line ∷ []) new
  quiet-append old mid new [] line q turn none =
      subst (λ (z : Joint). Turn line z new → StoresNone z.store new.store → Quiet old (line ∷ []) new) (sym q) (λ a b. (new, a, b, refl)) turn none
  quiet-append old mid new (first ∷ lines) line q turn none = (q.0, q.1, q.2, quiet-append q.0 mid new lines line q.3 turn none)

  -- Quiet lines, a line that stores the first change, and so on.
  abbrev Staged : Joint → List Written → Joint → Type 0
  Staged old [] new = (quiet : List Line) × Quiet old quiet new
  Staged old (x ∷ rest) new =
      (quiet : List Line) × (mid : Joint) × Quiet old quiet mid
      × (line : Line) × (next : Joint) × (Turn line mid next × StoresThis x mid.store next.store) × Staged next rest new

  abbrev lines_of : (old : Joint) (changes : List Written) (new : Joint) → Staged old changes new → List Line
  lines_of old [] new st = st.0
  lines_of old (x ∷ rest) new st = st.0 ++ st.3 ∷ lines_of st.4 rest new st.6

  -- a core that has taken so many changes, in this state: it does nothing later
  abbrev Sits : State → ℕ → ℕ → (old : Joint) (changes : List Written) (new : Joint) → Staged old changes new → Type 0
  Sits c k zero old [] new st = AgreesAt n k c new
  Sits c k zero old (x ∷ rest) new st = AgreesAt n k c st.1 × (st.3.core ≢ k) × (of_core k (lines_of st.4 rest new st.6) ≡ [])
  Sits c k (suc m) old [] new st = ⊥
  Sits c k (suc m) old (x ∷ rest) new st = Sits c k m st.4 rest new st.6

  -- ---- what another core's line leaves of it

  module _ (k : ℕ) (c : State) (line : Line) (old new : Joint) (a : AgreesAt n k c old) (ne : line.core ≢ k) (h : Turn line old new) where
    abbrev t : ℕ
    t = number line.core line.session

    -- all but what is stored
    agrees-after : (d : State) → d.store.sessions ≡ c.store.sessions → d.outside ≡ c.outside
        → ((ef : Effect) → new.store ≡ applied ef old.store t → bare (applied ef c.store t) ≡ bare d.store) → AgreesAt n k d new
    agrees-after d sessions outside parts_are =
        let x = turn-effect line old new h in
        let l : List Session = (applied x.0 (beside c.store a.l) t).sessions in
        record {
          l = l;
          is = x.1 ∙ ap (λ (z : Stored). applied x.0 z t) a.is ∙ applied-beside x.0 c.store a.l t t ∙ ap (λ (z : Stored). beside z l) (parts_are x.0 x.1);
          count = length-applied x.0 (beside c.store a.l) t ∙ a.count;
          sessions = λ u lu. applied-other x.0 (beside c.store a.l) t (number k u) (λ f. (let ls = h.is_session in omega (arith, f, ne, lu, ls)))
              ∙ a.sessions u lu ∙ ap (λ (z : List Session). get_or z u new_session) (sym sessions);
          outside = h.answers.others k (λ same. ne (sym same)) ∙ a.outside ∙ sym outside;
          sixteen = ap length sessions ∙ a.sixteen;
        }

    agrees-quiet : StoresNone old.store new.store → AgreesAt n k c new
    agrees-quiet none = agrees-after c refl refl
        (λ ef is. (let e : new.store ≡ beside (applied ef c.store t) (applied ef (beside c.store a.l) t).sessions = is ∙ ap (λ (z : Stored). applied ef z t) a.is ∙ applied-beside ef c.store a.l t t in
        bares (applied ef c.store t) c.store
        (sym (ap (λ (z : Stored). z.past) e) ∙ none.0 ∙ ap (λ (z : Stored). z.past) a.is)
        (sym (ap (λ (z : Stored). z.stored) e) ∙ none.1 ∙ ap (λ (z : Stored). z.stored) a.is)
        (sym (ap (λ (z : Stored). z.payloads) e) ∙ none.2 ∙ ap (λ (z : Stored). z.payloads) a.is)))

    agrees-storing : (x : Written) → StoresThis x old.store new.store → AgreesAt n k (taken c (x ∷ [])) new
    agrees-storing x this = agrees-after (taken c (x ∷ [])) refl refl
        (λ ef is. (let e : new.store ≡ beside (applied ef c.store t) (applied ef (beside c.store a.l) t).sessions = is ∙ ap (λ (z : Stored). applied ef z t) a.is ∙ applied-beside ef c.store a.l t t in
        bares (applied ef c.store t) (with_change c.store x)
        (sym (ap (λ (z : Stored). z.past) e) ∙ this.0 ∙ ap (λ (z : Stored). worlds z) a.is)
        (sym (ap (λ (z : Stored). z.stored) e) ∙ this.1)
        (sym (ap (λ (z : Stored). z.payloads) e) ∙ this.2 ∙ ap (λ (z : Stored). z.payloads ++ x.payload ∷ []) a.is)))

  carry-quiet : (k : ℕ) (c : State) (old new : Joint) (lines : List Line) → AgreesAt n k c old → of_core k lines ≡ [] → Quiet old lines new → AgreesAt n k c new
  carry-quiet k c old new [] a none q = subst (AgreesAt n k c) (sym q) a
  carry-quiet k c old new (line ∷ lines) a none q =
      let h = none-first (nat_eq line.core k) line (of_core k lines) none in
      carry-quiet k c q.0 new lines (agrees-quiet k c line old q.0 a (not-core line.core k h.0) q.1 q.2) h.1 q.3

  carry-all : (k : ℕ) (c : State) (changes : List Written) (old new : Joint) (st : Staged old changes new) → AgreesAt n k c old → of_core k (lines_of old changes new st) ≡ [] → AgreesAt n k (taken c changes) new
  carry-all k c [] old new st a none =
      let b = carry-quiet k c old new st.0 a none st.1 in record { l = b.l; is = b.is; count = b.count; sessions = b.sessions; outside = b.outside; sixteen = b.sixteen }
  carry-all k c (x ∷ rest) old new st a none =
      let p = none-parts k st.0 st.3 (lines_of st.4 rest new st.6) none in
      carry-all k (taken c (x ∷ [])) rest st.4 new st.6 (agrees-storing k c st.3 st.1 st.4 (carry-quiet k c old st.1 st.0 a p.0 st.2) p.1 st.5.0 x st.5.1) p.2

  -- at the end it is in the one store, with all that it lacks
  sits-last : (k : ℕ) (c : State) (m : ℕ) (changes : List Written) (old new : Joint) (st : Staged old changes new) → Sits c k m old changes new st → AgreesAt n k (taken c (drop m changes)) new
  sits-last k c zero [] old new st s = record { l = s.l; is = s.is; count = s.count; sessions = s.sessions; outside = s.outside; sixteen = s.sixteen }
  sits-last k c zero (x ∷ rest) old new st s =
      carry-all k (taken c (x ∷ [])) rest st.4 new st.6 (agrees-storing k c st.3 st.1 st.4 s.0 s.1 st.5.0 x st.5.1) s.2
  sits-last k c (suc m) [] old new st s = absurd s
  sits-last k c (suc m) (x ∷ rest) old new st s = sits-last k c m rest st.4 new st.6 s

  -- ---- the core takes a change

  sits-take : (k : ℕ) (c : State) (m : ℕ) (changes : List Written) (old new : Joint) (st : Staged old changes new) (x : Written) (more : List Written)
      → Sits c k m old changes new st → drop m changes ≡ x ∷ more → Sits (taken c (x ∷ [])) k (suc m) old changes new st
  sits-take k c zero [] old new st x more s e = absurd (let l : 0 ≡ suc (length more) = ap length e in omega (arith, l))
  sits-take k c zero (y ∷ []) old new st x more s e =
      let same : y ≡ x = ap (λ l. head_or y l) e in
      subst (λ z. AgreesAt n k (taken c (z ∷ [])) new) same
      (carry-quiet k (taken c (y ∷ [])) st.4 new st.6.0 (agrees-storing k c st.3 st.1 st.4 s.0 s.1 st.5.0 y st.5.1) s.2 st.6.1)
    where
      head_or : Written → List Written → Written
      head_or d [] = d
      head_or d (z ∷ zs) = z
  sits-take k c zero (y ∷ z ∷ rest) old new st x more s e =
      let same : y ≡ x = ap (λ l. head_or y l) e in
      let next = st.6 in
      let p = none-parts k next.0 next.3 (lines_of next.4 rest new next.6) s.2 in (
        subst (λ w. AgreesAt n k (taken c (w ∷ [])) next.1) same
            (carry-quiet k (taken c (y ∷ [])) st.4 next.1 next.0 (agrees-storing k c st.3 st.1 st.4 s.0 s.1 st.5.0 y st.5.1) p.0 next.2),
        p.1,
        p.2,
      )
    where
      head_or : Written → List Written → Written
      head_or d [] = d
      head_or d (z ∷ zs) = z
  sits-take k c (suc m) [] old new st x more s e = absurd s
  sits-take k c (suc m) (y ∷ rest) old new st x more s e = sits-take k c m rest st.4 new st.6 x more s e

  -- ---- a core's line among those before

  -- the one store with an effect on a session, and what is outside of its core
  abbrev put : ℕ → ℕ → Effect → Outside → Joint → Joint
  put i s ef out joint = record { store = applied ef joint.store (number i s); outside = λ k. if nat_eq k i then out else joint.outside k }

  put-other : (i s : ℕ) (ef : Effect) (out : Outside) (joint : Joint) (k : ℕ) → k ≢ i → (put i s ef out joint).outside k ≡ joint.outside k
  put-other i s ef out joint k ne = ap (λ (b : Bool). if b then out else joint.outside k) (ne_eqb k i ne)

  put-own : (i s : ℕ) (ef : Effect) (out : Outside) (joint : Joint) → (put i s ef out joint).outside i ≡ out
  put-own i s ef out joint = ap (λ (b : Bool). if b then out else joint.outside i) (eq-eqb i i refl)

  module _ (i s : ℕ) (lts : s < 16) (ef : Effect) (quiet : IsQuiet ef) (out : Outside) where
    abbrev moved : Joint → Joint
    moved joint = put i s ef out joint

    put-agrees : (k : ℕ) (c : State) (joint : Joint) → k ≢ i → AgreesAt n k c joint → AgreesAt n k c (moved joint)
    put-agrees k c joint ne a =
        let l : List Session = (applied ef (beside c.store a.l) (number i s)).sessions in
        record {
          l = l;
          is = ap (λ (z : Stored). applied ef z (number i s)) a.is ∙ quiet-beside ef c.store a.l (number i s) quiet;
          count = length-applied ef (beside c.store a.l) (number i s) ∙ a.count;
          sessions = λ u lu. applied-other ef (beside c.store a.l) (number i s) (number k u) (λ f. omega (arith, f, ne, lu, lts)) ∙ a.sessions u lu;
          outside = put-other i s ef out joint k ne ∙ a.outside;
          sixteen = a.sixteen;
        }

    put-turn : (line : Line) (old new : Joint) → line.core ≢ i → Turn line old new → Turn line (moved old) (moved new)
    put-turn line old new ne h =
        let k = line.core in
        let t = number line.core line.session in
        let apart : number i s ≢ t = λ f. (let ls = h.is_session in omega (arith, f, ne, ls, lts)) in
        record {
          is_core = h.is_core;
          is_session = h.is_session;
          count = length-applied ef old.store (number i s) ∙ h.count;
          answers = record {
            step = subst (λ (o : Outside). CommandStep limits (record { store = applied ef old.store (number i s); outside = o }) t line.verb line.reply (state_of (moved new) line.core)) (sym (put-other i s ef out old k ne))
                (subst (λ (o : Outside). CommandStep limits (record { store = applied ef old.store (number i s); outside = old.outside line.core }) t line.verb line.reply
                (record { store = applied ef new.store (number i s); outside = o })) (sym (put-other i s ef out new k ne))
                (step-apart limits ef old.store new.store (old.outside line.core) (new.outside line.core) (number i s) t line.verb line.reply quiet apart (turn-room line old new h) h.answers.step));
            others = λ q nq. ap (λ (o : Outside). if nat_eq q i then out else o) (h.answers.others q nq);
          };
        }

    put-quiet : (lines : List Line) (old new : Joint) → of_core i lines ≡ [] → Quiet old lines new → Quiet (moved old) lines (moved new)
    put-quiet [] old new none q = ap moved q
    put-quiet (line ∷ lines) old new none q =
        let h = none-first (nat_eq line.core i) line (of_core i lines) none in (
          moved q.0,
          put-turn line old q.0 (not-core line.core i h.0) q.1,
          quiet-none ef old.store q.0.store (number i s) quiet q.2,
          put-quiet lines q.0 new h.1 q.3,
        )

    put-staged : (changes : List Written) (old new : Joint) (st : Staged old changes new) → of_core i (lines_of old changes new st) ≡ [] → Staged (moved old) changes (moved new)
    put-staged [] old new st none = (st.0, put-quiet st.0 old new none st.1)
    put-staged (x ∷ rest) old new st none =
        let p = none-parts i st.0 st.3 (lines_of st.4 rest new st.6) none in (
          st.0,
          moved st.1,
          put-quiet st.0 old st.1 p.0 st.2,
          st.3,
          moved st.4,
          (put-turn st.3 st.1 st.4 p.1 st.5.0, quiet-this ef x st.1.store st.4.store (number i s) quiet st.5.1),
          put-staged rest st.4 new st.6 p.2,
        )

    put-lines : (changes : List Written) (old new : Joint) (st : Staged old changes new) (none : of_core i (lines_of old changes new st) ≡ [])
        → lines_of (moved old) changes (moved new) (put-staged changes old new st none) ≡ lines_of old changes new st
    unfolding put-staged
    put-lines [] old new st none = refl
    put-lines (x ∷ rest) old new st none =
        ap (λ l. st.0 ++ st.3 ∷ l) (put-lines rest st.4 new st.6 (none-parts i st.0 st.3 (lines_of st.4 rest new st.6) none).2)

    put-sits : (k : ℕ) (c : State) (m : ℕ) (changes : List Written) (old new : Joint) (st : Staged old changes new) (none : of_core i (lines_of old changes new st) ≡ []) → k ≢ i
        → Sits c k m old changes new st → Sits c k m (moved old) changes (moved new) (put-staged changes old new st none)
    unfolding put-staged none-parts
    put-sits k c zero [] old new st none ne sits = put-agrees k c new ne sits
    put-sits k c zero (x ∷ rest) old new st none ne sits =
        let p = none-parts i st.0 st.3 (lines_of st.4 rest new st.6) none in
        (put-agrees k c st.1 ne sits.0, sits.1, ap (of_core k) (put-lines rest st.4 new st.6 p.2) ∙ sits.2)
    put-sits k c (suc m) [] old new st none ne sits = absurd sits
    put-sits k c (suc m) (x ∷ rest) old new st none ne sits =
        put-sits k c m rest st.4 new st.6 (none-parts i st.0 st.3 (lines_of st.4 rest new st.6) none).2 ne sits

  -- ---- the core's own line

  module _ (line : Line) (c d : State) (is_core : line.core < n) (is_session : line.session < 16) (step : CommandStep limits c line.session line.verb line.reply d) where
    abbrev i : ℕ
    i = line.core

    -- what it makes of the one store, where the core agrees with it
    record Made (joint : Joint) : Type 0 where
      ef : Effect
      is : d.store ≡ applied ef c.store line.session
      turn : Turn line joint (put line.core line.session ef d.outside joint)
      agrees : AgreesAt n line.core d (put line.core line.session ef d.outside joint)

    made : (joint : Joint) → AgreesAt n line.core c joint → Made joint
    made joint a =
        let s = line.session in
        let t = number line.core line.session in
        let here : s < length c.store.sessions = (let six = a.sixteen in omega (arith, six, is_session)) in
        let there : t < length a.l = (let count = a.count in omega (arith, count, is_core, is_session)) in
        let x = step-beside limits c a.l s t (a.sessions s is_session) here there line.verb line.reply d step in
        let ef = x.0 in
        let l : List Session = (applied ef (beside c.store a.l) t).sessions in
        let next : Joint = put line.core line.session ef d.outside joint in
        record {
          ef = ef;
          is = x.1;
          turn = record {
            is_core = is_core;
            is_session = is_session;
            count = ap (λ (z : Stored). length z.sessions) a.is ∙ a.count;
            answers = record {
              step = subst (λ (z : Stored). CommandStep limits (record { store = z; outside = joint.outside line.core }) t line.verb line.reply (record { store = applied ef z t; outside = next.outside line.core })) (sym a.is)
                  (subst (λ (o : Outside). CommandStep limits (record { store = beside c.store a.l; outside = o }) t line.verb line.reply (record { store = applied ef (beside c.store a.l) t; outside = next.outside line.core })) (sym a.outside)
                  (subst (λ (o : Outside). CommandStep limits (record { store = beside c.store a.l; outside = c.outside }) t line.verb line.reply (record { store = applied ef (beside c.store a.l) t; outside = o }))
                  (sym (put-own line.core line.session ef d.outside joint)) x.2));
              others = λ k ne. put-other line.core line.session ef d.outside joint k ne;
            };
          };
          agrees = record {
            l = l;
            is = ap (λ (z : Stored). applied ef z t) a.is ∙ applied-beside ef c.store a.l s t ∙ ap (λ (z : Stored). beside z l) (sym x.1);
            count = length-applied ef (beside c.store a.l) t ∙ a.count;
            sessions = λ u lu. ⊎_elim
                (λ same. subst (λ z. get_or l (number line.core z) new_session ≡ session d.store z) (sym same) (applied-own ef c.store a.l s t here there (a.sessions s is_session) ∙ sym (ap (λ (z : Stored). session z s) x.1)))
                (λ ne. applied-other ef (beside c.store a.l) t (number line.core u) (λ f. ne (omega (arith, f))) ∙ a.sessions u lu ∙ sym (applied-other ef c.store s u ne) ∙ sym (ap (λ (z : Stored). session z u) x.1))
                (cases_eq u s);
            outside = put-own line.core line.session ef d.outside joint;
            sixteen = ap (λ (z : Stored). length z.sessions) x.1 ∙ length-applied ef c.store s ∙ a.sixteen;
          };
        }

    -- lines with this one among them
    record Inserted (m : ℕ) (old new : Joint) (changes : List Written) (st : Staged old changes new) : Type 0 where
      last : Joint
      with_it : Staged old changes last
      own : Sits d line.core m old changes last with_it
      others : (k : ℕ) (e : State) (j : ℕ) → k ≢ line.core → Sits e k j old changes new st → Sits e k j old changes last with_it
      lines : (k : ℕ) → of_core k (lines_of old changes last with_it) ≡ of_core k (lines_of old changes new st) ++ of_core k (line ∷ [])

    last-others : (k : ℕ) (e : State) (j : ℕ) (old new last : Joint) (st : Staged old [] new) (with_it : Staged old [] last) → (AgreesAt n k e new → AgreesAt n k e last) → Sits e k j old [] new st → Sits e k j old [] last with_it
    last-others k e zero old new last st with_it f sits = f sits
    last-others k e (suc j) old new last st with_it f sits = absurd sits

    mid-others : (k : ℕ) (e : State) (j : ℕ) (x : Written) (rest : List Written) (old new last : Joint) (st : Staged old (x ∷ rest) new) (with_it : Staged old (x ∷ rest) last)
        → (AgreesAt n k e st.1 → AgreesAt n k e with_it.1) → (st.3.core ≢ k → with_it.3.core ≢ k)
        → (of_core k (lines_of st.4 rest new st.6) ≡ [] → of_core k (lines_of with_it.4 rest last with_it.6) ≡ [])
        → ((m : ℕ) → Sits e k m st.4 rest new st.6 → Sits e k m with_it.4 rest last with_it.6) → Sits e k j old (x ∷ rest) new st → Sits e k j old (x ∷ rest) last with_it
    mid-others k e zero x rest old new last st with_it f g p q sits = (f sits.0, g sits.1, p sits.2)
    mid-others k e (suc j) x rest old new last st with_it f g p q sits = q j sits

    no-more : (k : ℕ) (more fewer : List Line) → k ≢ line.core → of_core k more ≡ of_core k fewer ++ of_core k (line ∷ []) → of_core k fewer ≡ [] → of_core k more ≡ []
    no-more k more fewer ne e none = e ∙ ap₂ (λ (a b : List Line). a ++ b) none (none-one k line (λ same. ne (sym same)))

    insert : (m : ℕ) (changes : List Written) (old new : Joint) (st : Staged old changes new) → StoresNone c.store d.store → Sits c line.core m old changes new st → Inserted m old new changes st
    insert zero [] old new st none sits =
        let w = made new sits in
        let q = quiet-effect w.ef c.store line.session d.store w.is none.0 in
        let last : Joint = put line.core line.session w.ef d.outside new in
        let with_it : Staged old [] last = (st.0 ++ line ∷ [], quiet-append old new last st.0 line st.1 w.turn (quiet-self w.ef new.store (number line.core line.session) q)) in
        record {
          last = last;
          with_it = with_it;
          own = w.agrees;
          others = λ k e j ne s. last-others k e j old new last st with_it (put-agrees line.core line.session is_session w.ef q d.outside k e new ne) s;
          lines = λ k. split-core k st.0 (line ∷ []);
        }
    insert zero (x ∷ rest) old new st none sits =
        let w = made st.1 sits.0 in
        let q = quiet-effect w.ef c.store line.session d.store w.is none.0 in
        let P : Joint → Joint = put line.core line.session w.ef d.outside in
        let same = put-lines line.core line.session is_session w.ef q d.outside rest st.4 new st.6 sits.2 in
        let with_it : Staged old (x ∷ rest) (P new) = (
          st.0 ++ line ∷ [],
          P st.1,
          quiet-append old st.1 (P st.1) st.0 line st.2 w.turn (quiet-self w.ef st.1.store (number line.core line.session) q),
          st.3,
          P st.4,
          (put-turn line.core line.session is_session w.ef q d.outside st.3 st.1 st.4 sits.1 st.5.0, quiet-this w.ef x st.1.store st.4.store (number line.core line.session) q st.5.1),
          put-staged line.core line.session is_session w.ef q d.outside rest st.4 new st.6 sits.2,
        ) in
        record {
          last = P new;
          with_it = with_it;
          own = (w.agrees, sits.1, ap (of_core line.core) same ∙ sits.2);
          others = λ k e j ne s. mid-others k e j x rest old new (P new) st with_it (put-agrees line.core line.session is_session w.ef q d.outside k e st.1 ne) (λ other. other)
              (λ empty. ap (of_core k) same ∙ empty) (λ m t. put-sits line.core line.session is_session w.ef q d.outside k e m rest st.4 new st.6 sits.2 ne t) s;
          lines = λ k. ap (λ l. of_core k ((st.0 ++ line ∷ []) ++ st.3 ∷ l)) same
              ∙ put-between k st.0 line st.3 (lines_of st.4 rest new st.6)
              (ap (λ (b : Bool). cond b (st.3 ∷ of_core line.core (lines_of st.4 rest new st.6)) (of_core line.core (lines_of st.4 rest new st.6))) (ne_eqb st.3.core line.core sits.1) ∙ sits.2);
        }
    insert (suc m) [] old new st none sits = absurd sits
    insert (suc m) (x ∷ rest) old new st none sits =
        let r = insert m rest st.4 new st.6 none sits in
        let with_it : Staged old (x ∷ rest) r.last = (st.0, st.1, st.2, st.3, st.4, st.5, r.with_it) in
        record {
          last = r.last;
          with_it = with_it;
          own = r.own;
          others = λ k e j ne s. mid-others k e j x rest old new r.last st with_it (λ a. a) (λ other. other)
              (λ empty. no-more k (lines_of st.4 rest r.last r.with_it) (lines_of st.4 rest new st.6) ne (r.lines k) empty) (λ q t. r.others k e q ne t) s;
          lines = λ k. behind-both k st.0 st.3 (lines_of st.4 rest r.last r.with_it) (lines_of st.4 rest new st.6) (of_core k (line ∷ [])) (r.lines k);
        }

    -- lines with this one behind them, which stores a change
    record Added (x : Written) (m : ℕ) (old new : Joint) (changes : List Written) (st : Staged old changes new) : Type 0 where
      last : Joint
      with_it : Staged old (changes ++ x ∷ []) last
      own : Sits d line.core (suc m) old (changes ++ x ∷ []) last with_it
      others : (k : ℕ) (e : State) (j : ℕ) → k ≢ line.core → Sits e k j old changes new st → Sits e k j old (changes ++ x ∷ []) last with_it
      lines : (k : ℕ) → of_core k (lines_of old (changes ++ x ∷ []) last with_it) ≡ of_core k (lines_of old changes new st) ++ of_core k (line ∷ [])

    first-others : (k : ℕ) (e : State) (j : ℕ) (x : Written) (old new last : Joint) (st : Staged old [] new) (with_it : Staged old (x ∷ []) last)
        → (AgreesAt n k e new → AgreesAt n k e with_it.1 × (with_it.3.core ≢ k) × (of_core k (lines_of with_it.4 [] last with_it.6) ≡ [])) → Sits e k j old [] new st → Sits e k j old (x ∷ []) last with_it
    first-others k e zero x old new last st with_it f sits = f sits
    first-others k e (suc j) x old new last st with_it f sits = absurd sits

    next-others : (k : ℕ) (e : State) (j : ℕ) (y : Written) (rest more : List Written) (old new last : Joint) (st : Staged old (y ∷ rest) new) (with_it : Staged old (y ∷ more) last)
        → (AgreesAt n k e st.1 → AgreesAt n k e with_it.1) → (st.3.core ≢ k → with_it.3.core ≢ k)
        → (of_core k (lines_of st.4 rest new st.6) ≡ [] → of_core k (lines_of with_it.4 more last with_it.6) ≡ [])
        → ((m : ℕ) → Sits e k m st.4 rest new st.6 → Sits e k m with_it.4 more last with_it.6) → Sits e k j old (y ∷ rest) new st → Sits e k j old (y ∷ more) last with_it
    next-others k e zero y rest more old new last st with_it f g p q sits = (f sits.0, g sits.1, p sits.2)
    next-others k e (suc j) y rest more old new last st with_it f g p q sits = q j sits

    this-made : (x : Written) (joint : Joint) (a : AgreesAt n line.core c joint) (w : Made joint) → StoresThis x c.store d.store → StoresThis x joint.store (put line.core line.session w.ef d.outside joint).store
    this-made x joint a w this = (
      ap (λ (z : Stored). z.past) w.agrees.is ∙ this.0 ∙ sym (ap (λ (z : Stored). worlds z) a.is),
      ap (λ (z : Stored). z.stored) w.agrees.is ∙ this.1,
      ap (λ (z : Stored). z.payloads) w.agrees.is ∙ this.2 ∙ sym (ap (λ (z : Stored). z.payloads ++ x.payload ∷ []) a.is),
    )

    add : (x : Written) (m : ℕ) (changes : List Written) (old new : Joint) (st : Staged old changes new) → StoresThis x c.store d.store → drop m changes ≡ [] → Sits c line.core m old changes new st
        → Added x m old new changes st
    add x zero [] old new st this none sits =
        let w = made new sits in
        let last : Joint = put line.core line.session w.ef d.outside new in
        let with_it : Staged old (x ∷ []) last = (st.0, new, st.1, line, last, (w.turn, this-made x new sits w this), ([], refl)) in
        record {
          last = last;
          with_it = with_it;
          own = w.agrees;
          others = λ k e j ne s. first-others k e j x old new last st with_it (λ a. (a, (λ same. ne (sym same)), refl)) s;
          lines = λ k. split-core k st.0 (line ∷ []);
        }
    add x zero (y ∷ rest) old new st this none sits = absurd (let l : suc (length rest) ≡ 0 = ap length none in omega (arith, l))
    add x (suc m) [] old new st this none sits = absurd sits
    add x (suc m) (y ∷ rest) old new st this none sits =
        let r = add x m rest st.4 new st.6 this none sits in
        let with_it : Staged old (y ∷ (rest ++ x ∷ [])) r.last = (st.0, st.1, st.2, st.3, st.4, st.5, r.with_it) in
        record {
          last = r.last;
          with_it = with_it;
          own = r.own;
          others = λ k e j ne s. next-others k e j y rest (rest ++ x ∷ []) old new r.last st with_it (λ a. a) (λ other. other)
              (λ empty. no-more k (lines_of st.4 (rest ++ x ∷ []) r.last r.with_it) (lines_of st.4 rest new st.6) ne (r.lines k) empty) (λ q t. r.others k e q ne t) s;
          lines = λ k. behind-both k st.0 st.3 (lines_of st.4 (rest ++ x ∷ []) r.last r.with_it) (lines_of st.4 rest new st.6) (of_core k (line ∷ [])) (r.lines k);
        }

  -- ---- all moves

  -- The lines so far in the order of changes.
  record Serial (first : Joint) (changes : List Written) (core : ℕ → Core) (done : List Line) : Type 0 where
    last : Joint
    staged : Staged first changes last
    sits : (i : ℕ) → i < n → Sits (core i).state i (core i).took first changes last staged
    order : (k : ℕ) → of_core k (lines_of first changes last staged) ≡ of_core k done

  take-serial : (first : Joint) (i : ℕ) (old new : Cores) (done : List Line) → TakesNext i old new → Serial first old.changes old.core done → Serial first new.changes new.core done
  take-serial first i old new done h s = subst (λ ch. Serial first ch new.core done) (sym h.changes) (record {
    last = s.last;
    staged = s.staged;
    sits = at-core (λ k. k < n → Sits (new.core k).state k (new.core k).took first old.changes s.last s.staged) i
        (λ lt. subst (λ (z : Core). Sits z.state i z.took first old.changes s.last s.staged) (sym h.core)
        (sits-take i (old.core i).state (old.core i).took old.changes first s.last s.staged h.change h.rest (s.sits i lt) h.lacked))
        (λ k ne lt. subst (λ (z : Core). Sits z.state k z.took first old.changes s.last s.staged) (sym (h.others k ne)) (s.sits k lt));
    order = s.order;
  })

  say-serial : (first : Joint) (line : Line) (old new : Cores) (done : List Line) → Does limits n line old new → Serial first old.changes old.core done → Serial first new.changes new.core (done ++ line ∷ [])
  say-serial first line old new done h s = ⊎_elim quiet storing h.publishes
    where
      quiet : StoresNone (old.core line.core).state.store (new.core line.core).state.store × (new.changes ≡ old.changes) × ((new.core line.core).took ≡ (old.core line.core).took)
          → Serial first new.changes new.core (done ++ line ∷ [])
      quiet p =
          let r = insert line (old.core line.core).state (new.core line.core).state h.is_core h.is_session h.step (old.core line.core).took old.changes first s.last s.staged p.0 (s.sits line.core h.is_core) in
          subst (λ ch. Serial first ch new.core (done ++ line ∷ [])) (sym p.1) (record {
            last = r.last;
            staged = r.with_it;
            sits = at-core (λ k. k < n → Sits (new.core k).state k (new.core k).took first old.changes r.last r.with_it) line.core
                (λ lt. subst (λ m. Sits (new.core line.core).state line.core m first old.changes r.last r.with_it) (sym p.2) r.own)
                (λ k ne lt. subst (λ (z : Core). Sits z.state k z.took first old.changes r.last r.with_it) (sym (h.others k ne)) (r.others k (old.core k).state (old.core k).took ne (s.sits k lt)));
            order = λ k. r.lines k ∙ ap (λ l. l ++ of_core k (line ∷ [])) (s.order k) ∙ sym (split-core k done (line ∷ []));
          })

      storing : (x : Written) × StoresThis x (old.core line.core).state.store (new.core line.core).state.store × (drop (old.core line.core).took old.changes ≡ [])
          × (new.changes ≡ old.changes ++ x ∷ []) × ((new.core line.core).took ≡ suc (old.core line.core).took) → Serial first new.changes new.core (done ++ line ∷ [])
      storing p =
          let r = add line (old.core line.core).state (new.core line.core).state h.is_core h.is_session h.step p.0 (old.core line.core).took old.changes first s.last s.staged p.1 p.2 (s.sits line.core h.is_core) in
          subst (λ ch. Serial first ch new.core (done ++ line ∷ [])) (sym p.3) (record {
            last = r.last;
            staged = r.with_it;
            sits = at-core (λ k. k < n → Sits (new.core k).state k (new.core k).took first (old.changes ++ p.0 ∷ []) r.last r.with_it) line.core
                (λ lt. subst (λ m. Sits (new.core line.core).state line.core m first (old.changes ++ p.0 ∷ []) r.last r.with_it) (sym p.4) r.own)
                (λ k ne lt. subst (λ (z : Core). Sits z.state k z.took first (old.changes ++ p.0 ∷ []) r.last r.with_it) (sym (h.others k ne)) (r.others k (old.core k).state (old.core k).took ne (s.sits k lt)));
            order = λ k. r.lines k ∙ ap (λ l. l ++ of_core k (line ∷ [])) (s.order k) ∙ sym (split-core k done (line ∷ []));
          })

  go-serial : (first : Joint) (moves : List Move) (old new : Cores) (done : List Line) → Serial first old.changes old.core done → Go limits n IsAny old moves new
      → Serial first new.changes new.core (done ++ lines_in moves)
  go-serial first [] old new done s g =
      subst (λ (z : Cores). Serial first z.changes z.core (done ++ [])) (sym g) (subst (λ l. Serial first old.changes old.core l) (sym (append-nil done)) s)
  go-serial first (Take i ∷ moves) old new done s g = go-serial first moves g.0 new done (take-serial first i old g.0 done g.2 s) g.3
  go-serial first (Say line ∷ moves) old new done s g =
      subst (λ l. Serial first new.changes new.core l) (append_assoc done (line ∷ []) (lines_in moves))
      (go-serial first moves g.0 new (done ++ line ∷ []) (say-serial first line old g.0 done g.2 s) g.3)

  -- ---- the run

  runs-append : (old mid new : Joint) (xs ys : List Line) → Runs (Answers limits) old xs mid → Runs (Answers limits) mid ys new → Runs (Answers limits) old (xs ++ ys) new
  runs-append old mid new [] ys r q = subst (λ (z : Joint). Runs (Answers limits) z ys new) r q
  runs-append old mid new (x ∷ xs) ys r q = (r.0, r.1, runs-append r.0 mid new xs ys r.2 q)

  runs-quiet : (old new : Joint) (lines : List Line) → Quiet old lines new → Runs (Answers limits) old lines new
  runs-quiet old new [] q = q
  runs-quiet old new (line ∷ lines) q = (q.0, q.1.answers, runs-quiet q.0 new lines q.3)

  runs-staged : (changes : List Written) (old new : Joint) (st : Staged old changes new) → Runs (Answers limits) old (lines_of old changes new st) new
  runs-staged [] old new st = runs-quiet old new st.0 st.1
  runs-staged (x ∷ rest) old new st =
      runs-append old st.1 new st.0 (st.3 ∷ lines_of st.4 rest new st.6) (runs-quiet old st.1 st.0 st.2) (st.4, st.5.0.answers, runs-staged rest st.4 new st.6)

  quiet-bare : (old new : Joint) (lines : List Line) → Quiet old lines new → bare new.store ≡ bare old.store
  quiet-bare old new [] q = ap (λ (z : Joint). bare z.store) q
  quiet-bare old new (line ∷ lines) q = quiet-bare q.0 new lines q.3 ∙ bares q.0.store old.store q.2.0 q.2.1 q.2.2

  staged-bare : (changes : List Written) (old new : Joint) (st : Staged old changes new) → bare new.store ≡ bare (with_changes old.store changes)
  staged-bare [] old new st = quiet-bare old new st.0 st.1
  staged-bare (x ∷ rest) old new st =
      staged-bare rest st.4 new st.6
      ∙ bare-changes rest st.4.store (with_change old.store x)
      (bares st.4.store (with_change st.1.store x) st.5.1.0 st.5.1.1 st.5.1.2 ∙ ap (λ (z : Stored). bare (with_change z x)) (quiet-bare old st.1 st.0 st.2))

changes-sessions : (more : List Written) (c : Stored) → (with_changes c more).sessions ≡ c.sessions
changes-sessions [] c = refl
changes-sessions (x ∷ more) c = changes-sessions more (with_change c x)

module _ (limits : Limits) (n : ℕ) (w : World Name) (payloads : List Payload) (outside : ℕ → Outside) where
  first-serial : Serial limits n (joint_start n w payloads outside) [] (at_first w payloads outside).core []
  first-serial = record {
    last = joint_start n w payloads outside;
    staged = ([], refl);
    sits = λ i lt. record {
      l = replicate (n * 16) new_session;
      is = refl;
      count = length-replicate (n * 16) new_session;
      sessions = λ u lu. copies (n * 16) (number i u) new_session ∙ sym (copies 16 u new_session);
      outside = refl;
      sixteen = refl;
    };
    order = λ k. refl;
  }

  pub in-order : (moves : List Move) (cores : Cores) → Go limits n IsAny (at_first w payloads outside) moves cores
      → (lines : List Line) × (joint : Joint) × ((k : ℕ) → of_core k lines ≡ of_core k (lines_in moves))
      × Runs (Answers limits) (joint_start n w payloads outside) lines joint × IsJointOf n w payloads cores joint
  in-order moves cores g =
      let s = go-serial limits n (joint_start n w payloads outside) moves (at_first w payloads outside) cores [] first-serial g in
      let at = λ (i : ℕ) (lt : i < n). sits-last limits n i (cores.core i).state (cores.core i).took cores.changes (joint_start n w payloads outside) s.last s.staged (s.sits i lt) in (
        lines_of limits n (joint_start n w payloads outside) cores.changes s.last s.staged,
        s.last,
        s.order,
        runs-staged limits n cores.changes (joint_start n w payloads outside) s.last s.staged,
        record {
          all = parts s.last.store (with_changes (start w payloads) cores.changes)
              (staged-bare limits n cores.changes (joint_start n w payloads outside) s.last s.staged
              ∙ bare-changes cores.changes (joint_start n w payloads outside).store (start w payloads) refl);
          each = λ i lt. parts s.last.store (with_changes (cores.core i).state.store (drop (cores.core i).took cores.changes)) (ap bare (at i lt).is);
          sessions = λ i u lt lu. ap (λ (z : Stored). session z (number i u)) (at i lt).is ∙ (at i lt).sessions u lu
              ∙ ap (λ (z : List Session). get_or z u new_session) (changes-sessions (drop (cores.core i).took cores.changes) (cores.core i).state.store);
          outsides = λ i lt. (at i lt).outside;
        },
      )
