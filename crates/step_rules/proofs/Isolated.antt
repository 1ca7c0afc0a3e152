-- A session gets the same replies in two runs in which its turns are alike.
use Rattle.std.proofs.Common.{◌≡◌, ◌<◌, ℕ, Bool, true, false, List, [], ◌∷◌, cond, nat_eq, refl, sym, ap, ◌∙◌, subst, true≢false}
use Rattle.std.proofs.lemmas.Bool.{eqb-true, eq-eqb}
use Rattle.std.specs.List.{AllZip}
use Rattle.change_rules.specs.declared.Limits.{Limits}
use Rattle.step_rules.specs.State.{State, at_start, base_of, pending_of}
use Rattle.step_rules.specs.Step.{CommandStep}
use Rattle.step_rules.specs.Turns.{Turn, AreTurns, turns_of}
use Rattle.step_rules.specs.Isolation.{AreAlike, IsAnsweredAlike, IsIsolated, master_in_front}
use Rattle.step_rules.proofs.Sessions.{IsPlaced, start-placed, shape-placed, shape-others, command-shape}
use Rattle.step_rules.proofs.Own.{OwnStep, own-once}
use Rattle.step_rules.proofs.OwnSteps.{command-own, own-elsewhere, own-other, taking-tests}

module _ (limits : Limits) (s : ℕ) (lt : s < 16) where
  -- the session has the same in both
  abbrev HasSame : State → State → Type 0
  HasSame st u = (base_of u.store s ≡ base_of st.store s) × (pending_of u.store s ≡ pending_of st.store s)

  -- two turns of the session
  pair : (t v : Turn) → IsPlaced t.before.store → IsPlaced v.before.store → HasSame t.before v.before
      → CommandStep limits t.before s t.verb t.reply t.after → CommandStep limits v.before s v.verb v.reply v.after → AreAlike limits s t v → IsAnsweredAlike t v × HasSame t.after v.after
  pair t v ht hv same a c alike =
      let first = command-own limits t.before s ht lt t.reply alike.own.0 t.after t.verb a in
      let other = command-own limits v.before s hv lt v.reply alike.own.1 v.after v.verb c in
      let moved = subst (λ x. OwnStep limits (base_of t.before.store s) (pending_of t.before.store s) v.before.store.stored (master_in_front v.after) x v.reply (base_of v.after.store s) (pending_of v.after.store s)) alike.verb
      (subst (λ x. OwnStep limits (base_of t.before.store s) x v.before.store.stored (master_in_front v.after) v.verb v.reply (base_of v.after.store s) (pending_of v.after.store s)) same.1
      (subst (λ x. OwnStep limits x (pending_of v.before.store s) v.before.store.stored (master_in_front v.after) v.verb v.reply (base_of v.after.store s) (pending_of v.after.store s)) same.0 other)) in
      let over = own-elsewhere limits (base_of t.before.store s) (pending_of t.before.store s) v.before.store.stored t.before.store.stored (master_in_front v.after) t.verb v.reply
      (base_of v.after.store s) (pending_of v.after.store s) alike.stored moved in
      let by = own-other limits (base_of t.before.store s) (pending_of t.before.store s) t.before.store.stored (master_in_front v.after) (master_in_front t.after) t.verb v.reply
      (base_of v.after.store s) (pending_of v.after.store s) (λ takes none. alike.master takes (taking-tests limits t.before.store s t.verb takes ∙ none)) over in
      let once = own-once limits (base_of t.before.store s) (pending_of t.before.store s) t.before.store.stored (master_in_front t.after) t.reply v.reply
      (base_of t.after.store s) (base_of v.after.store s) (pending_of t.after.store s) (pending_of v.after.store s) t.verb first by in
      (once.0, (once.1, once.2))

  -- a turn of another session changes nothing of this one
  passed : (t : Turn) (st : State) → IsPlaced st.store → t.before ≡ st → CommandStep limits t.before t.session t.verb t.reply t.after → nat_eq t.session s ≡ false
      → IsPlaced t.after.store × HasSame st t.after
  passed t st h e step other =
      let placed : IsPlaced t.before.store = subst (λ (z : State). IsPlaced z.store) (sym e) h in
      let shape = command-shape limits t.before t.session placed t.verb t.reply t.after step in
      let kept = shape-others t.before.store t.session t.after.store placed shape s (λ f. true≢false (sym (eq-eqb t.session s (sym f)) ∙ other)) in (
        shape-placed t.before.store t.session t.after.store placed shape,
        (kept.0 ∙ ap (λ (z : State). base_of z.store s) e, kept.1 ∙ ap (λ (z : State). pending_of z.store s) e),
      )

  -- what is shown of the turns of a run
  abbrev From : List Turn → Type 0
  From ts =
      (us : List Turn) (st u : State) → IsPlaced st.store → IsPlaced u.store → HasSame st u → AreTurns limits st ts → AreTurns limits u us
      → AllZip (AreAlike limits s) (turns_of s ts) (turns_of s us) → AllZip IsAnsweredAlike (turns_of s ts) (turns_of s us)

  none-left : (vs : List Turn) → AllZip (AreAlike limits s) [] vs → AllZip IsAnsweredAlike [] vs
  none-left [] h = tt
  none-left (v ∷ vs) h = absurd h

  -- a turn of the session finds its partner in the other run
  partner : (t : Turn) (ts us : List Turn) (st u : State) → From ts → nat_eq t.session s ≡ true → IsPlaced st.store → IsPlaced u.store → HasSame st u
      → AreTurns limits st (t ∷ ts) → AreTurns limits u us → AllZip (AreAlike limits s) (t ∷ turns_of s ts) (turns_of s us) → AllZip IsAnsweredAlike (t ∷ turns_of s ts) (turns_of s us)
  partner t ts [] st u rec own h k same a c alike = absurd alike
  partner t ts (v ∷ us) st u rec own h k same a c alike =
      by_test (nat_eq v.session s) refl alike
      (λ other rest. let p = passed v u k c.0 c.1 other in
      partner t ts us st v.after rec own h p.0 (p.1.0 ∙ same.0, p.1.1 ∙ same.1) a c.2 rest)
    where
      by_test : (b : Bool) → nat_eq v.session s ≡ b → AllZip (AreAlike limits s) (t ∷ turns_of s ts) (cond b (v ∷ turns_of s us) (turns_of s us))
          → (nat_eq v.session s ≡ false → AllZip (AreAlike limits s) (t ∷ turns_of s ts) (turns_of s us) → AllZip IsAnsweredAlike (t ∷ turns_of s ts) (turns_of s us))
          → AllZip IsAnsweredAlike (t ∷ turns_of s ts) (cond b (v ∷ turns_of s us) (turns_of s us))
      by_test false e z skip = skip e z
      by_test true e z skip =
          let ht : IsPlaced t.before.store = subst (λ (x : State). IsPlaced x.store) (sym a.0) h in
          let hv : IsPlaced v.before.store = subst (λ (x : State). IsPlaced x.store) (sym c.0) k in
          let steps = subst (λ n. CommandStep limits t.before n t.verb t.reply t.after) (eqb-true t.session s own) a.1 in
          let stepv = subst (λ n. CommandStep limits v.before n v.verb v.reply v.after) (eqb-true v.session s e) c.1 in
          let both = pair t v ht hv (
            ap (λ (x : State). base_of x.store s) c.0 ∙ same.0 ∙ sym (ap (λ (x : State). base_of x.store s) a.0),
            ap (λ (x : State). pending_of x.store s) c.0 ∙ same.1 ∙ sym (ap (λ (x : State). pending_of x.store s) a.0),
          ) steps stepv z.0 in (
            both.0,
            rec us t.after v.after
                (shape-placed t.before.store t.session t.after.store ht (command-shape limits t.before t.session ht t.verb t.reply t.after a.1))
                (shape-placed v.before.store v.session v.after.store hv (command-shape limits v.before v.session hv v.verb v.reply v.after c.1))
                both.1 a.2 c.2 z.1,
          )

  from-all : (ts : List Turn) → From ts
  from-all [] us st u h k same a c alike = none-left (turns_of s us) alike
  from-all (t ∷ ts) us st u h k same a c alike =
      by_test (nat_eq t.session s) refl alike (from-all ts)
    where
      by_test : (b : Bool) → nat_eq t.session s ≡ b → AllZip (AreAlike limits s) (cond b (t ∷ turns_of s ts) (turns_of s ts)) (turns_of s us) → From ts
          → AllZip IsAnsweredAlike (cond b (t ∷ turns_of s ts) (turns_of s ts)) (turns_of s us)
      by_test true e z rec = partner t ts us st u rec e h k same a c z
      by_test false e z rec =
          let p = passed t st h a.0 a.1 e in
          rec us t.after u p.0 k (same.0 ∙ sym p.1.0, same.1 ∙ sym p.1.1) a.2 c z

-- in two runs from one world
pub isolated : IsIsolated
isolated limits s w p q room space mirrors others ts us lt a c alike =
    from-all limits s lt ts us (at_start w p room mirrors) (at_start w q space others) (start-placed w p) (start-placed w q) (refl, refl) a c alike
