-- Mirrors whose masters begin with the cloned commits at the start of a run do so at each pull.
use Rattle.std.proofs.Common.{◌≡◌, ◌<◌, ◌≤◌, ◌⊎◌, ⊎_elim, inl, inr, ℕ, Bool, true, false, List, [], ◌∷◌, ◌++◌, length, None, MatchOption, refl, sym, ap, subst, ◌∙◌, arith, length-append}
use Rattle.std.specs.Bool.{MatchBool}
use Rattle.std.specs.List.{AllByRecursion}
use Rattle.std.proofs.lemmas.List.{length-map}
use Rattle.id_groups.specs.Lists.{IsIn}
use Rattle.id_groups.specs.Name.{Name}
use Rattle.commit_graph.specs.World.{Row, World, rows_of}
use Rattle.commit_graph.proofs.Down.{in-left, in-right}
use Rattle.commit_graph.proofs.Naming.{each, all-each}
use Rattle.line_io.specs.Lines.{is_silent, is_too_long}
use Rattle.batch_codec.specs.Payload.{Payload}
use Rattle.batch_codec.specs.Grammar.{IsPayload, IsFlush, IsClone, IsWholePayload}
use Rattle.change_rules.specs.declared.Limits.{Limits}
use Rattle.change_rules.specs.Standard.{AreLimits}
use Rattle.change_rules.specs.Tables.{cloned_count, other_names_in}
use Rattle.change_rules.specs.Holding.{HoldAs, HoldPayloads}
use Rattle.change_rules.specs.Lawful.{AreLawful}
use Rattle.change_rules.proofs.Changes.{count-last, last-of}
use Rattle.remote_rules.specs.Mirror.{Mirror}
use Rattle.remote_rules.specs.Honest.{IsHonest, IsSoundMirror}
use Rattle.remote_rules.specs.Serving.{AllServe, BeginsWith}
use Rattle.step_rules.specs.State.{State, Stored, IsState, IsHeld, at_start}
use Rattle.step_rules.specs.Reply.{Reply, LongLine}
use Rattle.step_rules.specs.Verb.{Verb, IsVerb, Clone, Pull}
use Rattle.step_rules.specs.Step.{CommandStep}
use Rattle.step_rules.proofs.Held.{step-held}
use Rattle.step_rules.proofs.Kept.{start-is, step-state}
use Rattle.step_rules.proofs.Sessions.{Shape, command-shape}
use Rattle.run_rules.specs.Grammar.{SpellsCommand}
use Rattle.run_rules.specs.Premises.{AllBegin, BeginAtPulls, HasCommand}
use Rattle.run_rules.specs.Run.{Run, Step, Commands, IsNoCommand, IsUnread}
use Rattle.run_rules.proofs.Begun.{Begun, MayBeCloned, step-begun}
use Rattle.run_rules.proofs.Runs.{spelled-verb}
use Rattle.run_rules.proofs.Starts.{cloned-least, start-held}

-- ---- the last row never goes
-- what a payload stores has a commit
payload-some : (p : Payload) → IsPayload p → (0 < p.after) ⊎ (0 < length p.other_names)
payload-some p h = ⊎_elim (λ (f : IsFlush p). f.something) (λ o. ⊎_elim (λ (c : IsClone p). inl c.something) (λ (w : IsWholePayload p). w.something) o) h.by_kind

last-whole : (before payloads : List Payload) (p : Payload) → AreLawful before (payloads ++ p ∷ []) → IsPayload p
last-whole before [] p h = h.0.whole
last-whole before (q ∷ payloads) p h = last-whole (before ++ q ∷ []) payloads p h.1

pub holds-some : (payloads : List Payload) (p : Payload) (w : World Name) → HoldPayloads (payloads ++ p ∷ []) w → 0 < length (rows_of w)
holds-some payloads p w h =
    let master : p.after ≡ length w.master = sym (count-last 0 payloads p) ∙ h.stand.count in
    let others : length p.other_names ≡ length w.others =
    ap (λ o. length (other_names_in o)) (sym (last-of None payloads p)) ∙ ap length h.stand.names ∙ length-map w.others (λ (r : Row Name). r.name) in
    let all = length-append w.master w.others in
    ⊎_elim (λ some. omega (arith, some, master, all)) (λ some. omega (arith, some, others, all))
    (payload-some p (last-whole [] payloads p h.lawful))

-- where nothing is stored, nothing was
none-before : (st : Stored) (s : ℕ) (now : Stored) → HoldPayloads now.payloads now.stored → Shape st s now → length (rows_of now.stored) ≡ 0 → length (rows_of st.stored) ≡ 0
none-before st s now hold (inl e) none = subst (λ (z : Stored). length (rows_of z.stored) ≡ 0) e none
none-before st s now hold (inr (inl (x, le, e))) none = subst (λ (z : Stored). length (rows_of z.stored) ≡ 0) e none
none-before st s now hold (inr (inr (new, payload, rows, e))) none =
    absurd (let some = holds-some st.payloads payload new (subst (λ (z : Stored). HoldPayloads z.payloads z.stored) e hold) in
    let zero : length (rows_of new) ≡ 0 = subst (λ (z : Stored). length (rows_of z.stored) ≡ 0) e none in omega (arith, some, zero))

-- ---- from line to line
-- what a state of the run has: where its lines clone and nothing is stored, the mirrors may be cloned
record HasBegun (limits : Limits) (clones : Type 0) (st : State) : Type 0 where
  state : IsState st
  held : IsHeld limits st.store
  begun : Begun st.store st.outside.mirrors
  choice : clones → length (rows_of st.store.stored) ≡ 0 → MayBeCloned st.outside.mirrors

module _ (limits : Limits) (fair : AreLimits limits) (clones : Type 0) where
  command-begun : (a b : State) (s : ℕ) (verb : Verb) (reply : Reply) → (verb ≡ Clone → clones) → HasBegun limits clones a → IsVerb verb → CommandStep limits a s verb reply b → HasBegun limits clones b
  command-begun a b s verb reply may h v step =
      let held = step-held limits fair a s h.state h.held verb reply b step in
      let on = step-begun limits a s h.state clones h.begun h.choice verb reply b may step in
      record {
        state = step-state limits a s h.state verb reply b v step;
        held = held;
        begun = on.0;
        choice = λ has none. on.1 has (none-before a.store s b.store held.hold (command-shape limits a s ((λ k. (h.state.store.sessions k).base), h.state.store.sixteen) verb reply b step) none);
      }

  line-begun : (a b : State) (line : List ℕ) (reply : Reply) → ((s : ℕ) → SpellsCommand line s Clone → clones) → HasBegun limits clones a → Step limits a line reply b → HasBegun limits clones b
  line-begun a b line reply may h step = by_test (is_too_long line) step
    where
      by_test : (long : Bool) → MatchBool long ((reply ≡ LongLine) × (b ≡ a)) (Commands limits a line reply b ⊎ (IsNoCommand a line reply b ⊎ IsUnread a line reply b)) → HasBegun limits clones b
      by_test true g = subst (HasBegun limits clones) (sym g.1) h
      by_test false (inl c) = command-begun a b c.0 c.1 reply (λ e. may c.0 (subst (SpellsCommand line c.0) e c.2)) h (spelled-verb c.2.0 c.1 c.2.2) c.3
      by_test false (inr (inl n)) = subst (HasBegun limits clones) (sym n.2) h
      by_test false (inr (inr u)) = subst (HasBegun limits clones) (sym u.2) h

  run-begun : (lines : List (List ℕ)) → ((line : List ℕ) (s : ℕ) → IsIn line lines → SpellsCommand line s Clone → clones) → (a b : State) (replies : List Reply) → HasBegun limits clones a → Run limits a lines replies b → HasBegun limits clones b
  run-begun [] may a b replies h run = subst (HasBegun limits clones) (sym run.1) h
  run-begun (line ∷ lines) may a b replies h run =
      by_test (is_silent line) run (λ g. run-begun lines later a b replies h g)
      (λ g. run-begun lines later g.2 b g.1 (line-begun a g.2 line g.0 (λ s. may line s (inl refl)) h g.4) g.5)
    where
      later : (l : List ℕ) (s : ℕ) → IsIn l lines → SpellsCommand l s Clone → clones
      later l s there = may l s (inr there)

      by_test : (silent : Bool)
          → MatchBool silent (Run limits a lines replies b)
          ((reply : Reply) × (more : List Reply) × (mid : State) × (replies ≡ reply ∷ more) × Step limits a line reply mid × Run limits mid lines more b)
          → (Run limits a lines replies b → HasBegun limits clones b)
          → (((reply : Reply) × (more : List Reply) × (mid : State) × (replies ≡ reply ∷ more) × Step limits a line reply mid × Run limits mid lines more b) → HasBegun limits clones b) → HasBegun limits clones b
      by_test true g f k = f g
      by_test false g f k = k g

-- ---- from the start
module _ (limits : Limits) (log : List ℕ) (w : World Name) (payloads : List Payload) (room : ℕ) (mirrors : List Mirror) (lines : List (List ℕ)) (fair : AreLimits limits) (hold : HoldAs limits.log log payloads w)
    (serve : length (rows_of w) ≡ 0 → AllServe (cloned_count payloads) w mirrors) where
  no-master : length (rows_of w) ≡ 0 → length w.master ≡ 0
  no-master none = let l = length-append w.master w.others in omega (arith, none, l)

  settled-there : length (rows_of w) ≡ 0 → (length mirrors ≤ 1) ⊎ AllByRecursion (λ (m : Mirror). m.settled ≡ true) mirrors
  settled-there none = ⊎_elim (λ le. inl le) (λ alike. inr alike.0) ((serve none).first_clone (no-master none))

  begun-sound : AllBegin (cloned_count payloads) w mirrors lines → AllByRecursion IsSoundMirror mirrors
  begun-sound b = all-each IsSoundMirror mirrors (λ m i. let s = each (BeginsWith (cloned_count payloads) w) mirrors b.each m i in subst (λ o. MatchOption o (Unit {0}) (IsHonest m.cloned)) (sym s.1) s.2)

  start-begun : AllBegin (cloned_count payloads) w mirrors lines → HasBegun limits (HasCommand Clone lines) (at_start w payloads room mirrors)
  start-begun b = record {
    state = start-is w payloads room mirrors hold.hold.world (begun-sound b);
    held = start-held limits log w payloads fair hold;
    begun = (cloned-least payloads w hold.hold, b.each);
    choice = λ has none. ⊎_elim (λ le. inl le) (λ order. ⊎_elim (λ le. inl le) (λ settled. inr (settled, order)) (settled-there none)) (b.first_clone has none);
  }

  in-done : (done more : List (List ℕ)) (line l : List ℕ) → lines ≡ done ++ line ∷ more → IsIn l done → IsIn l lines
  in-done done more line l split there = subst (IsIn l) (sym split) (in-left l done (line ∷ more) there)

  pub begin-at-pulls : (HasCommand Pull lines → AllBegin (cloned_count payloads) w mirrors lines) → BeginAtPulls limits (at_start w payloads room mirrors) lines
  begin-at-pulls begin done more line s replies now split spells run =
      let b = begin (line, s, subst (IsIn line) (sym split) (in-right line done (line ∷ more) (inl refl)), spells) in
      (run-begun limits fair (HasCommand Clone lines) done (λ l k there clones. (l, k, in-done done more line l split there, clones)) (at_start w payloads room mirrors) now replies (start-begun b) run).begun.1
