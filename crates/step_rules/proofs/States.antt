-- Sessions on stored worlds, through changes.
use Rattle.std.proofs.Common.{◌≡◌, ◌≤◌, ◌+◌, ℕ, zero, suc, List, [], ◌∷◌, ◌++◌, length, refl, sym, ap, subst, subst₂, ◌∙◌, ⊎_elim, append-nil, arith, get_or, set, length-append, length-set, zero-le, le_refl, eq-or-lt_of_le}
use Rattle.std.proofs.Math.Seq.{get_or-append_seam}
use Rattle.id_groups.specs.Name.{Name}
use Rattle.commit_graph.specs.World.{Row, World, IsNamedWorld, GrowsMaster, empty_world, with_pending}
use Rattle.commit_graph.proofs.Naming.{grows-self, grows-on}
use Rattle.batch_codec.specs.Payload.{Payload}
use Rattle.step_rules.specs.State.{Stored, Session, IsStore, IsSession, new_session, start, session, world_at, with_session, on_newest, with_stored}
use Rattle.step_rules.proofs.Sessions.{newest-now, world_at-stored, copies}

-- a write of an element that has P keeps P of each
set-keeps : (P : Session → Type 0) (xs : List Session) (i : ℕ) (x d : Session) → P x → ((k : ℕ) → P (get_or xs k d)) → (k : ℕ) → P (get_or (set xs i x) k d)
set-keeps P [] i x d p h k = h k
set-keeps P (y ∷ xs) zero x d p h zero = p
set-keeps P (y ∷ xs) zero x d p h (suc k) = h (suc k)
set-keeps P (y ∷ xs) (suc i) x d p h zero = h zero
set-keeps P (y ∷ xs) (suc i) x d p h (suc k) = set-keeps P xs i x d p (λ j. h (suc j)) k

-- a world with no pending rows is the world
pub alone : (w : World Name) → IsNamedWorld w → IsNamedWorld (with_pending w [])
alone w h = subst (λ l. IsNamedWorld (record { master = w.master; others = l })) (sym (append-nil w.others)) h

pub start-state : (w : World Name) (payloads : List Payload) → IsNamedWorld w → IsStore (start w payloads)
start-state w payloads h = record {
  worlds = first;
  grows = master;
  sessions = λ s. subst (IsSession (start w payloads)) (sym (copies 16 s new_session)) (record { base = zero-le; view = alone w h });
  sixteen = refl;
}
  where
    first : (i : ℕ) → i ≤ 0 → IsNamedWorld (world_at (start w payloads) i)
    first zero le = h
    first (suc i) le = absurd (omega (arith, le))

    master : (i j : ℕ) → i ≤ j → j ≤ 0 → GrowsMaster (world_at (start w payloads) i) (world_at (start w payloads) j)
    master zero zero le bound = grows-self w
    master (suc i) zero le bound = absurd (omega (arith, le))
    master i (suc j) le bound = absurd (omega (arith, bound))

-- a session is changed to one that works on a world that was stored, and sees a world
pub with_session-state : (st : Stored) (s : ℕ) (x : Session) → IsStore st → IsSession st x → IsStore (with_session st s x)
with_session-state st s x h hx = record {
  worlds = h.worlds;
  grows = h.grows;
  sessions = λ k. moved (get_or (set st.sessions s x) k new_session) (set-keeps (IsSession st) st.sessions s x new_session hx h.sessions k);
  sixteen = length-set st.sessions s x ∙ h.sixteen;
}
  where
    moved : (y : Session) → IsSession st y → IsSession (with_session st s x) y
    moved y g = record { base = g.base; view = g.view }

past-stored : (st : Stored) → length (st.past ++ st.stored ∷ []) ≡ length st.past + 1
past-stored st = length-append st.past (st.stored ∷ [])

pub at-newest : (st : Stored) (new : World Name) (payload : Payload) (i : ℕ) → i ≡ length (st.past ++ st.stored ∷ []) → world_at (with_stored st new payload) i ≡ new
at-newest st new payload i e = ap (world_at (with_stored st new payload)) e ∙ get_or-append_seam (st.past ++ st.stored ∷ []) new [] empty_world

-- the world stored now
pub stored-named : (st : Stored) → IsStore st → IsNamedWorld st.stored
stored-named st h = subst IsNamedWorld (newest-now st) (h.worlds (length st.past) (le_refl _))

-- how each world stands to the later ones goes on to a new one
later : (R : World Name → World Name → Type 0) (st : Stored) (new : World Name) (payload : Payload) → R new new → ((i : ℕ) → i ≤ length st.past → R (world_at st i) new)
    → ((i j : ℕ) → i ≤ j → j ≤ length st.past → R (world_at st i) (world_at st j))
    → (i j : ℕ) → i ≤ j → j ≤ length (st.past ++ st.stored ∷ []) → R (world_at (with_stored st new payload) i) (world_at (with_stored st new payload) j)
later R st new payload self on h i j le bound =
    let size = past-stored st in
    ⊎_elim
    (λ e. ⊎_elim
    (λ f. subst₂ R (sym (at-newest st new payload i (f ∙ e))) (sym (at-newest st new payload j e)) self)
    (λ lt. let at : i ≤ length st.past = omega (arith, size, e, lt) in subst₂ R (sym (world_at-stored st new payload i at)) (sym (at-newest st new payload j e)) (on i at))
    (eq-or-lt_of_le le))
    (λ lt. let at : j ≤ length st.past = omega (arith, size, lt) in let at_i : i ≤ length st.past = omega (arith, le, at) in
    subst₂ R (sym (world_at-stored st new payload i at_i)) (sym (world_at-stored st new payload j at)) (h i j le at))
    (eq-or-lt_of_le bound)

pub with_stored-state : (st : Stored) (new : World Name) (payload : Payload) → IsStore st → IsNamedWorld new → GrowsMaster st.stored new → IsStore (with_stored st new payload)
with_stored-state st new payload h hn grown = record {
  worlds = λ i le. ⊎_elim
      (λ e. subst IsNamedWorld (sym (at-newest st new payload i e)) hn)
      (λ lt. let at : i ≤ length st.past = (let e = past-stored st in omega (arith, e, lt)) in subst IsNamedWorld (sym (world_at-stored st new payload i at)) (h.worlds i at))
      (eq-or-lt_of_le le);
  grows = later GrowsMaster st new payload (grows-self new)
      (λ i le. grows-on (world_at st i) st.stored new (subst (GrowsMaster (world_at st i)) (newest-now st) (h.grows i (length st.past) le (le_refl _))) grown) h.grows;
  sessions = λ s. let g = h.sessions s in record {
    base = (let e = past-stored st in let b = g.base in omega (arith, e, b));
    view = subst (λ w. IsNamedWorld (with_pending w (session st s).pending)) (sym (world_at-stored st new payload (session st s).base g.base)) g.view;
  };
  sixteen = h.sixteen;
}

-- a session goes to the newest world
pub on_newest-state : (st : Stored) (s : ℕ) (rows : List (Row Name)) → IsStore st → IsNamedWorld (with_pending st.stored rows) → IsStore (on_newest st s rows)
on_newest-state st s rows h hw = with_session-state st s (record { base = length st.past; pending = rows }) h
    (record { base = le_refl _; view = subst (λ w. IsNamedWorld (with_pending w rows)) (sym (newest-now st)) hw })
