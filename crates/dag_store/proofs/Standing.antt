-- A store whose session is changed is kept, and stands for the state with that session.
use Rattle.std.proofs.Common.{◌≡◌, ◌<◌, ⊎_elim, ℕ, zero, suc, List, [], ◌∷◌, length, refl, sym, ap, subst, ◌∙◌, arith, get_or, set, length-set}
use Rattle.std.proofs.lemmas.List.{get_or-set_same, get_or-set_other}
use Rattle.std.proofs.lemmas.Bool.{cases_eq}
use Rattle.gated_log.specs.Held.{Held}
use Rattle.change_rules.specs.declared.Limits.{Limits}
use Rattle.payload_tables.specs.Kept.{PlainTables}
use Rattle.step_rules.specs.State.{Stored, Session, IsSession, new_session, with_session}
use Rattle.step_rules.proofs.States.{with_session-state}
use Rattle.store_plans.specs.Sessions.{PlainSession, IsSessionOf, IsSessionFor}
use Rattle.dag_store.specs.Kept.{PlainStore, IsKept, no_session, session_at, sixteen}
use Rattle.dag_store.specs.Stands.{Stands}

-- which element stands at a place doesn't hang on what is answered beyond the end
same-at : {X : Type 0} (xs : List X) (i : ℕ) (d e : X) → i < length xs → get_or xs i d ≡ get_or xs i e
same-at [] i d e lt = absurd (omega (arith, lt))
same-at (x ∷ xs) zero d e lt = refl
same-at (x ∷ xs) (suc i) d e lt = same-at xs i d e (omega (arith, lt))

-- the session that was indexed
pub session-there : (sessions : List PlainSession) (s at : ℕ) (x d : PlainSession) → s < sixteen → length sessions ≡ sixteen → at ≡ s → x ≡ get_or sessions at d → x ≡ session_at sessions s
session-there sessions s at x d small count is e = e ∙ ap (λ n. get_or sessions n d) is ∙ same-at sessions s d no_session (omega (arith, small, count))

-- what is related place by place stays so where one place of both is changed
set-both : {X Y : Type 0} (R : X → Y → Type 0) (xs : List X) (ys : List Y) (i : ℕ) (x dx : X) (y dy : Y) → R x y → i < length xs → i < length ys
    → ((k : ℕ) → k < sixteen → R (get_or xs k dx) (get_or ys k dy)) → (k : ℕ) → k < sixteen → R (get_or (set xs i x) k dx) (get_or (set ys i y) k dy)
set-both R xs ys i x dx y dy r bx by_ h k lt = ⊎_elim
    (λ (e : k ≡ i). subst (λ j. R (get_or (set xs i x) j dx) (get_or (set ys i y) j dy)) (sym e)
    (subst (λ a. R a (get_or (set ys i y) i dy)) (sym (get_or-set_same xs i x dx bx)) (subst (R x) (sym (get_or-set_same ys i y dy by_)) r)))
    (λ (n : k ≡ i → ⊥). subst (λ a. R a (get_or (set ys i y) k dy)) (sym (get_or-set_other xs i k x dx n)) (subst (R (get_or xs k dx)) (sym (get_or-set_other ys i k y dy n)) (h k lt)))
    (cases_eq k i)

-- a store with another session in one place
pub kept-with : (log : Held) (tables : PlainTables) (sessions : List PlainSession) (limits : Limits) (k : IsKept log tables sessions limits) (s : ℕ) (x : PlainSession) → s < sixteen → IsSessionOf k.added x
    → IsKept log tables (set sessions s x) limits
kept-with log tables sessions limits k s x small of = record {
  added = k.added;
  tables_of = k.tables_of;
  stand = k.stand;
  within = k.within;
  texts = k.texts;
  count = length-set sessions s x ∙ k.count;
  each = λ i lt. ⊎_elim
      (λ (e : i ≡ s). subst (λ j. IsSessionOf k.added (session_at (set sessions s x) j)) (sym e) (subst (IsSessionOf k.added) (sym (get_or-set_same sessions s x no_session (let c = k.count in omega (arith, small, c)))) of))
      (λ (n : i ≡ s → ⊥). subst (IsSessionOf k.added) (sym (get_or-set_other sessions s i x no_session n)) (k.each i lt))
      (cases_eq i s);
  limits_fit = k.limits_fit;
  limit = k.limit;
}

-- it stands for the state with that session
pub stands-with : (began : ℕ) (kept : PlainStore) (st : Stored) (s : ℕ) (x : PlainSession) (y : Session) → s < sixteen → length kept.sessions ≡ sixteen → Stands began kept st → IsSession st y → IsSessionFor began st x y
    → Stands began (record { log = kept.log; sessions = set kept.sessions s x; limits = kept.limits; cache = kept.cache }) (with_session st s y)
stands-with began kept st s x y small count h good for = record {
  state = with_session-state st s y h.state good;
  texts = h.texts;
  count = h.count;
  worlds = h.worlds;
  sessions = λ k lt. again (get_or (set kept.sessions s x) k no_session) (get_or (set st.sessions s y) k new_session)
      (set-both (IsSessionFor began st) kept.sessions st.sessions s x no_session y new_session for (omega (arith, small, count)) (let e = h.state.sixteen in omega (arith, small, e)) h.sessions k lt);
}
  where
    again : (a : PlainSession) (b : Session) → IsSessionFor began st a b → IsSessionFor began (with_session st s y) a b
    again a b o = record { payloads = o.payloads; pending = o.pending }
