-- Logs that have a name for each commit go on so.
use Rattle.std.proofs.Common.{◌≡◌, ◌<◌, ◌≤◌, ◌+◌, not, ℕ, Bool, true, false, inl, inr, ⊎_elim, List, [], ◌∷◌, ◌++◌, length, map, nat_lt, nat_eq, drop, Option, Some, None, refl, sym, ap, ◌∙◌, subst, arith, MatchOption, zero-le, true≢false, eq-or-lt_of_le, ◌-◌, append-nil, length-append, le_refl}
use Rattle.std.proofs.lemmas.Bool.{ltb-true, lt-ltb}
use Rattle.std.proofs.lemmas.List.{map-append, length-map, length-drop}
use Rattle.std.proofs.lemmas.Grind.{flat_map-append}
use Rattle.std.specs.Bool.{MatchBool}
use Rattle.std.specs.List.{range_with_len}
use Rattle.assign_ids.proofs.NumberLemmas.{same-exact, same-self}
use Rattle.id_groups.specs.Lists.{IsIn, is_in}
use Rattle.id_groups.specs.Name.{Name, same_name}
use Rattle.id_groups.proofs.Listing.{any-in, in-any, found, there, and_true, both_true, not_true}
use Rattle.commit_graph.specs.World.{World, GrowsMaster, names_of}
use Rattle.commit_graph.proofs.Down.{in-left, in-right}
use Rattle.segment_codec.proofs.Tables.{le_or_lt}
use Rattle.batch_codec.specs.Payload.{Payload, Known}
use Rattle.change_rules.specs.declared.Limits.{Limits}
use Rattle.change_rules.specs.Tables.{known_in}
use Rattle.change_rules.specs.Lazy.{is_lazy, has_lazy}
use Rattle.change_rules.specs.Change.{flush_change, known_from}
use Rattle.change_rules.specs.Strip.{stripped}
use Rattle.change_rules.proofs.Cloned.{in-range}
use Rattle.step_rules.specs.declared.Refusal.{Refusal}
use Rattle.step_rules.specs.declared.Refusal.TheVariants as why
use Rattle.step_rules.specs.State.{Stored, IsStore, base_of, session}
use Rattle.step_rules.proofs.Sessions.{newest-now}
use Rattle.step_rules.specs.Verb.{Verb, Add, Flush, Reload, Discard, Query, Count, IdOf, Status, Levels, Clone, Pull, Strip, CountMirrors, Drop}
use Rattle.step_rules.specs.Reply.{Reply, Listed}
use Rattle.step_rules.specs.Step.{IsTold, UnlessRefused, IsRefused}
use Rattle.step_rules.specs.Tests.{first_some, refuse_if, refused_first, tests}
use Rattle.step_rules.specs.Worlds.{has, with_added, after_flush, flush_of, same_world}
use Rattle.step_rules.specs.State.{view_of}
use Rattle.step_rules.specs.Plain.{HasAllNames, PlainAnswers, PlainStep}

-- the ids that payloads have names for
abbrev ids : List Payload → List ℕ
ids payloads = map (λ (k : Known). k.id) (known_in payloads)

-- each commit of the world has one
named-id : (payloads : List Payload) (w : World Name) → has_lazy payloads w ≡ false → (id : ℕ) → id < length w.master → IsIn id (ids payloads)
named-id payloads w none id lt = by_test (is_in nat_eq id (ids payloads)) refl
  where
    by_test : (b : Bool) → is_in nat_eq id (ids payloads) ≡ b → IsIn id (ids payloads)
    by_test true e = found nat_eq same-exact same-self id (ids payloads) e
    by_test false e =
        let lazy = both_true (nat_lt id (length w.master)) (not (is_in nat_eq id (ids payloads))) (lt-ltb id (length w.master) lt) (ap not e) in
        absurd (true≢false (sym (in-any (is_lazy payloads w) (range_with_len 0 (length w.master)) id (in-range 0 (length w.master) id zero-le (omega (arith, lt))) lazy) ∙ none))

all-named : (payloads : List Payload) (w : World Name) → ((id : ℕ) → id < length w.master → IsIn id (ids payloads)) → has_lazy payloads w ≡ false
all-named payloads w h = by_test (has_lazy payloads w) refl
  where
    by_test : (b : Bool) → has_lazy payloads w ≡ b → has_lazy payloads w ≡ false
    by_test false e = e
    by_test true e =
        let lazy = any-in (is_lazy payloads w) (range_with_len 0 (length w.master)) e in
        let parts = and_true (nat_lt lazy.0 (length w.master)) (not (is_in nat_eq lazy.0 (ids payloads))) lazy.2 in
        absurd (not_true (is_in nat_eq lazy.0 (ids payloads)) parts.1 (there nat_eq same-exact same-self lazy.0 (ids payloads) (h lazy.0 (ltb-true lazy.0 (length w.master) parts.0))))

ids-more : (payloads : List Payload) (p : Payload) → ids (payloads ++ p ∷ []) ≡ ids payloads ++ map (λ (k : Known). k.id) (known_in (p ∷ []))
ids-more payloads p =
    ap (map (λ (k : Known). k.id)) (flat_map-append (λ (q : Payload). q.known) payloads (p ∷ []))
    ∙ map-append (λ (k : Known). k.id) (known_in payloads) (known_in (p ∷ []))

from-id : (from id : ℕ) (names : List Name) → from ≤ id → id < from + length names → IsIn id (map (λ (k : Known). k.id) (known_from from names))
from-id from id [] low high = absurd (omega (arith, low, high))
from-id from id (x ∷ names) low high = ⊎_elim (λ e. inl (sym e)) (λ lt. inr (from-id (from + 1) id names (omega (arith, lt)) (omega (arith, high)))) (eq-or-lt_of_le low)

-- that of a change has the names of the new commits
named-new : (payloads : List Payload) (old new : World Name) → has_lazy payloads old ≡ false → has_lazy (payloads ++ flush_change old new ∷ []) new ≡ false
named-new payloads old new none =
    all-named (payloads ++ flush_change old new ∷ []) new (λ id lt. subst (IsIn id) (sym (ids-more payloads (flush_change old new))) (⊎_elim
    (λ high. in-right id (ids payloads) news (new-one id lt high))
    (λ low. in-left id (ids payloads) news (named-id payloads old none id low))
    (le_or_lt (length old.master) id)))
  where
    news : List ℕ
    news = map (λ (k : Known). k.id) (known_in (flush_change old new ∷ []))

    new-one : (id : ℕ) → id < length new.master → length old.master ≤ id → IsIn id (map (λ (k : Known). k.id) (known_in (flush_change old new ∷ [])))
    new-one id lt high =
        let names = names_of (drop (length old.master) new.master) in
        let count : length names ≡ length new.master - length old.master = length-map _ _ ∙ length-drop _ _ in
        subst (λ ks. IsIn id (map (λ (k : Known). k.id) ks)) (sym (append-nil (known_from (length old.master) names)))
        (from-id (length old.master) id names high (omega (arith, lt, high, count)))

-- ---- states
-- the log has a name for each commit of the newest world
abbrev pub IsNamed : Stored → Type 0
IsNamed st = has_lazy st.payloads st.stored ≡ false

-- and of each world from which its master goes on
base-named : (st : Stored) (w : World Name) → GrowsMaster w st.stored → IsNamed st → has_lazy st.payloads w ≡ false
base-named st w grows none =
    all-named st.payloads w (λ id lt. named-id st.payloads st.stored none id (let l = ap length grows.1 ∙ length-append w.master grows.0 in omega (arith, lt, l)))

pub named-session : (st : Stored) (s : ℕ) → IsStore st → IsNamed st → HasAllNames st s
named-session st s is none = record {
  stored = none;
  base = base-named st (base_of st s)
      (subst (GrowsMaster (base_of st s)) (newest-now st) (is.grows (session st s).base (length st.past) (is.sessions s).base (le_refl _))) none;
}

pub named-flush : (st : Stored) (s : ℕ) (new : World Name) → IsNamed st → IsNamed (after_flush st s new)
named-flush st s new all = by_test (same_world new st.stored) refl
  where
    stored : has_lazy (st.payloads ++ flush_change st.stored new ∷ []) new ≡ false
    stored = named-new st.payloads st.stored new all

    by_test : (b : Bool) → same_world new st.stored ≡ b → IsNamed (after_flush st s new)
    by_test true e = rw e all
    by_test false e = rw e stored

-- what is told that no test refuses
told-named : (st : Stored) (s : ℕ) (verb : Verb) (reply : Reply) (now : Stored) → IsNamed st → IsTold st s verb reply now → IsNamed now
told-named st s (Add name parents) reply now all t = by_test (has (view_of st s) name) _ _ t
  where
    by_test : (b : Bool) (P Q : Type 0) → MatchBool b (P × (now ≡ st)) (Q × (now ≡ with_added st s name parents)) → IsNamed now
    by_test true P Q t = subst IsNamed (sym t.1) all
    by_test false P Q t = subst IsNamed (sym t.1) all
told-named st s (Flush heads) reply now all t = subst IsNamed (sym t.1) (named-flush st s (flush_of st s heads) all)
told-named st s (Strip names) reply now all t = subst IsNamed (sym t.1) (named-flush st s (stripped same_name st.stored names) all)
told-named st s Reload reply now all t = subst IsNamed (sym t.1) all
told-named st s Discard reply now all t = subst IsNamed (sym t.1) all
told-named st s (Count e) reply now all t = subst IsNamed (sym t.3) all
told-named st s (IdOf name) reply now all t = subst IsNamed (sym t.1) all
told-named st s Status reply now all t = subst IsNamed (sym t.1) all
told-named st s Levels reply now all t = subst IsNamed (sym t.1) all
told-named st s (Query e) reply now all t = absurd t
told-named st s Clone reply now all t = absurd t
told-named st s Pull reply now all t = absurd t
told-named st s CountMirrors reply now all t = absurd t
told-named st s (Drop k) reply now all t = absurd t

unless-same : (refusals : List (Option Refusal)) (st : Stored) (P : Reply → Type 0) (reply : Reply) (now : Stored) → UnlessRefused refusals st (λ told next. P told × (next ≡ st)) reply now → now ≡ st
unless-same refusals st P reply now (inl h) = by_test (first_some refusals) h
  where
    by_test : (o : Option Refusal) → MatchOption o (P reply × (now ≡ st)) (λ refusal. IsRefused st refusal reply now) → now ≡ st
    by_test None h = h.1
    by_test (Some refusal) h = h.1
unless-same refusals st P reply now (inr h) = h.1

answers-named : (limits : Limits) (st : Stored) (s : ℕ) (verb : Verb) (reply : Reply) (now : Stored) → IsNamed st → PlainAnswers limits st s verb reply now → IsNamed now
answers-named limits st s (Query e) reply now all t = subst IsNamed (sym (unless-same (refuse_if (nat_lt limits.answer (length t.0)) (why.Answer (length t.0)) ∷ []) st (λ told. told ≡ Listed t.0) reply now t.2)) all
answers-named limits st s (Add name parents) reply now all t = told-named st s (Add name parents) reply now all t
answers-named limits st s (Flush heads) reply now all t = told-named st s (Flush heads) reply now all t
answers-named limits st s (Strip names) reply now all t = told-named st s (Strip names) reply now all t
answers-named limits st s Reload reply now all t = told-named st s Reload reply now all t
answers-named limits st s Discard reply now all t = told-named st s Discard reply now all t
answers-named limits st s (Count e) reply now all t = told-named st s (Count e) reply now all t
answers-named limits st s (IdOf name) reply now all t = told-named st s (IdOf name) reply now all t
answers-named limits st s Status reply now all t = told-named st s Status reply now all t
answers-named limits st s Levels reply now all t = told-named st s Levels reply now all t
answers-named limits st s Clone reply now all t = absurd t
answers-named limits st s Pull reply now all t = absurd t
answers-named limits st s CountMirrors reply now all t = absurd t
answers-named limits st s (Drop k) reply now all t = absurd t

-- a command of such a log leaves such a log
pub plain-named : (limits : Limits) (st : Stored) (s : ℕ) (verb : Verb) (reply : Reply) (now : Stored) → IsNamed st → PlainStep limits st s verb reply now → IsNamed now
plain-named limits st s verb reply now all (inl h) = by_test (refused_first (tests limits st s verb)) h
  where
    by_test : (o : Option Refusal) → MatchOption o (PlainAnswers limits st s verb reply now) (λ refusal. IsRefused st refusal reply now) → IsNamed now
    by_test None h = answers-named limits st s verb reply now all h
    by_test (Some refusal) h = subst IsNamed (sym h.1) all
plain-named limits st s verb reply now all (inr m) = subst IsNamed (sym m.1.1) all
