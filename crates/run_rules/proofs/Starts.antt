-- What holds at the start of a run.
use Rattle.std.proofs.Common.{◌≡◌, ◌≤◌, ◌+◌, ℕ, List, [], ◌∷◌, ◌++◌, length, map, sym, subst, refl, ap, ap₂, ◌∙◌, zero-le, ⊎_elim, arith, length-append, MatchOption, inl, inr, le_refl}
use Rattle.std.specs.Int.{w64, to_be_bytes}
use Rattle.std.specs.List.{AllByRecursion, AllZip}
use Rattle.id_groups.specs.Name.{Name}
use Rattle.commit_graph.specs.World.{World}
use Rattle.commit_graph.proofs.Naming.{each, all-each}
use Rattle.batch_codec.specs.Payload.{Payload}
use Rattle.batch_codec.specs.Grammar.{count_after, IsPayload, IsFlush, IsClone}
use Rattle.batch_codec.specs.Grammar as grammar
use Rattle.change_rules.specs.Lawful.{AreLawful}
use Rattle.gated_log.specs.Log.{IsLog, batch, batches, log_length}
use Rattle.change_rules.specs.declared.Limits.{Limits}
use Rattle.change_rules.specs.Standard.{AreLimits}
use Rattle.change_rules.specs.Change.{text_of}
use Rattle.change_rules.specs.Tables.{cloned_count}
use Rattle.change_rules.specs.Holding.{HoldAs, HoldPayloads}
use Rattle.change_rules.proofs.Changes.{count-last}
use Rattle.remote_rules.specs.Mirror.{Mirror}
use Rattle.remote_rules.specs.Honest.{IsHonest, IsSoundMirror}
use Rattle.remote_rules.specs.Serving.{IsServing, AllServe}
use Rattle.step_rules.specs.State.{State, IsState, IsHeld, at_start, start}
use Rattle.step_rules.specs.Served.{IsServed}
use Rattle.step_rules.specs.Reply.{Reply}
use Rattle.step_rules.proofs.Kept.{start-is}
use Rattle.run_rules.specs.Run.{Run}
use Rattle.run_rules.proofs.Runs.{IsWhole, run-whole}

-- how long the batches and their closed gate are
batches-length : (payloads : List (List ℕ)) → length (batches payloads) + 1 ≡ log_length payloads
batches-length [] = refl
batches-length (p ∷ payloads) =
    let a = length-append (batch p) (batches payloads) in
    let b = length-append (to_be_bytes w64 (length p)) p in
    let c = batches-length payloads in
    let d : length (to_be_bytes w64 (length p)) ≡ 8 = refl in
    omega (arith, a, b, c, d)

pub same-texts : (texts : List (List ℕ)) (payloads : List Payload) → AllZip (λ text p. text ≡ text_of p) texts payloads → texts ≡ map text_of payloads
same-texts [] [] z = refl
same-texts [] (p ∷ payloads) z = absurd z
same-texts (t ∷ texts) [] z = absurd z
same-texts (t ∷ texts) (p ∷ payloads) z = ap₂ (λ a b. a ∷ b) z.0 (same-texts texts payloads z.1)

-- a log within the limit is as long as its payloads make it
log-within : (limit : ℕ) (bytes : List ℕ) (texts : List (List ℕ)) → 1 ≤ limit → length bytes ≤ limit → IsLog bytes texts → log_length texts ≤ limit
log-within limit bytes texts one le (inl h) = subst (λ t. log_length t ≤ limit) (sym h.1) one
log-within limit bytes texts one le (inr h) =
    let l = ap length h.5 ∙ length-append (batches texts) (h.2 ∷ h.3) in
    let b = batches-length texts in
    omega (arith, le, l, b)

-- the master count never falls
count-grows : (before payloads : List Payload) (n : ℕ) → AreLawful before payloads → n ≡ count_after 0 before → n ≤ count_after n payloads
count-grows before [] n h e = le_refl n
count-grows before (p ∷ payloads) n h e =
    let rec = count-grows (before ++ p ∷ []) payloads p.after h.1 (sym (count-last 0 before p)) in
    let grows = h.0.whole.counts.grows in
    let from = h.0.count in
    omega (arith, rec, grows, from, e)

cloned-most : (p : Payload) → IsPayload p → p.cloned ≤ p.after
cloned-most p h = ⊎_elim (λ (f : IsFlush p). let e = f.cloned in omega (arith, e))
    (λ o. ⊎_elim (λ (c : IsClone p). let e = c.cloned in omega (arith, e)) (λ (w : grammar.IsWholePayload p). w.cloned) o) h.by_kind

-- no more was cloned than there is
clone-bound : (payloads : List Payload) → AreLawful [] payloads → cloned_count payloads ≤ count_after 0 payloads
clone-bound [] h = zero-le
clone-bound (p ∷ payloads) h =
    let most = cloned-most p h.0.whole in let more = count-grows (p ∷ []) payloads p.after h.1 refl in omega (arith, most, more)

-- mirrors that serve a world are honest where they tell their master
pub served-sound : (cloned : ℕ) (w : World Name) (mirrors : List Mirror) → AllServe cloned w mirrors → AllByRecursion IsSoundMirror mirrors
served-sound cloned w mirrors serve = all-each IsSoundMirror mirrors (λ m i. let s = each (IsServing cloned w) mirrors serve.each m i in subst (λ o. MatchOption o (Unit {0}) (IsHonest m.cloned)) (sym s.1) s.2)

pub start-held : (limits : Limits) (log : List ℕ) (w : World Name) (payloads : List Payload) → AreLimits limits → HoldAs limits.log log payloads w → IsHeld limits (start w payloads)
start-held limits log w payloads fair hold =
    let one : 1 ≤ limits.log = (let a = fair.log.0 in omega (arith, a)) in
    let texts = same-texts hold.texts payloads hold.spelled in
    record { hold = hold.hold; within = subst (λ t. log_length t ≤ limits.log) texts (log-within limits.log log hold.texts one hold.within hold.log) }

-- no more was cloned than the world has
pub cloned-least : (payloads : List Payload) (w : World Name) → HoldPayloads payloads w → cloned_count payloads ≤ length w.master
cloned-least payloads w hold = subst (λ n. cloned_count payloads ≤ n) hold.stand.count (clone-bound payloads hold.lawful)

-- where nothing was cloned yet, and later, no more was cloned than there is
pub start-served : (limit : ℕ) (log : List ℕ) (w : World Name) (payloads : List Payload) (room : ℕ) (mirrors : List Mirror) → HoldAs limit log payloads w → AllServe (cloned_count payloads) w mirrors → IsServed (at_start w payloads room mirrors)
start-served limit log w payloads room mirrors hold serve = record {
  cloned = cloned-least payloads w hold.hold;
  mirrors = serve;
}

pub start-whole : (limits : Limits) (log : List ℕ) (w : World Name) (payloads : List Payload) (room : ℕ) (mirrors : List Mirror) → AreLimits limits → HoldAs limits.log log payloads w → AllServe (cloned_count payloads) w mirrors
    → IsWhole limits (at_start w payloads room mirrors)
start-whole limits log w payloads room mirrors fair hold serve = record {
  state = start-is w payloads room mirrors hold.hold.world (served-sound (cloned_count payloads) w mirrors serve);
  held = start-held limits log w payloads fair hold;
  served = start-served limits.log log w payloads room mirrors hold serve;
}

pub from-start : (limits : Limits) (log : List ℕ) (w : World Name) (payloads : List Payload) (room : ℕ) (mirrors : List Mirror) (lines : List (List ℕ)) (replies : List Reply) (st : State)
    → AreLimits limits → HoldAs limits.log log payloads w → AllServe (cloned_count payloads) w mirrors → Run limits (at_start w payloads room mirrors) lines replies st
    → IsState st × IsHeld limits st.store × IsServed st
from-start limits log w payloads room mirrors lines replies st fair hold serve run =
    let whole = run-whole limits (at_start w payloads room mirrors) st lines replies fair (start-whole limits log w payloads room mirrors fair hold serve) run in
    (whole.state, whole.held, whole.served)
