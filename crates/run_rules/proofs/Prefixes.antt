-- Each prefix of the changes of a run has its payloads and its world.
use Rattle.std.proofs.Common.{◌≡◌, ◌≤◌, ◌+◌, ℕ, zero, suc, inl, inr, List, [], ◌∷◌, ◌++◌, length, map, take, refl, sym, ap, subst, subst₂, ◌∙◌, arith, zero-le, ⊎_elim, eq-or-lt_of_le, le_antisymm, length-append}
use Rattle.std.proofs.lemmas.List.{take-append-le}
use Rattle.std.specs.List.{AllByRecursion}
use Rattle.line_io.specs.Streams.{Streams}
use Rattle.remote_rules.specs.Honest.{IsSoundMirror}
use Rattle.id_groups.specs.Name.{Name}
use Rattle.line_io.specs.Lines.{lines_of}
use Rattle.commit_graph.specs.World.{World}
use Rattle.disk_trait.specs.Images.{Told, LeftAt, moment_of}
use Rattle.gated_log.specs.Log.{IsLog}
use Rattle.gated_log.specs.Holding.{IsLogWithin, HasPayloads}
use Rattle.batch_codec.specs.Payload.{Payload}
use Rattle.change_rules.specs.declared.Limits.{Limits}
use Rattle.change_rules.specs.Standard.{AreLimits}
use Rattle.change_rules.specs.Change.{text_of}
use Rattle.change_rules.specs.Tables.{cloned_count}
use Rattle.change_rules.specs.Holding.{HoldAs, HoldPayloads}
use Rattle.remote_rules.specs.Mirror.{Mirror}
use Rattle.remote_rules.specs.Serving.{AllServe}
use Rattle.step_rules.specs.State.{State, Stored, IsHeld, IsState, at_start, start, world_at, with_stored}
use Rattle.step_rules.specs.Reply.{Reply}
use Rattle.step_rules.specs.Verb.{Verb, IsVerb}
use Rattle.step_rules.specs.Step.{CommandStep}
use Rattle.step_rules.proofs.Sessions.{IsPlaced, Shape, world_at-stored, command-shape}
use Rattle.step_rules.proofs.States.{at-newest}
use Rattle.step_rules.proofs.Kept.{start-is, step-state}
use Rattle.step_rules.proofs.Held.{step-held}
use Rattle.run_rules.specs.Run.{Run, output_of}
use Rattle.run_rules.specs.Ends.{Done}
use Rattle.run_rules.specs.Stopped.{Stopped, ArePrefixes}
use Rattle.run_rules.specs.Means.{Means}
use Rattle.run_rules.proofs.Runs.{run-keeps}
use Rattle.run_rules.proofs.Starts.{served-sound, start-held, same-texts}
use Rattle.run_rules.proofs.Nothing.{take-all, loaded-later}

prefix-shape : (before : List Payload) (st : Stored) (s : ℕ) (now : Stored) → ArePrefixes before st → Shape st s now → HoldPayloads now.payloads now.stored → ArePrefixes before now
prefix-shape before st s now h (inl e) hold = subst (ArePrefixes before) (sym e) h
prefix-shape before st s now h (inr (inl (x, le, e))) hold = subst (ArePrefixes before) (sym e) (record { front = h.front; size = h.size; worlds = h.worlds })
prefix-shape before st s now h (inr (inr (new, payload, rows, e))) hold = subst (ArePrefixes before) (sym e) (record { front = front; size = size; worlds = holds })
  where
    longer : length (st.payloads ++ payload ∷ []) ≡ length st.payloads + 1
    longer = length-append st.payloads (payload ∷ [])

    more : length (st.past ++ st.stored ∷ []) ≡ length st.past + 1
    more = length-append st.past (st.stored ∷ [])

    front : take (length before) (st.payloads ++ payload ∷ []) ≡ before
    front = take-append-le (length before) st.payloads (payload ∷ []) (let a = h.size in omega (arith, a)) ∙ h.front

    size : length (st.payloads ++ payload ∷ []) ≡ length before + length (st.past ++ st.stored ∷ [])
    size = let a = h.size in let b = longer in let c = more in omega (arith, a, b, c)

    newest : HoldPayloads (st.payloads ++ payload ∷ []) new
    newest = subst (λ (z : Stored). HoldPayloads z.payloads z.stored) e hold

    holds : (count : ℕ) → count ≤ length (st.past ++ st.stored ∷ []) → HoldPayloads (take (length before + count) (st.payloads ++ payload ∷ [])) (world_at (with_stored st new payload) count)
    holds count le = ⊎_elim
        (λ f. subst₂ HoldPayloads (sym (take-all (st.payloads ++ payload ∷ []) (length before + count) (let a = size in omega (arith, a, f)))) (sym (at-newest st new payload count f)) newest)
        (λ lt.
        let below : count ≤ length st.past = (let c = more in omega (arith, lt, c)) in
        subst₂ HoldPayloads (sym (take-append-le (length before + count) st.payloads (payload ∷ []) (let a = h.size in omega (arith, a, below)))) (sym (world_at-stored st new payload count below)) (h.worlds count below))
        (eq-or-lt_of_le le)

placed : (st : State) → IsState st → IsPlaced st.store
placed st h = ((λ s. (h.store.sessions s).base), h.store.sixteen)

record Prefixed (limits : Limits) (before : List Payload) (st : State) : Type 0 where
  state : IsState st
  held : IsHeld limits st.store
  prefixes : ArePrefixes before st.store

module _ (limits : Limits) (fair : AreLimits limits) (before : List Payload) where
  step-prefixed : (a b : State) (s : ℕ) (verb : Verb) (reply : Reply) → Prefixed limits before a → IsVerb verb → CommandStep limits a s verb reply b → Prefixed limits before b
  step-prefixed a b s verb reply k v step =
      let held = step-held limits fair a s k.state k.held verb reply b step in
      record {
        state = step-state limits a s k.state verb reply b v step;
        held = held;
        prefixes = prefix-shape before a.store s b.store k.prefixes (command-shape limits a s (placed a k.state) verb reply b step) held.hold;
      }

start-prefixes : (w : World Name) (payloads : List Payload) → HoldPayloads payloads w → ArePrefixes payloads (start w payloads)
start-prefixes w payloads hold = record { front = take-all payloads (length payloads) refl; size = omega arith; worlds = only }
  where
    only : (count : ℕ) → count ≤ 0 → HoldPayloads (take (length payloads + count) payloads) (world_at (start w payloads) count)
    only zero le = subst (λ l. HoldPayloads l w) (sym (take-all payloads (length payloads + 0) (omega arith))) hold
    only (suc n) le = absurd (omega (arith, le))

-- beside mirrors of which each that tells its master is honest
pub prefixes-sound : (limits : Limits) (log : List ℕ) (w : World Name) (payloads : List Payload) (room : ℕ) (mirrors : List Mirror) (lines : List (List ℕ)) (replies : List Reply) (st : State)
    → AreLimits limits → HoldAs limits.log log payloads w → AllByRecursion IsSoundMirror mirrors → Run limits (at_start w payloads room mirrors) lines replies st → ArePrefixes payloads st.store
prefixes-sound limits log w payloads room mirrors lines replies st fair hold sound run =
    (run-keeps limits (Prefixed limits payloads) (step-prefixed limits fair payloads) (at_start w payloads room mirrors) st lines replies
    (record { state = start-is w payloads room mirrors hold.hold.world sound; held = start-held limits log w payloads fair hold; prefixes = start-prefixes w payloads hold.hold }) run).prefixes

pub prefixes-hold : (limits : Limits) (log : List ℕ) (w : World Name) (payloads : List Payload) (room : ℕ) (mirrors : List Mirror) (lines : List (List ℕ)) (replies : List Reply) (st : State)
    → AreLimits limits → HoldAs limits.log log payloads w → AllServe (cloned_count payloads) w mirrors → Run limits (at_start w payloads room mirrors) lines replies st → ArePrefixes payloads st.store
prefixes-hold limits log w payloads room mirrors lines replies st fair hold serve run =
    prefixes-sound limits log w payloads room mirrors lines replies st fair hold (served-sound (cloned_count payloads) w mirrors serve) run

module _ (limits : Limits) (w : World Name) (payloads : List Payload) (room : ℕ) (mirrors : List Mirror) (disk : Told) (io : Streams) (replies : List Reply) (last : State)
    (fair : AreLimits limits) (hold : HoldAs limits.log disk.bytes payloads w) (sure : HasPayloads limits.log disk (map text_of payloads)) (serve : AllServe (cloned_count payloads) w mirrors)
    (run : Run limits (at_start w payloads room mirrors) (lines_of limits.input io.input) replies last) (same : last.store.past ≡ []) (within : length io.input ≤ limits.input) (read : io.left ≡ []) (wrote : io.now ≡ io.taken ++ output_of replies) where
  prefixes : ArePrefixes payloads last.store
  prefixes = prefixes-hold limits disk.bytes w payloads room mirrors (lines_of limits.input io.input) replies last fair hold serve run

  front : take (length payloads + 0) last.store.payloads ≡ payloads
  front = ap (λ n. take n last.store.payloads) (let z : length payloads + 0 ≡ length payloads = omega arith in z) ∙ prefixes.front

  same-payloads : payloads ≡ last.store.payloads
  same-payloads = sym front ∙ take-all last.store.payloads (length payloads + 0) (sym (prefixes.size ∙ ap (λ l. length payloads + length l) same))

  stopped : Stopped limits.log w payloads [] last.store disk disk
  stopped = record {
    sure = moment_of disk;
    loading = λ moment image from before to left. absurd (omega (arith, from, before));
    bytes = λ moment image from later to left. (0, zero-le, inl refl, subst (λ l. IsLogWithin limits.log (map text_of l) image) (sym front) (sure image (subst (λ m. LeftAt disk m image) (le_antisymm to from) left)));
    worlds = prefixes.worlds;
    ascend = λ k le. absurd (omega (arith, le));
    ended = tt;
  }

  pub reads-alone : Means limits w payloads room mirrors last.outside.mirrors io ⊥ disk disk Done []
  unfolding stopped
  reads-alone = record {
    lines = lines_of limits.input io.input;
    replies = replies;
    last = last;
    run = run;
    more = [];
    ends = (within, read, refl, wrote);
    stored = sym (ap length same);
    final = last.store;
    leaves = (refl, refl);
    each = tt;
    calls = loaded-later disk;
    stopped = stopped;
    sure = inl (let near : moment_of disk ≤ moment_of disk + 2 = omega arith in near);
    kept = subst (λ l. IsLogWithin limits.log (map text_of l) disk.bytes) same-payloads (hold.within, subst (IsLog disk.bytes) (same-texts hold.texts payloads hold.spelled) hold.log);
  }
