-- A client's calls are a run of the definition.
use Rattle.std.proofs.Common.{◌≡◌, ◌⊎◌, inl, inr, ℕ, List, [], ◌∷◌, ◌++◌, Option, Some, None, Ok, Err, Bool, true, false, length, map, zero-le, refl, sym, true≢false, ◌∙◌, ap, subst}
use Rattle.std.specs.declared.result.Result.{Result}
use Rattle.std.specs.Prelude.{MatchBool, MatchOption}
use Rattle.std.specs.List.{AllByRecursion}
use Rattle.outside.specs.Counts.{Rose}
use Rattle.disk_trait.specs.Images.{Told}
use Rattle.gated_log.specs.Held.{Held as Log}
use Rattle.gated_log.specs.Holding.{HasPayloads, IsLogWithin, IsOnDisk}
use Rattle.disk_trait.specs.Since.{SureSince}
use Rattle.line_io.specs.Lines.{is_silent}
use Rattle.call_disk.specs.Awaited.{awaited}
use Rattle.call_disk.specs.Noted.{Call}
use Rattle.call_disk.specs.Performed.{Performs, Stops}
use Rattle.change_rules.specs.declared.Limits.{Limits}
use Rattle.change_rules.specs.Standard.{standard}
use Rattle.remote_rules.specs.Honest.{IsSoundMirror}
use Rattle.remote_rules.specs.Mirror.{Mirror}
use Rattle.step_rules.specs.State.{State, at_start}
use Rattle.step_rules.specs.Step.{CommandStep}
use Rattle.step_rules.specs.Verb.{Verb}
use Rattle.step_rules.specs.Reply.{Reply, reply_text, Added, Old, Flushed, Pulled, Stripped, Cloned, Reloaded, Discarded, Listed, Counted, Identified, Sizes, LevelSizes, Dropped, Refused as IsRefused, NoCommand, LongLine}
use Rattle.run_rules.specs.Run.{Step}
use Rattle.id_groups.specs.Name.{Name}
use Rattle.commit_graph.specs.World.{World}
use Rattle.batch_codec.specs.Payload.{Payload}
use Rattle.change_rules.specs.Change.{text_of}
use Rattle.change_rules.specs.Holding.{HoldAs}
use Rattle.dag_run.proofs.Mirrors.{start-beside}
use Rattle.dag_store.specs.Following.{FollowsTo, GoOn, Written, all_on}
use Rattle.dag_store.specs.declared.following.Followed.{Followed}
use Rattle.dag_store.specs.declared.following.Followed.TheVariants.{Done, Refused}
use Rattle.dag_store.specs.Kept.{PlainStore}
use Rattle.segdag_c.specs.declared.codes.Failure.{Failure}
use Rattle.segdag_c.specs.Following.{HeldFollows, MoreCame, followed_answer, followed_store}
use Rattle.segdag_c.specs.Loads.{HoldsOpened, IsOpened, LoadNotes}
use Rattle.dag_store.specs.Stands.{IsAnswerable, StandsBeside}
use Rattle.dag_run.specs.Enough.{IsEnoughOn}
use Rattle.dag_run.specs.Lines.{IsPassed, Replies}
use Rattle.segdag_c.specs.declared.held.Held.{Held}
use Rattle.segdag_c.specs.Answers.{HeldNotes, LineCame}
use Rattle.segdag_c.specs.Client.{IsCleared, More, Act, Typed, Line, Mirrors, Idle, ActRun, ActStep, AreEnoughAlong, Happened, Happens, IsAt, IsEnoughTo, StopsIn}
use Rattle.segdag_c.specs.Does.{Does, StaysBut}
use Rattle.segdag_c.specs.Mirrors.{shown_all}
use Rattle.segdag_c.specs.Stores.{Leaves}

-- where something is, it is this
there : {X : Type 0} (o : Option X) (P : X → Type 0) → MatchOption o ⊥ P → (x : X) × (o ≡ Some x) × P x
there None P m = absurd m
there (Some x) P m = (x, refl, m)

put : {X : Type 0} (o : Option X) (P : X → Type 0) (x : X) → o ≡ Some x → P x → MatchOption o ⊥ P
put o P x is p = subst (λ q. MatchOption q ⊥ P) (sym is) p

take : {X : Type 0} (o : Option X) (P : X → Type 0) (x : X) → o ≡ Some x → MatchOption o ⊥ P → P x
take o P x is m = subst (λ q. MatchOption q ⊥ P) is m

-- an open log's limits
limited : (held : Held) (store : PlainStore) → held.store ≡ Some store → store.limits ≡ standard
limited held store is = held.limits store is

-- what is left of a store has its log
stays-log : (s : ℕ) (reply : Reply) (old new : PlainStore) → StaysBut s reply old new → new.log ≡ old.log
stays-log s (Added id) old new stays = ap (λ (p : PlainStore). p.log) stays.1
stays-log s (Old id) old new stays = ap (λ (p : PlainStore). p.log) stays.1
stays-log s (Reloaded count) old new stays = ap (λ (p : PlainStore). p.log) stays.1
stays-log s (Discarded count) old new stays = ap (λ (p : PlainStore). p.log) stays.1
stays-log s (Flushed a b) old new stays = ap (λ (p : PlainStore). p.log) stays
stays-log s (Pulled a b) old new stays = ap (λ (p : PlainStore). p.log) stays
stays-log s (Stripped a b) old new stays = ap (λ (p : PlainStore). p.log) stays
stays-log s (Cloned a) old new stays = ap (λ (p : PlainStore). p.log) stays
stays-log s (Listed a) old new stays = ap (λ (p : PlainStore). p.log) stays
stays-log s (Counted a) old new stays = ap (λ (p : PlainStore). p.log) stays
stays-log s (Identified a) old new stays = ap (λ (p : PlainStore). p.log) stays
stays-log s (Sizes a b c) old new stays = ap (λ (p : PlainStore). p.log) stays
stays-log s (LevelSizes a) old new stays = ap (λ (p : PlainStore). p.log) stays
stays-log s (Dropped a) old new stays = ap (λ (p : PlainStore). p.log) stays
stays-log s (IsRefused a) old new stays = ap (λ (p : PlainStore). p.log) stays
stays-log s NoCommand old new stays = ap (λ (p : PlainStore). p.log) stays
stays-log s LongLine old new stays = ap (λ (p : PlainStore). p.log) stays

-- performing what a line noted leaves the next store's log
settled : (kept : PlainStore) (payload : List ℕ) (clock : Option ℕ) (next : PlainStore) (calls : List Call) (disk new : Told) → Leaves kept payload clock next calls disk → Performs calls disk new → IsOnDisk next.log new
settled kept payload None next calls disk new leaves performs =
    let same : new ≡ disk = subst (λ cs. Performs cs disk new) leaves.0 performs in
    subst (λ (t : Told). IsOnDisk next.log t) (sym same) leaves.1
settled kept payload (Some clock) next calls disk new leaves performs = (leaves.whole new performs).1

-- ---- one act

typed : (began : ℕ) (st : State) (before after : Held) (disk new : Told) (s : ℕ) (verb : Verb) (reply : Reply) → IsAt began before disk st → IsAnswerable st → Happens (Typed s verb reply) before disk after new
    → (next : State) × ActStep st (Typed s verb reply) next × IsAt began after new next
typed began st before after disk new s verb reply at enough h =
    let L = shown_all before.mirrors.list.items in
    let R = shown_all after.mirrors.list.items in
    let old = there before.store (λ p. MatchOption after.store ⊥ (λ q. Does L p s verb reply q R)) h.0.4 in
    let now = there after.store (λ q. Does L old.0 s verb reply q R) old.2 in
    let led = now.2.1 began st (take before.store (λ p. StandsBeside began p L st) old.0 old.1 at.stands) enough in
    let on = take before.store (λ p. IsOnDisk p.log disk) old.0 old.1 at.on_disk in (
      led.0,
      subst (λ (l : Limits). CommandStep l st s verb reply led.0) (limited before old.0 old.1) led.1,
      record {
        stands = put after.store (λ q. StandsBeside began q R led.0) now.0 now.1 led.2;
        on_disk = put after.store (λ q. IsOnDisk q.log new) now.0 now.1
            (subst (λ (t : Told). IsOnDisk now.0.log t) (sym h.1) (subst (λ (l : Log). IsOnDisk l disk) (sym (stays-log s reply old.0 now.0 now.2.0)) on));
        performed = ap awaited h.0.1 ∙ at.performed;
      },
    )

-- the line was passed, or got its reply
line-step : (began : ℕ) (st : State) (line text taken payload : List ℕ) (clock : Option ℕ) (old now : PlainStore) (left : List Mirror) (SinkFailed : Type 0) → taken ≡ text → old.limits ≡ standard
    → IsPassed began left st line clock (Ok now) [] taken ⊎ ((is_silent line ≡ false) × Replies SinkFailed began left st (Step old.limits st line) payload clock (Ok now) [] taken)
    → (next : State) × ActStep st (Line line text) next × StandsBeside began now left next
line-step began st line text taken payload clock old now left SinkFailed told limits (inl passed) =
    (st, subst (λ b. MatchBool b ((st ≡ st) × (text ≡ [])) ((reply : Reply) × Step standard st line reply st × (text ≡ reply_text reply))) (sym passed.0) (refl, sym told ∙ passed.3), passed.2)
line-step began st line text taken payload clock old now left SinkFailed told limits (inr h) =
    let r = h.1 in
    let step = subst (λ (l : Limits). Step l st line r.0 r.1) limits r.2 in
    (r.1, subst (λ b. MatchBool b ((r.1 ≡ st) × (text ≡ [])) ((reply : Reply) × Step standard st line reply r.1 × (text ≡ reply_text reply))) (sym h.0) (r.0, step, sym told ∙ r.5), r.4)

lined : (began : ℕ) (st : State) (before after : Held) (disk new : Told) (line text : List ℕ) → IsAt began before disk st → IsEnoughOn line st → Happens (Line line text) before disk after new
    → (next : State) × ActStep st (Line line text) next × IsAt began after new next
lined began st before after disk new line text at enough h =
    let mid = h.0 in
    let cleared = h.4 in
    let L = shown_all before.mirrors.list.items in
    let R = shown_all mid.mirrors.list.items in
    let old = there before.store (λ p. MatchOption mid.store ⊥ (λ q. HeldNotes before p line mid disk (Ok q))) h.1 in
    let now = there mid.store (λ q. HeldNotes before old.0 line mid disk (Ok q)) old.2 in
    let noted = now.2.1 in
    let does = noted.2 in
    let stood = take before.store (λ p. StandsBeside began p L st) old.0 old.1 at.stands in
    let on = take before.store (λ p. IsOnDisk p.log disk) old.0 old.1 at.on_disk in
    let step = line-step began st line text mid.reply.taken does.0 does.1 old.0 now.0 R (Rose 0 mid.reply.faults) h.2 (limited before old.0 old.1) (does.2 began st stood enough) in
    let calls : awaited mid.log ≡ noted.0 = noted.1 ∙ ap (λ cs. cs ++ noted.0) at.performed in
    let after_all = settled old.0 does.0 does.1 now.0 noted.0 disk new (does.3 on) (subst (λ cs. Performs cs disk new) calls h.3) in
    let is : after.store ≡ Some now.0 = cleared.store ∙ now.1 in (
      step.0,
      step.1,
      record {
        stands = put after.store (λ q. StandsBeside began q (shown_all after.mirrors.list.items) step.0) now.0 is
            (subst (λ ms. StandsBeside began now.0 ms step.0) (sym (ap (λ ms. shown_all ms.list.items) cleared.mirrors)) step.2);
        on_disk = put after.store (λ q. IsOnDisk q.log new) now.0 is after_all;
        performed = cleared.calls;
      },
    )

-- other mirrors beside the store
beside : (began : ℕ) (store : PlainStore) (mirrors shown : List Mirror) (st : State) → AllByRecursion IsSoundMirror shown → StandsBeside began store mirrors st
    → StandsBeside began store shown (record st { outside = record st.outside { mirrors = shown } })
beside began store mirrors shown st sound stands =
    let o = stands.outside_of in
    record {
      stored = stands.stored;
      outside_of = record { has = o.has; once = o.once; fits = o.fits; room = o.room; mirrors_are = refl; outside = record { few = o.outside.few; names = o.outside.names; mirrors = sound } };
    }

mirrored : (began : ℕ) (st : State) (before after : Held) (disk new : Told) (shown : List Mirror) → IsAt began before disk st → AllByRecursion IsSoundMirror shown → Happens (Mirrors shown) before disk after new
    → (next : State) × ActStep st (Mirrors shown) next × IsAt began after new next
mirrored began st before after disk new shown at sound h =
    let L = shown_all before.mirrors.list.items in
    let old = there before.store (λ p. StandsBeside began p L st) at.stands in
    let on = take before.store (λ p. IsOnDisk p.log disk) old.0 old.1 at.on_disk in
    let is : after.store ≡ Some old.0 = h.1.0 ∙ old.1 in
    let next : State = record st { outside = record st.outside { mirrors = shown } } in (
      next,
      refl,
      record {
        stands = put after.store (λ q. StandsBeside began q (shown_all after.mirrors.list.items) next) old.0 is (subst (λ ms. StandsBeside began old.0 ms next) (sym h.0) (beside began old.0 L shown st sound old.2));
        on_disk = put after.store (λ q. IsOnDisk q.log new) old.0 is (subst (λ (t : Told). IsOnDisk old.0.log t) (sym h.2) on);
        performed = ap awaited h.1.1 ∙ at.performed;
      },
    )

abbrev is_done : Result (Unit {0}) Failure → Bool
is_done (Ok done) = true
is_done (Err failure) = false

-- all that came was taken
all-taken : (began : ℕ) (mirrors : List Mirror) (st : State) (changes : List Written) (followed : Followed) → Ok tt ≡ followed_answer followed → FollowsTo began mirrors st changes followed
    → StandsBeside began (followed_store followed) mirrors (all_on st changes)
all-taken began mirrors st changes (Done next) told follows = follows
all-taken began mirrors st changes (Refused same k fault) told follows = absurd (true≢false (ap is_done told))

followed : (began : ℕ) (st : State) (before after : Held) (disk new : Told) (changes : List Written) → IsAt began before disk st → GoOn st changes → Happens (More changes) before disk after new
    → (next : State) × ActStep st (More changes) next × IsAt began after new next
followed began st before after disk new changes at on (bytes, count, read, came, has) = by_case came
  where
    by_case : MoreCame bytes count before after (Ok tt) → (next : State) × ActStep st (More changes) next × IsAt began after new next
    by_case (inl unread) = absurd unread.0
    by_case (inr m) =
        let L = shown_all before.mirrors.list.items in
        let old = there before.store (λ p. HeldFollows before p bytes count after (Ok tt)) m in
        let h = old.2 in
        let stood = take before.store (λ p. StandsBeside began p L st) old.0 old.1 at.stands in
        let stands = all-taken began L st changes h.1 h.5 (h.2.2 began st changes stood (read h.0 h.2.0) on) in (
          all_on st changes,
          refl,
          record {
            stands = put after.store (λ q. StandsBeside began q (shown_all after.mirrors.list.items) (all_on st changes)) (followed_store h.1) h.3
                (subst (λ ms. StandsBeside began (followed_store h.1) ms (all_on st changes)) (sym (ap (λ ms. shown_all ms.list.items) h.7)) stands);
            on_disk = has;
            performed = ap awaited h.6 ∙ at.performed;
          },
        )

idle : (began : ℕ) (st : State) (before after : Held) (disk new : Told) → IsAt began before disk st → Happens Idle before disk after new → (next : State) × ActStep st Idle next × IsAt began after new next
idle began st before after disk new at h =
    let L = shown_all before.mirrors.list.items in
    let old = there before.store (λ p. StandsBeside began p L st) at.stands in
    let on = take before.store (λ p. IsOnDisk p.log disk) old.0 old.1 at.on_disk in
    let is : after.store ≡ Some old.0 = h.0.store ∙ old.1 in (
      st,
      refl,
      record {
        stands = put after.store (λ q. StandsBeside began q (shown_all after.mirrors.list.items) st) old.0 is (subst (λ ms. StandsBeside began old.0 ms st) (sym (ap (λ ms. shown_all ms.list.items) h.0.mirrors)) old.2);
        on_disk = put after.store (λ q. IsOnDisk q.log new) old.0 is (subst (λ (t : Told). IsOnDisk old.0.log t) (sym h.1) on);
        performed = ap awaited h.0.log ∙ at.performed;
      },
    )

one-act : (began : ℕ) (st : State) (act : Act) (before after : Held) (disk new : Told) → IsAt began before disk st → IsEnoughTo act st → Happens act before disk after new
    → (next : State) × ActStep st act next × IsAt began after new next
one-act began st (Typed s verb reply) before after disk new at enough h = typed began st before after disk new s verb reply at enough h
one-act began st (Line line text) before after disk new at enough h = lined began st before after disk new line text at enough h
one-act began st (Mirrors shown) before after disk new at enough h = mirrored began st before after disk new shown at enough h
one-act began st (More changes) before after disk new at enough h = followed began st before after disk new changes at enough h
one-act began st Idle before after disk new at enough h = idle began st before after disk new at h

-- ---- the first moment

pub client-begins : (bytes : List ℕ) (cache : ℕ) (disk new : Told) (held after : Held) (payloads : List Payload) (w : World Name) → HoldsOpened bytes cache disk held → disk.bytes ≡ bytes → HoldAs standard.log bytes payloads w
    → Performs (awaited held.log) disk new → IsCleared held after → IsAt (length payloads) after new (at_start w payloads cache [])
client-begins bytes cache disk new held after payloads w opened has hold performs cleared =
    let old = there held.store (λ p. IsOpened bytes cache p × LoadNotes bytes p (awaited held.log) disk) opened.0 in
    let is : after.store ≡ Some old.0 = cleared.store ∙ old.1 in
    let none : shown_all after.mirrors.list.items ≡ [] = ap (λ ms. shown_all ms.list.items) cleared.mirrors ∙ ap shown_all opened.1 in
    let stood = start-beside standard.log bytes w payloads cache [] old.0 hold (inl (record { each = tt; first_clone = λ e. inl zero-le })) old.2.0.cache_is (old.2.0.stands payloads w hold) in
    record {
      stands = put after.store (λ q. StandsBeside (length payloads) q (shown_all after.mirrors.list.items) (at_start w payloads cache [])) old.0 is
          (subst (λ ms. StandsBeside (length payloads) old.0 ms (at_start w payloads cache [])) (sym none) stood);
      on_disk = put after.store (λ q. IsOnDisk q.log new) old.0 is ((old.2.1 has).whole new performs).1;
      performed = cleared.calls;
    }

-- ---- all of them

pub clients-run : (began : ℕ) (st : State) (acts : List Act) (before after : Held) (disk new : Told) → IsAt began before disk st → AreEnoughAlong st acts → Happened before disk acts after new
    → (last : State) × ActRun st acts last × IsAt began after new last
clients-run began st [] before after disk new at enough h =
    (st, refl, subst (λ (t : Told). IsAt began after t st) (sym h.1) (subst (λ (x : Held). IsAt began x disk st) (sym h.0) at))
clients-run began st (act ∷ acts) before after disk new at enough h =
    let one = one-act began st act before h.0 disk h.1 at enough.0 h.2 in
    let rest = clients-run began one.0 acts h.0 after h.1 new one.2 (enough.1 one.0 one.1) h.3 in
    (rest.0, (one.0, one.1, rest.1), rest.2)

-- ---- a disk that stops

stops-in : (kept : PlainStore) (payload : List ℕ) (clock : Option ℕ) (next : PlainStore) (calls : List Call) (disk new : Told) → kept.limits ≡ standard → Leaves kept payload clock next calls disk → Stops calls disk new
    → StopsIn kept.log.payloads calls disk new
stops-in kept payload None next calls disk new is leaves stops = inl (subst (λ cs. Stops cs disk new) leaves.0 stops)
stops-in kept payload (Some clock) next calls disk new is leaves stops = inr (
  payload,
  subst (λ (l : Limits). SureSince (λ moment bytes. IsLogWithin l.log kept.log.payloads bytes ⊎ IsLogWithin l.log (kept.log.payloads ++ payload ∷ []) bytes) disk new) is (leaves.stopped new stops),
  λ whole performs. subst (λ (l : Limits). HasPayloads l.log whole (kept.log.payloads ++ payload ∷ [])) is (leaves.whole whole performs).0,
)

pub clients-stop : (began : ℕ) (st : State) (acts : List Act) (before mid after : Held) (disk between new : Told) (line : List ℕ) → IsAt began before disk st → AreEnoughAlong st acts → Happened before disk acts mid between
    → LineCame line between mid after (Ok tt) → Stops (awaited after.log) between new
    → (last : State) × ActRun st acts last × StopsIn (map text_of last.store.payloads) (awaited after.log) between new
clients-stop began st acts before mid after disk between new line at enough h came stops =
    let ran = clients-run began st acts before mid disk between at enough h in
    let L = shown_all mid.mirrors.list.items in
    let old = there mid.store (λ p. MatchOption after.store ⊥ (λ q. HeldNotes mid p line after between (Ok q))) came in
    let now = there after.store (λ q. HeldNotes mid old.0 line after between (Ok q)) old.2 in
    let noted = now.2.1 in
    let does = noted.2 in
    let stood = take mid.store (λ p. StandsBeside began p L ran.0) old.0 old.1 ran.2.stands in
    let on = take mid.store (λ p. IsOnDisk p.log between) old.0 old.1 ran.2.on_disk in
    let calls : awaited after.log ≡ noted.0 = noted.1 ∙ ap (λ cs. cs ++ noted.0) ran.2.performed in
    let cut = stops-in old.0 does.0 does.1 now.0 noted.0 between new (limited mid old.0 old.1) (does.3 on) (subst (λ cs. Stops cs between new) calls stops) in
    (ran.0, ran.1, subst (λ cs. StopsIn (map text_of ran.0.store.payloads) cs between new) (sym calls) (subst (λ texts. StopsIn texts noted.0 between new) stood.stored.texts cut))
