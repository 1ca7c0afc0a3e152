-- From the end of a run to its status, and which logs are refused.
use Rattle.std.proofs.Common.{ℕ, ◌≡◌, ◌≤◌, ◌⊎◌, inl, inr, ⊎_elim, List, [], ◌∷◌, length, Option, Some, None, Ok, Err, IfSome, IfErr, refl, sym, subst, ◌∙◌, arith}
use Rattle.std.specs.declared.result.Result.{Result}
use Rattle.line_io.specs.Streams.{Streams}
use Rattle.disk_trait.specs.Since.{IsUntouched}
use Rattle.id_groups.specs.Name.{Name}
use Rattle.commit_graph.specs.World.{World}
use Rattle.disk_trait.specs.Images.{Told}
use Rattle.line_io.specs.declared.lines.LineFault.{LineFault}
use Rattle.line_io.specs.declared.lines.LineFault.TheVariants.{Read, Limit}
use Rattle.batch_codec.specs.Payload.{Payload}
use Rattle.change_rules.specs.declared.Limits.{Limits}
use Rattle.change_rules.specs.Unlawful.{IsNoLog}
use Rattle.remote_rules.specs.Mirror.{Mirror}
use Rattle.id_groups.specs.Lists.{IsIn}
use Rattle.remote_rules.specs.Serving.{NeverFail}
use Rattle.step_rules.specs.declared.Refusal.TheVariants as why
use Rattle.step_rules.specs.State.{State, Stored, at_start}
use Rattle.step_rules.specs.Reply.{Reply, Refused}
use Rattle.step_rules.specs.Rises.{EachWas, HasFailed}
use Rattle.run_rules.specs.Ends.{End, Done, OverLimit, NoSource, NoSink, NotLoaded, NotStored, NoLog, NoMemory, EndsAs, status_of as end_status}
use Rattle.run_rules.specs.Run.{Run}
use Rattle.run_rules.specs.Means.{IsComplete, Leaves, Means, RefusesLog, WouldStore}
use Rattle.run_rules.proofs.Matched.{run-answered, run-answered-more}
use Rattle.outside.specs.Told.{WhereTold}
use Rattle.outside.proofs.ToldLemmas.{WhereTold-map, WhereTold-both}
use Rattle.disk_trait.specs.Calls.{Goes}
use Rattle.disk_trait.proofs.Telling.{goes-told}
use Rattle.dag_run.specs.Seen.{Seen, seen, streams}
use Rattle.dag_run.specs.Ends.{Begins, RunRefuses, StatusMeans, StatusRefuses, EndRefuses, LoadRefuses}
use Rattle.dag_run.proofs.Seeing.{seen-disk, seen-taken, seen-before}
use Rattle.dag_run.specs.Stops.{end_of, stop_of, IsAnswerStop, IsRunStatus, IsLineStop, IsLoadStop}
use Rattle.dag_run.specs.declared.stops.Stop.{Stop}
use Rattle.dag_run.specs.declared.stops.Stop.TheVariants as stops

pub status-known : (end : Result Unit Stop) → IsRunStatus (end_status (end_of end))
status-known (Ok x) = refl
status-known (Err stops.Memory) = refl
status-known (Err stops.NoLog) = refl
status-known (Err stops.NotLoaded) = refl
status-known (Err stops.NotStored) = refl
status-known (Err stops.Source) = refl
status-known (Err stops.Sink) = refl
status-known (Err stops.Limit) = refl

pub of-disk : (end : Result Unit Stop) → end_status (end_of end) ≡ 3 → (end ≡ Err stops.NotLoaded) ⊎ (end ≡ Err stops.NotStored)
of-disk (Ok x) e = absurd (cc e)
of-disk (Err stops.Memory) e = absurd (cc e)
of-disk (Err stops.NoLog) e = absurd (cc e)
of-disk (Err stops.NotLoaded) e = inl refl
of-disk (Err stops.NotStored) e = inr refl
of-disk (Err stops.Source) e = absurd (cc e)
of-disk (Err stops.Sink) e = absurd (cc e)
of-disk (Err stops.Limit) e = absurd (cc e)

pub of-log : (end : Result Unit Stop) → end_status (end_of end) ≡ 4 → end ≡ Err stops.NoLog
of-log (Ok x) e = absurd (cc e)
of-log (Err stops.Memory) e = absurd (cc e)
of-log (Err stops.NoLog) e = refl
of-log (Err stops.NotLoaded) e = absurd (cc e)
of-log (Err stops.NotStored) e = absurd (cc e)
of-log (Err stops.Source) e = absurd (cc e)
of-log (Err stops.Sink) e = absurd (cc e)
of-log (Err stops.Limit) e = absurd (cc e)

pub of-source : (end : Result Unit Stop) → end_status (end_of end) ≡ 5 → end ≡ Err stops.Source
of-source (Ok x) e = absurd (cc e)
of-source (Err stops.Memory) e = absurd (cc e)
of-source (Err stops.NoLog) e = absurd (cc e)
of-source (Err stops.NotLoaded) e = absurd (cc e)
of-source (Err stops.NotStored) e = absurd (cc e)
of-source (Err stops.Source) e = refl
of-source (Err stops.Sink) e = absurd (cc e)
of-source (Err stops.Limit) e = absurd (cc e)

pub of-sink : (end : Result Unit Stop) → end_status (end_of end) ≡ 6 → end ≡ Err stops.Sink
of-sink (Ok x) e = absurd (cc e)
of-sink (Err stops.Memory) e = absurd (cc e)
of-sink (Err stops.NoLog) e = absurd (cc e)
of-sink (Err stops.NotLoaded) e = absurd (cc e)
of-sink (Err stops.NotStored) e = absurd (cc e)
of-sink (Err stops.Source) e = absurd (cc e)
of-sink (Err stops.Sink) e = refl
of-sink (Err stops.Limit) e = absurd (cc e)

pub of-memory : (end : Result Unit Stop) → end_status (end_of end) ≡ 7 → end ≡ Err stops.Memory
of-memory (Ok x) e = absurd (cc e)
of-memory (Err stops.Memory) e = refl
of-memory (Err stops.NoLog) e = absurd (cc e)
of-memory (Err stops.NotLoaded) e = absurd (cc e)
of-memory (Err stops.NotStored) e = absurd (cc e)
of-memory (Err stops.Source) e = absurd (cc e)
of-memory (Err stops.Sink) e = absurd (cc e)
of-memory (Err stops.Limit) e = absurd (cc e)

-- a run that no fault ended, of an input within the limit, over a disk that holds a world
ends-well : (end : Result Unit Stop) (limit : ℕ) (io : Streams) (DiskFailed SourceFailed SinkFailed : Type 0) (lines more : List (List ℕ)) (replies : List Reply) → EndsAs (end_of end) limit io SinkFailed lines more replies
    → ((end ≡ Err stops.NotLoaded) ⊎ (end ≡ Err stops.NotStored) → DiskFailed) → (end ≡ Err stops.Source → SourceFailed) → (end ≡ Err stops.Sink → SinkFailed)
    → (DiskFailed → ⊥) → (SourceFailed → ⊥) → (SinkFailed → ⊥) → length io.input ≤ limit → (end_of end ≡ Done) ⊎ (end_of end ≡ NoMemory)
ends-well (Ok x) limit io DF SoF SiF lines more replies h d s o nd ns never le = inl refl
ends-well (Err stops.Memory) limit io DF SoF SiF lines more replies h d s o nd ns never le = inr refl
ends-well (Err stops.NoLog) limit io DF SoF SiF lines more replies h d s o nd ns never le = absurd h
ends-well (Err stops.NotLoaded) limit io DF SoF SiF lines more replies h d s o nd ns never le = absurd (nd (d (inl refl)))
ends-well (Err stops.NotStored) limit io DF SoF SiF lines more replies h d s o nd ns never le = absurd (nd (d (inr refl)))
ends-well (Err stops.Source) limit io DF SoF SiF lines more replies h d s o nd ns never le = absurd (ns (s refl))
ends-well (Err stops.Sink) limit io DF SoF SiF lines more replies h d s o nd ns never le = absurd (never (o refl))
ends-well (Err stops.Limit) limit io DF SoF SiF lines more replies h d s o nd ns never le = absurd (let lt = h.0 in omega (arith, lt, le))

-- no line is refused for failed mirrors, where they never fail, or one that is left has none
answered : (limits : Limits) (first : State) (lines : List (List ℕ)) (replies : List Reply) (last : State) (end : End) (more : List (List ℕ)) (left : List Mirror) (final : Stored) (n : ℕ) → Run limits first lines replies last → Leaves end limits last more left final
    → NeverFail first.outside.mirrors ⊎ (EachWas HasFailed first.outside.mirrors left → ⊥) → IsIn (Refused (why.Remote n)) replies → ⊥
answered limits first lines replies last end more left final n run leaves h i = by_end end leaves
  where
    there : (left ≡ last.outside.mirrors) × (final ≡ last.store) → ⊥
    there e = run-answered limits lines first last replies n run (subst (λ ms. NeverFail first.outside.mirrors ⊎ (EachWas HasFailed first.outside.mirrors ms → ⊥)) e.0 h) i

    stored : (more : List (List ℕ)) → WouldStore limits last more left final → ⊥
    stored [] w = w
    stored (line ∷ more) w = run-answered-more limits lines first last w.1 line replies w.0 n run w.2 (subst (λ ms. NeverFail first.outside.mirrors ⊎ (EachWas HasFailed first.outside.mirrors ms → ⊥)) w.5 h) i

    by_end : (e : End) → Leaves e limits last more left final → ⊥
    by_end NotStored l = stored more l
    by_end Done l = there l
    by_end OverLimit l = there l
    by_end NoSource l = there l
    by_end NoSink l = there l
    by_end NotLoaded l = there l
    by_end NoLog l = there l
    by_end NoMemory l = there l

pub complete : (end : Result Unit Stop) (limits : Limits) (w : World Name) (payloads : List Payload) (room : ℕ) (mirrors left : List Mirror) (io : Streams) (DiskFailed SourceFailed SinkFailed : Type 0) (old new : Told) (changes : List ℕ)
    (m : Means limits w payloads room mirrors left io SinkFailed old new (end_of end) changes)
    → ((end ≡ Err stops.NotLoaded) ⊎ (end ≡ Err stops.NotStored) → DiskFailed) → (end ≡ Err stops.Source → SourceFailed) → (end ≡ Err stops.Sink → SinkFailed)
    → IsComplete limits mirrors left io DiskFailed SourceFailed SinkFailed (end_of end) m.replies
complete end limits w payloads room mirrors left io DF SoF SiF old new changes m d s o = record {
  ends = ends-well end limits.input io DF SoF SiF m.lines m.more m.replies m.ends d s o;
  answered = λ h n i. answered limits (at_start w payloads room mirrors) m.lines m.replies m.last (end_of end) m.more left m.final n m.run m.leaves h i;
}

-- from the end of a run to its status
pub run-means : (limits : Limits) (w : World Name) (payloads : List Payload) (room : ℕ) (mirrors left : List Mirror) (DiskFailed SourceFailed SinkFailed : Type 0) (end : Result Unit Stop) (status : ℕ) (changes moments : List ℕ) (a b : Option Seen)
    → status ≡ end_status (end_of end) → moments ≡ changes
    → ((end ≡ Err stops.NotLoaded) ⊎ (end ≡ Err stops.NotStored) → DiskFailed) → (end ≡ Err stops.Source → SourceFailed) → (end ≡ Err stops.Sink → SinkFailed)
    → WhereTold a b (λ before after. Begins limits w payloads room mirrors before → Means limits w payloads room mirrors left (streams before after) SinkFailed before.disk after.disk (end_of end) changes)
    → WhereTold a b (λ before after. Begins limits w payloads room mirrors before → StatusMeans limits w payloads room mirrors left DiskFailed SourceFailed SinkFailed status moments before after)
run-means limits w payloads room mirrors left DF SoF SiF end status changes moments a b is same disk source sink told =
    WhereTold-map a b (λ x y. Begins limits w payloads room mirrors x → Means limits w payloads room mirrors left (streams x y) SiF x.disk y.disk (end_of end) changes) _
    (λ x y h begins.
    let m = h begins in
    subst (λ l. StatusMeans limits w payloads room mirrors left DF SoF SiF status l x y) (sym same)
    (end_of end, is, m, complete end limits w payloads room mirrors left (streams x y) DF SoF SiF x.disk y.disk changes m disk source sink)) told

-- ---- what is refused
pub refuses-nothing : (limit : ℕ) (b : Option (List ℕ)) → IfSome b (λ bytes. RunRefuses limit bytes (Err stops.Memory))
refuses-nothing limit None = tt
refuses-nothing limit (Some bytes) = (λ e. absurd (cc e), λ h. inr (inr refl))

pub load-refuses : (limit : ℕ) (b : Option (List ℕ)) (stop : Stop) → IsLoadStop stop → IfSome b (λ bytes. LoadRefuses limit bytes (Err stop)) → IfSome b (λ bytes. RunRefuses limit bytes (Err stop))
load-refuses limit None stop is h = tt
load-refuses limit (Some bytes) stops.Memory is h = (λ e. absurd (cc e), λ n. inr (inr refl))
load-refuses limit (Some bytes) stops.NoLog is h = (λ e. h, λ n. inl refl)
load-refuses limit (Some bytes) stops.NotLoaded is h = (λ e. absurd (cc e), λ n. inr (inl refl))
load-refuses limit (Some bytes) stops.NotStored is h = absurd is
load-refuses limit (Some bytes) stops.Source is h = absurd is
load-refuses limit (Some bytes) stops.Sink is h = absurd is
load-refuses limit (Some bytes) stops.Limit is h = absurd is

pub line-refuses : (limit : ℕ) (b : Option (List ℕ)) (result : Result Unit Stop) → (result ≡ Err stops.NoLog → ⊥) → IfSome b (λ bytes. IsNoLog limit bytes → ⊥) → IfSome b (λ bytes. RunRefuses limit bytes result)
line-refuses limit None result never h = tt
line-refuses limit (Some bytes) result never h = (λ e. absurd (never e), λ n. absurd (h n))

pub answer-never : (result : Result Unit Stop) (stop : Stop) → IfErr result IsAnswerStop → (IsAnswerStop stop → ⊥) → result ≡ Err stop → ⊥
answer-never result stop is never e = never (subst (λ r. IfErr r IsAnswerStop) e is)

pub fault-answers : (fault : LineFault) → IsAnswerStop (stop_of fault)
fault-answers Read = tt
fault-answers Limit = tt

pub line-answers : (stop : Stop) → IsLineStop stop → IsAnswerStop stop
line-answers stops.Sink is = tt
line-answers stops.NotStored is = tt
line-answers stops.Memory is = absurd is
line-answers stops.NoLog is = absurd is
line-answers stops.NotLoaded is = absurd is
line-answers stops.Source is = absurd is
line-answers stops.Limit is = absurd is

pub log-not-loaded : (stop : Stop) → stop ≡ stops.NoLog → stop ≡ stops.NotLoaded → ⊥
log-not-loaded stop e f = let same : stops.NoLog ≡ stops.NotLoaded = sym e ∙ f in cc same

pub status-refuses : (limit : ℕ) (b : Option (List ℕ)) (end : Result Unit Stop) (status : ℕ) → status ≡ end_status (end_of end) → IfSome b (λ bytes. RunRefuses limit bytes end) → IfSome b (λ bytes. StatusRefuses limit bytes status)
status-refuses limit None end status e h = tt
status-refuses limit (Some bytes) end status e h = (
  λ four. h.0 (of-log end (sym e ∙ four)),
  λ n. ⊎_elim (λ a. inl (e ∙ by_end end a)) (λ r. inr (⊎_elim (λ a. inl (e ∙ not_loaded end a)) (λ a. inr (e ∙ no_memory end a)) r)) (h.1 n),
)
  where
    by_end : (r : Result Unit Stop) → r ≡ Err stops.NoLog → end_status (end_of r) ≡ 4
    by_end r a = subst (λ x. end_status (end_of x) ≡ 4) (sym a) refl

    not_loaded : (r : Result Unit Stop) → r ≡ Err stops.NotLoaded → end_status (end_of r) ≡ 3
    not_loaded r a = subst (λ x. end_status (end_of x) ≡ 3) (sym a) refl

    no_memory : (r : Result Unit Stop) → r ≡ Err stops.Memory → end_status (end_of r) ≡ 7
    no_memory r a = subst (λ x. end_status (end_of x) ≡ 7) (sym a) refl

-- ---- the end that refuses a log
end-refuses : (limit : ℕ) (end : Result Unit Stop) (io : Streams) (old new : Told) → RunRefuses limit old.bytes end → (end ≡ Err stops.NoLog → (new.bytes ≡ old.bytes) × (io.now ≡ io.taken)) → RefusesLog limit io old new (end_of end)
end-refuses limit end io old new h still = record {
  cause = λ e. let is = log-end end e in (h.0 is, (still is).0, (still is).1);
  exactly = λ n. ⊎_elim (λ a. inl (subst (λ x. end_of x ≡ NoLog) (sym a) refl)) (λ r. inr (⊎_elim (λ a. inl (subst (λ x. end_of x ≡ NotLoaded) (sym a) refl)) (λ a. inr (subst (λ x. end_of x ≡ NoMemory) (sym a) refl)) r)) (h.1 n);
}
  where
    log-end : (r : Result Unit Stop) → end_of r ≡ NoLog → r ≡ Err stops.NoLog
    log-end (Ok x) e = absurd (cc e)
    log-end (Err stops.Memory) e = absurd (cc e)
    log-end (Err stops.NoLog) e = refl
    log-end (Err stops.NotLoaded) e = absurd (cc e)
    log-end (Err stops.NotStored) e = absurd (cc e)
    log-end (Err stops.Source) e = absurd (cc e)
    log-end (Err stops.Sink) e = absurd (cc e)
    log-end (Err stops.Limit) e = absurd (cc e)

-- where nothing was written
still-so : (d e : Option Told) (i j o p : Option (List ℕ)) (A : Seen → Seen → Type 0) (end : Result Unit Stop) → WhereTold (seen d i o) (seen e j p) A → (end ≡ Err stops.NoLog → Goes IsUntouched d e × WhereTold o p (λ x y. y ≡ x))
    → WhereTold (seen d i o) (seen e j p) (λ x y. end ≡ Err stops.NoLog → (y.disk.bytes ≡ x.disk.bytes) × (y.taken ≡ x.taken))
still-so d e i j o p A end told still = by_end end still
  where
    by_end : (r : Result Unit Stop) → (r ≡ Err stops.NoLog → Goes IsUntouched d e × WhereTold o p (λ x y. y ≡ x))
        → WhereTold (seen d i o) (seen e j p) (λ x y. r ≡ Err stops.NoLog → (y.disk.bytes ≡ x.disk.bytes) × (y.taken ≡ x.taken))
    by_end (Err stops.NoLog) h =
        let s = h refl in
        WhereTold-both (seen d i o) (seen e j p) (λ x y. IsUntouched x.disk y.disk) (λ x y. y.taken ≡ x.taken) _ (λ x y a b e. (a.0, b))
        (seen-disk d e i j o p A IsUntouched told (goes-told IsUntouched d e s.0)) (seen-taken d e i j o p A (λ x y. y ≡ x) told s.1)
    by_end (Ok x) h = WhereTold-map (seen d i o) (seen e j p) A _ (λ x y a e. absurd (cc e)) told
    by_end (Err stops.Memory) h = WhereTold-map (seen d i o) (seen e j p) A _ (λ x y a e. absurd (cc e)) told
    by_end (Err stops.NotLoaded) h = WhereTold-map (seen d i o) (seen e j p) A _ (λ x y a e. absurd (cc e)) told
    by_end (Err stops.NotStored) h = WhereTold-map (seen d i o) (seen e j p) A _ (λ x y a e. absurd (cc e)) told
    by_end (Err stops.Source) h = WhereTold-map (seen d i o) (seen e j p) A _ (λ x y a e. absurd (cc e)) told
    by_end (Err stops.Sink) h = WhereTold-map (seen d i o) (seen e j p) A _ (λ x y a e. absurd (cc e)) told
    by_end (Err stops.Limit) h = WhereTold-map (seen d i o) (seen e j p) A _ (λ x y a e. absurd (cc e)) told

pub no-log : (limits : Limits) (status : ℕ) (d e : Option Told) (i j o p : Option (List ℕ)) (A : Seen → Seen → Type 0) (end : Result Unit Stop) → status ≡ end_status (end_of end) → WhereTold (seen d i o) (seen e j p) A
    → (end ≡ Err stops.NoLog → Goes IsUntouched d e × WhereTold o p (λ x y. y ≡ x)) → IfSome d (λ t. RunRefuses limits.log t.bytes end) → WhereTold (seen d i o) (seen e j p) (EndRefuses limits status)
no-log limits status d e i j o p A end is told still refuses =
    WhereTold-both (seen d i o) (seen e j p) (λ x y. RunRefuses limits.log x.disk.bytes end) (λ x y. end ≡ Err stops.NoLog → (y.disk.bytes ≡ x.disk.bytes) × (y.taken ≡ x.taken)) (EndRefuses limits status)
    (λ x y r s. (end_of end, is, end-refuses limits.log end (streams x y) x.disk y.disk r s))
    (seen-before d e i j o p A (λ t. RunRefuses limits.log t.bytes end) told refuses) (still-so d e i j o p A end told still)
