-- What comes of a line of an open log.
use Rattle.std.proofs.Common.{◌≡◌, ℕ, List, [], Some, None, Ok, Err, refl, sym, subst}
use Rattle.std.specs.Prelude.{MatchOption}
use Rattle.std.specs.declared.result.Result.{Result}
use Rattle.outside.specs.Counts.{Rose}
use Rattle.disk_trait.specs.Images.{Told}
use Rattle.line_io.specs.Memory.{MemoryOutput}
use Rattle.remote_rules.specs.Mirror.{Mirror}
use Rattle.call_disk.specs.Awaited.{awaited}
use Rattle.call_disk.specs.Noted.{Call}
use Rattle.dag_run.specs.Stops.{IsLineStop}
use Rattle.dag_run.specs.declared.stops.Stop.{Stop}
use Rattle.dag_run.specs.declared.stops.Stop.TheVariants as stops
use Rattle.dag_store.specs.Kept.{PlainStore}
use Rattle.segdag_c.specs.declared.codes.Failure.{Failure}
use Rattle.segdag_c.specs.declared.codes.Failure.TheVariants.{Disk}
use Rattle.segdag_c.specs.declared.held.Held.{Held}
use Rattle.segdag_c.specs.Answers.{HeldNotes, LineCame, LineNotes, TakesStore, stop_failure}
use Rattle.segdag_c.specs.Handles.{IsSame}
use Rattle.segdag_c.specs.Mirrors.{shown_all}

-- what was noted over the parts of what is held, of what is held
pub held-notes : (before after : Held) (old : PlainStore) (line : List ℕ) (disk : Told) (r : Result PlainStore Stop) (first left : List Mirror) (noted log : List Call) (faults : ℕ) (taken : List ℕ) (sink : MemoryOutput)
    → first ≡ shown_all before.mirrors.list.items → noted ≡ awaited before.log → left ≡ shown_all after.mirrors.list.items → log ≡ awaited after.log → sink ≡ after.reply → faults ≡ 0 → taken ≡ []
    → after.names ≡ before.names → LineNotes first old noted line left log faults taken sink disk r → HeldNotes before old line after disk r
held-notes before after old line disk r first left noted log faults taken sink at_first was at_last is reply none fresh names notes =
    let one = subst (λ (ms : List Mirror). LineNotes ms old noted line left log faults taken sink disk r) at_first notes in
    let two = subst (λ (cs : List Call). LineNotes (shown_all before.mirrors.list.items) old cs line left log faults taken sink disk r) was one in
    let three = subst (λ (ms : List Mirror). LineNotes (shown_all before.mirrors.list.items) old (awaited before.log) line ms log faults taken sink disk r) at_last two in
    let four = subst (λ (cs : List Call). LineNotes (shown_all before.mirrors.list.items) old (awaited before.log) line (shown_all after.mirrors.list.items) cs faults taken sink disk r) is three in
    let five = subst (λ (o : MemoryOutput). LineNotes (shown_all before.mirrors.list.items) old (awaited before.log) line (shown_all after.mirrors.list.items) (awaited after.log) faults taken o disk r) reply four in
    let six = subst (λ (n : ℕ). LineNotes (shown_all before.mirrors.list.items) old (awaited before.log) line (shown_all after.mirrors.list.items) (awaited after.log) n taken after.reply disk r) none five in
    (names, subst (λ (t : List ℕ). LineNotes (shown_all before.mirrors.list.items) old (awaited before.log) line (shown_all after.mirrors.list.items) (awaited after.log) 0 t after.reply disk r) fresh six)

-- it was answered
pub line-answered : (before after : Held) (old next : PlainStore) (line : List ℕ) (disk : Told) (done : Unit {0}) → before.store ≡ Some old → after.store ≡ Some next
    → HeldNotes before old line after disk (Ok next) → LineCame line disk before after (Ok done)
line-answered before after old next line disk done was is notes =
    subst (λ o. MatchOption o ⊥ (λ p. MatchOption after.store ⊥ (λ q. HeldNotes before p line after disk (Ok q)))) (sym was)
    (subst (λ o. MatchOption o ⊥ (λ q. HeldNotes before old line after disk (Ok q))) (sym is) notes)

-- it stopped
line-stops : (before after : Held) (old : PlainStore) (line : List ℕ) (disk : Told) (stop : Stop) → IsLineStop stop → before.store ≡ Some old → after.store ≡ None
    → HeldNotes before old line after disk (Err stop) → (stop ≡ stops.Sink → Rose 0 after.reply.faults) → LineCame line disk before after (Err (stop_failure stop))
line-stops before after old line disk stops.Memory may was gone notes rose = absurd may
line-stops before after old line disk stops.NoLog may was gone notes rose = absurd may
line-stops before after old line disk stops.NotLoaded may was gone notes rose = absurd may
line-stops before after old line disk stops.NotStored may was gone notes rose =
    subst (λ o. MatchOption o (IsSame before after) (λ p. TakesStore before p line after disk stops.NotStored)) (sym was) (gone, notes)
line-stops before after old line disk stops.Source may was gone notes rose = absurd may
line-stops before after old line disk stops.Sink may was gone notes rose = subst (λ o. MatchOption o ⊥ (λ p. TakesStore before p line after disk stops.Sink × Rose 0 after.reply.faults)) (sym was) ((gone, notes), rose refl)
line-stops before after old line disk stops.Limit may was gone notes rose = absurd may

pub line-stopped : (before after : Held) (old : PlainStore) (line : List ℕ) (disk : Told) (stop : Stop) (failure : Failure) → failure ≡ stop_failure stop → IsLineStop stop → before.store ≡ Some old → after.store ≡ None
    → HeldNotes before old line after disk (Err stop) → (stop ≡ stops.Sink → Rose 0 after.reply.faults) → LineCame line disk before after (Err failure)
line-stopped before after old line disk stop failure is may was gone notes rose =
    subst (λ f. LineCame line disk before after (Err f)) (sym is) (line-stops before after old line disk stop may was gone notes rose)

-- the store was gone
pub line-lost : (before after : Held) (line : List ℕ) (disk : Told) → before.store ≡ None → IsSame before after → LineCame line disk before after (Err Disk)
line-lost before after line disk was same = subst (λ o. MatchOption o (IsSame before after) (λ p. TakesStore before p line after disk stops.NotStored)) (sym was) same
