-- How a run ends.
use Rattle.std.proofs.Common.{ℕ, ◌≡◌, ◌≤◌, ◌+◌, ◌⊎◌, inl, inr, ⊎_elim, false, List, [], ◌∷◌, ◌++◌, length, map, take, refl, sym, ◌∙◌, ap, subst, append_assoc, append-nil, Option, Some, None, Ok, Err, arith}
use Rattle.std.specs.declared.result.Result.{Result}
use Rattle.std.proofs.lemmas.Bool.{ltb-true, ltb-false}
use Rattle.id_groups.specs.Name.{Name}
use Rattle.commit_graph.specs.World.{World}
use Rattle.disk_trait.specs.Images.{Told, IsSound, moment_of}
use Rattle.disk_trait.specs.Since.{SureSince}
use Rattle.gated_log.specs.Load.{IsSureOf, IsSureBehind}
use Rattle.line_io.specs.Lines.{lines_of, whole_lines, is_silent}
use Rattle.line_io.specs.Reading.{Reading, lines_left}
use Rattle.line_io.specs.Next.{NextLine, IsLine, IsReadOut}
use Rattle.line_io.specs.declared.lines.Line.{Line}
use Rattle.line_io.specs.declared.lines.LineFault.{LineFault}
use Rattle.line_io.specs.declared.lines.LineFault.TheVariants.{Read, Limit}
use Rattle.batch_codec.specs.Payload.{Payload}
use Rattle.change_rules.specs.declared.Limits.{Limits}
use Rattle.change_rules.specs.Standard.{AreLimits}
use Rattle.change_rules.specs.Change.{text_of}
use Rattle.change_rules.specs.Holding.{HoldBytes, KeepsHolding}
use Rattle.step_rules.specs.State.{State, at_start, start}
use Rattle.step_rules.specs.Reply.{Reply, reply_text}
use Rattle.remote_rules.specs.Mirror.{Mirror}
use Rattle.run_rules.specs.Run.{Run, Step, output_of}
use Rattle.run_rules.specs.Ends.{End, Done, OverLimit, NoSource, NoMemory, NotLoaded, EndsAs, WroteFault, disk_text}
use Rattle.run_rules.specs.Means.{Keeps, CallsEnd, Leaves, Means, last_of, loaded_at}
use Rattle.gated_log.specs.Holding.{IsLogWithin}
use Rattle.run_rules.specs.Stopped.{Stopped, ArePrefixes}
use Rattle.segment_codec.proofs.Tables.{le_or_lt}
use Rattle.run_rules.proofs.Nothing.{loaded-later}
use Rattle.dag_store.specs.Changes.{CutShort}
use Rattle.dag_store.specs.Kept.{PlainStore}
use Rattle.dag_run.specs.Seen.{Seen, streams}
use Rattle.dag_run.specs.Ends.{Begins}
use Rattle.dag_run.specs.Between.{Reads, Going}
use Rattle.dag_run.specs.Stops.{stop_of, end_of}
use Rattle.dag_run.specs.Lines.{changes_with, PutsFault, IsLimited, Replies, LineReplies, LineLeaves, StoresOn}
use Rattle.dag_run.specs.declared.stops.Stop.{Stop}
use Rattle.dag_run.specs.declared.stops.Stop.TheVariants as stops
use Rattle.std.proofs.Common.{IfSome}
use Rattle.outside.specs.Told.{WhereTold}
use Rattle.outside.proofs.ToldLemmas.{WhereTold-map}
use Rattle.disk_trait.specs.Calls.{Goes}
use Rattle.disk_trait.proofs.Telling.{goes-both, goes-from, goes-told}
use Rattle.gated_log.specs.Load.{LoadCalls}
use Rattle.gated_log.proofs.Damage.{log-or-damaged}
use Rattle.change_rules.specs.Holding.{HoldAs}
use Rattle.dag_run.specs.Seen.{seen}
use Rattle.dag_run.specs.Ends.{OpensRun, LoadPuts}
use Rattle.dag_run.specs.Stops.{IsLoadStop}
use Rattle.dag_run.proofs.Seeing.{Each, seen-each, same-told}
use Rattle.dag_run.proofs.Going.{prefixes, fresh-prefixes, stays-line, read-on, rests, run-on, step-as}
use Rattle.dag_run.proofs.Staying.{stopped-there, stopped-loaded, stopped-loading, stopped-short, short-sure, bytes-now, log-of}

-- what a run ends as means what a run has to
abbrev pub RunMeans : Limits → World Name → List Payload → ℕ → List Mirror → List Mirror → Type 0 → Result Unit Stop → List ℕ → Seen → Seen → Type 0
RunMeans limits w payloads room mirrors left SinkFailed result changes before after =
    Means limits w payloads room mirrors left (streams before after) SinkFailed before.disk after.disk (end_of result) changes

-- by the changes that there are
pub means-as : (limits : Limits) (w : World Name) (payloads : List Payload) (room : ℕ) (mirrors left : List Mirror) (SinkFailed : Type 0) (result : Result Unit Stop) (changes others : List ℕ) (before after : Seen) → others ≡ changes
    → RunMeans limits w payloads room mirrors left SinkFailed result changes before after → RunMeans limits w payloads room mirrors left SinkFailed result others before after
means-as limits w payloads room mirrors left SinkFailed result changes others before after e h = subst (λ cs. RunMeans limits w payloads room mirrors left SinkFailed result cs before after) (sym e) h

wrote-fault : (SinkFailed : Type 0) (before mid after : Seen) (replies : List Reply) → mid.taken ≡ before.taken ++ output_of replies → PutsFault SinkFailed mid.taken after.taken → WroteFault (streams before after) SinkFailed replies
wrote-fault SinkFailed before mid after replies e (inl put) = inl (put ∙ ap (λ t. t ++ disk_text) e)
wrote-fault SinkFailed before mid after replies e (inr (failed, count, put)) = inr (failed, count, put ∙ ap (λ t. t ++ take count disk_text) e)

-- the sink failed since before
failed-since : (Here SinkFailed : Type 0) → (Here → SinkFailed) → (began : ℕ) (left : List Mirror) (st : State) (Does : Reply → State → Type 0) (payload : List ℕ) (clock : Option ℕ) (stop : Stop) (before now : List ℕ)
    → Replies Here began left st Does payload clock (Err stop) before now → Replies SinkFailed began left st Does payload clock (Err stop) before now
failed-since Here SinkFailed since began left st Does payload clock stops.NotStored before now h = (h.0, h.1, h.2, h.3, h.4, h.5, ⊎_elim (λ e. inl e) (λ f. inr (since f.0, f.1, f.2)) h.6)
failed-since Here SinkFailed since began left st Does payload clock stops.Sink before now h = h
failed-since Here SinkFailed since began left st Does payload clock stops.Memory before now h = absurd h
failed-since Here SinkFailed since began left st Does payload clock stops.NoLog before now h = absurd h
failed-since Here SinkFailed since began left st Does payload clock stops.NotLoaded before now h = absurd h
failed-since Here SinkFailed since began left st Does payload clock stops.Source before now h = absurd h
failed-since Here SinkFailed since began left st Does payload clock stops.Limit before now h = absurd h

module _ (limits : Limits) (fair : AreLimits limits) (w : World Name) (payloads : List Payload) (room : ℕ) (mirrors : List Mirror) (SinkFailed : Type 0) (before : Seen) (begins : Begins limits w payloads room mirrors before) where
  -- ---- before the first line
  -- there was no memory, and nothing was called
  pub ends-unread : (after : Seen) → after.disk ≡ before.disk → after.left ≡ before.left → after.taken ≡ before.taken → RunMeans limits w payloads room mirrors mirrors SinkFailed (Err stops.Memory) [] before after
  ends-unread after disk left taken = subst (λ t. Means limits w payloads room mirrors mirrors (streams before after) SinkFailed before.disk t NoMemory []) (sym disk) (record {
    lines = [];
    replies = [];
    last = at_start w payloads room mirrors;
    run = (refl, refl);
    more = [];
    ends = (refl, left, taken);
    stored = refl;
    final = start w payloads;
    leaves = (refl, refl);
    each = tt;
    calls = loaded-later before.disk;
    stopped = stopped-there limits w payloads before.disk (fresh-prefixes limits fair w payloads room mirrors before begins) begins.0.holds;
    sure = inl (let near : moment_of before.disk + 1 ≤ moment_of before.disk + 2 = omega arith in near);
    kept = tt;
  })

  -- there was none to load the store
  pub ends-memory : (after : Seen) → SureSince (λ moment image. HoldBytes limits.log image w) before.disk after.disk → IsSureOf limits.log (map text_of payloads) before.disk after.disk
      → moment_of after.disk ≤ loaded_at before.disk → after.left ≡ before.left → after.taken ≡ before.taken → RunMeans limits w payloads room mirrors mirrors SinkFailed (Err stops.Memory) [] before after
  ends-memory after holds is_sure calls left taken = record {
    lines = [];
    replies = [];
    last = at_start w payloads room mirrors;
    run = (refl, refl);
    more = [];
    ends = (refl, left, taken);
    stored = refl;
    final = start w payloads;
    leaves = (refl, refl);
    each = tt;
    calls = calls;
    stopped = stopped-loaded limits w payloads before.disk after.disk (fresh-prefixes limits fair w payloads room mirrors before begins) holds (log-of limits.log before.disk.bytes w payloads begins.0.read) is_sure;
    sure = inl (let near : moment_of before.disk + 2 ≤ moment_of before.disk + 2 = omega arith in near);
    kept = tt;
  }

  -- the disk failed while it was loaded: at the first call, which is a sync, or behind it, and then all was sure
  pub ends-unloaded : (after : Seen) → SureSince (λ moment image. HoldBytes limits.log image w) before.disk after.disk → IsSureBehind limits.log (map text_of payloads) before.disk after.disk
      → moment_of after.disk ≤ loaded_at before.disk → PutsFault SinkFailed before.taken after.taken → RunMeans limits w payloads room mirrors mirrors SinkFailed (Err stops.NotLoaded) [] before after
  ends-unloaded after holds behind calls put =
      ⊎_elim
      (λ le. unloaded (stopped-loading limits w payloads before.disk after.disk fresh holds) (inr (refl, le)))
      (λ lt. unloaded (stopped-loaded limits w payloads before.disk after.disk fresh holds (log-of limits.log before.disk.bytes w payloads begins.0.read) (behind lt))
      (inl (let near : moment_of before.disk + 2 ≤ moment_of before.disk + 2 = omega arith in near)))
      (le_or_lt (moment_of after.disk) (moment_of before.disk + 2))
    where
      fresh : ArePrefixes payloads (start w payloads)
      fresh = fresh-prefixes limits fair w payloads room mirrors before begins

      unloaded : (stopped : Stopped limits.log w payloads [] (start w payloads) before.disk after.disk)
          → (stopped.sure ≤ moment_of before.disk + 2) ⊎ ((NotLoaded ≡ NotLoaded) × (moment_of after.disk ≤ moment_of before.disk + 2))
          → RunMeans limits w payloads room mirrors mirrors SinkFailed (Err stops.NotLoaded) [] before after
      unloaded stopped sure = record {
        lines = [];
        replies = [];
        last = at_start w payloads room mirrors;
        run = (refl, refl);
        more = [];
        ends = (refl, wrote-fault SinkFailed before before after [] (sym (append-nil before.taken)) put);
        stored = refl;
        final = start w payloads;
        leaves = (refl, refl);
        each = tt;
        calls = calls;
        stopped = stopped;
        sure = sure;
        kept = tt;
      }

  -- ---- behind a line
  module _ (left : List Mirror) (store : PlainStore) (changes : List ℕ) (old new : Reading) (mid after : Seen) (h : Going limits w payloads room mirrors left store changes old before mid) where
    abbrev sure-on : h.stays.stopped.sure ≤ moment_of before.disk + 2
    sure-on = let e = h.stays.sure in omega (arith, e)

    ended-at : moment_of mid.disk ≤ last_of (loaded_at before.disk) changes
    ended-at = let e = h.stays.calls in omega (arith, e)

    -- the disk is as it was
    answered : (end : End) (lines : List (List ℕ)) → lines ≡ h.lines → after.disk ≡ mid.disk → IsSound mid.disk → EndsAs end limits.input (streams before after) SinkFailed lines [] h.replies
        → ((limit : ℕ) (ps : List Payload) (t : Told) → IsLogWithin limit (map text_of ps) t.bytes → Keeps end limit ps t) → (Leaves end limits h.last [] left h.last.store)
        → CallsEnd end before.disk changes (moment_of mid.disk) → Means limits w payloads room mirrors left (streams before after) SinkFailed before.disk after.disk end changes
    answered end lines all disk sound ends keeps leaves calls = subst (λ t. Means limits w payloads room mirrors left (streams before after) SinkFailed before.disk t end changes) (sym disk) (record {
      lines = lines;
      replies = h.replies;
      last = h.last;
      run = subst (λ ls. Run limits (at_start w payloads room mirrors) ls h.replies h.last) (sym all) h.run;
      more = [];
      ends = ends;
      stored = h.stays.stored;
      final = h.last.store;
      leaves = leaves;
      each = h.stays.each;
      calls = calls;
      stopped = h.stays.stopped;
      sure = inl sure-on;
      kept = keeps limits.log h.last.store.payloads mid.disk (bytes-now limits.log (map text_of h.last.store.payloads) mid.disk sound h.stays.has);
    })

    -- the mirrors that are left
    left-are : left ≡ h.last.outside.mirrors
    left-are = sym h.stands.outside_of.mirrors_are

    no-more : lines_left old mid.left ≡ [] → lines_of limits.input before.left ≡ h.lines
    no-more none = h.reads.all ∙ ap (λ ls. h.lines ++ ls) none ∙ append-nil h.lines

    -- the input ended
    pub going-end : after.disk ≡ mid.disk → IsSound mid.disk → after.taken ≡ mid.taken → NextLine (Ok None) old mid.left new after.left → after.left ≡ [] → RunMeans limits w payloads room mirrors left SinkFailed (Ok tt) changes before after
    going-end disk sound taken next read =
        answered Done (lines_of limits.input before.left) (no-more next.0) disk sound (ltb-false _ _ (sym h.reads.over ∙ next.1), read, refl, taken ∙ h.out) (λ limit ps t is. is) (left-are, refl) ended-at

    -- the source failed, or the input is too long
    pub going-fault : (fault : LineFault) → after.disk ≡ mid.disk → IsSound mid.disk → after.taken ≡ mid.taken → NextLine (Err fault) old mid.left new after.left → RunMeans limits w payloads room mirrors left SinkFailed (Err (stop_of fault)) changes before after
    going-fault Read disk sound taken next =
        let given = h.reads.given ++ next.1 in
        let split : before.left ≡ given ++ after.left = h.reads.split ∙ ap (λ bs. h.reads.given ++ bs) next.2 ∙ sym (append_assoc h.reads.given next.1 after.left) in
        let all : whole_lines limits.input given ≡ h.lines = h.reads.whole next.0 next.1 ∙ ap (λ ls. h.lines ++ ls) next.3 ∙ append-nil h.lines in
        answered NoSource (whole_lines limits.input given) all disk sound (given, split, refl, taken ∙ h.out) (λ limit ps t is. tt) (left-are, refl) ended-at
    going-fault Limit disk sound taken next =
        answered OverLimit (lines_of limits.input before.left) (no-more next.0) disk sound (ltb-true _ _ (sym h.reads.over ∙ next.1), refl, taken ∙ h.out) (λ limit ps t is. is) (left-are, refl) ended-at

    -- ---- within a line
    module _ (now : List Mirror) (kind : Line) (payload : List ℕ) (clock : Option ℕ) (same : store.limits ≡ limits) (line : NextLine (Ok (Some kind)) old mid.left new after.left) (read : IsReadOut old mid.left → IsReadOut new after.left) where
      reads : Reads limits.input (h.lines ++ line.0 ∷ []) before.left new after.left
      reads = read-on limits fair w payloads room mirrors left now before mid after begins store changes old new kind payload clock same h line read

      run : (reply : Reply) (next : State) → is_silent line.0 ≡ false → Step store.limits h.last line.0 reply next → Run limits (at_start w payloads room mirrors) (h.lines ++ line.0 ∷ []) (h.replies ++ reply ∷ []) next
      run = run-on limits fair w payloads room mirrors left now before mid after begins store changes old new kind payload clock same h line read

      -- the sink failed in the reply
      cut : (is_silent line.0 ≡ false) × Replies SinkFailed (length payloads) now h.last (Step store.limits h.last line.0) payload clock (Err stops.Sink) mid.taken after.taken
          → StoresOn store payload clock mid.disk after.disk → RunMeans limits w payloads room mirrors now SinkFailed (Err stops.Sink) (changes_with changes clock) before after
      cut (silent, (reply, st, step, changed, are, (count, put))) leaves =
          let stays = stays-line limits fair w payloads room mirrors before begins store changes payload clock h.lines (h.lines ++ line.0 ∷ []) h.replies (h.replies ++ reply ∷ []) h.last st mid.disk after.disk same h.run (run reply st silent step) h.stands.stored h.stays changed leaves in
          record {
            lines = h.lines ++ line.0 ∷ [];
            replies = h.replies ++ reply ∷ [];
            last = st;
            run = run reply st silent step;
            more = lines_left new after.left;
            ends = (h.lines, line.0, h.replies, reply, count, reads.all, refl, silent, refl, put ∙ ap (λ t. t ++ take count (reply_text reply)) h.out);
            stored = stays.stored;
            final = st.store;
            leaves = (are, refl);
            each = stays.each;
            calls = (let e = stays.calls in omega (arith, e));
            stopped = stays.stopped;
            sure = inl (let e = stays.sure in omega (arith, e));
            kept = tt;
          }

      -- the disk failed in its change
      failed : (is_silent line.0 ≡ false) × Replies SinkFailed (length payloads) now h.last (Step store.limits h.last line.0) payload clock (Err stops.NotStored) mid.taken after.taken
          → IsLimited store × CutShort store payload mid.disk after.disk → RunMeans limits w payloads room mirrors now SinkFailed (Err stops.NotStored) (changes_with changes clock) before after
      failed (silent, (reply, st, step, changed, are, none, put)) (limited, short) =
          let before-it = prefixes limits fair w payloads room mirrors before begins h.lines h.replies h.last h.run in
          let after-it = prefixes limits fair w payloads room mirrors before begins (h.lines ++ line.0 ∷ []) (h.replies ++ reply ∷ []) st (run reply st silent step) in
          subst (λ c. RunMeans limits w payloads room mirrors now SinkFailed (Err stops.NotStored) (changes_with changes c) before after) (sym none) (record {
            lines = h.lines;
            replies = h.replies;
            last = h.last;
            run = h.run;
            more = line.0 ∷ lines_left new after.left;
            ends = (reads.all ∙ append_assoc h.lines (line.0 ∷ []) (lines_left new after.left), wrote-fault SinkFailed before mid after h.replies h.out put);
            stored = h.stays.stored;
            final = st.store;
            leaves = (reply, st, step-as limits fair w payloads room mirrors left now before mid after begins store changes old new kind payload clock same h line read reply st step, changed.past, refl, are);
            each = h.stays.each;
            calls = (let e = h.stays.calls in let le = short.calls in omega (arith, e, le));
            stopped = stopped-short limits w payloads changes h.last.store st.store store payload before.disk mid.disk after.disk same limited h.stands.stored.texts h.stays before-it after-it changed short;
            sure = inl (short-sure limits w payloads changes h.last.store st.store store payload before.disk mid.disk after.disk same limited h.stands.stored.texts h.stays before-it after-it changed short);
            kept = tt;
          })

      pub going-stop : (Here : Type 0) → (Here → SinkFailed) → (stop : Stop) → ((l : List ℕ) → IsLine kind new.text l → LineReplies left now Here store l payload clock (Err stop) mid.taken after.taken)
          → LineLeaves store payload clock (Err stop) mid.disk after.disk → RunMeans limits w payloads room mirrors now SinkFailed (Err stop) (changes_with changes clock) before after
      going-stop Here since stop told leaves = ⊎_elim (λ passed. absurd passed) (λ d. by_stop stop (d.0, failed-since Here SinkFailed since (length payloads) now h.last (Step store.limits h.last line.0) payload clock stop mid.taken after.taken d.1) leaves)
          (told line.0 line.1 (length payloads) h.last h.stands (rests limits fair w payloads room mirrors left now before mid after begins store changes old new kind payload clock same h line read))
        where
          by_stop : (s : Stop) → (is_silent line.0 ≡ false) × Replies SinkFailed (length payloads) now h.last (Step store.limits h.last line.0) payload clock (Err s) mid.taken after.taken
              → LineLeaves store payload clock (Err s) mid.disk after.disk → RunMeans limits w payloads room mirrors now SinkFailed (Err s) (changes_with changes clock) before after
          by_stop stops.Sink d l = cut d l
          by_stop stops.NotStored d l = failed d l
          by_stop stops.Memory d l = absurd l
          by_stop stops.NoLog d l = absurd l
          by_stop stops.NotLoaded d l = absurd l
          by_stop stops.Source d l = absurd l
          by_stop stops.Limit d l = absurd l

-- ---- where no store is loaded
module _ (limits : Limits) (fair : AreLimits limits) (w : World Name) (payloads : List Payload) (room : ℕ) (mirrors : List Mirror) (SinkFailed : Type 0) (d e : Option Told) (i o q : Option (List ℕ)) where
  abbrev pub MeansSo : Result Unit Stop → Seen → Seen → Type 0
  MeansSo result before after = Begins limits w payloads room mirrors before → RunMeans limits w payloads room mirrors mirrors SinkFailed result [] before after

  abbrev Opening : Stop → Told → Type 0
  Opening stop t = HoldAs limits.log t.bytes payloads w → OpensRun payloads w (Err stop)

  pub load-stops : (stop : Stop) → IfSome d (Opening stop) → Goes (KeepsHolding limits.log w) d e → ((stop ≡ stops.NotLoaded → ⊥) → Goes (IsSureOf limits.log (map text_of payloads)) d e) → Goes (IsSureBehind limits.log (map text_of payloads)) d e → Goes LoadCalls d e → IsLoadStop stop
      → WhereTold o q (LoadPuts SinkFailed (Err stop)) → WhereTold (seen d i o) (seen e i q) (MeansSo (Err stop))
  load-stops stops.Memory opens keeps sure behind calls is put =
      let P : Told → Told → Type 0 = λ x y. KeepsHolding limits.log w x y × IsSureOf limits.log (map text_of payloads) x y in
      let Q : Told → Told → Type 0 = λ x y. (KeepsHolding limits.log w x y × IsSureOf limits.log (map text_of payloads) x y) × LoadCalls x y in
      let both = goes-both (KeepsHolding limits.log w) (IsSureOf limits.log (map text_of payloads)) P d e (λ x y r s. (r, s)) keeps (sure (λ no. cc no)) in
      let disk = goes-both P LoadCalls Q d e (λ x y r s. (r, s)) both calls in
      WhereTold-map (seen d i o) (seen e i q) (Each Q (λ x y. y ≡ x) (λ x y. y ≡ x)) (MeansSo (Err stops.Memory))
      (λ x y t begins. ends-memory limits fair w payloads room mirrors SinkFailed x begins y (t.disk.0.0 begins.0.holds) t.disk.0.1 (t.disk.1 (λ at damaged. log-or-damaged x.disk.bytes (map text_of payloads) at (log-of limits.log x.disk.bytes w payloads begins.0.read).1 damaged)) t.left t.taken)
      (seen-each d e i i o q Q (λ x y. y ≡ x) (λ x y. y ≡ x) (goes-told Q d e disk) (same-told i) put)
  load-stops stops.NotLoaded opens keeps sure behind calls is put =
      let P : Told → Told → Type 0 = λ x y. KeepsHolding limits.log w x y × IsSureBehind limits.log (map text_of payloads) x y in
      let Q : Told → Told → Type 0 = λ x y. (KeepsHolding limits.log w x y × IsSureBehind limits.log (map text_of payloads) x y) × LoadCalls x y in
      let both = goes-both (KeepsHolding limits.log w) (IsSureBehind limits.log (map text_of payloads)) P d e (λ x y r s. (r, s)) keeps behind in
      let disk = goes-both P LoadCalls Q d e (λ x y r s. (r, s)) both calls in
      WhereTold-map (seen d i o) (seen e i q) (Each Q (λ x y. y ≡ x) (PutsFault SinkFailed)) (MeansSo (Err stops.NotLoaded))
      (λ x y t begins. ends-unloaded limits fair w payloads room mirrors SinkFailed x begins y (t.disk.0.0 begins.0.holds) t.disk.0.1 (t.disk.1 (λ at damaged. log-or-damaged x.disk.bytes (map text_of payloads) at (log-of limits.log x.disk.bytes w payloads begins.0.read).1 damaged)) t.taken)
      (seen-each d e i i o q Q (λ x y. y ≡ x) (PutsFault SinkFailed) (goes-told Q d e disk) (same-told i) put)
  load-stops stops.NoLog opens keeps sure behind calls is put =
      let Q : Told → Told → Type 0 = λ x y. HoldAs limits.log x.bytes payloads w → ⊥ in
      let disk = goes-from (KeepsHolding limits.log w) Q (Opening stops.NoLog) d e (λ x y f r. f) opens keeps in
      WhereTold-map (seen d i o) (seen e i q) (Each Q (λ x y. y ≡ x) (λ x y. y ≡ x)) (MeansSo (Err stops.NoLog))
      (λ x y t begins. absurd (t.disk begins.0.read))
      (seen-each d e i i o q Q (λ x y. y ≡ x) (λ x y. y ≡ x) (goes-told Q d e disk) (same-told i) put)
  load-stops stops.NotStored opens keeps sure behind calls is put = absurd is
  load-stops stops.Source opens keeps sure behind calls is put = absurd is
  load-stops stops.Sink opens keeps sure behind calls is put = absurd is
  load-stops stops.Limit opens keeps sure behind calls is put = absurd is
