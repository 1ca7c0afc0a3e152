-- What a crash leaves, from one change to the next.
use Rattle.std.proofs.Common.{◌≡◌, ◌≤◌, ◌<◌, ◌+◌, inl, ℕ, List, [], ◌∷◌, ◌++◌, length, map, take, refl, sym, ap, subst, ◌∙◌, arith, length-append, zero-le, le_antisymm, ⊎_elim, subst₂, Bool, true, false, nat_le, if◌then◌else◌}
use Rattle.std.proofs.lemmas.Bool.{leb-true, leb-false}
use Rattle.std.proofs.lemmas.List.{map-append}
use Rattle.segment_codec.proofs.Tables.{le_or_lt}
use Rattle.id_groups.specs.Name.{Name}
use Rattle.commit_graph.specs.World.{World}
use Rattle.disk_trait.specs.Images.{Told, IsImage, IsSound, LeftAt, moment_of}
use Rattle.disk_trait.specs.Since.{SureSince}
use Rattle.disk_trait.proofs.Loss.{last-append}
use Rattle.gated_log.specs.Log.{IsLog}
use Rattle.gated_log.specs.Load.{IsSureOf}
use Rattle.gated_log.specs.Holding.{IsLogWithin, HasPayloads, KeepsOldOrNew}
use Rattle.batch_codec.specs.Payload.{Payload}
use Rattle.change_rules.specs.declared.Limits.{Limits}
use Rattle.change_rules.specs.Change.{text_of}
use Rattle.change_rules.specs.Holding.{HoldAs, HoldBytes, HoldsNow}
use Rattle.step_rules.specs.State.{Stored, start}
use Rattle.run_rules.specs.Stopped.{Stopped, ArePrefixes}
use Rattle.run_rules.specs.Means.{AreCommits, last_of, loaded_at}
use Rattle.run_rules.proofs.Nothing.{take-all}
use Rattle.run_rules.proofs.Starts.{same-texts}
use Rattle.run_rules.proofs.GoesOn.{goes-on, goes-on-sure, cut-short, cut-short-sure}
use Rattle.dag_store.specs.Kept.{PlainStore}
use Rattle.dag_store.specs.Changes.{HasStored, CutShort}
use Rattle.dag_store.specs.Loading.{IsLoadedStore}
use Rattle.dag_run.specs.Lines.{HasChanged, IsLimited}
use Rattle.dag_run.specs.Between.{Stays}

pub last-push : (at : ℕ) (xs : List ℕ) (x : ℕ) → last_of at (xs ++ x ∷ []) ≡ x
last-push at [] x = refl
last-push at (y ∷ xs) x = last-push y xs x

pub commits-push : (at : ℕ) (xs : List ℕ) (x : ℕ) → AreCommits at xs → x ≡ last_of at xs + 8 → AreCommits at (xs ++ x ∷ [])
commits-push at [] x h e = (e, tt)
commits-push at (y ∷ xs) x h e = (h.0, commits-push y xs x h.1 e)

-- the bytes at the end are one of the lists that a crash may leave
pub bytes-now : (limit : ℕ) (payloads : List (List ℕ)) (t : Told) → IsSound t → HasPayloads limit t payloads → IsLogWithin limit payloads t.bytes
bytes-now limit payloads t s h = h t.bytes (subst (λ u. IsImage u t.bytes) (sym (last-append t.past t.now t.now)) s.image)

pub log-of : (limit : ℕ) (bytes : List ℕ) (w : World Name) (payloads : List Payload) → HoldAs limit bytes payloads w → IsLogWithin limit (map text_of payloads) bytes
log-of limit bytes w payloads h = (h.within, subst (IsLog bytes) (same-texts h.texts payloads h.spelled) h.log)

-- ---- before the first change
-- where nothing was called
abbrev pub stopped-there : (limits : Limits) (w : World Name) (payloads : List Payload) (disk : Told) → ArePrefixes payloads (start w payloads) → HoldsNow limits.log disk w → Stopped limits.log w payloads [] (start w payloads) disk disk
stopped-there limits w payloads disk fresh holds = record {
  sure = moment_of disk + 1;
  loading = λ moment image from before to left. holds image (subst (λ m. LeftAt disk m image) (le_antisymm to from) left);
  bytes = λ moment image from later to left. absurd (omega (arith, later, to));
  worlds = fresh.worlds;
  ascend = λ k le. absurd (omega (arith, le));
  ended = tt;
}

module _ (limits : Limits) (w : World Name) (payloads : List Payload) (old new : Told) (fresh : ArePrefixes payloads (start w payloads)) (holds : SureSince (λ moment image. HoldBytes limits.log image w) old new) where
  -- where loading ended well, or for want of memory
  abbrev pub stopped-loaded : IsLogWithin limits.log (map text_of payloads) old.bytes → IsSureOf limits.log (map text_of payloads) old new → Stopped limits.log w payloads [] (start w payloads) old new
  stopped-loaded read is_sure = record {
    sure = moment_of old + 2;
    loading = λ moment image from before to left. holds.since moment image from to left;
    bytes = λ moment image from later to left. (
      0,
      zero-le,
      inl refl,
      subst (λ l. IsLogWithin limits.log (map text_of l) image) (sym (take-all payloads (length payloads + 0) (omega arith))) (is_sure read moment image later to left),
    );
    worlds = fresh.worlds;
    ascend = λ k le. absurd (omega (arith, le));
    ended = tt;
  }

  -- where the disk failed
  abbrev pub stopped-loading : Stopped limits.log w payloads [] (start w payloads) old new
  stopped-loading = record {
    sure = moment_of new + 1;
    loading = λ moment image from before to left. holds.since moment image from to left;
    bytes = λ moment image from later to left. absurd (omega (arith, later, to));
    worlds = fresh.worlds;
    ascend = λ k le. absurd (omega (arith, le));
    ended = tt;
  }

loaded-clock : (store : PlainStore) (old new : Told) → IsLoadedStore store old new → moment_of new ≡ loaded_at old
loaded-clock store old new h = by_length (nat_le (length old.bytes) 1) refl
  where
    by_length : (b : Bool) → nat_le (length old.bytes) 1 ≡ b → moment_of new ≡ moment_of old + (if b then 8 else 6)
    by_length true e = h.fresh (leb-true (length old.bytes) 1 e)
    by_length false e = h.other (let lt = leb-false (length old.bytes) 1 e in omega (arith, lt))

pub stays-start : (limits : Limits) (w : World Name) (payloads : List Payload) (store : PlainStore) (old new : Told) → ArePrefixes payloads (start w payloads)
    → SureSince (λ moment image. HoldBytes limits.log image w) old new → IsLogWithin limits.log (map text_of payloads) old.bytes → IsSureOf limits.log (map text_of payloads) old new
    → IsLoadedStore store old new → store.limits ≡ limits → store.log.payloads ≡ map text_of payloads → Stays limits w payloads [] (start w payloads) old new
stays-start limits w payloads store old new fresh holds read is_sure loaded same texts = record {
  stored = refl;
  stopped = stopped-loaded limits w payloads old new fresh holds read is_sure;
  sure = refl;
  each = tt;
  calls = loaded-clock store old new loaded;
  begun = after;
  has = subst₂ (λ (l : Limits) ps. HasPayloads l.log new ps) same texts loaded.payloads;
}
  where
    after : moment_of old + 2 ≤ moment_of new
    after = ⊎_elim (λ few. let e = loaded.fresh few in omega (arith, e)) (λ many. let e = loaded.other many in omega (arith, e)) (le_or_lt (length old.bytes) 1)

-- ---- a change
module _ (limits : Limits) (w : World Name) (payloads : List Payload) (changes : List ℕ) (last next : Stored) (kept : PlainStore) (payload : List ℕ) (old a b : Told)
    (same : kept.limits ≡ limits) (limited : IsLimited kept) (texts : kept.log.payloads ≡ map text_of last.payloads)
    (h : Stays limits w payloads changes last old a) (before : ArePrefixes payloads last) (after : ArePrefixes payloads next) (changed : HasChanged last next payload) where
  pub bound : kept.log.limit ≡ limits.log
  bound = limited ∙ ap (λ (l : Limits). l.log) same

  pub later-by : moment_of old ≤ moment_of a
  later-by = let le = h.begun in omega (arith, le)

  pub sure-by : h.stopped.sure ≤ moment_of a
  sure-by = let e = h.sure in let le = h.begun in omega (arith, e, le)

  -- it was stored
  pub stays-stored : (store : PlainStore) (clock : ℕ) → HasStored kept payload store clock a b → Stays limits w payloads (changes ++ clock ∷ []) next old b
  stays-stored store clock s =
      let calls = s.calls in
      let now = s.now in
      let more : moment_of a < moment_of b = omega (arith, calls, now) in
      let has : HasPayloads limits.log b (map text_of next.payloads) =
      subst₂ (λ (l : Limits) ps. HasPayloads l.log b ps) same
      (ap (λ ps. ps ++ payload ∷ []) texts ∙ ap (λ t. map text_of last.payloads ++ t ∷ []) changed.text ∙ sym (map-append text_of last.payloads (changed.change ∷ [])) ∙ ap (map text_of) (sym changed.payloads))
      s.payloads in
      subst (λ c. Stays limits w payloads (changes ++ c ∷ []) next old b) (sym now) (record {
        stored = length-append changes (moment_of b ∷ []) ∙ ap (λ n. n + 1) h.stored ∙ sym (ap length changed.past ∙ length-append last.past (last.stored ∷ []));
        stopped = goes-on limits.log w payloads changes last next changed.change kept.log old a b h.stopped h.stored sure-by later-by before after changed.past changed.payloads bound texts
            (subst (λ t. KeepsOldOrNew kept.log t a b) changed.text s.since) more has;
        sure = goes-on-sure limits.log w payloads changes last next changed.change kept.log old a b h.stopped h.stored sure-by later-by before after changed.past changed.payloads bound texts
            (subst (λ t. KeepsOldOrNew kept.log t a b) changed.text s.since) more has ∙ h.sure;
        each = commits-push (loaded_at old) changes (moment_of b) h.each (let from = h.calls in omega (arith, calls, now, from));
        calls = sym (last-push (loaded_at old) changes (moment_of b));
        begun = (let le = h.begun in omega (arith, le, more));
        has = has;
      })

  -- the disk failed in it
  abbrev pub stopped-short : CutShort kept payload a b → Stopped limits.log w payloads changes next old b
  stopped-short s = cut-short limits.log w payloads changes last next changed.change kept.log old a b h.stopped h.stored sure-by later-by before after changed.past changed.payloads bound texts
      (subst (λ t. KeepsOldOrNew kept.log t a b) changed.text s.since) s.since.later

  pub short-sure : (s : CutShort kept payload a b) → (stopped-short s).sure ≤ moment_of old + 2
  short-sure s =
      let e = h.sure in
      let same : (stopped-short s).sure ≡ h.stopped.sure = cut-short-sure limits.log w payloads changes last next changed.change kept.log old a b h.stopped h.stored sure-by later-by before after changed.past changed.payloads bound texts
      (subst (λ t. KeepsOldOrNew kept.log t a b) changed.text s.since) s.since.later in
      omega (arith, same, e)

-- nothing was stored
pub stays-same : (limits : Limits) (w : World Name) (payloads : List Payload) (changes : List ℕ) (last next : Stored) (old new : Told) → next.past ≡ last.past → next.payloads ≡ last.payloads
    → ArePrefixes payloads next → Stays limits w payloads changes last old new → Stays limits w payloads changes next old new
stays-same limits w payloads changes last next old new past spelled after h = record {
  stored = h.stored ∙ sym (ap length past);
  stopped = record {
    sure = h.stopped.sure;
    loading = h.stopped.loading;
    bytes = λ moment image from later to left.
        let p = h.stopped.bytes moment image from later to left in
        (p.0, subst (λ ws. p.0 ≤ length ws) (sym past) p.1, p.2, subst (λ ps. IsLogWithin limits.log (map text_of (take (length payloads + p.0) ps)) image) (sym spelled) p.3);
    worlds = after.worlds;
    ascend = h.stopped.ascend;
    ended = h.stopped.ended;
  };
  sure = h.sure;
  each = h.each;
  calls = h.calls;
  begun = h.begun;
  has = subst (λ ps. HasPayloads limits.log new (map text_of ps)) (sym spelled) h.has;
}
