-- What crashes leave of a run goes on by one more change.
use Rattle.std.proofs.Common.{◌≡◌, ◌≤◌, ◌<◌, ◌+◌, ℕ, zero, suc, cond, inl, inr, List, [], ◌∷◌, ◌++◌, length, map, take, filter, nat_le, slice_index, refl, sym, ap, subst, subst₂, ◌∙◌, arith, ⊎_elim, eq-or-lt_of_le, length-append, le_refl}
use Rattle.std.proofs.lemmas.List.{take-append-le, map-append}
use Rattle.std.proofs.lemmas.List.Elements.{filter-append}
use Rattle.std.proofs.lemmas.Bool.{le-leb, lt-leb}
use Rattle.std.proofs.Math.ListN.{get_or-append}
use Rattle.std.proofs.Math.Seq.{get_or-append_seam}
use Rattle.std.specs.List.{AllByRecursion}
use Rattle.std.specs.List.Sorted.{IsStrictlyIncreasing}
use Rattle.id_groups.specs.Name.{Name}
use Rattle.commit_graph.specs.World.{World}
use Rattle.disk_trait.specs.Images.{Told, LeftAt, moment_of}
use Rattle.gated_log.specs.Held.{Held}
use Rattle.gated_log.specs.Holding.{IsLogWithin, HasPayloads, KeepsOldOrNew}
use Rattle.segment_codec.proofs.Tables.{le_or_lt}
use Rattle.batch_codec.specs.Payload.{Payload}
use Rattle.change_rules.specs.Change.{text_of}
use Rattle.step_rules.specs.State.{Stored}
use Rattle.run_rules.specs.Stopped.{Stopped, ArePrefixes, IsPrefix, acknowledged}
use Rattle.run_rules.proofs.Nothing.{take-all}

-- the moments of changes, up to one
ack-add : (changes : List ℕ) (at m : ℕ) → acknowledged (changes ++ at ∷ []) m ≡ acknowledged changes m + length (filter (λ a. nat_le a m) (at ∷ []))
ack-add changes at m = ap length (filter-append (λ a. nat_le a m) changes (at ∷ [])) ∙ length-append (filter (λ a. nat_le a m) changes) (filter (λ a. nat_le a m) (at ∷ []))

ack-before : (changes : List ℕ) (at m : ℕ) → m < at → acknowledged (changes ++ at ∷ []) m ≡ acknowledged changes m
ack-before changes at m lt =
    let one : length (filter (λ a. nat_le a m) (at ∷ [])) ≡ 0 = subst (λ b. length (cond b (at ∷ []) []) ≡ 0) (sym (lt-leb at m lt)) refl in
    ack-add changes at m ∙ (omega (arith, one))

ack-after : (changes : List ℕ) (at m : ℕ) → at ≤ m → acknowledged (changes ++ at ∷ []) m ≡ acknowledged changes m + 1
ack-after changes at m le =
    let one : length (filter (λ a. nat_le a m) (at ∷ [])) ≡ 1 = subst (λ b. length (cond b (at ∷ []) []) ≡ 1) (sym (le-leb at m le)) refl in
    ack-add changes at m ∙ (omega (arith, one))

ack-all : (changes : List ℕ) (end m : ℕ) → AllByRecursion (λ at. at ≤ end) changes → end ≤ m → acknowledged changes m ≡ length changes
ack-all [] end m h le = refl
ack-all (at ∷ changes) end m h le =
    subst (λ b. length (cond b (at ∷ filter (λ a. nat_le a m) changes) (filter (λ a. nat_le a m) changes)) ≡ suc (length changes)) (sym (le-leb at m (let a = h.0 in omega (arith, a, le)))) (ap suc (ack-all changes end m h.1 le))

at-most : (changes : List ℕ) (end k : ℕ) → AllByRecursion (λ at. at ≤ end) changes → k < length changes → slice_index changes k ≤ end
at-most [] end k h lt = absurd (omega (arith, lt))
at-most (at ∷ changes) end zero h lt = h.0
at-most (at ∷ changes) end (suc k) h lt = at-most changes end k h.1 (omega (arith, lt))

rises-last : (changes : List ℕ) (end at : ℕ) → IsStrictlyIncreasing changes → AllByRecursion (λ a. a ≤ end) changes → end < at → IsStrictlyIncreasing (changes ++ at ∷ [])
rises-last changes end at up all lt k le =
    let size : length (changes ++ at ∷ []) ≡ length changes + 1 = length-append changes (at ∷ []) in
    let near : k < length changes = omega (arith, size, le) in
    let before : slice_index (changes ++ at ∷ []) k ≡ slice_index changes k = get_or-append changes (at ∷ []) 0 k near in
    let bound : k + 1 ≤ length changes = omega (arith, near) in
    ⊎_elim
    (λ e.
    let last : slice_index (changes ++ at ∷ []) (k + 1) ≡ at = ap (slice_index (changes ++ at ∷ [])) e ∙ get_or-append_seam changes at [] 0 in
    let low = at-most changes end k all near in
    omega (arith, before, last, low, lt))
    (λ more.
    let after : slice_index (changes ++ at ∷ []) (k + 1) ≡ slice_index changes (k + 1) = get_or-append changes (at ∷ []) 0 (k + 1) more in
    let rise = up k more in
    omega (arith, before, after, rise))
    (eq-or-lt_of_le bound)

ended-later : (changes : List ℕ) (end at : ℕ) → AllByRecursion (λ a. a ≤ end) changes → end ≤ at → AllByRecursion (λ a. a ≤ at) (changes ++ at ∷ [])
ended-later [] end at h le = (le_refl at, tt)
ended-later (x ∷ changes) end at h le = ((let a = h.0 in omega (arith, a, le)), ended-later changes end at h.1 le)

still-ended : (changes : List ℕ) (end at : ℕ) → AllByRecursion (λ a. a ≤ end) changes → end ≤ at → AllByRecursion (λ a. a ≤ at) changes
still-ended [] end at h le = tt
still-ended (x ∷ changes) end at h le = ((let a = h.0 in omega (arith, a, le)), still-ended changes end at h.1 le)

module _ (limit : ℕ) (w : World Name) (payloads : List Payload) (changes : List ℕ) (final next : Stored) (p : Payload) (log : Held) (old mid new : Told)
    (s : Stopped limit w payloads changes final old mid) (stored : length changes ≡ length final.past) (begun : s.sure ≤ moment_of mid) (later : moment_of old ≤ moment_of mid)
    (before : ArePrefixes payloads final) (after : ArePrefixes payloads next) (past : next.past ≡ final.past ++ final.stored ∷ []) (spelled : next.payloads ≡ final.payloads ++ p ∷ [])
    (bound : log.limit ≡ limit) (held : log.payloads ≡ map text_of final.payloads)
    (keeps : KeepsOldOrNew log (text_of p) mid new) (more : moment_of mid < moment_of new) (has : HasPayloads limit new (map text_of next.payloads)) where
  abbrev now : List ℕ
  now = changes ++ moment_of new ∷ []

  count-next : length next.past ≡ length final.past + 1
  count-next = ap length past ∙ length-append final.past (final.stored ∷ [])

  front : (count : ℕ) → count ≤ length final.past → take (length payloads + count) next.payloads ≡ take (length payloads + count) final.payloads
  front count le = ap (take (length payloads + count)) spelled ∙ take-append-le (length payloads + count) final.payloads (p ∷ []) (let a = before.size in omega (arith, a, le))

  whole : take (length payloads + (length final.past + 1)) next.payloads ≡ next.payloads
  whole = take-all next.payloads (length payloads + (length final.past + 1)) (let a = after.size in let b = count-next in omega (arith, a, b))

  old-ones : take (length payloads + length final.past) next.payloads ≡ final.payloads
  old-ones = front (length final.past) (le_refl _) ∙ take-all final.payloads (length payloads + length final.past) (sym before.size)

  new-ones : log.payloads ++ text_of p ∷ [] ≡ map text_of next.payloads
  new-ones = ap (λ l. l ++ text_of p ∷ []) held ∙ sym (map-append text_of final.payloads (p ∷ [])) ∙ ap (map text_of) (sym spelled)

  earlier : (m : ℕ) (image : List ℕ) → moment_of old ≤ m → s.sure ≤ m → m ≤ moment_of mid → LeftAt new m image → IsPrefix limit payloads next now m image
  earlier m image from sure le left =
      let q = s.bytes m image from sure le (keeps.past m image le left) in
      let same = ack-before changes (moment_of new) m (omega (arith, le, more)) in
      let c = q.1 in (
        q.0,
        (let a = count-next in omega (arith, a, c)),
        ⊎_elim (λ e. inl (e ∙ sym same)) (λ e. inr (e ∙ ap (λ k. k + 1) (sym same))) q.2,
        subst (λ l. IsLogWithin limit (map text_of l) image) (sym (front q.0 q.1)) q.3,
      )

  within : (m : ℕ) (image : List ℕ) → moment_of mid < m → m < moment_of new → LeftAt new m image → IsPrefix limit payloads next now m image
  within m image from lt left = ⊎_elim
      (λ l. (
        length final.past,
        (let a = count-next in omega (arith, a)),
        inl (sym count),
        subst₂ (λ b ps. IsLogWithin b ps image) bound (held ∙ ap (map text_of) (sym old-ones)) l,
      ))
      (λ l. (
        length final.past + 1,
        (let a = count-next in omega (arith, a)),
        inr (ap (λ k. k + 1) (sym count)),
        subst₂ (λ b ps. IsLogWithin b ps image) bound (new-ones ∙ ap (map text_of) (sym whole)) l,
      ))
      (keeps.since m image (omega (arith, from)) (omega (arith, lt)) left).1
    where
      count : acknowledged now m ≡ length final.past
      count = ack-before changes (moment_of new) m lt ∙ ack-all changes (moment_of mid) m s.ended (omega (arith, from)) ∙ stored

  at-end : (m : ℕ) (image : List ℕ) → m ≡ moment_of new → LeftAt new m image → IsPrefix limit payloads next now m image
  at-end m image e left =
      let count : acknowledged now m ≡ length final.past + 1 = ack-after changes (moment_of new) m (omega (arith, e)) ∙ ap (λ k. k + 1) (ack-all changes (moment_of mid) m s.ended (omega (arith, e, more)) ∙ stored) in (
        length final.past + 1,
        (let a = count-next in omega (arith, a)),
        inl (sym count),
        subst (λ l. IsLogWithin limit (map text_of l) image) (sym whole) (has image (subst (λ k. LeftAt new k image) e left)),
      )

  pub goes-on : Stopped limit w payloads (changes ++ moment_of new ∷ []) next old new
  goes-on = record {
    sure = s.sure;
    loading = λ m image from lt to left. let le : m ≤ moment_of mid = omega (arith, lt, begun) in s.loading m image from lt le (keeps.past m image le left);
    bytes = λ m image from sure to left. ⊎_elim
        (λ le. earlier m image from sure le left)
        (λ lt. ⊎_elim (λ e. at-end m image e left) (λ below. within m image lt below left) (eq-or-lt_of_le to))
        (le_or_lt m (moment_of mid));
    worlds = after.worlds;
    ascend = rises-last changes (moment_of mid) (moment_of new) s.ascend s.ended more;
    ended = ended-later changes (moment_of mid) (moment_of new) s.ended (omega (arith, more));
  }

  pub goes-on-sure : goes-on.sure ≡ s.sure
  unfolding goes-on
  goes-on-sure = refl

module _ (limit : ℕ) (w : World Name) (payloads : List Payload) (changes : List ℕ) (final next : Stored) (p : Payload) (log : Held) (old mid new : Told)
    (s : Stopped limit w payloads changes final old mid) (stored : length changes ≡ length final.past) (begun : s.sure ≤ moment_of mid) (later : moment_of old ≤ moment_of mid)
    (before : ArePrefixes payloads final) (after : ArePrefixes payloads next) (past : next.past ≡ final.past ++ final.stored ∷ []) (spelled : next.payloads ≡ final.payloads ++ p ∷ [])
    (bound : log.limit ≡ limit) (held : log.payloads ≡ map text_of final.payloads)
    (keeps : KeepsOldOrNew log (text_of p) mid new) (more : moment_of mid ≤ moment_of new) where
  next-count : length next.past ≡ length final.past + 1
  next-count = ap length past ∙ length-append final.past (final.stored ∷ [])

  front-of : (count : ℕ) → count ≤ length final.past → take (length payloads + count) next.payloads ≡ take (length payloads + count) final.payloads
  front-of count le = ap (take (length payloads + count)) spelled ∙ take-append-le (length payloads + count) final.payloads (p ∷ []) (let a = before.size in omega (arith, a, le))

  whole-next : take (length payloads + (length final.past + 1)) next.payloads ≡ next.payloads
  whole-next = take-all next.payloads (length payloads + (length final.past + 1)) (let a = after.size in let b = next-count in omega (arith, a, b))

  ones-before : take (length payloads + length final.past) next.payloads ≡ final.payloads
  ones-before = front-of (length final.past) (le_refl _) ∙ take-all final.payloads (length payloads + length final.past) (sym before.size)

  ones-after : log.payloads ++ text_of p ∷ [] ≡ map text_of next.payloads
  ones-after = ap (λ l. l ++ text_of p ∷ []) held ∙ sym (map-append text_of final.payloads (p ∷ [])) ∙ ap (map text_of) (sym spelled)

  short-earlier : (m : ℕ) (image : List ℕ) → moment_of old ≤ m → s.sure ≤ m → m ≤ moment_of mid → LeftAt new m image → IsPrefix limit payloads next changes m image
  short-earlier m image from sure le left =
      let q = s.bytes m image from sure le (keeps.past m image le left) in
      let c = q.1 in
      (q.0, (let a = next-count in omega (arith, a, c)), q.2, subst (λ l. IsLogWithin limit (map text_of l) image) (sym (front-of q.0 q.1)) q.3)

  short-within : (m : ℕ) (image : List ℕ) → moment_of mid < m → m ≤ moment_of new → LeftAt new m image → IsPrefix limit payloads next changes m image
  short-within m image from lt left = ⊎_elim
      (λ l. (
        length final.past,
        (let a = next-count in omega (arith, a)),
        inl (sym count),
        subst₂ (λ b ps. IsLogWithin b ps image) bound (held ∙ ap (map text_of) (sym ones-before)) l,
      ))
      (λ l. (
        length final.past + 1,
        (let a = next-count in omega (arith, a)),
        inr (ap (λ k. k + 1) (sym count)),
        subst₂ (λ b ps. IsLogWithin b ps image) bound (ones-after ∙ ap (map text_of) (sym whole-next)) l,
      ))
      (keeps.since m image (omega (arith, from)) lt left).1
    where
      count : acknowledged changes m ≡ length final.past
      count = ack-all changes (moment_of mid) m s.ended (omega (arith, from)) ∙ stored

  pub cut-short : Stopped limit w payloads changes next old new
  cut-short = record {
    sure = s.sure;
    loading = λ m image from lt to left. let le : m ≤ moment_of mid = omega (arith, lt, begun) in s.loading m image from lt le (keeps.past m image le left);
    bytes = λ m image from sure to left. ⊎_elim
        (λ le. short-earlier m image from sure le left)
        (λ lt. short-within m image lt to left)
        (le_or_lt m (moment_of mid));
    worlds = after.worlds;
    ascend = s.ascend;
    ended = still-ended changes (moment_of mid) (moment_of new) s.ended more;
  }

  pub cut-short-sure : cut-short.sure ≡ s.sure
  unfolding cut-short
  cut-short-sure = refl
