-- Records that are those of the segments of a level.
use Rattle.std.proofs.Common.{◌≡◌, inl, ℕ, zero, suc, ◌+◌, ◌-◌, ◌<◌, ◌≤◌, List, [], ◌∷◌, ◌++◌, length, drop, Some, None, refl, sym, subst, ap, ◌∙◌, arith, append_assoc}
use Rattle.std.specs.Prelude.{flat_map}
use Rattle.std.proofs.lemmas.Grind.{flat_map-append}
use Rattle.std.proofs.lemmas.List.{append_cancel_left, append-nil, length-drop, drop-drop}
use Rattle.id_groups.specs.Lists.{IsIn}
use Rattle.segment_codec.specs.Record.{Segment, segment_bytes}
use Rattle.flat_segments.specs.Maximal.{begin_of}
use Rattle.segment_rules.specs.Levels.{level_segments}
use Rattle.segment_rules.specs.NewLevels.{new_levels}
use Rattle.segment_levels.specs.Kept.{PlainGroups, PlainLevel}
use Rattle.segment_levels.specs.Endings.{held_from}
use Rattle.segment_levels.proofs.Heading.{in-drop}
use Rattle.high_segments.specs.Growing.{HasFrom}
use Rattle.high_segments.specs.Storing.{CameSince}
use Rattle.high_segments.specs.declared.kept.Mark.{Mark}
use Rattle.high_segments.proofs.StoringLemmas.{new_up_to, up-to-next, all-new}
use Rattle.high_segments.proofs.Gathering.{RowTo, next, next-low, next-same, not-none, row-none, row-all, follow-next}

-- the records of the segments from one to another, which begins at the id, stand before the rest
pub record StripsTo (levels : List PlainGroups) (top : PlainGroups) (segments : List Segment) (from : ℕ) (bytes : List ℕ) (id : ℕ) (rest : List ℕ) : Type 0 where
  pub at : ℕ
  pub has : HasFrom levels top segments at id
  pub there : (tail : List ℕ) → rest ≡ flat_map segment_bytes (drop at segments) ++ tail → bytes ≡ flat_map segment_bytes (drop from segments) ++ tail
  pub back : (tail : List ℕ) → bytes ≡ flat_map segment_bytes (drop from segments) ++ tail → rest ≡ flat_map segment_bytes (drop at segments) ++ tail

abbrev pub Strips : List PlainGroups → PlainGroups → ℕ → List ℕ → ℕ → List ℕ → Type 0
Strips levels top start bytes id rest = (segments : List Segment) (from : ℕ) → HasFrom levels top segments from start → StripsTo levels top segments from bytes id rest

pub strips-none : (levels : List PlainGroups) (top : PlainGroups) (start : ℕ) (bytes : List ℕ) → Strips levels top start bytes start bytes
strips-none levels top start bytes = λ segments from h. record { at = from; has = h; there = λ tail e. e; back = λ tail e. e }

module _ (levels : List PlainGroups) (top : PlainGroups) (segments : List Segment) (at id : ℕ) (h : HasFrom levels top segments at id) where
  -- a row that has none yet
  abbrev none : PlainLevel
  none = record { level = top.level; entries = []; bytes = []; end = id; grouped = top.grouped }

  abbrev row : RowTo top segments at none
  row = record { at = at; within = h.within; end = h.start_is; parts = refl }

  pub is-held : id < top.end → held_from None levels id ≡ None → ⊥
  is-held lt = not-none levels top segments at id h none row lt

  pub none-left : top.end ≤ id → drop at segments ≡ []
  none-left le = sym (row-all levels top segments at id h none (row-none levels top id none refl) le).segments_are

  -- the next one
  pub record NextAt (t : Segment) : Type 0 where
    pub more : List Segment
    pub are : drop at segments ≡ t ∷ more
    pub has : HasFrom levels top segments (at + 1) (t.high + 1)
    pub behind : drop (at + 1) segments ≡ more

  pub next-at : id < top.end → (s t : Segment) → held_from None levels id ≡ Some s → t ≡ record s { level = top.level } → NextAt t
  next-at lt s t e t-is =
      let n = next levels top segments at id h none row lt in
      let same = next-same levels top segments at id h none row lt s t e t-is in
      let are : drop at segments ≡ t ∷ n.more = n.are ∙ ap (λ q. q ∷ n.more) (sym same) in
      let behind : drop (at + 1) segments ≡ n.more = sym (drop-drop 1 at segments) ∙ ap (drop 1) are in
      let len = length-drop at segments in let long = ap length are in
      let follows = follow-next 0 top.end segments at h.follow t n.more are in
      record {
        more = n.more;
        are = are;
        has = record {
          readable = h.readable;
          held = h.held;
          follow = h.follow;
          numbers = h.numbers;
          within = omega (arith, len, long);
          start_is = follows ∙ ap (begin_of top.end) (sym behind);
        };
        behind = behind;
      }

  pub low-at : id < top.end → (s t : Segment) → held_from None levels id ≡ Some s → t ≡ record s { level = top.level } → t.low ≡ id
  low-at lt s t e t-is = next-low levels top segments at id h none row lt s t e t-is

  pub in-at : (t : Segment) → NextAt t → IsIn t segments
  in-at t n = in-drop at segments t (subst (λ z. IsIn t z) (sym n.are) (inl refl))

module _ (levels : List PlainGroups) (top : PlainGroups) (segments : List Segment) (from : ℕ) (bytes : List ℕ) (id : ℕ) (rest : List ℕ) (r : StripsTo levels top segments from bytes id rest) where
  -- one record more
  pub strips-more : id < top.end → (s t : Segment) → held_from None levels id ≡ Some s → t ≡ record s { level = top.level } → (behind : List ℕ) → rest ≡ segment_bytes t ++ behind
      → StripsTo levels top segments from bytes (t.high + 1) behind
  strips-more lt s t e t-is behind is =
      let n = next-at levels top segments r.at id r.has lt s t e t-is in
      let whole = λ (tail : List ℕ). ap (λ l. flat_map segment_bytes l ++ tail) n.are ∙ append_assoc (segment_bytes t) (flat_map segment_bytes n.more) tail in
      let back = λ (tail : List ℕ). ap (λ l. flat_map segment_bytes l ++ tail) n.behind in
      record {
        at = r.at + 1;
        has = n.has;
        there = λ tail e. r.there tail (is ∙ ap (λ z. segment_bytes t ++ z) (e ∙ back tail) ∙ sym (whole tail));
        back = λ tail e. append_cancel_left (segment_bytes t) behind (flat_map segment_bytes n.more ++ tail) (sym is ∙ r.back tail e ∙ whole tail) ∙ sym (back tail);
      }

  -- one that doesn't stand there
  pub strips-not : id < top.end → (s t : Segment) → held_from None levels id ≡ Some s → t ≡ record s { level = top.level } → ((behind : List ℕ) → rest ≡ segment_bytes t ++ behind → ⊥)
      → (tail : List ℕ) → bytes ≡ flat_map segment_bytes (drop from segments) ++ tail → ⊥
  strips-not lt s t e t-is never tail is =
      let n = next-at levels top segments r.at id r.has lt s t e t-is in
      never (flat_map segment_bytes n.more ++ tail) (r.back tail is ∙ ap (λ l. flat_map segment_bytes l ++ tail) n.are ∙ append_assoc (segment_bytes t) (flat_map segment_bytes n.more) tail)

  pub strips-all : top.end ≤ id → bytes ≡ flat_map segment_bytes (drop from segments) ++ rest
  strips-all le = r.there rest (sym (ap (λ l. flat_map segment_bytes l ++ rest) (none-left levels top segments r.at id r.has le)))

-- ---- the levels one behind the other

module _ (old new : List Segment) where
  -- the new segments of the level behind so many
  abbrev pub new_behind : ℕ → List Segment
  new_behind k = drop (length (level_segments old (suc k))) (level_segments new (suc k))

  pub now-stripped : (k : ℕ) (bytes rest after : List ℕ) → bytes ≡ flat_map segment_bytes (new_up_to old new k) ++ rest → rest ≡ flat_map segment_bytes (new_behind k) ++ after
      → bytes ≡ flat_map segment_bytes (new_up_to old new (k + 1)) ++ after
  now-stripped k bytes rest after e is =
      let one : suc k ≡ k + 1 = omega arith in
      e ∙ ap (λ z. flat_map segment_bytes (new_up_to old new k) ++ z) is
      ∙ sym (append_assoc (flat_map segment_bytes (new_up_to old new k)) (flat_map segment_bytes (new_behind k)) after)
      ∙ ap (λ z. z ++ after) (sym (flat_map-append segment_bytes (new_up_to old new k) (new_behind k)) ∙ ap (flat_map segment_bytes) (sym (up-to-next old new k)))
      ∙ ap (λ n. flat_map segment_bytes (new_up_to old new n) ++ after) one

  up-to-front : (i n : ℕ) → (more : List Segment) × (new_up_to old new (n + i) ≡ new_up_to old new i ++ more)
  up-to-front i zero = let none : 0 + i ≡ i = omega arith in ([], ap (new_up_to old new) none ∙ sym (append-nil (new_up_to old new i)))
  up-to-front i (suc n) =
      let r = up-to-front i n in
      let one : suc n + i ≡ suc (n + i) = omega arith in (
        r.0 ++ new_behind (n + i),
        ap (new_up_to old new) one ∙ up-to-next old new (n + i) ∙ ap (λ z. z ++ new_behind (n + i)) r.1 ∙ append_assoc (new_up_to old new i) r.0 (new_behind (n + i)),
      )

  pub never-stripped : (marks : List Mark) (levels : List PlainGroups) → CameSince marks levels old new → (k : ℕ) → k < length levels → (bytes rest : List ℕ)
      → bytes ≡ flat_map segment_bytes (new_up_to old new k) ++ rest → ((tail : List ℕ) → rest ≡ flat_map segment_bytes (new_behind k) ++ tail → ⊥)
      → (tail : List ℕ) → bytes ≡ flat_map segment_bytes (new_levels old new) ++ tail → ⊥
  never-stripped marks levels c k lt bytes rest e never tail is =
      let left = length levels - suc k in
      let sum : left + suc k ≡ length levels = omega (arith, lt) in
      let r = up-to-front (suc k) left in
      let up = flat_map segment_bytes (new_up_to old new k) in let behind = flat_map segment_bytes (new_behind k) in let more = flat_map segment_bytes r.0 in
      let parts : flat_map segment_bytes (new_levels old new) ≡ (up ++ behind) ++ more =
      ap (flat_map segment_bytes) (sym (all-new marks levels old new c (left + suc k) sum) ∙ r.1)
      ∙ flat_map-append segment_bytes (new_up_to old new (suc k)) r.0
      ∙ ap (λ z. z ++ more) (ap (flat_map segment_bytes) (up-to-next old new k) ∙ flat_map-append segment_bytes (new_up_to old new k) (new_behind k)) in
      never (more ++ tail)
      (append_cancel_left up rest (behind ++ (more ++ tail))
      (sym e ∙ is ∙ ap (λ z. z ++ tail) parts ∙ append_assoc (up ++ behind) more tail ∙ append_assoc up behind (more ++ tail)))
