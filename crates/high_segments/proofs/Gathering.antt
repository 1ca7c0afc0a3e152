-- The segments of a level that are gathered by their ids.
use Rattle.std.proofs.Common.{◌≡◌, ℕ, zero, suc, ◌+◌, ◌-◌, ◌<◌, ◌≤◌, inl, true, List, [], ◌∷◌, ◌++◌, length, drop, Some, None, refl, sym, subst, ap, ◌∙◌, arith, append_assoc}
use Rattle.std.specs.List.{list_all, AllByRecursion}
use Rattle.std.proofs.lemmas.List.{append-nil, length-drop, drop-drop}
use Rattle.id_groups.specs.Lists.{IsIn}
use Rattle.segment_codec.specs.Record.{Segment, parents_bytes}
use Rattle.segment_codec.specs.Number.{HasNumber}
use Rattle.segment_codec.specs.Table.{Follow}
use Rattle.segment_codec.proofs.Numbers.{some_is}
use Rattle.segment_codec.proofs.Tables.{rising-at, follow-rising, follow-within}
use Rattle.flat_segments.specs.Maximal.{begin_of}
use Rattle.flat_segments.specs.Runs.{is_read}
use Rattle.segment_levels.specs.Kept.{PlainLevel, PlainGroups, segments_in}
use Rattle.segment_levels.specs.Endings.{at_level, held_from}
use Rattle.segment_levels.proofs.Heading.{in-drop}
use Rattle.high_segments.specs.Growing.{with_entry, HasFrom, IsRowFrom}
use Rattle.high_segments.proofs.Groups.{entry-read, entry-segments}

-- the row has the segments from one on to another
pub record RowTo (top : PlainGroups) (segments : List Segment) (from : ℕ) (run : PlainLevel) : Type 0 where
  pub at : ℕ
  pub within : at ≤ length segments
  pub end : run.end ≡ begin_of top.end (drop at segments)
  pub parts : segments_in run ++ drop at segments ≡ drop from segments

pub record RowSoFar (levels : List PlainGroups) (top : PlainGroups) (start : ℕ) (run : PlainLevel) : Type 0 where
  pub level : run.level ≡ top.level
  pub grouped : run.grouped ≡ top.grouped
  pub read : list_all (is_read run.bytes) run.entries ≡ true
  pub goes : (segments : List Segment) (from : ℕ) → HasFrom levels top segments from start → RowTo top segments from run

pub row-none : (levels : List PlainGroups) (top : PlainGroups) (start : ℕ) (run : PlainLevel) → run ≡ record { level = top.level; entries = []; bytes = []; end = start; grouped = top.grouped } → RowSoFar levels top start run
row-none levels top start run e =
    subst (RowSoFar levels top start) (sym e)
    (record { level = refl; grouped = refl; read = refl; goes = λ segments from h. record { at = from; within = h.within; end = h.start_is; parts = refl } })

-- the next segment
pub record NextOf (segments : List Segment) (end at : ℕ) : Type 0 where
  pub first : Segment
  pub more : List Segment
  pub are : drop at segments ≡ first ∷ more

next-of : (segments : List Segment) (end at : ℕ) → begin_of end (drop at segments) < end → NextOf segments end at
next-of segments end at lt = go (drop at segments) refl lt
  where
    go : (xs : List Segment) → drop at segments ≡ xs → begin_of end xs < end → NextOf segments end at
    go [] e lt = absurd (omega (arith, lt))
    go (x ∷ xs) e lt = record { first = x; more = xs; are = e }

-- where a segment ends the next begins
begins : (first end : ℕ) (xs : List Segment) → Follow first end xs → first ≡ begin_of end xs
begins first end [] f = f
begins first end (x ∷ xs) f = sym f.0

pub follow-next : (first end : ℕ) (xs : List Segment) (at : ℕ) → Follow first end xs → (s : Segment) (more : List Segment) → drop at xs ≡ s ∷ more → s.high + 1 ≡ begin_of end more
follow-next first end [] zero f s more e = absurd cc
follow-next first end [] (suc at) f s more e = absurd cc
follow-next first end (x ∷ xs) zero f s more e = begins (s.high + 1) end more (subst (λ (z : List Segment). Follow first end z) e f).2
follow-next first end (x ∷ xs) (suc at) f s more e = follow-next (x.high + 1) end xs at f.2 s more e

module _ (levels : List PlainGroups) (top : PlainGroups) (segments : List Segment) (from start : ℕ) (h : HasFrom levels top segments from start) (run : PlainLevel) (r : RowTo top segments from run) (lt : run.end < top.end) where
  pub next : NextOf segments top.end r.at
  next = next-of segments top.end r.at (let e = r.end in omega (arith, e, lt))

  next-in : IsIn next.first segments
  next-in = in-drop r.at segments next.first (subst (λ z. IsIn next.first z) (sym next.are) (inl refl))

  low-is : run.end ≡ next.first.low
  low-is = r.end ∙ ap (begin_of top.end) next.are

  pub next-held : at_level top.level (held_from None levels run.end) ≡ Some next.first
  next-held =
      let w = follow-within 0 top.end segments h.follow next.first next-in in let order = w.1 in let low = low-is in
      h.held run.end ∙ rising-at segments run.end next.first (follow-rising 0 top.end segments h.follow) next-in (omega (arith, low), omega (arith, low, order))

  pub not-none : held_from None levels run.end ≡ None → ⊥
  not-none e = let f = sym (ap (at_level top.level) e) ∙ next-held in absurd cc

  pub next-same : (s t : Segment) → held_from None levels run.end ≡ Some s → t ≡ record s { level = top.level } → t ≡ next.first
  next-same s t e is = is ∙ some_is (record s { level = top.level }) next.first (ap (at_level top.level) (sym e) ∙ next-held)

  pub next-low : (s t : Segment) → held_from None levels run.end ≡ Some s → t ≡ record s { level = top.level } → t.low ≡ run.end
  next-low s t e is = ap (λ (q : Segment). q.low) (next-same s t e is) ∙ sym low-is

  pub next-row : (s t : Segment) (now : PlainLevel) → held_from None levels run.end ≡ Some s → t ≡ record s { level = top.level } → run.level ≡ top.level → list_all (is_read run.bytes) run.entries ≡ true
      → AllByRecursion HasNumber t.parents → now ≡ with_entry run t.low (parents_bytes t) (t.high + 1) run.grouped → RowTo top segments from now
  next-row s t now e t-is level read have is =
      let same = next-same s t e t-is in
      let low = next-low s t e t-is in
      let number : run.level ≡ t.level = level ∙ sym (ap (λ (q : Segment). q.level) t-is) in
      let one : t.high + 1 - 1 ≡ t.high = omega arith in
      let made = λ (n high : ℕ). (let q : Segment = record { low = t.low; high = high; level = n; parents = t.parents } in q) in
      let now-segments : segments_in now ≡ segments_in run ++ next.first ∷ [] =
      ap segments_in is
      ∙ entry-segments run t.low (t.high + 1) run.grouped t.parents (parents_bytes t) refl have read low
      ∙ ap (λ n. segments_in run ++ made run.level n ∷ []) one ∙ ap (λ n. segments_in run ++ made n t.high ∷ []) number ∙ ap (λ q. segments_in run ++ q ∷ []) same in
      let behind : drop (r.at + 1) segments ≡ next.more = sym (drop-drop 1 r.at segments) ∙ ap (drop 1) next.are in
      let len = length-drop r.at segments in let long = ap length next.are in
      let follows = follow-next 0 top.end segments r.at h.follow next.first next.more next.are in
      record {
        at = r.at + 1;
        within = omega (arith, len, long);
        end = ap (λ (p : PlainLevel). p.end) is ∙ ap (λ (q : Segment). q.high + 1) same ∙ follows ∙ ap (begin_of top.end) (sym behind);
        parts = ap (λ z. z ++ drop (r.at + 1) segments) now-segments ∙ ap (λ z. (segments_in run ++ next.first ∷ []) ++ z) behind
            ∙ append_assoc (segments_in run) (next.first ∷ []) next.more ∙ ap (λ z. segments_in run ++ z) (sym next.are) ∙ r.parts;
      }

pub row-more : (levels : List PlainGroups) (top : PlainGroups) (start : ℕ) (run now : PlainLevel) (s t : Segment) → RowSoFar levels top start run → run.end < top.end → held_from None levels run.end ≡ Some s
    → t ≡ record s { level = top.level } → AllByRecursion HasNumber t.parents → now ≡ with_entry run t.low (parents_bytes t) (t.high + 1) run.grouped → RowSoFar levels top start now
row-more levels top start run now s t r lt e t-is have is =
    record {
      level = ap (λ (p : PlainLevel). p.level) is ∙ r.level;
      grouped = ap (λ (p : PlainLevel). p.grouped) is ∙ r.grouped;
      read = ap (λ (p : PlainLevel). list_all (is_read p.bytes) p.entries) is ∙ entry-read run t.low (t.high + 1) run.grouped t.parents (parents_bytes t) refl have r.read;
      goes = λ segments from h. next-row levels top segments from start h run (r.goes segments from h) lt s t now e t-is r.level r.read have is;
    }

-- at the end
pub row-all : (levels : List PlainGroups) (top : PlainGroups) (segments : List Segment) (from start : ℕ) → HasFrom levels top segments from start → (run : PlainLevel) → RowSoFar levels top start run → top.end ≤ run.end
    → IsRowFrom top segments from run
row-all levels top segments from start h run s le =
    let r = s.goes segments from h in
    let d = drop r.at segments in
    let none = none-left d refl in
    record {
      segments_are = sym (append-nil (segments_in run)) ∙ ap (λ z. segments_in run ++ z) (sym none) ∙ r.parts;
      end = r.end ∙ ap (begin_of top.end) none;
      level = s.level;
      grouped = s.grouped;
      read = s.read;
    }
  where
    none-left : (xs : List Segment) → drop (s.goes segments from h).at segments ≡ xs → xs ≡ []
    none-left [] e = refl
    none-left (x ∷ xs) e =
        let r = s.goes segments from h in
        let i : IsIn x segments = in-drop r.at segments x (subst (λ z. IsIn x z) (sym e) (inl refl)) in
        let w = follow-within 0 top.end segments h.follow x i in let a = w.1 in let b = w.2 in
        let low = r.end ∙ ap (begin_of top.end) e in
        absurd (omega (arith, le, a, b, low))
