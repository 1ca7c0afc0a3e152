-- The look-ups of a view: the three runs of its segments, one behind the other.
use Rattle.std.proofs.Common.{◌≡◌, ℕ, zero, suc, ◌+◌, ◌-◌, ◌<◌, ◌≤◌, ◌^◌, ◌⊎◌, inl, inr, List, [], ◌∷◌, ◌++◌, length, map, Some, None, refl, sym, subst, ap, ◌∙◌, arith, ⊎_elim}
use Rattle.std.specs.Prelude.{slice_get}
use Rattle.std.proofs.lemmas.List.{length-append, length-map}
use Rattle.segment_codec.specs.Record.{Segment}
use Rattle.segment_codec.specs.Table.{IsInSegment, segment_at, Follow, Cover}
use Rattle.segment_codec.proofs.Flats.{lawful-parts}
use Rattle.segment_codec.proofs.Tables.{found-head, found-behind, head-or-behind, follow-ends}
use Rattle.flat_segments.specs.Entries.{PlainEntry}
use Rattle.flat_segments.specs.declared.view.FlatView.{FlatView}
use Rattle.flat_segments.specs.Maximal.{begin_of, up_to}
use Rattle.flat_segments.specs.Runs.{segment_in, flats_in}
use Rattle.flat_segments.specs.Views.{flats_of, master_flats, other_flats, view_flats}
use Rattle.flat_segments.proofs.Rising.{begin-up_to, follow-begin}
use Rattle.flat_segments.proofs.Searching.{run-follow}

-- ---- places

up_to-length : (end : ℕ) (xs : List Segment) → length (up_to end xs) ≡ length xs
up_to-length end [] = refl
up_to-length end (s ∷ more) = ap suc (up_to-length end more)

pub flats-length : (bytes : List ℕ) (end : ℕ) (es : List PlainEntry) → length (flats_in bytes end es) ≡ length es
flats-length bytes end es = up_to-length end (map (segment_in bytes) es) ∙ length-map es (segment_in bytes)

pub get-front : (xs ys : List Segment) (k : ℕ) (s : Segment) → slice_get xs k ≡ Some s → slice_get (xs ++ ys) k ≡ Some s
get-front [] ys k s e = absurd cc
get-front (x ∷ xs) ys zero s e = e
get-front (x ∷ xs) ys (suc k) s e = get-front xs ys k s e

pub get-back : (xs ys : List Segment) (k j : ℕ) (s : Segment) → length xs + j ≡ k → slice_get ys j ≡ Some s → slice_get (xs ++ ys) k ≡ Some s
get-back [] ys k j s same e = let is : k ≡ j = omega (arith, same) in ap (slice_get ys) is ∙ e
get-back (x ∷ xs) ys zero j s same e = absurd (omega (arith, same))
get-back (x ∷ xs) ys (suc k) j s same e = get-back xs ys k j s (omega (arith, same)) e

-- ---- ids

pub at-front : (front back : List Segment) (x : ℕ) (s : Segment) → segment_at front x ≡ Some s → segment_at (front ++ back) x ≡ Some s
at-front [] back x s e = absurd cc
at-front (t ∷ front) back x s e =
    ⊎_elim
    (λ i. found-head t (front ++ back) x i ∙ sym (found-head t front x i) ∙ e)
    (λ n. found-behind t (front ++ back) x n ∙ at-front front back x s (sym (found-behind t front x n) ∙ e))
    (head-or-behind t x)

pub none-outside : (first end : ℕ) (xs : List Segment) (x : ℕ) → Follow first end xs → (x < first) ⊎ (end ≤ x) → segment_at xs x ≡ None
none-outside first end [] x h out = refl
none-outside first end (t ∷ more) x h out =
    let low = h.0 in let order = h.1 in let ends = follow-ends (t.high + 1) end more h.2 in
    found-behind t more x (λ (i : IsInSegment x t). let a = i.0 in let b = i.1 in ⊎_elim (λ (lt : x < first). absurd (omega (arith, lt, a, low))) (λ (le : end ≤ x). absurd (omega (arith, le, b, ends))) out)
    ∙ none-outside (t.high + 1) end more x h.2 (⊎_elim (λ (lt : x < first). inl (omega (arith, lt, order))) (λ (le : end ≤ x). inr le) out)

pub at-back : (front back : List Segment) (x : ℕ) → segment_at front x ≡ None → segment_at (front ++ back) x ≡ segment_at back x
at-back [] back x e = refl
at-back (t ∷ front) back x e =
    ⊎_elim
    (λ i. let some = sym (found-head t front x i) ∙ e in absurd cc)
    (λ n. found-behind t (front ++ back) x n ∙ at-back front back x (sym (found-behind t front x n) ∙ e))
    (head-or-behind t x)

-- ---- a view

pub record ViewFacts (v : FlatView) : Type 0 where
  pub master_ids : Follow 0 v.master.end (master_flats v)
  pub other_ids : Follow (2 ^ 56) v.others.end (flats_of v.others)
  pub pending_ids : Follow v.others.end v.pending.end (flats_of v.pending)
  pub room : v.master.end ≤ 2 ^ 56
  pub others : 2 ^ 56 ≤ v.others.end
  pub pending : v.others.end ≤ v.pending.end
  pub cover : Cover (view_flats v) v.master.end (v.pending.end - 2 ^ 56)

pub view-facts : (v : FlatView) → ViewFacts v
view-facts v =
    let parts = lawful-parts v.master.end (v.pending.end - 2 ^ 56) (master_flats v) (other_flats v) v.lawful in
    let others : Follow (2 ^ 56) v.others.end (flats_of v.others) =
    subst (λ (n : ℕ). Follow n v.others.end (flats_of v.others)) (sym (begin-up_to v.others.end (map (segment_in v.others.bytes.now) v.others.entries.now)) ∙ v.other_ids)
    (run-follow v.others.bytes.now v.others.end v.others.entries.now v.others.read) in
    let pending : Follow v.others.end v.pending.end (flats_of v.pending) =
    subst (λ (n : ℕ). Follow n v.pending.end (flats_of v.pending)) (sym (begin-up_to v.pending.end (map (segment_in v.pending.bytes.now) v.pending.entries.now)) ∙ v.pending_ids)
    (run-follow v.pending.bytes.now v.pending.end v.pending.entries.now v.pending.read) in
    record {
      master_ids = parts.master_ids;
      other_ids = others;
      pending_ids = pending;
      room = parts.room;
      others = follow-ends (2 ^ 56) v.others.end (flats_of v.others) others;
      pending = follow-ends v.others.end v.pending.end (flats_of v.pending) pending;
      cover = record { front = master_flats v; back = other_flats v; parts = refl; master_ids = parts.master_ids; other_ids = parts.other_ids; room = parts.room };
    }

module _ (v : FlatView) where
  pub view-length : length v.master.entries.now + length v.others.entries.now + length v.pending.entries.now ≡ length (view_flats v)
  view-length =
      let m = flats-length v.master.bytes.now v.master.end v.master.entries.now in
      let o = flats-length v.others.bytes.now v.others.end v.others.entries.now in
      let p = flats-length v.pending.bytes.now v.pending.end v.pending.entries.now in
      let a = length-append (master_flats v) (other_flats v) in
      let b = length-append (flats_of v.others) (flats_of v.pending) in
      omega (arith, m, o, p, a, b)

  pub get-others : (k : ℕ) (s : Segment) → length v.master.entries.now ≤ k → slice_get (flats_of v.others) (k - length v.master.entries.now) ≡ Some s → slice_get (view_flats v) k ≡ Some s
  get-others k s le e =
      let m = flats-length v.master.bytes.now v.master.end v.master.entries.now in
      get-back (master_flats v) (other_flats v) k (k - length v.master.entries.now) s (omega (arith, m, le)) (get-front (flats_of v.others) (flats_of v.pending) (k - length v.master.entries.now) s e)

  pub get-pending : (k : ℕ) (s : Segment) → length v.master.entries.now ≤ k → length v.others.entries.now ≤ k - length v.master.entries.now
      → slice_get (flats_of v.pending) (k - length v.master.entries.now - length v.others.entries.now) ≡ Some s → slice_get (view_flats v) k ≡ Some s
  get-pending k s le more e =
      let m = flats-length v.master.bytes.now v.master.end v.master.entries.now in
      let o = flats-length v.others.bytes.now v.others.end v.others.entries.now in
      get-back (master_flats v) (other_flats v) k (k - length v.master.entries.now) s (omega (arith, m, le))
      (get-back (flats_of v.others) (flats_of v.pending) (k - length v.master.entries.now) (k - length v.master.entries.now - length v.others.entries.now) s (omega (arith, o, more)) e)

  none-master : (id : ℕ) → v.master.end ≤ id → segment_at (view_flats v) id ≡ segment_at (other_flats v) id
  none-master id le = at-back (master_flats v) (other_flats v) id (none-outside 0 v.master.end (master_flats v) id (view-facts v).master_ids (inr le))

  pub found-others : (id : ℕ) (s : Segment) → v.master.end ≤ id → segment_at (flats_of v.others) id ≡ Some s → segment_at (view_flats v) id ≡ Some s
  found-others id s le e = none-master id le ∙ at-front (flats_of v.others) (flats_of v.pending) id s e

  pub found-pending : (id : ℕ) (s : Segment) → v.master.end ≤ id → v.others.end ≤ id → segment_at (flats_of v.pending) id ≡ Some s → segment_at (view_flats v) id ≡ Some s
  found-pending id s le more e =
      none-master id le ∙ at-back (flats_of v.others) (flats_of v.pending) id (none-outside (2 ^ 56) v.others.end (flats_of v.others) id (view-facts v).other_ids (inr more)) ∙ e

  pub found-none : (id : ℕ) → v.master.end ≤ id → (id < 2 ^ 56) ⊎ (v.pending.end ≤ id) → segment_at (view_flats v) id ≡ None
  found-none id le out =
      let f = view-facts v in let a = f.others in let b = f.pending in
      none-master id le
      ∙ at-back (flats_of v.others) (flats_of v.pending) id (none-outside (2 ^ 56) v.others.end (flats_of v.others) id f.other_ids
      (⊎_elim (λ (lt : id < 2 ^ 56). inl lt) (λ (ge : v.pending.end ≤ id). inr (omega (arith, ge, b))) out))
      ∙ none-outside v.others.end v.pending.end (flats_of v.pending) id f.pending_ids (⊎_elim (λ (lt : id < 2 ^ 56). inl (omega (arith, lt, a))) (λ (ge : v.pending.end ≤ id). inr ge) out)

  pub master-begin : (id : ℕ) → begin_of v.master.end (master_flats v) ≤ id
  master-begin id = let e = follow-begin 0 v.master.end (master_flats v) (view-facts v).master_ids in omega (arith, e)
