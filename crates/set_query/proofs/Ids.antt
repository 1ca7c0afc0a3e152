-- The ids of a table: where they stand in its graph, and that the members of an expression are among them.
use Rattle.std.proofs.Common.{◌≡◌, ℕ, zero, suc, ◌+◌, ◌-◌, ◌<◌, ◌≤◌, ◌^◌, ◌⊎◌, inl, inr, false, List, Option, [], ◌∷◌, ◌++◌, Some, None, length, take, drop, map, refl, sym, subst, ap, ◌∙◌, arith, ⊎_elim}
use Rattle.std.specs.Prelude.{◌↔◌}
use Rattle.id_groups.specs.Lists.{IsIn, AreAllIn}
use Rattle.id_groups.specs.declared.span.IdSpan.{IdSpan}
use Rattle.commit_graph.specs.Graph.{Graph}
use Rattle.commit_graph.specs.Renaming.{IsRenaming, IsClosed}
use Rattle.commit_graph.proofs.Places.{below-master}
use Rattle.id_groups.specs.Id.{is_master_id}
use Rattle.std.proofs.lemmas.Bool.{true≢false}
use Rattle.std.proofs.lemmas.Bool.Decides.{nat_tests}
use Rattle.std.proofs.lemmas.List.{length-append, length-take, length-drop}
use Rattle.commit_graph.proofs.Histories.{in-append}
use Rattle.commit_graph.proofs.Down.{in-left, in-right}
use Rattle.segment_codec.specs.Record.{Segment}
use Rattle.segment_codec.specs.Table.{segment_at, parents_in, parents_at, IsInSegment, IsHeld, Cover, IsLawful}
use Rattle.segment_codec.proofs.Tables.{found-head, found-behind, head-or-behind, segment-in}
use Rattle.span_set.specs.Members.{IsMember, descending_from}
use Rattle.span_set.proofs.Counts.{ids-member, member-ids}
use Rattle.ancestor_query.specs.Graph.{table_graph, down_of}
use Rattle.ancestor_query.proofs.Graphs.{reached-held}
use Rattle.range_query.proofs.Bounds as bounds
use Rattle.set_expr.specs.declared.words.Word.TheVariants as words
use Rattle.set_expr.specs.declared.words.Call.{Call}
use Rattle.set_expr.specs.Expr.{Expr, One, Named, Of, OfTwo, Up, Top, commits_in}
use Rattle.set_expr.specs.Ids.{first_id, with_ids}
use Rattle.set_expr.specs.Meaning as means
use Rattle.set_expr.proofs.Renamings.{members-agree}

-- the ids of a segment, the greatest first
pub ids-in : (s : Segment) (x : ℕ) → IsIn x (descending_from s.low (s.high + 1 - s.low)) → IsInSegment x s
ids-in s x i =
    let span : IdSpan = record { low = s.low; high = s.high } in
    ⊎_elim (λ h. h) (λ h. absurd h) (ids-member (span ∷ []) x (in-left x (descending_from s.low (s.high + 1 - s.low)) [] i))

in-ids : (s : Segment) (x : ℕ) → IsInSegment x s → IsIn x (descending_from s.low (s.high + 1 - s.low))
in-ids s x h =
    let span : IdSpan = record { low = s.low; high = s.high } in
    ⊎_elim (λ i. i) (λ i. absurd i) (in-append x (descending_from s.low (s.high + 1 - s.low)) [] (member-ids (span ∷ []) x (inl h)))

-- the graph of a table has exactly the ids that it holds
pub held-down : (flats : List Segment) (x : ℕ) → IsHeld flats x → IsIn x (down_of flats)
held-down flats x h = let f = segment-in flats x h.0 h.1 in go flats h.0 f.0 f.1
  where
    go : (flats : List Segment) (s : Segment) → IsIn s flats → IsInSegment x s → IsIn x (down_of flats)
    go [] s i h = absurd i
    go (t ∷ rest) s (inl e) h = in-right x (down_of rest) (descending_from t.low (t.high + 1 - t.low)) (in-ids t x (subst (λ (q : Segment). IsInSegment x q) e h))
    go (t ∷ rest) s (inr i) h = in-left x (down_of rest) (descending_from t.low (t.high + 1 - t.low)) (go rest s i h)

pub down-held : (flats : List Segment) (x : ℕ) → IsIn x (down_of flats) → IsHeld flats x
down-held [] x i = absurd i
down-held (t ∷ rest) x i = ⊎_elim
    (λ h. (t, found-head t rest x h))
    (λ n. ⊎_elim
    (λ j. let r = down-held rest x j in (r.0, found-behind t rest x n ∙ r.1))
    (λ j. absurd (n (ids-in t x j)))
    (in-append x (down_of rest) (descending_from t.low (t.high + 1 - t.low)) i))
    (head-or-behind t x)

-- by the bounds of a table: whether it holds an id
pub cover-held : (flats : List Segment) (master others : ℕ) → Cover flats master others → (x : ℕ)
    → IsHeld flats x ↔ (((0 ≤ x) × (x < 0 + master)) ⊎ ((2 ^ 56 ≤ x) × (x < 2 ^ 56 + others)))
cover-held flats master others c x = bounds.cover-held flats master others c x

-- an id of the master group
pub master-ids : (flats : List Segment) (master others : ℕ) → Cover flats master others → (x : ℕ)
    → ((0 ≤ x) × (x < master)) ↔ means.named (table_graph flats) words.Master x
master-ids flats master others c x = (
  λ h. let lt = h.1 in let room = c.room in
      (held-down flats x ((cover-held flats master others c x).1 (inl (omega arith, omega arith))), below-master x (omega arith)),
  λ h. ⊎_elim (λ a. let lt = a.1 in (a.0, omega arith))
      (λ a. absurd (true≢false (sym h.1 ∙ over-master-id x a.0))) ((cover-held flats master others c x).0 (down-held flats x h.0)),
)
  where
    over-master-id : (x : ℕ) → 2 ^ 56 ≤ x → is_master_id x ≡ false
    over-master-id x le = grind (arith, nat_tests)

-- an id of the other group
pub other-ids : (flats : List Segment) (master others : ℕ) → Cover flats master others → (x : ℕ)
    → ((2 ^ 56 ≤ x) × (x < 2 ^ 56 + others)) ↔ means.named (table_graph flats) words.Others x
other-ids flats master others c x = (
  λ h. (held-down flats x ((cover-held flats master others c x).1 (inr h)), over-master-id x h.0),
  λ h. ⊎_elim (λ a. let lt = a.1 in let room = c.room in absurd (true≢false (sym (below-master x (omega arith)) ∙ h.1)))
      (λ a. a) ((cover-held flats master others c x).0 (down-held flats x h.0)),
)
  where
    over-master-id : (x : ℕ) → 2 ^ 56 ≤ x → is_master_id x ≡ false
    over-master-id x le = grind (arith, nat_tests)

-- the set with the ids of one group alone
pub put-to-none : (none all : List IdSpan) (P Q : ℕ → Type 0) → none ≡ [] → ((x : ℕ) → IsMember all x ↔ (IsMember none x ⊎ P x)) → ((x : ℕ) → P x ↔ Q x)
    → (x : ℕ) → IsMember all x ↔ Q x
put-to-none none all P Q e f g x = (
  λ m. ⊎_elim (λ (i : IsMember none x). absurd (subst (λ l. IsMember l x) e i)) (λ p. (g x).0 p) ((f x).0 m),
  λ q. (f x).1 (inr ((g x).1 q)),
)

-- the ids of both groups are all
pub both-groups : (flats : List Segment) (master others : ℕ) → Cover flats master others → (some all : List IdSpan)
    → ((x : ℕ) → IsMember some x ↔ means.named (table_graph flats) words.Others x)
    → ((x : ℕ) → IsMember all x ↔ (IsMember some x ⊎ ((0 ≤ x) × (x < master))))
    → (x : ℕ) → IsMember all x ↔ IsIn x (table_graph flats).down
both-groups flats master others c some all f g x = (
  λ m. ⊎_elim (λ i. ((f x).0 i).0) (λ a. ((master-ids flats master others c x).0 a).0) ((g x).0 m),
  λ i. (g x).1 (⊎_elim (λ a. let lt = a.1 in inr (a.0, omega arith)) (λ a. inl ((f x).1 ((other-ids flats master others c x).0 a)))
      ((cover-held flats master others c x).0 (down-held flats x i))),
)

-- the id that stands for a commit is one of the ids
pub first-in : (ids : List ℕ) → length ids ≡ 1 → IsIn (first_id ids) ids
first-in [] e = absurd (omega arith)
first-in (x ∷ ids) e = inl refl

-- an id with parents is one of the table
child-held : (flats : List Segment) (x p : ℕ) → IsIn p (parents_at flats x) → IsHeld flats x
child-held flats x p i = go (segment_at flats x) refl i
  where
    go : (o : Option Segment) → segment_at flats x ≡ o → IsIn p (parents_in o x) → IsHeld flats x
    go None e j = absurd j
    go (Some s) e j = (s, e)

pub table-closed : (flats : List Segment) → IsLawful flats → IsClosed (table_graph flats)
table-closed flats law = record {
  parents = λ x p i. held-down flats p (reached-held flats law x (p ∷ []) p (child-held flats x p i) (i, refl));
  children = λ x p i. held-down flats x (child-held flats x p i);
}

-- the ids for the names of two expressions one behind the other
pub take-count : {N : Type 0} (a b : Expr N) (ids : List ℕ) → length ids ≡ length (commits_in a ++ commits_in b) → length (take (length (commits_in a)) ids) ≡ length (commits_in a)
take-count {N} a b ids n = omega (arith, n, length-append {A = N}, length-take {A = ℕ})

pub drop-count : {N : Type 0} (a b : Expr N) (ids : List ℕ) → length ids ≡ length (commits_in a ++ commits_in b) → length (drop (length (commits_in a)) ids) ≡ length (commits_in b)
drop-count {N} a b ids n = omega (arith, n, length-append {A = N}, length-drop {A = ℕ})

pub take-in : (x n : ℕ) (xs : List ℕ) → IsIn x (take n xs) → IsIn x xs
take-in x zero xs i = absurd i
take-in x (suc n) [] i = absurd i
take-in x (suc n) (y ∷ xs) (inl e) = inl e
take-in x (suc n) (y ∷ xs) (inr i) = inr (take-in x n xs i)

pub drop-in : (x n : ℕ) (xs : List ℕ) → IsIn x (drop n xs) → IsIn x xs
drop-in x zero xs i = i
drop-in x (suc n) [] i = i
drop-in x (suc n) (y ∷ xs) i = inr (drop-in x n xs i)

-- each graph is itself under the same names
pub self-renaming : (g : Graph ℕ) → IsRenaming (λ x. x) g g
self-renaming g = record {
  down = sym (map-same g.down);
  parents = λ x i. sym (map-same (g.parents x));
  master = λ x i. refl;
  apart = λ x y i j e. e;
}
  where
    map-same : (xs : List ℕ) → map (λ x. x) xs ≡ xs
    map-same [] = refl
    map-same (x ∷ xs) = ap (λ l. x ∷ l) (map-same xs)

-- the ids that are put into an expression are among those given
ids-among : (P : ℕ → Type 0) {N : Type 0} (e : Expr N) (ids : List ℕ) → length ids ≡ length (commits_in e) → ((x : ℕ) → IsIn x ids → P x) → (down : List ℕ) → ((x : ℕ) → P x → IsIn x down)
    → AreAllIn (commits_in (with_ids e ids)) down
ids-among P (One y) ids n h down f = (f (first_id ids) (h (first_id ids) (first-in ids n)), tt)
ids-among P (Named word) ids n h down f = tt
ids-among P (Of call s) ids n h down f = ids-among P s ids n h down f
ids-among P {N} (OfTwo call a b) ids n h down f =
    all-both (commits_in (with_ids a (take (length (commits_in a)) ids))) (commits_in (with_ids b (drop (length (commits_in a)) ids))) down
    (ids-among P a (take (length (commits_in a)) ids) (take-count a b ids n) (λ x i. h x (take-in x (length (commits_in a)) ids i)) down f)
    (ids-among P b (drop (length (commits_in a)) ids) (drop-count a b ids n) (λ x i. h x (drop-in x (length (commits_in a)) ids i)) down f)
  where
    all-both : (xs ys zs : List ℕ) → AreAllIn xs zs → AreAllIn ys zs → AreAllIn (xs ++ ys) zs
    all-both [] ys zs h k = k
    all-both (x ∷ xs) ys zs h k = (h.0, all-both xs ys zs h.1 k)
ids-among P (Up y k) ids n h down f = (f (first_id ids) (h (first_id ids) (first-in ids n)), tt)
ids-among P (Top s k) ids n h down f = ids-among P s ids n h down f

-- the members of an expression are ids of the table
pub member-held : (flats : List Segment) → IsLawful flats → (ids : List ℕ) → ((x : ℕ) → IsIn x ids → IsHeld flats x) → {N : Type 0} (e : Expr N)
    → length ids ≡ length (commits_in e) → (x : ℕ) → means.IsMember (table_graph flats) (with_ids e ids) x → IsHeld flats x
member-held flats lawful ids held e n x m =
    let g = table_graph flats in
    let closed = table-closed flats lawful in
    let agrees = members-agree (λ y. y) g g (self-renaming g) closed closed (with_ids e ids) (ids-among (IsHeld flats) e ids n held g.down (λ y h. held-down flats y h)) in
    down-held flats x (agrees.within x m)

-- ids of the other group end below the end of all ids
pub cover-room : (flats : List Segment) → IsLawful flats → (master others : ℕ) → Cover flats master others → 2 ^ 56 + others ≤ 2 ^ 57
cover-room flats lawful master others c = bounds.cover-room flats lawful master others c

-- what one name means over one id is that id
pub only-of : {N : Type 0} (g : Graph ℕ) (e : Expr N) (name : N) (ids : List ℕ) (x : ℕ) (members : List IdSpan) → e ≡ One name → ids ≡ x ∷ []
    → ((y : ℕ) → IsMember members y ↔ means.IsMember g (with_ids e ids) y) → (y : ℕ) → IsMember members y ↔ (y ≡ x)
only-of {N} g e name ids x members same_e same_ids h y =
    subst (λ (l : List ℕ). IsMember members y ↔ (y ≡ first_id l)) same_ids
    (subst (λ (f : Expr N). IsMember members y ↔ means.IsMember g (with_ids f ids) y) same_e (h y))

-- a call is that call of that expression
pub call-of : {N : Type 0} (a b : Call) (s t : Expr N) → Of a s ≡ Of b t → a ≡ b
call-of a b s t e = cc

pub set-of : {N : Type 0} (a b : Call) (s t : Expr N) → Of a s ≡ Of b t → s ≡ t
set-of a b s t e = cc

-- the ids for two expressions one behind the other
pub record Parted {N : Type 0} (flats : List Segment) (a b : Expr N) (front back : List ℕ) : Type 0 where
  pub few_front : length (commits_in a) ≤ 256
  pub few_back : length (commits_in b) ≤ 256
  pub front_count : length front ≡ length (commits_in a)
  pub back_count : length back ≡ length (commits_in b)
  pub front_held : (x : ℕ) → IsIn x front → IsHeld flats x
  pub back_held : (x : ℕ) → IsIn x back → IsHeld flats x

pub parted : {N : Type 0} (flats : List Segment) (a b : Expr N) (ids front back : List ℕ) (n : ℕ) → n ≡ length (commits_in a) → front ≡ take n ids → back ≡ drop n ids
    → length ids ≡ length (commits_in a ++ commits_in b) → length (commits_in a ++ commits_in b) ≤ 256 → ((x : ℕ) → IsIn x ids → IsHeld flats x) → Parted flats a b front back
parted {N} flats a b ids front back n is f k count few held =
    let front_is : front ≡ take (length (commits_in a)) ids = f ∙ ap (λ m. take m ids) is in
    let back_is : back ≡ drop (length (commits_in a)) ids = k ∙ ap (λ m. drop m ids) is in
    record {
      few_front = omega (arith, few, length-append {A = N});
      few_back = omega (arith, few, length-append {A = N});
      front_count = ap length front_is ∙ take-count a b ids count;
      back_count = ap length back_is ∙ drop-count a b ids count;
      front_held = λ x i. held x (take-in x (length (commits_in a)) ids (subst (IsIn x) front_is i));
      back_held = λ x i. held x (drop-in x (length (commits_in a)) ids (subst (IsIn x) back_is i));
    }
