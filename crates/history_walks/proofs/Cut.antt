-- A table in which each segment has its first parent alone: it is lawful, and its graph is that of first parents.
use Rattle.std.proofs.Common.{◌≡◌, ℕ, ◌+◌, ◌-◌, ◌^◌, ◌≤◌, ◌<◌, ◌↔◌, Bool, true, false, inl, inr, List, [], ◌∷◌, length, map, take, Option, Some, None, nat_eq, refl, sym, ◌∙◌, ap, subst, arith, if◌then◌else◌}
use Rattle.std.specs.Option.{option_map}
use Rattle.std.specs.List.{AllByRecursion}
use Rattle.std.proofs.lemmas.List.{map-append}
use Rattle.id_groups.specs.Lists.{IsIn, AreDistinct}
use Rattle.commit_graph.specs.Graph.{IsWalk}
use Rattle.commit_graph.specs.Sets as sets
use Rattle.segment_codec.specs.Record.{Segment, HasLevelsParents}
use Rattle.segment_codec.specs.Table.{holds, segment_at, parents_in, parents_at, IsHeld, Follow, IsFlatOf, IsLawful}
use Rattle.ancestor_query.specs.Graph.{table_graph}
use Rattle.set_expr.proofs.Deciding.{take-in}
use Rattle.set_expr.specs.Line.{by_first, line}

-- the segment with its first parent alone
abbrev pub cut : Segment → Segment
cut s = record { low = s.low; high = s.high; level = s.level; parents = take 1 s.parents }

abbrev pub cuts : List Segment → List Segment
cuts flats = map cut flats

pub cut-at : (flats : List Segment) (x : ℕ) → segment_at (cuts flats) x ≡ option_map cut (segment_at flats x)
cut-at [] x = refl
cut-at (s ∷ flats) x = go (holds s x) (cut-at flats x)
  where
    go : (b : Bool) → segment_at (cuts flats) x ≡ option_map cut (segment_at flats x) → (if b then Some (cut s) else segment_at (cuts flats) x) ≡ option_map cut (if b then Some s else segment_at flats x)
    go true h = refl
    go false h = h

pub cut-found : (flats : List Segment) (x : ℕ) (s : Segment) → segment_at flats x ≡ Some s → segment_at (cuts flats) x ≡ Some (cut s)
cut-found flats x s e = cut-at flats x ∙ ap (option_map cut) e

pub cut-held : (flats : List Segment) (x : ℕ) → IsHeld flats x → IsHeld (cuts flats) x
cut-held flats x h = (cut h.0, cut-found flats x h.0 h.1)

cut-from : (flats : List Segment) (t : Segment) → IsIn t (cuts flats) → (s : Segment) × IsIn s flats × (t ≡ cut s)
cut-from [] t i = absurd i
cut-from (s ∷ flats) t (inl e) = (s, inl refl, e)
cut-from (s ∷ flats) t (inr i) = let r = cut-from flats t i in (r.0, inr r.1, r.2)

cut-follow : (first end : ℕ) (segments : List Segment) → Follow first end segments → Follow first end (cuts segments)
cut-follow first end [] h = h
cut-follow first end (s ∷ more) h = (h.0, h.1, cut-follow (s.high + 1) end more h.2)

all-of-one : (P : ℕ → Type 0) (xs : List ℕ) → AllByRecursion P xs → AllByRecursion P (take 1 xs)
all-of-one P [] h = tt
all-of-one P (x ∷ xs) h = (h.0, tt)

one-distinct : (xs : List ℕ) → AreDistinct (take 1 xs)
one-distinct [] = tt
one-distinct (x ∷ xs) = ((λ i. i), tt)

one-few : (xs : List ℕ) → length (take 1 xs) ≤ 8
one-few [] = omega arith
one-few (x ∷ xs) = omega arith

module _ (flats : List Segment) (lawful : IsLawful flats) where
  cut-flat : (s : Segment) → IsIn s flats → IsFlatOf (cuts flats) (cut s)
  cut-flat s i =
      let f = lawful.each s i in
      record {
        segment = record {
          ascending = f.segment.ascending;
          one_group = f.segment.one_group;
          valid = f.segment.valid;
          level = f.segment.level;
          below = all-of-one (λ p. p < s.low) s.parents f.segment.below;
          distinct = one-distinct s.parents;
          level_parents = subst (λ level. HasLevelsParents level (take 1 s.parents)) (sym f.flat) (one-few s.parents);
        };
        flat = f.flat;
        parents = λ p j. cut-held flats p (f.parents p (take-in p 1 s.parents j));
      }

  pub cut-lawful : IsLawful (cuts flats)
  cut-lawful = record {
    master = lawful.master;
    others = lawful.others;
    cover = record {
      front = cuts lawful.cover.front;
      back = cuts lawful.cover.back;
      parts = ap cuts lawful.cover.parts ∙ map-append cut lawful.cover.front lawful.cover.back;
      master_ids = cut-follow 0 lawful.master lawful.cover.front lawful.cover.master_ids;
      other_ids = cut-follow (2 ^ 56) (2 ^ 56 + lawful.others) lawful.cover.back lawful.cover.other_ids;
      room = lawful.cover.room;
    };
    each = λ t i. let r = cut-from flats t i in subst (IsFlatOf (cuts flats)) (sym r.2) (cut-flat r.0 r.1);
  }

one-of : (o : Option Segment) (x : ℕ) → parents_in (option_map cut o) x ≡ take 1 (parents_in o x)
one-of None x = refl
one-of (Some s) x = go (nat_eq x s.low)
  where
    go : (b : Bool) → (if b then take 1 s.parents else (x - 1) ∷ []) ≡ take 1 (if b then s.parents else (x - 1) ∷ [])
    go true = refl
    go false = refl

-- the parents that the cut table gives
pub cut-parents : (flats : List Segment) (x : ℕ) → parents_at (cuts flats) x ≡ take 1 (parents_at flats x)
cut-parents flats x = ap (λ o. parents_in o x) (cut-at flats x) ∙ one-of (segment_at flats x) x

to-first : (flats : List Segment) (x : ℕ) (walk : List ℕ) (y : ℕ) → IsWalk (table_graph (cuts flats)) x walk y → IsWalk (by_first (table_graph flats)) x walk y
to-first flats x [] y h = h
to-first flats x (p ∷ more) y h = (subst (IsIn p) (cut-parents flats x) h.0, to-first flats p more y h.1)

of-first : (flats : List Segment) (x : ℕ) (walk : List ℕ) (y : ℕ) → IsWalk (by_first (table_graph flats)) x walk y → IsWalk (table_graph (cuts flats)) x walk y
of-first flats x [] y h = h
of-first flats x (p ∷ more) y h = (subst (IsIn p) (sym (cut-parents flats x)) h.0, of-first flats p more y h.1)

-- what is reached in the cut table is the line
pub cut-line : (flats : List Segment) (S : ℕ → Type 0) (z : ℕ) → sets.ancestors (table_graph (cuts flats)) S z ↔ line (table_graph flats) S z
cut-line flats S z = (
  λ h. (h.0, h.1, (h.2.0, to-first flats h.0 h.2.0 z h.2.1)),
  λ h. (h.0, h.1, (h.2.0, of-first flats h.0 h.2.0 z h.2.1)),
)

-- what the cut table has, the table has
pub cut-back : (flats : List Segment) (x : ℕ) → IsHeld (cuts flats) x → IsHeld flats x
cut-back flats x h = back (segment_at flats x) refl (sym (cut-at flats x) ∙ h.1)
  where
    back : (o : Option Segment) → segment_at flats x ≡ o → option_map cut o ≡ Some h.0 → IsHeld flats x
    back None e f = cc
    back (Some s) e f = (s, e)
