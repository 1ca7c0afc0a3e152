-- Flat segments without their level are those of the rules, and a change that is made of them is one by the rules.
use Rattle.std.proofs.Common.{◌≡◌, ◌<◌, ◌+◌, ◌^◌, ℕ, suc, Bool, true, false, ◌&&◌, List, [], ◌∷◌, map, drop, length, nat_eq, refl, sym, ap, ap₂, ◌∙◌, if◌then◌else◌, ⊎_elim, true≢false, zero-lt-suc, arith}
use Rattle.std.specs.Cmp.Lexicographic.{pointwise}
use Rattle.id_groups.specs.Lists.{IsIn}
use Rattle.id_groups.specs.Name.{Name, same_name}
use Rattle.id_groups.proofs.Names.{same_name-self}
use Rattle.commit_graph.specs.World.{World, names_of}
use Rattle.commit_graph.specs.Ids.{parent_ids, place_of}
use Rattle.segment_codec.specs.Turns.{is_only}
use Rattle.segment_rules.specs.Flat.{flat_segments_of}
use Rattle.segment_rules.specs.NewLevels.{new_levels}
use Rattle.batch_codec.specs.Payload.{Payload}
use Rattle.change_rules.specs.Change.{known_from, flush_change}
use Rattle.change_parts.specs.Flat.{Span, single_span, with_id_span, flat_segments}
use Rattle.change_parts.specs.Moves.{flat_record}
use Rattle.segment_rules.specs.Flat as rules

abbrev pub span_change : World Name → World Name → Payload
span_change old new = record {
  version = 2;
  kind = 1;
  before = length old.master;
  after = length new.master;
  cloned = 0;
  levels = new_levels (flat_segments_of 0 (parent_ids same_name old old.master)) (flat_segments_of 0 (parent_ids same_name new new.master));
  master = map flat_record (flat_segments (length old.master) (parent_ids same_name new (drop (length old.master) new.master)));
  known = known_from (length old.master) (names_of (drop (length old.master) new.master));
  heads = [];
  others = map flat_record (flat_segments (2 ^ 56) (parent_ids same_name new new.others));
  other_names = names_of new.others;
}

same-only : (n : ℕ) (xs : List ℕ) → is_only n xs ≡ pointwise nat_eq xs (n ∷ [])
same-only n [] = refl
same-only n (x ∷ []) = by_test (nat_eq x n)
  where
    by_test : (b : Bool) → b ≡ (b && true)
    by_test true = refl
    by_test false = refl
same-only n (x ∷ y ∷ ys) = by_test (nat_eq x n)
  where
    by_test : (b : Bool) → false ≡ (b && false)
    by_test true = refl
    by_test false = refl

same-with : (id : ℕ) (parents : List ℕ) (spans : List Span) → rules.with_id id parents (map flat_record spans) ≡ map flat_record (with_id_span id parents spans)
same-with id parents [] = refl
same-with id parents (next ∷ more) = ap (λ b. if b then record { low = id; high = next.high; level = 0; parents = parents } ∷ map flat_record more else rules.single id parents ∷ flat_record next ∷ map flat_record more) (same-only id next.parents)
    ∙ by_test (pointwise nat_eq next.parents (id ∷ []))
  where
    by_test : (b : Bool) → (if b then record { low = id; high = next.high; level = 0; parents = parents } ∷ map flat_record more else rules.single id parents ∷ flat_record next ∷ map flat_record more)
        ≡ map flat_record (if b then record { low = id; high = next.high; parents = parents } ∷ more else single_span id parents ∷ next ∷ more)
    by_test true = refl
    by_test false = refl

pub same-segments : (first : ℕ) (parents : List (List ℕ)) → flat_segments_of first parents ≡ map flat_record (flat_segments first parents)
same-segments first [] = refl
same-segments first (p ∷ parents) = ap (rules.with_id first p) (same-segments (first + 1) parents) ∙ same-with first p (flat_segments (first + 1) parents)

pub same-change : (old new : World Name) → flush_change old new ≡ span_change old new
same-change old new = ap₂ {C = Payload} (λ m o. record {
  version = 2;
  kind = 1;
  before = length old.master;
  after = length new.master;
  cloned = 0;
  levels = new_levels (flat_segments_of 0 (parent_ids same_name old old.master)) (flat_segments_of 0 (parent_ids same_name new new.master));
  master = m;
  known = known_from (length old.master) (names_of (drop (length old.master) new.master));
  heads = [];
  others = o;
  other_names = names_of new.others;
}) (same-segments (length old.master) (parent_ids same_name new (drop (length old.master) new.master))) (same-segments (2 ^ 56) (parent_ids same_name new new.others))

pub place-below : (x : Name) (xs : List Name) → IsIn x xs → place_of same_name x xs < length xs
place-below x [] i = absurd i
place-below x (y ∷ xs) i = go (same_name y x) refl (λ j. place-below x xs j)
  where
    go : (b : Bool) → same_name y x ≡ b → (IsIn x xs → place_of same_name x xs < length xs) → (if b then 0 else suc (place_of same_name x xs)) < length (y ∷ xs)
    go true e rec = zero-lt-suc _
    go false e rec = let r = rec (⊎_elim (λ f. absurd (true≢false (sym (same_name-self x) ∙ ap (λ z. same_name z x) f ∙ e))) (λ j. j) i) in omega (arith, r)
