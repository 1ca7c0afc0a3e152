-- Flat segments without their level, and the change that is made of them.
use Rattle.std.proofs.Common.{◌≡◌, ◌+◌, ◌^◌, ℕ, Bool, true, false, ◌&&◌, List, [], ◌∷◌, map, drop, length, nat_eq, refl, ap, ap₂, ◌∙◌, if◌then◌else◌}
use Rattle.std.specs.Cmp.Lexicographic.{pointwise}
use Rattle.id_groups.specs.Name.{Name, same_name}
use Rattle.commit_graph.specs.World.{World, names_of}
use Rattle.commit_graph.specs.Ids.{parent_ids}
use Rattle.segment_codec.specs.Record.{Segment}
use Rattle.segment_codec.specs.Turns.{is_only}
use Rattle.segment_rules.specs.Flat as rules
use Rattle.segment_rules.specs.Flat.{flat_segments_of}
use Rattle.segment_rules.specs.NewLevels.{new_levels}
use Rattle.batch_codec.specs.Payload.{Payload}
use Rattle.change_rules.specs.Change.{known_from, flush_change}

pub record Span : Type 0 where
  pub low : ℕ
  pub high : ℕ
  pub parents : List ℕ

abbrev pub single : ℕ → List ℕ → Span
single id parents = record { low = id; high = id; parents = parents }

abbrev pub with_id : ℕ → List ℕ → List Span → List Span
with_id id parents [] = single id parents ∷ []
with_id id parents (next ∷ more) =
    if pointwise nat_eq next.parents (id ∷ [])
    then record { low = id; high = next.high; parents = parents } ∷ more
    else single id parents ∷ next ∷ more

abbrev pub flat_segments : ℕ → List (List ℕ) → List Span
flat_segments first [] = []
flat_segments first (parents ∷ more) = with_id first parents (flat_segments (first + 1) more)

abbrev pub flat_record : Span → Segment
flat_record s = record { low = s.low; high = s.high; level = 0; parents = s.parents }

abbrev pub span_change : World Name → World Name → Payload
span_change old new = record {
  version = 2;
  kind = 1;
  before = length old.master;
  after = length new.master;
  cloned = 0;
  levels = new_levels (flat_segments_of 0 (parent_ids same_name old old.master)) (flat_segments_of 0 (parent_ids same_name new new.master));
  master = map flat_record (flat_segments (length old.master) (parent_ids same_name new (drop (length old.master) new.master)));
  known = known_from (length old.master) (names_of (drop (length old.master) new.master));
  heads = [];
  others = map flat_record (flat_segments (2 ^ 56) (parent_ids same_name new new.others));
  other_names = names_of new.others;
}

same-only : (n : ℕ) (xs : List ℕ) → is_only n xs ≡ pointwise nat_eq xs (n ∷ [])
same-only n [] = refl
same-only n (x ∷ []) = by_test (nat_eq x n)
  where
    by_test : (b : Bool) → b ≡ (b && true)
    by_test true = refl
    by_test false = refl
same-only n (x ∷ y ∷ ys) = by_test (nat_eq x n)
  where
    by_test : (b : Bool) → false ≡ (b && false)
    by_test true = refl
    by_test false = refl

same-with : (id : ℕ) (parents : List ℕ) (spans : List Span) → rules.with_id id parents (map flat_record spans) ≡ map flat_record (with_id id parents spans)
same-with id parents [] = refl
same-with id parents (next ∷ more) = ap (λ b. if b then record { low = id; high = next.high; level = 0; parents = parents } ∷ map flat_record more else rules.single id parents ∷ flat_record next ∷ map flat_record more) (same-only id next.parents)
    ∙ by_test (pointwise nat_eq next.parents (id ∷ []))
  where
    by_test : (b : Bool) → (if b then record { low = id; high = next.high; level = 0; parents = parents } ∷ map flat_record more else rules.single id parents ∷ flat_record next ∷ map flat_record more)
        ≡ map flat_record (if b then record { low = id; high = next.high; parents = parents } ∷ more else single id parents ∷ next ∷ more)
    by_test true = refl
    by_test false = refl

pub same-segments : (first : ℕ) (parents : List (List ℕ)) → flat_segments_of first parents ≡ map flat_record (flat_segments first parents)
same-segments first [] = refl
same-segments first (p ∷ parents) = ap (rules.with_id first p) (same-segments (first + 1) parents) ∙ same-with first p (flat_segments (first + 1) parents)

pub same-change : (old new : World Name) → flush_change old new ≡ span_change old new
same-change old new = ap₂ {C = Payload} (λ m o. record {
  version = 2;
  kind = 1;
  before = length old.master;
  after = length new.master;
  cloned = 0;
  levels = new_levels (flat_segments_of 0 (parent_ids same_name old old.master)) (flat_segments_of 0 (parent_ids same_name new new.master));
  master = m;
  known = known_from (length old.master) (names_of (drop (length old.master) new.master));
  heads = [];
  others = o;
  other_names = names_of new.others;
}) (same-segments (length old.master) (parent_ids same_name new (drop (length old.master) new.master))) (same-segments (2 ^ 56) (parent_ids same_name new new.others))
