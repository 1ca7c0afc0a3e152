-- A record that is read is the one that was written, and what was written is read again.
use Rattle.std.proofs.Common.{◌≡◌, ℕ, zero, suc, ◌-◌, ◌^◌, ◌<◌, ◌≤◌, Bool, true, false, cond, ltb, leb, eqb, ◌||◌, List, [], ◌∷◌, ◌++◌, length, take, drop, Some, None, refl, sym, ap, subst, ◌∙◌, append_assoc, ⊎_elim, arith, lit≤}
use Rattle.std.specs.List.{flat_map}
use Rattle.std.specs.Int.{w64, from_be_bytes, to_be_bytes}
use Rattle.std.proofs.lemmas.Bool.{and_parts, or_cases, ltb-true, ltb-false, leb-true, le-leb, lt-ltb, le-ltb, eqb-true, eq-eqb, ne_eqb}
use Rattle.std.proofs.lemmas.List.{take-append-drop, length-append, length-take}
use Rattle.std.proofs.lemmas.Nat.{be_bytes_8, from_be_bytes-to_be_bytes_8}
use Rattle.id_groups.specs.Id.{is_master_id, id_end}
use Rattle.segment_codec.specs.declared.head.Head.{Head}
use Rattle.segment_codec.specs.Number.{number_bytes}
use Rattle.segment_codec.specs.Record.{Segment, IsSegment, segment_bytes, flags_of, HasLevelsParents}
use Rattle.segment_codec.specs.Reading.{◌>>=◌, number_at, numbers_at, fixed_at, most_parents, is_head, head_at, are_in_order, record_at}
use Rattle.segment_codec.proofs.Numbers.{IsBytes, bytes-rest, bind_some, guard_some, some_is, number_takes, number_again}
use Rattle.segment_codec.proofs.Lists.{bytes-take, bytes-drop, Taken, numbers_take, numbers_again}
use Rattle.segment_codec.proofs.Orders.{above-flat, order-distinct, order-means, order-decided}

-- ---- eight bytes

above_guard : {A : Type 0} (b : Bool) (x y : A) → cond b None (Some x) ≡ Some y → (b ≡ false) × (x ≡ y)
above_guard true x y e = absurd cc
above_guard false x y e = (refl, cc)

fixed_takes : (bytes : List ℕ) (x : ℕ × List ℕ) → IsBytes bytes → fixed_at bytes ≡ Some x → bytes ≡ to_be_bytes w64 x.0 ++ x.1
unfolding fixed_at
fixed_takes bytes x fits e =
    let g = above_guard (ltb (length bytes) 8) (from_be_bytes w64 (take 8 bytes), drop 8 bytes) x e in
    let long : 8 ≤ length bytes = ltb-false (length bytes) 8 g.0 in
    let len : length (take 8 bytes) ≡ 8 = omega (arith, length-take 8 bytes) in
    let back = be_bytes_8 (take 8 bytes) (from_be_bytes w64 (take 8 bytes)) len (bytes-take 8 bytes fits) refl in
    let whole : bytes ≡ to_be_bytes w64 (from_be_bytes w64 (take 8 bytes)) ++ drop 8 bytes = sym (take-append-drop 8 bytes) ∙ ap (λ (z : List ℕ). z ++ drop 8 bytes) (sym back) in
    subst (λ (y : ℕ × List ℕ). bytes ≡ to_be_bytes w64 y.0 ++ y.1) g.1 whole

fixed_again : (n : ℕ) (rest : List ℕ) → n < 2 ^ 64 → fixed_at (to_be_bytes w64 n ++ rest) ≡ Some (n, rest)
unfolding fixed_at
fixed_again n rest lt =
    let long : ltb (length (to_be_bytes w64 n ++ rest)) 8 ≡ false = le-ltb _ _ (omega (arith, length-append (to_be_bytes w64 n) rest)) in
    let value : from_be_bytes w64 (take 8 (to_be_bytes w64 n ++ rest)) ≡ n = from_be_bytes-to_be_bytes_8 n lt in
    rw long (ap (λ (z : ℕ). Some (z, rest)) value)

-- ---- what stands before the parents

-- the bytes of a record whose parents' bytes are the tail
abbrev pub spelled : ℕ → ℕ → ℕ → ℕ → ℕ → List ℕ → List ℕ
spelled flags level high span count tail = flags ∷ level ∷ to_be_bytes w64 high ++ (number_bytes span ++ (number_bytes count ++ tail))

spelled-more : (flags level high span count : ℕ) (tail rest : List ℕ) → spelled flags level high span count tail ++ rest ≡ spelled flags level high span count (tail ++ rest)
spelled-more flags level high span count tail rest =
    ap (λ (z : List ℕ). flags ∷ level ∷ to_be_bytes w64 high ++ z)
    (append_assoc (number_bytes span) (number_bytes count ++ tail) rest ∙ ap (λ (z : List ℕ). number_bytes span ++ z) (append_assoc (number_bytes count) tail rest))

pub record HeadFacts (flags level high span count : ℕ) : Type 0 where
  pub low_level : level ≤ 7
  pub valid : high < id_end
  pub order : span ≤ high
  pub group : (ltb high (2 ^ 56) || leb (2 ^ 56) (high - span)) ≡ true
  pub few : count ≤ most_parents level
  pub flag : flags ≡ cond (eqb count 0) 1 0

pub head-means : (flags level high span count : ℕ) → is_head flags level high span count ≡ true → HeadFacts flags level high span count
head-means flags level high span count h =
    let f = and_parts _ (eqb flags (cond (eqb count 0) 1 0)) h in
    let e = and_parts _ (leb count (most_parents level)) f.0 in
    let d = and_parts _ (ltb high (2 ^ 56) || leb (2 ^ 56) (high - span)) e.0 in
    let b = and_parts _ (leb span high) d.0 in
    let a = and_parts (leb level 7) (ltb high id_end) b.0 in
    record {
      low_level = leb-true level 7 a.0;
      valid = ltb-true high id_end a.1;
      order = leb-true span high b.1;
      group = d.1;
      few = leb-true count (most_parents level) e.1;
      flag = eqb-true flags (cond (eqb count 0) 1 0) f.1;
    }

pub head-decided : (flags level high span count : ℕ) → HeadFacts flags level high span count → is_head flags level high span count ≡ true
head-decided flags level high span count h =
    rw (le-leb level 7 h.low_level, lt-ltb high id_end h.valid, le-leb span high h.order, h.group, le-leb count (most_parents level) h.few, eq-eqb flags (cond (eqb count 0) 1 0) h.flag) refl

pub record HeadTaken (bytes : List ℕ) (x : Head × List ℕ) : Type 0 where
  pub flags : ℕ
  pub parts : bytes ≡ spelled flags x.0.level x.0.high (x.0.high - x.0.low) x.0.count x.1
  pub facts : HeadFacts flags x.0.level x.0.high (x.0.high - x.0.low) x.0.count
  pub order : x.0.low ≤ x.0.high

pub head_takes : (bytes : List ℕ) (x : Head × List ℕ) → IsBytes bytes → head_at bytes ≡ Some x → HeadTaken bytes x
unfolding head_at
head_takes [] x fits e = absurd cc
head_takes (flags ∷ []) x fits e = absurd cc
head_takes (flags ∷ level ∷ rest) x fits e =
    let made = λ (high span count : ℕ × List ℕ). (let y : Head × List ℕ = (record { low = high.0 - span.0; high = high.0; level = level; count = count.0 }, count.1) in y) in
    let a = bind_some (fixed_at rest) (λ high. number_at high.1 >>= λ span. number_at span.1 >>= λ count. cond (is_head flags level high.0 span.0 count.0) (Some (made high span count)) None) x e in
    let b = bind_some (number_at a.0.1) (λ span. number_at span.1 >>= λ count. cond (is_head flags level a.0.0 span.0 count.0) (Some (made a.0 span count)) None) x a.2 in
    let c = bind_some (number_at b.0.1) (λ count. cond (is_head flags level a.0.0 b.0.0 count.0) (Some (made a.0 b.0 count)) None) x b.2 in
    let g = guard_some (is_head flags level a.0.0 b.0.0 c.0.0) (made a.0 b.0 c.0) x c.2 in
    let fits0 = bytes-rest level rest (bytes-rest flags (level ∷ rest) fits) in
    let first = fixed_takes rest a.0 fits0 a.1 in
    let fits1 = bytes-drop (to_be_bytes w64 a.0.0) a.0.1 rest first fits0 in
    let second = number_takes a.0.1 b.0.0 b.0.1 fits1 b.1 in
    let fits2 = bytes-drop (number_bytes b.0.0) b.0.1 a.0.1 second.0 fits1 in
    let third = number_takes b.0.1 c.0.0 c.0.1 fits2 c.1 in
    let facts = head-means flags level a.0.0 b.0.0 c.0.0 g.0 in
    let below = facts.order in
    let span : a.0.0 - (a.0.0 - b.0.0) ≡ b.0.0 = omega (arith, below) in
    subst (HeadTaken (flags ∷ level ∷ rest)) g.1 (record {
      flags = flags;
      parts = ap (λ (z : List ℕ). flags ∷ level ∷ z) (first ∙ ap (λ (z : List ℕ). to_be_bytes w64 a.0.0 ++ z) (second.0 ∙ rw span (ap (λ (z : List ℕ). number_bytes b.0.0 ++ z) third.0)));
      facts = rw span facts;
      order = omega arith;
    })

head_again : (flags level high span count : ℕ) (tail : List ℕ) → high < 2 ^ 64 → span < 2 ^ 64 → count < 2 ^ 64 → is_head flags level high span count ≡ true
    → head_at (spelled flags level high span count tail) ≡ Some (record { low = high - span; high = high; level = level; count = count }, tail)
unfolding head_at
head_again flags level high span count tail h s c test =
    rw (fixed_again high (number_bytes span ++ (number_bytes count ++ tail)) h, number_again span (number_bytes count ++ tail) s, number_again count tail c, test) refl

-- ---- records

flags-of : (count : ℕ) (ns : List ℕ) → length ns ≡ count → cond (eqb count 0) 1 0 ≡ flags_of ns
flags-of count [] e = rw (← e) refl
flags-of count (n ∷ ns) e = let t : eqb count 0 ≡ false = ne_eqb count 0 (λ z. absurd (omega (arith, e, z))) in rw t refl

pub segment-spelled : (s : Segment) (rest : List ℕ) → segment_bytes s ++ rest ≡ spelled (flags_of s.parents) s.level s.high (s.high - s.low) (length s.parents) (flat_map number_bytes s.parents ++ rest)
unfolding segment_bytes
segment-spelled s rest = spelled-more (flags_of s.parents) s.level s.high (s.high - s.low) (length s.parents) (flat_map number_bytes s.parents) rest

pub same-group : (low high : ℕ) → low ≤ high → (ltb high (2 ^ 56) || leb (2 ^ 56) low) ≡ true → is_master_id low ≡ is_master_id high
same-group low high le h = ⊎_elim
    (λ e. let lt = ltb-true high (2 ^ 56) e in lt-ltb low (2 ^ 56) (omega (arith, le, lt)) ∙ sym e)
    (λ e. let ge = leb-true (2 ^ 56) low e in le-ltb low (2 ^ 56) ge ∙ sym (le-ltb high (2 ^ 56) (omega (arith, le, ge))))
    (or_cases (ltb high (2 ^ 56)) (leb (2 ^ 56) low) h)

pub group-decided : (low high : ℕ) (b : Bool) → ltb high (2 ^ 56) ≡ b → is_master_id low ≡ b → (b || leb (2 ^ 56) low) ≡ true
group-decided low high true e f = refl
group-decided low high false e f = le-leb (2 ^ 56) low (ltb-false low (2 ^ 56) f)

most-flat : (level count : ℕ) → level ≡ 0 → count ≤ most_parents level → count ≤ 8
most-flat level count e h = rw e at h

pub most-any : (level count : ℕ) → count ≤ most_parents level → count ≤ 16777216
most-any zero count h = omega (arith, h)
most-any (suc k) count h = subst (λ (n : ℕ). count ≤ n) (above-flat k 8 16777216) h

pub record RecordTaken (bytes : List ℕ) (x : Segment × List ℕ) : Type 0 where
  pub segment : IsSegment x.0
  pub parts : bytes ≡ segment_bytes x.0 ++ x.1

abbrev made_of : Head → List ℕ → List ℕ → Segment × List ℕ
made_of head parents rest = (record { low = head.low; high = head.high; level = head.level; parents = parents }, rest)

record_joined : (bytes : List ℕ) (head : Head) (after ns rest : List ℕ) → HeadTaken bytes (head, after) → Taken head.low head.count after (ns, rest)
    → are_in_order head.level ns ≡ true → RecordTaken bytes (made_of head ns rest)
record_joined bytes head after ns rest h parents test =
    let facts = h.facts in
    let order = h.order in
    let low : head.high - (head.high - head.low) ≡ head.low = omega (arith, order) in
    let few : length ns ≤ most_parents head.level = subst (λ (n : ℕ). n ≤ most_parents head.level) (sym parents.many) facts.few in
    let span = head.high - head.low in
    record {
      segment = record {
        ascending = order;
        one_group = same-group head.low head.high order (subst (λ (n : ℕ). (ltb head.high (2 ^ 56) || leb (2 ^ 56) n) ≡ true) low facts.group);
        valid = facts.valid;
        level = facts.low_level;
        below = parents.below;
        distinct = order-distinct head.level ns test;
        level_parents = order-means head.level ns test (λ flat. most-flat head.level (length ns) flat few) (most-any head.level (length ns) few);
      };
      parts = h.parts
          ∙ ap (λ (f : ℕ). spelled f head.level head.high span head.count after) (facts.flag ∙ flags-of head.count ns parents.many)
          ∙ ap (λ (c : ℕ). spelled (flags_of ns) head.level head.high span c after) (sym parents.many)
          ∙ ap (λ (z : List ℕ). spelled (flags_of ns) head.level head.high span (length ns) z) parents.parts
          ∙ sym (segment-spelled (made_of head ns rest).0 rest);
    }

head-rest : (bytes : List ℕ) (x : Head × List ℕ) → IsBytes bytes → HeadTaken bytes x → IsBytes x.1
head-rest bytes x fits h =
    bytes-drop (h.flags ∷ x.0.level ∷ to_be_bytes w64 x.0.high ++ (number_bytes (x.0.high - x.0.low) ++ number_bytes x.0.count)) x.1 bytes
    (h.parts ∙ ap (λ (z : List ℕ). h.flags ∷ x.0.level ∷ to_be_bytes w64 x.0.high ++ z) (sym (append_assoc (number_bytes (x.0.high - x.0.low)) (number_bytes x.0.count) x.1))) fits

pub record_takes : (bytes : List ℕ) (x : Segment × List ℕ) → IsBytes bytes → record_at bytes ≡ Some x → RecordTaken bytes x
unfolding record_at
record_takes bytes x fits e =
    let a = bind_some (head_at bytes) (λ head. numbers_at head.0.low head.0.count head.1 >>= λ parents. cond (are_in_order head.0.level parents.0) (Some (made_of head.0 parents.0 parents.1)) None) x e in
    let b = bind_some (numbers_at a.0.0.low a.0.0.count a.0.1) (λ parents. cond (are_in_order a.0.0.level parents.0) (Some (made_of a.0.0 parents.0 parents.1)) None) x a.2 in
    let g = guard_some (are_in_order a.0.0.level b.0.0) (made_of a.0.0 b.0.0 b.0.1) x b.2 in
    let head = head_takes bytes a.0 fits a.1 in
    let parents = numbers_take a.0.0.low a.0.0.count a.0.1 b.0 (head-rest bytes a.0 fits head) b.1 in
    subst (RecordTaken bytes) g.1 (record_joined bytes a.0.0 a.0.1 b.0.0 b.0.1 head parents g.0)

pub few-parents : (level : ℕ) (parents : List ℕ) → HasLevelsParents level parents → length parents ≤ most_parents level
few-parents zero parents h = h
few-parents (suc k) parents h = subst (λ (n : ℕ). length parents ≤ n) (sym (above-flat k 8 16777216)) h.0

-- what stands before the parents of a record is read
pub head-of-record : (s : Segment) (rest : List ℕ) → IsSegment s
    → head_at (segment_bytes s ++ rest) ≡ Some (record { low = s.low; high = s.high; level = s.level; count = length s.parents }, flat_map number_bytes s.parents ++ rest)
head-of-record s rest h =
    let k : id_end ≤ 2 ^ 64 = lit≤ tt in
    let up = h.ascending in let valid = h.valid in
    let low : s.high - (s.high - s.low) ≡ s.low = omega (arith, up) in
    let few = few-parents s.level s.parents h.level_parents in
    let many = most-any s.level (length s.parents) few in
    let facts : HeadFacts (flags_of s.parents) s.level s.high (s.high - s.low) (length s.parents) = record {
      low_level = h.level;
      valid = valid;
      order = omega arith;
      group = rw low (group-decided s.low s.high (ltb s.high (2 ^ 56)) refl h.one_group);
      few = few;
      flag = sym (flags-of (length s.parents) s.parents refl);
    } in
    let test = head-decided (flags_of s.parents) s.level s.high (s.high - s.low) (length s.parents) facts in
    let head = head_again (flags_of s.parents) s.level s.high (s.high - s.low) (length s.parents) (flat_map number_bytes s.parents ++ rest)
    (omega (arith, k, valid)) (omega (arith, k, valid)) (omega (arith, many)) test in
    ap head_at (segment-spelled s rest) ∙ rw (head, low) refl

pub record_again : (s : Segment) (rest : List ℕ) → IsSegment s → record_at (segment_bytes s ++ rest) ≡ Some (s, rest)
unfolding record_at
record_again s rest h =
    let k : id_end ≤ 2 ^ 64 = lit≤ tt in
    let up = h.ascending in let valid = h.valid in
    rw (head-of-record s rest h, numbers_again s.low s.parents rest (omega (arith, k, up, valid)) h.below, order-decided s.level s.parents h.distinct h.level_parents) refl

pub one-record : (s t : Segment) (x y : List ℕ) → IsSegment s → IsSegment t → segment_bytes s ++ x ≡ segment_bytes t ++ y → (s ≡ t) × (x ≡ y)
one-record s t x y hs ht e =
    let a : Segment × List ℕ = (s, x) in let b : Segment × List ℕ = (t, y) in
    let same = some_is a b (sym (record_again s x hs) ∙ ap record_at e ∙ record_again t y ht) in
    (ap (λ (z : Segment × List ℕ). z.0) same, ap (λ (z : Segment × List ℕ). z.1) same)
