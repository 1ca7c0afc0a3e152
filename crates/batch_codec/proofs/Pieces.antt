-- A section that is read is the one that was written, and what was written is read again.
use Rattle.std.proofs.Common.{◌≡◌, ℕ, suc, ◌+◌, ◌*◌, ◌^◌, ◌<◌, ◌≤◌, Bool, true, false, cond, ltb, leb, eqb, ◌&&◌, ◌||◌, ◌⊎◌, inl, inr, ⊎_elim, true≢false, append_assoc, List, [], ◌∷◌, ◌++◌, length, map, take, drop, Some, None, refl, sym, ap, subst, ◌∙◌, arith, lit≤}
use Rattle.std.specs.List.{flat_map, AllByRecursion}
use Rattle.std.specs.Int.{Width, w16, w32, w64, byte_len, from_be_bytes, to_be_bytes}
use Rattle.std.proofs.lemmas.Bool.{and_parts, or_cases, ltb-false, le-ltb, leb-true, le-leb, eqb-true, eq-eqb, ne_eqb}
use Rattle.std.proofs.lemmas.List.{append-nil, nil_from_length, take_at, drop_at, take-append-drop, length-append, length-take}
use Rattle.std.proofs.lemmas.Nat.{be_bytes_2, be_bytes_4, be_bytes_8, from_be_bytes-to_be_bytes_2, from_be_bytes-to_be_bytes_4, from_be_bytes-to_be_bytes_8}
use Rattle.id_groups.specs.Name.{Name, IsName}
use Rattle.segment_codec.specs.Record.{Segment, segment_bytes}
use Rattle.segment_codec.specs.Reading.{◌>>=◌}
use Rattle.segment_codec.proofs.Numbers.{IsBytes, bind_some, guard_some, some_is}
use Rattle.segment_codec.proofs.Lists.{bytes-take, bytes-drop}
use Rattle.batch_codec.specs.declared.counts.Counts.{Counts}
use Rattle.batch_codec.specs.Payload.{Known, Payload, known_bytes, names_bytes, cloned_bytes, levels_bytes, payload_bytes}
use Rattle.batch_codec.specs.Reading.{fixed_at, piece_at, names_read, knowns_in, ids_in, ids_ascend, may_stand, behind_segment, may_rise, behind_level, records_at, section_at, level_section_at, levels_at, names_at, known_at, heads_at, cloned_at, counts_at, Others, others_at, Masters, masters_at, joined, parts_at}
use Rattle.batch_codec.proofs.Entries.{names-length, names-spelled, names-are, names-size, names-again, knowns-length, knowns-spelled, knowns-are, FitsKnown, knowns-size, knowns-again}
use Rattle.batch_codec.proofs.Records.{AllStand, AllRise, records_take, records_again}

-- a guard that let through
let-through : {A : Type 0} (b : Bool) (x y : A) → cond b None (Some x) ≡ Some y → (b ≡ false) × (x ≡ y)
let-through true x y e = absurd cc
let-through false x y e = (refl, cc)

-- ---- numbers

pub record IsWide (w : Width) (limit : ℕ) : Type 0 where
  pub len : (n : ℕ) → length (to_be_bytes w n) ≡ byte_len w
  pub back : (bytes : List ℕ) → length bytes ≡ byte_len w → IsBytes bytes → to_be_bytes w (from_be_bytes w bytes) ≡ bytes
  pub again : (n : ℕ) → n < limit → from_be_bytes w (to_be_bytes w n) ≡ n
  pub below : (bytes : List ℕ) → IsBytes bytes → from_be_bytes w bytes < limit

pub wide16 : IsWide w16 (2 ^ 16)
wide16 = record {
  len = λ n. refl;
  back = λ bytes len fits. be_bytes_2 bytes _ len fits refl;
  again = λ n lt. from_be_bytes-to_be_bytes_2 n lt;
  below = λ bytes fits. omega (arith, fits 0, fits 1);
}

pub wide32 : IsWide w32 (2 ^ 32)
wide32 = record {
  len = λ n. refl;
  back = λ bytes len fits. be_bytes_4 bytes _ len fits refl;
  again = λ n lt. from_be_bytes-to_be_bytes_4 n lt;
  below = λ bytes fits. omega (arith, fits 0, fits 1, fits 2, fits 3);
}

pub wide64 : IsWide w64 (2 ^ 64)
wide64 = record {
  len = λ n. refl;
  back = λ bytes len fits. be_bytes_8 bytes _ len fits refl;
  again = λ n lt. from_be_bytes-to_be_bytes_8 n lt;
  below = λ bytes fits. omega (arith, fits 0, fits 1, fits 2, fits 3, fits 4, fits 5, fits 6, fits 7);
}

pub record FixedTaken (w : Width) (limit : ℕ) (bytes : List ℕ) (x : ℕ × List ℕ) : Type 0 where
  pub parts : bytes ≡ to_be_bytes w x.0 ++ x.1
  pub below : x.0 < limit
  pub rest : IsBytes x.1

pub fixed_takes : (w : Width) (limit : ℕ) (wide : IsWide w limit) (bytes : List ℕ) (x : ℕ × List ℕ) → IsBytes bytes → fixed_at w bytes ≡ Some x → FixedTaken w limit bytes x
fixed_takes w limit wide bytes x fits e =
    let made : ℕ × List ℕ = (from_be_bytes w (take (byte_len w) bytes), drop (byte_len w) bytes) in
    let g = let-through (ltb (length bytes) (byte_len w)) made x e in
    let long : byte_len w ≤ length bytes = ltb-false (length bytes) (byte_len w) g.0 in
    let front = wide.back (take (byte_len w) bytes) (omega (arith, length-take {A = ℕ} (byte_len w) bytes)) (bytes-take (byte_len w) bytes fits) in
    let parts : bytes ≡ to_be_bytes w made.0 ++ made.1 = sym (take-append-drop (byte_len w) bytes) ∙ ap (λ (z : List ℕ). z ++ drop (byte_len w) bytes) (sym front) in
    subst (FixedTaken w limit bytes) g.1 (record {
      parts = parts;
      below = wide.below (take (byte_len w) bytes) (bytes-take (byte_len w) bytes fits);
      rest = bytes-drop (to_be_bytes w made.0) made.1 bytes parts fits;
    })

pub fixed_again : (w : Width) (limit : ℕ) (wide : IsWide w limit) (n : ℕ) (rest : List ℕ) → n < limit → fixed_at w (to_be_bytes w n ++ rest) ≡ Some (n, rest)
fixed_again w limit wide n rest lt =
    let len = wide.len n in
    let long : ltb (length (to_be_bytes w n ++ rest)) (byte_len w) ≡ false = le-ltb _ _ (omega (arith, len, length-append (to_be_bytes w n) rest)) in
    rw (long, take_at (to_be_bytes w n) rest (byte_len w) len, drop_at (to_be_bytes w n) rest (byte_len w) len, wide.again n lt) refl

-- ---- pieces

pub record PieceTaken (n : ℕ) (bytes : List ℕ) (x : List ℕ × List ℕ) : Type 0 where
  pub parts : bytes ≡ x.0 ++ x.1
  pub len : length x.0 ≡ n
  pub front : IsBytes x.0
  pub rest : IsBytes x.1

pub piece_takes : (n : ℕ) (bytes : List ℕ) (x : List ℕ × List ℕ) → IsBytes bytes → piece_at n bytes ≡ Some x → PieceTaken n bytes x
piece_takes n bytes x fits e =
    let made : List ℕ × List ℕ = (take n bytes, drop n bytes) in
    let g = let-through (ltb (length bytes) n) made x e in
    let long : n ≤ length bytes = ltb-false (length bytes) n g.0 in
    let parts = sym (take-append-drop n bytes) in
    subst (PieceTaken n bytes) g.1 (record {
      parts = parts;
      len = omega (arith, length-take {A = ℕ} n bytes);
      front = bytes-take n bytes fits;
      rest = bytes-drop (take n bytes) (drop n bytes) bytes parts fits;
    })

pub piece_again : (n : ℕ) (front rest : List ℕ) → length front ≡ n → piece_at n (front ++ rest) ≡ Some (front, rest)
piece_again n front rest len =
    let long : ltb (length (front ++ rest)) n ≡ false = le-ltb _ _ (omega (arith, len, length-append front rest)) in
    rw (long, take_at front rest n len, drop_at front rest n len) refl

-- ---- names

pub record NamesTaken (count : ℕ) (bytes : List ℕ) (x : List Name × List ℕ) : Type 0 where
  pub parts : bytes ≡ names_bytes x.0 ++ x.1
  pub many : length x.0 ≡ count
  pub are : AllByRecursion IsName x.0
  pub rest : IsBytes x.1

pub names_takes : (count : ℕ) (bytes : List ℕ) (x : List Name × List ℕ) → IsBytes bytes → names_at count bytes ≡ Some x → NamesTaken count bytes x
unfolding names_at
names_takes count bytes x fits e =
    let a = bind_some (piece_at (20 * count) bytes) (λ piece. Some (names_read count piece.0, piece.1)) x e in
    let piece = piece_takes (20 * count) bytes a.0 fits a.1 in
    let made : List Name × List ℕ = (names_read count a.0.0, a.0.1) in
    subst (NamesTaken count bytes) (some_is made x a.2) (record {
      parts = piece.parts ∙ ap (λ (z : List ℕ). z ++ a.0.1) (sym (names-spelled count a.0.0 piece.len));
      many = names-length count a.0.0;
      are = names-are count a.0.0 piece.len piece.front;
      rest = piece.rest;
    })

pub names_again : (names : List Name) (rest : List ℕ) → AllByRecursion IsName names → names_at (length names) (names_bytes names ++ rest) ≡ Some (names, rest)
unfolding names_at
names_again names rest h = rw (piece_again (20 * length names) (names_bytes names) rest (names-size names h), names-again names h) refl

-- ---- the section of heads

record HeadsTaken (bytes : List ℕ) (x : List Name × List ℕ) : Type 0 where
  pub parts : bytes ≡ to_be_bytes w16 (length x.0) ++ (names_bytes x.0 ++ x.1)
  pub few : length x.0 < 2 ^ 16
  pub are : AllByRecursion IsName x.0
  pub rest : IsBytes x.1

heads_take : (bytes : List ℕ) (x : List Name × List ℕ) → IsBytes bytes → heads_at bytes ≡ Some x → HeadsTaken bytes x
unfolding heads_at
heads_take bytes x fits e =
    let a = bind_some (fixed_at w16 bytes) (λ count. names_at count.0 count.1) x e in
    let count = fixed_takes w16 (2 ^ 16) wide16 bytes a.0 fits a.1 in
    let names = names_takes a.0.0 a.0.1 x count.rest a.2 in
    let many = names.many in
    record {
      parts = count.parts ∙ ap (λ (n : ℕ). to_be_bytes w16 n ++ a.0.1) (sym many) ∙ ap (λ (z : List ℕ). to_be_bytes w16 (length x.0) ++ z) names.parts;
      few = let small = count.below in omega (arith, small, many);
      are = names.are;
      rest = names.rest;
    }

heads_again : (heads : List Name) (rest : List ℕ) → length heads < 2 ^ 16 → AllByRecursion IsName heads → heads_at (to_be_bytes w16 (length heads) ++ (names_bytes heads ++ rest)) ≡ Some (heads, rest)
unfolding heads_at
heads_again heads rest lt h = ap (λ r. r >>= λ count. names_at count.0 count.1) (fixed_again w16 (2 ^ 16) wide16 (length heads) (names_bytes heads ++ rest) lt) ∙ names_again heads rest h

-- ---- the section of known ids

record KnownTaken (before after : ℕ) (bytes : List ℕ) (x : List Known × List ℕ) : Type 0 where
  pub parts : bytes ≡ to_be_bytes w32 (length x.0) ++ (flat_map known_bytes x.0 ++ x.1)
  pub ascend : ids_ascend before after (map (λ k. k.id) x.0) ≡ true
  pub are : AllByRecursion IsName (map (λ k. k.name) x.0)
  pub rest : IsBytes x.1

known_takes : (before after : ℕ) (bytes : List ℕ) (x : List Known × List ℕ) → IsBytes bytes → known_at before after bytes ≡ Some x → KnownTaken before after bytes x
unfolding known_at
known_takes before after bytes x fits e =
    let made = λ (n : ℕ) (piece : List ℕ × List ℕ). (let y : List Known × List ℕ = (knowns_in n piece.0, piece.1) in y) in
    let a = bind_some (fixed_at w32 bytes) (λ count. piece_at (28 * count.0) count.1 >>= λ piece. cond (ids_ascend before after (ids_in count.0 piece.0)) (Some (made count.0 piece)) None) x e in
    let b = bind_some (piece_at (28 * a.0.0) a.0.1) (λ piece. cond (ids_ascend before after (ids_in a.0.0 piece.0)) (Some (made a.0.0 piece)) None) x a.2 in
    let g = guard_some (ids_ascend before after (ids_in a.0.0 b.0.0)) (made a.0.0 b.0) x b.2 in
    let count = fixed_takes w32 (2 ^ 32) wide32 bytes a.0 fits a.1 in
    let piece = piece_takes (28 * a.0.0) a.0.1 b.0 count.rest b.1 in
    let many = knowns-length a.0.0 b.0.0 in
    subst (KnownTaken before after bytes) g.1 (record {
      parts = count.parts ∙ ap (λ (n : ℕ). to_be_bytes w32 n ++ a.0.1) (sym many)
          ∙ ap (λ (z : List ℕ). to_be_bytes w32 (length (knowns_in a.0.0 b.0.0)) ++ z) (piece.parts ∙ ap (λ (z : List ℕ). z ++ b.0.1) (sym (knowns-spelled a.0.0 b.0.0 piece.len piece.front)));
      ascend = g.0;
      are = knowns-are a.0.0 b.0.0 piece.len piece.front;
      rest = piece.rest;
    })

known_again : (before after : ℕ) (ks : List Known) (rest : List ℕ) → length ks < 2 ^ 32 → AllByRecursion FitsKnown ks → ids_ascend before after (map (λ k. k.id) ks) ≡ true
    → known_at before after (to_be_bytes w32 (length ks) ++ (flat_map known_bytes ks ++ rest)) ≡ Some (ks, rest)
unfolding known_at
known_again before after ks rest lt h up =
    ap (λ r. r >>= λ count. piece_at (28 * count.0) count.1 >>= λ piece. cond (ids_ascend before after (ids_in count.0 piece.0)) (Some (knowns_in count.0 piece.0, piece.1)) None)
    (fixed_again w32 (2 ^ 32) wide32 (length ks) (flat_map known_bytes ks ++ rest) lt)
    ∙ rw (piece_again (28 * length ks) (flat_map known_bytes ks) rest (knowns-size ks h), knowns-again ks h, up) refl

-- ---- sections of records

pub record SectionTaken (end first : ℕ) (bytes : List ℕ) (x : List Segment × List ℕ) : Type 0 where
  pub parts : bytes ≡ to_be_bytes w32 (length x.0) ++ (flat_map segment_bytes x.0 ++ x.1)
  pub stand : AllStand end first first x.0
  pub rest : IsBytes x.1

pub section_takes : (end first : ℕ) (bytes : List ℕ) (x : List Segment × List ℕ) → IsBytes bytes → section_at end first bytes ≡ Some x → SectionTaken end first bytes x
unfolding section_at
section_takes end first bytes x fits e =
    let a = bind_some (fixed_at w32 bytes) (λ count. records_at (may_stand end first) behind_segment first count.0 count.1) x e in
    let count = fixed_takes w32 (2 ^ 32) wide32 bytes a.0 fits a.1 in
    let records = records_take ℕ (may_stand end first) behind_segment first a.0.0 a.0.1 x count.rest a.2 in
    record {
      parts = count.parts ∙ ap (λ (n : ℕ). to_be_bytes w32 n ++ a.0.1) (sym records.many) ∙ ap (λ (z : List ℕ). to_be_bytes w32 (length x.0) ++ z) records.parts;
      stand = records.come;
      rest = bytes-drop (flat_map segment_bytes x.0) x.1 a.0.1 records.parts count.rest;
    }

pub section_again : (end first : ℕ) (ss : List Segment) (rest : List ℕ) → length ss < 2 ^ 32 → AllStand end first first ss
    → section_at end first (to_be_bytes w32 (length ss) ++ (flat_map segment_bytes ss ++ rest)) ≡ Some (ss, rest)
unfolding section_at
section_again end first ss rest lt h =
    ap (λ r. r >>= λ count. records_at (may_stand end first) behind_segment first count.0 count.1) (fixed_again w32 (2 ^ 32) wide32 (length ss) (flat_map segment_bytes ss ++ rest) lt)
    ∙ records_again ℕ (may_stand end first) behind_segment first ss rest h

-- ---- the levels

record RisenTaken (end : ℕ) (bytes : List ℕ) (x : List Segment × List ℕ) : Type 0 where
  pub parts : bytes ≡ to_be_bytes w32 (length x.0) ++ (flat_map segment_bytes x.0 ++ x.1)
  pub rise : AllRise end (1, 0) x.0
  pub rest : IsBytes x.1

level_section_takes : (end : ℕ) (bytes : List ℕ) (x : List Segment × List ℕ) → IsBytes bytes → level_section_at end bytes ≡ Some x → RisenTaken end bytes x
unfolding level_section_at
level_section_takes end bytes x fits e =
    let a = bind_some (fixed_at w32 bytes) (λ count. records_at (may_rise end) behind_level (1, 0) count.0 count.1) x e in
    let count = fixed_takes w32 (2 ^ 32) wide32 bytes a.0 fits a.1 in
    let records = records_take (ℕ × ℕ) (may_rise end) behind_level (1, 0) a.0.0 a.0.1 x count.rest a.2 in
    record {
      parts = count.parts ∙ ap (λ (n : ℕ). to_be_bytes w32 n ++ a.0.1) (sym records.many) ∙ ap (λ (z : List ℕ). to_be_bytes w32 (length x.0) ++ z) records.parts;
      rise = records.come;
      rest = bytes-drop (flat_map segment_bytes x.0) x.1 a.0.1 records.parts count.rest;
    }

level_section_again : (end : ℕ) (ss : List Segment) (rest : List ℕ) → length ss < 2 ^ 32 → AllRise end (1, 0) ss
    → level_section_at end (to_be_bytes w32 (length ss) ++ (flat_map segment_bytes ss ++ rest)) ≡ Some (ss, rest)
unfolding level_section_at
level_section_again end ss rest lt h =
    ap (λ r. r >>= λ count. records_at (may_rise end) behind_level (1, 0) count.0 count.1) (fixed_again w32 (2 ^ 32) wide32 (length ss) (flat_map segment_bytes ss ++ rest) lt)
    ∙ records_again (ℕ × ℕ) (may_rise end) behind_level (1, 0) ss rest h

record LevelsTaken (version end : ℕ) (bytes : List ℕ) (x : List Segment × List ℕ) : Type 0 where
  pub parts : bytes ≡ levels_bytes version x.0 ++ x.1
  pub rise : AllRise end (1, 0) x.0
  pub none : version ≡ 1 → x.0 ≡ []
  pub rest : IsBytes x.1

levels_take : (version end : ℕ) (bytes : List ℕ) (x : List Segment × List ℕ) → IsBytes bytes → levels_at version end bytes ≡ Some x → LevelsTaken version end bytes x
unfolding levels_at
levels_take version end bytes x fits e = go (eqb version 1) refl e
  where
    made : List Segment × List ℕ
    made = ([], bytes)

    go : (b : Bool) → eqb version 1 ≡ b → cond b (Some made) (level_section_at end bytes) ≡ Some x → LevelsTaken version end bytes x
    go true first e =
        subst (LevelsTaken version end bytes) (some_is made x e) (record { parts = rw first refl; rise = tt; none = λ _. refl; rest = fits })
    go false other e =
        let t = level_section_takes end bytes x fits e in
        record {
          parts = rw other (t.parts ∙ sym (append_assoc (to_be_bytes w32 (length x.0)) (flat_map segment_bytes x.0) x.1));
          rise = t.rise;
          none = λ first. absurd (true≢false (sym (eq-eqb version 1 first) ∙ other));
          rest = t.rest;
        }

levels_again : (version end : ℕ) (ss : List Segment) (rest : List ℕ) → length ss < 2 ^ 32 → AllRise end (1, 0) ss → (version ≡ 1 → ss ≡ [])
    → levels_at version end (levels_bytes version ss ++ rest) ≡ Some (ss, rest)
unfolding levels_at
levels_again version end ss rest lt h none = go (eqb version 1) refl
  where
    written : Bool → List ℕ
    written b = cond b [] (to_be_bytes w32 (length ss) ++ flat_map segment_bytes ss)

    empty : List ℕ → List Segment × List ℕ
    empty bytes = ([], bytes)

    first : ss ≡ [] → Some (empty rest) ≡ Some (ss, rest)
    first e = ap (λ (z : List Segment). let y : List Segment × List ℕ = (z, rest) in Some y) (sym e)

    go : (b : Bool) → eqb version 1 ≡ b → cond b (Some (empty (written b ++ rest))) (level_section_at end (written b ++ rest)) ≡ Some (ss, rest)
    go true e = first (none (eqb-true version 1 e))
    go false e =
        ap (level_section_at end) (append_assoc (to_be_bytes w32 (length ss)) (flat_map segment_bytes ss) rest) ∙ level_section_again end ss rest lt h

-- ---- the counts

-- what version 1 means by leaving the cloned count out
abbrev pub MeansCloned : ℕ → ℕ → ℕ → ℕ → Type 0
MeansCloned version kind after cloned = version ≡ 1 → cloned ≡ cond (eqb kind 2) after 0

record ClonedTaken (version kind after : ℕ) (bytes : List ℕ) (x : ℕ × List ℕ) : Type 0 where
  pub parts : bytes ≡ cloned_bytes version x.0 ++ x.1
  pub means : MeansCloned version kind after x.0
  pub rest : IsBytes x.1

cloned_takes : (version kind after : ℕ) (bytes : List ℕ) (x : ℕ × List ℕ) → IsBytes bytes → cloned_at version kind after bytes ≡ Some x → ClonedTaken version kind after bytes x
unfolding cloned_at
cloned_takes version kind after bytes x fits e = go (eqb version 1) refl e
  where
    made : ℕ × List ℕ
    made = (cond (eqb kind 2) after 0, bytes)

    go : (b : Bool) → eqb version 1 ≡ b → cond b (Some made) (fixed_at w64 bytes) ≡ Some x → ClonedTaken version kind after bytes x
    go true first e = subst (ClonedTaken version kind after bytes) (some_is made x e) (record { parts = rw first refl; means = λ _. refl; rest = fits })
    go false other e =
        let t = fixed_takes w64 (2 ^ 64) wide64 bytes x fits e in
        record { parts = rw other t.parts; means = λ first. absurd (true≢false (sym (eq-eqb version 1 first) ∙ other)); rest = t.rest }

cloned_again : (version kind after cloned : ℕ) (rest : List ℕ) → cloned < 2 ^ 64 → MeansCloned version kind after cloned
    → cloned_at version kind after (cloned_bytes version cloned ++ rest) ≡ Some (cloned, rest)
unfolding cloned_at
cloned_again version kind after cloned rest lt means = go (eqb version 1) refl
  where
    written : Bool → List ℕ
    written b = cond b [] (to_be_bytes w64 cloned)

    meant : List ℕ → ℕ × List ℕ
    meant bytes = (cond (eqb kind 2) after 0, bytes)

    go : (b : Bool) → eqb version 1 ≡ b → cond b (Some (meant (written b ++ rest))) (fixed_at w64 (written b ++ rest)) ≡ Some (cloned, rest)
    go true e = ap (λ (n : ℕ). let y : ℕ × List ℕ = (n, rest) in Some y) (sym (means (eqb-true version 1 e)))
    go false e = fixed_again w64 (2 ^ 64) wide64 cloned rest lt

record CountsTaken (bytes : List ℕ) (x : Counts × List ℕ) : Type 0 where
  pub parts : bytes ≡ x.0.version ∷ x.0.kind ∷ to_be_bytes w64 x.0.before ++ (to_be_bytes w64 x.0.after ++ (cloned_bytes x.0.version x.0.cloned ++ x.1))
  pub version : (x.0.version ≡ 1) ⊎ (x.0.version ≡ 2)
  pub grows : x.0.before ≤ x.0.after
  pub most : x.0.after ≤ 16777216
  pub means : MeansCloned x.0.version x.0.kind x.0.after x.0.cloned
  pub rest : IsBytes x.1

counts_take : (bytes : List ℕ) (x : Counts × List ℕ) → IsBytes bytes → counts_at bytes ≡ Some x → CountsTaken bytes x
unfolding counts_at
counts_take [] x fits e = absurd cc
counts_take (version ∷ []) x fits e = absurd cc
counts_take (version ∷ kind ∷ bytes) x fits e =
    let made = λ (before after cloned : ℕ × List ℕ). (let y : Counts × List ℕ = (record { version = version; kind = kind; before = before.0; after = after.0; cloned = cloned.0 }, cloned.1) in y) in
    let test = λ (before after : ℕ × List ℕ). ((eqb version 1 || eqb version 2) && leb before.0 after.0 && leb after.0 16777216) in
    let a = bind_some (fixed_at w64 bytes) (λ before. fixed_at w64 before.1 >>= λ after. cloned_at version kind after.0 after.1 >>= λ cloned. cond (test before after) (Some (made before after cloned)) None) x e in
    let b = bind_some (fixed_at w64 a.0.1) (λ after. cloned_at version kind after.0 after.1 >>= λ cloned. cond (test a.0 after) (Some (made a.0 after cloned)) None) x a.2 in
    let c = bind_some (cloned_at version kind b.0.0 b.0.1) (λ cloned. cond (test a.0 b.0) (Some (made a.0 b.0 cloned)) None) x b.2 in
    let g = guard_some (test a.0 b.0) (made a.0 b.0 c.0) x c.2 in
    let p = and_parts ((eqb version 1 || eqb version 2) && leb a.0.0 b.0.0) (leb b.0.0 16777216) g.0 in
    let q = and_parts (eqb version 1 || eqb version 2) (leb a.0.0 b.0.0) p.0 in
    let fits0 : IsBytes bytes = λ i. fits (suc (suc i)) in
    let before = fixed_takes w64 (2 ^ 64) wide64 bytes a.0 fits0 a.1 in
    let after = fixed_takes w64 (2 ^ 64) wide64 a.0.1 b.0 before.rest b.1 in
    let cloned = cloned_takes version kind b.0.0 b.0.1 c.0 after.rest c.1 in
    subst (CountsTaken (version ∷ kind ∷ bytes)) g.1 (record {
      parts = ap (λ (z : List ℕ). version ∷ kind ∷ z) (before.parts ∙ ap (λ (z : List ℕ). to_be_bytes w64 a.0.0 ++ z) (after.parts ∙ ap (λ (z : List ℕ). to_be_bytes w64 b.0.0 ++ z) cloned.parts));
      version = ⊎_elim (λ t. inl (eqb-true version 1 t)) (λ t. inr (eqb-true version 2 t)) (or_cases (eqb version 1) (eqb version 2) q.0);
      grows = leb-true a.0.0 b.0.0 q.1;
      most = leb-true b.0.0 16777216 p.1;
      means = cloned.means;
      rest = cloned.rest;
    })

known-version : (version : ℕ) → (version ≡ 1) ⊎ (version ≡ 2) → (eqb version 1 || eqb version 2) ≡ true
known-version version (inl e) = let t = eq-eqb version 1 e in rw t refl
known-version version (inr e) =
    let s : eqb version 1 ≡ false = ne_eqb version 1 (λ f. absurd (omega (arith, e, f))) in
    let t = eq-eqb version 2 e in
    rw (s, t) refl

counts_again : (version kind before after cloned : ℕ) (rest : List ℕ) → (version ≡ 1) ⊎ (version ≡ 2) → before ≤ after → after ≤ 16777216 → cloned ≤ after → MeansCloned version kind after cloned
    → counts_at (version ∷ kind ∷ to_be_bytes w64 before ++ (to_be_bytes w64 after ++ (cloned_bytes version cloned ++ rest))) ≡ Some (record { version = version; kind = kind; before = before; after = after; cloned = cloned }, rest)
unfolding counts_at
counts_again version kind before after cloned rest is le most part means =
    let k : 16777216 + 1 ≤ 2 ^ 64 = lit≤ tt in
    let test = λ (b a : ℕ × List ℕ). ((eqb version 1 || eqb version 2) && leb b.0 a.0 && leb a.0 16777216) in
    let made = λ (b a c : ℕ × List ℕ). (let y : Counts × List ℕ = (record { version = version; kind = kind; before = b.0; after = a.0; cloned = c.0 }, c.1) in y) in
    ap (λ r. r >>= λ (b : ℕ × List ℕ). fixed_at w64 b.1 >>= λ a. cloned_at version kind a.0 a.1 >>= λ c. cond (test b a) (Some (made b a c)) None)
    (fixed_again w64 (2 ^ 64) wide64 before (to_be_bytes w64 after ++ (cloned_bytes version cloned ++ rest)) (omega (arith, k, le, most)))
    ∙ ap (λ r. r >>= λ (a : ℕ × List ℕ). cloned_at version kind a.0 a.1 >>= λ c. cond (test (before, rest) a) (Some (made (before, rest) a c)) None) (fixed_again w64 (2 ^ 64) wide64 after (cloned_bytes version cloned ++ rest) (omega (arith, k, most)))
    ∙ ap (λ r. r >>= λ (c : ℕ × List ℕ). cond (test (before, rest) (after, rest)) (Some (made (before, rest) (after, rest) c)) None) (cloned_again version kind after cloned rest (omega (arith, k, part, most)) means)
    ∙ rw (known-version version is, le-leb before after le, le-leb after 16777216 most) refl

-- ---- the other ids

record OthersTaken (after : ℕ) (bytes : List ℕ) (x : Others × List ℕ) : Type 0 where
  pub parts : bytes ≡ to_be_bytes w32 (length x.0.other_names) ++ (to_be_bytes w32 (length x.0.others) ++ (flat_map segment_bytes x.0.others ++ (names_bytes x.0.other_names ++ x.1)))
  pub stand : AllStand after (2 ^ 56) (2 ^ 56) x.0.others
  pub are : AllByRecursion IsName x.0.other_names

others_take : (after : ℕ) (bytes : List ℕ) (x : Others × List ℕ) → IsBytes bytes → others_at after bytes ≡ Some x → OthersTaken after bytes x
unfolding others_at
others_take after bytes x fits e =
    let made = λ (others : List Segment) (names : List Name × List ℕ). (let y : Others × List ℕ = (record { others = others; other_names = names.0 }, names.1) in y) in
    let a = bind_some (fixed_at w32 bytes) (λ count. section_at after (2 ^ 56) count.1 >>= λ others. names_at count.0 others.1 >>= λ names. Some (made others.0 names)) x e in
    let b = bind_some (section_at after (2 ^ 56) a.0.1) (λ others. names_at a.0.0 others.1 >>= λ names. Some (made others.0 names)) x a.2 in
    let c = bind_some (names_at a.0.0 b.0.1) (λ names. Some (made b.0.0 names)) x b.2 in
    let count = fixed_takes w32 (2 ^ 32) wide32 bytes a.0 fits a.1 in
    let records = section_takes after (2 ^ 56) a.0.1 b.0 count.rest b.1 in
    let names = names_takes a.0.0 b.0.1 c.0 records.rest c.1 in
    subst (OthersTaken after bytes) (some_is (made b.0.0 c.0) x c.2) (record {
      parts = count.parts ∙ ap (λ (n : ℕ). to_be_bytes w32 n ++ a.0.1) (sym names.many)
          ∙ ap (λ (z : List ℕ). to_be_bytes w32 (length c.0.0) ++ z) (records.parts ∙ ap (λ (z : List ℕ). to_be_bytes w32 (length b.0.0) ++ (flat_map segment_bytes b.0.0 ++ z)) names.parts);
      stand = records.stand;
      are = names.are;
    })

others_again : (after : ℕ) (others : List Segment) (names : List Name) (rest : List ℕ) → length names < 2 ^ 32 → length others < 2 ^ 32 → AllStand after (2 ^ 56) (2 ^ 56) others → AllByRecursion IsName names
    → others_at after (to_be_bytes w32 (length names) ++ (to_be_bytes w32 (length others) ++ (flat_map segment_bytes others ++ (names_bytes names ++ rest)))) ≡ Some (record { others = others; other_names = names }, rest)
unfolding others_at
others_again after others names rest few short stand are =
    let made = λ (o : List Segment) (ns : List Name × List ℕ). (let y : Others × List ℕ = (record { others = o; other_names = ns.0 }, ns.1) in y) in
    ap (λ r. r >>= λ (count : ℕ × List ℕ). section_at after (2 ^ 56) count.1 >>= λ o. names_at count.0 o.1 >>= λ ns. Some (made o.0 ns))
    (fixed_again w32 (2 ^ 32) wide32 (length names) (to_be_bytes w32 (length others) ++ (flat_map segment_bytes others ++ (names_bytes names ++ rest))) few)
    ∙ ap (λ r. r >>= λ (o : List Segment × List ℕ). names_at (length names) o.1 >>= λ ns. Some (made o.0 ns)) (section_again after (2 ^ 56) others (names_bytes names ++ rest) short stand)
    ∙ ap (λ r. r >>= λ (ns : List Name × List ℕ). Some (made others ns)) (names_again names rest are)

-- ---- all sections

-- what the sections of a payload keep by themselves
pub record PartsFit (p : Payload) : Type 0 where
  pub version : (p.version ≡ 1) ⊎ (p.version ≡ 2)
  pub grows : p.before ≤ p.after
  pub most : p.after ≤ 16777216
  pub means : MeansCloned p.version p.kind p.after p.cloned
  pub master : AllStand (2 ^ 56) p.before p.before p.master
  pub rise : AllRise p.after (1, 0) p.levels
  pub no_levels : p.version ≡ 1 → p.levels ≡ []
  pub ascend : ids_ascend p.before p.after (map (λ k. k.id) p.known) ≡ true
  pub names : AllByRecursion IsName (map (λ k. k.name) p.known)
  pub few_heads : length p.heads < 2 ^ 16
  pub heads : AllByRecursion IsName p.heads
  pub others : AllStand p.after (2 ^ 56) (2 ^ 56) p.others
  pub other_names : AllByRecursion IsName p.other_names

pub record PartsTaken (bytes : List ℕ) (p : Payload) : Type 0 where
  pub parts : bytes ≡ payload_bytes p
  pub fit : PartsFit p

record MastersTaken (bytes : List ℕ) (x : Masters × List ℕ) : Type 0 where
  pub behind-counts : List ℕ
  pub behind-master : List ℕ
  pub behind-levels : List ℕ
  pub counts : CountsTaken bytes (x.0.counts, behind-counts)
  pub master : SectionTaken (2 ^ 56) x.0.counts.before behind-counts (x.0.master, behind-master)
  pub levels : LevelsTaken x.0.counts.version x.0.counts.after behind-master (x.0.levels, behind-levels)
  pub known : KnownTaken x.0.counts.before x.0.counts.after behind-levels (x.0.known, x.1)

masters_take : (bytes : List ℕ) (x : Masters × List ℕ) → IsBytes bytes → masters_at bytes ≡ Some x → MastersTaken bytes x
unfolding masters_at
masters_take bytes x fits e =
    let made = λ (counts : Counts) (master levels : List Segment) (known : List Known × List ℕ). (let y : Masters × List ℕ = (record { counts = counts; master = master; levels = levels; known = known.0 }, known.1) in y) in
    let a = bind_some (counts_at bytes) (λ counts. section_at (2 ^ 56) counts.0.before counts.1 >>= λ master. levels_at counts.0.version counts.0.after master.1 >>= λ levels. known_at counts.0.before counts.0.after levels.1 >>= λ known. Some (made counts.0 master.0 levels.0 known)) x e in
    let b = bind_some (section_at (2 ^ 56) a.0.0.before a.0.1) (λ master. levels_at a.0.0.version a.0.0.after master.1 >>= λ levels. known_at a.0.0.before a.0.0.after levels.1 >>= λ known. Some (made a.0.0 master.0 levels.0 known)) x a.2 in
    let c = bind_some (levels_at a.0.0.version a.0.0.after b.0.1) (λ levels. known_at a.0.0.before a.0.0.after levels.1 >>= λ known. Some (made a.0.0 b.0.0 levels.0 known)) x b.2 in
    let d = bind_some (known_at a.0.0.before a.0.0.after c.0.1) (λ known. Some (made a.0.0 b.0.0 c.0.0 known)) x c.2 in
    let counts = counts_take bytes a.0 fits a.1 in
    let master = section_takes (2 ^ 56) a.0.0.before a.0.1 b.0 counts.rest b.1 in
    let levels = levels_take a.0.0.version a.0.0.after b.0.1 c.0 master.rest c.1 in
    let known = known_takes a.0.0.before a.0.0.after c.0.1 d.0 levels.rest d.1 in
    subst (MastersTaken bytes) (some_is (made a.0.0 b.0.0 c.0.0 d.0) x d.2) (record { behind-counts = a.0.1; behind-master = b.0.1; behind-levels = c.0.1; counts = counts; master = master; levels = levels; known = known })

parts-made : (bytes r3 r4 r5 : List ℕ) (masters : Masters) (heads : List Name) (others : Others)
    → MastersTaken bytes (masters, r3) → HeadsTaken r3 (heads, r4) → OthersTaken masters.counts.after r4 (others, r5) → r5 ≡ [] → PartsTaken bytes (joined masters heads others)
unfolding payload_bytes
parts-made bytes r3 r4 r5 masters heads others m h o none =
    let counts = masters.counts in
    record {
      parts = m.counts.parts ∙ ap (λ (z : List ℕ). counts.version ∷ counts.kind ∷ to_be_bytes w64 counts.before ++ (to_be_bytes w64 counts.after ++ (cloned_bytes counts.version counts.cloned ++ z)))
          (m.master.parts ∙ ap (λ (z : List ℕ). to_be_bytes w32 (length masters.master) ++ (flat_map segment_bytes masters.master ++ z))
          (m.levels.parts ∙ ap (λ (z : List ℕ). levels_bytes counts.version masters.levels ++ z)
          (m.known.parts ∙ ap (λ (z : List ℕ). to_be_bytes w32 (length masters.known) ++ (flat_map known_bytes masters.known ++ z))
          (h.parts ∙ ap (λ (z : List ℕ). to_be_bytes w16 (length heads) ++ (names_bytes heads ++ z))
          (o.parts ∙ ap (λ (z : List ℕ). to_be_bytes w32 (length others.other_names) ++ (to_be_bytes w32 (length others.others) ++ (flat_map segment_bytes others.others ++ z)))
          (ap (λ (z : List ℕ). names_bytes others.other_names ++ z) none ∙ append-nil (names_bytes others.other_names)))))));
      fit = record {
        version = m.counts.version;
        grows = m.counts.grows;
        most = m.counts.most;
        means = m.counts.means;
        master = m.master.stand;
        rise = m.levels.rise;
        no_levels = m.levels.none;
        ascend = m.known.ascend;
        names = m.known.are;
        few_heads = h.few;
        heads = h.are;
        others = o.stand;
        other_names = o.are;
      };
    }

pub parts_take : (bytes : List ℕ) (p : Payload) → IsBytes bytes → parts_at bytes ≡ Some p → PartsTaken bytes p
unfolding parts_at
parts_take bytes p fits e =
    let last = λ (m : Masters) (heads : List Name) (others : Others × List ℕ). cond (eqb (length others.1) 0) (Some (joined m heads others.0)) None in
    let a = bind_some (masters_at bytes) (λ m. heads_at m.1 >>= λ heads. others_at m.0.counts.after heads.1 >>= λ others. last m.0 heads.0 others) p e in
    let b = bind_some (heads_at a.0.1) (λ heads. others_at a.0.0.counts.after heads.1 >>= λ others. last a.0.0 heads.0 others) p a.2 in
    let c = bind_some (others_at a.0.0.counts.after b.0.1) (λ others. last a.0.0 b.0.0 others) p b.2 in
    let d = guard_some (eqb (length c.0.1) 0) (joined a.0.0 b.0.0 c.0.0) p c.2 in
    let m = masters_take bytes a.0 fits a.1 in
    let heads = heads_take a.0.1 b.0 m.known.rest b.1 in
    let others = others_take a.0.0.counts.after b.0.1 c.0 heads.rest c.1 in
    let none = nil_from_length c.0.1 (eqb-true (length c.0.1) 0 d.0) in
    subst (PartsTaken bytes) d.1 (parts-made bytes a.0.1 b.0.1 c.0.1 a.0.0 b.0.0 c.0.0 m heads others none)

masters-read : (bytes r1 r2 r3 r4 : List ℕ) (counts : Counts) (master levels : List Segment) (known : List Known)
    → counts_at bytes ≡ Some (counts, r1) → section_at (2 ^ 56) counts.before r1 ≡ Some (master, r2) → levels_at counts.version counts.after r2 ≡ Some (levels, r3) → known_at counts.before counts.after r3 ≡ Some (known, r4)
    → masters_at bytes ≡ Some (record { counts = counts; master = master; levels = levels; known = known }, r4)
unfolding masters_at
masters-read bytes r1 r2 r3 r4 counts master levels known c m l k = rw (c, m, l, k) refl

parts-read : (bytes r4 r5 : List ℕ) (masters : Masters) (heads : List Name) (others : Others)
    → masters_at bytes ≡ Some (masters, r4) → heads_at r4 ≡ Some (heads, r5) → others_at masters.counts.after r5 ≡ Some (others, []) → parts_at bytes ≡ Some (joined masters heads others)
unfolding parts_at
parts-read bytes r4 r5 masters heads others m h o = rw (m, h, o) refl

pub record Lengths (p : Payload) : Type 0 where
  pub master : length p.master < 2 ^ 32
  pub levels : length p.levels < 2 ^ 32
  pub known : length p.known < 2 ^ 32
  pub others : length p.others < 2 ^ 32
  pub names : length p.other_names < 2 ^ 32

pub parts_again : (p : Payload) → PartsFit p → p.cloned ≤ p.after → Lengths p → AllByRecursion FitsKnown p.known → parts_at (payload_bytes p) ≡ Some p
unfolding payload_bytes
parts_again p h part short known =
    let r5 : List ℕ = to_be_bytes w32 (length p.other_names) ++ (to_be_bytes w32 (length p.others) ++ (flat_map segment_bytes p.others ++ names_bytes p.other_names)) in
    let r4 : List ℕ = to_be_bytes w16 (length p.heads) ++ (names_bytes p.heads ++ r5) in
    let r3 : List ℕ = to_be_bytes w32 (length p.known) ++ (flat_map known_bytes p.known ++ r4) in
    let r2 : List ℕ = levels_bytes p.version p.levels ++ r3 in
    let r1 : List ℕ = to_be_bytes w32 (length p.master) ++ (flat_map segment_bytes p.master ++ r2) in
    let bytes : List ℕ = p.version ∷ p.kind ∷ to_be_bytes w64 p.before ++ (to_be_bytes w64 p.after ++ (cloned_bytes p.version p.cloned ++ r1)) in
    let counts : Counts = record { version = p.version; kind = p.kind; before = p.before; after = p.after; cloned = p.cloned } in
    let closed : others_at p.after r5 ≡ Some (record { others = p.others; other_names = p.other_names }, []) =
    ap (λ (z : List ℕ). others_at p.after (to_be_bytes w32 (length p.other_names) ++ (to_be_bytes w32 (length p.others) ++ (flat_map segment_bytes p.others ++ z)))) (sym (append-nil (names_bytes p.other_names)))
    ∙ others_again p.after p.others p.other_names [] short.names short.others h.others h.other_names in
    let masters =
    masters-read bytes r1 r2 r3 r4 counts p.master p.levels p.known (counts_again p.version p.kind p.before p.after p.cloned r1 h.version h.grows h.most part h.means) (section_again (2 ^ 56) p.before p.master r2 short.master h.master)
    (levels_again p.version p.after p.levels r3 short.levels h.rise h.no_levels) (known_again p.before p.after p.known r4 short.known known h.ascend) in
    parts-read bytes r4 r5 (record { counts = counts; master = p.master; levels = p.levels; known = p.known }) p.heads (record { others = p.others; other_names = p.other_names })
    masters (heads_again p.heads r5 h.few_heads h.heads) closed
