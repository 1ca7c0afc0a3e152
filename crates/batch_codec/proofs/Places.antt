-- Where the sections stand in a payload's bytes.
use Rattle.std.proofs.Common.{◌≡◌, ℕ, ◌+◌, ◌*◌, Bool, true, false, cond, eqb, List, [], ◌∷◌, ◌++◌, length, refl, sym, ap, ◌∙◌, append_assoc, append-nil, length-append, arith}
use Rattle.std.specs.List.{flat_map}
use Rattle.std.specs.Int.{w16, w32, w64, to_be_bytes}
use Rattle.std.proofs.lemmas.Bool.{eqb-true}
use Rattle.segment_codec.specs.Record.{Segment, segment_bytes}
use Rattle.batch_codec.specs.Payload.{Payload, known_bytes, names_bytes, cloned_bytes, levels_bytes, payload_bytes, size_since_second, master_start, known_start, heads_start, others_start, names_start}
use Rattle.batch_codec.specs.Grammar.{IsPayload}
use Rattle.batch_codec.proofs.Entries.{knowns-size, names-size}
use Rattle.batch_codec.proofs.Payloads.{payload-known-fits}

-- a piece of a payload, behind so many bytes
pub record Stands (p : Payload) (piece : List ℕ) (n : ℕ) : Type 0 where
  pub front : List ℕ
  pub behind : List ℕ
  pub whole : payload_bytes p ≡ front ++ (piece ++ behind)
  pub size : length front ≡ n

cloned-size : (version cloned : ℕ) → length (cloned_bytes version cloned) ≡ size_since_second version 8
cloned-size version cloned = go (eqb version 1)
  where
    go : (b : Bool) → length (cond b [] (to_be_bytes w64 cloned)) ≡ cond b 0 8
    go true = refl
    go false = refl

-- the count that stands before the levels
abbrev pub count_bytes : ℕ → List Segment → List ℕ
count_bytes version levels = cond (eqb version 1) [] (to_be_bytes w32 (length levels))

count-size : (version : ℕ) (levels : List Segment) → length (count_bytes version levels) ≡ size_since_second version 4
count-size version levels = go (eqb version 1)
  where
    go : (b : Bool) → length (cond b [] (to_be_bytes w32 (length levels))) ≡ cond b 0 4
    go true = refl
    go false = refl

levels-parts : (version : ℕ) (levels : List Segment) → (version ≡ 1 → levels ≡ []) → levels_bytes version levels ≡ count_bytes version levels ++ flat_map segment_bytes levels
levels-parts version levels none = go (eqb version 1) refl
  where
    go : (b : Bool) → eqb version 1 ≡ b → cond b [] (to_be_bytes w32 (length levels) ++ flat_map segment_bytes levels) ≡ cond b [] (to_be_bytes w32 (length levels)) ++ flat_map segment_bytes levels
    go true e = ap (λ (z : List Segment). flat_map segment_bytes z) (sym (none (eqb-true version 1 e)))
    go false e = refl

levels-size : (version : ℕ) (levels : List Segment) → (version ≡ 1 → levels ≡ []) → length (levels_bytes version levels) ≡ size_since_second version 4 + length (flat_map segment_bytes levels)
levels-size version levels none =
    ap (length {A = ℕ}) (levels-parts version levels none) ∙ length-append (count_bytes version levels) (flat_map segment_bytes levels)
    ∙ ap (λ (n : ℕ). n + length (flat_map segment_bytes levels)) (count-size version levels)

pub master-stands : (p : Payload) → Stands p (flat_map segment_bytes p.master) (master_start p)
unfolding payload_bytes
master-stands p =
    let first : List ℕ = p.version ∷ p.kind ∷ to_be_bytes w64 p.before in
    let cloned : List ℕ = cloned_bytes p.version p.cloned in
    let count : List ℕ = to_be_bytes w32 (length p.master) in
    let tail : List ℕ = to_be_bytes w16 (length p.heads) ++ (names_bytes p.heads ++ (to_be_bytes w32 (length p.other_names) ++ (to_be_bytes w32 (length p.others) ++ (flat_map segment_bytes p.others ++ names_bytes p.other_names)))) in
    let behind : List ℕ = levels_bytes p.version p.levels ++ (to_be_bytes w32 (length p.known) ++ (flat_map known_bytes p.known ++ tail)) in
    record {
      front = first ++ (to_be_bytes w64 p.after ++ (cloned ++ count));
      behind = behind;
      whole = sym (simp append_assoc refl);
      size = omega (arith, length-append cloned count, cloned-size p.version p.cloned);
    }

pub known-stands : (p : Payload) → (p.version ≡ 1 → p.levels ≡ []) → Stands p (flat_map known_bytes p.known) (known_start p)
unfolding payload_bytes
known-stands p none =
    let first : List ℕ = p.version ∷ p.kind ∷ to_be_bytes w64 p.before in
    let cloned : List ℕ = cloned_bytes p.version p.cloned in
    let masters : List ℕ = flat_map segment_bytes p.master in
    let levels : List ℕ = levels_bytes p.version p.levels in
    let count : List ℕ = to_be_bytes w32 (length p.known) in
    let mid : List ℕ = to_be_bytes w32 (length p.master) ++ (masters ++ (levels ++ count)) in
    let tail : List ℕ = to_be_bytes w16 (length p.heads) ++ (names_bytes p.heads ++ (to_be_bytes w32 (length p.other_names) ++ (to_be_bytes w32 (length p.others) ++ (flat_map segment_bytes p.others ++ names_bytes p.other_names)))) in
    record {
      front = first ++ (to_be_bytes w64 p.after ++ (cloned ++ mid));
      behind = tail;
      whole = sym (simp append_assoc refl);
      size = omega (arith, length-append cloned mid, length-append masters (levels ++ count), length-append levels count, cloned-size p.version p.cloned, levels-size p.version p.levels none);
    }

-- what stands up to the heads, whatever comes behind
abbrev pub front_bytes : Payload → List ℕ
front_bytes p =
    p.version ∷ p.kind ∷ to_be_bytes w64 p.before ++ (to_be_bytes w64 p.after ++ (cloned_bytes p.version p.cloned
    ++ (to_be_bytes w32 (length p.master) ++ (flat_map segment_bytes p.master ++ (levels_bytes p.version p.levels ++ (to_be_bytes w32 (length p.known) ++ flat_map known_bytes p.known))))))

front-size : (p : Payload) → IsPayload p → length (front_bytes p) ≡ known_start p + 28 * length p.known
front-size p h =
    let cloned : List ℕ = cloned_bytes p.version p.cloned in
    let masters : List ℕ = flat_map segment_bytes p.master in
    let levels : List ℕ = levels_bytes p.version p.levels in
    let known : List ℕ = to_be_bytes w32 (length p.known) ++ flat_map known_bytes p.known in
    let mid : List ℕ = to_be_bytes w32 (length p.master) ++ (masters ++ (levels ++ known)) in
    omega (
      arith,
      length-append cloned mid,
      length-append masters (levels ++ known),
      length-append levels known,
      cloned-size p.version p.cloned,
      levels-size p.version p.levels h.format.no_levels,
      knowns-size p.known (payload-known-fits p h),
    )

front-first : (p : Payload) (tail : List ℕ) → front_bytes p ++ tail
    ≡ p.version ∷ p.kind ∷ to_be_bytes w64 p.before ++ (to_be_bytes w64 p.after ++ (cloned_bytes p.version p.cloned
    ++ (to_be_bytes w32 (length p.master) ++ (flat_map segment_bytes p.master ++ (levels_bytes p.version p.levels ++ (to_be_bytes w32 (length p.known) ++ (flat_map known_bytes p.known ++ tail)))))))
front-first p tail = simp append_assoc refl

pub heads-stand : (p : Payload) → IsPayload p → Stands p (names_bytes p.heads) (heads_start p)
unfolding payload_bytes
heads-stand p h =
    let count : List ℕ = to_be_bytes w16 (length p.heads) in
    let heads : List ℕ = names_bytes p.heads in
    let behind : List ℕ = to_be_bytes w32 (length p.other_names) ++ (to_be_bytes w32 (length p.others) ++ (flat_map segment_bytes p.others ++ names_bytes p.other_names)) in
    record {
      front = front_bytes p ++ count;
      behind = behind;
      whole = sym (front-first p (count ++ (heads ++ behind))) ∙ sym (append_assoc (front_bytes p) count (heads ++ behind));
      size = omega (arith, length-append (front_bytes p) count, front-size p h);
    }

pub section-stands : (p : Payload) → IsPayload p → Stands p (flat_map segment_bytes p.others) (others_start p)
unfolding payload_bytes
section-stands p h =
    let heads : List ℕ = names_bytes p.heads in
    let counts : List ℕ = to_be_bytes w32 (length p.other_names) ++ to_be_bytes w32 (length p.others) in
    let mid : List ℕ = to_be_bytes w16 (length p.heads) ++ (heads ++ counts) in
    let others : List ℕ = flat_map segment_bytes p.others in
    let names : List ℕ = names_bytes p.other_names in
    let regrouped : to_be_bytes w16 (length p.heads) ++ (heads ++ (to_be_bytes w32 (length p.other_names) ++ (to_be_bytes w32 (length p.others) ++ (others ++ names)))) ≡ mid ++ (others ++ names) = sym (simp append_assoc refl) in
    record {
      front = front_bytes p ++ mid;
      behind = names;
      whole = sym (front-first p (to_be_bytes w16 (length p.heads) ++ (heads ++ (to_be_bytes w32 (length p.other_names) ++ (to_be_bytes w32 (length p.others) ++ (others ++ names))))))
          ∙ ap (λ (z : List ℕ). front_bytes p ++ z) regrouped ∙ sym (append_assoc (front_bytes p) mid (others ++ names));
      size = omega (arith, length-append (front_bytes p) mid, front-size p h, length-append heads counts, names-size p.heads h.head_names);
    }

pub names-stand : (p : Payload) → IsPayload p → Stands p (names_bytes p.other_names) (names_start p)
unfolding payload_bytes
names-stand p h =
    let heads : List ℕ = names_bytes p.heads in
    let counts : List ℕ = to_be_bytes w32 (length p.other_names) ++ to_be_bytes w32 (length p.others) in
    let others : List ℕ = flat_map segment_bytes p.others in
    let mid : List ℕ = to_be_bytes w16 (length p.heads) ++ (heads ++ (counts ++ others)) in
    let names : List ℕ = names_bytes p.other_names in
    let regrouped : to_be_bytes w16 (length p.heads) ++ (heads ++ (to_be_bytes w32 (length p.other_names) ++ (to_be_bytes w32 (length p.others) ++ (others ++ names)))) ≡ mid ++ names = sym (simp append_assoc refl) in
    record {
      front = front_bytes p ++ mid;
      behind = [];
      whole = sym (front-first p (to_be_bytes w16 (length p.heads) ++ (heads ++ (to_be_bytes w32 (length p.other_names) ++ (to_be_bytes w32 (length p.others) ++ (others ++ names))))))
          ∙ ap (λ (z : List ℕ). front_bytes p ++ z) regrouped ∙ sym (append_assoc (front_bytes p) mid names) ∙ ap (λ (z : List ℕ). (front_bytes p ++ mid) ++ z) (sym (append-nil names));
      size = omega (arith, length-append (front_bytes p) mid, front-size p h, length-append heads (counts ++ others), length-append counts others, names-size p.heads h.head_names);
    }
