-- A payload that is read is the one that was written and is in the grammar, and what is in the grammar is read.
use Rattle.std.proofs.Common.{◌≡◌, ℕ, ◌+◌, ◌-◌, ◌^◌, ◌<◌, ◌≤◌, Bool, true, false, cond, leb, eqb, ◌&&◌, ◌⊎◌, inl, inr, List, [], ◌∷◌, length, map, get_or, Some, None, sym, ap, subst, ◌∙◌, arith, lit≤}
use Rattle.std.specs.List.{AllByRecursion}
use Rattle.std.proofs.lemmas.List.{length-map}
use Rattle.std.proofs.lemmas.Bool.{and_parts, and_from, leb-true, le-leb, eqb-true, eq-eqb, ne_eqb}
use Rattle.id_groups.specs.Name.{IsName}
use Rattle.segment_codec.specs.Reading.{◌>>=◌}
use Rattle.segment_codec.specs.Table.{Follow}
use Rattle.segment_codec.specs.Turns.{place_behind}
use Rattle.segment_codec.proofs.Turns.{follow-behind}
use Rattle.segment_codec.proofs.Numbers.{IsBytes, bind_some, guard_some, some_is}
use Rattle.batch_codec.specs.Payload.{Known, Payload, known_ids, payload_bytes}
use Rattle.batch_codec.specs.Grammar.{IsPayload, IsFlush, IsClone, IsWholePayload}
use Rattle.batch_codec.specs.Reading.{ids_ascend, parts_at, ends_fit, kind_fits, payload_at}
use Rattle.batch_codec.proofs.Turns.{stand-in-turn, turn-stands}
use Rattle.batch_codec.proofs.Entries.{FitsKnown}
use Rattle.batch_codec.proofs.Ascending.{ascend-each, ascend-increasing, increasing-ascend}
use Rattle.batch_codec.proofs.Pieces.{PartsFit, MeansCloned, parts_take, Lengths, parts_again}
use Rattle.batch_codec.proofs.Meanings.{stand-turn, turn-stand, master-within, others-within, stand-parents, stand-below, follow-length, follow-within, ascend-length}
use Rattle.batch_codec.proofs.Knowing.{kind-means, kind-decided}
use Rattle.batch_codec.proofs.Rising.{rise-each, rise-ascend, rise-few, ascend-rise}

record Ends (p : Payload) : Type 0 where
  pub master : place_behind p.before p.master ≡ p.after
  pub few : length p.other_names ≤ 65536
  pub others : place_behind (2 ^ 56) p.others ≡ 2 ^ 56 + length p.other_names

ends-of : (p : Payload) → ends_fit p ≡ true → Ends p
ends-of p h =
    let a = and_parts (eqb (place_behind p.before p.master) p.after && leb (length p.other_names) 65536) (eqb (place_behind (2 ^ 56) p.others) (2 ^ 56 + length p.other_names)) h in
    let b = and_parts (eqb (place_behind p.before p.master) p.after) (leb (length p.other_names) 65536) a.0 in
    record { master = eqb-true (place_behind p.before p.master) p.after b.0; few = leb-true (length p.other_names) 65536 b.1; others = eqb-true (place_behind (2 ^ 56) p.others) (2 ^ 56 + length p.other_names) a.1 }

ids-many : (p : Payload) → length (known_ids p) ≡ length p.known
ids-many p = length-map p.known (λ k. k.id)

-- what the tests let through is in the grammar
sound : (p : Payload) → PartsFit p → ends_fit p ≡ true → kind_fits p ≡ true → IsPayload p
sound p fit ends kind =
    let e = ends-of p ends in
    let master = turn-stands p.before p.master (stand-turn (2 ^ 56) p.before p.before p.master fit.master) in
    let others = turn-stands (2 ^ 56) p.others (stand-turn p.after (2 ^ 56) (2 ^ 56) p.others fit.others) in
    let follow = subst (λ (n : ℕ). Follow p.before n p.master) e.master master.0 in
    record {
      format = record { version = fit.version; no_levels = fit.no_levels };
      counts = record { grows = fit.grows; master = fit.most; others = e.few };
      cover = record {
        flat_master = master.2;
        flat_others = others.2;
        master = follow;
        others = subst (λ (n : ℕ). Follow (2 ^ 56) n p.others) e.others others.0;
      };
      parents = record { master = stand-below (2 ^ 56) p.before p.before p.master fit.master; others = stand-parents p.after (2 ^ 56) (2 ^ 56) p.others fit.others };
      maximal = record { master = master.1; others = others.1 };
      levels = record { each = rise-each p.after (1, 0) p.levels (lit≤ tt) fit.rise; ascend = rise-ascend p.after (1, 0) p.levels fit.rise };
      known = record { ascend = ascend-increasing p.before p.after (known_ids p) fit.ascend; within = ascend-each p.before p.after (known_ids p) fit.ascend };
      by_kind = kind-means p (record { ascend = fit.ascend; many = ids-many p; below = follow-within p.before p.after p.master follow }) kind;
      heads_fit = fit.few_heads;
      names = fit.names;
      head_names = fit.heads;
      other_names = fit.other_names;
    }

pub record PayloadTaken (bytes : List ℕ) (p : Payload) : Type 0 where
  pub whole : IsPayload p
  pub parts : bytes ≡ payload_bytes p

pub payload_takes : (bytes : List ℕ) (p : Payload) → IsBytes bytes → payload_at bytes ≡ Some p → PayloadTaken bytes p
unfolding payload_at
payload_takes bytes p fits e =
    let a = bind_some (parts_at bytes) (λ q. cond (ends_fit q && kind_fits q) (Some q) None) p e in
    let g = guard_some (ends_fit a.0 && kind_fits a.0) a.0 p a.2 in
    let t = and_parts (ends_fit a.0) (kind_fits a.0) g.0 in
    let parts = parts_take bytes a.0 fits a.1 in
    subst (PayloadTaken bytes) g.1 (record { whole = sound a.0 parts.fit t.0 t.1; parts = parts.parts })

-- ---- and back

first-within : (before : ℕ) (ids : List ℕ) (after : ℕ) → AllByRecursion (λ id. (before ≤ id) × (id < after)) ids → 0 < length ids → before ≤ get_or ids 0 0
first-within before [] after h some = absurd (omega (arith, some))
first-within before (id ∷ ids) after h some = h.0.0

each-below : (before after : ℕ) (ids : List ℕ) → AllByRecursion (λ id. (before ≤ id) × (id < after)) ids → AllByRecursion (λ id. id < after) ids
each-below before after [] h = tt
each-below before after (id ∷ ids) h = (h.0.1, each-below before after ids h.1)

pub known-fits : (before after : ℕ) (ks : List Known) → after ≤ 2 ^ 64 → AllByRecursion (λ id. (before ≤ id) × (id < after)) (map (λ k. k.id) ks) → AllByRecursion IsName (map (λ k. k.name) ks) → AllByRecursion FitsKnown ks
known-fits before after [] le h g = tt
known-fits before after (k ∷ ks) le h g = (record { id = let lt = h.0.1 in omega (arith, lt, le); name = g.0.0 }, known-fits before after ks le h.1 g.1)

-- what a payload knows has a spelling
pub payload-known-fits : (p : Payload) → IsPayload p → AllByRecursion FitsKnown p.known
payload-known-fits p h =
    let most = h.counts.master in
    let k : 16777216 ≤ 2 ^ 64 = lit≤ tt in
    known-fits p.before p.after p.known (omega (arith, k, most)) h.known.within h.names

abbrev ascending : Payload → Type 0
ascending p = ids_ascend p.before p.after (known_ids p) ≡ true

in-order : (p : Payload) → IsPayload p → ascending p
in-order p h = increasing-ascend p.before p.after (known_ids p) (first-within p.before (known_ids p) p.after h.known.within) (each-below p.before p.after (known_ids p) h.known.within) h.known.ascend

pub known-length : (p : Payload) → IsPayload p → length p.known ≤ p.after
known-length p h = omega (arith, ids-many p, ascend-length p.before p.after (known_ids p) (in-order p h))

-- what version 1 means by leaving the cloned count out
meant : (p : Payload) → IsFlush p ⊎ (IsClone p ⊎ IsWholePayload p) → MeansCloned p.version p.kind p.after p.cloned
meant p (inl h) first = let other : eqb p.kind 2 ≡ false = ne_eqb p.kind 2 (λ e. let kind = h.kind in absurd (omega (arith, kind, e))) in rw other h.cloned
meant p (inr (inl h)) first = let same = eq-eqb p.kind 2 h.kind in rw same h.cloned
meant p (inr (inr h)) first = let two = h.version in absurd (omega (arith, two, first))

cloned-few : (p : Payload) → IsFlush p ⊎ (IsClone p ⊎ IsWholePayload p) → p.cloned ≤ p.after
cloned-few p (inl h) = let none = h.cloned in omega (arith, none)
cloned-few p (inr (inl h)) = let all = h.cloned in omega (arith, all)
cloned-few p (inr (inr h)) = h.cloned

pub level-records-few : (p : Payload) → IsPayload p → length p.levels < 2 ^ 32
level-records-few p h =
    let k : 134217728 < 2 ^ 32 = lit≤ tt in
    omega (arith, k, rise-few p.after (1, 0) p.levels h.counts.master (lit≤ tt) (lit≤ tt) (ascend-rise p.after p.levels h.levels.each h.levels.ascend))

pub payload_again : (p : Payload) → IsPayload p → payload_at (payload_bytes p) ≡ Some p
unfolding payload_at
payload_again p h =
    let k : 16777216 ≤ 2 ^ 32 - 1 = lit≤ tt in
    let j : 2 ^ 32 ≤ 2 ^ 64 = lit≤ tt in
    let grows = h.counts.grows in let most = h.counts.master in let few = h.counts.others in
    let up = in-order p h in
    let rise = ascend-rise p.after p.levels h.levels.each h.levels.ascend in
    let fit : PartsFit p = record {
      version = h.format.version;
      grows = grows;
      most = most;
      means = meant p h.by_kind;
      rise = rise;
      no_levels = h.format.no_levels;
      master = turn-stand (2 ^ 56) p.before p.before p.master (master-within p.master) (stand-in-turn p.before p.after p.master h.cover.master h.maximal.master h.cover.flat_master);
      ascend = up;
      names = h.names;
      few_heads = h.heads_fit;
      heads = h.head_names;
      others = turn-stand p.after (2 ^ 56) (2 ^ 56) p.others (others-within p.after p.others h.parents.others) (stand-in-turn (2 ^ 56) (2 ^ 56 + length p.other_names) p.others h.cover.others h.maximal.others h.cover.flat_others);
      other_names = h.other_names;
    } in
    let short : Lengths p = record {
      master = omega (arith, k, most, follow-length p.before p.after p.master h.cover.master);
      levels = level-records-few p h;
      known = omega (arith, k, most, ids-many p, ascend-length p.before p.after (known_ids p) up);
      others = omega (arith, k, few, follow-length (2 ^ 56) (2 ^ 56 + length p.other_names) p.others h.cover.others);
      names = omega (arith, few);
    } in
    let read = parts_again p fit (cloned-few p h.by_kind) short (known-fits p.before p.after p.known (omega (arith, k, j, most)) h.known.within h.names) in
    let ends : ends_fit p ≡ true =
    and_from (eqb (place_behind p.before p.master) p.after && leb (length p.other_names) 65536) (eqb (place_behind (2 ^ 56) p.others) (2 ^ 56 + length p.other_names))
    (and_from (eqb (place_behind p.before p.master) p.after) (leb (length p.other_names) 65536)
    (eq-eqb (place_behind p.before p.master) p.after (follow-behind p.before p.after p.master h.cover.master)) (le-leb (length p.other_names) 65536 few))
    (eq-eqb (place_behind (2 ^ 56) p.others) (2 ^ 56 + length p.other_names) (follow-behind (2 ^ 56) (2 ^ 56 + length p.other_names) p.others h.cover.others)) in
    let kind = kind-decided p (record { ascend = up; many = ids-many p; below = follow-within p.before p.after p.master h.cover.master }) h.by_kind in
    let test = and_from (ends_fit p) (kind_fits p) ends kind in
    ap (λ r. r >>= λ (q : Payload). cond (ends_fit q && kind_fits q) (Some q) None) read ∙ ap (λ (b : Bool). cond b (Some p) None) test

pub one-payload : (p q : Payload) → IsPayload p → IsPayload q → payload_bytes p ≡ payload_bytes q → p ≡ q
one-payload p q hp hq e = some_is p q (sym (payload_again p hp) ∙ ap payload_at e ∙ payload_again q hq)
