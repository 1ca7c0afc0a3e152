-- What is built is the payload's bytes.
use Rattle.std.proofs.Common.{◌≡◌, ℕ, ◌+◌, ◌-◌, ◌*◌, ◌/◌, ◌^◌, ◌<◌, ◌≤◌, List, ◌∷◌, ◌++◌, length, sym, ap, ◌∙◌, append_assoc, arith, lit≤}
use Rattle.std.specs.List.{flat_map}
use Rattle.std.specs.Int.{w16, w32, w64, to_be_bytes}
use Rattle.segment_codec.specs.Record.{Segment, segment_bytes}
use Rattle.batch_codec.specs.Payload.{Payload, known_bytes, names_bytes, cloned_bytes, levels_bytes, payload_bytes}
use Rattle.batch_codec.specs.Grammar.{IsPayload}
use Rattle.batch_codec.specs.Building.{Building, IsBuilt, masters_behind, others_behind}
use Rattle.batch_codec.proofs.Entries.{names-size, knowns-size}
use Rattle.batch_codec.proofs.Meanings.{follow-length}
use Rattle.batch_codec.proofs.Payloads.{known-length, known-fits, level-records-few}

pub segment-some : (s : Segment) → 1 ≤ length (segment_bytes s)
unfolding segment_bytes
segment-some s = omega arith

pub record Counts (b : Building) (p : Payload) : Type 0 where
  pub master : b.master_count < 2 ^ 32
  pub levels : b.levels_count < 2 ^ 32
  pub known : length b.known / 28 ≡ length p.known
  pub known_few : length b.known / 28 < 2 ^ 32
  pub heads : length b.heads / 20 ≡ length p.heads
  pub heads_few : length b.heads / 20 < 2 ^ 16
  pub others : b.others_count < 2 ^ 32

quotient : (k n m : ℕ) → n ≡ 28 * m → n / 28 ≡ m
quotient k n m e = omega (arith, e)

quotient-20 : (n m : ℕ) → n ≡ 20 * m → n / 20 ≡ m
quotient-20 n m e = omega (arith, e)

pub counts-of : (b : Building) (p : Payload) → IsPayload p → IsBuilt b p → Counts b p
counts-of b p h g =
    let k : 16777216 ≤ 2 ^ 32 - 1 = lit≤ tt in
    let j : 2 ^ 32 ≤ 2 ^ 64 = lit≤ tt in
    let most = h.counts.master in let few = h.counts.others in
    let mc = g.master_count in let lc = g.levels_count in let oc = g.others_count in
    let fits = known-fits p.before p.after p.known (omega (arith, k, j, most)) h.known.within h.names in
    let known = quotient 0 (length b.known) (length p.known) (ap (length {A = ℕ}) g.known ∙ knowns-size p.known fits) in
    let heads = quotient-20 (length b.heads) (length p.heads) (ap (length {A = ℕ}) g.heads ∙ names-size p.heads h.head_names) in
    let short = known-length p h in
    let heads_fit = h.heads_fit in
    record {
      levels = omega (arith, k, lc, level-records-few p h);
      master = omega (arith, k, mc, most, follow-length p.before p.after p.master h.cover.master);
      known = known;
      known_few = omega (arith, k, known, short, most);
      heads = heads;
      heads_few = omega (arith, heads, heads_fit);
      others = omega (arith, k, oc, few, follow-length (2 ^ 56) (2 ^ 56 + length p.other_names) p.others h.cover.others);
    }

abbrev all-parts : List ℕ → ℕ → List ℕ → ℕ → List ℕ → ℕ → List ℕ → ℕ → List ℕ → ℕ → ℕ → List ℕ → List ℕ → List ℕ
all-parts front mc m lc l kc k hc h oc sc s n =
    front ++ (to_be_bytes w32 mc ++ (m ++ (to_be_bytes w32 lc ++ (l ++ (to_be_bytes w32 kc ++ (k ++ (to_be_bytes w16 hc ++ (h ++ (to_be_bytes w32 oc ++ (to_be_bytes w32 sc ++ (s ++ n)))))))))))

abbrev front-of : Payload → List ℕ
front-of p = 2 ∷ p.kind ∷ to_be_bytes w64 p.before ++ to_be_bytes w64 p.after ++ to_be_bytes w64 p.cloned

-- the parts of a payload of version 2
spelled-second : (p : Payload) → p.version ≡ 2
    → all-parts (front-of p) (length p.master) (flat_map segment_bytes p.master) (length p.levels) (flat_map segment_bytes p.levels) (length p.known) (flat_map known_bytes p.known) (length p.heads) (names_bytes p.heads)
    (length p.other_names) (length p.others) (flat_map segment_bytes p.others) (names_bytes p.other_names) ≡ payload_bytes p
unfolding payload_bytes
spelled-second p e = ap spelled (sym e)
  where
    behind : List ℕ
    behind = to_be_bytes w32 (length p.known) ++ (flat_map known_bytes p.known ++ (to_be_bytes w16 (length p.heads) ++ (names_bytes p.heads
        ++ (to_be_bytes w32 (length p.other_names) ++ (to_be_bytes w32 (length p.others) ++ (flat_map segment_bytes p.others ++ names_bytes p.other_names))))))

    spelled : ℕ → List ℕ
    spelled version = version ∷ p.kind ∷ to_be_bytes w64 p.before ++ (to_be_bytes w64 p.after ++ (cloned_bytes version p.cloned
        ++ (to_be_bytes w32 (length p.master) ++ (flat_map segment_bytes p.master ++ (levels_bytes version p.levels ++ behind)))))

parts-joined : (b : Building) (p : Payload) → IsPayload p → IsBuilt b p → b.other_count ≡ length p.other_names
    → all-parts b.front b.master_count b.master b.levels_count b.levels (length b.known / 28) b.known (length b.heads / 20) b.heads b.other_count b.others_count b.others b.other_names ≡ payload_bytes p
parts-joined b p h g oc =
    let c = counts-of b p h g in
    let front = front-of p in
    let m = flat_map segment_bytes p.master in
    let l = flat_map segment_bytes p.levels in
    let k = flat_map known_bytes p.known in
    let hs = names_bytes p.heads in
    let os = flat_map segment_bytes p.others in
    let ns = names_bytes p.other_names in
    ap (λ (x : List ℕ). all-parts x b.master_count b.master b.levels_count b.levels (length b.known / 28) b.known (length b.heads / 20) b.heads b.other_count b.others_count b.others b.other_names) g.front
    ∙ ap (λ (x : ℕ). all-parts front x b.master b.levels_count b.levels (length b.known / 28) b.known (length b.heads / 20) b.heads b.other_count b.others_count b.others b.other_names) g.master_count
    ∙ ap (λ (x : List ℕ). all-parts front (length p.master) x b.levels_count b.levels (length b.known / 28) b.known (length b.heads / 20) b.heads b.other_count b.others_count b.others b.other_names) g.master
    ∙ ap (λ (x : ℕ). all-parts front (length p.master) m x b.levels (length b.known / 28) b.known (length b.heads / 20) b.heads b.other_count b.others_count b.others b.other_names) g.levels_count
    ∙ ap (λ (x : List ℕ). all-parts front (length p.master) m (length p.levels) x (length b.known / 28) b.known (length b.heads / 20) b.heads b.other_count b.others_count b.others b.other_names) g.levels
    ∙ ap (λ (x : ℕ). all-parts front (length p.master) m (length p.levels) l x b.known (length b.heads / 20) b.heads b.other_count b.others_count b.others b.other_names) c.known
    ∙ ap (λ (x : List ℕ). all-parts front (length p.master) m (length p.levels) l (length p.known) x (length b.heads / 20) b.heads b.other_count b.others_count b.others b.other_names) g.known
    ∙ ap (λ (x : ℕ). all-parts front (length p.master) m (length p.levels) l (length p.known) k x b.heads b.other_count b.others_count b.others b.other_names) c.heads
    ∙ ap (λ (x : List ℕ). all-parts front (length p.master) m (length p.levels) l (length p.known) k (length p.heads) x b.other_count b.others_count b.others b.other_names) g.heads
    ∙ ap (λ (x : ℕ). all-parts front (length p.master) m (length p.levels) l (length p.known) k (length p.heads) hs x b.others_count b.others b.other_names) oc
    ∙ ap (λ (x : ℕ). all-parts front (length p.master) m (length p.levels) l (length p.known) k (length p.heads) hs (length p.other_names) x b.others b.other_names) g.others_count
    ∙ ap (λ (x : List ℕ). all-parts front (length p.master) m (length p.levels) l (length p.known) k (length p.heads) hs (length p.other_names) (length p.others) x b.other_names) g.others
    ∙ ap (λ (x : List ℕ). all-parts front (length p.master) m (length p.levels) l (length p.known) k (length p.heads) hs (length p.other_names) (length p.others) os x) g.other_names
    ∙ spelled-second p g.version

joined : (front cm m cl l ck k ch h co cs s n : List ℕ)
    → front ++ (cm ++ m) ++ (cl ++ l) ++ (ck ++ k) ++ (ch ++ h) ++ co ++ (cs ++ s) ++ n ≡ front ++ (cm ++ (m ++ (cl ++ (l ++ (ck ++ (k ++ (ch ++ (h ++ (co ++ (cs ++ (s ++ n)))))))))))
joined front cm m cl l ck k ch h co cs s n = simp append_assoc

-- the sections written one after another are the payload's bytes
pub finished : (b : Building) (p : Payload) → IsPayload p → IsBuilt b p → b.other_count ≡ length p.other_names → others_behind b (masters_behind b b.front) ≡ payload_bytes p
finished b p h g oc =
    joined b.front (to_be_bytes w32 b.master_count) b.master (to_be_bytes w32 b.levels_count) b.levels (to_be_bytes w32 (length b.known / 28)) b.known (to_be_bytes w16 (length b.heads / 20)) b.heads
    (to_be_bytes w32 b.other_count) (to_be_bytes w32 b.others_count) b.others b.other_names
    ∙ parts-joined b p h g oc
