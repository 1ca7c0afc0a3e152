-- The first payload, and those behind it, which are flushes.
use Rattle.std.proofs.Common.{◌≡◌, ◌≢◌, ◌≤◌, ◌<◌, ◌⊎◌, ℕ, List, [], ◌∷◌, ◌++◌, length, map, flat_map, Option, Some, refl, sym, ap, ap₂, subst, ◌∙◌, inl, ⊎_elim, arith, append_assoc, append-nil}
use Rattle.std.specs.List.{AllByRecursion, last_or}
use Rattle.std.proofs.lemmas.Bool.{cases_lt}
use Rattle.std.proofs.lemmas.List.{map-append}
use Rattle.id_groups.specs.Lists.{IsIn, AreDistinct}
use Rattle.commit_graph.proofs.Down.{in-left, in-right}
use Rattle.segment_codec.specs.Record.{Segment}
use Rattle.batch_codec.specs.Payload.{Payload, Known, known_ids, known_names}
use Rattle.batch_codec.specs.Grammar.{IsPayload, IsFlush, IsClone, IsWholePayload, count_after, cut_below, heads_among, cloned_head_names}
use Rattle.batch_codec.proofs.Cloned.{cut-whole, heads-cloned}
use Rattle.batch_codec.proofs.Knowing.{KnowsEnds}
use Rattle.batch_codec.proofs.Meanings.{follow-within}
use Rattle.change_rules.specs.Lawful.{MayFollow, AreLawful}
use Rattle.change_rules.specs.Tables.{known_in, remote_heads, other_names_in}
use Rattle.change_rules.proofs.Cloned.{Rises}
use Rattle.change_rules.proofs.Lawful.{distinct-parts}
use Rattle.compact_rules.proofs.Lists.{rises-join, payload-rises}
use Rattle.compact_rules.proofs.Cutting.{cut-none, cut-ends, heads-none}

count-last : (n : ℕ) (payloads : List Payload) (p : Payload) → count_after n (payloads ++ p ∷ []) ≡ p.after
count-last n [] p = refl
count-last n (q ∷ payloads) p = count-last q.after payloads p

pub all-whole : (before more : List Payload) → AreLawful before more → AllByRecursion IsPayload more
all-whole before [] h = tt
all-whole before (p ∷ more) h = (h.0.whole, all-whole (before ++ p ∷ []) more h.1)

-- ---- known ids and names of payloads one behind the other

abbrev pub ids_of : List Known → List ℕ
ids_of ks = map (λ (k : Known). k.id) ks

pub known-rise : (before more : List Payload) (end : ℕ) → count_after 0 (before ++ more) ≡ end → AreLawful before more → (count_after 0 before ≤ end) × Rises (count_after 0 before) end (ids_of (known_in more))
known-rise before [] end e h = ((let f = ap (count_after 0) (append-nil before) in omega (arith, e, f)), tt)
known-rise before (p ∷ more) end e h =
    let r = known-rise (before ++ p ∷ []) more end (ap (count_after 0) (append_assoc before (p ∷ []) more) ∙ e) h.1 in
    let last = count-last 0 before p in
    let count = h.0.count in
    let grows = h.0.whole.counts.grows in
    let room = r.0 in
    let le : count_after 0 before ≤ p.after = omega (arith, count, grows) in
    let up : p.after ≤ end = omega (arith, last, room) in (
      omega (arith, le, up),
      subst (Rises (count_after 0 before) end) (sym (map-append (λ (k : Known). k.id) p.known (known_in more)))
          (rises-join (count_after 0 before) p.after end (known_ids p) (ids_of (known_in more)) le up
          (subst (λ n. Rises n p.after (known_ids p)) count (payload-rises p h.0.whole))
          (subst (λ n. Rises n end (ids_of (known_in more))) last r.1)),
    )

pub names-distinct : (before more : List Payload) → AreDistinct (flat_map known_names before) → AreLawful before more → AreDistinct (flat_map known_names (before ++ more))
names-distinct before [] d h = subst (λ l. AreDistinct (flat_map known_names l)) (sym (append-nil before)) d
names-distinct before (p ∷ more) d h =
    let front = distinct-parts (flat_map known_names (before ++ p ∷ [])) p.other_names h.0.distinct in
    subst (λ l. AreDistinct (flat_map known_names l)) (append_assoc before (p ∷ []) more) (names-distinct (before ++ p ∷ []) more front.0 h.1)

-- ---- payloads behind others

pub joined : {X : Type 0} (xs : List X) (x : X) → (xs ++ x ∷ []) ≢ []
joined [] x e = cc
joined (y ∷ xs) x e = cc

later-flush : (before : List Payload) (p : Payload) → before ≢ [] → MayFollow before p → IsFlush p
later-flush before p some m = ⊎_elim (λ f. f)
    (λ o. ⊎_elim (λ (c : IsClone p). absurd (some (m.clone_first c.kind))) (λ (w : IsWholePayload p). absurd (some (m.whole_first w.kind))) o) m.whole.by_kind

-- they know each new id
pub later-known : (before more : List Payload) → before ≢ [] → AreLawful before more → (id : ℕ) → count_after 0 before ≤ id → id < count_after 0 (before ++ more) → IsIn id (ids_of (known_in more))
later-known before [] some h id le lt = absurd (let e = ap (count_after 0) (append-nil before) in omega (arith, le, lt, e))
later-known before (p ∷ more) some h id le lt =
    let last = count-last 0 before p in
    let count = h.0.count in
    let f = later-flush before p some h.0 in
    subst (IsIn id) (sym (map-append (λ (k : Known). k.id) p.known (known_in more)))
    (⊎_elim
    (λ (b : id < p.after). in-left id (known_ids p) (ids_of (known_in more)) (f.all_known id (omega (arith, count, le)) b))
    (λ (b : p.after ≤ id). in-right id (known_ids p) (ids_of (known_in more))
    (later-known (before ++ p ∷ []) more (joined before p) h.1 id (omega (arith, last, b)) (subst (λ l. id < count_after 0 l) (sym (append_assoc before (p ∷ []) more)) lt)))
    (cases_lt id p.after))

-- and list no heads
pub later-heads : (before more : List Payload) → before ≢ [] → AreLawful before more → remote_heads more ≡ []
later-heads before [] some h = refl
later-heads before (p ∷ more) some h =
    let f = later-flush before p some h.0 in
    ap₂ (λ a b. a ++ b) f.no_heads (later-heads (before ++ p ∷ []) more (joined before p) h.1)

-- ---- the first payload, of any kind

-- what isn't cloned it knows, and of the cloned ids the ends of their segments and the parents of merges; its heads are those of these ids
pub record Begins (p : Payload) : Type 0 where
  pub first : p.before ≡ 0
  pub cloned : p.cloned ≤ p.after
  pub all_known : (id : ℕ) → p.cloned ≤ id → id < p.after → IsIn id (known_ids p)
  pub known : KnowsEnds (known_ids p) (cut_below p.cloned p.master)
  pub heads : p.heads ≡ cloned_head_names p

flush-begins : (p : Payload) → MayFollow [] p → IsFlush p → Begins p
flush-begins p m f =
    let gone : cut_below p.cloned p.master ≡ [] = ap (λ n. cut_below n p.master) f.cloned ∙ cut-none p.master in
    record {
      first = m.count;
      cloned = (let e = f.cloned in omega (arith, e));
      all_known = λ id le lt. f.all_known id (let e = m.count in omega (arith, e)) lt;
      known = subst (KnowsEnds (known_ids p)) (sym gone) tt;
      heads = f.no_heads ∙ sym (ap (λ (ss : List Segment). heads_among ss p.known) gone ∙ heads-none p.known);
    }

clone-begins : (p : Payload) → MayFollow [] p → IsClone p → Begins p
clone-begins p m c =
    let same : cut_below p.cloned p.master ≡ p.master =
    ap (λ n. cut_below n p.master) c.cloned ∙ cut-whole p.after p.master (follow-within p.before p.after p.master m.whole.cover.master) in
    record {
      first = c.first;
      cloned = (let e = c.cloned in omega (arith, e));
      all_known = λ id le lt. absurd (let e = c.cloned in omega (arith, e, le, lt));
      known = subst (KnowsEnds (known_ids p)) (sym same) c.known;
      heads = m.clone_heads c.kind ∙ sym (heads-cloned p m.whole c.kind);
    }

whole-begins : (p : Payload) → MayFollow [] p → IsWholePayload p → Begins p
whole-begins p m w = record {
  first = w.first;
  cloned = w.cloned;
  all_known = w.all_known;
  known = cut-ends p.cloned (known_ids p) p.master w.known;
  heads = m.whole_heads w.kind;
}

pub begins : (p : Payload) → MayFollow [] p → Begins p
begins p m = ⊎_elim (flush-begins p m) (λ o. ⊎_elim (clone-begins p m) (whole-begins p m) o) m.whole.by_kind

-- ---- the last one: its bounds, and that it stores something

pub count-most : (n : ℕ) (payloads : List Payload) → n ≤ 16777216 → AllByRecursion IsPayload payloads → count_after n payloads ≤ 16777216
count-most n [] le h = le
count-most n (p ∷ payloads) le h = count-most p.after payloads h.0.counts.master h.1

pub others-most : (o : Option Payload) (payloads : List Payload) → length (other_names_in o) ≤ 65536 → AllByRecursion IsPayload payloads → length (other_names_in (last_or o payloads)) ≤ 65536
others-most o [] le h = le
others-most o (p ∷ payloads) le h = others-most (Some p) payloads h.0.counts.others h.1

pub stores : (p : Payload) → IsPayload p → (0 < p.after) ⊎ (0 < length p.other_names)
stores p h = ⊎_elim (λ (f : IsFlush p). f.something) (λ o. ⊎_elim (λ (c : IsClone p). inl c.something) (λ (w : IsWholePayload p). w.something) o) h.by_kind

pub stored : (n : ℕ) (o : Option Payload) (payloads : List Payload) → (0 < n) ⊎ (0 < length (other_names_in o)) → AllByRecursion IsPayload payloads
    → (0 < count_after n payloads) ⊎ (0 < length (other_names_in (last_or o payloads)))
stored n o [] some h = some
stored n o (p ∷ payloads) some h = stored p.after (Some p) payloads (stores p h.0) h.1
