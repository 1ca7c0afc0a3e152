use Rattle.std.proofs.Common.{◌≡◌, ◌∙◌, ◌<◌, ◌&&◌, ℕ, Bool, not, false, map, filter, flat_map, length, slice_index_or, ap, ap₂, subst, sym, arith, nat_eq}
use Rattle.std.specs.List.{AllByRecursion}
use Rattle.std.specs.Result.{IfOk}
use Rattle.id_groups.specs.Lists.{is_in}
use Rattle.segment_codec.specs.Record.{Segment, segment_bytes}
use Rattle.batch_codec.specs.Payload.{Known, names_bytes}
use Rattle.batch_codec.specs.Lent.{payload_of}
use Rattle.batch_codec.specs.Grammar.{cut_below}
use Rattle.payload_tables.proofs.Adding.{are-records}
use Rattle.payload_tables.proofs.Heading.{highs-below, parents-below, cut-highs, cut-parents, knowns-below, filter-alike}
use Rattle.payload_tables.proofs.heads.head_bytes.Goals as goal

pub marks_of-requires : goal.marks_of-requires
marks_of-requires c =
    let p = payload_of c.args.batch.now in let h = c.is_payload.ensures.payload in
    let records = are-records p c.bytes.result.now h (c.bytes.ensures ∙ ap (flat_map segment_bytes) c.master_segments-segments.ensures.segments) in
    let after = c.after-n.ensures in
    subst (AllByRecursion (λ id. id < c.after-n.result)) (sym (c.deref.ensures.value ∙ c.in_ok-ends.ensures.highs p.master records))
    (cut-highs c.cloned.result c.after-n.result p.master (highs-below p.before p.after c.after-n.result p.master h.cover.master (omega (arith, after))))

pub marks_of-requires-2 : goal.marks_of-requires-2
marks_of-requires-2 c =
    let p = payload_of c.args.batch.now in let h = c.is_payload.ensures.payload in
    let records = are-records p c.bytes.result.now h (c.bytes.ensures ∙ ap (flat_map segment_bytes) c.master_segments-segments.ensures.segments) in
    let after = c.after-n.ensures in
    subst (AllByRecursion (λ id. id < c.after-n.result)) (sym (c.deref-2.ensures.value ∙ c.in_ok-ends.ensures.parents p.master records))
    (cut-parents c.cloned.result c.after-n.result p.master (parents-below p.before p.after c.after-n.result p.master h.cover.master (omega (arith, after)) h.parents.master))

pub names_where-requires-clause-highs : goal.names_where-requires-clause-highs
names_where-requires-clause-highs c =
    let p = payload_of c.args.batch.now in let h = c.is_payload.ensures.payload in
    let size : length c.deref-3.result.now ≡ p.after = ap (length {A = Bool}) c.deref-3.ensures.value ∙ c.in_ok-highs.ensures.len ∙ c.after-n.ensures in
    subst (λ l. AllByRecursion (λ (k : Known). k.id < length c.deref-3.result.now) l) (sym c.known-known.ensures.known)
    (subst (λ n. AllByRecursion (λ (k : Known). k.id < n) p.known) (sym size) (knowns-below p.before p.after p.known h.known.within))

pub returns : goal.returns
returns c =
    let p = payload_of c.args.batch.now in let h = c.is_payload.ensures.payload in
    let records = are-records p c.bytes.result.now h (c.bytes.ensures ∙ ap (flat_map segment_bytes) c.master_segments-segments.ensures.segments) in
    let after : c.after-n.result ≡ p.after = c.after-n.ensures in
    let low : (k : ℕ) → k < p.after → k < c.after-n.result = λ k lt. subst (λ n. k < n) (sym after) lt in
    let highs : (k : ℕ) → k < p.after → slice_index_or c.deref-3.result.now k false ≡ is_in nat_eq k (map (λ (s : Segment). s.high) (cut_below p.cloned p.master)) = λ k lt.
    ap (λ l. slice_index_or l k false) c.deref-3.ensures.value ∙ c.in_ok-highs.ensures.marked k (low k lt) ∙ ap (is_in nat_eq k) (c.deref.ensures.value ∙ c.in_ok-ends.ensures.highs p.master records ∙ ap (λ n. map (λ (s : Segment). s.high) (cut_below n p.master)) c.cloned.ensures) in
    let parents : (k : ℕ) → k < p.after → slice_index_or c.deref-4.result.now k false ≡ is_in nat_eq k (flat_map (λ (s : Segment). s.parents) (cut_below p.cloned p.master)) = λ k lt.
    ap (λ l. slice_index_or l k false) c.deref-4.ensures.value ∙ c.in_ok-parents.ensures.marked k (low k lt) ∙ ap (is_in nat_eq k) (c.deref-2.ensures.value ∙ c.in_ok-ends.ensures.parents p.master records ∙ ap (λ n. flat_map (λ (s : Segment). s.parents) (cut_below n p.master)) c.cloned.ensures) in
    subst (λ l. IfOk c.names_where.result (λ names. names.items ≡ names_bytes (map (λ (k : Known). k.name) l)))
    (ap (filter (λ (k : Known). slice_index_or c.deref-3.result.now k.id false && not (slice_index_or c.deref-4.result.now k.id false))) c.known-known.ensures.known
    ∙ filter-alike (λ (k : Known). k.id < p.after) (λ k. slice_index_or c.deref-3.result.now k.id false && not (slice_index_or c.deref-4.result.now k.id false))
    (λ k. is_in nat_eq k.id (map (λ (s : Segment). s.high) (cut_below p.cloned p.master)) && not (is_in nat_eq k.id (flat_map (λ (s : Segment). s.parents) (cut_below p.cloned p.master))))
    p.known (knowns-below p.before p.after p.known h.known.within) (λ k lt. ap₂ (λ a b. a && not b) (highs k.id lt) (parents k.id lt)))
    c.names_where.ensures
