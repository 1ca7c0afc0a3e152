use Rattle.std.proofs.Common.{◌<◌, ◌∙◌, ℕ, length, take, refl, sym, ap, subst, arith}
use Rattle.std.proofs.lemmas.List.{take_at, length-append}
use Rattle.std.specs.List.{AllByRecursion}
use Rattle.segment_codec.specs.Record.{parents_bytes}
use Rattle.segment_codec.specs.Lent.{segment_of}
use Rattle.segment_codec.proofs.Lengths.{head-fits, behind-head}
use Rattle.format_rows.proofs.records.made_again.Goals as goal

pub split_at-requires : goal.split_at-requires
split_at-requires c =
    let e = c.head_len.ensures in
    omega (arith, e, head-fits (segment_of c.args.segment) c.args.bytes.now c.requires.stands.0 c.requires.stands.1)

pub split_at-requires-2 : goal.split_at-requires-2
split_at-requires-2 c =
    let s = segment_of c.args.segment in let rest = c.requires.stands.0 in
    let e = ap length (c.split_at.ensures.back ∙ behind-head s c.args.bytes.now rest c.head_len.result c.requires.stands.1 c.head_len.ensures) in
    let len = c.parents_len.ensures.len in
    omega (arith, e, len, length-append (parents_bytes s) rest)

pub flat-requires-clause-parents : goal.flat-requires-clause-parents
flat-requires-clause-parents c =
    let s = segment_of c.args.segment in let rest = c.requires.stands.0 in
    let behind = c.split_at.ensures.back ∙ behind-head s c.args.bytes.now rest c.head_len.result c.requires.stands.1 c.head_len.ensures in
    let len = c.parents_len.ensures.len in
    let front = c.split_at-2.ensures.front ∙ ap (take c.parents_len.result) behind ∙ take_at (parents_bytes s) rest c.parents_len.result (sym len) in
    (s.parents, subst (λ (n : ℕ). AllByRecursion (λ p. p < n) s.parents) (sym c.low.ensures) c.requires.flat.segment.below, front)

pub returns : goal.returns
returns c =
    let s = segment_of c.args.segment in let rest = c.requires.stands.0 in
    let behind = c.split_at.ensures.back ∙ behind-head s c.args.bytes.now rest c.head_len.result c.requires.stands.1 c.head_len.ensures in
    let len = c.parents_len.ensures.len in
    let front = c.split_at-2.ensures.front ∙ ap (take c.parents_len.result) behind ∙ take_at (parents_bytes s) rest c.parents_len.result (sym len) in
    let made = c.flat.ensures s.parents (subst (λ (n : ℕ). AllByRecursion (λ p. p < n) s.parents) (sym c.low.ensures) c.requires.flat.segment.below) front in
    made ∙ rw (c.low.ensures, c.high.ensures, c.requires.flat.flat) refl
