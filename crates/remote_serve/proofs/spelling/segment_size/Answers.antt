use Rattle.std.proofs.Common.{arith, length, ap, subst, ◌∙◌, ℕ, List}
use Rattle.segment_codec.specs.Record.{Segment}
use Rattle.remote_serve.specs.Telling.{IsTold}
use Rattle.remote_serve.proofs.Sizes.{segment-long}
use Rattle.remote_serve.proofs.spelling.segment_size.Goals as goal

pub returns-clause-size : goal.returns-clause-size
returns-clause-size c =
    let size = c.parts_size.ensures.size in
    let long = segment-long c.args.segment.now in
    let parents = ap (length {A = ℕ}) (c.numbers.ensures.numbers ∙ ap (λ (s : Segment). s.parents) c.segment.view_is) in
    omega (arith, size, long, parents)

pub returns-clause-told : goal.returns-clause-told
returns-clause-told c =
    let f = c.segment.inside in
    subst IsTold c.segment.view_is
    (subst (λ (ps : List ℕ). IsTold (record { low = f.low; high = f.high; level = 0; parents = ps })) c.numbers.ensures.numbers c.parts_size.ensures.told)
