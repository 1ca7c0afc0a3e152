use Rattle.std.proofs.Common.{arith, ◌≡◌, ◌∙◌, ◌<◌, ◌≤◌, ℕ, subst, ⊎_elim}
use Rattle.std.proofs.lemmas.Result.{on_ok_weaker, IfOk-weaker}
use Rattle.id_groups.specs.Lists.{IsIn}
use Rattle.commit_graph.proofs.Naming.{each}
use Rattle.segment_codec.specs.Lent.{segment_of}
use Rattle.span_set.specs.Members.{IsMember}
use Rattle.ancestor_query.specs.Visits.{ToVisit, Keeps}
use Rattle.range_query.specs.Falls.{IsEndOf}
use Rattle.range_query.proofs.FallLemmas.{raised-end}
use Rattle.range_query.proofs.FallTurns.{visit-keeps}
use Rattle.range_query.proofs.downward.visit.Goals as goal

pub returns-clause-keeps : goal.returns-clause-keeps
returns-clause-keeps c =
    let s = segment_of c.args.segment in
    let low : c.number-low.result ≡ s.low = c.number-low.ensures.number ∙ c.low.ensures in
    on_ok_weaker c.push_parents.result
    (visit-keeps s.low s.parents c.args.near.now c.args.far.now c.slide.new.self c.end_from.new.far c.push_parents.new.near c.push_parents.new.far
    (subst (λ n. Keeps c.args.near.now c.slide.new.self n) low c.slide.ensures.keeps) (subst (λ n. Keeps c.args.far.now c.end_from.new.far n) low c.end_from.ensures.keeps))
    c.push_parents.ensures.all

pub returns-clause-near : goal.returns-clause-near
returns-clause-near c =
    let s = segment_of c.args.segment in
    let low : c.number-low.result ≡ s.low = c.number-low.ensures.number ∙ c.low.ensures in
    on_ok_weaker c.push_parents.result
    (λ near w i. ⊎_elim (λ k. let lt = c.slide.ensures.under w k in omega arith) (λ k. each (λ q. q < s.low) s.parents c.args.segment.below w k) (near w i))
    c.push_parents.ensures.near

pub returns-clause-end : goal.returns-clause-end
returns-clause-end c =
    let s = segment_of c.args.segment in
    let low : c.number-low.result ≡ s.low = c.number-low.ensures.number ∙ c.low.ensures in
    IfOk-weaker c.push_parents.result _ _
    (λ r raised b le ends. raised-end (IsMember c.args.to.now) c.end_from.new.far c.push_parents.new.far (λ p. IsIn p s.parents) s.low c.end_from.result r.end
    (λ p i. each (λ q. q < s.low) s.parents c.args.segment.below p i) raised
    (subst (λ n. (b : ℕ) → n ≤ b → IsEndOf (ToVisit (IsMember c.args.to.now) c.args.far.now) b c.args.ways.end → IsEndOf (ToVisit (IsMember c.args.to.now) c.end_from.new.far) n c.end_from.result) low c.end_from.ensures.end b le ends))
    c.push_parents.ensures.end
