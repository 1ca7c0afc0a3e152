use Rattle.std.proofs.Common.{◌∙◌, List, ℕ, sym, ap, subst}
use Rattle.std.specs.Option.{option_map_or}
use Rattle.std.proofs.lemmas.Result.{on_ok_weaker}
use Rattle.id_groups.specs.declared.id.Group.TheVariants.{Others}
use Rattle.segment_codec.specs.Lent.{parents_left}
use Rattle.batch_codec.specs.Building.{IsBuilt, with_other_segment}
use Rattle.change_parts.specs.Flat.{Span}
use Rattle.change_parts.specs.Moves.{flat_record}
use Rattle.change_parts.specs.Sections.{with_spans}
use Rattle.strip_plan.proofs.Lending.{one-behind}
use Rattle.strip_plan.proofs.lent_runs.LentRun.put.Goals as goal

pub returns-in-Some-clause-built : goal.returns-in-Some-clause-built
returns-in-Some-clause-built c =
    let run : List ℕ → Span = λ parents. record { low = c.self.inside.low; high = c.self.inside.high; parents = parents } in
    on_ok_weaker c.other_lent.result (λ built p done is.
    one-behind _ p done c.args.self.now
    (subst (λ (s : Span). IsBuilt c.other_lent.new.self (with_other_segment (with_spans Others p done) (flat_record s)))
    (ap (λ o. run (option_map_or parents_left o c.self.inside.parents.items)) (sym c.in-Some.is) ∙ c.self.view_is)
    (built (with_spans Others p done) is)))
    c.other_lent.ensures.ok

pub returns-in-None-clause-built : goal.returns-in-None-clause-built
returns-in-None-clause-built c =
    let run : List ℕ → Span = λ parents. record { low = c.self.inside.low; high = c.self.inside.high; parents = parents } in
    on_ok_weaker c.other_segment.result (λ built p done is.
    one-behind _ p done c.args.self.now
    (subst (λ (s : Span). IsBuilt c.other_segment.new.self (with_other_segment (with_spans Others p done) (flat_record s)))
    (ap run c.deref.ensures.value ∙ ap (λ o. run (option_map_or parents_left o c.self.inside.parents.items)) (sym c.in-None.is) ∙ c.self.view_is)
    (built (with_spans Others p done) is)))
    c.other_segment.ensures.ok
