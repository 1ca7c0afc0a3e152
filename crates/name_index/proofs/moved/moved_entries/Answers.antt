use Rattle.std.proofs.Common.{subst, sym}
use Rattle.std.proofs.lemmas.List.{nil_from_length}
use Rattle.name_index.specs.Filter.{PassAll}
use Rattle.name_index.proofs.Thinning.{Thinning, thin-start, thin-turn, thin-end, pass-turn, front-same}
use Rattle.name_index.proofs.moved.moved_entries.Goals as goal

pub each-init : goal.each-init
each-init c = (
  λ old new held are entries stand. subst (Thinning c.args.from c.args.to old new held c.args.entries.now) (sym c.in_ok-out.ensures.items) (thin-start c.args.from c.args.to old new held c.args.entries.now entries stand),
  λ words pass. (pass, subst (PassAll words) (sym c.in_ok-out.ensures.items) tt),
)

pub each-preserved : goal.each-preserved
each-preserved c = (
  λ old new held are entries stand.
      subst (Thinning c.args.from c.args.to old new held c.in-Some.others.now) (sym c.in_ok-push_some.ensures)
      (thin-turn c.args.from c.args.to old new held c.args.moves.now c.in-Some.entry.now c.each.rest.now c.in-Some.others.now c.each.out.items c.moved_entry.result c.moved_entry.ensures are c.in-Some.ensures.cases.0
      (c.each.invariant.0 old new held are entries stand)),
  λ words pass.
      let both = pass-turn words c.in-Some.entry.now c.each.rest.now c.in-Some.others.now c.each.out.items c.moved_entry.result (front-same c.in-Some.entry.now c.moved_entry.result c.args.from c.args.to c.args.moves.now c.moved_entry.ensures) c.in-Some.ensures.cases.0 (c.each.invariant.1 words pass) in
      (both.0, subst (PassAll words) (sym c.in_ok-push_some.ensures) both.1),
)

pub returns-clause-filter : goal.returns-clause-filter
returns-clause-filter c = λ words pass. (c.each.invariant.1 words pass).1

pub returns-clause-moved : goal.returns-clause-moved
returns-clause-moved c = λ old new held are entries stand.
    let t = thin-end c.args.from c.args.to old new held c.each.rest.now c.each.out.items (nil_from_length _ c.in_default.ensures.cases) (c.each.invariant.0 old new held are entries stand) in
    (t.next, t.are, t.thinned, t.among)
