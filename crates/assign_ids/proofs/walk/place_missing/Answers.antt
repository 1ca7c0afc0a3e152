use Rattle.std.proofs.Common.{◌∙◌, refl, sym, ap, subst, arith, List}
use Rattle.std.specs.Prelude.{nat_eq}
use Rattle.assign_ids.specs.Placing.{place}
use Rattle.assign_ids.specs.Numbers.{AreBelow, others_of, rows_below}
use Rattle.assign_ids.specs.Progress.{Progress}
use Rattle.assign_ids.specs.declared.graph.Node.{Node}
use Rattle.assign_ids.proofs.NumberLemmas.{below-more}
use Rattle.assign_ids.proofs.Frames.{start-turn, place-turn, wait-turn, top-within}
use Rattle.assign_ids.proofs.walk.place_missing.Goals as goal

pub frames-init : goal.frames-init
frames-init g c = record {
  size = refl;
  leads = start-turn (g.G.ParentsOf.parents c.args.graph.now) c.args.order.now.size c.requires.parents c.args.frames.now.items c.push.new.self.items c.args.head c.args.order.now.numbers
      c.requires.frames c.in_ok-push.ensures.items c.requires.head c.requires.missing;
}

pub next_missing-requires : goal.next_missing-requires
next_missing-requires g c =
    let within = top-within (g.G.ParentsOf.parents c.args.graph.now) c.args.order.now.size c.frames.frames.items c.pop.new.self.items c.in-Some.field-0 c.frames.order.numbers
    (place nat_eq (rows_below (g.G.ParentsOf.parents c.args.graph.now) c.args.order.now.size) c.args.order.now.numbers c.args.head) c.in-Some.ensures.items c.frames.invariant.leads in
    let same = c.frames.invariant.size in
    subst (λ (nodes : List Node). AreBelow c.frames.order.size (others_of nodes)) (sym c.parents_of.ensures)
    (below-more c.in-Some.field-0.number c.frames.order.size _ (omega (arith, within, same)) (c.requires.parents c.in-Some.field-0.number))

pub frames-smaller-in-Continue-branch-3 : goal.frames-smaller-in-Continue-branch-3
frames-smaller-in-Continue-branch-3 g c =
    (wait-turn (g.G.ParentsOf.parents c.args.graph.now) c.args.order.now.size c.requires.parents c.frames.frames.items c.pop.new.self.items c.push-in-Some-next_missing.new.self.items
    c.push-in-Some-next_missing-2.new.self.items c.in-Some.field-0 c.parents_of.result.now c.frames.order.numbers
    (place nat_eq (rows_below (g.G.ParentsOf.parents c.args.graph.now) c.args.order.now.size) c.args.order.now.numbers c.args.head)
    c.in-Some-next_missing.missing.number c.in-Some-next_missing.missing.done c.in-Some.ensures.items c.parents_of.ensures c.in_ok-push-in-Some-next_missing.ensures.items
    c.in_ok-push-in-Some-next_missing-2.ensures.items c.in-Some-next_missing.ensures c.frames.invariant.leads).1

pub frames-preserved-in-Continue-branch-3 : goal.frames-preserved-in-Continue-branch-3
frames-preserved-in-Continue-branch-3 g c = record {
  size = c.frames.invariant.size;
  leads =
      (wait-turn (g.G.ParentsOf.parents c.args.graph.now) c.args.order.now.size c.requires.parents c.frames.frames.items c.pop.new.self.items c.push-in-Some-next_missing.new.self.items
      c.push-in-Some-next_missing-2.new.self.items c.in-Some.field-0 c.parents_of.result.now c.frames.order.numbers
      (place nat_eq (rows_below (g.G.ParentsOf.parents c.args.graph.now) c.args.order.now.size) c.args.order.now.numbers c.args.head)
      c.in-Some-next_missing.missing.number c.in-Some-next_missing.missing.done c.in-Some.ensures.items c.parents_of.ensures c.in_ok-push-in-Some-next_missing.ensures.items
      c.in_ok-push-in-Some-next_missing-2.ensures.items c.in-Some-next_missing.ensures c.frames.invariant.leads).0;
}

pub push-requires-in-None : goal.push-requires-in-None
push-requires-in-None g c =
    let within = top-within (g.G.ParentsOf.parents c.args.graph.now) c.args.order.now.size c.frames.frames.items c.pop.new.self.items c.in-Some.field-0 c.frames.order.numbers
    (place nat_eq (rows_below (g.G.ParentsOf.parents c.args.graph.now) c.args.order.now.size) c.args.order.now.numbers c.args.head) c.in-Some.ensures.items c.frames.invariant.leads in
    let same = c.frames.invariant.size in omega (arith, within, same)

pub frames-smaller : goal.frames-smaller
frames-smaller g c =
    (place-turn (g.G.ParentsOf.parents c.args.graph.now) c.args.order.now.size c.frames.frames.items c.pop.new.self.items c.in-Some.field-0 c.parents_of.result.now c.frames.order.numbers
    c.push-in-None.new.self.numbers
    (place nat_eq (rows_below (g.G.ParentsOf.parents c.args.graph.now) c.args.order.now.size) c.args.order.now.numbers c.args.head)
    c.requires.size c.in-Some.ensures.items c.parents_of.ensures (ap (λ (p : Progress). p.numbers) c.in_ok-push-in-None.ensures) c.in-None.ensures c.frames.invariant.leads).1

pub frames-preserved : goal.frames-preserved
frames-preserved g c = record {
  size = ap (λ (p : Progress). p.size) c.in_ok-push-in-None.ensures ∙ c.frames.invariant.size;
  leads =
      (place-turn (g.G.ParentsOf.parents c.args.graph.now) c.args.order.now.size c.frames.frames.items c.pop.new.self.items c.in-Some.field-0 c.parents_of.result.now c.frames.order.numbers
      c.push-in-None.new.self.numbers
      (place nat_eq (rows_below (g.G.ParentsOf.parents c.args.graph.now) c.args.order.now.size) c.args.order.now.numbers c.args.head)
      c.requires.size c.in-Some.ensures.items c.parents_of.ensures (ap (λ (p : Progress). p.numbers) c.in_ok-push-in-None.ensures) c.in-None.ensures c.frames.invariant.leads).0;
}
