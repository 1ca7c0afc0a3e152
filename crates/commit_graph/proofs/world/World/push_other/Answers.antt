use Rattle.std.proofs.Common.{List, [], ◌∷◌, length, ap, arith, length-append}
use Rattle.id_groups.specs.Name.{Name}
use Rattle.commit_graph.specs.World.{Row, World}
use Rattle.commit_graph.proofs.Places.{named-push}
use Rattle.commit_graph.proofs.world.World.push_other.Goals as goal

pub invariant_of-self-2 : goal.invariant_of-self-2
invariant_of-self-2 c =
    let w : World Name = record { master = c.self.inside.master.items; others = c.self.inside.others.items } in (
      named-push w c.args.self.now c.self.view_is c.self.invariant.0 c.args.row c.is_row.ensures.name c.is_row.ensures.distinct
          c.is_row.ensures.few c.requires.fresh c.requires.known c.push.new.self.items c.in_ok-push.ensures.items,
      c.self.invariant.1,
      omega (
        arith,
        ap (λ (l : List (Row Name)). length l) c.in_ok-push.ensures.items,
        length-append c.self.inside.others.items (c.args.row ∷ []),
        ap (λ (v : World Name). length v.others) c.self.view_is,
        c.requires.few,
      ),
    )
