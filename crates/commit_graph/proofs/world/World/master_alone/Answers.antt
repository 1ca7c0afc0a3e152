use Rattle.std.proofs.Common.{◌≡◌, List, [], length, sym, subst, ap, arith}
use Rattle.id_groups.specs.Name.{Name}
use Rattle.commit_graph.specs.World.{Row, IsNamedWorld}
use Rattle.commit_graph.proofs.Naming.{named-alone}
use Rattle.commit_graph.proofs.world.World.master_alone.Goals as goal

pub invariant_of-result : goal.invariant_of-result
invariant_of-result c =
    let empty : c.clear.new.self.items ≡ [] = c.clear.ensures.items in
    let len = ap length empty in (
      subst (λ (l : List (Row Name)). IsNamedWorld (record { master = c.self.inside.master.items; others = l })) (sym empty)
          (named-alone (record { master = c.self.inside.master.items; others = c.self.inside.others.items }) c.self.invariant.0),
      c.self.invariant.1,
      omega (arith, len),
    )
