use Rattle.std.proofs.Common.{◌∙◌, ◌++◌, subst, take}
use Rattle.id_groups.specs.Name.{IsName}
use Rattle.commit_graph.proofs.Places.{name-of-bytes}
use Rattle.batch_codec.specs.Building.{IsBuilt}
use Rattle.change_parts.proofs.Gathered.{behind-more, all-more}
use Rattle.clone_plan.proofs.told.add_heads.Goals as goal

pub heads-preserved : goal.heads-preserved
heads-preserved c =
    let item = c.at-item.result.now in record {
      built = λ p is.
          subst (λ l. IsBuilt c.head.new.self (record p { heads = l })) (behind-more p.heads c.args.heads.now c.heads.i item c.at-item.ensures)
          (c.in_ok-head.ensures.ok (record p { heads = p.heads ++ take c.heads.i c.args.heads.now }) (c.heads.invariant.built p is));
      formed = all-more IsName c.args.heads.now c.heads.i item c.at-item.ensures c.heads.invariant.formed
          (subst IsName c.lend-bytes.ensures (name-of-bytes c.lend-bytes.result.bytes.now c.lend-bytes.result.has_20 c.lend-bytes.result.of_bytes));
      count = c.head.ensures.count ∙ c.heads.invariant.count;
    }
