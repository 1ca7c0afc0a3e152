use Rattle.std.proofs.Common.{◌∙◌, ◌<◌, ◌^◌, ◌++◌, ◌∷◌, [], ap, ap₂, map, sym, subst, take}
use Rattle.id_groups.specs.Name.{IsName}
use Rattle.commit_graph.proofs.Naming.{each}
use Rattle.commit_graph.proofs.Places.{item-at, name-of-bytes}
use Rattle.batch_codec.specs.Building.{IsBuilt}
use Rattle.batch_codec.specs.Payload.{Known}
use Rattle.remote_rules.specs.CloneData.{KnownName}
use Rattle.change_parts.proofs.Gathered.{mapped-more, all-more}
use Rattle.clone_plan.proofs.told.add_names.Goals as goal

pub master-requires : goal.master-requires
master-requires c =
    subst (λ n. n < 2 ^ 56) (sym (ap (λ (k : KnownName). k.id) c.item.view_is))
    (each (λ (k : KnownName). k.id < 2 ^ 56) c.args.names.now c.requires c.at-item.result.now (item-at c.args.names.now c.names.i c.at-item.result.now c.at-item.ensures))

pub names-preserved : goal.names-preserved
names-preserved c =
    let item = c.at-item.result.now in
    let known : KnownName → Known = λ k. record { id = k.id; name = k.name } in record {
      built = λ p is.
          subst (λ l. IsBuilt c.known.new.self (record p { known = l })) (mapped-more known p.known c.args.names.now c.names.i item c.at-item.ensures)
          (subst (λ (k : Known). IsBuilt c.known.new.self (record p { known = (p.known ++ map known (take c.names.i c.args.names.now)) ++ k ∷ [] }))
          (ap₂ {C = Known} (λ a b. record { id = a; name = b }) (c.master.ensures ∙ ap (λ (k : KnownName). k.id) c.item.view_is) (ap (λ (k : KnownName). k.name) c.item.view_is))
          (c.in_ok-known.ensures.ok (record p { known = p.known ++ map known (take c.names.i c.args.names.now) }) (c.names.invariant.built p is)));
      formed = all-more (λ (k : KnownName). IsName k.name) c.args.names.now c.names.i item c.at-item.ensures c.names.invariant.formed
          (subst IsName (c.lend-bytes.ensures ∙ ap (λ (k : KnownName). k.name) c.item.view_is) (name-of-bytes c.lend-bytes.result.bytes.now c.lend-bytes.result.has_20 c.lend-bytes.result.of_bytes));
      count = c.known.ensures.count ∙ c.names.invariant.count;
    }
