use Rattle.std.proofs.Common.{◌≡◌, ◌∙◌, ◌+◌, ◌&&◌, not, inr, ℕ, Some, take, slice_get, sym, ap, ap₂, subst}
use Rattle.id_groups.specs.Lists.{is_in}
use Rattle.id_groups.specs.Name.{same_name}
use Rattle.name_map.specs.Added.{payloads_of}
use Rattle.remote_rules.specs.CloneData.{CloneData}
use Rattle.change_rules.specs.Tables.{cloned_count}
use Rattle.mirror_set.specs.Fresh.{PlainFresh}
use Rattle.change_parts.specs.declared.fault.PlanFault.TheVariants.{BadRow}
use Rattle.pull_plan.specs.Pulling.{HasSeen, cloned_names, is_told}
use Rattle.rebase_pending.proofs.Stepping.{take-next}
use Rattle.pull_plan.proofs.StoredBeside.{row-next, row-seen, row-other, bad-row}
use Rattle.pull_plan.proofs.agreeing.check_names.Goals as goal

pub returns-then-not-is_new : goal.returns-then-not-is_new
returns-then-not-is_new c = λ added m.
    let told = c.args.fresh.now.cloned in
    let names = c.args.fresh.now.names in
    let cloned = c.cloned-cloned.result in
    let name = c.at-name.result.now in
    let at : slice_get names c.names.i ≡ Some name = subst (λ l. slice_get l c.names.i ≡ Some name) (ap (λ (f : PlainFresh). f.names) c.fresh.view_is) c.at-name.ensures in
    inr (bad-row (payloads_of added) (cloned_count (payloads_of added)) cloned told names (cloned + c.names.i) (c.cloned-cloned.ensures.payloads added m.tables_of)
    (row-seen (cloned_names cloned (payloads_of added)) names told cloned c.names.i (c.names.invariant.fit added m) name at
    (sym c.if-not-is_new.true ∙ c.in_ok-is_new.ensures.new (take c.names.i names) c.names.invariant.seen))
    ∙ ap (λ n. Some (BadRow (cloned + n))) (sym c.from.ensures))

pub returns-then-not-may_be_new : goal.returns-then-not-may_be_new
returns-then-not-may_be_new c = λ added m.
    let told = c.args.fresh.now.cloned in
    let names = c.args.fresh.now.names in
    let cloned = c.cloned-cloned.result in
    let name = c.at-name.result.now in
    let at : slice_get names c.names.i ≡ Some name = subst (λ l. slice_get l c.names.i ≡ Some name) (ap (λ (f : PlainFresh). f.names) c.fresh.view_is) c.at-name.ensures in
    inr (bad-row (payloads_of added) (cloned_count (payloads_of added)) cloned told names (cloned + c.names.i) (c.cloned-cloned.ensures.payloads added m.tables_of)
    (row-other (cloned_names cloned (payloads_of added)) names told cloned c.names.i (c.names.invariant.fit added m) name at
    (sym c.if-not-is_new.false ∙ c.in_ok-is_new.ensures.new (take c.names.i names) c.names.invariant.seen)
    (c.if-not-may_be_new.ensures added m.tables_of m.stand
    ∙ ap₂ (λ (d : CloneData) (n : ℕ). not (is_in same_name name (cloned_names cloned (payloads_of added))) && is_told d n name) (ap (λ (f : PlainFresh). f.cloned) c.fresh.view_is) (ap (λ n. cloned + n) c.from.ensures)))
    ∙ ap (λ n. Some (BadRow (cloned + n))) (sym c.from.ensures))

pub names-preserved : goal.names-preserved
names-preserved c =
    let told = c.args.fresh.now.cloned in
    let names = c.args.fresh.now.names in
    let cloned = c.cloned-cloned.result in
    let name = c.at-name.result.now in
    let at : slice_get names c.names.i ≡ Some name = subst (λ l. slice_get l c.names.i ≡ Some name) (ap (λ (f : PlainFresh). f.names) c.fresh.view_is) c.at-name.ensures in
    record {
      seen = subst (λ l. HasSeen l c.add_seen.new.seen) (sym (take-next names c.names.i name at)) (c.in_ok-is_new.ensures.seen (take c.names.i names) c.names.invariant.seen);
      fit = λ added m. row-next (cloned_names cloned (payloads_of added)) names told cloned c.names.i (c.names.invariant.fit added m) name at
          (sym c.if-not-is_new.false ∙ c.in_ok-is_new.ensures.new (take c.names.i names) c.names.invariant.seen)
          (c.if-not-may_be_new.ensures added m.tables_of m.stand
          ∙ ap₂ (λ (d : CloneData) (n : ℕ). not (is_in same_name name (cloned_names cloned (payloads_of added))) && is_told d n name) (ap (λ (f : PlainFresh). f.cloned) c.fresh.view_is) (ap (λ n. cloned + n) c.from.ensures));
    }
