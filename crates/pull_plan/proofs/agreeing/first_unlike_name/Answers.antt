use Rattle.std.proofs.Common.{◌≡◌, ◌∙◌, ◌+◌, Some, length, slice_get, sym, ap, subst, arith}
use Rattle.segment_codec.specs.Record.{Segment}
use Rattle.name_map.specs.Added.{payloads_of}
use Rattle.remote_rules.specs.CloneData.{CloneData, KnownName}
use Rattle.remote_trait.proofs.Items.{ascend-unbroken}
use Rattle.change_rules.specs.Tables.{known_in}
use Rattle.change_rules.specs.Disagree.{name_agrees}
use Rattle.pull_plan.specs.Pulling.{unlike_name}
use Rattle.pull_plan.proofs.StoredBeside.{name-next, name-here, name-past}
use Rattle.pull_plan.proofs.agreeing.first_unlike_name.Goals as goal

pub returns-then-known-below : goal.returns-then-known-below
returns-then-known-below c = λ added t stand.
    let told = c.args.told.now.names in
    let known = known_in (payloads_of added) in
    let k = c.at-known.result.now in
    let at : slice_get told c.names.i ≡ Some k = subst (λ l. slice_get l c.names.i ≡ Some k) (ap (λ (d : CloneData). d.names) c.told.view_is) c.at-known.ensures in
    let id = ap (λ (z : KnownName). z.id) c.known.view_is in
    let le = c.if-known-below.true in
    let first = c.from-first.ensures ∙ c.len.ensures ∙ ap (length {A = Segment}) (ap (λ (d : CloneData). d.segments) c.told.view_is) in
    sym (ap (unlike_name told known c.args.below) (sym first)
    ∙ name-past known told c.args.below c.from-first.result c.names.i (c.names.invariant added t stand) (ascend-unbroken c.args.told.now c.requires.unbroken) k at (omega (arith, le, id)))

pub returns-then-not-is_named_so : goal.returns-then-not-is_named_so
returns-then-not-is_named_so c = λ added t stand.
    let told = c.args.told.now.names in
    let known = known_in (payloads_of added) in
    let k = c.at-known.result.now in
    let at : slice_get told c.names.i ≡ Some k = subst (λ l. slice_get l c.names.i ≡ Some k) (ap (λ (d : CloneData). d.names) c.told.view_is) c.at-known.ensures in
    let id = ap (λ (z : KnownName). z.id) c.known.view_is in
    let lt = c.if-known-below.false in
    let first = c.from-first.ensures ∙ c.len.ensures ∙ ap (length {A = Segment}) (ap (λ (d : CloneData). d.segments) c.told.view_is) in
    sym (ap (unlike_name told known c.args.below) (sym first)
    ∙ name-here known told c.args.below c.from-first.result c.names.i (c.names.invariant added t stand) k at (omega (arith, lt, id))
    (ap (λ (z : KnownName). name_agrees known z) (sym c.known.view_is) ∙ sym (c.if-not-is_named_so.ensures added t stand))
    ∙ ap (λ n. Some (c.from-first.result + n)) (sym c.from.ensures))

pub names-preserved : goal.names-preserved
names-preserved c = λ added t stand.
    let told = c.args.told.now.names in
    let known = known_in (payloads_of added) in
    let k = c.at-known.result.now in
    let at : slice_get told c.names.i ≡ Some k = subst (λ l. slice_get l c.names.i ≡ Some k) (ap (λ (d : CloneData). d.names) c.told.view_is) c.at-known.ensures in
    let id = ap (λ (z : KnownName). z.id) c.known.view_is in
    let lt = c.if-known-below.false in
    name-next known told c.args.below c.from-first.result c.names.i (c.names.invariant added t stand) k at (omega (arith, lt, id))
    (ap (λ (z : KnownName). name_agrees known z) (sym c.known.view_is) ∙ sym (c.if-not-is_named_so.ensures added t stand))
