use Rattle.std.proofs.Common.{◌∙◌, ◌+◌, ◌++◌, ◌∷◌, [], List, map, length, refl, ap, arith}
use Rattle.std.proofs.lemmas.List.{length-drop}
use Rattle.name_index.specs.declared.entry.Entry.{Entry}
use Rattle.name_index.specs.Named.{named_in}
use Rattle.name_index.specs.Runs.{entry_of}
use Rattle.name_index.proofs.Thinning.{list-turn, list-end}
use Rattle.name_index.proofs.run.entries_of.Goals as goal

pub names-init : goal.names-init
names-init c = (refl, λ n size. (n, size, ap (λ (es : List Entry). es ++ map entry_of (named_in n c.args.stretch.now.at c.args.stretch.now.bytes.now)) c.in_ok-entries.ensures.items))

pub overflow_add-place : goal.overflow_add-place
overflow_add-place c = let fits = c.names.invariant.0 in let many = c.names-test.true in let room = c.requires in omega (arith, fits, many, room)

pub names-preserved : goal.names-preserved
names-preserved c =
    let fits = c.names.invariant.0 in
    let many = c.names-test.true in
    let size = ap length c.split_at.ensures.back ∙ length-drop 20 c.names.rest.now in (
      omega (arith, fits, many, size),
      λ n whole.
          let i = c.names.invariant.1 n whole in
          let named = map entry_of (named_in n c.args.stretch.now.at c.args.stretch.now.bytes.now) in
          let t = list-turn c.names.entries.items named c.names.place c.names.rest.now c.split_at.result.0.now c.split_at.result.1.now i.0 many i.1 c.split_at.ensures.front c.split_at.ensures.back i.2 in
          (t.0, t.1, ap (λ (es : List Entry). es ++ map entry_of (named_in t.0 (c.names.place + 20) c.split_at.result.1.now)) (c.in_ok-push.ensures.items ∙ ap (λ f. c.names.entries.items ++ record { front = f; place = c.names.place } ∷ []) c.front_of_name-front.ensures) ∙ t.2),
    )

pub returns : goal.returns
returns c = λ n whole.
    let i = c.names.invariant.1 n whole in
    let few = c.names-test.false in
    list-end c.names.entries.items _ c.names.place c.names.rest.now i.0 (omega (arith, few)) i.1 i.2
