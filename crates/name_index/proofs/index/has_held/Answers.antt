use Rattle.std.proofs.Common.{◌∙◌, refl, sym, subst, true≢false}
use Rattle.std.proofs.lemmas.List.{nil_from_length}
use Rattle.name_index.specs.Index.{Finds}
use Rattle.name_index.specs.Runs.{joined}
use Rattle.name_index.proofs.Indexes.{looked-found, looked-on, looked-end}
use Rattle.name_index.proofs.index.has_held.Goals as goal
use Rattle.name_index.specs.Named.{names_in}

pub returns-then-is_some : goal.returns-then-is_some
returns-then-is_some c = λ held named runs stand is stands.
    let finds = subst (λ name. Finds (joined held) name c.find_in.result) c.name_at-name.ensures (c.find_in.ensures held runs stand) in
    let some = sym c.is_some.ensures ∙ c.if-is_some.true in (
      λ _. looked-found c.args.new.now.at c.args.new.now.bytes.now c.each.rest.now c.in-Some.others.now c.in-Some.entry.now (joined held) named c.find_in.result c.in-Some.ensures.cases.0 finds some
          (c.each.invariant held named runs stand is stands),
      λ _. refl,
    )

pub each-preserved : goal.each-preserved
each-preserved c = λ held named runs stand is stands.
    let finds = subst (λ name. Finds (joined held) name c.find_in.result) c.name_at-name.ensures (c.find_in.ensures held runs stand) in
    let none = sym c.is_some.ensures ∙ c.if-is_some.false in
    looked-on c.args.new.now.at c.args.new.now.bytes.now c.each.rest.now c.in-Some.others.now c.in-Some.entry.now (joined held) named c.find_in.result c.in-Some.ensures.cases.0 finds none
    (c.each.invariant held named runs stand is stands)

pub returns : goal.returns
returns c = λ held named runs stand is stands.
    let none = nil_from_length c.each.rest.now c.in_default.ensures.cases in
    let looked = c.each.invariant held named runs stand is stands in
    (λ no. absurd (true≢false (sym no)), λ common. absurd (looked-end c.args.new.now.at c.args.new.now.bytes.now c.each.rest.now (names_in (joined held)) named none looked common))
