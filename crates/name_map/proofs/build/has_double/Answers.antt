use Rattle.std.proofs.Common.{◌∙◌, List, length, get_or, take_all, ap, subst, arith}
use Rattle.std.specs.List.{AllByRecursion}
use Rattle.std.proofs.lemmas.List.{length-map}
use Rattle.name_map.specs.declared.build.OtherNames.{OtherNames}
use Rattle.name_map.specs.Added.{Placed, known_of}
use Rattle.name_map.specs.Build.{AreUnknown, others_of}
use Rattle.name_map.proofs.Building.{placed-at, stands-in, payload-in}
use Rattle.name_map.proofs.build.has_double.Goals as goal

-- what a read beyond the end would give
abbrev none : OtherNames
none = record { place = 0; count = 0; after = 0 }

pub returns-then-has_known-clause-double : goal.returns-then-has_known-clause-double
returns-then-has_known-clause-double c = λ added is stand e _.
    let i = c.payloads.other-index in
    let lt = c.payloads-test.true in
    let r = placed-at (AreUnknown (known_of added)) added i (let size = ap (length {A = OtherNames}) e in omega (arith, lt, size, length-map added others_of)) in
    (r.here, r.is_in, c.has_known.ensures.met added r.here is stand (stands-in c.args.bytes.now added stand r.here r.is_in) (payload-in 0 added is.follow r.here r.is_in) (ap (λ (l : List OtherNames). get_or l i none) e ∙ r.get none) c.if-has_known.true)

pub payloads-preserved : goal.payloads-preserved
payloads-preserved c = λ added is stand e.
    let i = c.payloads.other-index in
    let lt = c.payloads-test.true in
    let r = placed-at (AreUnknown (known_of added)) added i (let size = ap (length {A = OtherNames}) e in omega (arith, lt, size, length-map added others_of)) in
    r.more (c.payloads.invariant added is stand e)
    (c.has_known.ensures.unknown added r.here is stand (stands-in c.args.bytes.now added stand r.here r.is_in) (payload-in 0 added is.follow r.here r.is_in) (ap (λ (l : List OtherNames). get_or l i none) e ∙ r.get none) c.if-has_known.false)

pub returns-clause-fit : goal.returns-clause-fit
returns-clause-fit c = λ added is stand e _.
    let i = c.payloads.other-index in
    let le = c.payloads-test.false in
    subst (λ (l : List Placed). AllByRecursion (AreUnknown (known_of added)) l) (take_all i added (let size = ap (length {A = OtherNames}) e in omega (arith, le, size, length-map added others_of)))
    (c.payloads.invariant added is stand e)
