use Rattle.std.proofs.Common.{sym, subst, arith}
use Rattle.segment_codec.proofs.Numbers.{some_is}
use Rattle.name_index.specs.Index.{IsIndexOf}
use Rattle.name_map.specs.Added.{known_of, named_of}
use Rattle.name_map.specs.Map.{PlainMap, IsIdOf}
use Rattle.name_map.proofs.Answers.{id-missing, reads, id-below, id-above}
use Rattle.name_map.proofs.Standing.{names-stand}
use Rattle.name_map.proofs.map.NameMap.id.Goals as goal

pub returns-in_err-place-clause-id : goal.returns-in_err-place-clause-id
returns-in_err-place-clause-id c = λ added is stand.
    let index = subst (λ (m : PlainMap). IsIndexOf m.index (named_of added)) (sym c.self.view_is) is.index in
    let none = c.in_err-place.ensures (named_of added) index (names-stand c.args.bytes.now added is.follow stand) in
    subst (IsIdOf (known_of added) c.args.name.bytes.now c.args.below) (sym c.from_residual.ensures) (id-missing added c.args.name.bytes.now c.args.below none)

pub returns-in_err-id-clause-id : goal.returns-in_err-id-clause-id
returns-in_err-id-clause-id c = λ added is stand.
    let index = subst (λ (m : PlainMap). IsIndexOf m.index (named_of added)) (sym c.self.view_is) is.index in
    let found = c.in_ok-place.ensures (named_of added) index (names-stand c.args.bytes.now added is.follow stand) in
    let r = reads c.args.bytes.now added c.args.name.bytes.now c.in_ok-place.place is.follow stand found in
    let some = c.in_err-id.ensures r.id r.small r.behind r.within r.is in
    absurd (cc some)

pub returns-then-number-below-clause-id : goal.returns-then-number-below-clause-id
returns-then-number-below-clause-id c = λ added is stand.
    let index = subst (λ (m : PlainMap). IsIndexOf m.index (named_of added)) (sym c.self.view_is) is.index in
    let found = c.in_ok-place.ensures (named_of added) index (names-stand c.args.bytes.now added is.follow stand) in
    let r = reads c.args.bytes.now added c.args.name.bytes.now c.in_ok-place.place is.follow stand found in
    let same = some_is c.in_ok-id.id r.id (c.in_ok-id.ensures r.id r.small r.behind r.within r.is) in
    let below = c.if-number-below.true in let number = c.number.ensures.number in
    id-below added c.args.name.bytes.now c.args.below c.in_ok-id.id r.id same (omega (arith, below, number)) r.is_known

pub returns-else-number-below-clause-id : goal.returns-else-number-below-clause-id
returns-else-number-below-clause-id c = λ added is stand.
    let index = subst (λ (m : PlainMap). IsIndexOf m.index (named_of added)) (sym c.self.view_is) is.index in
    let found = c.in_ok-place.ensures (named_of added) index (names-stand c.args.bytes.now added is.follow stand) in
    let r = reads c.args.bytes.now added c.args.name.bytes.now c.in_ok-place.place is.follow stand found in
    let same = some_is c.in_ok-id.id r.id (c.in_ok-id.ensures r.id r.small r.behind r.within r.is) in
    let above = c.if-number-below.false in let number = c.number.ensures.number in
    id-above added c.args.name.bytes.now c.args.below r.id is.index.distinct (omega (arith, above, number, same)) r.is_known
