use Rattle.std.proofs.Common.{◌∙◌, [], refl, sym, Result, Ok, Err}
use Rattle.std.specs.Prelude.{OnErr}
use Rattle.std.proofs.lemmas.List.{append-nil}
use Rattle.high_segments.proofs.Keeping.{front-parts}
use Rattle.high_segments.proofs.kept.KeptLevel.add.Goals as goal

on-err : {X E : Type 0} (r : Result X E) {P : Type 0} → P → OnErr r P
on-err (Ok x) h = tt
on-err (Err e) h = h

pub returns-in_err-extend_from_slice-clause-front : goal.returns-in_err-extend_from_slice-clause-front
returns-in_err-extend_from_slice-clause-front c =
    let l = c.self.inside in
    on-err c.from_residual.result
    (front-parts c.args.self.now l.level l.end l.grouped l.count l.groups.items l.groups.items l.bytes.items c.extend_from_slice.new.self.items [] c.self.view_is refl
    (c.in_err-extend_from_slice.ensures.items ∙ sym (append-nil l.bytes.items)))

pub returns-in_err-push-clause-front : goal.returns-in_err-push-clause-front
returns-in_err-push-clause-front c =
    let l = c.self.inside in
    on-err c.from_residual-in_err-push.result
    (front-parts c.args.self.now l.level l.end l.grouped l.count l.groups.items c.push.new.self.items l.bytes.items c.extend_from_slice.new.self.items _ c.self.view_is c.in_err-push.ensures.items c.in_ok-extend_from_slice.ensures.items)
