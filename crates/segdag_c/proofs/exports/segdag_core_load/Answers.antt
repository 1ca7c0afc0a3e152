use Rattle.std.proofs.Common.{Some, Ok, Err, refl, sym, ◌∙◌, ap}
use Rattle.segdag_c.specs.declared.codes.Failure.TheVariants.{Argument, Memory}
use Rattle.segdag_c.proofs.Telling.{loaded, loads, none-held, not-loaded}
use Rattle.segdag_c.proofs.exports.segdag_core_load.Goals as goal

pub returns-then-cache-eq0 : goal.returns-then-cache-eq0
returns-then-cache-eq0 g c =
    let none = none-held c.args.slot.now.handle.held (sym c.args.slot.now.agrees ∙ c.if-slot.false) in
    loads c.args.slot.now.handle.held c.args.slot.now.handle.held c.args.bytes.now c.args.cache g.disk.told c.code_of-then-cache-eq0.result (Err Argument) none c.code_of-then-cache-eq0.ensures (c.if-cache-eq0.true, none)

pub returns-in-Ok-new : goal.returns-in-Ok-new
returns-in-Ok-new g c =
    let none = none-held c.args.slot.now.handle.held (sym c.args.slot.now.agrees ∙ c.if-slot.false) in
    let new = c.put.new.slot.handle.held in
    loads c.args.slot.now.handle.held new c.args.bytes.now c.args.cache g.disk.told 0 (Ok tt) none refl
    (loaded c.args.bytes.now c.args.cache g.disk.told new c.in-Ok.held (c.put.ensures ∙ ap Some c.in-Ok-new.ensures.ok) c.in-Ok.ensures.opened)

pub returns-in-Ok : goal.returns-in-Ok
returns-in-Ok g c =
    let none = none-held c.args.slot.now.handle.held (sym c.args.slot.now.agrees ∙ c.if-slot.false) in
    loads c.args.slot.now.handle.held c.args.slot.now.handle.held c.args.bytes.now c.args.cache g.disk.told c.code_of-in-Err-new.result (Err Memory) none c.code_of-in-Err-new.ensures (tt, none)

pub returns : goal.returns
returns g c =
    let none = none-held c.args.slot.now.handle.held (sym c.args.slot.now.agrees ∙ c.if-slot.false) in
    loads c.args.slot.now.handle.held c.args.slot.now.handle.held c.args.bytes.now c.args.cache g.disk.told c.code_of-in-Err.result (Err c.in-Err.failure) none c.code_of-in-Err.ensures
    (not-loaded c.args.bytes.now c.args.cache g.disk.told c.args.slot.now.handle.held c.in-Err.failure c.in-Err.ensures.rightly none)
