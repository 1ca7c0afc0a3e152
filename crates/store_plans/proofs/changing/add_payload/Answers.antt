use Rattle.std.proofs.Common.{◌+◌, [], ap, subst, arith, length, length-append, sym}
use Rattle.change_rules.specs.Lawful.{MayFollow}
use Rattle.batch_codec.specs.Lent.{payload_of}
use Rattle.name_map.specs.Added.{AllStand, payloads_of}
use Rattle.payload_tables.specs.Kept.{AreTablesOf}
use Rattle.store_plans.specs.Changes.{added_behind}
use Rattle.store_plans.proofs.FlushParts.{count-added, behind-is, few-payloads}
use Rattle.store_plans.proofs.changing.add_payload.Goals as goal

pub overflow_add-payloads : goal.overflow_add-payloads
overflow_add-payloads c = let f = few-payloads c.args.log.now c.args.payload.now c.requires.fits in let e = c.batch_count-payloads.ensures in omega (arith, f, e)

pub over-batch-requires : goal.over-batch-requires
over-batch-requires c = let r = c.requires.lawful in (r.1, r.3.whole, r.4)

pub add_lawful-requires-clause-lawful : goal.add_lawful-requires-clause-lawful
add_lawful-requires-clause-lawful c =
    let r = c.requires.lawful in
    let same = c.over-batch.ensures.payload r.1 r.3.whole r.4 in
    (r.0, r.2.tables_of, subst (λ b. AllStand b r.0) (sym c.bytes-bytes.ensures.bytes) r.2.stand, subst (MayFollow (payloads_of r.0)) (sym same) r.3)

pub with_others-requires-clause-tables : goal.with_others-requires-clause-tables
with_others-requires-clause-tables c =
    let r = c.requires.lawful in
    let same = c.over-batch.ensures.payload r.1 r.3.whole r.4 in
    (_, c.in_ok-others.ensures.added r.0 r.2.tables_of (subst (λ b. AllStand b r.0) (sym c.bytes-bytes.ensures.bytes) r.2.stand) (subst (MayFollow (payloads_of r.0)) (sym same) r.3))

pub returns-clause-added : goal.returns-clause-added
returns-clause-added c = λ added last v m e.
    let same = c.over-batch.ensures.payload last m.whole e in
    let n = c.batch_count-payloads.ensures in let l = count-added c.args.log.now c.args.tables.now added v in
    let more = length-append added (added_behind c.args.log.now [] last) in
    let is = behind-is c.args.log.now added last (payload_of c.over-batch.result) (length c.bytes-bytes.result.now + 8) (ap (λ b. length b + 8) c.bytes-bytes.ensures.bytes) same in
    let tables = subst (AreTablesOf c.add_lawful.new.self) is (c.in_ok-others.ensures.added added v.tables_of (subst (λ b. AllStand b added) (sym c.bytes-bytes.ensures.bytes) v.stand) (subst (MayFollow (payloads_of added)) (sym same) m)) in
    (tables, c.with_others.ensures (added_behind c.args.log.now added last) tables (omega (arith, n, l, more)))
