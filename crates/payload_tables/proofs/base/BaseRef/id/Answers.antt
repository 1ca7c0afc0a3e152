use Rattle.std.proofs.Common.{◌≡◌, ◌^◌, ◌+◌, ◌++◌, List, sym, ap, subst, arith}
use Rattle.batch_codec.specs.Payload.{Known}
use Rattle.id_groups.specs.Lists.{IsIn}
use Rattle.name_index.specs.Index.{IsIndexOf}
use Rattle.name_index.specs.declared.entry.Entry.{Entry}
use Rattle.name_map.specs.Map.{IsMapOf}
use Rattle.name_map.specs.Added.{names_from, payloads_of}
use Rattle.change_rules.specs.Tables.{newest, other_names_in}
use Rattle.payload_tables.specs.Bases.{stored_in}
use Rattle.payload_tables.specs.Kept.{PlainTables, PlainOthers}
use Rattle.payload_tables.proofs.Stored.{others-index, others-named, id-front, id-none, place-is}
use Rattle.payload_tables.proofs.base.BaseRef.id.Goals as goal

pub returns-then-is_some : goal.returns-then-is_some
returns-then-is_some c = λ added b.
    let s = c.args.self.now in
    id-front s.bytes.now s.tables.now s.others.now s.below added b c.args.name.bytes.now c.id-known.result (sym c.if-is_some.ensures)
    (c.id-known.ensures.id (added ++ b.behind) (subst (λ (t : PlainTables). IsMapOf t.names (added ++ b.behind)) (sym c.tables.view_is) b.tables_of.names) b.stand)

pub returns-in_err-place : goal.returns-in_err-place
returns-in_err-place c = λ added b.
    let s = c.args.self.now in
    id-none s.bytes.now s.tables.now s.others.now s.below added b c.args.name.bytes.now c.id-known.result c.from_residual.result (sym c.if-is_some.ensures) c.from_residual.ensures
    (c.id-known.ensures.id (added ++ b.behind) (subst (λ (t : PlainTables). IsMapOf t.names (added ++ b.behind)) (sym c.tables.view_is) b.tables_of.names) b.stand)
    (c.in_err-place.ensures (names_from s.others.now.names (other_names_in (newest (payloads_of added)))) (subst (λ (runs : List (List Entry)). IsIndexOf runs (names_from s.others.now.names (other_names_in (newest (payloads_of added))))) (sym c.index.ensures) (others-index s.bytes.now s.tables.now s.others.now s.below added b))
    (others-named s.bytes.now s.tables.now s.others.now s.below added b))

pub overflow_sub-place : goal.overflow_sub-place
overflow_sub-place c =
    let s = c.args.self.now in let added = c.requires.0 in let b = c.requires.1 in
    let at = place-is s.bytes.now s.tables.now s.others.now s.below added b c.args.name.bytes.now c.in_ok-place.place
    (c.in_ok-place.ensures (names_from s.others.now.names (other_names_in (newest (payloads_of added)))) (subst (λ (runs : List (List Entry)). IsIndexOf runs (names_from s.others.now.names (other_names_in (newest (payloads_of added))))) (sym c.index.ensures) (others-index s.bytes.now s.tables.now s.others.now s.below added b))
    (others-named s.bytes.now s.tables.now s.others.now s.below added b)) in
    let e = at.1 in let v = ap (λ (o : PlainOthers). o.names) c.others.view_is in omega (arith, e, v)

pub other-requires : goal.other-requires
other-requires c =
    let s = c.args.self.now in let added = c.requires.0 in let b = c.requires.1 in
    let at = place-is s.bytes.now s.tables.now s.others.now s.below added b c.args.name.bytes.now c.in_ok-place.place
    (c.in_ok-place.ensures (names_from s.others.now.names (other_names_in (newest (payloads_of added)))) (subst (λ (runs : List (List Entry)). IsIndexOf runs (names_from s.others.now.names (other_names_in (newest (payloads_of added))))) (sym c.index.ensures) (others-index s.bytes.now s.tables.now s.others.now s.below added b))
    (others-named s.bytes.now s.tables.now s.others.now s.below added b)) in
    let e = at.1 in let f = at.2 in let v = ap (λ (o : PlainOthers). o.names) c.others.view_is in omega (arith, e, v, f)

pub returns : goal.returns
returns c = λ added b.
    let s = c.args.self.now in
    let at = place-is s.bytes.now s.tables.now s.others.now s.below added b c.args.name.bytes.now c.in_ok-place.place
    (c.in_ok-place.ensures (names_from s.others.now.names (other_names_in (newest (payloads_of added)))) (subst (λ (runs : List (List Entry)). IsIndexOf runs (names_from s.others.now.names (other_names_in (newest (payloads_of added))))) (sym c.index.ensures) (others-index s.bytes.now s.tables.now s.others.now s.below added b))
    (others-named s.bytes.now s.tables.now s.others.now s.below added b)) in
    let e = at.1 in let f = at.2 in let v = ap (λ (o : PlainOthers). o.names) c.others.view_is in
    let r = c.other.ensures in
    let same : c.other.result ≡ 2 ^ 56 + at.0 = omega (arith, e, v, r) in
    (omega (arith, same, f), subst (λ n. IsIn {X = Known} (record { id = n; name = c.args.name.bytes.now }) (stored_in added)) (sym same) at.3)
