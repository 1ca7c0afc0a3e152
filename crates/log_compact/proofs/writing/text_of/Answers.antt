use Rattle.std.proofs.Common.{◌≡◌, ◌∙◌, ℕ, List, map, sym, subst}
use Rattle.batch_codec.specs.Payload.{payload_bytes}
use Rattle.name_map.specs.Added.{payloads_of, AllStand}
use Rattle.change_rules.specs.Change.{text_of}
use Rattle.compact_rules.specs.Whole.{whole_change}
use Rattle.log_compact.specs.Compacts.{whole_list, batch_of}
use Rattle.log_compact.proofs.FromLog.{some-whole, some-payloads, whole-texts, ok-map}
use Rattle.log_compact.proofs.writing.text_of.Goals as goal

pub whole_payload-requires : goal.whole_payload-requires
whole_payload-requires c =
    let r = c.requires in let n = c.batch_count.ensures in let f = c.if-batch_count-eq0.false in
    let stand = subst (λ (l : List ℕ). AllStand l r.0) (sym c.bytes.ensures.bytes) r.2 in
    let found = some-whole c.args.tables.now c.bytes.result.now r.0 r.1 stand (some-payloads c.args.log.now.payloads (payloads_of r.0) (λ z. f (n ∙ z)) r.3) in
    (r.0, found.0, found.1)

pub returns : goal.returns
returns c = λ added w t s e hold.
    let n = c.batch_count.ensures in let f = c.if-batch_count-eq0.false in
    let some = some-payloads c.args.log.now.payloads (payloads_of added) (λ z. f (n ∙ z)) e in
    ok-map c.whole_payload.result (λ text. text.items ≡ payload_bytes (whole_change (payloads_of added) w)) (λ text. batch_of text.items ≡ map text_of (whole_list (payloads_of added) w))
    (λ text is. whole-texts (payloads_of added) w text.items some is)
    (c.whole_payload.ensures added w (record { tables_of = t; stand = subst (λ (l : List ℕ). AllStand l added) (sym c.bytes.ensures.bytes) s; hold = hold; some = some }))
