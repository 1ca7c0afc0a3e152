use Rattle.std.proofs.Common.{Some, ap, sym, ◌∙◌}
use Rattle.batch_codec.specs.Reading.{payload_at}
use Rattle.batch_codec.proofs.Payloads.{payload_again}
use Rattle.batch_codec.proofs.whole.BatchRef.over.Goals as goal

pub cut_payload-requires : goal.cut_payload-requires
cut_payload-requires c = let r = c.requires in (r.0, ap payload_at r.2 ∙ payload_again r.0 r.1)

pub unreachable-requires : goal.unreachable-requires
unreachable-requires c = let r = c.requires in c.in_default.ensures.exact r.0 (ap payload_at r.2 ∙ payload_again r.0 r.1)

pub invariant_of-result : goal.invariant_of-result
invariant_of-result c =
    let r = c.requires in
    let read = ap payload_at r.2 ∙ payload_again r.0 r.1 in
    let places = c.in-Some.ensures.places in
    record {
      read = read ∙ ap Some (sym (c.in-Some.ensures.exact r.0 read));
      master_place = places.master;
      levels_place = places.levels;
      known_place = places.known;
      heads_place = places.heads;
      others_place = places.others;
      names_place = places.other_names;
    }

pub returns-clause-payload : goal.returns-clause-payload
returns-clause-payload c = λ p h f. c.in-Some.ensures.exact p (ap payload_at f ∙ payload_again p h)
