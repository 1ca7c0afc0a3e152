use Rattle.std.proofs.Common.{◌∙◌, arith}
use Rattle.std.proofs.lemmas.List.{get_or_read}
use Rattle.name_map.proofs.Ids.{among-none}
use Rattle.name_map.proofs.part.index_among.Goals as goal
use Rattle.name_map.proofs.part.index_among.Goals.{then-index-ids-via-then-index-ids, then-index-ids-via-else-index-ids+then-number}

pub returns-then-index-ids : goal.returns-then-index-ids
returns-then-index-ids c =
    let k = c.count_less-index.result in
    among-none c.args.number k _ _ c.args.ids.now c.requires c.count_less-index.ensures.less c.count_less-index.ensures.rest
    (λ lt e. elim c.then-index-ids.branch [
      | then-index-ids-via-then-index-ids w ↦ let past = w.if-index-ids.true in omega (arith, lt, past)
      | then-index-ids-via-else-index-ids+then-number w ↦
          let read = get_or_read c.args.ids.now k w.index-ids-index.result lt w.index-ids-index.is 0 in
          w.if-number.true (w.number.ensures.number ∙ read ∙ e)
    ])
