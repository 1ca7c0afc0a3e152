use Rattle.std.proofs.Common.{◌∙◌, arith}
use Rattle.segment_codec.proofs.PastNumbers.{past-last-at, past-more-at, behind-so}
use Rattle.segment_codec.proofs.passing.behind_short.Goals as goal

pub returns-in-len1-up-clause-rest : goal.returns-in-len1-up-clause-rest
returns-in-len1-up-clause-rest c =
    let bytes = c.args.bytes.now in
    behind-so bytes 1 (past-last-at bytes 0 c.in-len1-up.len_at_least c.if-one-lt128.true)

pub returns-in-len2-up-clause-rest : goal.returns-in-len2-up-clause-rest
returns-in-len2-up-clause-rest c =
    let bytes = c.args.bytes.now in let len = c.in-len2-up.len_at_least in
    behind-so bytes 2 (past-more-at bytes 0 (omega (arith, len)) c.if-one-lt128.false ∙ past-last-at bytes 1 len c.if-two-lt128.true)

pub returns-in-len3-up-clause-rest : goal.returns-in-len3-up-clause-rest
returns-in-len3-up-clause-rest c =
    let bytes = c.args.bytes.now in let len = c.in-len3-up.len_at_least in
    let two = past-more-at bytes 1 (omega (arith, len)) c.if-two-lt128.false ∙ past-last-at bytes 2 len c.if-three-lt128.true in
    behind-so bytes 3 (past-more-at bytes 0 (omega (arith, len)) c.if-one-lt128.false ∙ two)

pub returns-in-len4-up-clause-rest : goal.returns-in-len4-up-clause-rest
returns-in-len4-up-clause-rest c =
    let bytes = c.args.bytes.now in let len = c.in-len4-up.len_at_least in
    let three = past-more-at bytes 2 (omega (arith, len)) c.if-three-lt128.false ∙ past-last-at bytes 3 len c.if-four-lt128.true in
    let two = past-more-at bytes 1 (omega (arith, len)) c.if-two-lt128.false ∙ three in
    behind-so bytes 4 (past-more-at bytes 0 (omega (arith, len)) c.if-one-lt128.false ∙ two)
