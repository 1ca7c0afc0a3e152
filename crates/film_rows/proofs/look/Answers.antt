use Rattle.std.proofs.Common.{◌++◌}
use Rattle.film_rows.proofs.Filming.{film-grows, log-seen, damage-seen, size-seen}
use Rattle.film_rows.specs.Films.{turning}
use Rattle.film_rows.proofs.look.Goals as goal

pub returns-clause-log : goal.returns-clause-log
returns-clause-log c = λ ps behind h.
    let d = c.args.disk.now in
    log-seen d.change c.args.limit d.moment c.peek.new.disk.moment d.first.items d.later.items ps behind c.peek.result
    ((c.peek.ensures.meanwhile (turning d.change ps (ps ++ behind))).1 (film-grows d.change d.moment d.first.items d.later.items ps behind h))

pub returns-clause-damaged : goal.returns-clause-damaged
returns-clause-damaged c = λ ps behind at h e.
    let d = c.args.disk.now in
    damage-seen d.change c.args.limit d.moment c.peek.new.disk.moment d.first.items d.later.items ps behind c.peek.result at e
    ((c.peek.ensures.meanwhile (turning d.change ps (ps ++ behind))).1 (film-grows d.change d.moment d.first.items d.later.items ps behind h))

pub returns-clause-too_large : goal.returns-clause-too_large
returns-clause-too_large c = λ ps behind size h e.
    let d = c.args.disk.now in
    size-seen d.change c.args.limit d.moment c.peek.new.disk.moment d.first.items d.later.items ps behind c.peek.result size e
    ((c.peek.ensures.meanwhile (turning d.change ps (ps ++ behind))).1 (film-grows d.change d.moment d.first.items d.later.items ps behind h))
