use Rattle.std.proofs.Common.{◌++◌}
use Rattle.film_rows.proofs.Filming.{film-grows, film-two, log-seen, damage-seen}
use Rattle.film_rows.specs.Films.{turning}
use Rattle.film_rows.proofs.load.Goals as goal

pub returns-clause-log : goal.returns-clause-log
returns-clause-log c = λ ps behind h two.
    let d = c.args.disk.now in
    let grows = film-grows d.change d.moment d.first.items d.later.items ps behind h in
    log-seen d.change c.args.limit d.moment c.load.new.disk.moment d.first.items d.later.items ps behind c.load.result
    ((c.load.ensures.meanwhile (turning d.change ps (ps ++ behind)) grows (film-two d.change d.moment d.first.items d.later.items two h.2)).1 grows)

pub returns-clause-damaged : goal.returns-clause-damaged
returns-clause-damaged c = λ ps behind at h two e.
    let d = c.args.disk.now in
    let grows = film-grows d.change d.moment d.first.items d.later.items ps behind h in
    damage-seen d.change c.args.limit d.moment c.load.new.disk.moment d.first.items d.later.items ps behind c.load.result at e
    ((c.load.ensures.meanwhile (turning d.change ps (ps ++ behind)) grows (film-two d.change d.moment d.first.items d.later.items two h.2)).1 grows)
