use Rattle.std.proofs.Common.{[], ◌∷◌}
use Rattle.film_rows.specs.Films.{one_payload, two_payloads}
use Rattle.film_rows.proofs.Filming.{film-grows, one-goes-on}
use Rattle.film_rows.proofs.a_film.Goals as goal

pub returns-clause-logs : goal.returns-clause-logs
returns-clause-logs c = one-goes-on

pub returns-clause-grows : goal.returns-clause-grows
returns-clause-grows c = film-grows 1 0 one_payload two_payloads ((170 ∷ []) ∷ []) ((187 ∷ []) ∷ []) one-goes-on
