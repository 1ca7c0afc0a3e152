use Rattle.film_rows.proofs.Filming.{film-grows}
use Rattle.film_rows.proofs.two_moments_grow.Goals as goal

pub returns : goal.returns
returns c = film-grows
