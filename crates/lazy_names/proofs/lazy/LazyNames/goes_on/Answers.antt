use Rattle.std.proofs.Common.{sym, true≢false}
use Rattle.lazy_names.proofs.lazy.LazyNames.goes_on.Goals as goal

pub returns-in-Some : goal.returns-in-Some
returns-in-Some c = (λ t. absurd (true≢false (sym t)), λ f. absurd (f.2 c.in-Some.field-0 c.in-Some.ensures))
