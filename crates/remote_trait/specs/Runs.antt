-- Names that are asked for by one call.
use Rattle.std.specs.Prelude.{ℕ, refl}
use Rattle.std.specs.Coded.{Coded, code_by, coded×, coded_ℕ}
use Rattle.id_groups.specs.Name.{Name}
use Rattle.remote_trait.specs.Codes.{coded_name}

-- so many names, from the commit on that so many first parents lead to from a named one
pub record Run : Type 0 where
  pub from : Name
  pub back : ℕ
  pub count : ℕ

abbrev pub coded_run : Coded Run
coded_run = code_by (Name × (ℕ × ℕ)) (coded× coded_name (coded× coded_ℕ coded_ℕ)) (λ r. (r.from, (r.back, r.count)))
    (λ p. record { from = p.0; back = p.1.0; count = p.1.1 }) (λ _. refl)
