-- Codes of what a remote tells, for types whose contracts see it as plain data.
use Rattle.std.specs.Prelude.{ℕ, List, refl}
use Rattle.std.specs.Coded.{Coded, code_by, coded×, coded_list, coded_ℕ}
use Rattle.id_groups.specs.Name.{Name}
use Rattle.segment_codec.specs.Record.{Segment}
use Rattle.remote_rules.specs.CloneData.{CloneData, KnownName}
use Rattle.remote_rules.specs.Known.{Path}

abbrev pub coded_name : Coded Name
coded_name = coded_list coded_ℕ

abbrev pub coded_segment : Coded Segment
coded_segment = code_by (ℕ × (ℕ × (ℕ × List ℕ))) (coded× coded_ℕ (coded× coded_ℕ (coded× coded_ℕ (coded_list coded_ℕ))))
    (λ s. (s.low, (s.high, (s.level, s.parents)))) (λ p. record { low = p.0; high = p.1.0; level = p.1.1.0; parents = p.1.1.1 }) (λ _. refl)

abbrev pub coded_known : Coded KnownName
coded_known = code_by (ℕ × Name) (coded× coded_ℕ coded_name) (λ k. (k.id, k.name)) (λ p. record { id = p.0; name = p.1 }) (λ _. refl)

abbrev pub coded_clone : Coded CloneData
coded_clone = code_by (List Segment × (List KnownName × List Name)) (coded× (coded_list coded_segment) (coded× (coded_list coded_known) (coded_list coded_name)))
    (λ c. (c.segments, (c.names, c.heads))) (λ p. record { segments = p.0; names = p.1.0; heads = p.1.1 }) (λ _. refl)

abbrev pub coded_path : Coded Path
coded_path = code_by (Name × ℕ) (coded× coded_name coded_ℕ) (λ p. (p.from, p.back)) (λ p. record { from = p.0; back = p.1 }) (λ _. refl)
