-- Payloads as numbers and lists of them. A lent payload keeps the equation of the payload that its bytes spell and the one that
-- its sections show, and what a value keeps must have one proof alone: so it is where both sides have such codes.
use Rattle.std.specs.Prelude.{ℕ, List, refl}
use Rattle.std.specs.Coded.{Coded, code_by, coded×, coded_list, coded_ℕ}
use Rattle.id_groups.specs.Name.{Name}
use Rattle.segment_codec.specs.Record.{Segment}
use Rattle.batch_codec.specs.Payload.{Known, Payload}

-- a name is its bytes
abbrev pub coded_name : Coded Name
coded_name = coded_list coded_ℕ

-- a record is its numbers and its parents
abbrev pub coded_segment : Coded Segment
coded_segment = code_by (ℕ × (ℕ × (ℕ × List ℕ))) (coded× coded_ℕ (coded× coded_ℕ (coded× coded_ℕ (coded_list coded_ℕ))))
    (λ s. (s.low, (s.high, (s.level, s.parents)))) (λ p. record { low = p.0; high = p.1.0; level = p.1.1.0; parents = p.1.1.1 }) (λ _. refl)

-- a known id is the id and its name
abbrev pub coded_known : Coded Known
coded_known = code_by (ℕ × Name) (coded× coded_ℕ coded_name) (λ k. (k.id, k.name)) (λ p. record { id = p.0; name = p.1 }) (λ _. refl)

-- a payload is its five numbers and its six sections
abbrev pub coded_payload : Coded Payload
coded_payload = code_by (((ℕ × ℕ) × (ℕ × (ℕ × ℕ))) × ((List Segment × (List Segment × List Known)) × (List Name × (List Segment × List Name))))
    (coded× (coded× (coded× coded_ℕ coded_ℕ) (coded× coded_ℕ (coded× coded_ℕ coded_ℕ)))
    (coded× (coded× (coded_list coded_segment) (coded× (coded_list coded_segment) (coded_list coded_known))) (coded× (coded_list coded_name) (coded× (coded_list coded_segment) (coded_list coded_name)))))
    (λ p. (((p.version, p.kind), (p.before, (p.after, p.cloned))), ((p.master, (p.levels, p.known)), (p.heads, (p.others, p.other_names)))))
    (λ t. record { version = t.0.0.0; kind = t.0.0.1; before = t.0.1.0; after = t.0.1.1.0; cloned = t.0.1.1.1; master = t.1.0.0; levels = t.1.0.1.0; known = t.1.0.1.1; heads = t.1.1.0; others = t.1.1.1.0; other_names = t.1.1.1.1 })
    (λ _. refl)
