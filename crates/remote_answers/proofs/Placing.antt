-- Steps along first parents, within a segment and from its lowest id.
use Rattle.std.proofs.Common.{◌≡◌, ℕ, ◌-◌, ◌<◌, ◌≤◌, inl, List, [], ◌∷◌, Some, sym, ap, ◌∙◌, arith}
use Rattle.id_groups.specs.Lists.{IsIn}
use Rattle.commit_graph.specs.Graph.{first_of_list}
use Rattle.segment_codec.specs.Record.{Segment}
use Rattle.segment_codec.specs.Table.{IsHeld, IsLawful, parents_at}
use Rattle.segment_codec.proofs.Tables.{segment-in, lawful-at, parents-low, parents-over, parent-below}
use Rattle.remote_answers.specs.Lines.{IsPlace}
use Rattle.remote_answers.specs.declared.line.Place.{Place}

first-in : (xs : List ℕ) (x : ℕ) → first_of_list xs ≡ Some x → IsIn x xs
first-in [] x h = cc
first-in (y ∷ xs) x h = let same : y ≡ x = cc in inl (sym same)

module _ (flats : List Segment) (lawful : IsLawful flats) (place : Place) (p : IsPlace flats place) where
  pub within-segment : place.low < place.at → (first_of_list (parents_at flats place.at) ≡ Some (place.at - 1)) × IsPlace flats (record { at = place.at - 1; low = place.low; first = place.first })
  within-segment lt =
      let f = segment-in flats place.at p.segment p.holds in
      let is = p.low in let hi = f.1.1 in (
        ap first_of_list (parents-over flats lawful p.segment f.0 place.at (omega (arith, lt, is)) hi),
        record { segment = p.segment; holds = lawful-at flats lawful (place.at - 1) p.segment f.0 (omega (arith, lt, is), omega (arith, hi)); low = p.low; first = p.first },
      )

  pub from-lowest : place.at ≤ place.low → first_of_list (parents_at flats place.at) ≡ place.first
  from-lowest le =
      let f = segment-in flats place.at p.segment p.holds in
      let lo = f.1.0 in let is = p.low in
      let same : place.at ≡ p.segment.low = omega (arith, le, lo, is) in
      ap (λ z. first_of_list (parents_at flats z)) same ∙ ap first_of_list (parents-low flats lawful p.segment f.0) ∙ sym p.first

  pub parent-held : (x : ℕ) → first_of_list (parents_at flats place.at) ≡ Some x → IsHeld flats x
  parent-held x e = (parent-below flats lawful place.at x (first-in (parents_at flats place.at) x e)).1
