-- Who clones an honest remote never refuses what it tells.
use Rattle.std.proofs.Common.{◌≡◌, ◌+◌, not, cond, ℕ, Bool, true, false, List, [], ◌∷◌, length, map, filter, flat_map, nat_eq, nat_le, None, refl, sym, ap, ap₂, subst, subst₂, ◌∙◌, arith, append-nil, zero-le}
use Rattle.std.specs.List.{list_all, range_with_len}
use Rattle.std.proofs.lemmas.List.{length-map}
use Rattle.std.proofs.lemmas.Bool.{le-leb}
use Rattle.id_groups.specs.Lists.{IsIn, is_in, AreAllIn, AreDistinct}
use Rattle.id_groups.specs.Name.{Name}
use Rattle.id_groups.proofs.Listing.{in-all-true, or_left, both_true}
use Rattle.commit_graph.specs.World.{World, IsNamedWorld, names_of, rows_of}
use Rattle.segment_codec.specs.Record.{Segment}
use Rattle.segment_codec.specs.Table.{Follow}
use Rattle.segment_codec.specs.Turns.{place_behind}
use Rattle.batch_codec.specs.Payload.{Known}
use Rattle.remote_rules.specs.CloneData as clones
use Rattle.remote_rules.specs.CloneData.{KnownName, first_false, first_some, first_broken, segments_fit, names_fit, heads_fit, head_ids, has_needed_names}
use Rattle.remote_rules.specs.Known.{master_alone}
use Rattle.remote_rules.specs.Honest.{clone_data_of, named_ids, stored_ids, heads_of, master_segments}
use Rattle.change_rules.proofs.Lawful.{history-distinct}
use Rattle.change_rules.proofs.Alone.{segments-plain, segments-maximal}
use Rattle.change_rules.proofs.Cloned.{Rises, as_known, kept, ids-rise, follow, highest-rise, segment-known, is-there, in-filter, in-range, filter-back, same-merge, rises-lower, rises-in}
use Rattle.change_rules.proofs.Unbroken.{none-false, segments-fit, names-fit, heads-fit, picked-length}

pub behind-all : (place end : ℕ) (ss : List Segment) → Follow place end ss → place_behind place ss ≡ end
behind-all place end [] f = f
behind-all place end (s ∷ ss) f = behind-all (s.high + 1) end ss f.2

pub same-ids : (names : List KnownName) → map (λ (k : Known). k.id) (as_known names) ≡ map (λ (k : KnownName). k.id) names
same-ids [] = refl
same-ids (k ∷ names) = ap (λ l. k.id ∷ l) (same-ids names)

pub rises-filter : (f : ℕ → Bool) (least end : ℕ) (ids : List ℕ) → Rises least end ids → Rises least end (filter f ids)
rises-filter f least end [] h = tt
rises-filter f least end (id ∷ ids) h = by_test (f id) (rises-filter f (id + 1) end ids h.2)
  where
    by_test : (b : Bool) → Rises (id + 1) end (filter f ids) → Rises least end (cond b (id ∷ filter f ids) (filter f ids))
    by_test true r = (h.0, h.1, r)
    by_test false r = rises-lower least (id + 1) end (filter f ids) (let a = h.0 in omega (arith, a)) r

all-there : (xs ys : List ℕ) → AreAllIn xs ys → list_all (λ id. is_in nat_eq id ys) xs ≡ true
all-there [] ys h = refl
all-there (x ∷ xs) ys h = both_true (is_in nat_eq x ys) (list_all (λ id. is_in nat_eq id ys) xs) (is-there x ys h.0) (all-there xs ys h.1)

module _ (r : World Name) (named : IsNamedWorld (master_alone r)) where
  distinct : AreDistinct (names_of r.master)
  distinct = subst (λ l. AreDistinct (names_of l)) (append-nil r.master) (history-distinct [] (rows_of (master_alone r)) named.world).0

  rising : Rises 0 (length r.master) (stored_ids r)
  rising = ids-rise r named

  heads-rise : Rises 0 (length r.master) (head_ids (master_segments r))
  heads-rise = rises-filter (λ id. not (is_in nat_eq id (flat_map (λ (s : Segment). s.parents) (master_segments r)))) 0 (length r.master) (map (λ (s : Segment). s.high) (master_segments r)) (highest-rise r named)

  head-stored : (h : ℕ) → IsIn h (head_ids (master_segments r)) → IsIn h (stored_ids r)
  head-stored h i =
      let high = filter-back _ h (map (λ (s : Segment). s.high) (master_segments r)) i in
      let below = (rises-in 0 (length r.master) (map (λ (s : Segment). s.high) (master_segments r)) (highest-rise r named) h high).1 in
      in-filter (kept r named) h (range_with_len 0 (length r.master)) (in-range 0 (length r.master) h zero-le (omega (arith, below)))
      (or_left (is_in nat_eq h (map (λ (s : Segment). s.high) (master_segments r))) _ (is-there h (map (λ (s : Segment). s.high) (master_segments r)) high))

  needed : has_needed_names (clone_data_of r) ≡ true
  needed = in-all-true (λ (s : Segment). list_all (λ id. is_in nat_eq id (map (λ (k : KnownName). k.id) (named_ids r (stored_ids r)))) (s.high ∷ clones.merge_parents s.parents)) (master_segments r) (λ s i.
      let known = segment-known r named s i in
      all-there (s.high ∷ clones.merge_parents s.parents) (map (λ (k : KnownName). k.id) (named_ids r (stored_ids r))) (
        subst (IsIn s.high) (same-ids (named_ids r (stored_ids r))) known.0,
        subst₂ AreAllIn (sym (same-merge s.parents)) (same-ids (named_ids r (stored_ids r))) known.1,
      ))

  enough : nat_le (length (head_ids (master_segments r))) (length (heads_of r)) ≡ true
  enough = le-leb _ _ (let e = length-map (named_ids r (head_ids (master_segments r))) (λ (k : KnownName). k.name) ∙ picked-length r distinct 0 (head_ids (master_segments r)) heads-rise in omega (arith, e))

  pub never-broken : first_broken (clone_data_of r) ≡ None
  never-broken =
      let headed = length (master_segments r) + length (named_ids r (stored_ids r)) in
      let place = behind-all 0 (length r.master) (master_segments r) (follow r named) in
      ap₂ first_some (none-false 0 (segments_fit 0 (master_segments r)) (segments-fit (length r.master) (master_segments r) (follow r named) (segments-plain r named) (segments-maximal r named)))
      (ap₂ first_some (ap (λ n. first_false (length (master_segments r)) (names_fit n [] (named_ids r (stored_ids r)))) place ∙ none-false (length (master_segments r)) (names_fit (length r.master) [] (named_ids r (stored_ids r))) (names-fit r distinct (stored_ids r) rising))
      (ap₂ first_some (none-false headed (has_needed_names (clone_data_of r) ∷ []) (needed, tt))
      (ap₂ first_some (none-false headed (heads_fit (named_ids r (stored_ids r)) (head_ids (master_segments r)) (heads_of r)) (heads-fit r distinct (stored_ids r) (head_ids (master_segments r)) 0 rising heads-rise head-stored))
      (none-false (headed + length (heads_of r)) (nat_le (length (head_ids (master_segments r))) (length (heads_of r)) ∷ []) (enough, tt)))))
