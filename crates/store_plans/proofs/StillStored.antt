-- What the newest world has of the others of an older one is stored there: a commit whose id the older world hasn't came with a
-- payload that names it.
use Rattle.std.proofs.Common.{◌≡◌, ◌≢◌, ◌+◌, ⊎_elim, List, [], ◌++◌, length, flat_map, Some, sym, ap, subst, ◌∙◌, arith}
use Rattle.std.specs.Prelude.{slice_get}
use Rattle.std.proofs.lemmas.List.{map-append}
use Rattle.std.proofs.lemmas.Grind.{flat_map-append}
use Rattle.id_groups.specs.Lists.{IsIn}
use Rattle.id_groups.specs.Name.{Name}
use Rattle.commit_graph.specs.World.{Row, World, IsWorld, GrowsMaster, names_of, rows_of}
use Rattle.commit_graph.proofs.Histories.{in-append, history-rest}
use Rattle.commit_graph.proofs.Down.{in-left, in-right}
use Rattle.commit_graph.proofs.Naming.{each}
use Rattle.commit_graph.proofs.Places.{at-name, place-right}
use Rattle.batch_codec.specs.Payload.{Payload, Known, known_names}
use Rattle.batch_codec.specs.Grammar.{count_after}
use Rattle.name_map.specs.Added.{Placed, payloads_of}
use Rattle.change_rules.specs.Lawful.{AreLawful}
use Rattle.change_rules.specs.Tables.{StandFor, known_in, newest, other_names_in}
use Rattle.payload_tables.proofs.Lists.{get-below}
use Rattle.change_parts.specs.Asked.{IsStored}
use Rattle.change_parts.proofs.StoredNames.{stored-names}
use Rattle.change_parts.proofs.Renumber.{in-map}
use Rattle.store_plans.proofs.FlushStates.{fresh-rows}
use Rattle.store_plans.proofs.Heads.{known-of-id, later-known}
use Rattle.store_plans.proofs.LawfulParts.{lawful-behind}
use Rattle.store_plans.proofs.StoredNames.{name-of, names-known, one-some}

module _ (added : List Placed) (front behind : List Payload) (parts : payloads_of added ≡ front ++ behind) (old w : World Name) (lawful : AreLawful [] (payloads_of added)) (base : StandFor front old)
    (stand : StandFor (payloads_of added) w) (world : IsWorld old) (grows : GrowsMaster old w) where
  -- a base with others has a payload
  some : (name : Name) → IsIn name (names_of old.others) → front ≢ []
  some name i e = subst (IsIn name) (sym base.names ∙ ap (λ l. other_names_in (newest l)) e) i

  in-all : (k : Known) → IsIn k (known_in behind) → IsIn k (known_in (payloads_of added))
  in-all k i =
      subst (IsIn k) (sym (ap known_in parts ∙ flat_map-append (λ (p : Payload). p.known) front behind)) (in-right k (known_in front) (known_in behind) i)

  -- a known name is stored
  by-known : (k : Known) → IsIn k (known_in behind) → IsStored added k.name
  by-known k i =
      subst (IsIn k.name) (sym (stored-names added))
      (in-left k.name (flat_map known_names (payloads_of added)) (other_names_in (newest (payloads_of added)))
      (subst (IsIn k.name) (names-known (payloads_of added)) (in-map (λ (q : Known). q.name) k (known_in (payloads_of added)) (in-all k i))))

  -- the newest payload has the names of the others
  by-others : (name : Name) → IsIn name (names_of w.others) → IsStored added name
  by-others name i =
      subst (IsIn name) (sym (stored-names added))
      (in-right name (flat_map known_names (payloads_of added)) (other_names_in (newest (payloads_of added))) (subst (IsIn name) (sym stand.names) i))

  -- a row of master that the older one hasn't
  by-new : (name : Name) → front ≢ [] → IsIn name (names_of grows.0) → IsStored added name
  by-new name ne i =
      let t = at-name grows.0 name i in
      let id = length old.master + t.0 in
      let here : slice_get w.master id ≡ Some t.1 = subst (λ l. slice_get l id ≡ Some t.1) (sym grows.1) (place-right old.master grows.0 t.0 t.1 t.2) in
      let under = get-below w.master id t.1 here in
      let low = base.count in
      let high = ap (count_after 0) (sym parts) ∙ stand.count in
      let named = later-known front behind ne (lawful-behind [] front behind (subst (AreLawful []) parts lawful)) id (omega (arith, low)) (omega (arith, high, under)) in
      let k = known-of-id (known_in behind) id named in
      let row : slice_get (names_of w.master) id ≡ Some k.0.name = subst (λ n. slice_get (names_of w.master) n ≡ Some k.0.name) k.2
      (each (λ (q : Known). slice_get (names_of w.master) q.id ≡ Some q.name) (known_in (payloads_of added)) stand.known k.0 (in-all k.0 k.1)) in
      let same : k.0.name ≡ name = one-some k.0.name name (sym row ∙ name-of w.master id t.1 here ∙ ap Some t.3) in
      subst (IsStored added) same (by-known k.0 k.1)

  pub still-stored : (name : Name) → IsIn name (names_of old.others) → IsIn name (names_of (rows_of w)) → IsStored added name
  still-stored name i there = ⊎_elim
      (λ j. ⊎_elim
      (λ here. absurd (fresh-rows (names_of old.master) old.others (history-rest [] old.master old.others world) name i here))
      (λ new. by-new name (some name i) new)
      (in-append name (names_of old.master) (names_of grows.0) (subst (IsIn name) (ap names_of grows.1 ∙ map-append (λ (r : Row Name). r.name) old.master grows.0) j)))
      (λ j. by-others name j)
      (in-append name (names_of w.master) (names_of w.others) (subst (IsIn name) (map-append (λ (r : Row Name). r.name) w.master w.others) there))
