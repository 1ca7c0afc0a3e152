-- A bundle is an honest remote of its world, and sound whatever its bytes are.
use Rattle.std.proofs.Common.{◌≡◌, ◌≤◌, ℕ, Bool, true, false, List, Option, Some, None, IfSome, length, refl, sym, ap, subst, ◌∙◌, true≢false, nat_le, if◌then◌else◌}
use Rattle.std.specs.Prelude.{option_and_then, MatchOption}
use Rattle.std.specs.Option.{option_map}
use Rattle.hex.specs.Hex.{IsBytes}
use Rattle.id_groups.specs.Name.{Name}
use Rattle.commit_graph.specs.World.{Row, World, IsNamedWorld}
use Rattle.remote_rules.specs.CloneData.{CloneData}
use Rattle.remote_rules.specs.Honest.{IsHonest, IsSoundMirror, clone_data_of}
use Rattle.remote_rules.specs.Known.{master_world}
use Rattle.bundle_codec.specs.Bundle.{Contents, IsBundle, IsBundled, StandsFor, contents_of, rows_of}
use Rattle.bundle_codec.specs.Reading.{parts_at, bundle_at, are_apart, rows_within}
use Rattle.bundle_codec.proofs.Format.{apart-distinct, distinct-apart, parts_take, bundle-parts, bundle_again, parts-none, parts-some, parts-double}
use Rattle.bundle_codec.proofs.Bundled.{bundled, rows-back}
use Rattle.remote_bundle.specs.Remote.{PlainRemote, mirror_of}
use Rattle.remote_bundle.proofs.Fitting.{within-rows}

abbrev clones : Option (List (Row Name)) → Option CloneData
clones o = option_map (λ rows. clone_data_of (master_world rows)) o

-- rows of a world, told with its clone data, are told by an honest remote
honest-rows : (o : Option (List (Row Name))) (rows : List (Row Name)) → o ≡ Some rows → IsNamedWorld (master_world rows) → IsHonest (option_map (λ rows. clone_data_of (master_world rows)) o) rows
honest-rows o rows e h = record {
  world = h;
  clone = subst (λ (p : Option (List (Row Name))). MatchOption (option_map (λ rows. clone_data_of (master_world rows)) p) (Unit {0}) (λ told. told ≡ clone_data_of (master_world rows))) (sym e) refl;
}

pub honest-bundle : ((w : World Name) → IsBundled w → IsBundle (contents_of w.master)) → (r : PlainRemote) (bytes : List ℕ) (w : World Name) → r.bytes ≡ Some bytes → StandsFor bytes w → length bytes ≤ r.limit
    → ((mirror_of r).master ≡ Some w.master) × IsHonest (mirror_of r).cloned w.master × ((mirror_of r).settled ≡ true)
honest-bundle made r bytes w e h le =
    let whole = made w h.0 in
    let back = rows-back w h.0 in
    let master : (mirror_of r).master ≡ Some w.master =
    ap (option_and_then (rows_within r.limit)) e ∙ within-rows r.limit bytes le
    ∙ ap (λ (b : List ℕ). option_map rows_of (bundle_at b)) h.1 ∙ ap (option_map rows_of) (bundle_again (contents_of w.master) whole) ∙ ap (λ (rows : List (Row Name)). Some rows) back in
    let world = subst (λ rows. IsNamedWorld (master_world rows)) back (bundled (contents_of w.master) whole).world in
    (master, honest-rows (mirror_of r).master w.master master world, refl)

-- ---- whatever the bytes are

same-contents : (c d : Contents) → Some c ≡ Some d → c ≡ d
same-contents c d e = cc

-- what is read of bytes is a bundle
read-bundle : (bytes : List ℕ) (c : Contents) → IsBytes bytes → bundle_at bytes ≡ Some c → IsBundle c
read-bundle bytes c i e = by_parts (parts_at bytes) refl
  where
    by_test : (d : Contents) → parts_at bytes ≡ Some d → (b : Bool) → are_apart d.names ≡ b → IsBundle c
    by_test d p true a =
        let distinct = apart-distinct d.names a in
        subst IsBundle (same-contents d c (sym (parts-some bytes d p distinct) ∙ e)) (bundle-parts d (parts_take bytes d i p).parts distinct)
    by_test d p false a = let none = parts-double bytes d p (λ distinct. true≢false (sym (distinct-apart d.names distinct) ∙ a)) in cc

    by_parts : (o : Option Contents) → parts_at bytes ≡ o → IsBundle c
    by_parts None p = let none = parts-none bytes p in cc
    by_parts (Some d) p = by_test d p (are_apart d.names) refl

pub sound-bundle : (r : PlainRemote) → IfSome r.bytes IsBytes → IsSoundMirror (mirror_of r)
sound-bundle r h = by_bytes r.bytes h
  where
    by_contents : (bytes : List ℕ) → IsBytes bytes → (o : Option Contents) → bundle_at bytes ≡ o → MatchOption (option_map rows_of o) (Unit {0}) (IsHonest (clones (option_map rows_of o)))
    by_contents bytes i None e = tt
    by_contents bytes i (Some c) e = honest-rows (Some (rows_of c)) (rows_of c) refl (bundled c (read-bundle bytes c i e)).world

    by_size : (bytes : List ℕ) → IsBytes bytes → (b : Bool)
        → MatchOption (option_map rows_of (if b then bundle_at bytes else None)) (Unit {0}) (IsHonest (clones (option_map rows_of (if b then bundle_at bytes else None))))
    by_size bytes i true = by_contents bytes i (bundle_at bytes) refl
    by_size bytes i false = tt

    by_bytes : (o : Option (List ℕ)) → IfSome o IsBytes → MatchOption (option_and_then (rows_within r.limit) o) (Unit {0}) (IsHonest (clones (option_and_then (rows_within r.limit) o)))
    by_bytes None i = tt
    by_bytes (Some bytes) i = by_size bytes i (nat_le (length bytes) r.limit)
