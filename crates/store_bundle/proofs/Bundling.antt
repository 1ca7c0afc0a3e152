-- The bundle of a stored master.
use Rattle.std.proofs.Common.{◌≡◌, ◌≤◌, ◌+◌, ℕ, zero, suc, List, [], ◌∷◌, ◌++◌, Some, Result, Ok, Err, length, take, refl, sym, ap, subst, ◌∙◌, arith, append-nil, lit≤}
use Rattle.std.specs.Prelude.{slice_get, IfOk, Vec}
use Rattle.std.specs.declared.alloc.Global.{Global}
use Rattle.std.specs.declared.alloc.AllocError.{AllocError}
use Rattle.std.specs.List.{AllByRecursion}
use Rattle.id_groups.specs.Name.{Name, IsName, same_name}
use Rattle.commit_graph.specs.World.{Row, World, IsNamedWorld, IsHistory, names_of}
use Rattle.commit_graph.specs.Ids.{parent_ids}
use Rattle.commit_graph.proofs.Histories.{history-front}
use Rattle.segment_rules.specs.Flat.{flat_segments_of}
use Rattle.batch_codec.specs.Grammar.{AreFlat}
use Rattle.gated_log.specs.Held.{Held}
use Rattle.name_map.specs.Added.{payloads_of}
use Rattle.remote_rules.specs.Known.{master_world}
use Rattle.change_rules.proofs.Changes.{parents-known, rows-front}
use Rattle.payload_tables.specs.Kept.{PlainTables}
use Rattle.payload_tables.specs.Pending.{PlainPending}
use Rattle.change_parts.proofs.Invented.{count-small, in-turn}
use Rattle.bundle_codec.specs.Bundle.{Contents, IsBundle, IsBundled, bundle_of, contents_of}
use Rattle.dag_store.specs.Whole.{IsWholeOf, master_flats}

pub take-one : {X : Type 0} (xs : List X) (k : ℕ) (x : X) → slice_get xs k ≡ Some x → take (k + 1) xs ≡ take k xs ++ x ∷ []
take-one [] zero x e = cc
take-one [] (suc k) x e = cc
take-one {X} (y ∷ xs) zero x e = let same : y ≡ x = cc e in ap (λ (z : X). z ∷ []) same
take-one {X} (y ∷ xs) (suc k) x e = ap (λ n. take n (y ∷ xs)) (let z : suc k + 1 ≡ suc (k + 1) = omega arith in z) ∙ ap (λ (l : List X). y ∷ l) (take-one xs k x e)

-- bytes that are the bundle of each world are so for all
pub each-world : (r : Result (Vec ℕ Global) AllocError) (H : World Name → Type 0) → ((w : World Name) → H w → IfOk r (λ b. b.items ≡ bundle_of w.master)) → IfOk r (λ b. (w : World Name) → H w → b.items ≡ bundle_of w.master)
each-world (Ok b) H f = f
each-world (Err e) H f = tt

names-front : (xs ys : List (Row Name)) → AllByRecursion IsName (names_of (xs ++ ys)) → AllByRecursion IsName (names_of xs)
names-front [] ys h = tt
names-front (x ∷ xs) ys h = (h.0, names-front xs ys h.1)

-- each world of this kind has a bundle
abbrev pub HaveBundles : Type 0
HaveBundles = (w : World Name) → IsBundled w → IsBundle (contents_of w.master)

module _ (w : World Name) (named : IsNamedWorld w) where
  history : IsHistory [] w.master
  history = history-front [] w.master w.others named.world

  -- the master of a world is one by itself
  alone : IsNamedWorld (master_world w.master)
  alone = record {
    world = subst (IsHistory []) (sym (append-nil w.master)) history;
    names = subst (λ (l : List (Row Name)). AllByRecursion IsName (names_of l)) (sym (append-nil w.master)) (names-front w.master w.others named.names);
  }

  -- its parents have their ids there
  ids-alone : parent_ids same_name w w.master ≡ parent_ids same_name (master_world w.master) w.master
  ids-alone = rows-front w (master_world w.master) [] (sym (append-nil (names_of w.master))) w.master (parents-known [] w.master history)

  pub contents-are : (let c : Contents = record { segments = master_flats w; names = names_of w.master } in c) ≡ contents_of w.master
  contents-are = ap (λ (ids : List (List ℕ)). (let c : Contents = record { segments = flat_segments_of 0 ids; names = names_of w.master } in c)) ids-alone

  pub is-bundle : HaveBundles → length w.master ≤ 16777216 → IsBundle (contents_of w.master)
  is-bundle made few = made (master_world w.master) (record { world = alone; alone = refl; few = few })

  pub flat : HaveBundles → length w.master ≤ 16777216 → AreFlat (master_flats w)
  flat made few = subst (λ (c : Contents). AreFlat c.segments) (sym contents-are) (is-bundle made few).flat

module _ (log : Held) (tables : PlainTables) (none : PlainPending) (w : World Name) (h : IsWholeOf log tables none w) where
  -- a stored master has few enough rows
  pub small : length w.master ≤ 16777216
  small =
      let c = h.stands.count in
      let s = count-small 0 (payloads_of h.added) (let z : 0 ≤ 16777216 = lit≤ tt in z) (in-turn [] (payloads_of h.added) h.tables_of.lawful) in
      omega (arith, c, s)
