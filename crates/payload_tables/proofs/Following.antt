-- Tables with one payload more.
use Rattle.std.proofs.Common.{◌≡◌, ◌≢◌, ◌<◌, ◌==◌, ℕ, Bool, true, false, List, [], ◌∷◌, ◌++◌, length, flat_map, Option, Some, None, is_some, refl, sym, ap, ◌∙◌, subst, append_assoc, append-nil, if◌then◌else◌, ⊎_elim, arith, true≢false}
use Rattle.std.specs.List.{last_or}
use Rattle.std.proofs.lemmas.List.{map-append}
use Rattle.id_groups.specs.Lists.{AreDistinct}
use Rattle.batch_codec.specs.Payload.{Payload, known_names}
use Rattle.batch_codec.specs.Grammar.{IsPayload, IsFlush, IsClone, IsWholePayload, count_after}
use Rattle.change_rules.specs.Lawful.{AreLawful, MayFollow}
use Rattle.flat_segments.specs.Kept.{IsTableOf}
use Rattle.segment_levels.specs.Kept.{AreLevelsOf}
use Rattle.segment_levels.specs.Flats.{flats_of}
use Rattle.name_map.specs.Added.{Placed, payloads_of, FollowInLog as Following}
use Rattle.name_map.specs.Map.{IsMapOf, names_with}
use Rattle.change_rules.specs.Tables.{remote_heads, cloned_count}
use Rattle.payload_tables.specs.Kept.{PlainTables, PlainOthers, AreTablesOf, AreOthersOf, AreOthersIn, master_records, last_added, by_kind, version_of, newest_version}
use Rattle.payload_tables.specs.Build.{HasPlace}
use Rattle.payload_tables.proofs.Placing.{other-kind, clone-heads, versions-fit}
use Rattle.std.proofs.lemmas.Bool.{eqb-false}
use Rattle.payload_tables.proofs.Lists.{flat-snoc, last-of, distinct-parts}
use Rattle.edge_index.specs.Index.{IsEdgeIndexOf}
use Rattle.payload_tables.proofs.Indexed.{index-more}

pub lawful-more : (before more : List Payload) (p : Payload) → AreLawful before more → MayFollow (before ++ more) p → AreLawful before (more ++ p ∷ [])
lawful-more before [] p h f = (subst (λ l. MayFollow l p) (append-nil before) f, tt)
lawful-more before (q ∷ more) p h f = (h.0, lawful-more (before ++ q ∷ []) more p h.1 (subst (λ l. MayFollow l p) (sym (append_assoc before (q ∷ []) more)) f))

-- the heads and the cloned count, with one payload more
pub heads-more : (payloads : List Payload) (p : Payload) → IsPayload p → (p.kind ≢ 1 → payloads ≡ []) → by_kind p.kind p.heads (remote_heads payloads) ≡ remote_heads (payloads ++ p ∷ [])
heads-more payloads p h first = ⊎_elim
    (λ (f : IsFlush p). ap (λ b. if b then remote_heads payloads else p.heads) (ap (λ n. n == 1) f.kind)
    ∙ sym (flat-snoc (λ (q : Payload). q.heads) payloads p ∙ ap (λ l. remote_heads payloads ++ l) f.no_heads ∙ append-nil (remote_heads payloads)))
    (λ o. ap (λ b. if b then remote_heads payloads else p.heads) o.1 ∙ sym (ap (λ l. remote_heads (l ++ p ∷ [])) (first o.0) ∙ append-nil p.heads)) (other-kind p h)

count-behind : (payloads : List Payload) (p : Payload) → p.cloned ≡ 0 → cloned_count (payloads ++ p ∷ []) ≡ cloned_count payloads
count-behind [] p e = e
count-behind (q ∷ payloads) p e = refl

pub count-more : (payloads : List Payload) (p : Payload) → IsPayload p → (p.kind ≢ 1 → payloads ≡ []) → by_kind p.kind p.cloned (cloned_count payloads) ≡ cloned_count (payloads ++ p ∷ [])
count-more payloads p h first = ⊎_elim
    (λ (f : IsFlush p). ap (λ b. if b then cloned_count payloads else p.cloned) (ap (λ n. n == 1) f.kind) ∙ sym (count-behind payloads p f.cloned))
    (λ o. ap (λ b. if b then cloned_count payloads else p.cloned) o.1 ∙ sym (ap (λ l. cloned_count (l ++ p ∷ [])) (first o.0))) (other-kind p h)

pub no-payloads : (added : List Placed) → added ≡ [] → payloads_of added ≡ []
no-payloads added e = ap payloads_of e

no-placed : (added : List Placed) → payloads_of added ≡ [] → added ≡ []
no-placed [] e = refl
no-placed (a ∷ more) e = absurd (true≢false (ap is-more e))
  where
    is-more : List Payload → Bool
    is-more [] = false
    is-more (p ∷ ps) = true

-- none was added where there is no payload
pub none-placed : (added : List Placed) (p : Payload) → HasPlace (payloads_of added) p → p.kind ≢ 1 → added ≡ []
none-placed added p h never = no-placed added (h.first never)

pub may-follow : (before : List Payload) (p : Payload) → AreLawful [] before → IsPayload p → p.before ≡ count_after 0 before → HasPlace before p
    → AreDistinct (flat_map known_names (before ++ p ∷ []) ++ p.other_names) → MayFollow before p
may-follow before p lawful h count place distinct = record {
  whole = h;
  count = count;
  version = versions-fit before p lawful place.version;
  clone_first = λ e. place.first (λ f. eqb-false 2 1 refl (sym e ∙ f));
  clone_heads = λ e. place.heads (λ f. eqb-false 2 1 refl (sym e ∙ f)) ∙ clone-heads p h e;
  whole_first = λ e. place.first (λ f. eqb-false 3 1 refl (sym e ∙ f));
  whole_heads = λ e. place.heads (λ f. eqb-false 3 1 refl (sym e ∙ f));
  distinct = distinct;
  levels = place.levels;
}

pub tables-more : (tables : PlainTables) (new : PlainTables) (added : List Placed) (a : Placed) → AreTablesOf tables added → IsPayload a.payload → a.payload.before ≡ tables.names.masters
    → HasPlace (payloads_of added) a.payload
    → IsTableOf new.flat (master_records (added ++ a ∷ [])) → AreLevelsOf new.levels (flats_of new.flat (master_records (added ++ a ∷ []))) → IsMapOf new.names (added ++ a ∷ [])
    → AreDistinct (names_with (payloads_of added) a.payload) → (AreDistinct a.payload.other_names → AreOthersOf new.others a)
    → new.heads ≡ by_kind a.payload.kind a.payload.heads tables.heads → new.cloned ≡ by_kind a.payload.kind a.payload.cloned tables.cloned → new.version ≡ a.payload.version → new.edges ≡ tables.edges → AreTablesOf new (added ++ a ∷ [])
tables-more tables new added a t h before place flat levels names distinct others heads cloned version edges =
    let all : payloads_of (added ++ a ∷ []) ≡ payloads_of added ++ a.payload ∷ [] = map-append (λ (b : Placed). b.payload) added (a ∷ []) in
    record {
      lawful = subst (AreLawful []) (sym all)
          (lawful-more [] (payloads_of added) a.payload t.lawful (may-follow (payloads_of added) a.payload t.lawful h (before ∙ t.names.masters) place distinct));
      flat = flat;
      levels = levels;
      names = names;
      others = subst (AreOthersIn new.others) (sym (last-of None added a)) (others (distinct-parts (flat_map known_names (payloads_of added ++ a.payload ∷ [])) a.payload.other_names distinct).1);
      heads = heads ∙ ap (by_kind a.payload.kind a.payload.heads) t.heads ∙ heads-more (payloads_of added) a.payload h place.first ∙ ap remote_heads (sym all);
      cloned = cloned ∙ ap (by_kind a.payload.kind a.payload.cloned) t.cloned ∙ count-more (payloads_of added) a.payload h place.first ∙ ap cloned_count (sym all);
      version = version ∙ ap version_of (sym (last-of None (payloads_of added) a.payload)) ∙ ap newest_version (sym all);
      edges = subst (λ e. IsEdgeIndexOf e (flats_of new.flat (master_records (added ++ a ∷ [])))) (sym edges) (index-more tables.edges tables.flat new.flat added a t.edges);
    }

-- ---- whether there is any payload

abbrev ends_at : ℕ → Option Placed → Type 0
ends_at n None = n ≡ 0
ends_at n (Some a) = (n ≡ a.payload.after) × IsPayload a.payload

has-ids : (others : PlainOthers) (a : Placed) → IsPayload a.payload → AreOthersOf others a → a.payload.after ≡ 0 → others.count ≡ 0 → ⊥
has-ids others a h are after none = ⊎_elim
    (λ (f : IsFlush a.payload). ⊎_elim (λ (lt : 0 < a.payload.after). omega (arith, lt, after)) (λ (lt : 0 < length a.payload.other_names). let c = are.count in omega (arith, lt, c, none)) f.something)
    (λ o. ⊎_elim (λ (c : IsClone a.payload). let lt = c.something in omega (arith, lt, after))
    (λ (w : IsWholePayload a.payload). ⊎_elim (λ (lt : 0 < a.payload.after). omega (arith, lt, after)) (λ (lt : 0 < length a.payload.other_names). let c = are.count in omega (arith, lt, c, none)) w.something) o) h.by_kind

nothing-since : (others : PlainOthers) (n : ℕ) (o : Option Placed) (added : List Placed) → Following n added → ends_at n o → AreOthersIn others (last_or o added) → count_after n (payloads_of added) ≡ 0 → others.count ≡ 0 → (added ≡ []) × (o ≡ None)
nothing-since others n None [] f at are count none = (refl, refl)
nothing-since others n (Some a) [] f at are count none = absurd (has-ids others a at.1 are (sym at.0 ∙ count) none)
nothing-since others n o (a ∷ added) f at are count none = absurd (true≢false (ap is_some (nothing-since others a.payload.after (Some a) added f.2 (refl, f.0) are count none).1))

pub none-added : (tables : PlainTables) (added : List Placed) → AreTablesOf tables added → tables.names.masters ≡ 0 → tables.others.count ≡ 0 → added ≡ []
none-added tables added t masters count = (nothing-since tables.others 0 None added t.names.follow refl t.others (sym t.names.masters ∙ masters) count).0

pub nothing-there : (tables : PlainTables) (added : List Placed) → AreTablesOf tables added → added ≡ [] → (tables.names.masters ≡ 0) × (tables.others.count ≡ 0)
nothing-there tables added t e =
    (t.names.masters ∙ ap (λ l. count_after 0 (payloads_of l)) e, (subst (λ l. AreOthersIn tables.others (last_added l)) e t.others).count)
