-- What a strip by numbers means for the world and for the payloads.
use Rattle.std.proofs.Common.{[], ◌≡◌, ◌<◌, ◌≤◌, ℕ, ◌+◌, true, false, List, ◌∷◌, ◌++◌, length, Some, None, refl, sym, ap, subst, ◌∙◌, arith, append-nil, length-append, if◌then◌else◌, nat_lt, true≢false}
use Rattle.std.proofs.lemmas.Bool.{lt-ltb}
use Rattle.id_groups.specs.Name.{Name, same_name}
use Rattle.id_groups.proofs.Names.{same_name-exact, same_name-self}
use Rattle.commit_graph.specs.World.{World, IsNamedWorld, rows_of}
use Rattle.commit_graph.proofs.Naming.{named-by, name-of}
use Rattle.batch_codec.specs.Payload.{payload_bytes}
use Rattle.batch_codec.specs.Grammar.{IsPayload}
use Rattle.name_map.specs.Added.{Placed, payloads_of}
use Rattle.change_rules.specs.declared.Limits.{Limits}
use Rattle.change_rules.specs.declared.Limit.TheVariants.{Log}
use Rattle.change_rules.specs.Strip.{stripped}
use Rattle.change_rules.specs.Change.{flush_change}
use Rattle.change_rules.specs.Lawful.{MayFollow}
use Rattle.change_rules.specs.Holding.{HoldPayloads}
use Rattle.change_rules.specs.Tables.{StandFor}
use Rattle.change_rules.proofs.Changed.{strip-world, strip-names}
use Rattle.change_rules.proofs.Changes.{change-stands}
use Rattle.change_rules.proofs.Lawful.{change-follows}
use Rattle.payload_tables.proofs.Lists.{names-length}
use Rattle.change_parts.specs.declared.change.Change.{Change}
use Rattle.change_parts.specs.declared.fault.PlanFault.TheVariants.{Emptied}
use Rattle.change_parts.specs.Plans.{IsChangeOf, IsPlanOf, MayComeNext, over, first_fault, length_with}
use Rattle.strip_plan.specs.Stripping.{AreKeptIds, IsStrip, strip_payload, emptied, strip_refusal}
use Rattle.change_parts.proofs.Refusals.{written, has-bytes, nothing-written}

-- a strip of a world that payloads hold
module _ (added : List Placed) (w : World Name) (given : List Name) (hold : HoldPayloads (payloads_of added) w) where
  abbrev pub new : World Name
  new = stripped same_name w given

  new-named : IsNamedWorld new
  new-named = named-by new (strip-world same_name same_name-exact same_name-self w hold.world.world given)
      (λ x i. name-of w hold.world x (strip-names same_name same_name-exact same_name-self w hold.world.world given x i))

  -- its change may come behind the payloads, where something is left
  pub follows : length w.master ≤ 16777216 → length new.others ≤ 65536 → 0 < length (rows_of new) → MayFollow (payloads_of added) (flush_change w new)
  follows small few some = change-follows (payloads_of added) w new hold.lawful hold.stand hold.world.world new-named [] (sym (append-nil w.master)) small few some

  pub stands : StandFor (payloads_of added ++ flush_change w new ∷ []) new
  stands = change-stands (payloads_of added) w new hold.world.world hold.stand ([], sym (append-nil w.master))

module _ (added : List Placed) (names : List ℕ) (graph : List (List ℕ)) (n before : ℕ) (kept : List ℕ) (w : World Name) (given : List Name) (m : IsStrip added names graph n before kept w given) where
  new-rows : length (rows_of (stripped same_name w given)) ≡ before + length kept
  new-rows = let l = length-append w.master (stripped same_name w given).others in let s = m.size in let b = m.before_is in omega (arith, l, s, b)

  old-rows : length (rows_of w) ≡ before + n
  old-rows = let l = length-append w.master w.others in let s = m.n_is in let b = m.before_is in omega (arith, l, s, b)

  is-emptied : before + length kept ≡ 0 → emptied w (stripped same_name w given) ≡ Some (Emptied (before + n))
  is-emptied e = ap (λ k. if nat_lt 0 k then None else Some (Emptied (length (rows_of w)))) (new-rows ∙ e) ∙ ap (λ k. Some (Emptied k)) old-rows

  not-emptied : 0 < before + length kept → emptied w (stripped same_name w given) ≡ None
  not-emptied lt = ap (λ k. if nat_lt 0 k then None else Some (Emptied (length (rows_of w)))) new-rows ∙ ap (λ b. if b then None else Some (Emptied (length (rows_of w)))) (lt-ltb 0 (before + length kept) lt)

  -- where nothing is left
  pub refused-empty : (limits : Limits) (log : ℕ) (payload : List ℕ) → before + length kept ≡ 0 → strip_refusal limits log w (stripped same_name w given) payload ≡ Some (Emptied (before + n))
  refused-empty limits log payload e = ap (λ o. first_fault o (over limits.log (length_with log payload) Log)) (is-emptied e)

  -- else the log alone can refuse
  pub refused : (limits : Limits) (log : ℕ) (payload : List ℕ) → 0 < before + length kept
      → strip_refusal limits log w (stripped same_name w given) payload ≡ over limits.log (length_with log payload) Log
  refused limits log payload lt = ap (λ o. first_fault o (over limits.log (length_with log payload) Log)) (not-emptied lt)

  pub differs : (length kept ≡ n → ⊥) → stripped same_name w given ≡ w → ⊥
  differs h s = h (sym m.size ∙ ap (λ (z : World Name). length z.others) s ∙ sym m.n_is)

  pub change-follows-on : 0 < before + length kept → MayFollow (payloads_of added) (flush_change w (stripped same_name w given))
  change-follows-on lt = follows added w given m.hold
      (let a = m.small in let b = m.before_is in omega (arith, a, b))
      (let a = m.short in let b = m.size in let c = m.few in omega (arith, a, b, c))
      (let r = new-rows in omega (arith, r, lt))

  pub in-grammar : 0 < before + length kept → (ids : List ℕ) → AreKeptIds n kept ids → IsPayload (strip_payload ids graph names before kept)
  in-grammar lt ids a = subst IsPayload (m.change ids a) (change-follows-on lt).whole

  pub as-written : (payload : List ℕ) → IsChangeOf w (stripped same_name w given) payload → (length kept ≡ n → ⊥) → (ids : List ℕ) → AreKeptIds n kept ids → payload ≡ payload_bytes (strip_payload ids graph names before kept)
  as-written payload is h ids a = is.some (differs h) ∙ ap payload_bytes (m.change ids a)

  -- the log with the payload behind it
  pub log-with : (log : ℕ) (payload : List ℕ) → IsChangeOf w (stripped same_name w given) payload → (length kept ≡ n → ⊥) → (ids : List ℕ) → AreKeptIds n kept ids
      → (text : List ℕ) → text ≡ payload_bytes (strip_payload ids graph names before kept) → length_with log payload ≡ log + 9 + length text
  log-with log payload is h ids a text e =
      let same : payload ≡ text = as-written payload is h ids a ∙ sym e in
      written log payload (subst (λ l. 0 < length l) (sym (as-written payload is h ids a)) (has-bytes (strip_payload ids graph names before kept))) ∙ ap (λ l. log + 9 + length l) same

  -- where all stay nothing is written
  pub stays-none : (limits : Limits) (log : ℕ) (payload : List ℕ) → IsChangeOf w (stripped same_name w given) payload → 0 < before + length kept → length kept ≡ n
      → strip_refusal limits log w (stripped same_name w given) payload ≡ None
  stays-none limits log payload is lt e = refused limits log payload lt ∙ nothing-written limits log payload (is.none (m.whole e))

  pub stays-plan : (payload : List ℕ) → IsChangeOf w (stripped same_name w given) payload → length kept ≡ n → (change : Change) → change.payload ≡ [] → change.master ≡ before → change.others ≡ length kept → change.same ≡ true
      → IsPlanOf change w (stripped same_name w given) payload
  stays-plan payload is e change p ma ot sa = record {
    payload_is = p ∙ sym (is.none (m.whole e));
    master = ma ∙ m.before_is;
    others = ot ∙ sym m.size;
    same = (λ t. m.whole e, λ s. sa);
  }

  pub stays-next : (limits : Limits) (log : ℕ) → length kept ≡ n → (change : Change) → change.payload ≡ [] → change.master ≡ before → change.others ≡ length kept → change.same ≡ true
      → MayComeNext 1 limits log added change
  stays-next limits log e change p ma ot sa = record {
    stays = λ t. (
      p,
      ma ∙ m.before_is ∙ sym m.hold.stand.count,
      ot ∙ e ∙ m.n_is ∙ sym (ap (length {A = Name}) m.hold.stand.names ∙ names-length w.others),
    );
    changes = λ f. absurd (true≢false (sym sa ∙ f));
  }

  -- where some go
  pub goes-plan : (payload : List ℕ) → IsChangeOf w (stripped same_name w given) payload → (length kept ≡ n → ⊥) → (ids : List ℕ) → AreKeptIds n kept ids
      → (change : Change) → change.payload ≡ payload_bytes (strip_payload ids graph names before kept) → change.master ≡ before → change.others ≡ length kept → change.same ≡ false
      → IsPlanOf change w (stripped same_name w given) payload
  goes-plan payload is h ids a change p ma ot sa = record {
    payload_is = p ∙ sym (as-written payload is h ids a);
    master = ma ∙ m.before_is;
    others = ot ∙ sym m.size;
    same = (λ t. absurd (true≢false (sym t ∙ sa)), λ s. absurd (differs h s));
  }

  pub goes-next : (limits : Limits) (log : ℕ) → 0 < before + length kept → (ids : List ℕ) → AreKeptIds n kept ids
      → (change : Change) → change.payload ≡ payload_bytes (strip_payload ids graph names before kept) → change.master ≡ before → change.others ≡ length kept → change.same ≡ false
      → log + 9 + length change.payload ≤ limits.log → MayComeNext 1 limits log added change
  goes-next limits log lt ids a change p ma ot sa fits = record {
    stays = λ t. absurd (true≢false (sym t ∙ sa));
    changes = λ f. (
      flush_change w (stripped same_name w given),
      record {
        payload = p ∙ ap payload_bytes (sym (m.change ids a));
        follows = change-follows-on lt;
        kind_is = refl;
        master = ma ∙ m.before_is;
        others = ot ∙ sym m.size ∙ sym (names-length (stripped same_name w given).others);
        fits = fits;
      },
    );
  }
