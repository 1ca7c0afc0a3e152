-- How many known names there are, and whether a commit is without one.
use Rattle.std.proofs.Common.{◌≡◌, ◌≤◌, ◌<◌, ℕ, suc, Bool, true, false, not, cond, List, [], ◌∷◌, length, map, filter, refl, sym, ap, subst, ◌∙◌, arith, nat_eq, nat_lt}
use Rattle.std.specs.List.{AllByRecursion, range_with_len}
use Rattle.std.proofs.lemmas.Bool.{lt-ltb, ltb-true}
use Rattle.id_groups.specs.Lists.{IsIn, is_in}
use Rattle.id_groups.specs.Name.{Name}
use Rattle.id_groups.proofs.Listing.{any-in, and_true, not_true, there}
use Rattle.commit_graph.specs.World.{World, IsNamedWorld}
use Rattle.batch_codec.specs.Payload.{Payload, Known}
use Rattle.batch_codec.specs.Grammar.{count_after}
use Rattle.name_map.specs.Map.{count_known}
use Rattle.payload_tables.proofs.Lists.{all-append, same-self, same-exact}
use Rattle.change_rules.specs.Lawful.{AreLawful}
use Rattle.change_rules.specs.Lazy.{is_lazy, has_lazy}
use Rattle.change_rules.specs.Tables.{StandFor, known_in}
use Rattle.remote_answers.proofs.Marking.{range-in}
use Rattle.remote_store.proofs.Telling.{InTurn, known-all, ids-all}
use Rattle.remote_store.proofs.Holding.{all-known}

count-step : (b : Bool) (k : Known) (known : List Known) (n : ℕ) → length known ≤ n → length (cond b (k ∷ known) known) ≤ suc n
count-step true k known n le = omega (arith, le)
count-step false k known n le = omega (arith, le)

pub count-most : (below : ℕ) (known : List Known) → count_known below known ≤ length known
count-most below [] = omega arith
count-most below (k ∷ known) = count-step (nat_lt k.id below) k (filter (λ (q : Known). nat_lt q.id below) known) (length known) (count-most below known)

pub count-whole : (below : ℕ) (known : List Known) → AllByRecursion (λ (k : Known). k.id < below) known → count_known below known ≡ length known
count-whole below [] h = refl
count-whole below (k ∷ known) h =
    ap (λ b. length (cond b (k ∷ filter (λ (q : Known). nat_lt q.id below) known) (filter (λ (q : Known). nat_lt q.id below) known))) (lt-ltb k.id below h.0)
    ∙ ap suc (count-whole below known h.1)

turn-grows : (n : ℕ) (payloads : List Payload) → InTurn n payloads → n ≤ count_after n payloads
turn-grows n [] h = omega arith
turn-grows n (p ∷ more) h = let r = turn-grows p.after more h.2 in let g = h.0.counts.grows in let e = h.1 in omega (arith, r, g, e)

ids-below : (first end most : ℕ) (known : List Known) → AllByRecursion (λ id. (first ≤ id) × (id < end)) (map (λ (k : Known). k.id) known) → end ≤ most → AllByRecursion (λ (k : Known). k.id < most) known
ids-below first end most [] h le = tt
ids-below first end most (k ∷ known) h le = let lt = h.0.1 in (omega (arith, lt, le), ids-below first end most known h.1 le)

-- the known ids are master ids
pub under : (n most : ℕ) (payloads : List Payload) → InTurn n payloads → count_after n payloads ≤ most → AllByRecursion (λ (k : Known). k.id < most) (known_in payloads)
under n most [] h le = tt
under n most (p ∷ more) h le =
    let g = turn-grows p.after more h.2 in
    all-append (λ (k : Known). k.id < most) p.known (known_in more) (ids-below p.before p.after most p.known h.0.known.within (omega (arith, g, le))) (under p.after most more h.2 le)

-- ---- commits without a name

module _ (payloads : List Payload) (w : World Name) (lawful : AreLawful [] payloads) (stand : StandFor payloads w) (named : IsNamedWorld w) where
  pub none-lazy : count_after 0 payloads ≤ length (known_in payloads) → has_lazy payloads w ≡ false
  none-lazy whole = by_test (has_lazy payloads w) refl
    where
      by_test : (b : Bool) → has_lazy payloads w ≡ b → b ≡ false
      by_test false e = refl
      by_test true e =
          let t = any-in (is_lazy payloads w) (range_with_len 0 (length w.master)) e in
          let parts = and_true (nat_lt t.0 (length w.master)) (not (is_in nat_eq t.0 (map (λ (k : Known). k.id) (known_in payloads)))) t.2 in
          let lt = ltb-true t.0 (length w.master) parts.0 in
          let size = known-all payloads w lawful stand named whole in
          let at : IsIn t.0 (map (λ (k : Known). k.id) (known_in payloads)) = subst (IsIn t.0) (sym (ids-all payloads w lawful stand named whole)) (range-in 0 (length (known_in payloads)) t.0 (omega arith) (omega (arith, lt, size))) in
          absurd (not_true (is_in nat_eq t.0 (map (λ (k : Known). k.id) (known_in payloads))) parts.1 (there nat_eq same-exact same-self t.0 (map (λ (k : Known). k.id) (known_in payloads)) at))

  pub some-lazy : (count_after 0 payloads ≤ length (known_in payloads) → ⊥) → has_lazy payloads w ≡ true
  some-lazy missing = by_test (has_lazy payloads w) refl
    where
      by_test : (b : Bool) → has_lazy payloads w ≡ b → b ≡ true
      by_test true e = refl
      by_test false e = absurd (missing (all-known payloads w stand e))
