-- What a store's parts say of a state that it stands for.
use Rattle.std.proofs.Common.{◌≡◌, ◌≤◌, ◌<◌, ◌+◌, ℕ, Bool, true, false, not, ◌&&◌, ◌||◌, List, [], ◌∷◌, ◌++◌, length, map, take, drop, filter, nat_eq, nat_lt, refl, sym, ap, ap₂, subst, ◌∙◌, arith, append-nil, if◌then◌else◌, le_refl, zero-le, true≢false}
use Rattle.std.specs.List.{AllByRecursion, list_any, range_with_len}
use Rattle.std.proofs.lemmas.List.{take_all, take-map, take-append-drop, map-append}
use Rattle.std.proofs.lemmas.List.Elements.{filter-append}
use Rattle.std.proofs.lemmas.Grind.{flat_map-append}
use Rattle.std.proofs.lemmas.Bool.{ltb-true, lt-ltb, le-ltb, ne_eqb}
use Rattle.id_groups.specs.Lists.{is_in}
use Rattle.id_groups.specs.Name.{Name, same_name}
use Rattle.id_groups.proofs.Listing.{any-in, in-any, and_true, both_true}
use Rattle.commit_graph.specs.World.{World, names_of}
use Rattle.batch_codec.specs.Payload.{Payload, Known}
use Rattle.change_rules.specs.Lawful.{AreLawful}
use Rattle.batch_codec.proofs.Payloads.{one-payload}
use Rattle.gated_log.specs.Held.{Held}
use Rattle.name_map.specs.Added.{Placed, payloads_of}
use Rattle.change_rules.specs.declared.Limits.{Limits}
use Rattle.change_rules.specs.Change.{text_of}
use Rattle.change_rules.specs.Holding.{HoldPayloads}
use Rattle.change_rules.specs.Lazy.{is_lazy, has_lazy, stored_names}
use Rattle.change_rules.specs.Tables.{StandFor, known_in}
use Rattle.change_rules.proofs.Cloned.{in-range}
use Rattle.payload_tables.specs.Kept.{PlainTables}
use Rattle.step_rules.specs.State.{Stored, session, pending_of, base_of, world_at}
use Rattle.step_rules.specs.Asked.{is_asked}
use Rattle.step_rules.proofs.Sessions.{newest-now}
use Rattle.store_plans.specs.Sessions.{PlainSession, base_added}
use Rattle.dag_store.specs.Kept.{IsKept, session_at, no_cache, sixteen}
use Rattle.dag_store.specs.Stands.{Stands}
use Rattle.store_plans.specs.Looking.{is_asked_in}
use Rattle.store_plans.proofs.LawfulParts.{lawful-behind, known-above}

both : {X : Type 0} {x y : X} {xs ys : List X} → x ≡ y → xs ≡ ys → x ∷ xs ≡ y ∷ ys
both e f = cc

-- lawful payloads of one list of texts are the same
pub once : (a b ps qs : List Payload) → AreLawful a ps → AreLawful b qs → map text_of ps ≡ map text_of qs → ps ≡ qs
once a b [] [] h g e = refl
once a b [] (q ∷ qs) h g e = absurd (cc e)
once a b (p ∷ ps) [] h g e = absurd (cc e)
once a b (p ∷ ps) (q ∷ qs) h g e =
    let first : text_of p ≡ text_of q = cc e in
    let rest : map text_of ps ≡ map text_of qs = cc e in
    both (one-payload p q h.0.whole g.0.whole first) (once (a ++ p ∷ []) (b ++ q ∷ []) ps qs h.1 g.1 rest)

-- none of these is an id below
pub none-below : (n id : ℕ) (ks : List Known) → AllByRecursion (λ (k : Known). n ≤ k.id) ks → id < n → is_in nat_eq id (map (λ (k : Known). k.id) ks) ≡ false
none-below n id [] h lt = refl
none-below n id (k ∷ ks) h lt =
    let x = h.0 in
    ap₂ (λ a b. a || b) (ne_eqb id k.id (λ e. absurd (omega (arith, e, x, lt)))) (none-below n id ks h.1 lt)

none-kept : (n : ℕ) (ks : List Known) → AllByRecursion (λ (k : Known). n ≤ k.id) ks → filter (λ (k : Known). nat_lt k.id n) ks ≡ []
none-kept n [] h = refl
none-kept n (k ∷ ks) h = ap (λ b. if b then k ∷ filter (λ (c : Known). nat_lt c.id n) ks else filter (λ (c : Known). nat_lt c.id n) ks) (le-ltb k.id n h.0) ∙ none-kept n ks h.1

in-front : (id : ℕ) (xs ys : List ℕ) → is_in nat_eq id ys ≡ false → is_in nat_eq id (xs ++ ys) ≡ is_in nat_eq id xs
in-front id [] ys e = e
in-front id (x ∷ xs) ys e = ap (λ b. nat_eq id x || b) (in-front id xs ys e)

any-same : (f g : ℕ → Bool) (xs : List ℕ) → ((x : ℕ) → f x ≡ g x) → list_any f xs ≡ list_any g xs
any-same f g [] e = refl
any-same f g (x ∷ xs) e = ap₂ (λ a b. a || b) (e x) (any-same f g xs e)

-- payloads that stand for a world, and some behind them
module _ (front behind : List Payload) (w : World Name) (lawful : AreLawful [] (front ++ behind)) (stand : StandFor front w) where
  abbrev known-parts : known_in (front ++ behind) ≡ known_in front ++ known_in behind
  known-parts = flat_map-append (λ (p : Payload). p.known) front behind

  abbrev ids : List Known → List ℕ
  ids ks = map (λ (k : Known). k.id) ks

  above : AllByRecursion (λ (k : Known). length w.master ≤ k.id) (known_in behind)
  above = subst (λ n. AllByRecursion (λ (k : Known). n ≤ k.id) (known_in behind)) stand.count (known-above front behind (lawful-behind [] front behind lawful))

  -- those behind have names for none of its ids
  pub lazy-front : (id : ℕ) → is_lazy (front ++ behind) w id ≡ is_lazy front w id
  lazy-front id = by_test (nat_lt id (length w.master)) refl
    where
      by_test : (b : Bool) → nat_lt id (length w.master) ≡ b → (b && not (is_in nat_eq id (ids (known_in (front ++ behind))))) ≡ (b && not (is_in nat_eq id (ids (known_in front))))
      by_test false e = refl
      by_test true e = ap not (
          ap (λ l. is_in nat_eq id (ids l)) known-parts
          ∙ ap (is_in nat_eq id) (map-append (λ (k : Known). k.id) (known_in front) (known_in behind))
          ∙ in-front id (ids (known_in front)) (ids (known_in behind)) (none-below (length w.master) id (known_in behind) above (ltb-true id (length w.master) e)))

  pub has-lazy-front : has_lazy (front ++ behind) w ≡ has_lazy front w
  has-lazy-front = any-same (is_lazy (front ++ behind) w) (is_lazy front w) (range_with_len 0 (length w.master)) lazy-front

  pub stored-front : stored_names (front ++ behind) w ≡ stored_names front w
  stored-front =
      let p : Known → Bool = λ k. nat_lt k.id (length w.master) in
      ap (λ l. map (λ (k : Known). k.name) l ++ names_of w.others) (
      ap (filter p) known-parts ∙ filter-append p (known_in front) (known_in behind)
      ∙ ap (λ l. filter p (known_in front) ++ l) (none-kept (length w.master) (known_in behind) above) ∙ append-nil (filter p (known_in front)))

-- a log with a name for each commit of a world has one for each of a shorter master
pub none-before : (ps : List Payload) (w v : World Name) → length w.master ≤ length v.master → has_lazy ps v ≡ false → has_lazy ps w ≡ false
none-before ps w v le none = by_test (has_lazy ps w) refl
  where
    by_test : (b : Bool) → has_lazy ps w ≡ b → has_lazy ps w ≡ false
    by_test false e = e
    by_test true e =
        let (id, i, lazy) = any-in (is_lazy ps w) (range_with_len 0 (length w.master)) e in
        let parts = and_true (nat_lt id (length w.master)) (not (is_in nat_eq id (map (λ (k : Known). k.id) (known_in ps)))) lazy in
        let lt = ltb-true id (length w.master) parts.0 in
        let there = both_true (nat_lt id (length v.master)) (not (is_in nat_eq id (map (λ (k : Known). k.id) (known_in ps)))) (lt-ltb id (length v.master) (omega (arith, lt, le))) parts.1 in
        absurd (true≢false (sym (in-any (is_lazy ps v) (range_with_len 0 (length v.master)) id (in-range 0 (length v.master) id zero-le (omega (arith, lt, le))) there) ∙ none))

module _ (log : Held) (tables : PlainTables) (sessions : List PlainSession) (limits : Limits) (k : IsKept log tables sessions limits) (began : ℕ) (st : Stored)
    (h : Stands began (record { log = log; sessions = sessions; limits = limits; cache = no_cache }) st) where
  whole : take (began + length st.past) st.payloads ≡ st.payloads
  whole = let c = h.count in take_all (began + length st.past) st.payloads (omega (arith, c))

  -- all payloads stand for the stored world
  pub stored-holds : HoldPayloads st.payloads st.stored
  stored-holds = subst (HoldPayloads st.payloads) (newest-now st) (subst (λ l. HoldPayloads l (world_at st (length st.past))) whole (h.worlds (length st.past) (le_refl _)))

  -- the payloads that were added are the state's
  pub added-are : payloads_of k.added ≡ st.payloads
  added-are = once [] [] (payloads_of k.added) st.payloads k.tables_of.lawful stored-holds.lawful (sym k.texts ∙ h.texts)

  -- and all stand for the stored world
  pub all-hold : HoldPayloads (payloads_of k.added) st.stored
  all-hold = subst (λ l. HoldPayloads l st.stored) (sym added-are) stored-holds

  -- a session's base is the front of them
  pub base-are : (s : ℕ) → s < sixteen → payloads_of (base_added k.added (session_at sessions s)) ≡ take (began + (session st s).base) st.payloads
  base-are s lt =
      let x = session_at sessions s in
      sym (take-map (λ (a : Placed). a.payload) x.payloads k.added) ∙ ap (take x.payloads) added-are ∙ ap (λ n. take n st.payloads) (h.sessions s lt).payloads

  -- which stands for its world
  pub base-holds : (s : ℕ) → s < sixteen → HoldPayloads (payloads_of (base_added k.added (session_at sessions s))) (base_of st s)
  base-holds s lt = subst (λ l. HoldPayloads l (base_of st s)) (sym (base-are s lt)) (h.worlds (session st s).base (h.state.sessions s).base)

  -- the payloads behind a session's base
  pub behind-base : (s : ℕ) → s < sixteen → st.payloads ≡ payloads_of (base_added k.added (session_at sessions s)) ++ drop (began + (session st s).base) st.payloads
  behind-base s lt =
      let n = began + (session st s).base in
      sym (take-append-drop n st.payloads) ∙ ap (λ l. l ++ drop n st.payloads) (sym (base-are s lt))

  -- whether its world has lazy names is told by the payloads of the base
  pub lazy-same : (s : ℕ) → s < sixteen → has_lazy st.payloads (base_of st s) ≡ has_lazy (payloads_of (base_added k.added (session_at sessions s))) (base_of st s)
  lazy-same s lt =
      let front = payloads_of (base_added k.added (session_at sessions s)) in
      let behind = drop (began + (session st s).base) st.payloads in
      ap (λ l. has_lazy l (base_of st s)) (behind-base s lt)
      ∙ has-lazy-front front behind (base_of st s) (subst (AreLawful []) (behind-base s lt) stored-holds.lawful) (base-holds s lt).stand

  -- and which names are stored
  pub stored-same : (s : ℕ) → s < sixteen → stored_names st.payloads (base_of st s) ≡ stored_names (payloads_of (base_added k.added (session_at sessions s))) (base_of st s)
  stored-same s lt =
      let front = payloads_of (base_added k.added (session_at sessions s)) in
      let behind = drop (began + (session st s).base) st.payloads in
      ap (λ l. stored_names l (base_of st s)) (behind-base s lt)
      ∙ stored-front front behind (base_of st s) (subst (AreLawful []) (behind-base s lt) stored-holds.lawful) (base-holds s lt).stand

  -- so a name has to be asked by the log where it has to by the payloads of the base
  pub asked-same : (s : ℕ) → s < sixteen → (name : Name) → is_asked st s (base_of st s) name
      ≡ is_asked_in (payloads_of (base_added k.added (session_at sessions s))) (base_of st s) (pending_of st s) name
  asked-same s lt name =
      ap₂ (λ a l. (a && not (is_in same_name name l)) && not (is_in same_name name (names_of (pending_of st s)))) (lazy-same s lt) (stored-same s lt)
