-- A store that took what another process has stored stands for the state with it.
use Rattle.std.proofs.Common.{◌≡◌, ◌<◌, ◌≤◌, ℕ, zero, suc, List, [], ◌∷◌, ◌++◌, ◌+◌, length, map, take, get_or, nat_eq, false, refl, sym, ap, subst, ◌∙◌, arith, append-nil, append_assoc}
use Rattle.std.specs.List.{AllByRecursion}
use Rattle.id_groups.specs.Lists.{is_in}
use Rattle.id_groups.specs.Name.{Name}
use Rattle.commit_graph.specs.World.{World, GrowsMaster}
use Rattle.std.proofs.lemmas.List.{length-map, take_all, take_more}
use Rattle.gated_log.specs.Held.{Held, log_bytes, longer}
use Rattle.batch_codec.specs.Payload.{Payload, Known}
use Rattle.name_map.specs.Added.{payloads_of}
use Rattle.change_rules.specs.declared.Limits.{Limits}
use Rattle.change_rules.specs.Lawful.{MayFollow}
use Rattle.change_rules.specs.Change.{text_of}
use Rattle.change_rules.specs.Holding.{HoldPayloads, IsSpelled}
use Rattle.change_rules.specs.Unlawful.{MayStand}
use Rattle.payload_tables.specs.Kept.{PlainTables}
use Rattle.lazy_names.specs.Cache.{PlainCache}
use Rattle.remote_rules.specs.Mirror.{Mirror}
use Rattle.step_rules.specs.State.{State, Stored, IsOutside, with_stored}
use Rattle.step_rules.proofs.Cached.{cached-next}
use Rattle.store_plans.specs.Sessions.{PlainSession}
use Rattle.store_plans.specs.Changes.{HasRoom}
use Rattle.store_plans.proofs.LawfulParts.{known-above, lawful-behind}
use Rattle.dag_store.specs.declared.following.FollowFault.{FollowFault}
use Rattle.dag_store.specs.declared.following.FollowFault.TheVariants.{Unlawful, Full, Memory}
use Rattle.dag_store.specs.Following.{GoOn, HasTaken, IsWhyNot, MayGoOn, Written, all_on, gate_behind, goes_on, texts_of}
use Rattle.dag_store.specs.Kept.{PlainStore, IsKept, no_cache}
use Rattle.dag_store.specs.Stands.{Stands, StandsBeside}
use Rattle.dag_store.proofs.Sees.{added-are, none-below, stored-holds}
use Rattle.dag_store.proofs.FlushStored.{stands-room, stands-stored}

module _ (log : Held) (tables : PlainTables) (sessions : List PlainSession) (limits : Limits) (cache : PlainCache) (k : IsKept log tables sessions limits) (began : ℕ) (mirrors : List Mirror) (st : State)
    (h : StandsBeside began (record { log = log; sessions = sessions; limits = limits; cache = cache }) mirrors st) (c : Written) (may : MayGoOn st.store c) where
  abbrev p : Payload
  p = c.payload

  abbrev w : World Name
  w = c.world

  grown : GrowsMaster st.store.stored w
  grown = may.grows

  holds : HoldPayloads (st.store.payloads ++ p ∷ []) w
  holds = may.hold

  behind : MayFollow st.store.payloads p
  behind = (lawful-behind [] st.store.payloads (p ∷ []) holds.lawful).0

  -- it has names for none of the commits that were there
  late : (n : ℕ) → n < length st.store.stored.master → is_in nat_eq n (map (λ (k : Known). k.id) p.known) ≡ false
  late n lt =
      let counted = (stored-holds log tables sessions limits k began st.store h.stored).stand.count in
      let above = known-above st.store.payloads (p ∷ []) (lawful-behind [] st.store.payloads (p ∷ []) holds.lawful) in
      none-below (length st.store.stored.master) n p.known
      (subst (λ m. AllByRecursion (λ (k : Known). m ≤ k.id) p.known) counted (subst (AllByRecursion (λ (k : Known). _ ≤ k.id)) (append-nil p.known) above)) lt

  outside-next : IsOutside (with_stored st.store w p) st.outside
  outside-next =
      let o = h.outside_of.outside in
      record {
        few = o.few;
        names = λ id name e. cached-next st.store w p grown late (record { id = id; name = name }) (o.names id name e);
        mirrors = o.mirrors;
      }

  -- it stands for the state with the world
  pub follows-stand : (new : Held) (text : List ℕ) → text ≡ text_of p → new.payloads ≡ log.payloads ++ text ∷ []
      → StandsBeside began (record { log = new; sessions = sessions; limits = limits; cache = cache }) mirrors (goes_on st c)
  follows-stand new text spelled is =
      let o = h.outside_of in
      record {
        stored = stands-stored began (record { log = log; sessions = sessions; limits = limits; cache = cache }) st.store h.stored w p holds.world grown holds new
            (is ∙ ap (λ t. log.payloads ++ t ∷ []) spelled);
        outside_of = record { has = o.has; once = o.once; fits = o.fits; room = o.room; mirrors_are = o.mirrors_are; outside = outside-next };
      }

  -- it isn't refused as unlawful
  pub follows-lawful : (text : List ℕ) → text ≡ text_of p → (fault : FollowFault) → (fault ≡ Unlawful → (q : Payload) → MayStand (payloads_of k.added) text q → ⊥) → fault ≡ Unlawful → ⊥
  follows-lawful text spelled fault none is =
      none is p (spelled, subst (λ l. MayFollow l p) (sym (added-are log tables sessions limits k began st.store h.stored)) behind)

stored-alone : (began : ℕ) (log : Held) (sessions : List PlainSession) (limits : Limits) (cache : PlainCache) (st : Stored) → Stands began (record { log = log; sessions = sessions; limits = limits; cache = cache }) st
    → Stands began (record { log = log; sessions = sessions; limits = limits; cache = no_cache }) st
stored-alone began log sessions limits cache st h = h

-- why one isn't taken, told of the store that is handed back
pub follows-why : (log : Held) (tables : PlainTables) (sessions : List PlainSession) (limits : Limits) (cache : PlainCache) (k : IsKept log tables sessions limits) (new : Held) → HasRoom log new → (text : List ℕ) (fault : FollowFault)
    → (fault ≡ Unlawful → (q : Payload) → MayStand (payloads_of k.added) text q → ⊥) → (fault ≡ Full → log.limit < longer log text)
    → IsWhyNot (record { log = new; sessions = sessions; limits = limits; cache = cache }) text fault
follows-why log tables sessions limits cache k new room text Unlawful none full = λ began st stands p may.
    none refl p (subst (λ l. MayStand l text p)
    (sym (added-are log tables sessions limits k began st (stands-room began new log sessions limits st (ap (λ (l : Held). l.payloads) (sym room)) (stored-alone began new sessions limits cache st stands)))) may)
follows-why log tables sessions limits cache k new room text Full none full =
    let over = full refl in
    let limit = k.limit in
    let same = ap (λ (l : Held). length (log_bytes l)) room in
    omega (arith, over, limit, same)
follows-why log tables sessions limits cache k new room text Memory none full = tt

-- one of them, behind those before it
pub go-on-at : (st : State) (cs : List Written) (k : ℕ) (d : Written) → k < length cs → GoOn st cs → MayGoOn (all_on st (take k cs)).store (get_or cs k d)
go-on-at st [] k d lt h = absurd (omega (arith, lt))
go-on-at st (c ∷ cs) zero d lt h = h.0
go-on-at st (c ∷ cs) (suc k) d lt h = go-on-at (goes_on st c) cs k d (omega (arith, lt)) h.1

-- with one more
pub all-on-more : (st : State) (cs : List Written) (k : ℕ) (d : Written) → k < length cs → all_on st (take (suc k) cs) ≡ goes_on (all_on st (take k cs)) (get_or cs k d)
all-on-more st [] k d lt = absurd (omega (arith, lt))
all-on-more st (c ∷ cs) zero d lt = refl
all-on-more st (c ∷ cs) (suc k) d lt = all-on-more (goes_on st c) cs k d (omega (arith, lt))

-- ---- several

texts-at : (cs : List Written) (k : ℕ) (d : Written) → k < length cs → get_or (texts_of cs) k [] ≡ text_of (get_or cs k d).payload
texts-at [] k d lt = absurd (omega (arith, lt))
texts-at (c ∷ cs) zero d lt = refl
texts-at (c ∷ cs) (suc k) d lt = texts-at cs k d (omega (arith, lt))

-- a store with other room in its log stands for the same states
pub stands-beside-room : (began : ℕ) (store same : PlainStore) (mirrors : List Mirror) (st : State) → same ≡ record store { log = same.log } → HasRoom store.log same.log → StandsBeside began store mirrors st → StandsBeside began same mirrors st
stands-beside-room began store same mirrors st is room h = subst (λ (q : PlainStore). StandsBeside began q mirrors st) (sym is)
    (let s = h.stored in let o = h.outside_of in
    record {
      stored = record { state = s.state; texts = ap (λ (l : Held). l.payloads) room ∙ s.texts; count = s.count; worlds = s.worlds; sessions = s.sessions };
      outside_of = record { has = o.has; once = o.once; fits = o.fits; room = o.room; mirrors_are = o.mirrors_are; outside = o.outside };
    })

-- So many of the payloads were taken, and the store stands for what it stood for, gone on by these.
pub record FollowsSoFar (old : PlainStore) (texts : List (List ℕ)) (k : ℕ) (store : PlainStore) : Type 0 where
  pub taken : HasTaken old (take k texts) store
  pub stands : (began : ℕ) (mirrors : List Mirror) (st : State) (changes : List Written) → StandsBeside began old mirrors st → texts ≡ texts_of changes → GoOn st changes → StandsBeside began store mirrors (all_on st (take k changes))

-- behind one more the gate is a new one
gate-more : (log : Held) (texts : List (List ℕ)) (text : List ℕ) → gate_behind log (texts ++ text ∷ []) ≡ 0
gate-more log [] text = refl
gate-more log (t ∷ ts) text = refl

has-more : (old store next : PlainStore) (texts : List (List ℕ)) (k : ℕ) (text : List ℕ) → k < length texts → text ≡ get_or texts k [] → HasTaken old (take k texts) store → HasTaken store (text ∷ []) next → HasTaken old (take (k + 1) texts) next
has-more old store next texts k text lt is h g = (
  g.0 ∙ ap (λ (q : PlainStore). record q { log = next.log }) h.0,
  g.1 ∙ ap (λ l. l ++ text ∷ []) h.1 ∙ append_assoc old.log.payloads (take k texts) (text ∷ []) ∙ ap (λ t. old.log.payloads ++ (take k texts ++ t ∷ [])) is ∙ ap (λ l. old.log.payloads ++ l) (sym (take_more texts k [] lt)),
  g.2 ∙ sym (gate-more old.log (take k texts) (get_or texts k [])) ∙ ap (gate_behind old.log) (sym (take_more texts k [] lt)),
)

module _ (texts : List (List ℕ)) (k : ℕ) (text : List ℕ) (lt : k < length texts) (is : text ≡ get_or texts k []) where
  -- the one that is taken next
  pub record NextOne (st : State) (changes : List Written) : Type 0 where
    pub change : Written
    pub spelled : IsSpelled text change.payload
    pub may : MayGoOn (all_on st (take k changes)).store change
    pub on : all_on st (take (k + 1) changes) ≡ goes_on (all_on st (take k changes)) change

  pub next-one : (st : State) (changes : List Written) → texts ≡ texts_of changes → GoOn st changes → NextOne st changes
  next-one st [] same on = (let none = ap (length {A = List ℕ}) same in absurd (omega (arith, lt, none)))
  next-one st (c ∷ cs) same on =
      let count = ap (length {A = List ℕ}) same ∙ length-map (c ∷ cs) (λ (w : Written). text_of w.payload) in
      let there : k < length (c ∷ cs) = omega (arith, lt, count) in
      record {
        change = get_or (c ∷ cs) k c;
        spelled = is ∙ ap (λ l. get_or l k []) same ∙ texts-at (c ∷ cs) k c there;
        may = go-on-at st (c ∷ cs) k c there on;
        on = subst (λ n. all_on st (take n (c ∷ cs)) ≡ goes_on (all_on st (take k (c ∷ cs))) (get_or (c ∷ cs) k c)) (let e : suc k ≡ k + 1 = omega arith in e) (all-on-more st (c ∷ cs) k c there);
      }

  pub follow-next : (old store next : PlainStore) → FollowsSoFar old texts k store → HasTaken store (text ∷ []) next
      → ((began : ℕ) (mirrors : List Mirror) (st : State) (c : Written) → StandsBeside began store mirrors st → IsSpelled text c.payload → MayGoOn st.store c → StandsBeside began next mirrors (goes_on st c))
      → FollowsSoFar old texts (k + 1) next
  follow-next old store next f g step = record {
    taken = has-more old store next texts k text lt is f.taken g;
    stands = λ began mirrors st changes h same on.
        let n = next-one st changes same on in
        subst (StandsBeside began next mirrors) (sym n.on) (step began mirrors (all_on st (take k changes)) n.change (f.stands began mirrors st changes h same on) n.spelled n.may);
  }

  pub refused-stands : (old store same : PlainStore) (fault : FollowFault) → FollowsSoFar old texts k store → same ≡ record store { log = same.log } → HasRoom store.log same.log
      → ((began : ℕ) (mirrors : List Mirror) (st : State) (c : Written) → StandsBeside began store mirrors st → IsSpelled text c.payload → MayGoOn st.store c → fault ≡ Unlawful → ⊥)
      → (began : ℕ) (mirrors : List Mirror) (st : State) (changes : List Written) → StandsBeside began old mirrors st → texts ≡ texts_of changes → GoOn st changes
      → StandsBeside began same mirrors (all_on st (take k changes)) × (fault ≡ Unlawful → ⊥)
  refused-stands old store same fault f kept room lawful began mirrors st changes h is_texts on =
      let here = f.stands began mirrors st changes h is_texts on in
      let n = next-one st changes is_texts on in
      (stands-beside-room began store same mirrors (all_on st (take k changes)) kept room here, lawful began mirrors (all_on st (take k changes)) n.change here n.spelled n.may)

-- all were taken
pub follow-end : (old store : PlainStore) (texts : List (List ℕ)) (k : ℕ) → FollowsSoFar old texts k store → length texts ≤ k → HasTaken old texts store
follow-end old store texts k f le =
    let all = take_all k texts le in
    (f.taken.0, f.taken.1 ∙ ap (λ l. old.log.payloads ++ l) all, f.taken.2 ∙ ap (gate_behind old.log) all)

pub follow-end-stands : (old store : PlainStore) (texts : List (List ℕ)) (k : ℕ) → FollowsSoFar old texts k store → length texts ≤ k
    → (began : ℕ) (mirrors : List Mirror) (st : State) (changes : List Written) → StandsBeside began old mirrors st → texts ≡ texts_of changes → GoOn st changes → StandsBeside began store mirrors (all_on st changes)
follow-end-stands old store texts k f le began mirrors st changes h is on =
    let count = ap (length {A = List ℕ}) is ∙ length-map changes (λ (w : Written). text_of w.payload) in
    subst (λ l. StandsBeside began store mirrors (all_on st l)) (take_all k changes (omega (arith, le, count))) (f.stands began mirrors st changes h is on)
