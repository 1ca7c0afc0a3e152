-- A change says nothing of the commits of master that were there before.
use Rattle.std.proofs.Common.{◌≡◌, ◌<◌, ◌≤◌, ◌||◌, ℕ, Bool, false, cond, List, [], ◌∷◌, ◌++◌, map, filter, length, nat_eq, nat_lt, refl, sym, ap, ap₂, ◌∙◌, subst, arith, append-nil, append_assoc}
use Rattle.std.proofs.lemmas.Bool.{le-ltb, ne_eqb}
use Rattle.std.specs.List.{AllByRecursion}
use Rattle.id_groups.specs.Lists.{is_in}
use Rattle.id_groups.specs.Name.{Name}
use Rattle.commit_graph.specs.World.{World, GrowsMaster}
use Rattle.batch_codec.specs.Payload.{Payload, Known}
use Rattle.change_rules.specs.declared.Limits.{Limits}
use Rattle.change_rules.specs.Lawful.{AreLawful}
use Rattle.change_rules.specs.Holding.{HoldPayloads}
use Rattle.core_rules.specs.Cores.{Written}
use Rattle.core_rules.specs.Taking.{AllMayCome}

behind : (before front more : List Payload) → AreLawful before (front ++ more) → AreLawful (before ++ front) more
behind before [] more h = subst (λ l. AreLawful l more) (sym (append-nil before)) h
behind before (p ∷ front) more h = subst (λ l. AreLawful l more) (append_assoc before (p ∷ []) front) (behind (before ++ p ∷ []) front more h.1)

own-above : (n before after : ℕ) (ks : List Known) → n ≤ before → AllByRecursion (λ id. (before ≤ id) × (id < after)) (map (λ (k : Known). k.id) ks) → AllByRecursion (λ (k : Known). n ≤ k.id) ks
own-above n before after [] le h = tt
own-above n before after (k ∷ ks) le h = (let x = h.0.0 in omega (arith, le, x), own-above n before after ks le h.1)

pub none-below : (n id : ℕ) (ks : List Known) → AllByRecursion (λ (k : Known). n ≤ k.id) ks → id < n → is_in nat_eq id (map (λ (k : Known). k.id) ks) ≡ false
none-below n id [] h lt = refl
none-below n id (k ∷ ks) h lt =
    let x = h.0 in
    ap₂ (λ (a b : Bool). a || b) (ne_eqb id k.id (λ e. absurd (omega (arith, e, x, lt)))) (none-below n id ks h.1 lt)

pub none-kept : (n m : ℕ) (ks : List Known) → AllByRecursion (λ (k : Known). n ≤ k.id) ks → m ≤ n → filter (λ (k : Known). nat_lt k.id m) ks ≡ []
none-kept n m [] h le = refl
none-kept n m (k ∷ ks) h le =
    let x = h.0 in
    ap (λ (b : Bool). cond b (k ∷ filter (λ (c : Known). nat_lt c.id m) ks) (filter (λ (c : Known). nat_lt c.id m) ks)) (le-ltb k.id m (omega (arith, le, x))) ∙ none-kept n m ks h.1 le

-- it has names for none of them
abbrev pub IsAbove : World Name → Payload → Type 0
IsAbove w p = AllByRecursion (λ (k : Known). length w.master ≤ k.id) p.known

pub is-above : (payloads : List Payload) (p : Payload) (w v : World Name) → HoldPayloads payloads w → HoldPayloads (payloads ++ p ∷ []) v → IsAbove w p
is-above payloads p w v h next =
    let follows = (behind [] payloads (p ∷ []) next.lawful).0 in
    let count = follows.count in
    let all = h.stand.count in
    own-above (length w.master) p.before p.after p.known (omega (arith, count, all)) follows.whole.known.within

pub is-late : (payloads : List Payload) (p : Payload) (w v : World Name) → HoldPayloads payloads w → HoldPayloads (payloads ++ p ∷ []) v
    → (n : ℕ) → n < length w.master → is_in nat_eq n (map (λ (k : Known). k.id) p.known) ≡ false
is-late payloads p w v h next n lt = none-below (length w.master) n p.known (is-above payloads p w v h next) lt

-- each of these, one behind the other
abbrev pub AllAbove : World Name → List Written → Type 0
AllAbove w [] = Unit {0}
AllAbove w (x ∷ more) = IsAbove w x.payload × GrowsMaster w x.world × AllAbove x.world more

pub all-above : (limits : Limits) (w : World Name) (payloads : List Payload) (more : List Written) → HoldPayloads payloads w → AllMayCome limits w payloads more → AllAbove w more
all-above limits w payloads [] h come = tt
all-above limits w payloads (x ∷ more) h come =
    (is-above payloads x.payload w x.world h come.0.hold, come.0.grows, all-above limits x.world (payloads ++ x.payload ∷ []) more come.0.hold come.1)
