-- Mirrors whose masters begin with the cloned commits do so through each command.
use Rattle.std.proofs.Common.{◌≡◌, ◌≤◌, ◌⊎◌, ⊎_elim, ℕ, zero, suc, Bool, true, false, inl, inr, List, [], ◌∷◌, ◌++◌, length, take, nat_lt, Option, Some, None, is_some, refl, sym, ap, subst, ◌∙◌, MatchOption, arith, length-append, append-nil, append_assoc, le_refl, le_trans, true≢false, if◌then◌else◌}
use Rattle.std.specs.Bool.{MatchBool}
use Rattle.std.specs.List.{AllByRecursion}
use Rattle.std.proofs.lemmas.Bool.{lt-ltb}
use Rattle.std.proofs.lemmas.List.{take_all}
use Rattle.id_groups.specs.Lists.{IsIn}
use Rattle.id_groups.specs.Name.{Name, same_name}
use Rattle.commit_graph.specs.World.{Row, World, GrowsMaster, rows_of}
use Rattle.commit_graph.specs.Ids.{id_in}
use Rattle.commit_graph.proofs.Naming.{each, all-each}
use Rattle.batch_codec.specs.Payload.{Payload}
use Rattle.change_rules.specs.declared.Limits.{Limits}
use Rattle.change_rules.specs.Strip.{stripped}
use Rattle.change_rules.specs.Pull.{pulled}
use Rattle.change_rules.specs.Change.{flush_change, clone_change}
use Rattle.change_rules.specs.Tables.{cloned_count}
use Rattle.remote_rules.specs.CloneData.{KnownName}
use Rattle.remote_rules.specs.Mirror.{Mirror}
use Rattle.remote_rules.specs.Known.{master_alone, master_world}
use Rattle.remote_rules.specs.Honest.{IsHonest, IsSoundMirror}
use Rattle.remote_rules.specs.Calls.{IsCloned, IsPulled, MasterGoesOn}
use Rattle.remote_rules.specs.Serving.{BeginsWith}
use Rattle.remote_rules.specs.declared.MirrorFault.{MirrorFault}
use Rattle.step_rules.specs.declared.Refusal.{Refusal}
use Rattle.step_rules.specs.declared.Refusal.TheVariants as why
use Rattle.step_rules.specs.State.{State, Stored, IsState, pending_of, base_of, view_of, on_newest, with_stored}
use Rattle.step_rules.specs.Verb.{Verb, Add, Flush, Reload, Discard, Query, Count, IdOf, Status, Levels, Clone, Pull, Strip, CountMirrors, Drop}
use Rattle.step_rules.specs.Reply.{Reply, Refused, Added, Old, Listed, Dropped, Cloned, Pulled}
use Rattle.step_rules.specs.Worlds.{has, same_world, flush_of, after_change, after_flush, with_added}
use Rattle.step_rules.specs.Tests.{first_some, refuse_if, refused_first, tests}
use Rattle.step_rules.specs.Asking.{refusal_for}
use Rattle.step_rules.specs.Step.{IsTold, TakesFrom, Clones, Pulls, AnsweredFirst, Answers, CommandStep, GoesOutside, IsRefused, UnlessRefused, MayWantMemory, answer_tests, clone_tests, pull_tests, without}
use Rattle.step_rules.proofs.Trying.{Outer, tried-all}
use Rattle.step_rules.proofs.Own.{refusals}
use Rattle.step_rules.proofs.Steps.{not-tested, flushed-world, some-none, first-none-cons}
use Rattle.step_rules.proofs.Origins.{GoesTo, ComeFrom, asks-from, tries-from}
use Rattle.step_rules.proofs.Served.{without-in}
use Rattle.run_rules.specs.Premises.{HaveOneOrder}

-- ---- mirrors

-- they are one at most, or settled and of one order
abbrev pub MayBeCloned : List Mirror → Type 0
MayBeCloned mirrors = (length mirrors ≤ 1) ⊎ (AllByRecursion (λ (m : Mirror). m.settled ≡ true) mirrors × HaveOneOrder mirrors)

told-on : (b : Bool) (o : Option (List (Row Name))) (r : List (Row Name)) → MasterGoesOn b (Some r) o → (q : List (Row Name)) × (o ≡ Some q) × (more : List (Row Name)) × (q ≡ r ++ more)
told-on b None r h = absurd h
told-on true (Some q) r h = (q, refl, [], h ∙ sym (append-nil r))
told-on false (Some q) r h = (q, refl, h.0, h.1)

pub begins-on : (cloned : ℕ) (w : World Name) (k m : Mirror) → GoesTo k m → BeginsWith cloned w k → BeginsWith cloned w m
begins-on cloned w k m g (r, told, honest, more, begins) =
    let on = told-on k.settled m.master r (subst (λ o. MasterGoesOn k.settled o m.master) told g.master) in
    let sound : IsSoundMirror m = g.sound (subst (λ o. MatchOption o (Unit {0}) (IsHonest k.cloned)) (sym told) honest) in
    (on.0, on.1, subst (λ o. MatchOption o (Unit {0}) (IsHonest m.cloned)) on.1 sound, more ++ on.2, on.3 ∙ ap (λ l. l ++ on.2) begins ∙ append_assoc (take cloned w.master) more on.2)

settled-same : (k m : Mirror) → GoesTo k m → k.settled ≡ true → m.master ≡ k.master
settled-same k m g e = by_master k.master m.master (subst (λ b. MasterGoesOn b k.master m.master) e g.master) g.tells
  where
    by_master : (x y : Option (List (Row Name))) → MasterGoesOn true x y → is_some y ≡ is_some x → y ≡ x
    by_master None None h t = refl
    by_master None (Some w) h t = absurd (true≢false t)
    by_master (Some w) None h t = absurd h
    by_master (Some w) (Some v) h t = ap Some h

abbrev IsSettled : Mirror → Type 0
IsSettled m = m.settled ≡ true

cloned-on : (old new : List Mirror) → ComeFrom old new → MayBeCloned old → MayBeCloned new
cloned-on old new f (inl le) = inl (subst (λ n. n ≤ 1) (sym f.count) le)
cloned-on old new f (inr (settled, order)) = inr (
  all-each IsSettled new (λ m i. let x = f.each_from m i in x.2.settled ∙ each IsSettled old settled x.0 x.1),
  λ m n q r i j e g.
      let x = f.each_from m i in
      let y = f.each_from n j in
      let xs = settled-same x.0 m x.2 (each IsSettled old settled x.0 x.1) in
      let ys = settled-same y.0 n y.2 (each IsSettled old settled y.0 y.1) in
      order x.0 y.0 q r x.1 y.1 (sym xs ∙ e) (sym ys ∙ g),
)

without-fewer : (k : ℕ) (xs : List Mirror) → length (without k xs) ≤ length xs
without-fewer zero [] = le_refl 0
without-fewer zero (x ∷ xs) = (let n : length xs ≤ length xs = le_refl (length xs) in omega (arith, n))
without-fewer (suc k) [] = le_refl 0
without-fewer (suc k) (x ∷ xs) = (let n = without-fewer k xs in omega (arith, n))

cloned-without : (k : ℕ) (mirrors : List Mirror) → MayBeCloned mirrors → MayBeCloned (without k mirrors)
cloned-without k mirrors (inl le) = inl (le_trans (without-fewer k mirrors) le)
cloned-without k mirrors (inr (settled, order)) = inr (
  all-each IsSettled (without k mirrors) (λ m i. each IsSettled mirrors settled m (without-in k mirrors m i)),
  λ m n q r i j. order m n q r (without-in k mirrors m i) (without-in k mirrors n j),
)

-- ---- what is stored

-- the cloned commits are there, and each mirror's master begins with them
abbrev pub Begun : Stored → List Mirror → Type 0
Begun st mirrors = (cloned_count st.payloads ≤ length st.stored.master) × AllByRecursion (BeginsWith (cloned_count st.payloads) st.stored) mirrors

count-kept : (payloads : List Payload) (old new : World Name) → cloned_count (payloads ++ flush_change old new ∷ []) ≡ cloned_count payloads
count-kept [] old new = refl
count-kept (p ∷ payloads) old new = refl

count-cloned : (payloads : List Payload) (r : World Name) → (cloned_count (payloads ++ clone_change r ∷ []) ≡ length r.master) ⊎ (cloned_count (payloads ++ clone_change r ∷ []) ≡ cloned_count payloads)
count-cloned [] r = inl refl
count-cloned (p ∷ payloads) r = inr refl

take-front : {X : Type 0} (n : ℕ) (xs ys : List X) → n ≤ length xs → take n (xs ++ ys) ≡ take n xs
take-front zero xs ys le = refl
take-front (suc n) [] ys le = absurd (omega (arith, le))
take-front (suc n) (x ∷ xs) ys le = ap (λ l. x ∷ l) (take-front n xs ys (omega (arith, le)))

none-taken : {X : Type 0} (n : ℕ) (xs : List X) → n ≤ 0 → take n xs ≡ []
none-taken zero xs le = refl
none-taken (suc n) xs le = absurd (omega (arith, le))

abbrev MayHave : List Payload → World Name → List Mirror → Type 0
MayHave payloads w mirrors = (cloned_count payloads ≤ length w.master) × AllByRecursion (BeginsWith (cloned_count payloads) w) mirrors

changed-begun : (st : Stored) (s : ℕ) (new : World Name) (payload : Payload) (mirrors : List Mirror) → MayHave st.payloads st.stored mirrors → MayHave (st.payloads ++ payload ∷ []) new mirrors
    → MayHave (after_change st s new payload).payloads (after_change st s new payload).stored mirrors
changed-begun st s new payload mirrors h k = by_test (same_world new st.stored)
  where
    by_test : (b : Bool) → MayHave (if b then on_newest st s [] else on_newest (with_stored st new payload) s []).payloads (if b then on_newest st s [] else on_newest (with_stored st new payload) s []).stored mirrors
    by_test true = h
    by_test false = k

flush-begun : (st : Stored) (s : ℕ) (new : World Name) (mirrors : List Mirror) → Begun st mirrors → GrowsMaster st.stored new → Begun (after_flush st s new) mirrors
flush-begun st s new mirrors h grown =
    let e = count-kept st.payloads st.stored new in
    let cloned = cloned_count st.payloads in
    let more = st.payloads ++ flush_change st.stored new ∷ [] in
    let longer = ap length grown.1 ∙ length-append st.stored.master grown.0 in
    let least = h.0 in
    let front : take (cloned_count more) new.master ≡ take cloned st.stored.master = ap (λ n. take n new.master) e ∙ ap (take cloned) grown.1 ∙ take-front cloned st.stored.master grown.0 least in
    changed-begun st s new (flush_change st.stored new) mirrors h (
      subst (λ n. n ≤ length new.master) (sym e) (omega (arith, longer, least)),
      all-each (BeginsWith (cloned_count more) new) mirrors (λ m i. let b = each (BeginsWith cloned st.stored) mirrors h.1 m i in (b.0, b.1, b.2, b.3, b.4 ∙ ap (λ l. l ++ b.3) (sym front))),
    )

abbrev or_this : {X : Type 0} → X → Option X → X
or_this d None = d
or_this d (Some x) = x

some-of : {X : Type 0} (x y : X) → Some x ≡ Some y → x ≡ y
some-of x y e = ap (or_this x) e

-- who was cloned stands in front, and each other has its rows
cloned-rows : (r : List (Row Name)) (mirrors : List Mirror) → AnsweredFirst mirrors r → MayBeCloned mirrors → (m : Mirror) → IsIn m mirrors → (q : List (Row Name)) → m.master ≡ Some q → q ≡ r
cloned-rows r [] a c m i q t = absurd i
cloned-rows r (x ∷ more) a (inl le) m (inl e) q t = some-of q r (sym t ∙ ap (λ (z : Mirror). z.master) e ∙ a)
cloned-rows r (x ∷ []) a (inl le) m (inr i) q t = absurd i
cloned-rows r (x ∷ y ∷ more) a (inl le) m (inr i) q t = absurd (omega (arith, le))
cloned-rows r (x ∷ more) a (inr (settled, order)) m i q t = order m x q r i (inl refl) t a

clone-begun : (st : Stored) (s : ℕ) (r : World Name) (mirrors : List Mirror) → Begun st mirrors → st.stored.master ≡ [] → MayBeCloned mirrors → AnsweredFirst mirrors r.master
    → Begun (after_change st s (master_alone r) (clone_change r)) mirrors
clone-begun st s r mirrors h empty choice a = changed-begun st s (master_alone r) (clone_change r) mirrors h (⊎_elim whole none (count-cloned st.payloads r))
  where
    whole : cloned_count (st.payloads ++ clone_change r ∷ []) ≡ length r.master → MayHave (st.payloads ++ clone_change r ∷ []) (master_alone r) mirrors
    whole e = (
      subst (λ n. n ≤ length r.master) (sym e) (le_refl _),
      all-each (BeginsWith (cloned_count (st.payloads ++ clone_change r ∷ [])) (master_alone r)) mirrors (λ m i. let b = each (BeginsWith (cloned_count st.payloads) st.stored) mirrors h.1 m i in
          let all : take (cloned_count (st.payloads ++ clone_change r ∷ [])) r.master ≡ r.master = take_all (cloned_count (st.payloads ++ clone_change r ∷ [])) r.master (let f = e in omega (arith, f)) in
          (b.0, b.1, b.2, [], cloned-rows r.master mirrors a choice m i b.0 b.1 ∙ sym all ∙ sym (append-nil (take (cloned_count (st.payloads ++ clone_change r ∷ [])) r.master)))),
    )

    none : cloned_count (st.payloads ++ clone_change r ∷ []) ≡ cloned_count st.payloads → MayHave (st.payloads ++ clone_change r ∷ []) (master_alone r) mirrors
    none e =
        let zero_count : cloned_count (st.payloads ++ clone_change r ∷ []) ≤ 0 = (let c = h.0 in let l = ap length empty in let f = e in omega (arith, c, l, f)) in (
          (let z = zero_count in omega (arith, z)),
          all-each (BeginsWith (cloned_count (st.payloads ++ clone_change r ∷ [])) (master_alone r)) mirrors (λ m i. let b = each (BeginsWith (cloned_count st.payloads) st.stored) mirrors h.1 m i in
              (b.0, b.1, b.2, b.0, ap (λ l. l ++ b.0) (sym (none-taken (cloned_count (st.payloads ++ clone_change r ∷ [])) r.master zero_count)))),
        )

few-rows : (n : ℕ) (r : Refusal) → refuse_if (nat_lt 0 n) r ≡ None → n ≡ 0
few-rows zero r e = refl
few-rows (suc n) r e = absurd (some-none r (sym (ap (λ b. refuse_if b r) (lt-ltb 0 (suc n) (omega arith))) ∙ e))

none-long : {X : Type 0} (xs : List X) → length xs ≡ 0 → xs ≡ []
none-long [] e = refl
none-long (x ∷ xs) e = absurd (omega (arith, e))

module _ (limits : Limits) (st : State) (s : ℕ) (h : IsState st) (clones : Type 0) (begun : Begun st.store st.outside.mirrors) (choice : clones → length (rows_of st.store.stored) ≡ 0 → MayBeCloned st.outside.mirrors) where
  -- the part of a state that this is about; whether mirrors may be cloned matters where nothing was stored
  abbrev IsNow : Stored → List Mirror → Type 0
  IsNow now mirrors = Begun now mirrors × (clones → length (rows_of st.store.stored) ≡ 0 → MayBeCloned mirrors)

  before : IsNow st.store st.outside.mirrors
  before = (begun, choice)

  same-now : (now : Stored) (mirrors : List Mirror) → now ≡ st.store → IsNow st.store mirrors → IsNow now mirrors
  same-now now mirrors e k = subst (λ z. IsNow z mirrors) (sym e) k

  told-now : (verb : Verb) (reply : Reply) (now : Stored) (mirrors : List Mirror) → first_some (refusals limits (base_of st.store s) (pending_of st.store s) st.store.stored verb) ≡ None
      → IsTold st.store s verb reply now → IsNow st.store mirrors → IsNow now mirrors
  told-now (Add name parents) reply now mirrors none t k = by_test (has (view_of st.store s) name) t
    where
      by_test : (b : Bool) → MatchBool b ((reply ≡ Old (id_in same_name (view_of st.store s) name)) × (now ≡ st.store))
          ((reply ≡ Added (id_in same_name (view_of (with_added st.store s name parents) s) name)) × (now ≡ with_added st.store s name parents)) → IsNow now mirrors
      by_test true g = same-now now mirrors g.1 k
      by_test false g = subst (λ z. IsNow z mirrors) (sym g.1) k
  told-now (Flush heads) reply now mirrors none t k =
      subst (λ z. IsNow z mirrors) (sym t.1) (flush-begun st.store s (flush_of st.store s heads) mirrors k.0 (flushed-world st.store s h.store limits heads none).1, k.1)
  told-now (Strip names) reply now mirrors none t k =
      subst (λ z. IsNow z mirrors) (sym t.1) (flush-begun st.store s (stripped same_name st.store.stored names) mirrors k.0 ([], sym (append-nil st.store.stored.master)), k.1)
  told-now Reload reply now mirrors none t k = subst (λ z. IsNow z mirrors) (sym t.1) k
  told-now Discard reply now mirrors none t k = subst (λ z. IsNow z mirrors) (sym t.1) k
  told-now (Count e) reply now mirrors none t k = same-now now mirrors t.3 k
  told-now (IdOf name) reply now mirrors none t k = same-now now mirrors t.1 k
  told-now Status reply now mirrors none t k = same-now now mirrors t.1 k
  told-now Levels reply now mirrors none t k = same-now now mirrors t.1 k
  told-now (Query e) reply now mirrors none t k = absurd t
  told-now Clone reply now mirrors none t k = absurd t
  told-now Pull reply now mirrors none t k = absurd t
  told-now CountMirrors reply now mirrors none t k = absurd t
  told-now (Drop n) reply now mirrors none t k = absurd t

  on : (old new : List Mirror) → ComeFrom old new → IsNow st.store old → IsNow st.store new
  on old new f k = (
    (
      k.0.0,
      all-each (BeginsWith (cloned_count st.store.payloads) st.store.stored) new
          (λ m i. let x = f.each_from m i in begins-on (cloned_count st.store.payloads) st.store.stored x.0 m x.2 (each (BeginsWith (cloned_count st.store.payloads) st.store.stored) old k.0.1 x.0 x.1)),
    ),
    λ c z. cloned-on old new f (k.1 c z),
  )

  unless-now : (rs : List (Option Refusal)) (Goes : Reply → Stored → Type 0) (reply : Reply) (now : Stored) (mirrors : List Mirror) → (Goes reply now → IsNow now mirrors) → IsNow st.store mirrors
      → UnlessRefused rs st.store Goes reply now → IsNow now mirrors
  unless-now rs Goes reply now mirrors f k (inl g) = by_test (first_some rs) g
    where
      by_test : (o : Option Refusal) → MatchOption o (Goes reply now) (λ refusal. IsRefused st.store refusal reply now) → IsNow now mirrors
      by_test None g = f g
      by_test (Some r) g = same-now now mirrors g.1 k
  unless-now rs Goes reply now mirrors f k (inr m) = same-now now mirrors m.1 k

  abbrev IsSo : State → Type 0
  IsSo st' = IsNow st'.store st'.outside.mirrors

  made : (st' : State) (mirrors : List Mirror) → st'.outside.mirrors ≡ mirrors → IsNow st'.store mirrors → IsSo st'
  made st' mirrors e k = subst (λ l. IsNow st'.store l) (sym e) k

  taken-now : (Does : Mirror → Mirror → Type 0) (goes : (m asked : Mirror) → Does m asked → GoesTo m asked) (Makes : World Name → Reply → Stored → Type 0) (mirrors : List Mirror) (found : List KnownName) (reply : Reply) (st' : State)
      → IsNow st.store mirrors → ((rows : List (Row Name)) (new : List Mirror) → AnsweredFirst new rows → IsNow st.store new → Makes (master_world rows) reply st'.store → IsNow st'.store new) → TakesFrom Does Makes st mirrors found reply st' → IsSo st'
  taken-now Does goes Makes mirrors found reply st' k f (end, new, asks, out, ends) =
      made st' new out.mirrors_are (by_end end ends (on mirrors new (asks-from Does goes mirrors new end asks) k))
    where
      by_end : (o : Option MirrorFault) → MatchOption o ((rows : List (Row Name)) × AnsweredFirst new rows × Makes (master_world rows) reply st'.store) (λ fault. IsRefused st.store (refusal_for fault) reply st'.store) → IsNow st.store new → IsNow st'.store new
      by_end None g l = f g.0 new g.1 l g.2
      by_end (Some x) g l = same-now st'.store new g.1 l

  -- nothing is stored where a clone isn't refused
  no-rows : first_some (refusals limits (base_of st.store s) (pending_of st.store s) st.store.stored Clone) ≡ None → length (rows_of st.store.stored) ≡ 0
  no-rows none =
      few-rows (length (rows_of st.store.stored)) (why.NotEmpty (length st.store.stored.master) (length st.store.stored.others))
      (first-none-cons (refuse_if (nat_lt 0 (length (rows_of st.store.stored))) (why.NotEmpty (length st.store.stored.master) (length st.store.stored.others)))
      (refuse_if (nat_lt 0 (length (pending_of st.store s))) (why.Pending (length (pending_of st.store s))) ∷ []) none).0

  no-master : length (rows_of st.store.stored) ≡ 0 → st.store.stored.master ≡ []
  no-master z = let l = length-append st.store.stored.master st.store.stored.others in none-long st.store.stored.master (omega (arith, z, l))

  answers-now : (verb : Verb) (mirrors : List Mirror) (found : List KnownName) (reply : Reply) (st' : State) → (verb ≡ Clone → clones) → first_some (refusals limits (base_of st.store s) (pending_of st.store s) st.store.stored verb) ≡ None
      → IsNow st.store mirrors → Answers limits st s verb mirrors found reply st' → IsSo st'
  answers-now (Add name parents) mirrors found reply st' may none k a = made st' mirrors a.1.mirrors_are (told-now (Add name parents) reply st'.store mirrors none a.0 k)
  answers-now (Flush heads) mirrors found reply st' may none k a = made st' mirrors a.1.mirrors_are (told-now (Flush heads) reply st'.store mirrors none a.0 k)
  answers-now (Strip names) mirrors found reply st' may none k a = made st' mirrors a.1.mirrors_are (told-now (Strip names) reply st'.store mirrors none a.0 k)
  answers-now Reload mirrors found reply st' may none k a = made st' mirrors a.1.mirrors_are (told-now Reload reply st'.store mirrors none a.0 k)
  answers-now Discard mirrors found reply st' may none k a = made st' mirrors a.1.mirrors_are (told-now Discard reply st'.store mirrors none a.0 k)
  answers-now (Count e) mirrors found reply st' may none k a = made st' mirrors a.1.mirrors_are (told-now (Count e) reply st'.store mirrors none a.0 k)
  answers-now (IdOf name) mirrors found reply st' may none k a = made st' mirrors a.1.mirrors_are (told-now (IdOf name) reply st'.store mirrors none a.0 k)
  answers-now Status mirrors found reply st' may none k a = made st' mirrors a.1.mirrors_are (told-now Status reply st'.store mirrors none a.0 k)
  answers-now Levels mirrors found reply st' may none k a = made st' mirrors a.1.mirrors_are (told-now Levels reply st'.store mirrors none a.0 k)
  answers-now (Query e) mirrors found reply st' may none k (names, is, verdict, new, fetched, tries, out, ends) =
      made st' new out.mirrors_are (by_test verdict ends (on mirrors new (tries-from (Unit {0}) mirrors new (answer_tests limits st s found names) verdict fetched tries) k))
    where
      by_test : (o : Option Refusal) → MatchOption o ((reply ≡ Listed names) × (st'.store ≡ st.store)) (λ refusal. IsRefused st.store refusal reply st'.store) → IsNow st.store new → IsNow st'.store new
      by_test None g l = same-now st'.store new g.1 l
      by_test (Some r) g l = same-now st'.store new g.1 l
  answers-now Clone mirrors found reply st' may none k a =
      taken-now IsCloned (λ m asked d. record { settled = d.keeps.settled; master = d.master; tells = d.keeps.tells_master; sound = d.keeps.sound }) (Clones limits st.store s) mirrors found reply st' k
      (λ rows new front l. let r : World Name = master_world rows in unless-now (clone_tests limits st.store r) (λ told now. (told ≡ Cloned (length r.master)) × (now ≡ after_change st.store s (master_alone r) (clone_change r))) reply st'.store new
      (λ g. let z = no-rows none in subst (λ z. IsNow z new) (sym g.1) (clone-begun st.store s r new l.0 (no-master z) (l.1 (may refl) z) front, l.1)) l) a
  answers-now Pull mirrors found reply st' may none k a =
      taken-now (IsPulled (cloned_count st.store.payloads)) (λ m asked d. record { settled = d.keeps.settled; master = d.master; tells = d.keeps.tells_master; sound = d.keeps.sound }) (Pulls limits st.store s) mirrors found reply st' k
      (λ rows new front l. let r : World Name = master_world rows in unless-now (pull_tests limits st.store r)
      (λ told now. (told ≡ Pulled (length (pulled same_name st.store.stored r).master) (length (pulled same_name st.store.stored r).others)) × (now ≡ after_flush st.store s (pulled same_name st.store.stored r))) reply st'.store new
      (λ g. subst (λ z. IsNow z new) (sym g.1) (flush-begun st.store s (pulled same_name st.store.stored r) new l.0 (_, refl), l.1)) l) a
  answers-now CountMirrors mirrors found reply st' may none k a = subst IsSo (sym a.1) before
  answers-now (Drop n) mirrors found reply st' may none k a = by_test (nat_lt n (length mirrors)) a
    where
      by_test : (b : Bool) → MatchBool b ((reply ≡ Dropped (length (without n mirrors))) × (st' ≡ record st { outside = record st.outside { mirrors = without n mirrors } })) ((reply ≡ Refused why.NoRemote) × (st' ≡ st)) → IsSo st'
      by_test true g = subst IsSo (sym g.1) (
        (
          k.0.0,
          all-each (BeginsWith (cloned_count st.store.payloads) st.store.stored) (without n mirrors) (λ m i. each (BeginsWith (cloned_count st.store.payloads) st.store.stored) mirrors k.0.1 m (without-in n mirrors m i)),
        ),
        λ c z. cloned-without n mirrors (k.1 c z),
      )
      by_test false g = subst IsSo (sym g.1) before

  pub step-begun : (verb : Verb) (reply : Reply) (st' : State) → (verb ≡ Clone → clones) → CommandStep limits st s verb reply st'
      → Begun st'.store st'.outside.mirrors × (clones → length (rows_of st.store.stored) ≡ 0 → MayBeCloned st'.outside.mirrors)
  step-begun verb reply st' may (verdict, mirrors, found, tries, ends) =
      by_test verdict (tried-all (MayWantMemory verb) st.outside.mirrors mirrors (tests limits st.store s verb) verdict found tries) ends
    where
      came : IsNow st.store mirrors
      came = on st.outside.mirrors mirrors (tries-from (MayWantMemory verb) st.outside.mirrors mirrors (tests limits st.store s verb) verdict found tries) (begun, choice)

      by_test : (o : Option Refusal) → (o ≡ refused_first (tests limits st.store s verb)) ⊎ Outer o
          → MatchOption o (Answers limits st s verb mirrors found reply st') (λ refusal. IsRefused st.store refusal reply st'.store × GoesOutside st.outside mirrors found st'.outside) → IsSo st'
      by_test None t a = answers-now verb mirrors found reply st' may (not-tested limits st.store s verb t) came a
      by_test (Some r) t a = made st' mirrors a.1.mirrors_are (same-now st'.store mirrors a.0.1 came)
