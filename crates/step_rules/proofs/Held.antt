-- The payloads of the log hold the stored world through each command.
use Rattle.std.proofs.Common.{◌≡◌, ◌≤◌, ◌<◌, ◌⊎◌, ◌&&◌, not, ℕ, suc, Bool, true, false, cond, inl, inr, List, [], ◌∷◌, ◌++◌, length, map, filter, nat_lt, Option, Some, None, refl, sym, ap, ap₂, subst, ◌∙◌, ⊎_elim, MatchOption, true≢false, arith, length-append, append-nil, le_refl, zero-le, le_trans, if◌then◌else◌}
use Rattle.std.proofs.lemmas.Bool.{ltb-false, ltb-true}
use Rattle.std.proofs.lemmas.List.{map-append}
use Rattle.std.specs.List.{last_or}
use Rattle.std.specs.Bool.{MatchBool}
use Rattle.std.specs.Cmp.Lexicographic.{pointwise}
use Rattle.id_groups.specs.Lists.{IsIn, is_in}
use Rattle.id_groups.specs.Name.{Name, same_name}
use Rattle.id_groups.proofs.Names.{same_name-exact, same_name-self}
use Rattle.id_groups.proofs.Listing.{found}
use Rattle.commit_graph.specs.World.{Row, World, IsNamedWorld, rows_of, names_of, with_pending}
use Rattle.commit_graph.specs.Ids.{id_in}
use Rattle.commit_graph.proofs.Histories.{in-append}
use Rattle.commit_graph.proofs.Down.{in-left, in-right}
use Rattle.batch_codec.specs.Payload.{Payload}
use Rattle.batch_codec.specs.Grammar.{IsFlush, IsClone, IsWholePayload, count_after}
use Rattle.change_rules.specs.Lawful.{AreLawful}
use Rattle.gated_log.specs.Log.{log_length}
use Rattle.change_rules.specs.declared.Limits.{Limits}
use Rattle.change_rules.specs.declared.Limit.{Limit}
use Rattle.change_rules.specs.declared.Limit.TheVariants as limit
use Rattle.change_rules.specs.Standard.{standard, most_heads, AreLimits}
use Rattle.change_rules.specs.Flush.{rows_outside}
use Rattle.change_rules.specs.Strip.{stripped}
use Rattle.change_rules.specs.Pull.{pulled}
use Rattle.change_rules.specs.Change.{flush_change, clone_change, text_of}
use Rattle.change_rules.specs.Tables.{other_names_in, cloned_count}
use Rattle.change_rules.specs.Holding.{HoldPayloads}
use Rattle.change_rules.proofs.Held.{change-held}
use Rattle.change_rules.proofs.Changes.{names-length}
use Rattle.remote_rules.specs.CloneData.{KnownName}
use Rattle.remote_rules.specs.Mirror.{Mirror}
use Rattle.remote_rules.specs.Calls.{IsCloned, IsPulled}
use Rattle.remote_rules.specs.Known.{master_alone, master_world}
use Rattle.remote_rules.specs.Honest.{heads_of}
use Rattle.change_rules.proofs.Cloned.{clone-held}
use Rattle.commit_graph.proofs.Naming.{named-by}
use Rattle.remote_rules.specs.declared.MirrorFault.{MirrorFault}
use Rattle.step_rules.specs.declared.Refusal.{Refusal}
use Rattle.step_rules.specs.declared.Refusal.TheVariants as why
use Rattle.step_rules.specs.State.{State, Stored, IsState, IsHeld, pending_of, base_of, view_of, on_newest, with_stored}
use Rattle.step_rules.specs.Worlds.{same_world, same_row, log_after, after_flush, after_change}
use Rattle.step_rules.specs.Tests.{full, refuse_if, first_some}
use Rattle.std.specs.List.{list_any}
use Rattle.std.specs.Option.{option_map}
use Rattle.commit_graph.specs.Graph.{graph_of}
use Rattle.commit_graph.specs.Search.{reaches_in}
use Rattle.change_rules.specs.Rebase.{first_lost, first_conflict}
use Rattle.step_rules.specs.Verb.{Verb, Add, Flush, Reload, Discard, Query, Count, IdOf, Status, Levels, Clone, Pull, Strip, CountMirrors, Drop}
use Rattle.step_rules.specs.Worlds.{flush_of, has, with_added}
use Rattle.step_rules.specs.Tests.{unknown, not_strippable, refused_first, tests}
use Rattle.step_rules.specs.Step.{IsTold, Clones, Pulls, clone_tests, TakesFrom, AnsweredFirst, Answers, CommandStep, GoesOutside, IsRefused, MayWantMemory, pull_tests, without}
use Rattle.step_rules.specs.Asking.{refusal_for}
use Rattle.step_rules.specs.Reply.{Reply, Refused, Added, Old, Listed, Dropped, Cloned, Pulled}
use Rattle.step_rules.proofs.Trying.{Outer, tried-all}
use Rattle.step_rules.proofs.Soundness.{AreSound, asks-sound, tries-sound}
use Rattle.step_rules.proofs.Own.{refusals}
use Rattle.step_rules.proofs.OwnSteps.{log_part, first-tests}
use Rattle.step_rules.proofs.Steps.{some-none, first-none-append, first-none-cons, not-refused, flushed-world, stripped-world, pulled-world, front-sound, master-world, master-names}

-- what isn't refused as full is within the limit
pub within-limit : (what : Limit) (most n : ℕ) → full what most n ≡ None → n ≤ most
within-limit what most n e = by_test (nat_lt most n) refl e
  where
    by_test : (b : Bool) → nat_lt most n ≡ b → (if b then Some (why.Full what most) else None) ≡ None → n ≤ most
    by_test true f g = absurd (some-none _ g)
    by_test false f g = ltb-false most n f

-- lawful payloads have no more than the grammar's most rows
count-bound : (before payloads : List Payload) (n : ℕ) → n ≤ 16777216 → AreLawful before payloads → count_after n payloads ≤ 16777216
count-bound before [] n le h = le
count-bound before (p ∷ payloads) n le h = count-bound (before ++ p ∷ []) payloads p.after h.0.whole.counts.master h.1

others-bound : (before payloads : List Payload) (o : Option Payload) → length (other_names_in o) ≤ 65536 → AreLawful before payloads → length (other_names_in (last_or o payloads)) ≤ 65536
others-bound before [] o le h = le
others-bound before (p ∷ payloads) o le h = others-bound (before ++ p ∷ []) payloads (Some p) h.0.whole.counts.others h.1

pub held-sizes : (payloads : List Payload) (w : World Name) → HoldPayloads payloads w → (length w.master ≤ 16777216) × (length w.others ≤ 65536)
held-sizes payloads w h = (
  subst (λ n. n ≤ 16777216) h.stand.count (count-bound [] payloads 0 zero-le h.lawful),
  (let e = ap length h.stand.names ∙ names-length w.others in let b = others-bound [] payloads None zero-le h.lawful in omega (arith, e, b)),
)

-- lawful payloads have a row
all-hold : (before payloads : List Payload) (n : ℕ) (o : Option Payload) → AreLawful before payloads → (payloads ≡ []) ⊎ ((0 < count_after n payloads) ⊎ (0 < length (other_names_in (last_or o payloads))))
all-hold before [] n o h = inl refl
all-hold before (p ∷ []) n o h = inr (⊎_elim (λ (f : IsFlush p). f.something) (λ o. ⊎_elim (λ (c : IsClone p). inl c.something) (λ (w : IsWholePayload p). w.something) o) h.0.whole.by_kind)
all-hold before (p ∷ q ∷ payloads) n o h = ⊎_elim (λ e. absurd (let l = ap length e in omega (arith, l))) (λ g. inr g) (all-hold (before ++ p ∷ []) (q ∷ payloads) p.after (Some p) h.1)

no-refusal : (b : Bool) (r : Refusal) → refuse_if b r ≡ None → b ≡ false
no-refusal true r e = absurd (some-none r e)
no-refusal false r e = refl

no-names : (rows : List (Row Name)) → ((x : Name) → IsIn x (names_of rows) → ⊥) → rows ≡ []
no-names [] f = refl
no-names (r ∷ rows) f = absurd (f r.name (inl refl))

none-long : (rows : List (Row Name)) → length rows ≡ 0 → rows ≡ []
none-long [] e = refl
none-long (r ∷ rows) e = absurd (omega (arith, e))

-- a world that has the names of another one, and isn't that one, has a row
pub has-some : (new old : World Name) → ((x : Name) → IsIn x (names_of (rows_of old)) → IsIn x (names_of (rows_of new))) → same_world new old ≡ false → 0 < length (rows_of new)
has-some new old f e = by_length (rows_of new) refl
  where
    by_length : (rows : List (Row Name)) → rows_of new ≡ rows → 0 < length rows
    by_length [] g =
        let n = ap length g in
        let l = length-append new.master new.others in
        let m = none-long new.master (omega (arith, n, l)) in
        let o = none-long new.others (omega (arith, n, l)) in
        let old_rows = no-names (rows_of old) (λ x i. subst (λ r. IsIn x (names_of r)) g (f x i)) in
        let k = ap length old_rows in
        let j = length-append old.master old.others in
        let om = none-long old.master (omega (arith, k, j)) in
        let oo = none-long old.others (omega (arith, k, j)) in
        let same : same_world new old ≡ true = ap₂ (λ a b. a && b) (ap₂ (λ a b. pointwise same_row a b) m om) (ap₂ (λ a b. pointwise same_row a b) o oo) in
        absurd (true≢false (sym same ∙ e))
    by_length (r ∷ rows) g = (let z : 0 ≤ length rows = zero-le in omega (arith, z))

filter-length : {X : Type 0} (f : X → Bool) (xs : List X) → length (filter f xs) ≤ length xs
filter-length f [] = le_refl 0
filter-length f (x ∷ xs) = by_test (f x) (filter-length f xs)
  where
    by_test : (b : Bool) → length (filter f xs) ≤ length xs → length (cond b (x ∷ filter f xs) (filter f xs)) ≤ suc (length xs)
    by_test true le = (let k = le in omega (arith, k))
    by_test false le = (let k = le in omega (arith, k))

-- rows whose names aren't in the order keep theirs
outside-in : (order : List Name) (rows : List (Row Name)) (x : Name) → IsIn x (names_of rows) → is_in same_name x order ≡ false → IsIn x (names_of (rows_outside same_name rows order))
outside-in order [] x i e = i
outside-in order (r ∷ rows) x i e = by_test (is_in same_name r.name order) refl i (λ j. outside-in order rows x j e)
  where
    by_test : (b : Bool) → is_in same_name r.name order ≡ b → IsIn x (names_of (r ∷ rows)) → (IsIn x (names_of rows) → IsIn x (names_of (rows_outside same_name rows order)))
        → IsIn x (names_of (cond (not b) (r ∷ rows_outside same_name rows order) (rows_outside same_name rows order)))
    by_test true f (inl g) rec = absurd (true≢false (sym f ∙ ap (λ z. is_in same_name z order) (sym g) ∙ e))
    by_test true f (inr j) rec = rec j
    by_test false f (inl g) rec = inl g
    by_test false f (inr j) rec = inr (rec j)

module _ (w r : World Name) where
  abbrev grown_master : List (Row Name)
  grown_master = w.master ++ rows_outside same_name r.master (names_of w.master)

  abbrev grown_others : List (Row Name)
  grown_others = rows_outside same_name w.others (names_of grown_master)

  -- a pull keeps the names
  pull-keeps : (x : Name) → IsIn x (names_of (rows_of w)) → IsIn x (names_of (rows_of (pulled same_name w r)))
  pull-keeps x i =
      subst (IsIn x) (sym (map-append (λ q. q.name) grown_master grown_others))
      (⊎_elim (λ j. in-left x (names_of grown_master) (names_of grown_others) (in-master j))
      (λ j. by_test (is_in same_name x (names_of grown_master)) refl j)
      (in-append x (names_of w.master) (names_of w.others) (subst (IsIn x) (map-append (λ q. q.name) w.master w.others) i)))
    where
      in-master : IsIn x (names_of w.master) → IsIn x (names_of grown_master)
      in-master j = subst (IsIn x) (sym (map-append (λ q. q.name) w.master (rows_outside same_name r.master (names_of w.master)))) (in-left x (names_of w.master) (names_of (rows_outside same_name r.master (names_of w.master))) j)

      by_test : (b : Bool) → is_in same_name x (names_of grown_master) ≡ b → IsIn x (names_of w.others) → IsIn x (names_of grown_master ++ names_of grown_others)
      by_test true e j = in-left x (names_of grown_master) (names_of grown_others) (found same_name same_name-exact same_name-self x (names_of grown_master) e)
      by_test false e j = in-right x (names_of grown_master) (names_of grown_others) (outside-in (names_of grown_master) w.others x j e)

-- after a change that makes the payloads hold the new world
changed-held : (limits : Limits) (st : Stored) (s : ℕ) (new : World Name) → IsHeld limits st → (same_world new st.stored ≡ false → HoldPayloads (st.payloads ++ flush_change st.stored new ∷ []) new)
    → log_after st new (flush_change st.stored new) ≤ limits.log → IsHeld limits (after_flush st s new)
changed-held limits st s new h held fits = by_test (same_world new st.stored) refl fits
  where
    by_test : (b : Bool) → same_world new st.stored ≡ b
        → (if b then log_length (map text_of st.payloads) else log_length (map text_of (st.payloads ++ flush_change st.stored new ∷ []))) ≤ limits.log
        → IsHeld limits (if b then on_newest st s [] else on_newest (with_stored st new (flush_change st.stored new)) s [])
    by_test true e le = record { hold = h.hold; within = h.within }
    by_test false e le = record { hold = held e; within = le }

module _ (limits : Limits) (fair : AreLimits limits) (st : State) (s : ℕ) (state : IsState st) (h : IsHeld limits st.store) where
  abbrev w : World Name
  w = st.store.stored

  flush-held : (heads : List Name) → first_some (refusals limits (base_of st.store s) (pending_of st.store s) w (Flush heads)) ≡ None → first_some (log_part limits st.store s (Flush heads)) ≡ None
      → IsHeld limits (after_flush st.store s (flush_of st.store s heads))
  flush-held heads none fits =
      let new = flush_of st.store s heads in
      let made = flushed-world st.store s state.store limits heads none in
      let others : Option Refusal = full limit.Others limits.others (length new.others) in
      let master : Option Refusal = full limit.Master limits.master (length new.master) in
      let lost = option_map why.Lost (first_lost same_name w (pending_of st.store s)) in
      let parts = first-none-append (map (unknown (with_pending w (pending_of st.store s))) heads) _ none in
      let a = first-none-cons (option_map why.Conflict (first_conflict same_name w (pending_of st.store s))) (lost ∷ others ∷ master ∷ []) parts.1 in
      let b = first-none-cons lost (others ∷ master ∷ []) a.1 in
      let c = first-none-cons others (master ∷ []) b.1 in
      let d = first-none-cons master [] c.1 in
      changed-held limits st.store s new h
      (λ e. change-held st.store.payloads w new h.hold made.0 made.1 (le_trans (within-limit limit.Master limits.master (length new.master) d.0) fair.master.1)
      (le_trans (within-limit limit.Others limits.others (length new.others) c.0) fair.others.1) (has-some new w made.2 e))
      (within-limit limit.Log limits.log _ (first-none-cons (full limit.Log limits.log (log_after st.store new (flush_change w new))) [] fits).0)

  strip-held : (names : List Name) → first_some (refusals limits (base_of st.store s) (pending_of st.store s) w (Strip names)) ≡ None → first_some (log_part limits st.store s (Strip names)) ≡ None
      → IsHeld limits (after_flush st.store s (stripped same_name w names))
  strip-held names none fits =
      let new = stripped same_name w names in
      let empty : Option Refusal = refuse_if (not (nat_lt 0 (length (rows_of new)))) (why.Emptied (length (rows_of w))) in
      let first = first-none-cons (refuse_if (nat_lt 0 (length (pending_of st.store s))) (why.Pending (length (pending_of st.store s)))) (map (not_strippable w) names ++ empty ∷ []) none in
      let last = first-none-cons empty [] (first-none-append (map (not_strippable w) names) (empty ∷ []) first.1).1 in
      let sizes = held-sizes st.store.payloads w h.hold in
      let fewer = filter-length (λ row. not (list_any (λ name. reaches_in same_name (graph_of same_name w) (length (rows_of w)) row.name name) names)) w.others in
      changed-held limits st.store s new h
      (λ e. change-held st.store.payloads w new h.hold (stripped-world st.store s state.store names) ([], sym (append-nil w.master)) sizes.0 (le_trans fewer sizes.1)
      (ltb-true 0 (length (rows_of new)) (not-refused (nat_lt 0 (length (rows_of new))) (why.Emptied (length (rows_of w))) last.0)))
      (within-limit limit.Log limits.log _ (first-none-cons (full limit.Log limits.log (log_after st.store new (flush_change w new))) [] fits).0)

  pull-held : (r : World Name) → IsNamedWorld r → first_some (pull_tests limits st.store r) ≡ None → IsHeld limits (after_flush st.store s (pulled same_name w r))
  pull-held r named none =
      let new = pulled same_name w r in
      let master : Option Refusal = full limit.Master limits.master (length new.master) in
      let log : Option Refusal = full limit.Log limits.log (log_after st.store new (flush_change w new)) in
      let a = first-none-cons (option_map why.Conflict (first_conflict same_name w r.master)) (master ∷ log ∷ []) none in
      let b = first-none-cons master (log ∷ []) a.1 in
      let c = first-none-cons log [] b.1 in
      let sizes = held-sizes st.store.payloads w h.hold in
      let fewer = filter-length (λ row. not (is_in same_name row.name (names_of new.master))) w.others in
      changed-held limits st.store s new h
      (λ e. change-held st.store.payloads w new h.hold (pulled-world st.store s state.store r named) (_, refl) (le_trans (within-limit limit.Master limits.master (length new.master) b.0) fair.master.1)
      (le_trans fewer sizes.1) (has-some new w (pull-keeps w r) e))
      (within-limit limit.Log limits.log _ c.0)

  same-held : (now : Stored) → now ≡ st.store → IsHeld limits now
  same-held now e = subst (IsHeld limits) (sym e) h

  told-held : (verb : Verb) (reply : Reply) (now : Stored) → first_some (refusals limits (base_of st.store s) (pending_of st.store s) w verb) ≡ None → first_some (log_part limits st.store s verb) ≡ None
      → IsTold st.store s verb reply now → IsHeld limits now
  told-held (Add name parents) reply now none fits t = by_test (has (view_of st.store s) name) t
    where
      by_test : (b : Bool) → MatchBool b ((reply ≡ Old (id_in same_name (view_of st.store s) name)) × (now ≡ st.store))
          ((reply ≡ Added (id_in same_name (view_of (with_added st.store s name parents) s) name)) × (now ≡ with_added st.store s name parents)) → IsHeld limits now
      by_test true g = same-held now g.1
      by_test false g = subst (IsHeld limits) (sym g.1) (record { hold = h.hold; within = h.within })
  told-held (Flush heads) reply now none fits t = subst (IsHeld limits) (sym t.1) (flush-held heads none fits)
  told-held (Strip names) reply now none fits t = subst (IsHeld limits) (sym t.1) (strip-held names none fits)
  told-held Reload reply now none fits t = subst (IsHeld limits) (sym t.1) (record { hold = h.hold; within = h.within })
  told-held Discard reply now none fits t = subst (IsHeld limits) (sym t.1) (record { hold = h.hold; within = h.within })
  told-held (Count e) reply now none fits t = same-held now t.3
  told-held (IdOf name) reply now none fits t = same-held now t.1
  told-held Status reply now none fits t = same-held now t.1
  told-held Levels reply now none fits t = same-held now t.1
  told-held (Query e) reply now none fits t = absurd t
  told-held Clone reply now none fits t = absurd t
  told-held Pull reply now none fits t = absurd t
  told-held CountMirrors reply now none fits t = absurd t
  told-held (Drop k) reply now none fits t = absurd t

  pulls-held : (mirrors : List Mirror) (found : List KnownName) (reply : Reply) (st' : State) → AreSound mirrors → TakesFrom (IsPulled (cloned_count st.store.payloads)) (Pulls limits st.store s) st mirrors found reply st' → IsHeld limits st'.store
  pulls-held mirrors found reply st' sound (end, new, asks, out, ends) = by_end end ends (asks-sound (IsPulled (cloned_count st.store.payloads)) (λ m n d. d.keeps.sound) mirrors new end asks sound)
    where
      by_tests : (r : World Name) → IsNamedWorld r → (o : Option Refusal) → first_some (pull_tests limits st.store r) ≡ o
          → MatchOption o ((reply ≡ Pulled (length (pulled same_name w r).master) (length (pulled same_name w r).others)) × (st'.store ≡ after_flush st.store s (pulled same_name w r))) (λ refusal. IsRefused st.store refusal reply st'.store)
          → IsHeld limits st'.store
      by_tests r named None e g = subst (IsHeld limits) (sym g.1) (pull-held r named e)
      by_tests r named (Some x) e g = same-held st'.store g.1

      makes : (r : World Name) → IsNamedWorld r → Pulls limits st.store s r reply st'.store → IsHeld limits st'.store
      makes r named (inl g) = by_tests r named (first_some (pull_tests limits st.store r)) refl g
      makes r named (inr m) = same-held st'.store m.1

      by_end : (o : Option MirrorFault) → MatchOption o ((rows : List (Row Name)) × AnsweredFirst new rows × Pulls limits st.store s (master_world rows) reply st'.store) (λ fault. IsRefused st.store (refusal_for fault) reply st'.store) → AreSound new → IsHeld limits st'.store
      by_end None g k = makes (master_world g.0) (front-sound new g.0 k g.1) g.2
      by_end (Some x) g k = same-held st'.store g.1

  -- nothing is stored before a clone
  nothing-before : first_some (refusals limits (base_of st.store s) (pending_of st.store s) w Clone) ≡ None → (w.master ≡ []) × (w.others ≡ []) × (st.store.payloads ≡ [])
  nothing-before none =
      let e = no-refusal (nat_lt 0 (length (rows_of w))) (why.NotEmpty (length w.master) (length w.others))
      (first-none-cons (refuse_if (nat_lt 0 (length (rows_of w))) (why.NotEmpty (length w.master) (length w.others))) (refuse_if (nat_lt 0 (length (pending_of st.store s))) (why.Pending (length (pending_of st.store s))) ∷ []) none).0 in
      let l = length-append w.master w.others in
      let n = ltb-false 0 (length (rows_of w)) e in
      let m : length w.master ≡ 0 = omega (arith, l, n) in
      let o : length w.others ≡ 0 = omega (arith, l, n) in (
        none-long w.master m,
        none-long w.others o,
        ⊎_elim (λ f. f) (λ g. ⊎_elim
            (λ lt. let c = h.hold.stand.count in absurd (omega (arith, lt, c, m)))
            (λ lt. let c = ap length h.hold.stand.names ∙ names-length w.others in absurd (omega (arith, lt, c, o))) g)
            (all-hold [] st.store.payloads 0 None h.hold.lawful),
      )

  clone-made : (r : World Name) → IsNamedWorld r → (w.master ≡ []) × (w.others ≡ []) × (st.store.payloads ≡ []) → first_some (clone_tests limits st.store r) ≡ None
      → IsHeld limits (after_change st.store s (master_alone r) (clone_change r))
  clone-made r named empty none =
      let heads : Option Refusal = full limit.Heads most_heads (length (heads_of r)) in
      let master : Option Refusal = full limit.Master limits.master (length r.master) in
      let log : Option Refusal = full limit.Log limits.log (log_after st.store (master_alone r) (clone_change r)) in
      let a = first-none-cons heads (master ∷ log ∷ []) none in
      let b = first-none-cons master (log ∷ []) a.1 in
      let c = first-none-cons log [] b.1 in
      either (same_world (master_alone r) w) refl (within-limit limit.Heads most_heads (length (heads_of r)) a.0) (le_trans (within-limit limit.Master limits.master (length r.master) b.0) fair.master.1) (within-limit limit.Log limits.log _ c.0)
    where
      alone-named : IsNamedWorld (master_alone r)
      alone-named = named-by (master_alone r) (master-world st.store s state.store r named) (λ x i. master-names st.store s state.store r named x (subst (λ l. IsIn x (names_of l)) (append-nil r.master) i))

      some-row : (rows : List (Row Name)) → r.master ≡ rows → same_world (master_alone r) w ≡ false → 0 < length rows
      some-row [] e f = absurd (true≢false (sym (ap₂ (λ a b. a && b) (ap₂ (λ a b. pointwise same_row a b) e empty.0) (ap (λ b. pointwise same_row [] b) empty.1)) ∙ f))
      some-row (x ∷ rows) e f = (let z : 0 ≤ length rows = zero-le in omega (arith, z))

      either : (b : Bool) → same_world (master_alone r) w ≡ b → length (heads_of r) ≤ most_heads → length r.master ≤ standard.master
          → (if b then log_length (map text_of st.store.payloads) else log_length (map text_of (st.store.payloads ++ clone_change r ∷ []))) ≤ limits.log
          → IsHeld limits (if b then on_newest st.store s [] else on_newest (with_stored st.store (master_alone r) (clone_change r)) s [])
      either true e few fits le = record { hold = h.hold; within = h.within }
      either false e few fits le = record {
        hold = subst (λ l. HoldPayloads (l ++ clone_change r ∷ []) (master_alone r)) (sym empty.2) (clone-held r alone-named (subst (λ l. 0 < length l) refl (some-row r.master refl e)) fits few);
        within = le;
      }

  clones-held : (mirrors : List Mirror) (found : List KnownName) (reply : Reply) (st' : State) → AreSound mirrors → first_some (refusals limits (base_of st.store s) (pending_of st.store s) w Clone) ≡ None
      → TakesFrom IsCloned (Clones limits st.store s) st mirrors found reply st' → IsHeld limits st'.store
  clones-held mirrors found reply st' sound none (end, new, asks, out, ends) = by_end end ends (asks-sound IsCloned (λ m n d. d.keeps.sound) mirrors new end asks sound)
    where
      by_tests : (r : World Name) → IsNamedWorld r → (o : Option Refusal) → first_some (clone_tests limits st.store r) ≡ o
          → MatchOption o ((reply ≡ Cloned (length r.master)) × (st'.store ≡ after_change st.store s (master_alone r) (clone_change r))) (λ refusal. IsRefused st.store refusal reply st'.store)
          → IsHeld limits st'.store
      by_tests r named None e g = subst (IsHeld limits) (sym g.1) (clone-made r named (nothing-before none) e)
      by_tests r named (Some x) e g = same-held st'.store g.1

      makes : (r : World Name) → IsNamedWorld r → Clones limits st.store s r reply st'.store → IsHeld limits st'.store
      makes r named (inl g) = by_tests r named (first_some (clone_tests limits st.store r)) refl g
      makes r named (inr m) = same-held st'.store m.1

      by_end : (o : Option MirrorFault) → MatchOption o ((rows : List (Row Name)) × AnsweredFirst new rows × Clones limits st.store s (master_world rows) reply st'.store) (λ fault. IsRefused st.store (refusal_for fault) reply st'.store) → AreSound new → IsHeld limits st'.store
      by_end None g k = makes (master_world g.0) (front-sound new g.0 k g.1) g.2
      by_end (Some x) g k = same-held st'.store g.1

  answers-held : (verb : Verb) (mirrors : List Mirror) (found : List KnownName) (reply : Reply) (st' : State) → first_some (refusals limits (base_of st.store s) (pending_of st.store s) w verb) ≡ None
      → first_some (log_part limits st.store s verb) ≡ None → AreSound mirrors → Answers limits st s verb mirrors found reply st' → IsHeld limits st'.store
  answers-held (Add name parents) mirrors found reply st' none fits k a = told-held (Add name parents) reply st'.store none fits a.0
  answers-held (Flush heads) mirrors found reply st' none fits k a = told-held (Flush heads) reply st'.store none fits a.0
  answers-held (Strip names) mirrors found reply st' none fits k a = told-held (Strip names) reply st'.store none fits a.0
  answers-held Reload mirrors found reply st' none fits k a = told-held Reload reply st'.store none fits a.0
  answers-held Discard mirrors found reply st' none fits k a = told-held Discard reply st'.store none fits a.0
  answers-held (Count e) mirrors found reply st' none fits k a = told-held (Count e) reply st'.store none fits a.0
  answers-held (IdOf name) mirrors found reply st' none fits k a = told-held (IdOf name) reply st'.store none fits a.0
  answers-held Status mirrors found reply st' none fits k a = told-held Status reply st'.store none fits a.0
  answers-held Levels mirrors found reply st' none fits k a = told-held Levels reply st'.store none fits a.0
  answers-held (Query e) mirrors found reply st' none fits k a = by_test a.2 a.7
    where
      by_test : (o : Option Refusal) → MatchOption o ((reply ≡ Listed a.0) × (st'.store ≡ st.store)) (λ refusal. IsRefused st.store refusal reply st'.store) → IsHeld limits st'.store
      by_test None g = same-held st'.store g.1
      by_test (Some r) g = same-held st'.store g.1
  answers-held Clone mirrors found reply st' none fits k a = clones-held mirrors found reply st' k none a
  answers-held Pull mirrors found reply st' none fits k a = pulls-held mirrors found reply st' k a
  answers-held CountMirrors mirrors found reply st' none fits k a = same-held st'.store (ap (λ (z : State). z.store) a.1)
  answers-held (Drop n) mirrors found reply st' none fits k a = by_test (nat_lt n (length mirrors)) a
    where
      by_test : (b : Bool) → MatchBool b ((reply ≡ Dropped (length (without n mirrors))) × (st' ≡ record st { outside = record st.outside { mirrors = without n mirrors } })) ((reply ≡ Refused why.NoRemote) × (st' ≡ st)) → IsHeld limits st'.store
      by_test true g = same-held st'.store (ap (λ (z : State). z.store) g.1)
      by_test false g = same-held st'.store (ap (λ (z : State). z.store) g.1)

  pub step-held : (verb : Verb) (reply : Reply) (st' : State) → CommandStep limits st s verb reply st' → IsHeld limits st'.store
  step-held verb reply st' (verdict, mirrors, found, tries, ends) =
      by_test verdict (tried-all (MayWantMemory verb) st.outside.mirrors mirrors (tests limits st.store s verb) verdict found tries) ends
    where
      by_test : (o : Option Refusal) → (o ≡ refused_first (tests limits st.store s verb)) ⊎ Outer o
          → MatchOption o (Answers limits st s verb mirrors found reply st') (λ refusal. IsRefused st.store refusal reply st'.store × GoesOutside st.outside mirrors found st'.outside) → IsHeld limits st'.store
      by_test None (inl e) a =
          let both = first-none-append (refusals limits (base_of st.store s) (pending_of st.store s) w verb) (log_part limits st.store s verb) (sym (e ∙ first-tests st.store s limits verb)) in
          answers-held verb mirrors found reply st' both.0 both.1 (tries-sound (MayWantMemory verb) st.outside.mirrors mirrors (tests limits st.store s verb) verdict found tries state.outside.mirrors) a
      by_test None (inr o) a = absurd o
      by_test (Some r) t a = same-held st'.store a.0.1
