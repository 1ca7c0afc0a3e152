-- Runs that drop a mirror or clone, and then pull.
use Rattle.std.proofs.Common.{◌≡◌, ◌<◌, ◌⊎◌, ⊎_elim, inl, inr, ℕ, true, List, [], ◌∷◌, ◌++◌, length, codes, Option, Some, None, is_some, MatchOption, refl, sym, ◌∙◌, ap, subst, true≢false, arith, length-append}
use Rattle.std.specs.Prelude.{unwrap_or}
use Rattle.std.specs.List.{AllByRecursion, AllZip}
use Rattle.id_groups.specs.Name.{Name}
use Rattle.commit_graph.specs.World.{Row}
use Rattle.change_rules.specs.Standard.{standard}
use Rattle.change_rules.specs.Change.{clone_change}
use Rattle.change_rules.specs.Tables.{cloned_count}
use Rattle.remote_rules.specs.Known.{master_alone, master_world}
use Rattle.remote_rules.specs.Mirror.{Mirror}
use Rattle.remote_rules.specs.Calls.{MasterGoesOn, WhereBoth, IsCloned, Failing}
use Rattle.remote_rules.specs.Serving.{BeginsWith}
use Rattle.remote_rules.specs.Asking.{IsOneAsk, AskedNext}
use Rattle.remote_rules.specs.declared.MirrorFault.{MirrorFault}
use Rattle.step_rules.specs.declared.Refusal.{Refusal}
use Rattle.step_rules.specs.declared.Refusal.TheVariants as why
use Rattle.step_rules.specs.State.{State, Stored}
use Rattle.step_rules.specs.Verb.{Clone, Pull, Drop}
use Rattle.step_rules.specs.Reply.{Reply, Cloned}
use Rattle.step_rules.specs.Tests.{first_some, tests}
use Rattle.step_rules.specs.Asking.{refusal_for}
use Rattle.step_rules.specs.Worlds.{after_change}
use Rattle.step_rules.specs.Step.{AnsweredFirst, Answers, CommandStep, GoesOutside, IsRefused, MayWantMemory, Clones, clone_tests}
use Rattle.step_rules.proofs.Origins.{GoesTo}
use Rattle.step_rules.proofs.Plain.{all-tried}
use Rattle.run_rules.specs.Grammar.{SpellsCommand}
use Rattle.run_rules.specs.Premises.{BeginAtPulls, HaveOneOrder}
use Rattle.run_rules.specs.Run.{Run, Step}
use Rattle.run_rules.proofs.Begun.{begins-on}
use Rattle.worked_rows.specs.Worlds.{ten, twelve, aside}
use Rattle.worked_rows.specs.Remotes.{steady, over, after_clone}
use Rattle.worked_rows.proofs.Serving.{ten-honest, twelve-honest}
use Rattle.worked_rows.proofs.Spelled.{clone-no-pull, clone-spelled, clone_line, drop-no-pull, drop-spelled, drop_line, only-clone, only-drop, pull_line, text-spells}

abbrev AreBegun : Stored → List Mirror → Type 0
AreBegun st mirrors = AllByRecursion (BeginsWith (cloned_count st.payloads) st.stored) mirrors

abbrev head_of : List (List ℕ) → List ℕ
head_of [] = []
head_of (x ∷ xs) = x

-- of two lines of which the second alone is a pull, one stands before it
before-pull : (start : State) (first second : List ℕ) → ((s : ℕ) → SpellsCommand first s Pull → ⊥)
    → ((replies : List Reply) (now : State) → Run standard start (first ∷ []) replies now → AreBegun now.store now.outside.mirrors)
    → BeginAtPulls standard start (first ∷ second ∷ [])
before-pull start first second none then [] more line s replies now split spells run = absurd (none s (subst (λ l. SpellsCommand l s Pull) (sym (ap head_of split)) spells))
before-pull start first second none then (x ∷ []) more line s replies now split spells run = then replies now (subst (λ l. Run standard start (l ∷ []) replies now) (sym (ap head_of split)) run)
before-pull start first second none then (x ∷ y ∷ done) more line s replies now split spells run =
    absurd (let l = ap length split in let m = length-append done (line ∷ more) in omega (arith, l, m))

-- ---- a mirror is dropped
abbrev two_orders : State
two_orders = after_clone (steady ten ∷ steady aside ∷ [])

dropped : (s : ℕ) (reply : Reply) (mid : State) → CommandStep standard two_orders s (Drop 1) reply mid → mid ≡ after_clone (steady ten ∷ [])
dropped s reply mid (verdict, mirrors, found, (same, gained, decides), ends) = by_verdict verdict decides ends
  where
    by_verdict : (o : Option Refusal) → (o ≡ None) ⊎ (MayWantMemory (Drop 1) × (o ≡ Some why.Memory))
        → MatchOption o (Answers standard two_orders s (Drop 1) mirrors found reply mid) (λ refusal. IsRefused two_orders.store refusal reply mid.store × GoesOutside two_orders.outside mirrors found mid.outside)
        → mid ≡ after_clone (steady ten ∷ [])
    by_verdict None d a = (subst (λ ms. Answers standard two_orders s (Drop 1) ms found reply mid) same a).1
    by_verdict (Some r) (inl e) a = absurd (true≢false (ap is_some e))
    by_verdict (Some r) (inr m) a = absurd m.0

drop-step : (reply : Reply) (mid : State) → Step standard two_orders drop_line reply mid → mid ≡ after_clone (steady ten ∷ [])
drop-step reply mid (inl (s, verb, spells, step)) = dropped s reply mid (subst (λ v. CommandStep standard two_orders s v reply mid) (only-drop verb (text-spells (codes "drop 1") s verb spells)) step)
drop-step reply mid (inr (inl n)) = absurd (n.0 0 (Drop 1) drop-spelled)
drop-step reply mid (inr (inr u)) = absurd (u.0 0 (Drop 1) drop-spelled)

pub behind-a-drop : BeginAtPulls standard two_orders (drop_line ∷ pull_line ∷ [])
behind-a-drop = before-pull two_orders drop_line pull_line drop-no-pull
    (λ replies now run. subst (λ (z : State). AreBegun z.store z.outside.mirrors) (sym (run.5.1 ∙ drop-step run.0 run.2 run.4)) ((ten.master, refl, ten-honest, [], refl), tt))

-- the other one has another root in the second place
abbrev second_parents : List (Row Name) → ℕ
second_parents (a ∷ b ∷ more) = length b.parents
second_parents _ = 0

pub aside-begins-not : BeginsWith 10 ten (steady aside) → ⊥
aside-begins-not (rows, told, honest, more, begins) =
    (let e : 0 ≡ 1 = ap second_parents (ap (λ o. unwrap_or o []) told ∙ begins) in omega (arith, e))

-- ---- a clone
abbrev two_lengths : State
two_lengths = over (steady ten ∷ steady twelve ∷ [])

abbrev nothing : Stored
nothing = two_lengths.store

-- what is asked of a mirror that is cloned
goes : (m asked : Mirror) → IsCloned m asked → GoesTo m asked
goes m asked d = record { settled = d.keeps.settled; master = d.master; tells = d.keeps.tells_master; sound = d.keeps.sound }

never-fails : (m asked : Mirror) → m.to_come ≡ Some 0 → Failing IsCloned m asked → ⊥
never-fails m asked e f = by_now asked.to_come (f.does.keeps.tells_faults ∙ ap is_some e) (subst (λ o. WhereBoth (λ before now. now < before) o asked.to_come) e f.fewer)
  where
    by_now : (o : Option ℕ) → is_some o ≡ true → WhereBoth (λ before now. now < before) (Some 0) o → ⊥
    by_now None t w = true≢false (sym t)
    by_now (Some k) t w = (let lt : k < 0 = w in omega (arith, lt))

-- the first mirror, as it is then, and the other one
abbrev AreAsked : List Mirror → Type 0
AreAsked mirrors = (asked : Mirror) × IsCloned (steady ten) asked × (mirrors ≡ asked ∷ steady twelve ∷ [])

abbrev first_of : List Mirror → Mirror
first_of [] = steady ten
first_of (m ∷ more) = m

first-asked : (end : Option MirrorFault) (new : List Mirror) → IsOneAsk IsCloned two_lengths.outside.mirrors end new → AreAsked new
first-asked end new (first, failed, others, split, zip, next) = by_first first failed others split zip next
  where
    by_first : (first failed others : List Mirror) → steady ten ∷ steady twelve ∷ [] ≡ first ++ others → AllZip (Failing IsCloned) first failed → AskedNext IsCloned failed others end new → AreAsked new
    by_first [] [] others e z n = let m = subst (λ os. AskedNext IsCloned [] os end new) (sym e) n in (m.0, m.1, m.2)
    by_first [] (f ∷ failed) others e z n = absurd z
    by_first (x ∷ first) [] others e z n = absurd z
    by_first (x ∷ first) (f ∷ failed) others e z n = absurd (never-fails x f (ap (λ (m : Mirror). m.to_come) (sym (ap first_of e))) z.0)

asked-tells : (asked : Mirror) → IsCloned (steady ten) asked → asked.master ≡ Some ten.master
asked-tells asked d = by_master asked.master d.master
  where
    by_master : (o : Option (List (Row Name))) → MasterGoesOn true (Some ten.master) o → o ≡ Some ten.master
    by_master None h = absurd h
    by_master (Some rows) h = ap Some h

-- the ten were cloned, or nothing was
abbrev EndsSo : Stored → Type 0
EndsSo now = (now ≡ nothing) ⊎ ((s : ℕ) × (now ≡ after_change nothing s (master_alone (master_world ten.master)) (clone_change (master_world ten.master))))

both-begin : (now : Stored) (mirrors : List Mirror) → EndsSo now → AreAsked mirrors ⊎ (mirrors ≡ two_lengths.outside.mirrors) → AreBegun now mirrors
both-begin now mirrors end were = ⊎_elim
    (λ a. subst (AreBegun now) (sym a.2) (begins-on (cloned_count now.payloads) now.stored (steady ten) a.0 (goes (steady ten) a.0 a.1) its, (others, tt)))
    (λ e. subst (AreBegun now) (sym e) (its, (others, tt)))
    were
  where
    its : BeginsWith (cloned_count now.payloads) now.stored (steady ten)
    its = ⊎_elim
        (λ e. subst (λ (z : Stored). BeginsWith (cloned_count z.payloads) z.stored (steady ten)) (sym e) (ten.master, refl, ten-honest, ten.master, refl))
        (λ e. subst (λ (z : Stored). BeginsWith (cloned_count z.payloads) z.stored (steady ten)) (sym e.1) (ten.master, refl, ten-honest, [], refl))
        end

    others : BeginsWith (cloned_count now.payloads) now.stored (steady twelve)
    others = ⊎_elim
        (λ e. subst (λ (z : Stored). BeginsWith (cloned_count z.payloads) z.stored (steady twelve)) (sym e) (twelve.master, refl, twelve-honest, twelve.master, refl))
        (λ e. subst (λ (z : Stored). BeginsWith (cloned_count z.payloads) z.stored (steady twelve)) (sym e.1) (twelve.master, refl, twelve-honest, _, refl))
        end

makes : (s : ℕ) (rows : List (Row Name)) (reply : Reply) (now : Stored) → rows ≡ ten.master → Clones standard nothing s (master_world rows) reply now → EndsSo now
makes s rows reply now same (inr m) = inl m.1
makes s rows reply now same (inl g) = by_tests (first_some (clone_tests standard nothing (master_world rows))) g
  where
    by_tests : (o : Option Refusal) → MatchOption o ((reply ≡ Cloned (length rows)) × (now ≡ after_change nothing s (master_alone (master_world rows)) (clone_change (master_world rows)))) (λ refusal. IsRefused nothing refusal reply now) → EndsSo now
    by_tests None g = inr (s, g.1 ∙ ap (λ rs. after_change nothing s (master_alone (master_world rs)) (clone_change (master_world rs))) same)
    by_tests (Some r) g = inl g.1

cloned : (s : ℕ) (reply : Reply) (mid : State) → CommandStep standard two_lengths s Clone reply mid → AreBegun mid.store mid.outside.mirrors
cloned s reply mid (verdict, mirrors, found, tries, ends) =
    by_verdict verdict (all-tried (Unit {0}) two_lengths.outside.mirrors mirrors (tests standard nothing s Clone) verdict found ((refl, refl), ((refl, refl), tt)) tries).0 ends
  where
    on : (new : List Mirror) → mid.outside.mirrors ≡ new → AreBegun mid.store new → AreBegun mid.store mid.outside.mirrors
    on new e h = subst (AreBegun mid.store) (sym e) h

    told : (new : List Mirror) (a : AreAsked new) (rows : List (Row Name)) → AnsweredFirst new rows → rows ≡ ten.master
    told new a rows f = ap (λ o. unwrap_or o []) (sym (subst (λ ms. AnsweredFirst ms rows) a.2 f) ∙ asked-tells a.0 a.1)

    by_end : (o : Option MirrorFault) (new : List Mirror) → AreAsked new
        → MatchOption o ((rows : List (Row Name)) × AnsweredFirst new rows × Clones standard nothing s (master_world rows) reply mid.store) (λ fault. IsRefused nothing (refusal_for fault) reply mid.store) → AreBegun mid.store new
    by_end None new a g = both-begin mid.store new (makes s g.0 reply mid.store (told new a g.0 g.1) g.2) (inl a)
    by_end (Some x) new a g = both-begin mid.store new (inl g.1) (inl a)

    by_verdict : (o : Option Refusal) → mirrors ≡ two_lengths.outside.mirrors
        → MatchOption o (Answers standard two_lengths s Clone mirrors found reply mid) (λ refusal. IsRefused nothing refusal reply mid.store × GoesOutside two_lengths.outside mirrors found mid.outside)
        → AreBegun mid.store mid.outside.mirrors
    by_verdict None same (end, new, asks, out, taken) = on new out.mirrors_are (by_end end new (first-asked end new (subst (λ ms. IsOneAsk IsCloned ms end new) same asks)) taken)
    by_verdict (Some r) same a = on mirrors a.1.mirrors_are (both-begin mid.store mirrors (inl a.0.1) (inr same))

clone-step : (reply : Reply) (mid : State) → Step standard two_lengths clone_line reply mid → AreBegun mid.store mid.outside.mirrors
clone-step reply mid (inl (s, verb, spells, step)) = cloned s reply mid (subst (λ v. CommandStep standard two_lengths s v reply mid) (only-clone verb (text-spells (codes "clone") s verb spells)) step)
clone-step reply mid (inr (inl n)) = absurd (n.0 0 Clone clone-spelled)
clone-step reply mid (inr (inr u)) = subst (λ (z : State). AreBegun z.store z.outside.mirrors) (sym u.2) (both-begin nothing two_lengths.outside.mirrors (inl refl) (inr refl))

pub behind-a-clone : BeginAtPulls standard two_lengths (clone_line ∷ pull_line ∷ [])
behind-a-clone = before-pull two_lengths clone_line pull_line clone-no-pull
    (λ replies now run. subst (λ (z : State). AreBegun z.store z.outside.mirrors) (sym run.5.1) (clone-step run.0 run.2 run.4))

pub no-one-order : HaveOneOrder (steady ten ∷ steady twelve ∷ []) → ⊥
no-one-order order = (let e : 10 ≡ 12 = ap length (order (steady ten) (steady twelve) ten.master twelve.master (inl refl) (inr (inl refl)) refl refl) in omega (arith, e))
