-- What an honest mirror tells who pulls, whose master begins with the cloned commits.
use Rattle.std.proofs.Common.{◌≡◌, inl, ℕ, List, ◌++◌, take, drop, Option, Some, None, MatchOption, refl, sym, ap, subst, ◌∙◌, true≢false, is_some, append_assoc}
use Rattle.std.specs.Prelude.{IfSome, ⊤}
use Rattle.std.specs.List.{AllByRecursion}
use Rattle.id_groups.specs.Lists.{IsIn}
use Rattle.id_groups.specs.Name.{Name}
use Rattle.commit_graph.specs.World.{Row, World, names_of}
use Rattle.commit_graph.proofs.Naming.{each}
use Rattle.high_segments.proofs.Groups.{in-drop}
use Rattle.remote_rules.specs.CloneData.{CloneData, first_broken}
use Rattle.remote_rules.specs.Clones.{IsCloneOf}
use Rattle.remote_rules.specs.Honest.{IsHonest, IsSoundMirror, clone_data_of}
use Rattle.remote_rules.specs.Known.{master_world}
use Rattle.remote_rules.specs.Mirror.{Mirror}
use Rattle.remote_rules.specs.Serving.{BeginsWith}
use Rattle.remote_trait.specs.Calls.{AreGrown, AreMaster, ToldSo}
use Rattle.mirror_set.specs.Asking.{Answered, IsItsClone}
use Rattle.mirror_set.specs.Fresh.{GaveBroken, GaveFew, IsItsFresh, IsPulledFrom, PlainFresh}
use Rattle.change_rules.proofs.Honest.{never-broken}
use Rattle.change_rules.proofs.Relation.{clones-are}
use Rattle.step_rules.specs.Step.{AnsweredFirst as IsFirst}

-- what is told afterwards of what was told before
grown-told : {X : Type 0} (P : X → X → Type 0) (before now : Option X) (x : X) → ToldSo before now P → before ≡ Some x → (y : X) × (now ≡ Some y) × P x y
grown-told P None now x h e = absurd (true≢false (sym (ap is_some e)))
grown-told P (Some b) None x h e = absurd h
grown-told P (Some b) (Some y) x h e = (y, refl, subst (λ z. P z y) (one-of b x e) h)
  where
    or_this : {X : Type 0} → X → Option X → X
    or_this d None = d
    or_this d (Some z) = z

    one-of : {X : Type 0} (a b : X) → Some a ≡ Some b → a ≡ b
    one-of a b e = ap (or_this a) e

-- The mirror that answered, and stands first now, tells these rows: the cloned ones, and more behind them.
pub record TellsOn (cloned : ℕ) (w : World Name) (next : Mirror) (rows : List (Row Name)) : Type 0 where
  pub tells : next.master ≡ Some rows
  pub master : AreMaster rows
  pub more : List (Row Name)
  pub begins : rows ≡ take cloned w.master ++ more

module _ (cloned : ℕ) (w : World Name) (first left : List Mirror) (served : AllByRecursion (BeginsWith cloned w) first) (Right : Mirror → Type 0) (a : Answered (IsPulledFrom cloned) Right first left) where
  pub next-tells : (rows : List (Row Name)) × TellsOn cloned w a.next rows × IsFirst left rows
  next-tells =
      let there : IsIn a.first first = in-drop a.count first a.first (subst (IsIn a.first) (sym a.was) (inl refl)) in
      let s = each (BeginsWith cloned w) first served a.first there in
      let p = a.left in
      let before : IsSoundMirror a.first = subst (λ o. MatchOption o ⊤ (IsHonest a.first.cloned)) (sym s.1) s.2 in
      let now = grown-told AreGrown a.first.master p.mid.master s.0 p.refreshed.master s.1 in
      let honest : IsHonest p.mid.cloned now.0 = subst (λ o. MatchOption o ⊤ (IsHonest p.mid.cloned)) now.1 (p.refreshed.sound before) in
      let tells : a.next.master ≡ Some now.0 = p.stays.master ∙ now.1 in (
        now.0,
        record {
          tells = tells;
          master = honest.world;
          more = s.3 ++ now.2.more;
          begins = now.2.behind ∙ ap (λ l. l ++ now.2.more) s.4 ∙ append_assoc (take cloned w.master) s.3 now.2.more;
        },
        subst (λ (l : List Mirror). IsFirst l now.0) (sym a.is) tells,
      )

-- it gives clone data that are those of its rows
pub gives-clone : (told : CloneData) (m : Mirror) (rows : List (Row Name)) → m.master ≡ Some rows → IsItsClone told m → IsCloneOf rows told
gives-clone told m rows e c = subst (λ o. IfSome o (λ rows. IsCloneOf rows told)) e c.honest

-- they break no rule
pub never-gave-broken : (at : ℕ) (m : Mirror) (rows : List (Row Name)) → m.master ≡ Some rows → AreMaster rows → GaveBroken at m → ⊥
never-gave-broken at m rows e master g =
    let is : g.given ≡ clone_data_of (master_world rows) = (clones-are rows master g.given).0 (gives-clone g.given m rows e g.clone) in
    true≢false (ap is_some (sym g.broken ∙ ap first_broken is ∙ never-broken (master_world rows) master))

-- and all names are given
pub never-gave-few : (asked given : ℕ) (m : Mirror) (rows : List (Row Name)) → m.master ≡ Some rows → AreMaster rows → GaveFew asked given m → ⊥
never-gave-few asked given m rows e master g = subst (λ o. IfSome o (λ rows. AreMaster rows → ⊥)) e g.untold master

-- the names are those of its rows
pub gives-names : (from : ℕ) (fresh : PlainFresh) (m : Mirror) (rows : List (Row Name)) → m.master ≡ Some rows → AreMaster rows → IsItsFresh from fresh m → fresh.names ≡ names_of (drop from rows)
gives-names from fresh m rows e master f = subst (λ o. IfSome o (λ rows. AreMaster rows → fresh.names ≡ names_of (drop from rows))) e f.names master
