-- Where mirrors come from: each that is left after asks was there before, and tells what it told, or more.
use Rattle.std.proofs.Common.{◌≡◌, ◌≤◌, ℕ, suc, Bool, true, false, inl, inr, List, [], ◌∷◌, ◌++◌, length, Option, Some, None, is_some, refl, sym, ap, subst, ◌∙◌, ⊎_elim, MatchOption, true≢false, arith, length-append, append-nil, append_assoc}
use Rattle.std.specs.List.{AllZip}
use Rattle.id_groups.specs.Lists.{IsIn}
use Rattle.id_groups.specs.Name.{Name}
use Rattle.commit_graph.specs.World.{Row, World}
use Rattle.commit_graph.proofs.Histories.{in-append}
use Rattle.commit_graph.proofs.Down.{in-left, in-right}
use Rattle.commit_graph.proofs.Naming.{each, all-each}
use Rattle.remote_rules.specs.CloneData.{KnownName}
use Rattle.remote_rules.specs.Mirror.{Mirror}
use Rattle.remote_rules.specs.Honest.{IsHonest, IsSoundMirror}
use Rattle.remote_rules.specs.Calls.{MasterGoesOn, IsAskedFor, Failing}
use Rattle.remote_rules.specs.Serving.{IsServing, AreAlike, AllServe}
use Rattle.remote_rules.specs.declared.MirrorFault.{MirrorFault}
use Rattle.remote_rules.specs.Asking.{IsOneAsk, AskedNext, AsksInTurn}
use Rattle.step_rules.specs.declared.Refusal.{Refusal}
use Rattle.step_rules.specs.Tests.{Test}
use Rattle.step_rules.specs.Asking.{TriesAll}

-- a mirror as it is after calls: settled as before, its world goes on, and it is sound if it was
pub record GoesTo (k m : Mirror) : Type 0 where
  pub settled : m.settled ≡ k.settled
  pub master : MasterGoesOn k.settled k.master m.master
  pub tells : is_some m.master ≡ is_some k.master
  pub sound : IsSoundMirror k → IsSoundMirror m

-- each of the new mirrors was one of the old ones, and they are as many
pub record ComeFrom (old new : List Mirror) : Type 0 where
  pub each_from : (m : Mirror) → IsIn m new → (k : Mirror) × IsIn k old × GoesTo k m
  pub count : length new ≡ length old

same-master : (b : Bool) (o : Option (List (Row Name))) → MasterGoesOn b o o
same-master b None = tt
same-master true (Some rows) = refl
same-master false (Some rows) = ([], sym (append-nil rows))

pub goes-self : (m : Mirror) → GoesTo m m
goes-self m = record { settled = refl; master = same-master m.settled m.master; tells = refl; sound = λ s. s }

then-master : (b : Bool) (x y z : Option (List (Row Name))) → MasterGoesOn b x y → MasterGoesOn b y z → MasterGoesOn b x z
then-master b None y z h k = tt
then-master b (Some u) None z h k = absurd h
then-master b (Some u) (Some v) None h k = absurd k
then-master true (Some u) (Some v) (Some w) h k = k ∙ h
then-master false (Some u) (Some v) (Some w) h k = (h.0 ++ k.0, k.1 ∙ ap (λ l. l ++ k.0) h.1 ∙ append_assoc u h.0 k.0)

goes-then : (k m x : Mirror) → GoesTo k m → GoesTo m x → GoesTo k x
goes-then k m x g h = record {
  settled = h.settled ∙ g.settled;
  master = then-master k.settled k.master m.master x.master g.master (subst (λ b. MasterGoesOn b m.master x.master) g.settled h.master);
  tells = h.tells ∙ g.tells;
  sound = λ s. h.sound (g.sound s);
}

pub from-same : (old new : List Mirror) → new ≡ old → ComeFrom old new
from-same old new e = record { each_from = λ m i. (m, subst (IsIn m) e i, goes-self m); count = ap length e }

pub from-then : (old mid new : List Mirror) → ComeFrom old mid → ComeFrom mid new → ComeFrom old new
from-then old mid new a b = record {
  each_from = λ m i. let x = b.each_from m i in let y = a.each_from x.0 x.1 in (y.0, y.1, goes-then y.0 x.0 m y.2 x.2);
  count = b.count ∙ a.count;
}

module _ (Does : Mirror → Mirror → Type 0) (goes : (m asked : Mirror) → Does m asked → GoesTo m asked) where
  failed-from : (xs ys : List Mirror) → AllZip (Failing Does) xs ys → ComeFrom xs ys
  failed-from [] [] z = from-same [] [] refl
  failed-from [] (y ∷ ys) z = absurd z
  failed-from (x ∷ xs) [] z = absurd z
  failed-from (x ∷ xs) (y ∷ ys) z =
      let rest = failed-from xs ys z.1 in
      record {
        each_from = λ m i. ⊎_elim (λ e. (x, inl refl, subst (GoesTo x) (sym e) (goes x y z.0.does))) (λ j. let r = rest.each_from m j in (r.0, inr r.1, r.2)) i;
        count = ap suc rest.count;
      }

  pub asks-from : (old new : List Mirror) (end : Option MirrorFault) → IsOneAsk Does old end new → ComeFrom old new
  asks-from old new end a = by_others a.2 a.5 (failed-from a.0 a.1 a.4) a.3
    where
      by_others : (others : List Mirror) → AskedNext Does a.1 others end new → ComeFrom a.0 a.1 → old ≡ a.0 ++ others → ComeFrom old new
      by_others [] n f e = from-then old a.1 new (record { each_from = λ m i. let r = f.each_from m i in (r.0, subst (IsIn r.0) (sym (e ∙ append-nil a.0)) r.1, r.2); count = f.count ∙ ap length (sym (e ∙ append-nil a.0)) }) (from-same a.1 new n.1)
      by_others (x ∷ more) n f e = record {
        each_from = λ m i. whence m (subst (IsIn m) n.2 i);
        count = ap length n.2 ∙ ap suc (length-append more a.1)
            ∙ (let c = f.count in let l = ap length e ∙ length-append a.0 (x ∷ more) in omega (arith, c, l));
      }
        where
          whence : (m : Mirror) → IsIn m (n.0 ∷ more ++ a.1) → (k : Mirror) × IsIn k old × GoesTo k m
          whence m (inl g) = (x, subst (IsIn x) (sym e) (in-right x a.0 (x ∷ more) (inl refl)), subst (GoesTo x) (sym g) (goes x n.0 n.1))
          whence m (inr j) = ⊎_elim
              (λ i. (m, subst (IsIn m) (sym e) (in-right m a.0 (x ∷ more) (inr i)), goes-self m))
              (λ i. let r = f.each_from m i in (r.0, subst (IsIn r.0) (sym e) (in-left r.0 a.0 (x ∷ more) r.1), r.2))
              (in-append m more a.1 j)

pub asked-goes : (count : ℕ) (m asked : Mirror) → IsAskedFor count m asked → GoesTo m asked
asked-goes count m asked d = record { settled = d.keeps.settled; master = subst (λ o. MasterGoesOn m.settled m.master o) (sym d.master) (same-master m.settled m.master); tells = d.keeps.tells_master; sound = d.keeps.sound }

turns-from : (answered : ℕ) (counts : List ℕ) (old new : List Mirror) (end : Option MirrorFault) → AsksInTurn answered counts old end new → ComeFrom old new
turns-from answered [] old new end t = from-same old new t.2
turns-from answered (count ∷ counts) old new end (inl t) = asks-from (IsAskedFor count) (asked-goes count) old new (Some t.0) t.3
turns-from answered (count ∷ counts) old new end (inr t) =
    from-then old t.0 new (asks-from (IsAskedFor count) (asked-goes count) old t.0 None t.3) (turns-from t.1 counts t.0 new end t.4)

pub tries-from : (W : Type 0) (old new : List Mirror) (tests : List Test) (verdict : Option Refusal) (gained : List KnownName) → TriesAll W old tests verdict new gained → ComeFrom old new
tries-from W old new [] verdict gained t = from-same old new t.0
tries-from W old new (test ∷ more) verdict gained (inl t) = from-same old new t.0
tries-from W old new (test ∷ more) verdict gained (inr t) =
    behind t.0 t.4 (turns-from t.3.0 t.3.2.0 old t.1 t.3.1 t.3.2.4) (λ here g. tries-from W t.1 new more verdict here g)
  where
    behind : (first : Option Refusal)
        → MatchOption first ((b : List KnownName) × (gained ≡ t.2 ++ b) × TriesAll W t.1 more verdict new b) (λ refusal. (verdict ≡ Some refusal) × (new ≡ t.1) × (gained ≡ t.2))
        → ComeFrom old t.1 → ((here : List KnownName) → TriesAll W t.1 more verdict new here → ComeFrom t.1 new) → ComeFrom old new
    behind None g f rec = from-then old t.1 new f (rec g.0 g.2)
    behind (Some r) g f rec = from-then old t.1 new f (from-same t.1 new g.1)

-- what serves goes on to serve
told-on : (b : Bool) (o : Option (List (Row Name))) (r : List (Row Name)) → MasterGoesOn b (Some r) o → (q : List (Row Name)) × (o ≡ Some q) × (more : List (Row Name)) × (q ≡ r ++ more)
told-on b None r h = absurd h
told-on true (Some q) r h = (q, refl, [], h ∙ sym (append-nil r))
told-on false (Some q) r h = (q, refl, h.0, h.1)

pub serves-on : (cloned : ℕ) (w : World Name) (k m : Mirror) → GoesTo k m → IsServing cloned w k → IsServing cloned w m
serves-on cloned w k m g (r, told, honest, rows) =
    let on = told-on k.settled m.master r (subst (λ o. MasterGoesOn k.settled o m.master) told g.master) in
    let sound : IsSoundMirror m = g.sound (subst (λ o. MatchOption o (Unit {0}) (IsHonest k.cloned)) (sym told) honest) in
    (on.0, on.1, subst (λ o. MatchOption o (Unit {0}) (IsHonest m.cloned)) on.1 sound, λ row i. subst (IsIn row) (sym on.3) (in-left row r on.2 (rows row i)))

-- settled mirrors tell the same after calls
settled-same : (k m : Mirror) → GoesTo k m → k.settled ≡ true → m.master ≡ k.master
settled-same k m g e = by_master k.master m.master (subst (λ b. MasterGoesOn b k.master m.master) e g.master) g.tells
  where
    by_master : (x y : Option (List (Row Name))) → MasterGoesOn true x y → is_some y ≡ is_some x → y ≡ x
    by_master None None h t = refl
    by_master None (Some w) h t = absurd (true≢false t)
    by_master (Some w) None h t = absurd h
    by_master (Some w) (Some v) h t = ap Some h

pub alike-on : (old new : List Mirror) → ComeFrom old new → AreAlike old → AreAlike new
alike-on old new f (settled, rows) = (
  all-each (λ (m : Mirror). m.settled ≡ true) new (λ m i. let x = f.each_from m i in x.2.settled ∙ each (λ (k : Mirror). k.settled ≡ true) old settled x.0 x.1),
  λ m n q r i j e g row l.
      let x = f.each_from m i in
      let y = f.each_from n j in
      let xs = settled-same x.0 m x.2 (each (λ (k : Mirror). k.settled ≡ true) old settled x.0 x.1) in
      let ys = settled-same y.0 n y.2 (each (λ (k : Mirror). k.settled ≡ true) old settled y.0 y.1) in
      rows x.0 y.0 q r x.1 y.1 (sym xs ∙ e) (sym ys ∙ g) row l,
)

pub all-serve-on : (cloned : ℕ) (w : World Name) (old new : List Mirror) → ComeFrom old new → AllServe cloned w old → AllServe cloned w new
all-serve-on cloned w old new f h = record {
  each = all-each (IsServing cloned w) new (λ m i. let x = f.each_from m i in serves-on cloned w x.0 m x.2 (each (IsServing cloned w) old h.each x.0 x.1));
  first_clone = λ e. ⊎_elim (λ le. inl (subst (λ n. n ≤ 1) (sym f.count) le)) (λ a. inr (alike-on old new f a)) (h.first_clone e);
}
