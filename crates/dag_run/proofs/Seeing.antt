-- Claims of a disk, a source and a sink at once.
use Rattle.std.proofs.Common.{ℕ, ◌≡◌, List, Option, Some, None, IfSome, refl, ◌≤◌, arith}
use Rattle.outside.specs.Counts.{Rose}
use Rattle.outside.specs.Told.{WhereTold}
use Rattle.outside.proofs.ToldLemmas.{WhereTold-same}
use Rattle.disk_trait.specs.Images.{Told, IsSound}
use Rattle.dag_run.specs.Seen.{Seen, seen}

-- what holds of each of the three
pub record Each (Q : Told → Told → Type 0) (P R : List ℕ → List ℕ → Type 0) (a b : Seen) : Type 0 where
  pub disk : Q a.disk b.disk
  pub left : P a.left b.left
  pub taken : R a.taken b.taken

pub seen-each : (d e : Option Told) (i j o p : Option (List ℕ)) (Q : Told → Told → Type 0) (P R : List ℕ → List ℕ → Type 0) → WhereTold d e Q → WhereTold i j P → WhereTold o p R
    → WhereTold (seen d i o) (seen e j p) (Each Q P R)
seen-each None e i j o p Q P R q l t = tt
seen-each (Some d) e None j o p Q P R q l t = tt
seen-each (Some d) e (Some i) j None p Q P R q l t = tt
seen-each (Some d) None (Some i) j (Some o) p Q P R q l t = absurd q
seen-each (Some d) (Some e) (Some i) None (Some o) p Q P R q l t = absurd l
seen-each (Some d) (Some e) (Some i) (Some j) (Some o) None Q P R q l t = absurd t
seen-each (Some d) (Some e) (Some i) (Some j) (Some o) (Some p) Q P R q l t = record { disk = q; left = l; taken = t }

-- a sound disk that stays as it is
pub sound-told : (d : Option Told) → IfSome d IsSound → WhereTold d d (λ x y. (y ≡ x) × IsSound x)
sound-told None h = tt
sound-told (Some x) h = (refl, h)

pub same-told : {X : Type 0} (a : Option X) → WhereTold a a (λ x y. y ≡ x)
same-told a = WhereTold-same a (λ x y. y ≡ x) (λ x. refl)

-- a count that rose later rose since before
pub rose-since : (a b c : ℕ) → a ≤ b → Rose b c → Rose a c
rose-since a b c le r = omega (arith, le, r)

-- what holds of the disk, or of the sink, where all three tell
pub seen-disk : (d e : Option Told) (i j o p : Option (List ℕ)) (A : Seen → Seen → Type 0) (Q : Told → Told → Type 0) → WhereTold (seen d i o) (seen e j p) A → WhereTold d e Q → WhereTold (seen d i o) (seen e j p) (λ x y. Q x.disk y.disk)
seen-disk None e i j o p A Q h q = tt
seen-disk (Some d) e None j o p A Q h q = tt
seen-disk (Some d) e (Some i) j None p A Q h q = tt
seen-disk (Some d) None (Some i) j (Some o) p A Q h q = absurd h
seen-disk (Some d) (Some e) (Some i) None (Some o) p A Q h q = absurd h
seen-disk (Some d) (Some e) (Some i) (Some j) (Some o) None A Q h q = absurd h
seen-disk (Some d) (Some e) (Some i) (Some j) (Some o) (Some p) A Q h q = q

pub seen-taken : (d e : Option Told) (i j o p : Option (List ℕ)) (A : Seen → Seen → Type 0) (R : List ℕ → List ℕ → Type 0) → WhereTold (seen d i o) (seen e j p) A → WhereTold o p R → WhereTold (seen d i o) (seen e j p) (λ x y. R x.taken y.taken)
seen-taken None e i j o p A R h r = tt
seen-taken (Some d) e None j o p A R h r = tt
seen-taken (Some d) e (Some i) j None p A R h r = tt
seen-taken (Some d) None (Some i) j (Some o) p A R h r = absurd h
seen-taken (Some d) (Some e) (Some i) None (Some o) p A R h r = absurd h
seen-taken (Some d) (Some e) (Some i) (Some j) (Some o) None A R h r = absurd h
seen-taken (Some d) (Some e) (Some i) (Some j) (Some o) (Some p) A R h r = r

-- what held of the disk before
pub seen-before : (d e : Option Told) (i j o p : Option (List ℕ)) (A : Seen → Seen → Type 0) (F : Told → Type 0) → WhereTold (seen d i o) (seen e j p) A → IfSome d F → WhereTold (seen d i o) (seen e j p) (λ x y. F x.disk)
seen-before None e i j o p A F h f = tt
seen-before (Some d) e None j o p A F h f = tt
seen-before (Some d) e (Some i) j None p A F h f = tt
seen-before (Some d) None (Some i) j (Some o) p A F h f = absurd h
seen-before (Some d) (Some e) (Some i) None (Some o) p A F h f = absurd h
seen-before (Some d) (Some e) (Some i) (Some j) (Some o) None A F h f = absurd h
seen-before (Some d) (Some e) (Some i) (Some j) (Some o) (Some p) A F h f = f
