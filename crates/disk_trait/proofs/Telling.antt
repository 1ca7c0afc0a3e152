-- What is told, from one disk to the next.
use Rattle.std.proofs.Common.{◌≡◌, List, ℕ, Option, Some, None, IfSome, subst}
use Rattle.outside.specs.Told.{WhereTold}
use Rattle.disk_trait.specs.Images.{Told}
use Rattle.disk_trait.specs.Calls.{Goes}

-- where a disk tells, one step and then another
pub goes-then : (R S T : Told → Told → Type 0) (a b c : Option Told) → ((x y z : Told) → R x y → S y z → T x z) → Goes R a b → Goes S b c → Goes T a c
goes-then R S T None None None f r s = tt
goes-then R S T None None (Some z) f r s = s
goes-then R S T None (Some y) c f r s = absurd r
goes-then R S T (Some x) None c f r s = absurd r
goes-then R S T (Some x) (Some y) None f r s = absurd s
goes-then R S T (Some x) (Some y) (Some z) f r s = f x y z r s

-- one step
pub goes-map : (R S : Told → Told → Type 0) (a b : Option Told) → ((x y : Told) → R x y → S x y) → Goes R a b → Goes S a b
goes-map R S None None f r = tt
goes-map R S None (Some y) f r = r
goes-map R S (Some x) None f r = r
goes-map R S (Some x) (Some y) f r = f x y r

-- two claims of one step
pub goes-both : (R S T : Told → Told → Type 0) (a b : Option Told) → ((x y : Told) → R x y → S x y → T x y) → Goes R a b → Goes S a b → Goes T a b
goes-both R S T None None f r s = tt
goes-both R S T None (Some y) f r s = r
goes-both R S T (Some x) None f r s = r
goes-both R S T (Some x) (Some y) f r s = f x y r s

-- no step
pub goes-same : (R : Told → Told → Type 0) (a : Option Told) → ((x : Told) → R x x) → Goes R a a
goes-same R None f = tt
goes-same R (Some x) f = f x

-- a step from what is so
pub goes-from : (R S : Told → Told → Type 0) (F : Told → Type 0) (a b : Option Told) → ((x y : Told) → F x → R x y → S x y) → IfSome a F → Goes R a b → Goes S a b
goes-from R S F None None f h r = tt
goes-from R S F None (Some y) f h r = r
goes-from R S F (Some x) None f h r = r
goes-from R S F (Some x) (Some y) f h r = f x y h r

-- what is so before a step is so behind it
pub if_forth : (R : Told → Told → Type 0) (F G : Told → Type 0) (a b : Option Told) → ((x y : Told) → R x y → F x → G y) → Goes R a b → IfSome a F → IfSome b G
if_forth R F G None None f r h = tt
if_forth R F G None (Some y) f r h = absurd r
if_forth R F G (Some x) None f r h = tt
if_forth R F G (Some x) (Some y) f r h = f x y r h

pub if_back : (R : Told → Told → Type 0) (F G : Told → Type 0) (a b : Option Told) → ((x y : Told) → R x y → G y → F x) → Goes R a b → IfSome b G → IfSome a F
if_back R F G None b f r h = tt
if_back R F G (Some x) None f r h = absurd r
if_back R F G (Some x) (Some y) f r h = f x y r h

-- what a step leaves
pub goes-new : (R : Told → Told → Type 0) (G : Told → Type 0) (a b : Option Told) → ((x y : Told) → R x y → G y) → Goes R a b → IfSome b G
goes-new R G None None f r = tt
goes-new R G None (Some y) f r = absurd r
goes-new R G (Some x) None f r = tt
goes-new R G (Some x) (Some y) f r = f x y r

-- a step, in the words of all that may tell
pub goes-told : (R : Told → Told → Type 0) (a b : Option Told) → Goes R a b → WhereTold a b R
goes-told R None b r = tt
goes-told R (Some x) None r = r
goes-told R (Some x) (Some y) r = r

-- what holds of the bytes that a read gives holds of those of an honest disk
pub of_told : (F : List ℕ → Type 0) (bytes : Option (List ℕ)) (a : Option Told) → IfSome a (λ t. bytes ≡ Some t.bytes) → IfSome bytes F → IfSome a (λ t. F t.bytes)
of_told F bytes None e h = tt
of_told F bytes (Some t) e h = subst (λ o. IfSome o F) e h
