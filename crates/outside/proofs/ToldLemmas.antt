-- Lemmas on what is told.
use Rattle.std.specs.Prelude.{ℕ, ◌+◌, ◌≤◌, ◌≡◌, List, ◌++◌, None, Some}
use Rattle.std.proofs.Common.{◌∙◌}
use Rattle.std.specs.declared.option.Option.{Option}
use Rattle.std.specs.Io.KnownBytes.{Appends, Keeps}
use Rattle.outside.specs.Told.{WhereTold}

-- the claims of two steps joined
pub WhereTold-join : {X : Type 0} (a b c : Option X) (P Q R : X → X → Type 0)
    → ((x y z : X) → P x y → Q y z → R x z) → WhereTold a b P → WhereTold b c Q → WhereTold a c R
WhereTold-join None b c P Q R f p q = tt
WhereTold-join (Some x) None c P Q R f p q = absurd p
WhereTold-join (Some x) (Some y) None P Q R f p q = absurd q
WhereTold-join (Some x) (Some y) (Some z) P Q R f p q = f x y z p q

-- a claim weakened
pub WhereTold-map : {X : Type 0} (a b : Option X) (P Q : X → X → Type 0)
    → ((x y : X) → P x y → Q x y) → WhereTold a b P → WhereTold a b Q
WhereTold-map None b P Q f p = tt
WhereTold-map (Some x) None P Q f p = absurd p
WhereTold-map (Some x) (Some y) P Q f p = f x y p

-- two claims of the same step
pub WhereTold-both : {X : Type 0} (a b : Option X) (P Q R : X → X → Type 0)
    → ((x y : X) → P x y → Q x y → R x y) → WhereTold a b P → WhereTold a b Q → WhereTold a b R
WhereTold-both None b P Q R f p q = tt
WhereTold-both (Some x) None P Q R f p q = absurd p
WhereTold-both (Some x) (Some y) P Q R f p q = f x y p q

-- what is told of one state holds of it twice
pub WhereTold-same : {X : Type 0} (a : Option X) (P : X → X → Type 0) → ((x : X) → P x x) → WhereTold a a P
WhereTold-same None P f = tt
WhereTold-same (Some x) P f = f x

-- what std says of a writer
pub WhereTold-appends : (a b : Option (List ℕ)) (piece : List ℕ) → Appends a b piece → WhereTold a b (λ x y. y ≡ x ++ piece)
WhereTold-appends None b piece h = tt
WhereTold-appends (Some x) None piece h = absurd h
WhereTold-appends (Some x) (Some y) piece h = h

-- what std says of a reader that failed
pub WhereTold-keeps : (a b : Option (List ℕ)) → Keeps a b → WhereTold a b (λ x y. y ≡ x)
WhereTold-keeps None b h = tt
WhereTold-keeps (Some x) None h = absurd h
WhereTold-keeps (Some x) (Some y) h = h
