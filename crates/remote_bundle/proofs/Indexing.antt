-- An index of edges that was brought on, or stayed as it was.
use Rattle.std.proofs.Common.{◌≡◌, Result, Ok, Err, sym, subst}
use Rattle.std.specs.Prelude.{OnOk, OnErr}

pub grown-or : {A : Type 0} {B : Type 0} {T : Type 0} (r : Result A B) (P : T → Type 0) (old new : T) → OnOk r (P new) → OnErr r (new ≡ old) → P old → P new
grown-or (Ok x) P old new ok err p = ok
grown-or (Err x) P old new ok err p = subst P (sym err) p
