use Rattle.std.proofs.Common.{◌≡◌, sym, subst, [], ◌∷◌, ◌++◌}
use Rattle.disk_trait.specs.Images.{Told, surely, IsImage, LeftAt, moment_of}
use Rattle.disk_trait.proofs.Loss.{image-stable, last-append}
use Rattle.disk_trait.proofs.synced.Goals as goal

pub returns : goal.returns
returns c = λ old new image h left.
    let P : Told → Type 0 = λ n. LeftAt n (moment_of n) image → image ≡ n.bytes in
    subst P (sym h) (λ l. image-stable old.bytes image (subst (λ u. IsImage u image) (last-append (old.past ++ old.now ∷ old.now ∷ []) (surely old.bytes) _) l)) left
