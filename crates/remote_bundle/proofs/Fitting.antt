-- The rows that the bytes of a file tell.
use Rattle.std.proofs.Common.{◌≡◌, ◌≤◌, ℕ, List, None, IfSome, IfOk, Result, Ok, Err, length, sym, ap, subst, ◌∙◌, if◌then◌else◌}
use Rattle.std.specs.Option.{option_map}
use Rattle.std.proofs.lemmas.Bool.{le-leb}
use Rattle.commit_graph.specs.World.{Row}
use Rattle.id_groups.specs.Name.{Name}
use Rattle.bundle_codec.specs.Bundle.{Contents, IsBundle, bundle_bytes, rows_of}
use Rattle.bundle_codec.specs.Reading.{bundle_at, rows_within}
use Rattle.bundle_codec.proofs.Format.{bundle_again}
use Rattle.remote_bundle.specs.Held.{rows_in}

-- within the limit the rows are those of the bytes
pub within-rows : (limit : ℕ) (bytes : List ℕ) → length bytes ≤ limit → rows_within limit bytes ≡ rows_in bytes
within-rows limit bytes le = ap (λ b. option_map rows_of (if b then bundle_at bytes else None)) (le-leb (length bytes) limit le)

-- what holds of a bundle's rows holds of those that its bytes tell
pub told-so : (c : Contents) → IsBundle c → (bytes : List ℕ) → bytes ≡ bundle_bytes c → (P : List (Row Name) → Type 0) → P (rows_of c) → IfSome (rows_in bytes) P
told-so c h bytes e P p = subst (λ o. IfSome (option_map rows_of o) P) (sym (ap bundle_at e ∙ bundle_again c h)) p

pub ok-map : {X E : Type 0} {P Q : X → Type 0} (r : Result X E) → ((x : X) → P x → Q x) → IfOk r P → IfOk r Q
ok-map (Ok x) f h = f x h
ok-map (Err e) f h = tt
