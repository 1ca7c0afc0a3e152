-- What putting the bundle of the stored master means, by its status.
use Rattle.std.specs.Prelude.{ℕ, ◌≡◌, ◌⊎◌, ◌==◌, IsTrue, true, false, List, [], ◌∷◌, ◌++◌, Result, Ok, Err, Vec, ⊤}
use Rattle.std.specs.List.{list_any}
use Rattle.std.specs.declared.alloc.Global.{Global}
use Rattle.outside.specs.Told.{TookFront}
use Rattle.id_groups.specs.Name.{Name}
use Rattle.commit_graph.specs.World.{World}
use Rattle.batch_codec.specs.Payload.{Payload}
use Rattle.bundle_codec.specs.Bundle.{bundle_of}
use Rattle.change_rules.specs.Lazy.{has_lazy}
use Rattle.change_rules.specs.Unlawful.{IsNoLog}
use Rattle.dag_store.specs.declared.replies.LoadFault.{LoadFault}
use Rattle.dag_store.specs.declared.replies.LoadFault.TheVariants as loads
use Rattle.dag_run.specs.declared.bundling.Unbundled.{Unbundled}
use Rattle.dag_run.specs.declared.bundling.Unbundled.TheVariants.{NotLoaded, NoLog, Memory, Unnamed}

-- where no store was loaded
abbrev pub unbundled_of : LoadFault → Unbundled
unbundled_of (loads.Frame at) = NoLog
unbundled_of (loads.TooLarge size) = NoLog
unbundled_of (loads.Batch k) = NoLog
unbundled_of (loads.Disk fault) = NotLoaded
unbundled_of loads.Memory = Memory

-- the status where there is no bundle
abbrev pub unbundled_status : Unbundled → ℕ
unbundled_status NotLoaded = 3
unbundled_status NoLog = 4
unbundled_status Memory = 7
unbundled_status Unnamed = 10

-- what the sink took of the piece: all of it with 0, and a front of it with 6
abbrev pub PutsWhole : List ℕ → ℕ → List ℕ → List ℕ → Type 0
PutsWhole piece status before now = ((status ≡ 0) × (now ≡ before ++ piece)) ⊎ ((status ≡ 6) × TookFront piece before now)

-- What the status says of a log with these payloads that holds the world, and of what was put. Where each commit of master has a stored
-- name it is the bundle, or a front of it where the sink failed. Where one has none, nothing is put. Nor is it where the disk failed or
-- memory was wanting.
abbrev pub BundleMeans : List Payload → World Name → ℕ → List ℕ → List ℕ → Type 0
BundleMeans payloads w status before now =
    ((has_lazy payloads w ≡ false) × PutsWhole (bundle_of w.master) status before now)
    ⊎ (((status ≡ 10) × (has_lazy payloads w ≡ true) × (now ≡ before))
    ⊎ (((status ≡ 3) ⊎ (status ≡ 7)) × (now ≡ before)))

-- the statuses of putting a bundle
abbrev pub IsBundleStatus : ℕ → Type 0
IsBundleStatus status = IsTrue (list_any (λ known. known == status) (0 ∷ 3 ∷ 4 ∷ 6 ∷ 7 ∷ 10 ∷ []))

-- ---- for the code's own clauses
-- what is made of a log with these payloads that holds the world
abbrev pub Bundles : List Payload → World Name → Result (Vec ℕ Global) Unbundled → Type 0
Bundles payloads w (Ok bundle) = (has_lazy payloads w ≡ false) × (bundle.items ≡ bundle_of w.master)
Bundles payloads w (Err NotLoaded) = ⊤
Bundles payloads w (Err NoLog) = ⊥
Bundles payloads w (Err Memory) = ⊤
Bundles payloads w (Err Unnamed) = has_lazy payloads w ≡ true

-- what is made of bytes
abbrev pub BundleRefuses : ℕ → List ℕ → Result (Vec ℕ Global) Unbundled → Type 0
BundleRefuses limit bytes (Ok bundle) = IsNoLog limit bytes → ⊥
BundleRefuses limit bytes (Err NotLoaded) = ⊤
BundleRefuses limit bytes (Err NoLog) = IsNoLog limit bytes
BundleRefuses limit bytes (Err Memory) = ⊤
BundleRefuses limit bytes (Err Unnamed) = IsNoLog limit bytes → ⊥

-- the store is loaded
abbrev pub IsOfStore : Unbundled → Type 0
IsOfStore NotLoaded = ⊥
IsOfStore NoLog = ⊥
IsOfStore Memory = ⊤
IsOfStore Unnamed = ⊤
