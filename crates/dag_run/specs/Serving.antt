-- What serving the one mirror means, by its status.
use Rattle.std.specs.Prelude.{◌≡◌, ◌≢◌, ◌⊎◌, ℕ, ◌==◌, IsTrue, List, [], ◌∷◌}
use Rattle.std.specs.List.{list_any}
use Rattle.line_io.specs.Streams.{Streams}
use Rattle.remote_rules.specs.Mirror.{Mirror}
use Rattle.remote_serve.specs.Ends.{ServesOnly}
use Rattle.remote_serve.specs.declared.served.Served.{Served}
use Rattle.remote_serve.specs.declared.served.Served.TheVariants.{End, BadFrame, Limit, SourceFault, SinkFault, Memory}

-- the status of each end
abbrev pub served_status : Served → ℕ
served_status End = 0
served_status SourceFault = 5
served_status SinkFault = 6
served_status Memory = 7
served_status Limit = 8
served_status BadFrame = 12

-- The status is that of an end of serving the one mirror: one answer for each whole frame of the bytes given, in order, as the end says.
abbrev pub ServeMeans : ℕ → ℕ → Streams → List Mirror → List Mirror → Type 0
ServeMeans limit status io first left = (end : Served) × (status ≡ served_status end) × ServesOnly end limit io first left

-- Status 11 comes only where the mirrors, so many, aren't one, and there always, unless memory was wanting to read the words.
abbrev pub WantsOne : ℕ → ℕ → Type 0
WantsOne count status = (status ≡ 11 → count ≢ 1) × (count ≢ 1 → (status ≡ 11) ⊎ (status ≡ 7))

-- the statuses of serving
abbrev pub IsServeStatus : ℕ → Type 0
IsServeStatus status = IsTrue (list_any (λ known. known == status) (0 ∷ 5 ∷ 6 ∷ 7 ∷ 8 ∷ 11 ∷ 12 ∷ []))
