-- What a mode does, from what its function says.
use Rattle.std.proofs.Common.{ℕ, ◌≡◌, ◌⊎◌, false, inl, inr, List, [], ◌∷◌, refl, sym, subst}
use Rattle.std.specs.Prelude.{IsTrue}
use Rattle.std.specs.List.{AllByRecursion}
use Rattle.outside.specs.Counts.{Rose}
use Rattle.disk_trait.specs.Calls.{Goes}
use Rattle.disk_trait.specs.Since.{IsUntouched}
use Rattle.program_words.specs.declared.usage.Mode.{Mode}
use Rattle.program_words.specs.declared.usage.Usage.{Usage}
use Rattle.dag_run.specs.Modes.{IsModeStatus}
use Rattle.dag_run.specs.Stops.{IsOneOf, IsRunStatus, IsDemoStatus}
use Rattle.dag_run.specs.Serving.{IsServeStatus}
use Rattle.dag_run.specs.Bundling.{IsBundleStatus}
use Rattle.dag_run.specs.Compacting.{IsCompactStatus}
use Rattle.dag_run.specs.Does.{Around, Causes, Does, DoesIn}
use Rattle.dag_run.proofs.ModeStatuses.{is_one_of, apart}

-- of a mode that is the usage's, of a status that is this
pub does-in : {D M I O : Type 0} (usage : Usage) (x : Around D M I O) (changes : List ℕ) (mode : Mode) → usage.mode ≡ mode → (s status : ℕ) → status ≡ s
    → DoesIn mode usage x s changes → IsModeStatus mode s → Causes x s → Does usage x status changes
does-in usage x changes mode e s status same h known causes = subst (λ n. Does usage x n changes) (sym same) (record {
  mode = subst (λ m. DoesIn m usage x s changes) (sym e) h;
  known = subst (λ m. IsModeStatus m s) (sym e) known;
  causes = causes;
})

-- ---- what a status means, by the statuses of each mode
never : (xs : List ℕ) (n : ℕ) → is_one_of xs n ≡ false → (status : ℕ) → IsTrue (is_one_of xs status) → status ≡ n → ⊥
never xs n out status h e = apart xs (n ∷ []) (out, tt) status h (inl e)

-- nothing was put, unless all was or a front of it
unput : (status : ℕ) (Output : Type 0) (ys : List ℕ) → AllByRecursion (λ y. is_one_of (0 ∷ 6 ∷ []) y ≡ false) ys → (status ≡ 0) ⊎ ((status ≡ 6) ⊎ Output) → IsOneOf ys status → Output
unput status Output ys all (inl zero) o = absurd (apart (0 ∷ 6 ∷ []) ys all status (subst (λ n. IsTrue (is_one_of (0 ∷ 6 ∷ []) n)) (sym zero) refl) o)
unput status Output ys all (inr (inl six)) o = absurd (apart (0 ∷ 6 ∷ []) ys all status (subst (λ n. IsTrue (is_one_of (0 ∷ 6 ∷ []) n)) (sym six) refl) o)
unput status Output ys all (inr (inr same)) o = same

module _ {D M I O : Type 0} (x : Around D M I O) (status : ℕ) where
  pub run-causes : IsRunStatus status → (status ≡ 3 → Rose x.log.faults x.log.faults_then)
      → (status ≡ 4 → Goes IsUntouched x.log.before x.log.after × (x.input.is ≡ x.input.was) × (x.output.is ≡ x.output.was) × (x.mirrors.is ≡ x.mirrors.was))
      → (status ≡ 5 → Rose x.input.faults x.input.faults_then) → (status ≡ 6 → Rose x.output.faults x.output.faults_then)
      → (status ≡ 7 → (x.input.is ≡ x.input.was) × (x.output.is ≡ x.output.was) × (x.mirrors.is ≡ x.mirrors.was)) → Causes x status
  run-causes known disk no_log source sink memory = record {
    disk = disk;
    no_log = no_log;
    source = source;
    sink = sink;
    spare = λ e. absurd (never (0 ∷ 3 ∷ 4 ∷ 5 ∷ 6 ∷ 7 ∷ 8 ∷ []) 13 refl status known e);
    quiet = still;
  }
    where
      still : IsOneOf (2 ∷ 7 ∷ 10 ∷ 11 ∷ 13 ∷ 14 ∷ 15 ∷ []) status → (x.input.is ≡ x.input.was) × (x.output.is ≡ x.output.was) × (x.mirrors.is ≡ x.mirrors.was)
      still (inl two) = absurd (never (0 ∷ 3 ∷ 4 ∷ 5 ∷ 6 ∷ 7 ∷ 8 ∷ []) 2 refl status known two)
      still (inr (inl seven)) = memory seven
      still (inr (inr o)) = absurd (apart (0 ∷ 3 ∷ 4 ∷ 5 ∷ 6 ∷ 7 ∷ 8 ∷ []) (10 ∷ 11 ∷ 13 ∷ 14 ∷ 15 ∷ []) (refl, (refl, (refl, (refl, (refl, tt))))) status known o)

  pub demo-causes : IsDemoStatus status → (status ≡ 6 → Rose x.output.faults x.output.faults_then)
      → (status ≡ 7 → (x.input.is ≡ x.input.was) × (x.output.is ≡ x.output.was) × (x.mirrors.is ≡ x.mirrors.was)) → Causes x status
  demo-causes known sink memory = record {
    disk = λ e. absurd (never (0 ∷ 6 ∷ 7 ∷ []) 3 refl status known e);
    no_log = λ e. absurd (never (0 ∷ 6 ∷ 7 ∷ []) 4 refl status known e);
    source = λ e. absurd (never (0 ∷ 6 ∷ 7 ∷ []) 5 refl status known e);
    sink = sink;
    spare = λ e. absurd (never (0 ∷ 6 ∷ 7 ∷ []) 13 refl status known e);
    quiet = still;
  }
    where
      still : IsOneOf (2 ∷ 7 ∷ 10 ∷ 11 ∷ 13 ∷ 14 ∷ 15 ∷ []) status → (x.input.is ≡ x.input.was) × (x.output.is ≡ x.output.was) × (x.mirrors.is ≡ x.mirrors.was)
      still (inl two) = absurd (never (0 ∷ 6 ∷ 7 ∷ []) 2 refl status known two)
      still (inr (inl seven)) = memory seven
      still (inr (inr o)) = absurd (apart (0 ∷ 6 ∷ 7 ∷ []) (10 ∷ 11 ∷ 13 ∷ 14 ∷ 15 ∷ []) (refl, (refl, (refl, (refl, (refl, tt))))) status known o)

  pub serve-causes : IsServeStatus status → (status ≡ 5 → Rose x.input.faults x.input.faults_then) → (status ≡ 6 → Rose x.output.faults x.output.faults_then)
      → ((status ≡ 7) ⊎ (status ≡ 11) → (x.input.is ≡ x.input.was) × (x.output.is ≡ x.output.was) × (x.mirrors.is ≡ x.mirrors.was)) → Causes x status
  serve-causes known source sink memory = record {
    disk = λ e. absurd (never (0 ∷ 5 ∷ 6 ∷ 7 ∷ 8 ∷ 11 ∷ 12 ∷ []) 3 refl status known e);
    no_log = λ e. absurd (never (0 ∷ 5 ∷ 6 ∷ 7 ∷ 8 ∷ 11 ∷ 12 ∷ []) 4 refl status known e);
    source = source;
    sink = sink;
    spare = λ e. absurd (never (0 ∷ 5 ∷ 6 ∷ 7 ∷ 8 ∷ 11 ∷ 12 ∷ []) 13 refl status known e);
    quiet = still;
  }
    where
      still : IsOneOf (2 ∷ 7 ∷ 10 ∷ 11 ∷ 13 ∷ 14 ∷ 15 ∷ []) status → (x.input.is ≡ x.input.was) × (x.output.is ≡ x.output.was) × (x.mirrors.is ≡ x.mirrors.was)
      still (inl two) = absurd (never (0 ∷ 5 ∷ 6 ∷ 7 ∷ 8 ∷ 11 ∷ 12 ∷ []) 2 refl status known two)
      still (inr (inl seven)) = memory (inl seven)
      still (inr (inr (inl ten))) = absurd (never (0 ∷ 5 ∷ 6 ∷ 7 ∷ 8 ∷ 11 ∷ 12 ∷ []) 10 refl status known ten)
      still (inr (inr (inr (inl eleven)))) = memory (inr eleven)
      still (inr (inr (inr (inr o)))) = absurd (apart (0 ∷ 5 ∷ 6 ∷ 7 ∷ 8 ∷ 11 ∷ 12 ∷ []) (13 ∷ 14 ∷ 15 ∷ []) (refl, (refl, (refl, tt))) status known o)

  pub bundle-causes : IsBundleStatus status → x.input.is ≡ x.input.was → x.mirrors.is ≡ x.mirrors.was → (status ≡ 0) ⊎ ((status ≡ 6) ⊎ (x.output.is ≡ x.output.was))
      → (status ≡ 3 → Rose x.log.faults x.log.faults_then) → (status ≡ 4 → Goes IsUntouched x.log.before x.log.after) → (status ≡ 6 → Rose x.output.faults x.output.faults_then) → Causes x status
  bundle-causes known input mirrors put disk unwritten sink = record {
    disk = disk;
    no_log = λ e. (unwritten e, input, unput status (x.output.is ≡ x.output.was) (4 ∷ []) (refl, tt) put (inl e), mirrors);
    source = λ e. absurd (never (0 ∷ 3 ∷ 4 ∷ 6 ∷ 7 ∷ 10 ∷ []) 5 refl status known e);
    sink = sink;
    spare = λ e. absurd (never (0 ∷ 3 ∷ 4 ∷ 6 ∷ 7 ∷ 10 ∷ []) 13 refl status known e);
    quiet = λ o. (input, unput status (x.output.is ≡ x.output.was) (2 ∷ 7 ∷ 10 ∷ 11 ∷ 13 ∷ 14 ∷ 15 ∷ []) (refl, (refl, (refl, (refl, (refl, (refl, (refl, tt))))))) put o, mirrors);
  }

  pub compact-causes : IsCompactStatus status → x.input.is ≡ x.input.was → x.mirrors.is ≡ x.mirrors.was → (status ≡ 0) ⊎ ((status ≡ 6) ⊎ (x.output.is ≡ x.output.was))
      → (status ≡ 3 → Rose x.log.faults x.log.faults_then) → (status ≡ 4 → Goes IsUntouched x.log.before x.log.after) → (status ≡ 6 → Rose x.output.faults x.output.faults_then)
      → (status ≡ 13 → Rose x.spare.faults x.spare.faults_then) → Causes x status
  compact-causes known input mirrors put disk unwritten sink spare = record {
    disk = disk;
    no_log = λ e. (unwritten e, input, unput status (x.output.is ≡ x.output.was) (4 ∷ []) (refl, tt) put (inl e), mirrors);
    source = λ e. absurd (never (0 ∷ 3 ∷ 4 ∷ 6 ∷ 7 ∷ 13 ∷ 14 ∷ 15 ∷ []) 5 refl status known e);
    sink = sink;
    spare = spare;
    quiet = λ o. (input, unput status (x.output.is ≡ x.output.was) (2 ∷ 7 ∷ 10 ∷ 11 ∷ 13 ∷ 14 ∷ 15 ∷ []) (refl, (refl, (refl, (refl, (refl, (refl, (refl, tt))))))) put o, mirrors);
  }
