-- What a reading answers of a log to which another process adds payloads meanwhile.
use Rattle.std.proofs.Common.{◌≡◌, ℕ, inl, inr, List, Option, Result, Ok, Err, refl, sym, subst, ◌∙◌}
use Rattle.std.specs.Prelude.{◌↔◌, ◌⊎◌}
use Rattle.outside.specs.Counts.{Rose}
use Rattle.outside.specs.Told.{WhereTold}
use Rattle.outside.proofs.ToldLemmas.{WhereTold-map}
use Rattle.disk_trait.specs.Meanwhile.{Meanwhile, Lasts}
use Rattle.gated_log.specs.Growing.{ReadsGrown}
use Rattle.gated_log.specs.Held.{Held}
use Rattle.gated_log.specs.declared.LoadLog.{LoadLog}
use Rattle.gated_log.specs.declared.LoadLog.TheVariants as logs
use Rattle.remote_trait.specs.declared.fault.RemoteFault.{RemoteFault}
use Rattle.remote_trait.specs.declared.fault.RemoteFault.TheVariants as faults
use Rattle.remote_store.specs.Fit.{AreNoRemote, IsTooLong, IsUnfitMeanwhile}
use Rattle.remote_store.specs.Loaded.{PeeksLogGrown, PeeksGrown}

wider : (limit : ℕ) (payloads : ℕ → List (List ℕ)) (before now : ℕ) (x y : Meanwhile) → Rose before now ⊎ IsTooLong limit x.film payloads x.now y.now → Rose before now ⊎ IsUnfitMeanwhile limit x.film payloads x.now y.now
wider limit payloads before now x y (inl r) = inl r
wider limit payloads before now x y (inr u) = inr (inl u)

module _ (limit : ℕ) (payloads : ℕ → List (List ℕ)) (before now : ℕ) (a b : Option Meanwhile) where
  -- time went on
  pub grown-lasts : (r : Result Held LoadLog) → WhereTold a b (ReadsGrown limit payloads r) → WhereTold a b Lasts
  grown-lasts r h = WhereTold-map a b (ReadsGrown limit payloads r) Lasts (λ x y t. t.0) h

  -- a log that was read
  pub grown-log : (log : Held) → WhereTold a b (ReadsGrown limit payloads (Ok log)) → WhereTold a b (PeeksLogGrown limit payloads before now (Ok log))
  grown-log log h = WhereTold-map a b (ReadsGrown limit payloads (Ok log)) (PeeksLogGrown limit payloads before now (Ok log)) (λ x y t g. t.1 g) h

  -- why none was read
  pub grown-fault : (fault : LoadLog) (f : RemoteFault) → ((f ≡ faults.Memory) ↔ (fault ≡ logs.Memory)) → ((x : _) → fault ≡ logs.Disk x → Rose before now)
      → WhereTold a b (ReadsGrown limit payloads (Err fault)) → WhereTold a b (PeeksLogGrown limit payloads before now (Err f))
  grown-fault fault f same cause h = WhereTold-map a b (ReadsGrown limit payloads (Err fault)) (PeeksLogGrown limit payloads before now (Err f)) (λ x y t. step fault f same cause x y t) h
    where
      step : (fault : LoadLog) (f : RemoteFault) → ((f ≡ faults.Memory) ↔ (fault ≡ logs.Memory)) → ((x : _) → fault ≡ logs.Disk x → Rose before now)
          → (x y : Meanwhile) → ReadsGrown limit payloads (Err fault) x y → PeeksLogGrown limit payloads before now (Err f) x y
      step fault faults.Memory same cause x y t = tt
      step (logs.Damaged at) faults.Failed same cause x y t = λ g. inr (inr (t.1 g))
      step (logs.TooLarge size) faults.Failed same cause x y t = λ g. let h = t.1 g in inr (inl (size, h.0, h.1))
      step (logs.Disk e) faults.Failed same cause x y t = λ g. inl (cause e refl)
      step logs.Memory faults.Failed same cause x y t = let e : faults.Failed ≡ faults.Memory = same.1 refl in cc

  -- the same of the texts
  pub grown-refused : (f : RemoteFault) → WhereTold a b (PeeksLogGrown limit payloads before now (Err f)) → WhereTold a b (PeeksGrown limit payloads before now (Err f))
  grown-refused f h = WhereTold-map a b (PeeksLogGrown limit payloads before now (Err f)) (PeeksGrown limit payloads before now (Err f)) (step f) h
    where
      step : (f : RemoteFault) (x y : Meanwhile) → PeeksLogGrown limit payloads before now (Err f) x y → PeeksGrown limit payloads before now (Err f) x y
      step faults.Memory x y t = tt
      step faults.Failed x y t = λ g. wider limit payloads before now x y (t g)

  pub grown-texts : (log : Held) (texts : List (List ℕ)) → texts ≡ log.payloads → WhereTold a b (PeeksLogGrown limit payloads before now (Ok log)) → WhereTold a b (PeeksGrown limit payloads before now (Ok texts))
  grown-texts log texts e h = WhereTold-map a b (PeeksLogGrown limit payloads before now (Ok log)) (PeeksGrown limit payloads before now (Ok texts)) (λ x y t g. let m = t g in (m.0, m.1, e ∙ m.2)) h

  -- no remote is made of a log that was read
  pub grown-unfit : (log : Held) (f : RemoteFault) → (f ≡ faults.Failed → AreNoRemote log.payloads) → WhereTold a b (PeeksLogGrown limit payloads before now (Ok log)) → WhereTold a b (PeeksGrown limit payloads before now (Err f))
  grown-unfit log f unfit h = WhereTold-map a b (PeeksLogGrown limit payloads before now (Ok log)) (PeeksGrown limit payloads before now (Err f)) (λ x y t. step f unfit x y t) h
    where
      step : (f : RemoteFault) → (f ≡ faults.Failed → AreNoRemote log.payloads) → (x y : Meanwhile) → PeeksLogGrown limit payloads before now (Ok log) x y → PeeksGrown limit payloads before now (Err f) x y
      step faults.Memory unfit x y t = tt
      step faults.Failed unfit x y t = λ g. let m = t g in inr (inr (m.0, m.1, subst AreNoRemote m.2 (unfit refl)))

  -- a fault that is handed on
  pub grown-handed : (r : Result (List (List ℕ)) RemoteFault) (f e : RemoteFault) → r ≡ Err f → f ≡ e → WhereTold a b (PeeksGrown limit payloads before now (Err e)) → WhereTold a b (PeeksGrown limit payloads before now r)
  grown-handed r f e is same h =
      subst (λ z. WhereTold a b (PeeksGrown limit payloads before now z)) (sym is) (subst (λ x. WhereTold a b (PeeksGrown limit payloads before now (Err x))) (sym same) h)
