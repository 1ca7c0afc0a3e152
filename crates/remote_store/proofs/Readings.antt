-- When a log as a remote is read.
use Rattle.std.proofs.Common.{◌≡◌, ℕ, List, Option, Some, None, Result, Ok, Err, sym, subst}
use Rattle.disk_trait.specs.Images.{Told}
use Rattle.disk_trait.specs.Meanwhile.{Meanwhile}
use Rattle.remote_trait.specs.declared.fault.RemoteFault.{RemoteFault}
use Rattle.remote_trait.specs.declared.fault.RemoteFault.TheVariants.{Failed, Memory}
use Rattle.remote_store.specs.Remote.{PlainRemote, ReadsAnew, ReadsWhereLacking}

module _ {S : Type 0} (meanwhile : S → Option Meanwhile) (limit : ℕ) (told : Option Told) (disk_faults faults : ℕ) (disk : S) where
  abbrev pub at : ℕ → Option (List (List ℕ)) → PlainRemote S
  at asked kept = record { log = record { limit = limit; told = told; disk_faults = disk_faults; faults = faults; asked = asked; kept = kept }; disk = disk }

  -- what was kept before plays no part where the log is read anew
  pub anew-kept : {T : Type 0} (asked : ℕ) (kept : Option (List (List ℕ))) (now : PlainRemote S) (r : Result T RemoteFault) → ReadsAnew meanwhile (at asked None) now r → ReadsAnew meanwhile (at asked kept) now r
  anew-kept asked kept now (Ok x) h = (h.0, (h.1.0, h.1.1, record { calls = h.1.2.calls; moment = h.1.2.moment }))
  anew-kept asked kept now (Err Failed) h = h
  anew-kept asked kept now (Err Memory) h = h

  -- nor does how much was asked before; and a fault is one of any call
  pub lacking-asked : (T U : Type 0) (asked more : ℕ) (kept : Option (List (List ℕ))) (now : PlainRemote S) (fault : RemoteFault)
      → ReadsWhereLacking {T = T} meanwhile (at more kept) now (Err fault) → ReadsWhereLacking {T = U} meanwhile (at asked kept) now (Err fault)
  lacking-asked T U asked more None now Failed h = h
  lacking-asked T U asked more None now Memory h = h
  lacking-asked T U asked more (Some texts) now Failed h = h
  lacking-asked T U asked more (Some texts) now Memory h = h

-- a fault that is handed on
pub lacking-handed : {S U : Type 0} (meanwhile : S → Option Meanwhile) (before now : PlainRemote S) (r : Result U RemoteFault) (f e : RemoteFault) → r ≡ Err f → f ≡ e
    → ReadsWhereLacking {T = U} meanwhile before now (Err e) → ReadsWhereLacking meanwhile before now r
lacking-handed {S} {U} meanwhile before now r f e is same h =
    subst (λ z. ReadsWhereLacking meanwhile before now z) (sym is) (subst (λ x. ReadsWhereLacking {T = U} meanwhile before now (Err x)) (sym same) h)
