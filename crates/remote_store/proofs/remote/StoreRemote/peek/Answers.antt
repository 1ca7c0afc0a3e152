use Rattle.std.proofs.Common.{◌≡◌, ◌≤◌, ◌⊎◌, ℕ, List, Some, Err, IfSome, refl, ap, sym, subst, ◌∙◌, arith}
use Rattle.outside.specs.Told.{WhereTold}
use Rattle.disk_trait.specs.Meanwhile.{Lasts}
use Rattle.gated_log.specs.Growing.{IsGrowing}
use Rattle.outside.specs.Counts.{Rose}
use Rattle.remote_store.specs.Told.{texts_within}
use Rattle.remote_store.specs.Fit.{IsUnfit, IsUnfitMeanwhile}
use Rattle.remote_store.specs.Loaded.{Peeks, PeeksGrown}
use Rattle.remote_store.specs.Remote.{PlainStore, PlainRemote, Reads, IsCause, HasRead, bytes_in}
use Rattle.remote_store.proofs.Mirroring.{IsKeptOf, told-bytes, kept-still, kept-new, if-map}
use Rattle.remote_store.proofs.remote.StoreRemote.peek.Goals as goal

pub invariant_of-self : goal.invariant_of-self
invariant_of-self g c =
    let d = c.self.inside.disk in
    (c.self.invariant.0, c.self.invariant.1, subst (IsKeptOf c.self.inside.limits.log (g.D.Disk.told c.peek.new.disk)) (sym c.replace.ensures.after) (kept-new c.self.inside.limits.log (g.D.Disk.told d) (g.D.Disk.told c.peek.new.disk) (g.D.Disk.bytes d) c.in-Ok.loaded c.peek.ensures.reads (g.met.D.Disk.tells d) c.in-Ok.ensures.answers))

pub invariant_of-self-in-Err-Memory : goal.invariant_of-self-in-Err-Memory
invariant_of-self-in-Err-Memory g c =
    (c.self.invariant.0, c.self.invariant.1, kept-still c.self.inside.limits.log (g.D.Disk.told c.self.inside.disk) (g.D.Disk.told c.peek.new.disk) c.self.inside.kept c.peek.ensures.reads c.self.invariant.2)

pub invariant_of-self-in-Err-Failed : goal.invariant_of-self-in-Err-Failed
invariant_of-self-in-Err-Failed g c =
    (c.self.invariant.0, c.self.invariant.1, kept-still c.self.inside.limits.log (g.D.Disk.told c.self.inside.disk) (g.D.Disk.told c.peek.new.disk) c.self.inside.kept c.peek.ensures.reads c.self.invariant.2)

pub returns-in-Ok-clause-left : goal.returns-in-Ok-clause-left
returns-in-Ok-clause-left g c =
    let d = c.self.inside.disk in
    let limit = c.self.inside.limits.log in
    let now : PlainStore = record { limit = limit; told = g.D.Disk.told c.peek.new.disk; disk_faults = g.D.Disk.faults c.peek.new.disk; faults = c.self.inside.faults; asked = c.self.inside.asked; kept = c.replace.new.dest } in
    subst (λ (old : PlainRemote g.row.D.Denot). Reads old.log now × (c.self.inside.faults ≡ old.log.faults) × IfSome (bytes_in old.log.told) (λ bytes. IsUnfit old.log.limit bytes → ⊥)) c.self.view_is (
      record { limit = refl; told = c.peek.ensures.reads; disk_faults = c.peek.ensures.later; asked = refl },
      refl,
      told-bytes (g.D.Disk.told d) (g.D.Disk.bytes d) (λ bytes. IsUnfit limit bytes → ⊥) (g.met.D.Disk.tells d)
          (if-map (g.D.Disk.bytes d) (λ bytes. (texts_within limit bytes ≡ Some c.in-Ok.loaded) × (IsUnfit limit bytes → ⊥)) (λ bytes. IsUnfit limit bytes → ⊥) (λ bytes h. h.1) c.in-Ok.ensures.answers),
    )

pub returns-in-Err-Failed-clause-left : goal.returns-in-Err-Failed-clause-left
returns-in-Err-Failed-clause-left g c =
    let d = c.self.inside.disk in
    let limit = c.self.inside.limits.log in
    let rose = c.saturating_add-self-inside.ensures in
    let now : PlainStore = record { limit = limit; told = g.D.Disk.told c.peek.new.disk; disk_faults = g.D.Disk.faults c.peek.new.disk; faults = c.saturating_add-self-inside.result; asked = c.self.inside.asked; kept = c.self.inside.kept } in
    subst (λ (old : PlainRemote g.row.D.Denot). Reads old.log now × Rose old.log.faults c.saturating_add-self-inside.result × (old.log.faults ≤ c.saturating_add-self-inside.result) × IsCause old.log now) c.self.view_is (
      record { limit = refl; told = c.peek.ensures.reads; disk_faults = c.peek.ensures.later; asked = refl },
      omega (arith, rose),
      (let f = c.self.ranges.1.1.1.0.1 in omega (arith, rose, f)),
      told-bytes (g.D.Disk.told d) (g.D.Disk.bytes d) (λ bytes. Rose (g.D.Disk.faults d) (g.D.Disk.faults c.peek.new.disk) ⊎ IsUnfit limit bytes) (g.met.D.Disk.tells d)
          (subst (λ f. IfSome (g.D.Disk.bytes d) (λ bytes. Peeks limit bytes (g.D.Disk.faults d) (g.D.Disk.faults c.peek.new.disk) (Err f))) c.in-Err-Failed.field-0-is c.in-Err-Failed.ensures.answers),
    )

pub returns-in-Ok-clause-anew : goal.returns-in-Ok-clause-anew
returns-in-Ok-clause-anew g c =
    let now : PlainRemote g.row.D.Denot = record {
      log = record { limit = c.self.inside.limits.log; told = g.D.Disk.told c.peek.new.disk; disk_faults = g.D.Disk.faults c.peek.new.disk; faults = c.self.inside.faults; asked = c.self.inside.asked; kept = c.replace.new.dest };
      disk = c.peek.new.disk;
    } in
    subst (λ (old : PlainRemote g.row.D.Denot). WhereTold (g.D.Disk.meanwhile old.disk) (g.D.Disk.meanwhile c.peek.new.disk) Lasts
    × ((texts : List (List ℕ)) × (c.replace.new.dest ≡ Some texts) × HasRead g.D.Disk.meanwhile old now texts)) c.self.view_is (
      c.in-Ok.ensures.lasts,
      (c.in-Ok.loaded, c.replace.ensures.after, record { calls = c.in-Ok.ensures.done; moment = c.in-Ok.ensures.grown }),
    )

pub returns-in-Err-Memory-clause-anew : goal.returns-in-Err-Memory-clause-anew
returns-in-Err-Memory-clause-anew g c = (
  subst (λ (old : PlainRemote g.row.D.Denot). WhereTold (g.D.Disk.meanwhile old.disk) (g.D.Disk.meanwhile c.peek.new.disk) Lasts) c.self.view_is c.peek.ensures.lasts,
  ap (λ (z : PlainRemote g.row.D.Denot). z.log.kept) c.self.view_is ∙ c.requires,
)

pub returns-in-Err-Failed-clause-anew : goal.returns-in-Err-Failed-clause-anew
returns-in-Err-Failed-clause-anew g c = (
  subst (λ (old : PlainRemote g.row.D.Denot). WhereTold (g.D.Disk.meanwhile old.disk) (g.D.Disk.meanwhile c.peek.new.disk) Lasts) c.self.view_is c.peek.ensures.lasts,
  (
    ap (λ (z : PlainRemote g.row.D.Denot). z.log.kept) c.self.view_is ∙ c.requires,
    λ payloads. subst (λ (old : PlainRemote g.row.D.Denot). WhereTold (g.D.Disk.meanwhile old.disk) (g.D.Disk.meanwhile c.peek.new.disk) (λ x y. IsGrowing x.film payloads x.now
        → Rose old.log.disk_faults (g.D.Disk.faults c.peek.new.disk) ⊎ IsUnfitMeanwhile old.log.limit x.film payloads x.now y.now)) c.self.view_is
        (subst (λ f. WhereTold (g.D.Disk.meanwhile c.self.inside.disk) (g.D.Disk.meanwhile c.peek.new.disk)
        (PeeksGrown c.self.inside.limits.log payloads (g.D.Disk.faults c.self.inside.disk) (g.D.Disk.faults c.peek.new.disk) (Err f))) c.in-Err-Failed.field-0-is (c.in-Err-Failed.ensures.grown payloads)),
  ),
)
