-- A log that holds a world in which each commit has a known name is an honest remote.
use Rattle.std.proofs.Common.{◌≡◌, ℕ, true, false, List, Option, Some, None, refl, sym, ap, subst, ◌∙◌, is_some}
use Rattle.std.specs.Prelude.{option_and_then, MatchOption}
use Rattle.std.specs.Option.{option_map}
use Rattle.id_groups.specs.Name.{Name}
use Rattle.commit_graph.specs.World.{Row, World}
use Rattle.disk_trait.specs.Images.{Told}
use Rattle.batch_codec.specs.Payload.{Payload}
use Rattle.change_rules.specs.Holding.{HoldAs}
use Rattle.change_rules.specs.Lazy.{has_lazy}
use Rattle.remote_rules.specs.CloneData.{CloneData}
use Rattle.remote_rules.specs.Honest.{IsHonest, clone_data_of}
use Rattle.remote_rules.specs.Known.{master_world}
use Rattle.remote_store.specs.Told.{master_told}
use Rattle.remote_store.specs.Remote.{PlainStore, bytes_in, mirror_of}
use Rattle.remote_store.proofs.Holding.{held-told}
use Rattle.remote_store.proofs.Mastering.{master-of}

told-some : (t : Option Told) (bytes : List ℕ) → bytes_in t ≡ Some bytes → is_some t ≡ true
told-some None bytes e = cc
told-some (Some t) bytes e = refl

pub honest-log : (payloads : List Payload) (w : World Name) (bytes : List ℕ) (r : PlainStore) → bytes_in r.told ≡ Some bytes → HoldAs r.limit bytes payloads w → has_lazy payloads w ≡ false
    → ((mirror_of r).master ≡ Some w.master) × IsHonest (mirror_of r).cloned w.master × ((mirror_of r).settled ≡ true)
honest-log payloads w bytes r e h lazy =
    let master = ap (option_and_then (master_told r.limit)) e ∙ held-told r.limit bytes payloads w h lazy in
    let cloned = ap (option_map (λ (rows : List (Row Name)). clone_data_of (master_world rows))) master in (
      master,
      record {
        world = master-of w h.hold.world;
        clone = subst (λ (o : Option CloneData). MatchOption o (Unit {0}) (λ told. told ≡ clone_data_of (master_world w.master))) (sym cloned) refl;
      },
      told-some r.told bytes e,
    )
