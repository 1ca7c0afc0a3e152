-- A run over what a crash left of another.
use Rattle.std.proofs.Common.{◌≡◌, ◌<◌, ◌≤◌, ◌⊎◌, ◌+◌, ℕ, List, [], ◌∷◌, length, map, take, refl, sym, subst}
use Rattle.id_groups.specs.Name.{Name}
use Rattle.commit_graph.specs.World.{World}
use Rattle.disk_trait.specs.Images.{Told, LeftAt, fresh_disk, moment_of}
use Rattle.disk_trait.proofs.Loss.{image-stable}
use Rattle.batch_codec.specs.Payload.{Payload}
use Rattle.change_rules.specs.declared.Limits.{Limits}
use Rattle.change_rules.specs.Change.{text_of}
use Rattle.change_rules.specs.Holding.{AreSpelled, HoldAs, HoldBytes}
use Rattle.step_rules.specs.State.{Stored, world_at}
use Rattle.run_rules.specs.Premises.{Start}
use Rattle.run_rules.specs.Stopped.{Stopped, acknowledged}

spelled-so : (payloads : List Payload) → AreSpelled (map text_of payloads) payloads
spelled-so [] = tt
spelled-so (p ∷ payloads) = (refl, spelled-so payloads)

-- over a disk that was loaded with bytes that hold a world a run may begin
fresh-start : (limits : Limits) (image : List ℕ) (w : World Name) (payloads : List Payload) → HoldAs limits.log image payloads w → Start limits (fresh_disk image) w payloads
fresh-start limits image w payloads hold = record {
  holds = λ other is. subst (λ bytes. HoldBytes limits.log bytes w) (sym (image-stable image other is)) (payloads, hold);
  read = hold;
}

module _ (limits : Limits) (w : World Name) (payloads : List Payload) (changes : List ℕ) (final : Stored) (old new : Told) (s : Stopped limits.log w payloads changes final old new) (moment : ℕ) (image : List ℕ) where
  pub begins-loading : moment_of old ≤ moment → moment < s.sure → moment ≤ moment_of new → LeftAt new moment image → (others : List Payload) × Start limits (fresh_disk image) w others
  begins-loading from before to left =
      let h = s.loading moment image from before to left in
      (h.0, fresh-start limits image w h.0 h.1)

  pub begins : moment_of old ≤ moment → s.sure ≤ moment → moment ≤ moment_of new → LeftAt new moment image
      → (count : ℕ) × (count ≤ length final.past) × ((count ≡ acknowledged changes moment) ⊎ (count ≡ acknowledged changes moment + 1))
      × Start limits (fresh_disk image) (world_at final count) (take (length payloads + count) final.payloads)
  begins from later to left =
      let p = s.bytes moment image from later to left in
      let held = take (length payloads + p.0) final.payloads in (
        p.0,
        p.1,
        p.2,
        fresh-start limits image (world_at final p.0) held (record {
          within = p.3.0;
          texts = map text_of held;
          log = p.3.1;
          spelled = spelled-so held;
          hold = s.worlds p.0 p.1;
        }),
      )
