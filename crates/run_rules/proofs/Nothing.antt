-- A run that did nothing.
use Rattle.std.proofs.Common.{inl, Bool, true, false, nat_le, if◌then◌else◌, ◌≡◌, ◌≤◌, ◌+◌, ℕ, zero, suc, List, [], ◌∷◌, length, take, refl, sym, ap, subst, arith, le_antisymm}
use Rattle.line_io.specs.Streams.{Streams}
use Rattle.id_groups.specs.Name.{Name}
use Rattle.commit_graph.specs.World.{World}
use Rattle.disk_trait.specs.Images.{Told, LeftAt, moment_of}
use Rattle.batch_codec.specs.Payload.{Payload}
use Rattle.change_rules.specs.declared.Limits.{Limits}
use Rattle.change_rules.specs.Holding.{HoldAs, HoldsNow, HoldPayloads}
use Rattle.remote_rules.specs.Mirror.{Mirror}
use Rattle.step_rules.specs.State.{start, at_start, world_at}
use Rattle.run_rules.specs.Ends.{NoMemory}
use Rattle.run_rules.specs.Stopped.{Stopped}
use Rattle.run_rules.specs.Means.{Means, loaded_at}

pub take-all : {X : Type 0} (xs : List X) (n : ℕ) → n ≡ length xs → take n xs ≡ xs
take-all [] zero e = refl
take-all [] (suc n) e = absurd (omega (arith, e))
take-all (x ∷ xs) zero e = absurd (omega (arith, e))
take-all (x ∷ xs) (suc n) e = ap (λ l. x ∷ l) (take-all xs n (omega (arith, e)))

-- loading ends no earlier than it begins
pub loaded-later : (t : Told) → moment_of t ≤ loaded_at t
loaded-later t = by_length (nat_le (length t.bytes) 1)
  where
    by_length : (b : Bool) → moment_of t ≤ moment_of t + (if b then 8 else 6)
    by_length true = omega arith
    by_length false = omega arith

module _ (limits : Limits) (w : World Name) (payloads : List Payload) (disk : Told) (holds : HoldsNow limits.log disk w) (read : HoldAs limits.log disk.bytes payloads w) where
  pub only-one : (count : ℕ) → count ≤ 0 → HoldPayloads (take (length payloads + count) payloads) (world_at (start w payloads) count)
  only-one zero le = subst (λ l. HoldPayloads l w) (sym (take-all payloads (length payloads + 0) (omega arith))) read.hold
  only-one (suc n) le = absurd (omega (arith, le))

  stopped-there : Stopped limits.log w payloads [] (start w payloads) disk disk
  stopped-there = record {
    sure = moment_of disk + 1;
    loading = λ moment image from before to left. holds image (subst (λ m. LeftAt disk m image) (le_antisymm to from) left);
    bytes = λ moment image from sure to left. absurd (omega (arith, sure, to));
    worlds = only-one;
    ascend = λ k le. absurd (omega (arith, le));
    ended = tt;
  }

  pub nothing-done : (room : ℕ) (mirrors : List Mirror) (io : Streams) → io.now ≡ io.taken → io.left ≡ io.input → Means limits w payloads room mirrors mirrors io ⊥ disk disk NoMemory []
  unfolding stopped-there
  nothing-done room mirrors io e f = record {
    lines = [];
    replies = [];
    last = at_start w payloads room mirrors;
    run = (refl, refl);
    more = [];
    ends = (refl, f, e);
    stored = refl;
    final = start w payloads;
    leaves = (refl, refl);
    each = tt;
    calls = loaded-later disk;
    stopped = stopped-there;
    sure = inl (let near : moment_of disk + 1 ≤ moment_of disk + 2 = omega arith in near);
    kept = tt;
  }
