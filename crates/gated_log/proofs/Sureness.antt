-- What a load has made sure of from its first call on.
use Rattle.std.proofs.Common.{◌≡◌, ◌+◌, ◌≤◌, inl, ℕ, List, Option, sym, ◌∙◌, ap, subst, arith}
use Rattle.disk_trait.specs.Images.{IsImage, Told, moment_of, surely}
use Rattle.disk_trait.specs.Calls.{Passes, Syncs, Succeeds, OrRefuses, Goes}
use Rattle.disk_trait.proofs.Loss.{image-stable}
use Rattle.disk_trait.proofs.Moments.{left-now, moment-call}
use Rattle.disk_trait.proofs.Telling.{goes-then, goes-map}
use Rattle.gated_log.specs.Holding.{IsLogWithin, HasPayloads}
use Rattle.gated_log.specs.Load.{OnlyReads, KeepsPayloads, IsSureOf, IsSureBehind}
use Rattle.gated_log.proofs.Counted.{steps-pass}
use Rattle.gated_log.proofs.LoadCalls.{kept-pass, kept-payloads, keeps-join, only-kept, start_same}

module _ (limit : ℕ) (ps : List (List ℕ)) where
  -- a sync that succeeded, and what keeps the payloads behind it
  sure-from : (a b d : Told) → Succeeds Syncs a b → KeepsPayloads limit ps b d → IsSureOf limit ps a d
  sure-from a b d s keeps is =
      let clock = ap moment_of s.1 ∙ moment-call a a.now (surely a.bytes) a.bytes in
      let now : b.now ≡ surely a.bytes = ap (λ (t : Told). t.now) s.1 in
      let has : HasPayloads limit b ps = λ image left. subst (IsLogWithin limit ps) (sym (image-stable a.bytes image (subst (λ u. IsImage u image) now (left-now b image left)))) is in
      λ moment image lo hi left. (keeps has).since moment image (omega (arith, clock, lo)) hi left

  -- the two calls before the read, and what keeps the payloads behind them
  pub sure_behind : (a b c d : Option Told) → Goes (Succeeds Syncs) a b → Goes (Succeeds Passes) b c → Goes (KeepsPayloads limit ps) c d → Goes (IsSureOf limit ps) a d
  sure_behind a b c d s w k =
      goes-then (Succeeds Syncs) (KeepsPayloads limit ps) (IsSureOf limit ps) a b d sure-from s
      (goes-then (Succeeds Passes) (KeepsPayloads limit ps) (KeepsPayloads limit ps) b c d (λ x y z p f. keeps-join limit ps x y z (kept-payloads limit ps x y (kept-pass x y (inl p))) f) w k)

  -- nothing behind them
  pub sure_sized : (a b c : Option Told) → Goes (Succeeds Syncs) a b → Goes (Succeeds Passes) b c → Goes (IsSureOf limit ps) a c
  sure_sized a b c s w = sure_behind a b c c s w (start_same limit ps c)

  -- two reads at most behind them
  pub sure_read : (a b c d : Option Told) → Goes (Succeeds Syncs) a b → Goes (Succeeds Passes) b c → Goes (OnlyReads 2) c d → Goes (IsSureOf limit ps) a d
  sure_read a b c d s w r = sure_behind a b c d s w (goes-map (OnlyReads 2) (KeepsPayloads limit ps) c d (λ x y h. kept-payloads limit ps x y (only-kept 2 x y h)) r)

  -- where more than the sync was called
  pub behind_of : (a d : Option Told) → Goes (IsSureOf limit ps) a d → Goes (IsSureBehind limit ps) a d
  behind_of a d s = goes-map (IsSureOf limit ps) (IsSureBehind limit ps) a d (λ x y h more. h) s

  -- a sync that failed is the last call
  pub behind_none : (a b : Option Told) → Goes (OrRefuses Passes) a b → Goes (IsSureBehind limit ps) a b
  behind_none a b w = goes-map (λ x y. moment_of y ≤ moment_of x + 2) (IsSureBehind limit ps) a b (λ x y le more. absurd (omega (arith, le, more))) (steps-pass a b w)

  -- a call behind it that failed
  pub behind_size : (a b c : Option Told) → Goes (Succeeds Syncs) a b → Goes (OrRefuses Passes) b c → Goes (IsSureBehind limit ps) a c
  behind_size a b c s w =
      behind_of a c
      (goes-then (Succeeds Syncs) (KeepsPayloads limit ps) (IsSureOf limit ps) a b c sure-from s
      (goes-map (OrRefuses Passes) (KeepsPayloads limit ps) b c (λ x y r. kept-payloads limit ps x y (kept-pass x y r)) w))
