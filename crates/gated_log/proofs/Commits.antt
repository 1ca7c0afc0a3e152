-- From the code of a commit to its stages.
use Rattle.std.proofs.Common.{◌≡◌, ◌≢◌, inl, inr, ℕ, zero, suc, Bool, true, false, true≢false, ◌≤◌, ◌<◌, ◌+◌, ◌-◌, ◌^◌, List, [], ◌∷◌, ◌++◌, length, take, drop, Option, IfSome, refl, sym, ◌∙◌, ap, subst, arith, length-append, append_assoc, drop_at, lit<, ⊎_elim}
use Rattle.std.proofs.lemmas.List.{append-nil, take_rest}
use Rattle.std.proofs.Math.ListN.{set}
use Rattle.std.proofs.Math.Seq.{set-append_seam}
use Rattle.std.specs.List.{AllByRecursion}
use Rattle.disk_trait.proofs.Telling.{goes-then, goes-map}
use Rattle.gated_log.specs.Commit.{WritesSurely, WritesInPart, CommitsInPart}
use Rattle.disk_trait.specs.Images.{IsSound, Told, moment_of}
use Rattle.disk_trait.specs.Calls.{Goes}
use Rattle.gated_log.specs.Log.{batches, HasLength, gates_of}
use Rattle.gated_log.specs.Held.{Held, held, log_bytes, IsWhole, staged, payloads_at, gate_of}
use Rattle.gated_log.proofs.Places.{gates_of-push}
use Rattle.gated_log.specs.Holding.{IsOnDisk, IsOldOrNew, KeepsOldOrNew, HasNew}
use Rattle.gated_log.specs.declared.Committed.TheVariants.{Done}
use Rattle.gated_log.proofs.Shapes.{opened, lengths-push, is_whole, length-staged}
use Rattle.gated_log.proofs.Stages.{Stage, Fits, Began, Guarded, Closed, at_start, to_guarded, to_closed, guarded_fails, closed_fails, kept_at_end, at_end, write_allowed, gate_allowed}

-- what the fields say of the log that contracts see
pub record Reads (gates bytes : List ℕ) (limit : ℕ) (log : Held) : Type 0 where
  pub front : bytes ≡ log_bytes log
  pub most : limit ≡ log.limit
  pub opened : gates ≡ gates_of 0 log.payloads
  pub closed : log.gate ≢ 1
  pub lengths : AllByRecursion HasLength log.payloads
  pub within : length bytes ≤ limit
  pub largest : limit ≤ 2 ^ 32

pub reads : (gates bytes : List ℕ) (limit room : ℕ) (log : Held) → held gates bytes limit room ≡ log → IsWhole gates bytes limit → Reads gates bytes limit log
reads gates bytes limit room log is whole = subst (λ l. Reads gates bytes limit l) is (record {
  front = whole.whole;
  most = refl;
  opened = whole.opened;
  closed = whole.closed;
  lengths = whole.lengths;
  within = whole.within;
  largest = whole.largest;
})

fits_of : (gates bytes payload : List ℕ) (limit : ℕ) (log : Held) → Reads gates bytes limit log → length bytes + length payload + 9 ≤ limit → Fits log payload
fits_of gates bytes payload limit log r room = record {
  closed = r.closed;
  lengths = r.lengths;
  size = (let a = r.largest in let b : 2 ^ 32 < 2 ^ 64 = lit< tt in omega (arith, room, a, b));
  room = omega (arith, ap length r.front, r.most, room);
}

-- what is written behind the gate
pub piece_is : (bytes payload d : List ℕ) (n : ℕ) → d ≡ bytes ++ staged payload → n ≡ length bytes → take (length d - n) (drop n d) ≡ staged payload
piece_is bytes payload d n is size = take_rest d n ∙ ap (drop n) is ∙ drop_at bytes (staged payload) n (sym size)

-- the bytes with the gate opened
pub opened_bytes : (bytes payload new : List ℕ) (log : Held) (n : ℕ) → bytes ≡ log_bytes log → new ≡ bytes ++ staged payload → n ≡ length bytes → set new (n - 1) 1 ≡ batches (log.payloads ++ payload ∷ []) ++ 0 ∷ []
opened_bytes bytes payload new log n is staged_is size =
    let front = batches log.payloads in
    let shape : new ≡ front ++ log.gate ∷ staged payload = staged_is ∙ ap (λ b. b ++ staged payload) is ∙ append_assoc front (log.gate ∷ []) (staged payload) in
    let at : n - 1 ≡ length front = omega (arith, size, ap length is, length-append front (log.gate ∷ [])) in
    ap (λ l. set l (n - 1) 1) shape ∙ ap (λ k. set (front ++ log.gate ∷ staged payload) k 1) at ∙ set-append_seam front log.gate (staged payload) 1
    ∙ ap (λ l. front ++ 1 ∷ l) (sym (append-nil (staged payload))) ∙ opened log.payloads payload []

pub whole_at_end : (gates bytes payload more new : List ℕ) (limit : ℕ) (log : Held) (n : ℕ) → Reads gates bytes limit log → length bytes + length payload + 9 ≤ limit → new ≡ bytes ++ staged payload → more ≡ gates ++ (length bytes - 1) ∷ [] → n ≡ length bytes
    → IsWhole more (set new (n - 1) 1) limit × (payloads_at more (set new (n - 1) 1) ≡ log.payloads ++ payload ∷ []) × (gate_of (set new (n - 1) 1) ≡ 0)
whole_at_end gates bytes payload more new limit log n r room staged_is more_is size =
    let f = fits_of gates bytes payload limit log r room in
    let is = opened_bytes bytes payload new log n r.front staged_is size in
    let long : length (set new (n - 1) 1) ≤ limit =
    (let l = ap length is in let k = ap length (opened log.payloads payload []) in let s = ap length (append-nil (staged payload)) in
    omega (arith, l, k, s, length-append (batches log.payloads) (1 ∷ (staged payload ++ [])), length-staged payload, ap length r.front, length-append (batches log.payloads) (log.gate ∷ []), room)) in
    let place : length bytes - 1 ≡ 0 + length (batches log.payloads) = (let l = ap length r.front in omega (arith, l, length-append (batches log.payloads) (log.gate ∷ []))) in
    let placed : more ≡ gates_of 0 (log.payloads ++ payload ∷ []) =
    more_is ∙ ap (λ g. g ++ (length bytes - 1) ∷ []) r.opened ∙ ap (λ k. gates_of 0 log.payloads ++ k ∷ []) place ∙ sym (gates_of-push 0 log.payloads payload) in
    is_whole more (set new (n - 1) 1) limit (log.payloads ++ payload ∷ []) 0 placed is (lengths-push log.payloads payload r.lengths f.size) (omega arith) long r.largest

-- a commit that goes on to its first call
pub record Start (log : Held) (payload : List ℕ) (n : ℕ) (piece : List ℕ) (a : Option Told) : Type 0 where
  pub fits : Fits log payload
  pub end : n ≡ length (log_bytes log)
  pub behind : piece ≡ staged payload
  pub began : Goes (Stage (IsOldOrNew log payload) 0 (Began log payload fits)) a a

pub start : (gates bytes payload d : List ℕ) (limit : ℕ) (log : Held) (n : ℕ) (a : Option Told) → Reads gates bytes limit log → length bytes + length payload + 9 ≤ limit → d ≡ bytes ++ staged payload → n ≡ length bytes
    → IfSome a IsSound → IfSome a (IsOnDisk log) → Start log payload n (take (length d - n) (drop n d)) a
start gates bytes payload d limit log n a r room is size shown begins =
    let f = fits_of gates bytes payload limit log r room in
    record { fits = f; end = size ∙ ap length r.front; behind = piece_is bytes payload d n is size; began = at_start log payload f a shown begins }

module _ (log : Held) (payload : List ℕ) (n : ℕ) (piece : List ℕ) (a : Option Told) (s : Start log payload n piece a) where
  gate_place : n - 1 ≡ length (batches log.payloads)
  gate_place = omega (arith, s.end, length-append (batches log.payloads) (log.gate ∷ []))

  pub allowed : IfSome a (λ t. n ≤ length t.bytes)
  allowed = subst (λ k. IfSome a (λ t. k ≤ length t.bytes)) (sym s.end) (write_allowed log payload s.fits a s.began)

  pub fails_1 : (b : Option Told) → Goes (WritesInPart n piece) a b → Goes (KeepsOldOrNew log payload) a b
  fails_1 b w = guarded_fails log payload s.fits a b s.began
      (subst (λ k. Goes (WritesInPart k (staged payload)) a b) s.end (subst (λ l. Goes (WritesInPart n l) a b) s.behind w))

  after_1 : (b : Option Told) → Goes (WritesSurely n piece) a b → Goes (Stage (IsOldOrNew log payload) 4 (Guarded log payload s.fits)) a b
  after_1 b w = to_guarded log payload s.fits a b s.began
      (subst (λ k. Goes (WritesSurely k (staged payload)) a b) s.end (subst (λ l. Goes (WritesSurely n l) a b) s.behind w))

  pub allowed_2 : (b : Option Told) → Goes (WritesSurely n piece) a b → IfSome b (λ t. n - 1 ≤ length t.bytes)
  allowed_2 b w = subst (λ k. IfSome b (λ t. k ≤ length t.bytes)) (sym gate_place) (gate_allowed log payload s.fits a b (after_1 b w))

  pub fails_2 : (b c : Option Told) → Goes (WritesSurely n piece) a b → Goes (WritesInPart (n - 1) (1 ∷ [])) b c → Goes (KeepsOldOrNew log payload) a c
  fails_2 b c w x = closed_fails log payload s.fits a b c (after_1 b w) (subst (λ k. Goes (WritesInPart k (1 ∷ [])) b c) gate_place x)

  after_2 : (b c : Option Told) → Goes (WritesSurely n piece) a b → Goes (WritesSurely (n - 1) (1 ∷ [])) b c → Goes (Stage (IsOldOrNew log payload) 8 (Closed log payload s.fits)) a c
  after_2 b c w x = to_closed log payload s.fits a b c (after_1 b w) (subst (λ k. Goes (WritesSurely k (1 ∷ [])) b c) gate_place x)

  pub kept : (b c : Option Told) → Goes (WritesSurely n piece) a b → Goes (WritesSurely (n - 1) (1 ∷ [])) b c → Goes (KeepsOldOrNew log payload) a c
  kept b c w x = kept_at_end log payload s.fits a c (after_2 b c w x)

  pub done : (new : Held) (clock : ℕ) (b c : Option Told) → Goes (WritesSurely n piece) a b → Goes (WritesSurely (n - 1) (1 ∷ [])) b c
      → new.payloads ≡ log.payloads ++ payload ∷ [] → new.gate ≡ 0 → new.limit ≡ log.limit → IfSome c (λ t. clock ≡ moment_of t) → Goes (HasNew new clock) a c
  done new clock b c w x ps gate limit ticks = at_end log payload s.fits new clock a c (after_2 b c w x) ps gate limit ticks

module _ (log : Held) (payload : List ℕ) (n : ℕ) (piece : List ℕ) (a : Option Told) (s : Start log payload n piece a) where
  abbrev end : ℕ
  end = length (log_bytes log)

  before-end : n - 1 ≡ end - 1
  before-end = ap (λ k. k - 1) s.end

  pub cut_1 : (b : Option Told) → Goes (WritesInPart n piece) a b → Goes (CommitsInPart log payload) a b
  cut_1 b w = goes-map (WritesInPart end (staged payload)) (CommitsInPart log payload) a b (λ t u f. ⊎_elim (λ g. inl g) (λ g. inr (g.0, g.1, inl g.2)) f)
      (subst (λ k. Goes (WritesInPart k (staged payload)) a b) s.end (subst (λ l. Goes (WritesInPart n l) a b) s.behind w))

  pub cut_2 : (b c : Option Told) → Goes (WritesSurely n piece) a b → Goes (WritesInPart (n - 1) (1 ∷ [])) b c → Goes (CommitsInPart log payload) a c
  cut_2 b c w x = goes-then (WritesSurely end (staged payload)) (WritesInPart (end - 1) (1 ∷ [])) (CommitsInPart log payload) a b c
      (λ t u v f g. inr (f.0, f.1, inr (u, f.2, g)))
      (subst (λ k. Goes (WritesSurely k (staged payload)) a b) s.end (subst (λ l. Goes (WritesSurely n l) a b) s.behind w))
      (subst (λ k. Goes (WritesInPart k (1 ∷ [])) b c) before-end x)

pub done_parts : (a b : Held) (m n : ℕ) → Done a m ≡ Done b n → (a ≡ b) × (m ≡ n)
done_parts a b m n e = (cc, cc)

-- the test that there is room
pub fits_by_test : (limit size payload used : ℕ) (b : Bool) → b ≡ false → ((b ≡ true → limit < used + payload + 9) × (limit < used + payload + 9 → b ≡ true)) → used ≡ size → size + payload + 9 ≤ limit
fits_by_test limit size payload used b shut test same = below limit (size + payload + 9) (λ lt. true≢false (sym (test.1 (omega (arith, lt, same))) ∙ shut))
  where
    below : (m n : ℕ) → (m < n → ⊥) → n ≤ m
    below m zero h = omega arith
    below zero (suc n) h = absurd (h (omega arith))
    below (suc m) (suc n) h = (let k = below m n (λ lt. h (omega (arith, lt))) in omega (arith, k))
