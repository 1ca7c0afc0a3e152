-- Each run is put once.
use Rattle.std.proofs.Common.{◌≡◌, ◌≤◌, ℕ, inl, inr, List, [], ◌∷◌, ◌++◌, length, Option, Some, None, refl, sym, ap, ◌∙◌, arith, append-nil, append_assoc, drop}
use Rattle.batch_codec.specs.Payload.{Known}
use Rattle.segment_codec.specs.Record.{Segment}
use Rattle.remote_rules.specs.Asking.{total}
use Rattle.remote_trait.specs.Runs.{Run}
use Rattle.lazy_names.specs.Cache.{Entry}
use Rattle.lazy_names.specs.Fetching.{count_uncached}
use Rattle.lazy_names.specs.Ahead.{AreAhead, counts_of}
use Rattle.lazy_names.specs.Wire.{Wire, Tells, AsksOver, IsOnWire}
use Rattle.lazy_names.proofs.Tellings.{sum-of, ahead-names}

abbrev first_of : List Run → Option Run
first_of [] = None
first_of (r ∷ more) = Some r

-- nothing is told that waits: nothing waits
none-waits : (queue unput : List Run) → [] ≡ queue ++ unput → queue ≡ []
none-waits [] unput e = refl
none-waits (q ∷ queue) unput e = absurd (let bad = ap length e in omega (arith, bad))

pub told-wire : (asked runs : List Run) (before now : Wire) → IsOnWire asked [] before → Tells runs before now → IsOnWire asked runs now
told-wire asked runs before now h (put, rest, parts, queue, wrote) =
    let none = none-waits before.queue h.unput h.waits in
    let is : now.queue ≡ put = queue ∙ ap (λ l. l ++ put) none in
    record {
      unput = rest;
      waits = parts ∙ ap (λ l. l ++ rest) (sym is);
      once = wrote ∙ ap (λ l. l ++ put) (h.once ∙ ap (λ l. asked ++ l) none ∙ append-nil asked) ∙ ap (λ l. asked ++ l) (sym is);
    }

-- the first that is told is asked for
pub asked-wire : (asked told : List Run) (run : Run) (before now : Wire) → IsOnWire asked (run ∷ told) before → AsksOver run before now → IsOnWire (asked ++ run ∷ []) told now
asked-wire asked told run before now h (inl t) =
    let whole : run ∷ told ≡ run ∷ (now.queue ++ h.unput) = h.waits ∙ ap (λ l. l ++ h.unput) t.0 in
    record {
      unput = h.unput;
      waits = ap (drop 1) whole;
      once = t.1 ∙ h.once ∙ ap (λ l. asked ++ l) t.0 ∙ sym (append_assoc asked (run ∷ []) now.queue);
    }
asked-wire asked told run before now h (inr (other, queue, wrote)) =
    let none : before.queue ≡ [] = by_queue before.queue h.waits other in
    record {
      unput = told;
      waits = ap (λ l. l ++ told) (sym queue);
      once = wrote ∙ ap (λ l. l ++ run ∷ []) (h.once ∙ ap (λ l. asked ++ l) none ∙ append-nil asked) ∙ sym (append-nil (asked ++ run ∷ [])) ∙ ap (λ l. (asked ++ run ∷ []) ++ l) (sym queue);
    }
  where
    by_queue : (queue : List Run) → run ∷ told ≡ queue ++ h.unput → ((later : List Run) → queue ≡ run ∷ later → ⊥) → queue ≡ []
    by_queue [] e f = refl
    by_queue (q ∷ queue) e f = let same : Some run ≡ Some q = ap first_of e in let one : run ≡ q = cc in absurd (f queue (ap (λ r. r ∷ queue) (sym one)))

-- where nothing is told another run may be asked for
pub untold-wire : (asked : List Run) (run : Run) (before now : Wire) → IsOnWire asked [] before → AsksOver run before now → IsOnWire (asked ++ run ∷ []) [] now
untold-wire asked run before now h (inl t) =
    let none = none-waits before.queue h.unput h.waits in absurd (let bad = ap length (sym none ∙ t.0) in omega (arith, bad))
untold-wire asked run before now h (inr (other, queue, wrote)) =
    let none = none-waits before.queue h.unput h.waits in
    record {
      unput = [];
      waits = ap (λ l. l ++ []) (sym queue);
      once = wrote ∙ ap (λ l. l ++ run ∷ []) (h.once ∙ ap (λ l. asked ++ l) none ∙ append-nil asked) ∙ sym (append-nil (asked ++ run ∷ [])) ∙ ap (λ l. (asked ++ run ∷ []) ++ l) (sym queue);
    }

-- no more names are put than the cache hasn't
pub few-wire : (flats : List Segment) (known : List Known) (entries : List Entry) (ids : List ℕ) (asked told : List Run) (count : ℕ) (wire : Wire)
    → AreAhead flats known entries ids (asked ++ told) count → IsOnWire asked told wire → total (counts_of wire.put) ≤ count_uncached entries ids
few-wire flats known entries ids asked told count wire h w =
    let all = ahead-names flats known entries ids (asked ++ told) count h in
    let sum = sum-of flats known entries asked told in
    let rest = ap (λ l. total (counts_of l)) w.waits ∙ sum-of flats known entries wire.queue w.unput in
    let put = ap (λ l. total (counts_of l)) w.once ∙ sum-of flats known entries asked wire.queue in
    omega (arith, all, sum, rest, put)
