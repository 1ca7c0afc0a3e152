use Rattle.std.proofs.Common.{rules, ◌≡◌, ◌⊎◌, inl, inr, ◌++◌, ◌/◌, [], Bool, true, false, List, ℕ, length, take, refl, append-nil}
use Rattle.std.specs.Prelude.{if◌then◌else◌}
use Rattle.std.specs.Result.{is_ok}
use Rattle.line_io.specs.Memory.{MemoryOutput, next_count, sink_failed}
use Rattle.line_io.proofs.memory_sink.MemorySinkSink.put.Goals as goal

-- half of the piece was taken, or nothing for want of memory
half : (old new : MemoryOutput) (items front : List ℕ) (b : Bool) → items ≡ (if b then old.taken ++ front else old.taken)
    → new ≡ record { taken = items; calls = next_count old.calls; fails = old.fails; faults = next_count old.faults }
    → (new ≡ sink_failed old []) ⊎ (new ≡ sink_failed old front)
half old new items front true h e = inr (rw (e, h) refl)
half old new items front false h e = inl (rw (e, h, append-nil old.taken) refl)

taken : (old new : MemoryOutput) (piece : List ℕ) (count : ℕ) → (new ≡ sink_failed old []) ⊎ (new ≡ sink_failed old (take count piece))
    → (n : ℕ) × (new.taken ≡ old.taken ++ take n piece)
taken old new piece count (inl e) = (0, rw e refl)
taken old new piece count (inr e) = (count, rw e refl)

named : {A B T : Type 0} → A ⊎ B → T → A ⊎ (T × B)
named (inl a) t = inl a
named (inr b) t = inr (t, b)

pub returns-then-contains-clause-bytes : goal.returns-then-contains-clause-bytes
returns-then-contains-clause-bytes c =
    taken c.args.self.now c.fault.new.self c.args.piece.now (length c.args.piece.now / 2) (half c.args.self.now c.fault.new.self c.extend_from_slice.new.self.items (take (length c.args.piece.now / 2) c.args.piece.now) (is_ok c.extend_from_slice.result)
    (rw (← c.self.view_is) c.extend_from_slice.ensures.items)
    (rw (← c.self.view_is, ← c.saturating_add-self-inside.ensures) c.fault.ensures.counted))

pub returns-then-contains-clause-err : goal.returns-then-contains-clause-err
returns-then-contains-clause-err c =
    named (half c.args.self.now c.fault.new.self c.extend_from_slice.new.self.items (take (length c.args.piece.now / 2) c.args.piece.now) (is_ok c.extend_from_slice.result)
    (rw (← c.self.view_is) c.extend_from_slice.ensures.items)
    (rw (← c.self.view_is, ← c.saturating_add-self-inside.ensures) c.fault.ensures.counted))
    (search rules)
