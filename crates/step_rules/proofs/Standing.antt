-- A store that was loaded stands for the start of a run.
use Rattle.std.proofs.Common.{◌≡◌, ◌≤◌, ◌+◌, ℕ, zero, suc, List, [], ◌∷◌, length, map, take, refl, sym, ap, subst, arith}
use Rattle.commit_graph.specs.World.{World}
use Rattle.id_groups.specs.Name.{Name}
use Rattle.batch_codec.specs.Payload.{Payload}
use Rattle.change_rules.specs.Holding.{HoldPayloads}
use Rattle.remote_rules.specs.Mirror.{Mirror}
use Rattle.step_rules.specs.State.{Session, new_session, start, at_start, world_at, view_of}
use Rattle.step_rules.specs.Stands.{StandsFor, id_row, loaded_store}
use Rattle.step_rules.proofs.Sessions.{copies}

take-all : {X : Type 0} (xs : List X) (n : ℕ) → n ≡ length xs → take n xs ≡ xs
take-all [] zero e = refl
take-all [] (suc n) e = absurd (omega (arith, e))
take-all (x ∷ xs) zero e = absurd (omega (arith, e))
take-all (x ∷ xs) (suc n) e = ap (λ l. x ∷ l) (take-all xs n (omega (arith, e)))

pub start-stands : (w : World Name) (payloads : List Payload) (room : ℕ) (mirrors : List Mirror) → HoldPayloads payloads w → StandsFor (length payloads) (loaded_store payloads room) (at_start w payloads room mirrors)
start-stands w payloads room mirrors hold = record {
  payloads = refl;
  count = omega arith;
  worlds = worlds;
  bases = λ s lt. (let e = ap (λ (x : Session). x.base) (copies 16 s new_session) in omega (arith, e));
  pending = λ s lt. sym (ap (λ (x : Session). map (id_row (view_of (start w payloads) s)) x.pending) (copies 16 s new_session));
  cache = λ id. refl;
  room = refl;
}
  where
    worlds : (i : ℕ) → i ≤ 0 → HoldPayloads (take (length payloads + i) payloads) (world_at (start w payloads) i)
    worlds zero le = subst (λ l. HoldPayloads l w) (sym (take-all payloads (length payloads + 0) (omega arith))) hold
    worlds (suc i) le = absurd (omega (arith, le))
