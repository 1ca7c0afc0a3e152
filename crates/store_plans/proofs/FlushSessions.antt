-- Sessions on the newest payloads.
use Rattle.std.proofs.Common.{◌≡◌, ℕ, List, [], ◌∷◌, ◌++◌, length, take, sym, ap, subst, ◌∙◌, arith, length-append}
use Rattle.std.proofs.lemmas.List.{take_all, take-append-le}
use Rattle.batch_codec.specs.Payload.{Payload}
use Rattle.batch_codec.specs.Grammar.{count_after}
use Rattle.name_map.specs.Added.{Placed, payloads_of}
use Rattle.payload_tables.specs.Kept.{AreOthersIn, last_added}
use Rattle.change_parts.specs.Asked.{MayStore}
use Rattle.store_plans.specs.Sessions.{PlainSession, IsSessionOf, base_added}

-- a session on all payloads
pub all-session : (added : List Placed) (x : PlainSession) → x.payloads ≡ length added → x.below ≡ count_after 0 (payloads_of added) → AreOthersIn x.others (last_added added) → MayStore x.pending added → IsSessionOf added x
all-session added x n b o p =
    let all : base_added added x ≡ added = take_all x.payloads added (omega (arith, n)) in
    record {
      payloads = omega (arith, n);
      below = b ∙ sym (ap (λ l. count_after 0 (payloads_of l)) all);
      others = subst (λ l. AreOthersIn x.others (last_added l)) (sym all) o;
      pending = subst (MayStore x.pending) (sym all) p;
    }

-- a session on older payloads stays one
pub older-session : (added : List Placed) (at : ℕ) (last : Payload) (x : PlainSession) → IsSessionOf added x → IsSessionOf (added ++ record { at = at; payload = last } ∷ []) x
older-session added at last x h =
    let a : Placed = record { at = at; payload = last } in
    let few = h.payloads in
    let same : take x.payloads (added ++ a ∷ []) ≡ take x.payloads added = take-append-le x.payloads added (a ∷ []) few in
    record {
      payloads = (let more = length-append added (a ∷ []) in omega (arith, few, more));
      below = h.below ∙ ap (λ l. count_after 0 (payloads_of l)) (sym same);
      others = subst (λ l. AreOthersIn x.others (last_added l)) (sym same) h.others;
      pending = subst (MayStore x.pending) (sym same) h.pending;
    }
