-- What loading lent bytes answers, as it is told to C.
use Rattle.std.proofs.Common.{◌≡◌, ℕ, List, [], Ok, Err, inl, inr, sym, subst}
use Rattle.change_rules.specs.declared.Limits.{Limits}
use Rattle.std.specs.declared.result.Result.{Result}
use Rattle.id_groups.specs.Name.{Name}
use Rattle.commit_graph.specs.World.{World}
use Rattle.batch_codec.specs.Payload.{Payload}
use Rattle.change_rules.specs.Holding.{HoldAs}
use Rattle.change_rules.specs.Standard.{standard}
use Rattle.change_rules.specs.Unlawful.{IsNoLog}
use Rattle.dag_store.specs.Kept.{PlainStore}
use Rattle.dag_store.specs.Loading.{LoadAnswers, Opens}
use Rattle.dag_store.specs.declared.replies.LoadFault.{LoadFault}
use Rattle.dag_store.specs.declared.replies.LoadFault.TheVariants.{Frame, TooLarge, Batch, Disk, Memory}
use Rattle.segdag_c.specs.Loads.{load_failure, IsOpened, IsRightly}

pub is-opened : (bytes : List ℕ) (cache : ℕ) (store : PlainStore) → LoadAnswers standard bytes (Ok store)
    → ((payloads : List Payload) (w : World Name) → HoldAs standard.log bytes payloads w → Opens standard payloads w (Ok store))
    → store.cache ≡ record { entries = []; capacity = cache } → (IsNoLog standard.log bytes → ⊥) → IsOpened bytes cache store
is-opened bytes cache store answers opens room lawful = record {
  log = answers;
  stands = opens;
  cache_is = room;
  lawful = lawful;
}

pub is-rightly : (bytes : List ℕ) (fault : LoadFault) → LoadAnswers standard bytes (Err fault)
    → ((payloads : List Payload) (w : World Name) → HoldAs standard.log bytes payloads w → Opens standard payloads w (Err fault)) → IsRightly bytes (load_failure fault)
is-rightly bytes (Frame at) answers opens = (inr (inl (at, answers.1)), opens)
is-rightly bytes (TooLarge size) answers opens = (inl answers.0, opens)
is-rightly bytes (Batch k) answers opens = (inr (inr (answers.0, k, answers.1.1, answers.2)), opens)
is-rightly bytes (Disk fault) answers opens = tt
is-rightly bytes Memory answers opens = tt

-- the same over bytes and limits that are these
pub lent-answers : (limits : Limits) (lent bytes : List ℕ) (r : Result PlainStore LoadFault) → limits ≡ standard → lent ≡ bytes → LoadAnswers limits lent r → LoadAnswers standard bytes r
lent-answers limits lent bytes r same are answers = subst (λ b. LoadAnswers standard b r) are (subst (λ (l : Limits). LoadAnswers l lent r) same answers)

pub lent-opens : (limits : Limits) (lent bytes : List ℕ) (r : Result PlainStore LoadFault) → limits ≡ standard → lent ≡ bytes
    → ((payloads : List Payload) (w : World Name) → HoldAs limits.log lent payloads w → Opens limits payloads w r)
    → (payloads : List Payload) (w : World Name) → HoldAs standard.log bytes payloads w → Opens standard payloads w r
lent-opens limits lent bytes r same are opens payloads w h =
    subst (λ (l : Limits). Opens l payloads w r) same
    (opens payloads w (subst (λ (l : Limits). HoldAs l.log lent payloads w) (sym same) (subst (λ b. HoldAs standard.log b payloads w) (sym are) h)))

pub lent-lawful : (limits : Limits) (lent bytes : List ℕ) → limits ≡ standard → lent ≡ bytes → (IsNoLog limits.log lent → ⊥) → IsNoLog standard.log bytes → ⊥
lent-lawful limits lent bytes same are lawful n = lawful (subst (λ (l : Limits). IsNoLog l.log lent) (sym same) (subst (λ b. IsNoLog standard.log b) (sym are) n))
