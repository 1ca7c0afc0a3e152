-- Which files are refused, and that these are left as they are.
use Rattle.std.proofs.Common.{◌≡◌, ◌≤◌, ◌⊎◌, inl, inr, ⊎_elim, ℕ, List, [], ◌∷◌, length, map, Option, Err, refl, subst, ◌∙◌, arith, IfSome}
use Rattle.disk_trait.specs.Since.{IsUntouched}
use Rattle.disk_trait.specs.Images.{Told}
use Rattle.disk_trait.specs.Calls.{Goes}
use Rattle.disk_trait.proofs.Telling.{goes-both, goes-from}
use Rattle.segment_codec.proofs.Tables.{le_or_lt}
use Rattle.gated_log.specs.Held.{Held}
use Rattle.gated_log.specs.Load.{Loads, IsLogOf, IsUnwritten, KeepsBytes, KeepsImages}
use Rattle.gated_log.specs.declared.LoadLog.{LoadLog}
use Rattle.gated_log.specs.declared.LoadLog.TheVariants as logs
use Rattle.gated_log.proofs.Damage.{log-or-damaged}
use Rattle.gated_log.proofs.Reading.{one-log}
use Rattle.batch_codec.specs.Payload.{Payload}
use Rattle.change_rules.specs.Lawful.{AreLawful}
use Rattle.change_rules.specs.Change.{text_of}
use Rattle.change_rules.specs.Holding.{AreSpelled}
use Rattle.change_rules.specs.Unlawful.{IsFirstUnlawful, IsNoLog}
use Rattle.change_rules.proofs.Refusals.{all-stand}
use Rattle.dag_store.specs.declared.replies.LoadFault.{LoadFault}
use Rattle.dag_store.specs.declared.replies.LoadFault.TheVariants.{Batch, Memory}
use Rattle.dag_store.specs.Loading.{fault_of, IsNoLogFault}

spelled-so : (payloads : List Payload) → AreSpelled (map text_of payloads) payloads
spelled-so [] = tt
spelled-so (p ∷ payloads) = (refl, spelled-so payloads)

-- a file that was loaded is a log
pub lawful-log : (limit : ℕ) (bytes : List ℕ) (log : Held) (payloads : List Payload) → IsLogOf limit bytes log → AreLawful [] payloads → log.payloads ≡ map text_of payloads → IsNoLog limit bytes → ⊥
lawful-log limit bytes log payloads h lawful texts (inl lt) = (let le = h.fits in absurd (omega (arith, le, lt)))
lawful-log limit bytes log payloads h lawful texts (inr (inl d)) = log-or-damaged bytes log.payloads d.0 h.is_log d.1
lawful-log limit bytes log payloads h lawful texts (inr (inr u)) =
    all-stand [] (map text_of payloads) payloads u.1 (spelled-so payloads) lawful (subst (λ l. IsFirstUnlawful [] l u.1) (one-log bytes u.0 log.payloads u.2 h.is_log ∙ texts) u.3)

-- the log refused it
pub log-untouched : (limit : ℕ) (fault : LoadLog) (d e : Option Told) → 1 ≤ limit → IfSome d (λ t. Loads limit t.bytes (Err fault)) → Goes KeepsImages d e
    → ((size : ℕ) → fault ≡ logs.TooLarge size → Goes (IsUnwritten 2) d e) → ((at : ℕ) → fault ≡ logs.Damaged at → Goes (IsUnwritten 4) d e) → IsNoLogFault (fault_of fault) → Goes IsUntouched d e
log-untouched limit (logs.Damaged at) d e some loads images large damaged is =
    let Both : Told → Told → Type 0 = λ a b. KeepsImages a b × IsUnwritten 4 a b in
    goes-from Both IsUntouched (λ t. Loads limit t.bytes (Err (logs.Damaged at))) d e (λ a b l both. (both.1.1, both.0 l.1.0)) loads
    (goes-both KeepsImages (IsUnwritten 4) Both d e (λ a b i u. (i, u)) images (damaged at refl))
log-untouched limit (logs.TooLarge size) d e some loads images large damaged is =
    let Both : Told → Told → Type 0 = λ a b. KeepsImages a b × IsUnwritten 2 a b in
    goes-from Both IsUntouched (λ t. Loads limit t.bytes (Err (logs.TooLarge size))) d e (λ a b l both. (both.1.1, both.0 (let over = l.0 in omega (arith, some, over)))) loads
    (goes-both KeepsImages (IsUnwritten 2) Both d e (λ a b i u. (i, u)) images (large size refl))
log-untouched limit (logs.Disk fault) d e some loads images large damaged is = absurd is
log-untouched limit logs.Memory d e some loads images large damaged is = absurd is

-- a payload was refused
pub tables-untouched : (limit : ℕ) (log : Held) (fault : LoadFault) (d e : Option Told) → (fault ≡ Memory) ⊎ ((k : ℕ) × (fault ≡ Batch k) × IsFirstUnlawful [] log.payloads k)
    → IfSome d (λ t. IsLogOf limit t.bytes log) → Goes KeepsImages d e → Goes KeepsBytes d e → IsNoLogFault fault → Goes IsUntouched d e
tables-untouched limit log fault d e (inl memory) h images kept is = absurd (subst IsNoLogFault memory is)
tables-untouched limit log fault d e (inr u) h images kept is =
    let Both : Told → Told → Type 0 = λ a b. KeepsImages a b × KeepsBytes a b in
    goes-from Both IsUntouched (λ t. IsLogOf limit t.bytes log) d e
    (λ a b l both. ⊎_elim (λ few. absurd (subst (λ ps. IsFirstUnlawful [] ps u.0) (l.fresh few).0 u.2)) (λ many. (both.1 (omega (arith, many)), both.0 (omega (arith, many)))) (le_or_lt (length a.bytes) 1))
    h (goes-both KeepsImages KeepsBytes Both d e (λ a b i k. (i, k)) images kept)
