-- The log that is written: what is answered, and what its disk has.
use Rattle.std.proofs.Common.{◌≡◌, ◌≢◌, ◌≤◌, ◌⊎◌, inl, inr, ⊎_elim, ℕ, List, [], ◌∷◌, ◌++◌, Option, Err, IfSome, refl, sym, ap, subst, subst₂, ◌∙◌, arith}
use Rattle.disk_trait.specs.Since.{IsUntouched}
use Rattle.disk_trait.specs.Images.{Told, moment_of}
use Rattle.disk_trait.specs.Calls.{Goes}
use Rattle.disk_trait.proofs.Moments.{weakened, joined, started}
use Rattle.disk_trait.proofs.Telling.{goes-map, goes-both, goes-from, goes-then, goes-same}
use Rattle.gated_log.specs.Log.{IsLog}
use Rattle.gated_log.specs.Held.{Held}
use Rattle.gated_log.specs.Holding.{IsLogWithin, HasPayloads, IsOldOrNew, KeepsOldOrNew, HasNew}
use Rattle.gated_log.specs.Commit.{Answers}
use Rattle.gated_log.specs.Load.{Loads, IsLogOf, IsUnwritten, KeepsImages, KeepsPayloads}
use Rattle.gated_log.specs.declared.LoadLog.{LoadLog}
use Rattle.gated_log.specs.declared.LoadLog.TheVariants as logs
use Rattle.gated_log.specs.declared.Committed.TheVariants as ends
use Rattle.log_compact.specs.declared.answer.Compacted.{Compacted}
use Rattle.log_compact.specs.declared.answer.Compacted.TheVariants.{Done, FromDisk, FromBad, ToDisk, NotFresh, Full, Memory}
use Rattle.log_compact.specs.Compacts.{PlainWhole, batch_of, IsUnstored, StoresWhole, AnswersWhole, WritesWhole, IsNoneOrNew, KeepsNoneOrNew, HasText, to_answer}

-- ---- what a commit does

pub commit-moments : (log : Held) (text : List ℕ) (a b : Option Told) → log.payloads ≡ [] → batch_of text ≡ text ∷ [] → Goes (KeepsOldOrNew log text) a b → Goes (KeepsNoneOrNew log.limit text) a b
commit-moments log text a b none one = goes-map (KeepsOldOrNew log text) (KeepsNoneOrNew log.limit text) a b
    (λ x y k has. weakened (IsOldOrNew log text (moment_of x)) (λ moment. IsNoneOrNew log.limit text) x y
    (λ moment image p. ⊎_elim (λ o. inl (subst (λ ps. IsLogWithin log.limit ps image) none o))
    (λ n. inr (subst (λ ps. IsLogWithin log.limit ps image) (ap (λ ps. ps ++ text ∷ []) none ∙ sym one) n)) p.1) k)

pub commit-done : (log new : Held) (clock : ℕ) (text : List ℕ) (a b : Option Told) → log.payloads ≡ [] → batch_of text ≡ text ∷ [] → Answers log text (ends.Done new clock)
    → Goes (HasNew new clock) a b → Goes (HasText log.limit text) a b
commit-done log new clock text a b none one ans = goes-map (HasNew new clock) (HasText log.limit text) a b
    (λ x y h. subst₂ (λ n ps. HasPayloads n y ps) ans.3 (ans.1 ∙ ap (λ ps. ps ++ text ∷ []) none ∙ sym one) h.payloads)

-- ---- where nothing is written

pub same-moments : (limit : ℕ) (text : List ℕ) (a : Option Told) → Goes (KeepsNoneOrNew limit text) a a
same-moments limit text a = goes-same (KeepsNoneOrNew limit text) a (λ x has. started (λ moment. IsNoneOrNew limit text) x (λ image left. inl (has image left)))

-- ---- behind a load

pub load-moments : (limit : ℕ) (text : List ℕ) (a b : Option Told) → Goes (KeepsPayloads limit []) a b → Goes (KeepsNoneOrNew limit text) a b
load-moments limit text a b = goes-map (KeepsPayloads limit []) (KeepsNoneOrNew limit text) a b
    (λ x y k has. weakened (λ moment. IsLogWithin limit []) (λ moment. IsNoneOrNew limit text) x y (λ moment image p. inl p) (k has))

pub then-moments : (limit : ℕ) (text : List ℕ) (a b c : Option Told) → Goes (KeepsPayloads limit []) a b → Goes (KeepsNoneOrNew limit text) b c → Goes (KeepsNoneOrNew limit text) a c
then-moments limit text a b c = goes-then (KeepsPayloads limit []) (KeepsNoneOrNew limit text) (KeepsNoneOrNew limit text) a b c
    (λ x y z k n has.
    let since = k has in
    joined (λ moment. IsNoneOrNew limit text) x y z (weakened (λ moment. IsLogWithin limit []) (λ moment. IsNoneOrNew limit text) x y (λ moment image p. inl p) since)
    (n (λ image left. since.since (moment_of y) image since.later (let le : moment_of y ≤ moment_of y = omega arith in le) left)))

pub then-text : (limit : ℕ) (text : List ℕ) (a b c : Option Told) → Goes (KeepsPayloads limit []) a b → Goes (HasText limit text) b c → Goes (HasText limit text) a c
then-text limit text a b c = goes-then (KeepsPayloads limit []) (HasText limit text) (HasText limit text) a b c (λ x y z k h. h)

-- the log that was loaded has a batch, so that the file wasn't fresh
pub fresh-or-taken : (limit : ℕ) (bytes : List ℕ) (log : Held) (whole : PlainWhole) (r : Compacted) → IsLogOf limit bytes log
    → ((log.payloads ≢ []) × (r ≡ NotFresh)) ⊎ ((log.payloads ≡ []) × StoresWhole limit whole r) → WritesWhole limit bytes whole r
fresh-or-taken limit bytes log whole r l (inl s) = subst (WritesWhole limit bytes whole) (sym s.1) (inr (inr (log.payloads, l.is_log, s.0)))
fresh-or-taken limit bytes log whole (Done shrunk) l (inr s) = ((l.fits, subst (IsLog bytes) s.0 l.is_log), s.1)
fresh-or-taken limit bytes log whole (FromDisk fault) l (inr s) = s.1
fresh-or-taken limit bytes log whole FromBad l (inr s) = s.1
fresh-or-taken limit bytes log whole (ToDisk fault) l (inr s) = tt
fresh-or-taken limit bytes log whole NotFresh l (inr s) = absurd s.1
fresh-or-taken limit bytes log whole (Full most) l (inr s) = ((l.fits, subst (IsLog bytes) s.0 l.is_log), s.1)
fresh-or-taken limit bytes log whole Memory l (inr s) = tt

pub fault-answers : (limit : ℕ) (whole : PlainWhole) (fault : LoadLog) → AnswersWhole limit whole (to_answer fault)
fault-answers limit whole (logs.Damaged at) = tt
fault-answers limit whole (logs.TooLarge size) = tt
fault-answers limit whole (logs.Disk fault) = tt
fault-answers limit whole logs.Memory = tt

pub fault-writes : (limit : ℕ) (bytes : List ℕ) (whole : PlainWhole) (fault : LoadLog) → Loads limit bytes (Err fault) → WritesWhole limit bytes whole (to_answer fault)
fault-writes limit bytes whole (logs.Damaged at) h = inr (inl (at, h.1))
fault-writes limit bytes whole (logs.TooLarge size) h = inl h.0
fault-writes limit bytes whole (logs.Disk fault) h = tt
fault-writes limit bytes whole logs.Memory h = tt

pub not-done : (fault : LoadLog) (shrunk : _) → to_answer fault ≡ Done shrunk → ⊥
not-done (logs.Damaged at) shrunk e = cc e
not-done (logs.TooLarge size) shrunk e = cc e
not-done (logs.Disk fault) shrunk e = cc e
not-done logs.Memory shrunk e = cc e

-- ---- a file that is not fresh stays as it was

pub fault-untouched : (limit : ℕ) (fault : LoadLog) (d e : Option Told) → 1 ≤ limit → IfSome d (λ t. Loads limit t.bytes (Err fault)) → Goes KeepsImages d e
    → ((size : ℕ) → fault ≡ logs.TooLarge size → Goes (IsUnwritten 2) d e) → ((at : ℕ) → fault ≡ logs.Damaged at → Goes (IsUnwritten 4) d e) → to_answer fault ≡ NotFresh → Goes IsUntouched d e
fault-untouched limit (logs.Damaged at) d e some loads images large damaged is =
    let Both : Told → Told → Type 0 = λ a b. KeepsImages a b × IsUnwritten 4 a b in
    goes-from Both IsUntouched (λ t. Loads limit t.bytes (Err (logs.Damaged at))) d e (λ a b l both. (both.1.1, both.0 l.1.0)) loads
    (goes-both KeepsImages (IsUnwritten 4) Both d e (λ a b i u. (i, u)) images (damaged at refl))
fault-untouched limit (logs.TooLarge size) d e some loads images large damaged is =
    let Both : Told → Told → Type 0 = λ a b. KeepsImages a b × IsUnwritten 2 a b in
    goes-from Both IsUntouched (λ t. Loads limit t.bytes (Err (logs.TooLarge size))) d e (λ a b l both. (both.1.1, both.0 (let over = l.0 in omega (arith, some, over)))) loads
    (goes-both KeepsImages (IsUnwritten 2) Both d e (λ a b i u. (i, u)) images (large size refl))
fault-untouched limit (logs.Disk fault) d e some loads images large damaged is = absurd (cc is)
fault-untouched limit logs.Memory d e some loads images large damaged is = absurd (cc is)

pub unstored : IsUnstored NotFresh
unstored = tt
