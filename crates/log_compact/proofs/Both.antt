-- What is read and what is written, together.
use Rattle.std.proofs.Common.{◌≡◌, ◌≢◌, ◌≤◌, ◌<◌, ◌+◌, ◌⊎◌, inl, inr, ⊎_elim, ℕ, List, [], ◌∷◌, length, map, Option, Ok, Err, refl, sym, ap, ap₂, subst, ◌∙◌}
use Rattle.id_groups.specs.Name.{Name}
use Rattle.commit_graph.specs.World.{World}
use Rattle.disk_trait.specs.Images.{Told, IsImage}
use Rattle.disk_trait.specs.Calls.{Goes}
use Rattle.disk_trait.proofs.Moments.{weakened, started}
use Rattle.disk_trait.proofs.Telling.{goes-map, goes-same}
use Rattle.gated_log.specs.Log.{log_length}
use Rattle.gated_log.specs.Holding.{IsLogWithin}
use Rattle.gated_log.specs.Load.{LeavesOldOrFresh}
use Rattle.gated_log.proofs.LoadCalls.{kept-same}
use Rattle.batch_codec.specs.Payload.{Payload}
use Rattle.change_rules.specs.Change.{text_of}
use Rattle.change_rules.specs.Tables.{known_in, cloned_count, remote_heads}
use Rattle.change_rules.specs.Holding.{HoldPayloads, HoldAs}
use Rattle.change_rules.proofs.Refusals.{held-is-log}
use Rattle.compact_rules.specs.Whole.{whole_change}
use Rattle.compact_rules.proofs.Wholes.{whole-held, whole-same, held-some}
use Rattle.log_compact.specs.declared.answer.Shrunk.{Shrunk}
use Rattle.log_compact.specs.declared.answer.Compacted.{Compacted}
use Rattle.log_compact.specs.declared.answer.Compacted.TheVariants.{Done, FromDisk, FromBad, ToDisk, NotFresh, Full, Memory}
use Rattle.log_compact.specs.Compacts.{PlainWhole, whole_list, batch_of, HoldsWhole, IsNoneOrWhole, KeepsNoneOrWhole, HasWhole, shrunk_of, Shrinks, IsReadAs, IsOfReading, IsWholeOf, ReadsWhole, AnswersWhole, IsNoneOrNew, KeepsNoneOrNew, HasText, written_to}
use Rattle.log_compact.proofs.FromLog.{lawful-log, held-same, spelled-so}

-- ---- where the log that is read refuses

pub shrinks-err : (limit : ℕ) (bytes : List ℕ) (payloads : List Payload) (w : World Name) (r : Compacted) → ReadsWhole limit bytes (Err r) → HoldAs limit bytes payloads w → Shrinks limit payloads w r
shrinks-err limit bytes payloads w (Done shrunk) h hold = absurd h
shrinks-err limit bytes payloads w (FromDisk fault) h hold = tt
shrinks-err limit bytes payloads w FromBad h hold = held-is-log limit bytes payloads w hold h
shrinks-err limit bytes payloads w (ToDisk fault) h hold = tt
shrinks-err limit bytes payloads w NotFresh h hold = tt
shrinks-err limit bytes payloads w (Full most) h hold = absurd h
shrinks-err limit bytes payloads w Memory h hold = tt

pub not-done : (r : Compacted) (shrunk : _) → IsOfReading r → r ≡ Done shrunk → ⊥
not-done r shrunk is e = subst IsOfReading e is

-- ---- where it doesn't

pub reads-ok : (limit : ℕ) (bytes : List ℕ) (whole : PlainWhole) (r : Compacted) → ReadsWhole limit bytes (Ok whole) → AnswersWhole limit whole r → IsReadAs limit bytes r
reads-ok limit bytes whole (Done shrunk) m a = lawful-log limit bytes m.0 m.1.0 m.1.1 m.2.lawful
reads-ok limit bytes whole (FromDisk fault) m a = tt
reads-ok limit bytes whole FromBad m a = absurd a
reads-ok limit bytes whole (ToDisk fault) m a = lawful-log limit bytes m.0 m.1.0 m.1.1 m.2.lawful
reads-ok limit bytes whole NotFresh m a = lawful-log limit bytes m.0 m.1.0 m.1.1 m.2.lawful
reads-ok limit bytes whole (Full most) m a = lawful-log limit bytes m.0 m.1.0 m.1.1 m.2.lawful
reads-ok limit bytes whole Memory m a = tt

batch-none : (text : List ℕ) → batch_of text ≡ [] → text ≡ []
batch-none [] e = refl
batch-none (byte ∷ text) e = absurd (cc e)

one-text : (text other : List ℕ) → batch_of text ≡ other ∷ [] → text ≡ other
one-text [] other e = absurd (cc e)
one-text (byte ∷ text) other e = let same : byte ∷ text ≡ other = cc e in same

whole-text : (payloads : List Payload) (w : World Name) (text : List ℕ) → payloads ≢ [] → batch_of text ≡ map text_of (whole_list payloads w) → text ≡ text_of (whole_change payloads w)
whole-text [] w text some e = absurd (some refl)
whole-text (p ∷ ps) w text some e = one-text text (text_of (whole_change (p ∷ ps) w)) e

no-list : (payloads : List Payload) (w : World Name) → payloads ≡ [] → map text_of (whole_list payloads w) ≡ []
no-list [] w e = refl
no-list (p ∷ ps) w e = absurd (cc e)

module _ (limit : ℕ) (bytes : List ℕ) (whole : PlainWhole) (read : ReadsWhole limit bytes (Ok whole)) (payloads : List Payload) (w : World Name) (hold : HoldAs limit bytes payloads w) where
  same : read.0 ≡ payloads
  same = held-same limit bytes read.0 payloads w read.1.1 read.2.lawful hold

  is : IsWholeOf payloads w whole
  is = subst (λ ps. IsWholeOf ps w whole) same (read.2.each w (subst (λ ps. HoldPayloads ps w) (sym same) hold.hold))

  size : whole.length ≡ log_length (map text_of payloads)
  size = read.2.size ∙ ap (λ ps. log_length (map text_of ps)) same

  sizes : written_to whole (batch_of whole.text) ≡ shrunk_of payloads w
  sizes =
      ap₂ {C = Shrunk} (λ m o. record { master = m; others = o; length_from = whole.length; length_to = log_length (batch_of whole.text) }) is.master is.others
      ∙ ap₂ {C = Shrunk} (λ f t. record { master = length w.master; others = length w.others; length_from = f; length_to = t }) size (ap log_length is.texts)

  some-list : (whole.text ≡ [] → ⊥) → payloads ≢ []
  some-list some none = some (batch-none whole.text (is.texts ∙ no-list payloads w none))

  pub shrinks-ok : (r : Compacted) → AnswersWhole limit whole r → Shrinks limit payloads w r
  shrinks-ok (Done shrunk) a = (a.0 ∙ sizes, subst (λ l. log_length l ≤ limit) is.texts a.1)
  shrinks-ok (FromDisk fault) a = tt
  shrinks-ok FromBad a = absurd a
  shrinks-ok (ToDisk fault) a = tt
  shrinks-ok NotFresh a = tt
  shrinks-ok (Full most) a = (a.0, some-list a.1, subst (λ (l : List ℕ). limit < length l + 10) (whole-text payloads w whole.text (some-list a.1) is.texts) a.2)
  shrinks-ok Memory a = tt

  list-held : (ps : List Payload) → HoldPayloads ps w → HoldPayloads (whole_list ps w) w
  list-held [] h = h
  list-held (p ∷ ps) h = whole-held (p ∷ ps) w h (held-some (p ∷ ps) w h (λ e. absurd (cc e)))

  list-same : (ps : List Payload) → (known_in (whole_list ps w) ≡ known_in ps) × (cloned_count (whole_list ps w) ≡ cloned_count ps) × (remote_heads (whole_list ps w) ≡ remote_heads ps)
  list-same [] = (refl, refl, refl)
  list-same (p ∷ ps) = whole-same (p ∷ ps) w

  holds-whole : (image : List ℕ) → IsLogWithin limit (batch_of whole.text) image → HoldsWhole limit payloads w image
  holds-whole image n =
      let here = subst (λ texts. IsLogWithin limit texts image) is.texts n in record {
        held = record { within = here.0; texts = map text_of (whole_list payloads w); log = here.1; spelled = spelled-so (whole_list payloads w); hold = list-held payloads hold.hold };
        known = (list-same payloads).0;
        cloned = (list-same payloads).1;
        heads = (list-same payloads).2;
      }

  pub moments-ok : (a b : Option Told) → Goes (KeepsNoneOrNew limit whole.text) a b → Goes (KeepsNoneOrWhole limit payloads w) a b
  moments-ok a b = goes-map (KeepsNoneOrNew limit whole.text) (KeepsNoneOrWhole limit payloads w) a b
      (λ x y k has. weakened (λ moment. IsNoneOrNew limit whole.text) (λ moment. IsNoneOrWhole limit payloads w) x y
      (λ moment image p. ⊎_elim (λ none. inl none) (λ n. inr (holds-whole image n)) p) (k has))

  pub done-ok : (a b : Option Told) → Goes (HasText limit whole.text) a b → Goes (HasWhole limit payloads w) a b
  done-ok a b = goes-map (HasText limit whole.text) (HasWhole limit payloads w) a b (λ x y h image left. holds-whole image (h image left))

-- ---- where nothing is written

pub moments-same : (limit : ℕ) (payloads : List Payload) (w : World Name) (a : Option Told) → Goes (KeepsNoneOrWhole limit payloads w) a a
moments-same limit payloads w a = goes-same (KeepsNoneOrWhole limit payloads w) a (λ x has. started (λ moment. IsNoneOrWhole limit payloads w) x (λ image left. inl (has image left)))

pub loaded-same : (a : Option Told) → Goes LeavesOldOrFresh a a
loaded-same a = goes-same LeavesOldOrFresh a (λ x. weakened (λ moment. IsImage x.now) (λ moment image. IsImage x.now image ⊎ ((length x.bytes ≤ 1) × (length image ≤ 1))) x x (λ moment image p. inl p) (kept-same x))
