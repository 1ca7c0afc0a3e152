-- What a payload owes behind others, beside its grammar, its count and its names.
use Rattle.std.proofs.Common.{◌≡◌, ◌≢◌, ◌≤◌, ◌==◌, ℕ, ◌+◌, ◌-◌, false, cond, ◌⊎◌, inl, inr, min, List, [], ◌∷◌, ◌++◌, Option, Some, None, refl, sym, ap, ◌∙◌, ⊎_elim, arith}
use Rattle.std.specs.List.{AllByRecursion, last_or}
use Rattle.std.proofs.lemmas.Bool.{eqb-false, lt-ltb}
use Rattle.segment_codec.specs.Record.{Segment}
use Rattle.segment_codec.specs.Table.{Follow}
use Rattle.segment_codec.proofs.Tables.{follow-ends}
use Rattle.batch_codec.specs.Payload.{Payload}
use Rattle.batch_codec.specs.Grammar.{IsPayload, IsFlush, IsClone, IsWholePayload, head_names, cloned_head_names, heads_among, cut_below}
use Rattle.change_rules.specs.Lawful.{AreLawful, MayFollow}
use Rattle.payload_tables.specs.Kept.{version_of, newest_version}
use Rattle.payload_tables.specs.Build.{HasPlace}

-- a flush, or another kind
pub other-kind : (p : Payload) → IsPayload p → IsFlush p ⊎ ((p.kind ≢ 1) × ((p.kind == 1) ≡ false))
other-kind p h = ⊎_elim (λ f. inl f)
    (λ o. inr (⊎_elim
    (λ (c : IsClone p). ((λ e. eqb-false 2 1 refl (sym c.kind ∙ e)), ap (λ n. n == 1) c.kind))
    (λ (w : IsWholePayload p). ((λ e. eqb-false 3 1 refl (sym w.kind ∙ e)), ap (λ n. n == 1) w.kind)) o)) h.by_kind

-- segments that end where they are cut stay
cut-none : (first end : ℕ) (segments : List Segment) → Follow first end segments → cut_below end segments ≡ segments
cut-none first end [] f = refl
cut-none first end (s ∷ more) f =
    let low = f.0 in let order = f.1 in let over = follow-ends (s.high + 1) end more f.2 in
    let least : min s.high (end - 1) ≡ s.high = omega (arith, over) in
    ap (λ b. cond b (record s { high = min s.high (end - 1) } ∷ cut_below end more) (cut_below end more)) (lt-ltb s.low end (omega (arith, low, order, over)))
    ∙ ap (λ n. record s { high = n } ∷ cut_below end more) least ∙ ap (λ l. s ∷ l) (cut-none (s.high + 1) end more f.2)

-- the heads of a clone are those of its cloned ids
pub clone-heads : (p : Payload) → IsPayload p → p.kind ≡ 2 → cloned_head_names p ≡ head_names p
clone-heads p h e = ⊎_elim (λ (f : IsFlush p). absurd (eqb-false 2 1 refl (sym e ∙ f.kind)))
    (λ o. ⊎_elim
    (λ (c : IsClone p). ap (λ n. heads_among (cut_below n p.master) p.known) c.cloned ∙ ap (λ l. heads_among l p.known) (cut-none p.before p.after p.master h.cover.master))
    (λ (w : IsWholePayload p). absurd (eqb-false 2 3 refl (sym e ∙ w.kind))) o) h.by_kind

-- ---- versions

newest-least : (payloads : List Payload) (n : ℕ) (o : Option Payload) → version_of o ≤ n → AllByRecursion (λ (q : Payload). q.version ≤ n) payloads → version_of (last_or o payloads) ≤ n
newest-least [] n o le h = le
newest-least (p ∷ more) n o le h = newest-least more n (Some p) h.0 h.1

last-of-all : (P : Payload → Type 0) (before : List Payload) (p : Payload) → AllByRecursion P (before ++ p ∷ []) → P p
last-of-all P [] p h = h.0
last-of-all P (q ∷ before) p h = last-of-all P before p h.1

newest-most : (before more : List Payload) (o : Option Payload) → AreLawful before more → AllByRecursion (λ (q : Payload). q.version ≤ version_of (last_or o more)) more
newest-most before [] o h = tt
newest-most before (p ∷ []) o h = (omega arith, tt)
newest-most before (p ∷ q ∷ more) o h =
    let rest = newest-most (before ++ p ∷ []) (q ∷ more) (Some p) h.1 in
    let step = last-of-all (λ (r : Payload). r.version ≤ q.version) before p h.1.0.version in
    let here = rest.0 in
    (omega (arith, step, here), rest)

all-wider : (n m : ℕ) (payloads : List Payload) → n ≤ m → AllByRecursion (λ (q : Payload). q.version ≤ n) payloads → AllByRecursion (λ (q : Payload). q.version ≤ m) payloads
all-wider n m [] le h = tt
all-wider n m (p ∷ more) le h = ((let a = h.0 in omega (arith, a, le)), all-wider n m more le h.1)

pub versions-fit : (payloads : List Payload) (p : Payload) → AreLawful [] payloads → newest_version payloads ≤ p.version → AllByRecursion (λ (q : Payload). q.version ≤ p.version) payloads
versions-fit payloads p h le = all-wider (newest_version payloads) p.version payloads le (newest-most [] payloads None h)

-- ---- both ways

pub place-of : (before : List Payload) (p : Payload) → MayFollow before p → HasPlace before p
place-of before p f = record {
  first = λ never. ⊎_elim (λ (k : IsFlush p). absurd (never k.kind)) (λ o. ⊎_elim (λ (c : IsClone p). f.clone_first c.kind) (λ (w : IsWholePayload p). f.whole_first w.kind) o) f.whole.by_kind;
  heads = λ never. ⊎_elim (λ (k : IsFlush p). absurd (never k.kind))
      (λ o. ⊎_elim (λ (c : IsClone p). f.clone_heads c.kind ∙ sym (clone-heads p f.whole c.kind)) (λ (w : IsWholePayload p). f.whole_heads w.kind) o) f.whole.by_kind;
  version = newest-least before p.version None (omega arith) f.version;
  levels = f.levels;
}
