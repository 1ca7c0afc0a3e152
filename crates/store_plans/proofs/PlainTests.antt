-- Tests behind others for which nothing is asked.
use Rattle.std.proofs.Common.{◌≡◌, inl, inr, List, [], ◌∷◌, ◌++◌, map, Option, Some, None, refl, sym, ap, subst, ◌∙◌, append-nil, append_assoc, true≢false}
use Rattle.std.specs.List.{AllZip}
use Rattle.std.proofs.Common.{is_some}
use Rattle.batch_codec.specs.Payload.{Payload}
use Rattle.id_groups.specs.Name.{Name}
use Rattle.commit_graph.specs.World.{World}
use Rattle.remote_rules.specs.Mirror.{Mirror}
use Rattle.lazy_names.specs.Cache.{PlainCache}
use Rattle.step_rules.specs.declared.Refusal.{Refusal}
use Rattle.step_rules.specs.Tests.{Test, plain, first_some}
use Rattle.step_rules.specs.Asking.{TriesAll}
use Rattle.step_rules.proofs.Plain.{plain-tries}
use Rattle.store_plans.specs.Looking.{AreRight, IsTold, IsToldAs, Tried}
use Rattle.store_plans.proofs.Trials.{tries-append}

abbrev W : Type 0
W = Unit {0}

-- nothing refuses
abbrev pub passing : {X : Type 0} → X → Option Refusal
passing x = None

-- they decide alone
pub plains : (old : List Mirror) (rs : List (Option Refusal)) (verdict : Option Refusal) → first_some rs ≡ verdict → TriesAll W old (map plain rs) verdict old []
plains old [] verdict e = (refl, refl, inl (sym e))
plains old (None ∷ rs) verdict e = inr (None, old, [], plain-tries old (plain None) (refl, refl), ([], refl, plains old rs verdict e))
plains old (Some r ∷ rs) verdict e = inr (Some r, old, [], plain-tries old (plain (Some r)) (refl, refl), (sym e, refl, refl))

none-refuse : {X : Type 0} (xs : List X) → first_some (map passing xs) ≡ None
none-refuse [] = refl
none-refuse (x ∷ xs) = none-refuse xs

zip-append : {X Y : Type 0} (R : X → Y → Type 0) (xs us : List X) (ys vs : List Y) → AllZip R xs ys → AllZip R us vs → AllZip R (xs ++ us) (ys ++ vs)
zip-append R [] us [] vs z q = q
zip-append R [] us (y ∷ ys) vs z q = absurd z
zip-append R (x ∷ xs) us [] vs z q = absurd z
zip-append R (x ∷ xs) us (y ∷ ys) vs z q = (z.0, zip-append R xs us ys vs z.1 q)

module _ (payloads : List Payload) (w : World Name) where
  all-told : (rs : List (Option Refusal)) → AllZip (IsToldAs payloads w) (map plain rs) (map plain (map passing rs))
  all-told [] = tt
  all-told (r ∷ rs) = ((refl, refl, tt), all-told rs)

  module _ (xs : List Test) (old new : List Mirror) (a b : PlainCache) (t : Tried payloads w xs old new a b None) where
    all : xs ≡ t.told.front
    all = t.told.parts ∙ ap (λ l. t.told.front ++ l) (t.told.whole refl) ∙ append-nil t.told.front

    behind : (ys : List Test) (verdict : Option Refusal) → TriesAll W new ys verdict new [] → (zs : List Test) → TriesAll W old zs None new t.gained → TriesAll W old (zs ++ ys) verdict new t.gained
    behind ys verdict h zs g = subst (TriesAll W old (zs ++ ys) verdict new) (append-nil t.gained) (tries-append old new new zs ys verdict t.gained [] g h)

    -- none of them refuses
    pub tried-passed : (rs : List (Option Refusal)) → (AreRight payloads w old → first_some rs ≡ None) → Tried payloads w (xs ++ map plain rs) old new a b None
    tried-passed rs right =
        let nones = map passing rs in
        record {
          gained = t.gained;
          keeps = t.keeps;
          told = record {
            front = t.told.front ++ map plain rs;
            rest = [];
            parts = ap (λ l. l ++ map plain rs) all ∙ sym (append-nil (t.told.front ++ map plain rs));
            whole = λ e. refl;
            told = t.told.told ++ map plain nones;
            alike = zip-append (IsToldAs payloads w) t.told.front (map plain rs) t.told.told (map plain nones) t.told.alike (all-told rs);
            tries = behind (map plain nones) None (plains new nones None (none-refuse rs)) t.told.told t.told.tries;
          };
          serving = λ s. behind (map plain rs) None (plains new rs None (right s)) xs (t.serving s);
        }

    -- one of them does
    pub tried-refused : (q : Option Refusal) (rs : List (Option Refusal)) (refusal : Refusal) → IsTold payloads w (Some refusal) → (AreRight payloads w old → first_some (q ∷ rs) ≡ Some refusal)
        → Tried payloads w (xs ++ map plain (q ∷ rs)) old new a b (Some refusal)
    tried-refused q rs refusal told right = record {
      gained = t.gained;
      keeps = t.keeps;
      told = record {
        front = t.told.front ++ plain q ∷ [];
        rest = map plain rs;
        parts = ap (λ l. l ++ map plain (q ∷ rs)) all ∙ sym (append_assoc t.told.front (plain q ∷ []) (map plain rs));
        whole = λ e. absurd (true≢false (ap is_some e));
        told = t.told.told ++ plain (Some refusal) ∷ [];
        alike = zip-append (IsToldAs payloads w) t.told.front (plain q ∷ []) t.told.told (plain (Some refusal) ∷ []) t.told.alike ((refl, refl, told), tt);
        tries = behind (plain (Some refusal) ∷ []) (Some refusal) (plains new (Some refusal ∷ []) (Some refusal) refl) t.told.told t.told.tries;
      };
      serving = λ s. behind (map plain (q ∷ rs)) (Some refusal) (plains new (q ∷ rs) (Some refusal) (right s)) xs (t.serving s);
    }
