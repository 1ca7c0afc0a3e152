-- Tests that are tried in turn over mirrors and a cache.
use Rattle.std.proofs.Common.{◌≡◌, ◌≤◌, ℕ, inl, inr, List, [], ◌∷◌, ◌++◌, length, Option, Some, None, is_some, refl, sym, ap, ap₂, subst, ◌∙◌, ⊎_elim, MatchOption, arith, append-nil, append_assoc, true≢false, zero-le}
use Rattle.std.specs.List.{AllZip}
use Rattle.std.proofs.lemmas.List.{map-append}
use Rattle.id_groups.specs.Lists.{IsIn}
use Rattle.id_groups.specs.Name.{Name}
use Rattle.commit_graph.specs.World.{World}
use Rattle.commit_graph.proofs.Naming.{each, all-each}
use Rattle.batch_codec.specs.Payload.{Payload}
use Rattle.change_rules.specs.Tables.{cloned_count}
use Rattle.remote_rules.specs.CloneData.{KnownName}
use Rattle.remote_rules.specs.Mirror.{Mirror}
use Rattle.remote_rules.specs.Serving.{IsServing}
use Rattle.remote_rules.specs.declared.MirrorFault.{MirrorFault}
use Rattle.remote_rules.specs.Asking.{AsksForNames}
use Rattle.lazy_names.specs.Cache.{PlainCache, Keeps}
use Rattle.lazy_names.proofs.Caches.{keeps-same, keeps-then}
use Rattle.step_rules.specs.declared.Refusal.{Refusal}
use Rattle.step_rules.specs.declared.Refusal.TheVariants as why
use Rattle.step_rules.specs.Tests.{Test, plain}
use Rattle.step_rules.specs.Asking.{Tries, TriesAll, refused_by}
use Rattle.step_rules.proofs.Origins.{serves-on, tries-from}
use Rattle.step_rules.proofs.Plain.{all-memory}
use Rattle.store_plans.specs.Looking.{AreRight, IsTold, IsToldAs, Tried, entries_of}

abbrev W : Type 0
W = Unit {0}

some-none : {X : Type 0} (x : X) → ◌≡◌ {A = Option X} None (Some x) → ⊥
some-none x e = true≢false (sym (ap is_some e))

-- ---- lists of tests

pub tries-append : (old mid new : List Mirror) (xs ys : List Test) (verdict : Option Refusal) (g h : List KnownName) → TriesAll W old xs None mid g → TriesAll W mid ys verdict new h → TriesAll W old (xs ++ ys) verdict new (g ++ h)
tries-append old mid new [] ys verdict g h t u =
    subst (λ l. TriesAll W old ys verdict new (l ++ h)) (sym t.1) (subst (λ m. TriesAll W m ys verdict new h) t.0 u)
tries-append old mid new (x ∷ xs) ys verdict g h (inl t) u = absurd (some-none why.Memory t.3)
tries-append old mid new (x ∷ xs) ys verdict g h (inr t) u = inr (t.0, t.1, t.2, t.3, behind t.0 t.4 (λ b r. tries-append t.1 mid new xs ys verdict b h r u))
  where
    behind : (first : Option Refusal)
        → MatchOption first ((b : List KnownName) × (g ≡ t.2 ++ b) × TriesAll W t.1 xs None mid b) (λ refusal. (None ≡ Some refusal) × (mid ≡ t.1) × (g ≡ t.2))
        → ((b : List KnownName) → TriesAll W t.1 xs None mid b → TriesAll W t.1 (xs ++ ys) verdict new (b ++ h))
        → MatchOption first ((b : List KnownName) × (g ++ h ≡ t.2 ++ b) × TriesAll W t.1 (xs ++ ys) verdict new b) (λ refusal. (verdict ≡ Some refusal) × (new ≡ t.1) × (g ++ h ≡ t.2))
    behind None m rec = (m.0 ++ h, ap (λ l. l ++ h) m.1 ∙ append_assoc t.2 m.0 h, rec m.0 m.2)
    behind (Some r) m rec = absurd (some-none r m.0)

pub tries-stop : (old new : List Mirror) (xs ys : List Test) (refusal : Refusal) (g : List KnownName) → TriesAll W old xs (Some refusal) new g → TriesAll W old (xs ++ ys) (Some refusal) new g
tries-stop old new [] ys refusal g t =
    ⊎_elim (λ e. absurd (some-none refusal (sym e)))
    (λ m. subst (λ o. TriesAll W old ys o new g) (sym m.1) (subst (λ l. TriesAll W old ys (Some why.Memory) new l) (sym t.1) (subst (λ l. TriesAll W old ys (Some why.Memory) l []) (sym t.0) (all-memory W old ys tt)))) t.2
tries-stop old new (x ∷ xs) ys refusal g (inl t) = inl t
tries-stop old new (x ∷ xs) ys refusal g (inr t) = inr (t.0, t.1, t.2, t.3, behind t.0 t.4 (λ b r. tries-stop t.1 new xs ys refusal b r))
  where
    behind : (first : Option Refusal)
        → MatchOption first ((b : List KnownName) × (g ≡ t.2 ++ b) × TriesAll W t.1 xs (Some refusal) new b) (λ r. (Some refusal ≡ Some r) × (new ≡ t.1) × (g ≡ t.2))
        → ((b : List KnownName) → TriesAll W t.1 xs (Some refusal) new b → TriesAll W t.1 (xs ++ ys) (Some refusal) new b)
        → MatchOption first ((b : List KnownName) × (g ≡ t.2 ++ b) × TriesAll W t.1 (xs ++ ys) (Some refusal) new b) (λ r. (Some refusal ≡ Some r) × (new ≡ t.1) × (g ≡ t.2))
    behind None m rec = (m.0, m.1, rec m.0 m.2)
    behind (Some r) m rec = m

pub tries-one : (old new : List Mirror) (t : Test) (verdict : Option Refusal) (g : List KnownName) → Tries old t verdict new g → TriesAll W old (t ∷ []) verdict new g
tries-one old new t None g h = inr (None, new, g, h, ([], sym (append-nil g), (refl, refl, inl refl)))
tries-one old new t (Some r) g h = inr (Some r, new, g, h, (refl, refl, refl))

-- a test for which nothing is asked
pub tries-plain : (old : List Mirror) (verdict : Option Refusal) → TriesAll W old (plain verdict ∷ []) verdict old []
tries-plain old verdict = tries-one old old (plain verdict) verdict [] (0, None, ([], tt, zero-le, (λ le. absurd (omega (arith, le))), (refl, refl, refl)), (zero-le, λ k i. absurd i), refl)

zip-append : {X Y : Type 0} (R : X → Y → Type 0) (xs us : List X) (ys vs : List Y) → AllZip R xs ys → AllZip R us vs → AllZip R (xs ++ us) (ys ++ vs)
zip-append R [] us [] vs z q = q
zip-append R [] us (y ∷ ys) vs z q = absurd z
zip-append R (x ∷ xs) us [] vs z q = absurd z
zip-append R (x ∷ xs) us (y ∷ ys) vs z q = (z.0, zip-append R xs us ys vs z.1 q)

module _ (payloads : List Payload) (w : World Name) where
  -- mirrors that serve go on to
  pub serving-on : (old new : List Mirror) (tests : List Test) (verdict : Option Refusal) (g : List KnownName) → TriesAll W old tests verdict new g → AreRight payloads w old → AreRight payloads w new
  serving-on old new tests verdict g t (inl none) = inl none
  serving-on old new tests verdict g t (inr s) =
      let from = tries-from W old new tests verdict g t in
      inr (all-each (IsServing (cloned_count payloads) w) new (λ m i. let x = from.each_from m i in serves-on (cloned_count payloads) w x.0 m x.2 (each (IsServing (cloned_count payloads) w) old s x.0 x.1)))

  pub tried-serves : (tests : List Test) (old new : List Mirror) (a b : PlainCache) (verdict : Option Refusal) → Tried payloads w tests old new a b verdict → AreRight payloads w old → AreRight payloads w new
  tried-serves tests old new a b verdict t s = serving-on old new t.told.told verdict t.gained t.told.tries s

  pub tried-then : (xs ys : List Test) (old mid new : List Mirror) (a b c : PlainCache) (verdict : Option Refusal) → Tried payloads w xs old mid a b None → Tried payloads w ys mid new b c verdict
      → Tried payloads w (xs ++ ys) old new a c verdict
  tried-then xs ys old mid new a b c verdict t u =
      let all : xs ≡ t.told.front = t.told.parts ∙ ap (λ l. t.told.front ++ l) (t.told.whole refl) ∙ append-nil t.told.front in
      record {
        gained = t.gained ++ u.gained;
        keeps = subst (λ l. Keeps l a c) (sym (map-append (λ (k : KnownName). (k.id, k.name)) t.gained u.gained)) (keeps-then (entries_of t.gained) (entries_of u.gained) a b c t.keeps u.keeps);
        told = record {
          front = t.told.front ++ u.told.front;
          rest = u.told.rest;
          parts = ap₂ (λ p q. p ++ q) all u.told.parts ∙ sym (append_assoc t.told.front u.told.front u.told.rest);
          whole = u.told.whole;
          told = t.told.told ++ u.told.told;
          alike = zip-append (IsToldAs payloads w) t.told.front u.told.front t.told.told u.told.told t.told.alike u.told.alike;
          tries = tries-append old mid new t.told.told u.told.told verdict t.gained u.gained t.told.tries u.told.tries;
        };
        serving = λ s. tries-append old mid new xs ys verdict t.gained u.gained (t.serving s) (u.serving (tried-serves xs old mid a b None t s));
      }

  pub tried-stop : (xs ys : List Test) (old new : List Mirror) (a b : PlainCache) (refusal : Refusal) → Tried payloads w xs old new a b (Some refusal) → Tried payloads w (xs ++ ys) old new a b (Some refusal)
  tried-stop xs ys old new a b refusal t = record {
    gained = t.gained;
    keeps = t.keeps;
    told = record {
      front = t.told.front;
      rest = t.told.rest ++ ys;
      parts = ap (λ l. l ++ ys) t.told.parts ∙ append_assoc t.told.front t.told.rest ys;
      whole = λ e. absurd (some-none refusal (sym e));
      told = t.told.told;
      alike = t.told.alike;
      tries = t.told.tries;
    };
    serving = λ s. tries-stop old new xs ys refusal t.gained (t.serving s);
  }

  -- no test, and no memory before the tests
  pub tried-none : (old : List Mirror) (a : PlainCache) → Tried payloads w [] old old a a None
  tried-none old a = record {
    gained = [];
    keeps = keeps-same [] a;
    told = record { front = []; rest = []; parts = refl; whole = λ e. refl; told = []; alike = tt; tries = (refl, refl, inl refl) };
    serving = λ s. (refl, refl, inl refl);
  }

  pub tried-memory : (xs : List Test) (old : List Mirror) (a : PlainCache) → Tried payloads w xs old old a a (Some why.Memory)
  tried-memory xs old a = record {
    gained = [];
    keeps = keeps-same [] a;
    told = record { front = []; rest = xs; parts = refl; whole = λ e. absurd (some-none why.Memory (sym e)); told = []; alike = tt; tries = (refl, refl, inr (tt, refl)) };
    serving = λ s. all-memory W old xs tt;
  }

  -- a test for which nothing is asked, as code decides it
  pub tried-plain : (refusal verdict : Option Refusal) (old : List Mirror) (a : PlainCache) → IsTold payloads w verdict → (AreRight payloads w old → verdict ≡ refusal) → Tried payloads w (plain refusal ∷ []) old old a a verdict
  tried-plain refusal verdict old a told right = record {
    gained = [];
    keeps = keeps-same [] a;
    told = record { front = plain refusal ∷ []; rest = []; parts = refl; whole = λ e. refl; told = plain verdict ∷ []; alike = ((refl, refl, told), tt); tries = tries-plain old verdict };
    serving = λ s. subst (λ r. TriesAll W old (plain r ∷ []) verdict old []) (right s) (tries-plain old verdict);
  }

  -- one test with an ask, as what was told decides it
  pub tried-asked : (t : Test) (refusal : Option Refusal) (old new : List Mirror) (a b : PlainCache) (answered : ℕ) (end : Option MirrorFault) (gained : List KnownName)
      → AsksForNames t.must t.may answered old end new → length gained ≤ answered → Keeps (entries_of gained) a b → IsTold payloads w refusal
      → (AreRight payloads w old → refusal ≡ t.refusal) → (AreRight payloads w old → (k : KnownName) → IsIn k gained → IsIn k t.finds) → Tried payloads w (t ∷ []) old new a b (refused_by end refusal)
  tried-asked t refusal old new a b answered end gained asks few keeps told right finds = record {
    gained = gained;
    keeps = keeps;
    told = record {
      front = t ∷ [];
      rest = [];
      parts = refl;
      whole = λ e. refl;
      told = record { must = t.must; may = t.may; finds = gained; refusal = refusal } ∷ [];
      alike = ((refl, refl, told), tt);
      tries = tries-one old new (record { must = t.must; may = t.may; finds = gained; refusal = refusal }) (refused_by end refusal) gained (answered, end, asks, (few, λ k i. i), refl);
    };
    serving = λ s. subst (λ r. TriesAll W old (t ∷ []) (refused_by end r) new gained) (sym (right s)) (tries-one old new t (refused_by end t.refusal) gained (answered, end, asks, (few, finds s), refl));
  }

  -- one behind others for which nothing is asked, decided rightly where the mirrors served before them all
  pub tried-last : (xs : List Test) (refusal verdict : Option Refusal) (old new : List Mirror) (a b : PlainCache) → Tried payloads w xs old new a b None → IsTold payloads w verdict → (AreRight payloads w old → verdict ≡ refusal)
      → Tried payloads w (xs ++ plain refusal ∷ []) old new a b verdict
  tried-last xs refusal verdict old new a b t told right =
      let all : xs ≡ t.told.front = t.told.parts ∙ ap (λ l. t.told.front ++ l) (t.told.whole refl) ∙ append-nil t.told.front in
      record {
        gained = t.gained;
        keeps = t.keeps;
        told = record {
          front = t.told.front ++ plain refusal ∷ [];
          rest = [];
          parts = ap (λ l. l ++ plain refusal ∷ []) all ∙ sym (append-nil (t.told.front ++ plain refusal ∷ []));
          whole = λ e. refl;
          told = t.told.told ++ plain verdict ∷ [];
          alike = zip-append (IsToldAs payloads w) t.told.front (plain refusal ∷ []) t.told.told (plain verdict ∷ []) t.told.alike ((refl, refl, told), tt);
          tries = subst (TriesAll W old (t.told.told ++ plain verdict ∷ []) verdict new) (append-nil t.gained) (tries-append old new new t.told.told (plain verdict ∷ []) verdict t.gained [] t.told.tries (tries-plain new verdict));
        };
        serving = λ s. subst (λ r. TriesAll W old (xs ++ plain r ∷ []) verdict new t.gained) (right s)
            (subst (TriesAll W old (xs ++ plain verdict ∷ []) verdict new) (append-nil t.gained) (tries-append old new new xs (plain verdict ∷ []) verdict t.gained [] (t.serving s) (tries-plain new verdict)));
      }
