-- Statuses by the mode that the words are a usage of.
use Rattle.std.proofs.Common.{ℕ, ◌≡◌, ◌⊎◌, ◌∙◌, Bool, true, false, inl, inr, List, [], ◌∷◌, refl, sym, subst}
use Rattle.std.specs.Prelude.{◌==◌, IsTrue}
use Rattle.std.specs.List.{AllByRecursion, list_any}
use Rattle.std.proofs.lemmas.Bool.{eqb-true}
use Rattle.program_words.specs.Usage.{IsUsage}
use Rattle.program_words.specs.declared.usage.Mode.{Mode}
use Rattle.program_words.specs.declared.usage.Mode.TheVariants.{Run, Demo, Serve, Bundle, Compact}
use Rattle.program_words.specs.declared.usage.Usage.{Usage}
use Rattle.program_words.proofs.Exactly.{no-usage}
use Rattle.dag_run.specs.Modes.{IsModeStatus, HasModeStatus, EndsAtOnce, RefusesWords}
use Rattle.dag_run.specs.Stops.{IsStatus, IsOneOf}
use Rattle.dag_run.proofs.Usages.{only-memory, one-mode}

-- whether the number is one of these
abbrev pub is_one_of : List ℕ → ℕ → Bool
is_one_of xs s = list_any (λ known. known == s) xs

-- what is one of some is one of more
among : (xs ys : List ℕ) → AllByRecursion (λ x. IsTrue (is_one_of ys x)) xs → (s : ℕ) → IsTrue (is_one_of xs s) → IsTrue (is_one_of ys s)
among [] ys all s h = absurd (let never : false ≡ true = h in cc never)
among (x ∷ xs) ys all s h = go (x == s) refl h (among xs ys all.1 s)
  where
    go : (b : Bool) → (x == s) ≡ b → IsTrue (is_one_of (x ∷ xs) s) → (IsTrue (is_one_of xs s) → IsTrue (is_one_of ys s)) → IsTrue (is_one_of ys s)
    go true e h rest = subst (λ n. IsTrue (is_one_of ys n)) (eqb-true x s e) all.0
    go false e h rest = rest (rw e at h)

-- what is one of some is none of others
pub apart : (xs ys : List ℕ) → AllByRecursion (λ y. is_one_of xs y ≡ false) ys → (s : ℕ) → IsTrue (is_one_of xs s) → IsOneOf ys s → ⊥
apart xs [] all s h o = o
apart xs (y ∷ ys) all s h (inl e) = (let never : false ≡ true = sym all.0 ∙ subst (λ n. IsTrue (is_one_of xs n)) e h in cc never)
apart xs (y ∷ ys) all s h (inr o) = apart xs ys all.1 s h o

-- ---- each is one of the program's
abbrev every : List ℕ
every = 0 ∷ 2 ∷ 3 ∷ 4 ∷ 5 ∷ 6 ∷ 7 ∷ 8 ∷ 10 ∷ 11 ∷ 12 ∷ 13 ∷ 14 ∷ 15 ∷ []

pub mode-known : (mode : Mode) (status : ℕ) → IsModeStatus mode status → IsStatus status
mode-known Run status h = among (0 ∷ 3 ∷ 4 ∷ 5 ∷ 6 ∷ 7 ∷ 8 ∷ []) every (refl, (refl, (refl, (refl, (refl, (refl, (refl, tt))))))) status h
mode-known Demo status h = among (0 ∷ 6 ∷ 7 ∷ []) every (refl, (refl, (refl, tt))) status h
mode-known Serve status h = among (0 ∷ 5 ∷ 6 ∷ 7 ∷ 8 ∷ 11 ∷ 12 ∷ []) every (refl, (refl, (refl, (refl, (refl, (refl, (refl, tt))))))) status h
mode-known Bundle status h = among (0 ∷ 3 ∷ 4 ∷ 6 ∷ 7 ∷ 10 ∷ []) every (refl, (refl, (refl, (refl, (refl, (refl, tt)))))) status h
mode-known Compact status h = among (0 ∷ 3 ∷ 4 ∷ 6 ∷ 7 ∷ 13 ∷ 14 ∷ 15 ∷ []) every (refl, (refl, (refl, (refl, (refl, (refl, (refl, (refl, tt)))))))) status h

-- ---- which mode it is of
mode-usage : (mode : Mode) (status : ℕ) → IsModeStatus mode status → status ≡ 2 → ⊥
mode-usage Run status h e = apart (0 ∷ 3 ∷ 4 ∷ 5 ∷ 6 ∷ 7 ∷ 8 ∷ []) (2 ∷ []) (refl, tt) status h (inl e)
mode-usage Demo status h e = apart (0 ∷ 6 ∷ 7 ∷ []) (2 ∷ []) (refl, tt) status h (inl e)
mode-usage Serve status h e = apart (0 ∷ 5 ∷ 6 ∷ 7 ∷ 8 ∷ 11 ∷ 12 ∷ []) (2 ∷ []) (refl, tt) status h (inl e)
mode-usage Bundle status h e = apart (0 ∷ 3 ∷ 4 ∷ 6 ∷ 7 ∷ 10 ∷ []) (2 ∷ []) (refl, tt) status h (inl e)
mode-usage Compact status h e = apart (0 ∷ 3 ∷ 4 ∷ 6 ∷ 7 ∷ 13 ∷ 14 ∷ 15 ∷ []) (2 ∷ []) (refl, tt) status h (inl e)

mode-bundle : (mode : Mode) (status : ℕ) → IsModeStatus mode status → status ≡ 10 → mode ≡ Bundle
mode-bundle Run status h e = absurd (apart (0 ∷ 3 ∷ 4 ∷ 5 ∷ 6 ∷ 7 ∷ 8 ∷ []) (10 ∷ []) (refl, tt) status h (inl e))
mode-bundle Demo status h e = absurd (apart (0 ∷ 6 ∷ 7 ∷ []) (10 ∷ []) (refl, tt) status h (inl e))
mode-bundle Serve status h e = absurd (apart (0 ∷ 5 ∷ 6 ∷ 7 ∷ 8 ∷ 11 ∷ 12 ∷ []) (10 ∷ []) (refl, tt) status h (inl e))
mode-bundle Bundle status h e = refl
mode-bundle Compact status h e = absurd (apart (0 ∷ 3 ∷ 4 ∷ 6 ∷ 7 ∷ 13 ∷ 14 ∷ 15 ∷ []) (10 ∷ []) (refl, tt) status h (inl e))

mode-compact : (mode : Mode) (status : ℕ) → IsModeStatus mode status → IsOneOf (13 ∷ 14 ∷ 15 ∷ []) status → mode ≡ Compact
mode-compact Run status h o = absurd (apart (0 ∷ 3 ∷ 4 ∷ 5 ∷ 6 ∷ 7 ∷ 8 ∷ []) (13 ∷ 14 ∷ 15 ∷ []) (refl, (refl, (refl, tt))) status h o)
mode-compact Demo status h o = absurd (apart (0 ∷ 6 ∷ 7 ∷ []) (13 ∷ 14 ∷ 15 ∷ []) (refl, (refl, (refl, tt))) status h o)
mode-compact Serve status h o = absurd (apart (0 ∷ 5 ∷ 6 ∷ 7 ∷ 8 ∷ 11 ∷ 12 ∷ []) (13 ∷ 14 ∷ 15 ∷ []) (refl, (refl, (refl, tt))) status h o)
mode-compact Bundle status h o = absurd (apart (0 ∷ 3 ∷ 4 ∷ 6 ∷ 7 ∷ 10 ∷ []) (13 ∷ 14 ∷ 15 ∷ []) (refl, (refl, (refl, tt))) status h o)
mode-compact Compact status h o = refl

-- ---- the words
pub mode-words : (words : List (List ℕ)) (usage : Usage) (status : ℕ) → IsUsage words usage → IsModeStatus usage.mode status → HasModeStatus words status
mode-words words usage status is h = record {
  usages = λ mode of. subst (λ m. IsModeStatus m status) (one-mode words usage mode is of) h;
  bundle = λ ten. (usage, is, mode-bundle usage.mode status h ten);
  compact = λ o. (usage, is, mode-compact usage.mode status h o);
}

pub mode-refuses : (words : List (List ℕ)) (usage : Usage) (status : ℕ) → IsUsage words usage → IsModeStatus usage.mode status → RefusesWords words status
mode-refuses words usage status is h = (λ two. absurd (mode-usage usage.mode status h two), λ none. absurd (no-usage words usage none is))

pub mode-untouched : (mode : Mode) (status : ℕ) (Same : Type 0) → IsModeStatus mode status → status ≡ 2 → Same
mode-untouched mode status Same h two = absurd (mode-usage mode status h two)

-- ---- where the program ends at once
once-known : (status : ℕ) → (status ≡ 2) ⊎ (status ≡ 7) → IsStatus status
once-known status (inl e) = subst IsStatus (sym e) refl
once-known status (inr e) = subst IsStatus (sym e) refl

pub two-or-seven : (words : List (List ℕ)) (status : ℕ) → EndsAtOnce words status → (status ≡ 2) ⊎ (status ≡ 7)
two-or-seven words status (inl none) = inl none.0
two-or-seven words status (inr seven) = inr seven

pub once-status : (words : List (List ℕ)) (status : ℕ) → EndsAtOnce words status → IsStatus status
once-status words status once = once-known status (two-or-seven words status once)

memory-status : (mode : Mode) → IsModeStatus mode 7
memory-status Run = refl
memory-status Demo = refl
memory-status Serve = refl
memory-status Bundle = refl
memory-status Compact = refl

pub none-else : (status : ℕ) (others : List ℕ) → AllByRecursion (λ y. is_one_of (2 ∷ 7 ∷ []) y ≡ false) others → (status ≡ 2) ⊎ (status ≡ 7) → IsOneOf others status → ⊥
none-else status others all (inl e) o = apart (2 ∷ 7 ∷ []) others all status (subst (λ n. IsTrue (is_one_of (2 ∷ 7 ∷ []) n)) (sym e) refl) o
none-else status others all (inr e) o = apart (2 ∷ 7 ∷ []) others all status (subst (λ n. IsTrue (is_one_of (2 ∷ 7 ∷ []) n)) (sym e) refl) o

pub once-words : (words : List (List ℕ)) (status : ℕ) → EndsAtOnce words status → HasModeStatus words status
once-words words status once = record {
  usages = λ mode of. subst (λ n. IsModeStatus mode n) (sym (only-memory words status of.0 once of.1)) (memory-status mode);
  bundle = λ ten. absurd (none-else status (10 ∷ []) (refl, tt) (two-or-seven words status once) (inl ten));
  compact = λ o. absurd (none-else status (13 ∷ 14 ∷ 15 ∷ []) (refl, (refl, (refl, tt))) (two-or-seven words status once) o);
}
