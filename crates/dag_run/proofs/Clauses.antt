-- What the headline says of words, clause by clause, as a caller asks: each follows from `DoesWords`.
use Rattle.std.proofs.Common.{arith, ℕ, ◌≡◌, ◌⊎◌, ◌∙◌, false, inl, inr, ⊎_elim, List, [], ◌∷◌, Option, length, refl, sym, subst}
use Rattle.std.specs.Prelude.{IfSome}
use Rattle.outside.specs.Counts.{Rose}
use Rattle.outside.specs.Told.{WhereTold}
use Rattle.id_groups.specs.Name.{Name}
use Rattle.commit_graph.specs.World.{World}
use Rattle.disk_trait.specs.Images.{Told}
use Rattle.disk_trait.specs.Calls.{Goes}
use Rattle.disk_trait.specs.Since.{IsUntouched}
use Rattle.gated_log.specs.Load.{LeavesOldOrFresh}
use Rattle.batch_codec.specs.Payload.{Payload}
use Rattle.change_rules.specs.Holding.{HoldAs, KeepsHolding}
use Rattle.change_rules.specs.Standard.{AreLimits, standard}
use Rattle.remote_rules.specs.Mirror.{Mirror}
use Rattle.remote_serve.specs.Steps.{ports, served_streams}
use Rattle.log_compact.proofs.Both.{loaded-same}
use Rattle.program_words.specs.Usage.{IsUsage}
use Rattle.program_words.specs.declared.usage.Mode.{Mode}
use Rattle.program_words.specs.declared.usage.Mode.TheVariants.{Run, Demo, Serve, Bundle, Compact}
use Rattle.program_words.specs.declared.usage.Usage.{Usage}
use Rattle.dag_run.specs.Seen.{seen}
use Rattle.dag_run.specs.Stops.{IsDemoStatus, IsOneOf, IsOverBy, IsStatus}
use Rattle.dag_run.specs.Ends.{Begins, EndRefuses, StatusMeans, StatusRefuses}
use Rattle.dag_run.specs.Demo.{DemoMeans}
use Rattle.dag_run.specs.Serving.{IsServeStatus, ServeMeans, WantsOne}
use Rattle.dag_run.specs.Bundling.{BundleMeans}
use Rattle.dag_run.specs.Compacting.{CompactMeans}
use Rattle.dag_run.specs.Modes.{EndsAtOnce, HasModeStatus, IsDemoOf, IsRunOf, IsUsageOf, RefusesWords}
use Rattle.dag_run.specs.Does.{Around, Does, DoesIn, DoesWords, EndsUntouched, disk_sides, port_sides}
use Rattle.dag_run.proofs.Usages.{once-means, one-cache, once-refuses, once-demo, one-mode, of-demo, demo-means, only-memory}
use Rattle.dag_run.proofs.Over.{once-over}
use Rattle.dag_run.proofs.Served.{once-serves, once-one}
use Rattle.dag_run.proofs.Anew.{compact-idle}
use Rattle.dag_run.proofs.Bundled.{bundle-idle, refuses-idle, holds-idle}
use Rattle.dag_run.proofs.ModeStatuses.{is_one_of, mode-known, mode-words, mode-refuses, mode-untouched, none-else, once-status, once-words, two-or-seven}

-- what holds where all is left alone
still : {D M I O : Type 0} (l l' s s' : D) (m m' : M) (i i' : I) (o o' : O) (P : D → D → M → I → O → Type 0) → l' ≡ l → s' ≡ s → m' ≡ m → i' ≡ i → o' ≡ o → P l s m i o → P l' s' m' i' o'
still l l' s s' m m' i i' o o' P a b c d e h =
    subst (λ z. P z s' m' i' o') (sym a) (subst (λ z. P l z m' i' o') (sym b) (subst (λ z. P l s z i' o') (sym c) (subst (λ z. P l s m z o') (sym d) (subst (λ z. P l s m i z) (sym e) h))))

single : (xs : List Mirror) → length xs ≡ 1 → (f : Mirror) × (xs ≡ f ∷ [])
single [] e = absurd (omega (arith, e))
single (x ∷ []) e = (x, refl)
single (x ∷ y ∷ xs) e = absurd (omega (arith, e))

module _ {D M I O : Type 0} (told : D → Option Told) (bytes : D → Option (List ℕ)) (faults : D → ℕ) (show : M → List Mirror) (left : I → Option (List ℕ)) (read_faults : I → ℕ) (taken : O → Option (List ℕ)) (put_faults : O → ℕ)
    (l l' s s' : D) (m m' : M) (i i' : I) (o o' : O) (words : List (List ℕ)) (status : ℕ) (changes : List ℕ) where
  abbrev X : Around D M I O
  X = record {
    log = disk_sides told bytes faults l l';
    spare = disk_sides told bytes faults s s';
    mirrors = record { was = m; is = m'; first = show m; left = show m' };
    input = port_sides left read_faults i i';
    output = port_sides taken put_faults o o';
  }

  alone : (P : D → D → M → I → O → Type 0) → EndsUntouched words X status changes → P l s m i o → P l' s' m' i' o'
  alone P ends h = still l l' s s' m m' i i' o o' P ends.log ends.spare ends.mirrors ends.input ends.output h

  mode-does : (usage : Usage) (mode : Mode) → IsUsage words usage → IsUsageOf mode words → Does usage X status changes → DoesIn mode usage X status changes
  mode-does usage mode is of does = subst (λ k. DoesIn k usage X status changes) (one-mode words usage mode is of) does.mode

  seven : (mode : Mode) → EndsUntouched words X status changes → IsUsageOf mode words → status ≡ 7
  seven mode ends of = only-memory words status of.0 ends.why of.1

  -- ---- statuses
  pub known : DoesWords words X status changes → IsStatus status
  known (inl (usage, is, does)) = mode-known usage.mode status does.known
  known (inr ends) = once-status words status ends.why

  pub modes : DoesWords words X status changes → HasModeStatus words status
  modes (inl (usage, is, does)) = mode-words words usage status is does.known
  modes (inr ends) = once-words words status ends.why

  refuses-once : EndsAtOnce words status → RefusesWords words status
  refuses-once (inl none) = (λ two. none.1, λ not. inl none.0)
  refuses-once (inr sev) = (λ two. absurd (let never : 7 ≡ 2 = sym sev ∙ two in cc never), λ not. inr sev)

  pub usage : DoesWords words X status changes → RefusesWords words status
  usage (inl (u, is, does)) = mode-refuses words u status is does.known
  usage (inr ends) = refuses-once ends.why

  -- ---- a run
  pub means : AreLimits standard → DoesWords words X status changes → (cache : ℕ) (w : World Name) (payloads : List Payload) → IsRunOf cache words
      → WhereTold (seen (told l) (left i) (taken o)) (seen (told l') (left i') (taken o'))
      (λ before after. Begins standard w payloads cache (show m) before → StatusMeans standard w payloads cache (show m) (show m')
      (Rose (faults l) (faults l')) (Rose (read_faults i) (read_faults i')) (Rose (put_faults o) (put_faults o')) status changes before after)
  means fair (inl (u, is, does)) cache w payloads of =
      subst (λ n. WhereTold (seen (told l) (left i) (taken o)) (seen (told l') (left i') (taken o'))
      (λ before after. Begins standard w payloads n (show m) before → StatusMeans standard w payloads n (show m) (show m')
      (Rose (faults l) (faults l')) (Rose (read_faults i) (read_faults i')) (Rose (put_faults o) (put_faults o')) status changes before after))
      (one-cache words u cache is of) ((mode-does u Run is (of.0, of.1, of.2) does).0.means w payloads)
  means fair (inr ends) cache w payloads of =
      alone (λ l' s' m' i' o'. WhereTold (seen (told l) (left i) (taken o)) (seen (told l') (left i') (taken o'))
      (λ before after. Begins standard w payloads cache (show m) before → StatusMeans standard w payloads cache (show m) (show m')
      (Rose (faults l) (faults l')) (Rose (read_faults i) (read_faults i')) (Rose (put_faults o) (put_faults o')) status changes before after))
      ends (once-means standard fair words status changes cache ends.why of ends.none w payloads (show m) _ _ _ (told l) (left i) (taken o))

  pub over : DoesWords words X status changes → IsUsageOf Run words → WhereTold (left i) (left i') (λ before after. IsOverBy standard.input status (length before))
  over (inl (u, is, does)) of = (mode-does u Run is of does).0.over
  over (inr ends) of = alone (λ l' s' m' i' o'. WhereTold (left i) (left i') (λ before after. IsOverBy standard.input status (length before))) ends (once-over words status standard.input ends.why of (left i))

  pub refuses : DoesWords words X status changes → IsUsageOf Run words → IfSome (bytes l) (λ b. StatusRefuses standard.log b status)
  refuses (inl (u, is, does)) of = (mode-does u Run is of does).0.refuses
  refuses (inr ends) of = refuses-idle standard.log status (seven Run ends of) (bytes l)

  pub no_log : DoesWords words X status changes → IsUsageOf Run words → WhereTold (seen (told l) (left i) (taken o)) (seen (told l') (left i') (taken o')) (EndRefuses standard status)
  no_log (inl (u, is, does)) of = (mode-does u Run is of does).0.no_log
  no_log (inr ends) of = alone (λ l' s' m' i' o'. WhereTold (seen (told l) (left i) (taken o)) (seen (told l') (left i') (taken o')) (EndRefuses standard status)) ends
      (once-refuses standard words status ends.why of (told l) (left i) (taken o))

  -- ---- a demonstration
  pub demo : DoesWords words X status changes → (size start : ℕ) → IsDemoOf size start words → WhereTold (taken o) (taken o') (DemoMeans size start status)
  demo (inl (u, is, does)) size start of = demo-means words u status size start (taken o) (taken o') is of (mode-does u Demo is (of-demo size start words of) does).means
  demo (inr ends) size start of = alone (λ l' s' m' i' o'. WhereTold (taken o) (taken o') (DemoMeans size start status)) ends (once-demo words status size start (taken o) ends.why of)

  pub aside : DoesWords words X status changes → IsUsageOf Demo words → IsDemoStatus status × (l' ≡ l) × (m' ≡ m) × (i' ≡ i) × (changes ≡ [])
  aside (inl (u, is, d)) of = let x = mode-does u Demo is of d in ((modes (inl (u, is, d))).usages Demo of, x.log, x.mirrors, x.input, x.none)
  aside (inr ends) of = ((modes (inr ends)).usages Demo of, ends.log, ends.mirrors, ends.input, ends.none)

  -- ---- serving
  pub serves : DoesWords words X status changes → IsUsageOf Serve words → length (show m) ≡ 1 → WhereTold (ports (left i) (taken o)) (ports (left i') (taken o'))
      (λ before after. ServeMeans standard.input status (served_streams before after) (show m) (show m'))
  serves (inl (u, is, does)) of one = (mode-does u Serve is of does).means one
  serves (inr ends) of one = alone (λ l' s' m' i' o'. WhereTold (ports (left i) (taken o)) (ports (left i') (taken o'))
      (λ before after. ServeMeans standard.input status (served_streams before after) (show m) (show m'))) ends (once-serves words status standard.input ends.why of (show m) (single (show m) one) (left i) (taken o))

  pub one : DoesWords words X status changes → IsUsageOf Serve words → WantsOne (length (show m)) status
  one (inl (u, is, does)) of = (mode-does u Serve is of does).one
  one (inr ends) of = once-one words status (length (show m)) ends.why of

  pub beside : DoesWords words X status changes → IsUsageOf Serve words → IsServeStatus status × (l' ≡ l) × (changes ≡ [])
  beside (inl (u, is, d)) of = let x = mode-does u Serve is of d in ((modes (inl (u, is, d))).usages Serve of, x.log, x.none)
  beside (inr ends) of = ((modes (inr ends)).usages Serve of, ends.log, ends.none)

  -- ---- a bundle
  pub bundles : DoesWords words X status changes → (payloads : List Payload) (w : World Name) → IsUsageOf Bundle words
      → IfSome (bytes l) (λ b. HoldAs standard.log b payloads w → WhereTold (taken o) (taken o') (BundleMeans payloads w status))
  bundles (inl (u, is, does)) payloads w of = (mode-does u Bundle is of does).means payloads w
  bundles (inr ends) payloads w of = alone (λ l' s' m' i' o'. IfSome (bytes l) (λ b. HoldAs standard.log b payloads w → WhereTold (taken o) (taken o') (BundleMeans payloads w status))) ends
      (bundle-idle standard.log status (seven Bundle ends of) payloads w (bytes l) (taken o))

  pub unbundled : DoesWords words X status changes → IsUsageOf Bundle words → IfSome (bytes l) (λ b. StatusRefuses standard.log b status)
  unbundled (inl (u, is, does)) of = (mode-does u Bundle is of does).refuses
  unbundled (inr ends) of = refuses-idle standard.log status (seven Bundle ends of) (bytes l)

  pub held : DoesWords words X status changes → (w : World Name) → IsUsageOf Bundle words → Goes (KeepsHolding standard.log w) (told l) (told l')
  held (inl (u, is, does)) w of = (mode-does u Bundle is of does).holds w
  held (inr ends) w of = alone (λ l' s' m' i' o'. Goes (KeepsHolding standard.log w) (told l) (told l')) ends (holds-idle standard.log w (told l))

  pub apart_bundle : DoesWords words X status changes → IsUsageOf Bundle words → (m' ≡ m) × (i' ≡ i) × (changes ≡ []) × ((status ≡ 0) ⊎ ((status ≡ 6) ⊎ (o' ≡ o)))
  apart_bundle (inl (u, is, does)) of = let x = mode-does u Bundle is of does in (x.mirrors, x.input, x.none, x.nothing)
  apart_bundle (inr ends) of = (ends.mirrors, ends.input, ends.none, inr (inr ends.output))

  -- ---- a log written anew
  pub compacts : DoesWords words X status changes → IsUsageOf Compact words → CompactMeans standard.log (bytes l) (bytes s) (told s) (told s') (taken o) (taken o') status
  compacts (inl (u, is, does)) of = (mode-does u Compact is of does).means
  compacts (inr ends) of = alone (λ l' s' m' i' o'. CompactMeans standard.log (bytes l) (bytes s) (told s) (told s') (taken o) (taken o') status) ends
      (compact-idle standard.log status (seven Compact ends of) (bytes l) (bytes s) (told s) (taken o))

  pub kept : DoesWords words X status changes → (w : World Name) → IsUsageOf Compact words → Goes (KeepsHolding standard.log w) (told l) (told l')
  kept (inl (u, is, does)) w of = (mode-does u Compact is of does).holds w
  kept (inr ends) w of = alone (λ l' s' m' i' o'. Goes (KeepsHolding standard.log w) (told l) (told l')) ends (holds-idle standard.log w (told l))

  pub anew : DoesWords words X status changes → IsUsageOf Compact words → (m' ≡ m) × (i' ≡ i) × (changes ≡ []) × ((status ≡ 0) ⊎ ((status ≡ 6) ⊎ (o' ≡ o)))
  anew (inl (u, is, does)) of = let x = mode-does u Compact is of does in (x.mirrors, x.input, x.none, x.nothing)
  anew (inr ends) of = (ends.mirrors, ends.input, ends.none, inr (inr ends.output))

  pub loaded : DoesWords words X status changes → IsUsageOf Bundle words ⊎ IsUsageOf Compact words → Goes LeavesOldOrFresh (told l) (told l')
  loaded (inl (u, is, does)) (inl of) = (mode-does u Bundle is of does).loaded
  loaded (inl (u, is, does)) (inr of) = (mode-does u Compact is of does).loaded
  loaded (inr ends) of = alone (λ l' s' m' i' o'. Goes LeavesOldOrFresh (told l) (told l')) ends (loaded-same (told l))

  -- ---- in each mode
  not-once : (n : ℕ) → is_one_of (2 ∷ 7 ∷ []) n ≡ false → EndsAtOnce words status → status ≡ n → ⊥
  not-once n out once e = none-else status (n ∷ []) (out, tt) (two-or-seven words status once) (inl e)

  pub unwritten : DoesWords words X status changes → status ≡ 4 → Goes IsUntouched (told l) (told l') × (i' ≡ i) × (o' ≡ o) × (m' ≡ m)
  unwritten (inl (u, is, does)) e = does.causes.no_log e
  unwritten (inr ends) e = absurd (not-once 4 refl ends.why e)

  pub quiet : DoesWords words X status changes → IsOneOf (2 ∷ 7 ∷ 10 ∷ 11 ∷ 13 ∷ 14 ∷ 15 ∷ []) status → (i' ≡ i) × (o' ≡ o) × (m' ≡ m)
  quiet (inl (u, is, does)) of = does.causes.quiet of
  quiet (inr ends) of = (ends.input, ends.output, ends.mirrors)

  pub untouched : DoesWords words X status changes → status ≡ 2 → l' ≡ l
  untouched (inl (u, is, does)) two = mode-untouched u.mode status (l' ≡ l) does.known two
  untouched (inr ends) two = ends.log

  pub disk : DoesWords words X status changes → status ≡ 3 → Rose (faults l) (faults l')
  disk (inl (u, is, does)) e = does.causes.disk e
  disk (inr ends) e = absurd (not-once 3 refl ends.why e)

  pub spare_disk : DoesWords words X status changes → status ≡ 13 → Rose (faults s) (faults s')
  spare_disk (inl (u, is, does)) e = does.causes.spare e
  spare_disk (inr ends) e = absurd (not-once 13 refl ends.why e)

  pub source : DoesWords words X status changes → status ≡ 5 → Rose (read_faults i) (read_faults i')
  source (inl (u, is, does)) e = does.causes.source e
  source (inr ends) e = absurd (not-once 5 refl ends.why e)

  pub sink : DoesWords words X status changes → status ≡ 6 → Rose (put_faults o) (put_faults o')
  sink (inl (u, is, does)) e = does.causes.sink e
  sink (inr ends) e = absurd (not-once 6 refl ends.why e)

  in-changes : (u : Usage) (mode : Mode) → (mode ≡ Run → ⊥) → DoesIn mode u X status changes → changes ≡ []
  in-changes u Run other d = absurd (other refl)
  in-changes u Demo other d = d.none
  in-changes u Serve other d = d.none
  in-changes u Bundle other d = d.none
  in-changes u Compact other d = d.none

  pub no_changes : DoesWords words X status changes → (IsUsageOf Run words → ⊥) → changes ≡ []
  no_changes (inl (u, is, does)) other = in-changes u u.mode (λ e. other (u, is, e)) does.mode
  no_changes (inr ends) other = ends.none

  in-spare : (u : Usage) (mode : Mode) → (mode ≡ Compact → ⊥) ⊎ ((status ≡ 3) ⊎ (status ≡ 4)) → DoesIn mode u X status changes → s' ≡ s
  in-spare u Run h d = d.1
  in-spare u Demo h d = d.spare
  in-spare u Serve h d = d.spare
  in-spare u Bundle h d = d.spare
  in-spare u Compact (inl other) d = absurd (other refl)
  in-spare u Compact (inr e) d = d.spare e

  pub spare : DoesWords words X status changes → (IsUsageOf Compact words → ⊥) ⊎ ((status ≡ 3) ⊎ (status ≡ 4)) → s' ≡ s
  spare (inl (u, is, does)) h = in-spare u u.mode (⊎_elim (λ other. inl (λ e. other (u, is, e))) (λ e. inr e) h) does.mode
  spare (inr ends) h = ends.spare
