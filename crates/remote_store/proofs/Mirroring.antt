-- What the calls of a log's remote leave and answer, by what it tells.
use Rattle.std.proofs.Common.{◌≡◌, ◌≤◌, ℕ, List, [], Option, Some, None, IfSome, IfOk, Result, Ok, Err, refl, sym, ap, subst, ◌∙◌, arith, append-nil, is_some}
use Rattle.std.specs.Prelude.{option_and_then, MatchOption}
use Rattle.std.specs.Option.{option_map}
use Rattle.id_groups.specs.Name.{Name}
use Rattle.commit_graph.specs.World.{Row}
use Rattle.disk_trait.specs.Images.{Told}
use Rattle.disk_trait.specs.Calls.{Goes}
use Rattle.gated_log.specs.Load.{OnlyReads}
use Rattle.remote_rules.specs.CloneData.{CloneData}
use Rattle.remote_rules.specs.Honest.{IsHonest, clone_data_of}
use Rattle.remote_rules.specs.Known.{master_world}
use Rattle.remote_trait.specs.Calls.{Refreshes, ToldSo, AreGrown, AreMaster}
use Rattle.remote_trait.specs.declared.fault.RemoteFault.{RemoteFault}
use Rattle.remote_trait.specs.declared.fault.RemoteFault.TheVariants.{Failed, Memory}
use Rattle.remote_store.specs.Told.{texts_within, master_told}
use Rattle.remote_store.specs.Fit.{IsUnfit}
use Rattle.remote_store.specs.Remote.{PlainStore, bytes_in, rows_told, mirror_of, Reads, KeepsStore}

-- ---- reads alone

pub same-bytes : (a b : Option Told) → Goes (OnlyReads 3) a b → bytes_in b ≡ bytes_in a
same-bytes None None g = refl
same-bytes None (Some y) g = absurd g
same-bytes (Some x) None g = absurd g
same-bytes (Some x) (Some y) g = ap (λ (t : Told). Some t.bytes) g.2

same-honest : (a b : Option Told) → Goes (OnlyReads 3) a b → is_some b ≡ is_some a
same-honest None None g = refl
same-honest None (Some y) g = absurd g
same-honest (Some x) None g = absurd g
same-honest (Some x) (Some y) g = refl

module _ (before now : PlainStore) (limit : now.limit ≡ before.limit) (told : Goes (OnlyReads 3) before.told now.told) where
  pub rows-same : rows_told now ≡ rows_told before
  rows-same =
      ap (λ l. option_and_then (master_told l) (bytes_in now.told)) limit
      ∙ ap (option_and_then (master_told before.limit)) (same-bytes before.told now.told told)

  cloned-same : (mirror_of now).cloned ≡ (mirror_of before).cloned
  cloned-same = ap (option_map (λ rows. clone_data_of (master_world rows))) rows-same

  grown : (a b : Option (List (Row Name))) → b ≡ a → ToldSo a b AreGrown
  grown None None e = tt
  grown None (Some y) e = cc
  grown (Some x) None e = cc
  grown (Some x) (Some y) e = let same : y ≡ x = cc in record { more = []; behind = same ∙ sym (append-nil x); master = λ h. subst (λ rows. AreMaster rows) (sym same) h }

  pub reads-refresh : before.faults ≤ now.faults → now.asked ≡ before.asked → Refreshes (mirror_of before) (mirror_of now)
  reads-refresh faults asked = record {
    master = grown (rows_told before) (rows_told now) rows-same;
    kept = λ _. rows-same;
    cloned = ap is_some cloned-same;
    settled = same-honest before.told now.told told;
    to_come = tt;
    faults = faults;
    asked = asked;
    sound = λ h. sound-same (rows_told before) (rows_told now) (mirror_of before).cloned (mirror_of now).cloned rows-same cloned-same h;
  }
    where
      sound-same : (a b : Option (List (Row Name))) (c d : Option CloneData) → b ≡ a → d ≡ c → MatchOption a (Unit {0}) (IsHonest c) → MatchOption b (Unit {0}) (IsHonest d)
      sound-same a b c d e f h = subst (λ o. MatchOption o (Unit {0}) (IsHonest d)) (sym e) (subst (λ k. MatchOption a (Unit {0}) (IsHonest k)) (sym f) h)

-- ---- what is told

pub told-clone : (o : Option (List (Row Name))) (given : CloneData) → IfSome o (λ rows. given ≡ clone_data_of (master_world rows)) → IfSome (option_map (λ rows. clone_data_of (master_world rows)) o) (λ told. given ≡ told)
told-clone None given h = tt
told-clone (Some rows) given h = h

pub if-map : {X : Type 0} (o : Option X) (P Q : X → Type 0) → ((x : X) → P x → Q x) → IfSome o P → IfSome o Q
if-map None P Q f h = tt
if-map (Some x) P Q f h = f x h

pub ok-map : {X E : Type 0} {P Q : X → Type 0} (r : Result X E) → ((x : X) → P x → Q x) → IfOk r P → IfOk r Q
ok-map (Ok x) f h = f x h
ok-map (Err e) f h = tt

-- what holds of the bytes that a read gives holds of what an honest disk tells
pub told-bytes : (t : Option Told) (b : Option (List ℕ)) (P : List ℕ → Type 0) → IfSome t (λ z. b ≡ Some z.bytes) → IfSome b P → IfSome (bytes_in t) P
told-bytes None b P h g = tt
told-bytes (Some z) b P h g = subst (λ o. IfSome o P) h g

-- what is known of what is kept
abbrev pub IsKeptOf : ℕ → Option Told → Option (List (List ℕ)) → Type 0
IsKeptOf limit told kept = IfSome (bytes_in told) (λ bytes. IfSome kept (λ texts. (texts_within limit bytes ≡ Some texts) × (IsUnfit limit bytes → ⊥)))

-- reads don't change it
pub kept-still : (limit : ℕ) (a b : Option Told) (kept : Option (List (List ℕ))) → Goes (OnlyReads 3) a b → IsKeptOf limit a kept → IsKeptOf limit b kept
kept-still limit a b kept g h = subst (λ o. IfSome o (λ bytes. IfSome kept (λ texts. (texts_within limit bytes ≡ Some texts) × (IsUnfit limit bytes → ⊥)))) (sym (same-bytes a b g)) h

-- what was read is kept
pub kept-new : (limit : ℕ) (a b : Option Told) (bytes : Option (List ℕ)) (texts : List (List ℕ)) → Goes (OnlyReads 3) a b → IfSome a (λ z. bytes ≡ Some z.bytes)
    → IfSome bytes (λ bs. (texts_within limit bs ≡ Some texts) × (IsUnfit limit bs → ⊥)) → IsKeptOf limit b (Some texts)
kept-new limit a b bytes texts g tells h = kept-still limit a b (Some texts) g (told-bytes a bytes (λ bs. (texts_within limit bs ≡ Some texts) × (IsUnfit limit bs → ⊥)) tells h)

-- each answer to who asks for the log is one of reads alone
pub kept-reads : {T : Type 0} (before now : PlainStore) (r : Result T RemoteFault) → KeepsStore before now r → Reads before now × (before.faults ≤ now.faults)
kept-reads before now (Ok x) h = (h.0, (let e = h.1 in omega (arith, e)))
kept-reads before now (Err Failed) h = (h.0, h.2)
kept-reads before now (Err Memory) h = (h.0, (let e = h.1 in omega (arith, e)))
