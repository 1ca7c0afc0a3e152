-- Bundles: what is made of a log, where no store was loaded, and statuses.
use Rattle.std.proofs.Common.{ℕ, ◌≡◌, ◌⊎◌, ◌∙◌, inl, inr, List, Option, Some, None, Result, Ok, Err, IfSome, refl, sym, subst}
use Rattle.std.specs.Prelude.{IfErr, Vec}
use Rattle.std.specs.declared.alloc.Global.{Global}
use Rattle.outside.specs.Told.{WhereTold}
use Rattle.outside.proofs.ToldLemmas.{WhereTold-map, WhereTold-same}
use Rattle.disk_trait.specs.Images.{Told}
use Rattle.disk_trait.specs.Calls.{Goes}
use Rattle.disk_trait.proofs.Telling.{goes-same}
use Rattle.disk_trait.proofs.Moments.{started}
use Rattle.id_groups.specs.Name.{Name}
use Rattle.commit_graph.specs.World.{World}
use Rattle.batch_codec.specs.Payload.{Payload}
use Rattle.change_rules.specs.declared.Limits.{Limits}
use Rattle.change_rules.specs.Holding.{HoldAs, HoldBytes, KeepsHolding}
use Rattle.change_rules.specs.Unlawful.{IsNoLog}
use Rattle.dag_store.specs.Loading.{LoadAnswers, Opens}
use Rattle.dag_store.specs.declared.replies.LoadFault.{LoadFault}
use Rattle.dag_store.specs.declared.replies.LoadFault.TheVariants as loads
use Rattle.dag_run.specs.declared.bundling.Unbundled.{Unbundled}
use Rattle.dag_run.specs.declared.bundling.Unbundled.TheVariants.{NotLoaded, NoLog, Memory, Unnamed}
use Rattle.dag_run.specs.Bundling.{unbundled_of, unbundled_status, PutsWhole, BundleMeans, Bundles, BundleRefuses, IsOfStore}
use Rattle.dag_run.specs.Ends.{StatusRefuses}

pub if-map : {X : Type 0} (F G : X → Type 0) (a : Option X) → ((x : X) → F x → G x) → IfSome a F → IfSome a G
if-map F G None f h = tt
if-map F G (Some x) f h = f x h

-- ---- where no store was loaded
pub none-opens : (limits : Limits) (payloads : List Payload) (w : World Name) (fault : LoadFault) → Opens limits payloads w (Err fault) → Bundles payloads w (Err (unbundled_of fault))
none-opens limits payloads w (loads.Frame at) h = absurd h
none-opens limits payloads w (loads.TooLarge size) h = absurd h
none-opens limits payloads w (loads.Batch k) h = absurd h
none-opens limits payloads w (loads.Disk fault) h = tt
none-opens limits payloads w loads.Memory h = tt

pub none-answers : (limits : Limits) (bytes : List ℕ) (fault : LoadFault) → LoadAnswers limits bytes (Err fault) → BundleRefuses limits.log bytes (Err (unbundled_of fault))
none-answers limits bytes (loads.Frame at) h = inr (inl (at, h.1))
none-answers limits bytes (loads.TooLarge size) h = inl h.0
none-answers limits bytes (loads.Batch k) h = inr (inr (h.0, k, h.1.1, h.2))
none-answers limits bytes (loads.Disk fault) h = tt
none-answers limits bytes loads.Memory h = tt

-- ---- where one was
pub store-refuses : (limit : ℕ) (bytes : List ℕ) (r : Result (Vec ℕ Global) Unbundled) → IfErr r IsOfStore → (IsNoLog limit bytes → ⊥) → BundleRefuses limit bytes r
store-refuses limit bytes (Ok bundle) is h = h
store-refuses limit bytes (Err NotLoaded) is h = absurd is
store-refuses limit bytes (Err NoLog) is h = absurd is
store-refuses limit bytes (Err Memory) is h = tt
store-refuses limit bytes (Err Unnamed) is h = h

-- ---- what was put
pub bundle-put : (payloads : List Payload) (w : World Name) (bundle : Vec ℕ Global) (status : ℕ) (o n : Option (List ℕ)) → WhereTold o n (PutsWhole bundle.items status)
    → Bundles payloads w (Ok bundle) → WhereTold o n (BundleMeans payloads w status)
bundle-put payloads w bundle status o n put h =
    WhereTold-map o n (PutsWhole bundle.items status) _ (λ before now p. inl (h.0, subst (λ piece. PutsWhole piece status before now) h.1 p)) put

none-means : (payloads : List Payload) (w : World Name) (fault : Unbundled) (status : ℕ) (x : List ℕ) → status ≡ unbundled_status fault → Bundles payloads w (Err fault)
    → BundleMeans payloads w status x x
none-means payloads w NotLoaded status x e h = inr (inr (inl e, refl))
none-means payloads w NoLog status x e h = absurd h
none-means payloads w Memory status x e h = inr (inr (inr e, refl))
none-means payloads w Unnamed status x e h = inr (inl (e, h, refl))

pub none-put : (payloads : List Payload) (w : World Name) (fault : Unbundled) (status : ℕ) (o : Option (List ℕ)) → status ≡ unbundled_status fault → Bundles payloads w (Err fault)
    → WhereTold o o (BundleMeans payloads w status)
none-put payloads w fault status o e h = WhereTold-same o _ (λ x. none-means payloads w fault status x e h)

pub bundle-refuses : (limit : ℕ) (bytes : List ℕ) (bundle : Vec ℕ Global) (status : ℕ) → (status ≡ 0) ⊎ (status ≡ 6) → BundleRefuses limit bytes (Ok bundle) → StatusRefuses limit bytes status
bundle-refuses limit bytes bundle status (inl zero) h = (λ four. absurd (let never : 0 ≡ 4 = sym zero ∙ four in cc never), λ none. absurd (h none))
bundle-refuses limit bytes bundle status (inr six) h = (λ four. absurd (let never : 6 ≡ 4 = sym six ∙ four in cc never), λ none. absurd (h none))

pub none-refuses : (limit : ℕ) (bytes : List ℕ) (fault : Unbundled) (status : ℕ) → status ≡ unbundled_status fault → BundleRefuses limit bytes (Err fault) → StatusRefuses limit bytes status
none-refuses limit bytes NotLoaded status e h = (λ four. absurd (let never : 3 ≡ 4 = sym e ∙ four in cc never), λ none. inr (inl e))
none-refuses limit bytes NoLog status e h = (λ four. h, λ none. inl e)
none-refuses limit bytes Memory status e h = (λ four. absurd (let never : 7 ≡ 4 = sym e ∙ four in cc never), λ none. inr (inr e))
none-refuses limit bytes Unnamed status e h = (λ four. absurd (let never : 10 ≡ 4 = sym e ∙ four in cc never), λ none. absurd (h none))

-- for want of memory before the log was read
pub bundle-idle : (limit status : ℕ) → status ≡ 7 → (payloads : List Payload) (w : World Name) (bytes : Option (List ℕ)) (o : Option (List ℕ))
    → IfSome bytes (λ b. HoldAs limit b payloads w → WhereTold o o (BundleMeans payloads w status))
bundle-idle limit status seven payloads w None o = tt
bundle-idle limit status seven payloads w (Some b) o = λ hold. none-put payloads w Memory status o seven tt

pub refuses-idle : (limit status : ℕ) → status ≡ 7 → (bytes : Option (List ℕ)) → IfSome bytes (λ b. StatusRefuses limit b status)
refuses-idle limit status seven None = tt
refuses-idle limit status seven (Some b) = none-refuses limit b Memory status seven tt

pub holds-idle : (limit : ℕ) (w : World Name) (d : Option Told) → Goes (KeepsHolding limit w) d d
holds-idle limit w d = goes-same (KeepsHolding limit w) d (λ x holds. started (λ moment image. HoldBytes limit image w) x holds)
