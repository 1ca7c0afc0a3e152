-- The ids of payloads that follow one another: those of each lie below those of the next.
use Rattle.std.proofs.Common.{◌≡◌, ◌<◌, ◌≤◌, ℕ, List, [], ◌∷◌, ◌++◌, refl, ⊎_elim, arith}
use Rattle.std.proofs.lemmas.List.Concat.{flat_map-append}
use Rattle.id_groups.specs.Lists.{IsIn}
use Rattle.batch_codec.specs.Payload.{Known, Payload}
use Rattle.batch_codec.specs.Grammar.{IsPayload, count_after}
use Rattle.name_map.specs.Added.{Placed, payloads_of, known_of, FollowInLog}
use Rattle.name_map.specs.Found.{BeginAbove}
use Rattle.name_map.proofs.Lists.{in-append, each-map}

-- a known id is one of its payload's new master ids
pub known-within : (p : Payload) → IsPayload p → (k : Known) → IsIn k p.known → (p.before ≤ k.id) × (k.id < p.after)
known-within p h k i = each-map (λ (x : Known). x.id) (λ (id : ℕ). (p.before ≤ id) × (id < p.after)) p.known h.known.within k i

pub follow-at : (count : ℕ) (front : List Placed) (here : Placed) (behind : List Placed) → FollowInLog count (front ++ here ∷ behind) → IsPayload here.payload
follow-at count [] here behind h = h.0
follow-at count (a ∷ front) here behind h = follow-at a.payload.after front here behind h.2

pub follow-behind : (count : ℕ) (front : List Placed) (here : Placed) (behind : List Placed) → FollowInLog count (front ++ here ∷ behind) → FollowInLog here.payload.after behind
follow-behind count [] here behind h = h.2
follow-behind count (a ∷ front) here behind h = follow-behind a.payload.after front here behind h.2

pub follow-le : (count : ℕ) (front : List Placed) (here : Placed) (behind : List Placed) → FollowInLog count (front ++ here ∷ behind) → count ≤ here.payload.before
follow-le count [] here behind h = let e = h.1 in omega (arith, e)
follow-le count (a ∷ front) here behind h = let e = h.1 in let up = h.0.counts.grows in omega (arith, e, up, follow-le a.payload.after front here behind h.2)

pub front-below : (count : ℕ) (front : List Placed) (here : Placed) (behind : List Placed) → FollowInLog count (front ++ here ∷ behind) → (k : Known) → IsIn k (known_of front) → k.id < here.payload.before
front-below count [] here behind h k i = absurd i
front-below count (a ∷ front) here behind h k i =
    ⊎_elim (λ (j : IsIn k a.payload.known). let small = (known-within a.payload h.0 k j).1 in omega (arith, small, follow-le a.payload.after front here behind h.2))
    (λ (j : IsIn k (known_of front)). front-below a.payload.after front here behind h.2 k j) (in-append k a.payload.known (known_of front) i)

pub behind-above : (count number : ℕ) (behind : List Placed) → FollowInLog count behind → BeginAbove number behind → (k : Known) → IsIn k (known_of behind) → number < k.id
behind-above count number [] h above k i = absurd i
behind-above count number (a ∷ behind) h above k i =
    ⊎_elim (λ (j : IsIn k a.payload.known). let low = (known-within a.payload h.0 k j).0 in let up = above.0 in omega (arith, low, up))
    (λ (j : IsIn k (known_of behind)). behind-above a.payload.after number behind h.2 above.1 k j) (in-append k a.payload.known (known_of behind) i)

-- known ids are few
pub known-small : (count : ℕ) (added : List Placed) → FollowInLog count added → (k : Known) → IsIn k (known_of added) → k.id < 16777216
known-small count [] h k i = absurd i
known-small count (a ∷ added) h k i =
    ⊎_elim (λ (j : IsIn k a.payload.known). let low = (known-within a.payload h.0 k j).1 in let most = h.0.counts.master in omega (arith, low, most))
    (λ (j : IsIn k (known_of added)). known-small a.payload.after added h.2 k j) (in-append k a.payload.known (known_of added) i)

pub known-split : (front : List Placed) (here : Placed) (behind : List Placed) → known_of (front ++ here ∷ behind) ≡ known_of front ++ (here.payload.known ++ known_of behind)
known-split front here behind = flat_map-append (λ (a : Placed). a.payload.known) front (here ∷ behind)

-- behind the last payload comes one that begins where it ends
pub follow-more : (count : ℕ) (added : List Placed) (a : Placed) → FollowInLog count added → IsPayload a.payload → a.payload.before ≡ count_after count (payloads_of added) → FollowInLog count (added ++ a ∷ [])
follow-more count [] a h p e = (p, e, tt)
follow-more count (b ∷ added) a h p e = (h.0, h.1, follow-more b.payload.after added a h.2 p e)

pub count-more : (count : ℕ) (added : List Placed) (a : Placed) → count_after count (payloads_of (added ++ a ∷ [])) ≡ a.payload.after
count-more count [] a = refl
count-more count (b ∷ added) a = count-more b.payload.after added a
