-- Parts of lawful payloads, and the ids that they know.
use Rattle.std.proofs.Common.{◌<◌, ◌≤◌, ℕ, List, [], ◌∷◌, ◌++◌, map, sym, subst, arith, append-nil, append_assoc}
use Rattle.std.specs.List.{AllByRecursion}
use Rattle.batch_codec.specs.Payload.{Payload, Known}
use Rattle.batch_codec.specs.Grammar.{count_after}
use Rattle.change_rules.specs.Lawful.{AreLawful}
use Rattle.change_rules.specs.Tables.{known_in}
use Rattle.payload_tables.proofs.Lists.{all-append, count-last}

pub lawful-front : (before front behind : List Payload) → AreLawful before (front ++ behind) → AreLawful before front
lawful-front before [] behind h = tt
lawful-front before (p ∷ front) behind h = (h.0, lawful-front (before ++ p ∷ []) front behind h.1)

-- payloads that come behind lawful ones are lawful there
pub lawful-behind : (before front behind : List Payload) → AreLawful before (front ++ behind) → AreLawful (before ++ front) behind
lawful-behind before [] behind h = subst (λ l. AreLawful l behind) (sym (append-nil before)) h
lawful-behind before (p ∷ front) behind h = subst (λ l. AreLawful l behind) (append_assoc before (p ∷ []) front) (lawful-behind (before ++ p ∷ []) front behind h.1)

own-above : (n before after : ℕ) (ks : List Known) → n ≤ before → AllByRecursion (λ id. (before ≤ id) × (id < after)) (map (λ (k : Known). k.id) ks) → AllByRecursion (λ (k : Known). n ≤ k.id) ks
own-above n before after [] le h = tt
own-above n before after (k ∷ ks) le h = (let x = h.0.0 in omega (arith, le, x), own-above n before after ks le h.1)

lower : (m n : ℕ) (ks : List Known) → m ≤ n → AllByRecursion (λ (k : Known). n ≤ k.id) ks → AllByRecursion (λ (k : Known). m ≤ k.id) ks
lower m n [] le h = tt
lower m n (k ∷ ks) le h = (let x = h.0 in omega (arith, le, x), lower m n ks le h.1)

-- known ids of payloads that come behind others lie above the ids of these
pub known-above : (before more : List Payload) → AreLawful before more → AllByRecursion (λ (k : Known). count_after 0 before ≤ k.id) (known_in more)
known-above before [] h = tt
known-above before (p ∷ more) h =
    let count = h.0.count in
    let grows = h.0.whole.counts.grows in
    let last = count-last 0 before p in
    all-append (λ (k : Known). count_after 0 before ≤ k.id) p.known (known_in more)
    (own-above (count_after 0 before) p.before p.after p.known (omega (arith, count)) h.0.whole.known.within)
    (lower (count_after 0 before) (count_after 0 (before ++ p ∷ [])) (known_in more) (omega (arith, count, grows, last)) (known-above (before ++ p ∷ []) more h.1))
