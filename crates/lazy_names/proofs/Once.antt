-- No id has two known names.
use Rattle.std.proofs.Common.{◌≡◌, ℕ, ◌+◌, ◌<◌, ◌≤◌, true, inl, inr, List, [], ◌∷◌, length, map, get_or, sym, ap, ◌∙◌, arith, ⊎_elim}
use Rattle.std.specs.List.{AllByRecursion}
use Rattle.commit_graph.proofs.Histories.{in-append}
use Rattle.id_groups.specs.Name.{Name}
use Rattle.batch_codec.specs.Payload.{Known, known_ids}
use Rattle.batch_codec.specs.Grammar.{IsPayload}
use Rattle.batch_codec.specs.Reading.{ids_ascend}
use Rattle.batch_codec.proofs.Ascending.{ascend-parts, increasing-ascend}
use Rattle.name_map.specs.Added.{Placed, known_of, FollowInLog}
use Rattle.lazy_names.specs.Standing.{HasName}
use Rattle.lazy_names.specs.Ahead.{AreOnce}

id-is : (k : Known) (id : ℕ) (x : Name) → record { id = id; name = x } ≡ k → id ≡ k.id
id-is k id x e = ap (λ (z : Known). z.id) e

name-is : (k : Known) (id : ℕ) (x : Name) → record { id = id; name = x } ≡ k → x ≡ k.name
name-is k id x e = ap (λ (z : Known). z.name) e

within : (ks : List Known) (least end id : ℕ) (x : Name) → ids_ascend least end (map (λ (k : Known). k.id) ks) ≡ true → HasName ks id x → (least ≤ id) × (id < end)
within [] least end id x h i = absurd i
within (k ∷ ks) least end id x h (inl e) = let p = ascend-parts least end k.id (map (λ (z : Known). z.id) ks) h in let is = id-is k id x e in let a = p.0 in let b = p.1 in (omega (arith, a, is), omega (arith, b, is))
within (k ∷ ks) least end id x h (inr i) =
    let p = ascend-parts least end k.id (map (λ (z : Known). z.id) ks) h in let r = within ks (k.id + 1) end id x p.2 i in let a = p.0 in let low = r.0 in (omega (arith, a, low), r.1)

once-list : (ks : List Known) (least end : ℕ) → ids_ascend least end (map (λ (k : Known). k.id) ks) ≡ true → AreOnce ks
once-list [] least end h = λ id x y i j. absurd i
once-list (k ∷ ks) least end h = λ id x y i j.
    let p = ascend-parts least end k.id (map (λ (z : Known). z.id) ks) h in
    ⊎_elim
    (λ e. ⊎_elim
    (λ f. name-is k id x e ∙ sym (name-is k id y f))
    (λ b. let r = (within ks (k.id + 1) end id y p.2 b).0 in let is = id-is k id x e in absurd (omega (arith, r, is)))
    j)
    (λ a. ⊎_elim
    (λ f. let r = (within ks (k.id + 1) end id x p.2 a).0 in let is = id-is k id y f in absurd (omega (arith, r, is)))
    (λ b. once-list ks (k.id + 1) end p.2 id x y a b)
    j)
    i

least-first : (before after : ℕ) (ids : List ℕ) → AllByRecursion (λ id. (before ≤ id) × (id < after)) ids → 0 < length ids → before ≤ get_or ids 0 0
least-first before after [] h lt = absurd (omega (arith, lt))
least-first before after (id ∷ ids) h lt = h.0.0

all-below : (before after : ℕ) (ids : List ℕ) → AllByRecursion (λ id. (before ≤ id) × (id < after)) ids → AllByRecursion (λ id. id < after) ids
all-below before after [] h = tt
all-below before after (id ∷ ids) h = (h.0.1, all-below before after ids h.1)

ascends : (a : Placed) → IsPayload a.payload → ids_ascend a.payload.before a.payload.after (known_ids a.payload) ≡ true
ascends a p =
    let k = p.known in
    increasing-ascend a.payload.before a.payload.after (known_ids a.payload) (least-first a.payload.before a.payload.after (known_ids a.payload) k.within)
    (all-below a.payload.before a.payload.after (known_ids a.payload) k.within) k.ascend

behind : (count : ℕ) (added : List Placed) → FollowInLog count added → (id : ℕ) (x : Name) → HasName (known_of added) id x → count ≤ id
behind count [] h id x i = absurd i
behind count (a ∷ more) h id x i =
    let first = h.1 in let grows = h.0.counts.grows in
    ⊎_elim
    (λ j. let r = (within a.payload.known a.payload.before a.payload.after id x (ascends a h.0) j).0 in omega (arith, first, r))
    (λ j. let r = behind a.payload.after more h.2 id x j in omega (arith, first, grows, r))
    (in-append (record { id = id; name = x }) a.payload.known (known_of more) i)

pub once-all : (count : ℕ) (added : List Placed) → FollowInLog count added → AreOnce (known_of added)
once-all count [] h = λ id x y i j. absurd i
once-all count (a ∷ more) h = λ id x y i j.
    ⊎_elim
    (λ i'. ⊎_elim
    (λ j'. once-list a.payload.known a.payload.before a.payload.after (ascends a h.0) id x y i' j')
    (λ j'. let low = (within a.payload.known a.payload.before a.payload.after id x (ascends a h.0) i').1 in let high = behind a.payload.after more h.2 id y j' in absurd (omega (arith, low, high)))
    (in-append (record { id = id; name = y }) a.payload.known (known_of more) j))
    (λ i'. ⊎_elim
    (λ j'. let low = (within a.payload.known a.payload.before a.payload.after id y (ascends a h.0) j').1 in let high = behind a.payload.after more h.2 id x i' in absurd (omega (arith, low, high)))
    (λ j'. once-all a.payload.after more h.2 id x y i' j')
    (in-append (record { id = id; name = y }) a.payload.known (known_of more) j))
    (in-append (record { id = id; name = x }) a.payload.known (known_of more) i)
