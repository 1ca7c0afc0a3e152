-- What the look-ups answer.
use Rattle.std.proofs.Common.{◌≡◌, ◌<◌, ◌≤◌, ◌+◌, ◌-◌, ◌*◌, ◌^◌, ℕ, List, ◌++◌, map, length, take, drop, get_or, refl, sym, ap, ◌∙◌, subst, ⊎_elim, arith}
use Rattle.std.specs.Prelude.{Option, Some, None, MatchOption}
use Rattle.std.specs.Int.{w64, from_be_bytes}
use Rattle.id_groups.specs.Lists.{IsIn, AreDistinct}
use Rattle.id_groups.specs.Name.{Name}
use Rattle.id_groups.specs.declared.name.NameRef.{NameRef}
use Rattle.batch_codec.specs.Payload.{Known}
use Rattle.name_index.specs.Index.{NamedPlace, Finds, names_in}
use Rattle.name_map.specs.Part.{PlainPart, IsPlaceIn}
use Rattle.name_map.specs.Added.{Placed, known_of, named_from, named_of, start_of, FollowInLog, AllStand}
use Rattle.name_map.specs.Map.{IsIdOf, NamesAs}
use Rattle.name_map.specs.Found.{BeginAbove, IsPartFor, IsPlaceOf}
use Rattle.name_map.proofs.Lists.{in-append, in-left, in-right, in-map, one-of}
use Rattle.name_map.proofs.Orders.{front-below, behind-above, follow-behind, known-split, known-small}
use Rattle.name_map.proofs.Standing.{entry-of, names-known, named-split, named-at}

-- ---- the place of an id's name

pub none-above : (number : ℕ) (added : List Placed) → FollowInLog 0 added → BeginAbove number added → IsPlaceOf added number None
none-above number added follow above name i = let up = behind-above 0 number added follow above (record { id = number; name = name }) i in omega (arith, up)

pub place-for : (number : ℕ) (added : List Placed) (part : PlainPart) → FollowInLog 0 added → IsPartFor added number part → (r : Option ℕ) → IsPlaceIn part number r → IsPlaceOf added number r
place-for number added part follow f None h = λ name i.
    let g = subst (λ (z : List Placed). FollowInLog 0 z) f.whole follow in
    let low = f.begins in
    let entry : Known = record { id = number; name = name } in
    let split = subst (λ (z : List Known). IsIn entry z) (ap known_of f.whole ∙ known-split f.front f.here f.behind) i in
    ⊎_elim
    (λ (j : IsIn entry (known_of f.front)). let small = front-below 0 f.front f.here f.behind g entry j in absurd (omega (arith, small, low)))
    (λ (j : IsIn entry (f.here.payload.known ++ known_of f.behind)). ⊎_elim
    (λ (k : IsIn entry f.here.payload.known). h (subst (λ (p : PlainPart). IsIn number p.ids) (sym f.is) (in-map (λ (x : Known). x.id) entry f.here.payload.known k)))
    (λ (k : IsIn entry (known_of f.behind)). let up = behind-above f.here.payload.after number f.behind (follow-behind 0 f.front f.here f.behind g) f.above entry k in absurd (omega (arith, up)))
    (in-append entry f.here.payload.known (known_of f.behind) j))
    (in-append entry (known_of f.front) (f.here.payload.known ++ known_of f.behind) split)
place-for number added part follow f (Some place) h =
    let ids = ap (λ (p : PlainPart). p.ids) f.is in
    let lt : h.0 < length (map (λ (x : Known). x.id) f.here.payload.known) = let l = h.1 in omega (arith, l, ap length ids) in
    let at : get_or (map (λ (x : Known). x.id) f.here.payload.known) h.0 0 ≡ number = ap (λ (z : List ℕ). get_or z h.0 0) (sym ids) ∙ h.2 in
    let r = named-at (start_of f.here) f.here.payload.known number h.0 lt at in
    let entry : Known = record { id = number; name = r.name } in
    let start : start_of f.here + 28 * h.0 + 8 ≡ place = ap (λ (p : PlainPart). p.start + 28 * h.0 + 8) (sym f.is) ∙ sym h.3 in
    let named : NamedPlace = record { place = place; name = r.name } in
    let known = in-right entry (known_of f.front) (f.here.payload.known ++ known_of f.behind) (in-left entry f.here.payload.known (known_of f.behind) r.is_known) in
    let placed = subst (λ (n : ℕ). IsIn (record { place = n; name = r.name }) (named_from (start_of f.here) f.here.payload.known)) start r.is_placed in
    let all = in-right named (named_of f.front) (named_from (start_of f.here) f.here.payload.known ++ named_of f.behind) (in-left named (named_from (start_of f.here) f.here.payload.known) (named_of f.behind) placed) in (
      r.name,
      subst (λ (z : List Known). IsIn entry z) (sym (ap known_of f.whole ∙ known-split f.front f.here f.behind)) known,
      subst (λ (z : List NamedPlace). IsIn named z) (sym (ap named_of f.whole ∙ named-split f.front f.here f.behind)) all,
    )

-- ---- the name of an id

pub name-for : (bytes : List ℕ) (added : List Placed) (id place : ℕ) → FollowInLog 0 added → AllStand bytes added → IsPlaceOf added id (Some place)
    → (r : Option NameRef) → MatchOption r (length bytes < place + 20) (λ name. name.bytes.now ≡ take 20 (drop place bytes)) → NamesAs (known_of added) id r
name-for bytes added id place follow stand is None h =
    let e = entry-of bytes added follow stand (record { place = place; name = is.0 }) is.2 in
    let within = e.within in absurd (omega (arith, within, h))
name-for bytes added id place follow stand is (Some name) h =
    let e = entry-of bytes added follow stand (record { place = place; name = is.0 }) is.2 in
    subst (λ (z : Name). IsIn (record { id = id; name = z }) (known_of added)) (sym (h ∙ e.stands.stands)) is.1

-- ---- the id of a name

pub id-missing : (added : List Placed) (name : Name) (below : ℕ) → Finds (named_of added) name None → IsIdOf (known_of added) name below None
id-missing added name below h id lt i =
    h (subst (λ (z : List Name). IsIn name z) (sym (names-known added)) (in-map (λ (k : Known). k.name) (record { id = id; name = name }) (known_of added) i))

-- what is read before the place of a name that was found
pub record Reads (bytes : List ℕ) (added : List Placed) (name : Name) (place : ℕ) : Type 0 where
  pub id : ℕ
  pub is_known : IsIn (record { id = id; name = name }) (known_of added)
  pub small : id < 2 ^ 56
  pub behind : 8 ≤ place
  pub within : place ≤ length bytes
  pub is : from_be_bytes w64 (take 8 (drop (place - 8) bytes)) ≡ id

pub reads : (bytes : List ℕ) (added : List Placed) (name : Name) (place : ℕ) → FollowInLog 0 added → AllStand bytes added → Finds (named_of added) name (Some place) → Reads bytes added name place
reads bytes added name place follow stand i =
    let e = entry-of bytes added follow stand (record { place = place; name = name }) i in
    let within = e.within in
    let small = known-small 0 added follow e.entry e.is_known in
    record {
      id = e.entry.id;
      is_known = subst (λ (z : Name). IsIn (record { id = e.entry.id; name = z }) (known_of added)) e.name e.is_known;
      small = omega (arith, small);
      behind = e.behind;
      within = omega (arith, within);
      is = e.id;
    }

-- the only id with a known name
pub one-id : (added : List Placed) (name : Name) (a b : ℕ) → AreDistinct (names_in (named_of added)) → IsIn (record { id = a; name = name }) (known_of added) → IsIn (record { id = b; name = name }) (known_of added) → a ≡ b
one-id added name a b h i j =
    let distinct = subst (λ (z : List Name). AreDistinct z) (names-known added) h in
    ap (λ (k : Known). k.id) (one-of (λ (k : Known). k.name) (known_of added) distinct (record { id = a; name = name }) (record { id = b; name = name }) i j refl)

pub id-below : (added : List Placed) (name : Name) (below id known : ℕ) → id ≡ known → id < below → IsIn (record { id = known; name = name }) (known_of added) → IsIdOf (known_of added) name below (Some id)
id-below added name below id known e lt i = (lt, subst (λ (n : ℕ). IsIn (record { id = n; name = name }) (known_of added)) (sym e) i)

pub id-above : (added : List Placed) (name : Name) (below id : ℕ) → AreDistinct (names_in (named_of added)) → below ≤ id → IsIn (record { id = id; name = name }) (known_of added) → IsIdOf (known_of added) name below None
id-above added name below id distinct le i = λ other lt j. let same = one-id added name other id distinct j i in omega (arith, lt, le, same)

-- no id of the other group has a known name
pub other-none : (added : List Placed) (id place : ℕ) → FollowInLog 0 added → 2 ^ 56 ≤ id → IsPlaceOf added id (Some place) → ⊥
other-none added id place follow le is = let small = known-small 0 added follow (record { id = id; name = is.0 }) is.1 in omega (arith, small, le)
