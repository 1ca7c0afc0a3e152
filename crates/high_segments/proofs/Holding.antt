-- The segment that has an id on a level, by what is kept of the levels.
use Rattle.std.proofs.Common.{◌≡◌, ℕ, zero, suc, ◌+◌, ◌-◌, ◌<◌, ◌≤◌, ◌^◌, ◌⊎◌, inl, inr, List, [], ◌∷◌, ◌++◌, length, map, take, Option, Some, None, cond, get_or, refl, sym, subst, ap, ◌∙◌, arith, lit≤, ⊎_elim, le_of_suc-le-suc}
use Rattle.std.proofs.lemmas.Bool.{lt-ltb, le-ltb}
use Rattle.std.proofs.lemmas.List.{append-nil}
use Rattle.id_groups.specs.Lists.{IsIn}
use Rattle.segment_codec.specs.Record.{Segment}
use Rattle.segment_codec.specs.Table.{segment_at}
use Rattle.segment_rules.specs.Levels.{level_segments}
use Rattle.segment_levels.specs.Kept.{PlainGroup, PlainGroups, groups_in, made_in, IsAlone, IsLevelOf, AreLevelsAbove}
use Rattle.segment_levels.specs.Sound.{IsReadable}
use Rattle.segment_levels.specs.Whole.{IsWholeTo, Grows}
use Rattle.segment_levels.specs.Endings.{or_else, at_level, held_on, held_from}
use Rattle.segment_levels.proofs.Ascending.{all-from-in, in-left}
use Rattle.segment_levels.proofs.Leveled.{one-end, leveled, level-grows}
use Rattle.segment_levels.proofs.Viewing.{one-more}
use Rattle.high_segments.specs.Growing.{AreMixed, AreReadable, MayBecome}

-- a level of a whole group can be read
pub readable : (flats : List Segment) (end : ℕ) → IsWholeTo flats end → end ≤ 16777216 → (level : ℕ) (l : PlainGroups) → IsLevelOf flats level l → IsReadable l
readable flats end w small level l is =
    let at = leveled flats end w (suc level) in
    let same = one-end 0 l.end at.last (level_segments flats (suc level)) is.follow at.follow in
    let within = at.within in
    let wide : 16777216 ≤ 2 ^ 56 = lit≤ tt in
    record {
      read = is.read;
      rise = is.rise;
      below = λ s i. all-from-in (λ p. p < s.low) s.parents (at.good s (is.kept s i)).below;
      small = omega (arith, same, within, small, wide);
    }

-- each segment of a level is kept or found below, where what was below stays
pub each-stays : (old new : List Segment) → Grows old new → (level : ℕ) (l : PlainGroups) → IsLevelOf old level l
    → (s : Segment) → IsIn s (level_segments old (suc level)) → IsIn s (groups_in l) ⊎ IsAlone (level_segments new level) (l.level - 1) s
each-stays old new g level l is s i =
    let n = is.number in
    let same : level ≡ l.level - 1 = omega (arith, n) in
    let grown = level-grows old new g level in
    ⊎_elim (λ j. inl j)
    (λ a. inr (subst (λ k. IsAlone (level_segments new level) k s) same
    (record { below = a.below; is_below = subst (λ z. IsIn a.below z) (sym grown.1) (in-left a.below (level_segments old level) grown.0 a.is_below); same = a.same; high = a.high })))
    (is.each s i)

-- one level more, of the same flat segments or of those before
pub held-level : (old new : List Segment) → MayBecome old new → (level : ℕ) (l : PlainGroups) → IsLevelOf old level l → (id : ℕ) (below : Option Segment)
    → (1 ≤ level → at_level level below ≡ segment_at (level_segments new level) id) → at_level (suc level) (held_on l id below) ≡ segment_at (level_segments old (suc level)) id
held-level old new m level l is id below known =
    let n = is.number in
    let at = leveled new m.new_end m.new_whole level in
    ap (λ k. at_level k (held_on l id below)) (sym is.number)
    ∙ one-more l (level_segments new level) (level_segments old (suc level)) level at.last is.follow at.follow is.rise is.kept (each-stays old new m.grows level l is) id below
    (λ le. known (omega (arith, n, le)))

take-zero : {X : Type 0} (xs : List X) → take 0 xs ≡ []
take-zero [] = refl
take-zero (x ∷ xs) = refl

pub grows-self : (flats : List Segment) → Grows flats flats
grows-self flats = record { more = []; is = sym (append-nil _) }

pub become-self : (old new : List Segment) → MayBecome old new → MayBecome new new
become-self old new m = record {
  old_end = m.new_end;
  new_end = m.new_end;
  old_whole = m.new_whole;
  new_whole = m.new_whole;
  grows = grows-self new;
  order = omega arith;
  small = m.small;
  few = m.few;
}

-- the levels up to one that is old yet
pub held-mixed : (old new : List Segment) → MayBecome old new → (level k : ℕ) (levels : List PlainGroups) → AreMixed old new level k levels → k < length levels → (id : ℕ) (below : Option Segment)
    → (1 ≤ level → at_level level below ≡ segment_at (level_segments new level) id)
    → at_level (suc (level + k)) (held_from below (take (suc k) levels) id) ≡ segment_at (level_segments old (suc (level + k))) id
held-mixed old new m level zero [] h lt id below known = absurd (omega (arith, lt))
held-mixed old new m level zero (l ∷ more) h lt id below known =
    let same : level + 0 ≡ level = omega arith in
    subst (λ n. at_level (suc n) (held_from (held_on l id below) (take 0 more) id) ≡ segment_at (level_segments old (suc n)) id) (sym same)
    (ap (λ z. at_level (suc level) (held_from (held_on l id below) z id)) (take-zero more) ∙ held-level old new m level l h.0 id below known)
held-mixed old new m level (suc k) [] h lt id below known = absurd (omega (arith, lt))
held-mixed old new m level (suc k) (l ∷ more) h lt id below known =
    let same : suc level + k ≡ level + suc k = omega arith in
    subst (λ n. at_level (suc n) (held_from (held_on l id below) (take (suc k) more) id) ≡ segment_at (level_segments old (suc n)) id) same
    (held-mixed old new m (suc level) k more h.1 (le_of_suc-le-suc lt) id (held_on l id below) (λ le. held-level new new (become-self old new m) level l h.0 id below known))

-- levels that are whole are mixed at each place
pub whole-mixed : (flats : List Segment) (level k : ℕ) (levels : List PlainGroups) → AreLevelsAbove flats level levels → k ≤ length levels → AreMixed flats flats level k levels
whole-mixed flats level zero levels h le = h
whole-mixed flats level (suc k) [] h le = absurd (omega (arith, le))
whole-mixed flats level (suc k) (l ∷ more) h le = (h.0, whole-mixed flats (suc level) k more h.1 (le_of_suc-le-suc le))

pub mixed-whole : (old new : List Segment) (level k : ℕ) (levels : List PlainGroups) → AreMixed old new level k levels → k ≡ length levels → AreLevelsAbove new level levels
mixed-whole old new level zero [] h e = h
mixed-whole old new level zero (l ∷ more) h e = absurd (omega (arith, e))
mixed-whole old new level (suc k) [] h e = absurd h
mixed-whole old new level (suc k) (l ∷ more) h e = (h.0, mixed-whole old new (suc level) k more h.1 (omega (arith, e)))

-- one level more, by its groups
pub held-past : (l : PlainGroups) (id : ℕ) (below : Option Segment) → l.end ≤ id → held_on l id below ≡ None
held-past l id below le = ap (λ b. cond b (or_else (segment_at (groups_in l) id) below) None) (le-ltb id l.end le)

pub held-group : (l : PlainGroups) (id : ℕ) (below : Option Segment) (s : Segment) → id < l.end → segment_at (groups_in l) id ≡ Some s → held_on l id below ≡ Some s
held-group l id below s lt e = ap (λ b. cond b (or_else (segment_at (groups_in l) id) below) None) (lt-ltb id l.end lt) ∙ ap (λ o. or_else o below) e

pub held-below : (l : PlainGroups) (id : ℕ) (below : Option Segment) → id < l.end → segment_at (groups_in l) id ≡ None → held_on l id below ≡ below
held-below l id below lt e = ap (λ b. cond b (or_else (segment_at (groups_in l) id) below) None) (lt-ltb id l.end lt) ∙ ap (λ o. or_else o below) e

pub none-kept : (l : PlainGroups) (id : ℕ) → l.groups ≡ [] → segment_at (groups_in l) id ≡ None
none-kept l id e = ap (λ (gs : List PlainGroup). segment_at (map (made_in l.level l.bytes) gs) id) e

pub last-readable : (levels front : List PlainGroups) (top : PlainGroups) → levels ≡ front ++ top ∷ [] → AreReadable levels → AreReadable front × IsReadable top
last-readable levels front top e h = go front (subst AreReadable e h)
  where
    go : (front : List PlainGroups) → AreReadable (front ++ top ∷ []) → AreReadable front × IsReadable top
    go [] h = (tt, h.0)
    go (l ∷ more) h = let r = go more h.1 in ((h.0, r.0), r.1)

-- so many levels can be read
pub mixed-readable : (old new : List Segment) (m : MayBecome old new) → (level k : ℕ) (levels : List PlainGroups) → AreMixed old new level k levels → AreReadable (take (suc k) levels)
mixed-readable old new m level zero [] h = tt
mixed-readable old new m level zero (l ∷ more) h = (readable old m.old_end m.old_whole (let a = m.order in let b = m.small in omega (arith, a, b)) level l h.0, subst AreReadable (sym (take-zero more)) tt)
mixed-readable old new m level (suc k) [] h = tt
mixed-readable old new m level (suc k) (l ∷ more) h = (readable new m.new_end m.new_whole m.small level l h.0, mixed-readable old new m (suc level) k more h.1)

pub whole-readable : (flats : List Segment) (end : ℕ) → IsWholeTo flats end → end ≤ 16777216 → (level : ℕ) (levels : List PlainGroups) → AreLevelsAbove flats level levels → AreReadable levels
whole-readable flats end w small level [] h = tt
whole-readable flats end w small level (l ∷ more) h = (readable flats end w small level l h.0, whole-readable flats end w small (suc level) more h.1)

-- the level at a place, which is old yet
pub record OldAt (old : List Segment) (level k : ℕ) (levels : List PlainGroups) : Type 0 where
  pub l : PlainGroups
  pub is : IsLevelOf old (level + k) l
  pub get : (d : PlainGroups) → get_or levels k d ≡ l

pub old-at : (old new : List Segment) (level k : ℕ) (levels : List PlainGroups) → AreMixed old new level k levels → k < length levels → OldAt old level k levels
old-at old new level zero [] h lt = absurd (omega (arith, lt))
old-at old new level zero (l ∷ more) h lt =
    let same : level ≡ level + 0 = omega arith in
    record { l = l; is = subst (λ n. IsLevelOf old n l) same h.0; get = λ d. refl }
old-at old new level (suc k) [] h lt = absurd (omega (arith, lt))
old-at old new level (suc k) (l ∷ more) h lt =
    let r = old-at old new (suc level) k more h.1 (le_of_suc-le-suc lt) in
    let same : suc level + k ≡ level + suc k = omega arith in
    record { l = r.l; is = subst (λ n. IsLevelOf old n r.l) same r.is; get = r.get }
