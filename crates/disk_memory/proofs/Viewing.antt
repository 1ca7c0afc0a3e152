-- The scene that the code keeps, and the list that it fills.
use Rattle.std.proofs.Common.{◌≡◌, ◌⊎◌, inl, inr, ⊎_elim, ℕ, suc, ◌≤◌, ◌<◌, ◌+◌, ◌-◌, max, min, Bool, true, false, List, [], ◌∷◌, length, get_or, map, slice_index, refl, sym, ◌∙◌, ap, subst, arith, nat_lt, nat_le, true≢false}
use Rattle.std.specs.Prelude.{◌&&◌, ◌||◌, not, if◌then◌else◌}
use Rattle.std.specs.List.{list_any}
use Rattle.std.proofs.lemmas.Bool.Decides.{leb_tells}
use Rattle.disk_trait.specs.Images.{IsImage, IsWithin, IsWritten, longest}
use Rattle.disk_trait.proofs.Writes.{le-longest}
use Rattle.disk_memory.specs.declared.crash.Fill.{Fill}
use Rattle.disk_memory.specs.declared.crash.Fill.TheVariants.{Old, New, Byte}
use Rattle.disk_memory.specs.declared.view.Span.{Span}
use Rattle.disk_memory.specs.declared.view.View.{View}
use Rattle.disk_memory.specs.Scenes.{Scene}
use Rattle.disk_memory.specs.Chosen.{IsChosen, filled}
use Rattle.disk_memory.specs.Views.{Shows, range_of, covers, is_sure, fill_byte, view_byte}

-- ---- the test of a span
cover_decided : (place : ℕ) (span : Span) → ((covers place span ≡ true) × IsWithin place (range_of span)) ⊎ ((covers place span ≡ false) × (IsWithin place (range_of span) → ⊥))
cover_decided place span = both (nat_le span.from place) (nat_lt place (span.from + span.size)) (leb_tells span.from place) (leb_tells (suc place) (span.from + span.size))
  where
    both : (a b : Bool) → ((a ≡ true) × (span.from ≤ place)) ⊎ ((a ≡ false) × (place < span.from)) → ((b ≡ true) × (suc place ≤ span.from + span.size)) ⊎ ((b ≡ false) × (span.from + span.size < suc place))
        → (((a && b) ≡ true) × IsWithin place (range_of span)) ⊎ (((a && b) ≡ false) × (IsWithin place (range_of span) → ⊥))
    both true b (inl f) (inl g) = inl (g.0, (f.1, g.1))
    both true b (inl f) (inr g) = inr (g.0, λ w. let x = w.1 in let y = g.1 in absurd (omega (arith, x, y)))
    both true b (inr f) g = absurd (true≢false f.0)
    both false b (inl f) g = absurd (true≢false (sym f.0))
    both false b (inr f) g = inr (refl, λ w. let x = w.0 in let y = f.1 in absurd (omega (arith, x, y)))

-- and of all of them
written_decided : (place : ℕ) (spans : List Span) → ((list_any (covers place) spans ≡ true) × IsWritten place (map range_of spans)) ⊎ ((list_any (covers place) spans ≡ false) × (IsWritten place (map range_of spans) → ⊥))
written_decided place [] = inr (refl, λ w. w)
written_decided place (span ∷ spans) = either (covers place span) (list_any (covers place) spans) (cover_decided place span) (written_decided place spans)
  where
    either : (a b : Bool) → ((a ≡ true) × IsWithin place (range_of span)) ⊎ ((a ≡ false) × (IsWithin place (range_of span) → ⊥))
        → ((b ≡ true) × IsWritten place (map range_of spans)) ⊎ ((b ≡ false) × (IsWritten place (map range_of spans) → ⊥))
        → (((a || b) ≡ true) × (IsWithin place (range_of span) ⊎ IsWritten place (map range_of spans))) ⊎ (((a || b) ≡ false) × (IsWithin place (range_of span) ⊎ IsWritten place (map range_of spans) → ⊥))
    either true b (inl f) g = inl (refl, inl f.1)
    either true b (inr f) g = absurd (true≢false f.0)
    either false b (inl f) g = absurd (true≢false (sym f.0))
    either false b (inr f) (inl g) = inl (g.0, inr g.1)
    either false b (inr f) (inr g) = inr (g.0, λ w. ⊎_elim f.1 g.1 w)

-- a byte is sure where it is stable and wasn't written
sure_is : (view : View) (place : ℕ) → place < length view.stable.items → (IsWritten place (map range_of view.written.items) → ⊥) → is_sure view place ≡ true
sure_is view place inside clear = both (nat_lt place (length view.stable.items)) (list_any (covers place) view.written.items) (leb_tells (suc place) (length view.stable.items)) (written_decided place view.written.items)
  where
    both : (a b : Bool) → ((a ≡ true) × (suc place ≤ length view.stable.items)) ⊎ ((a ≡ false) × (length view.stable.items < suc place))
        → ((b ≡ true) × IsWritten place (map range_of view.written.items)) ⊎ ((b ≡ false) × (IsWritten place (map range_of view.written.items) → ⊥)) → (a && not b) ≡ true
    both a true f (inl g) = absurd (clear g.1)
    both a false f (inl g) = absurd (clear g.1)
    both a true f (inr g) = absurd (true≢false g.0)
    both true false f (inr g) = refl
    both false false (inl f) (inr g) = absurd (true≢false (sym f.0))
    both false false (inr f) (inr g) = absurd (let x = f.1 in omega (arith, x, inside))

loose_is : (view : View) (place : ℕ) → IsWritten place (map range_of view.written.items) ⊎ (length view.stable.items ≤ place) → is_sure view place ≡ false
loose_is view place loose = both (nat_lt place (length view.stable.items)) (list_any (covers place) view.written.items) (leb_tells (suc place) (length view.stable.items)) (written_decided place view.written.items) loose
  where
    both : (a b : Bool) → ((a ≡ true) × (suc place ≤ length view.stable.items)) ⊎ ((a ≡ false) × (length view.stable.items < suc place))
        → ((b ≡ true) × IsWritten place (map range_of view.written.items)) ⊎ ((b ≡ false) × (IsWritten place (map range_of view.written.items) → ⊥))
        → IsWritten place (map range_of view.written.items) ⊎ (length view.stable.items ≤ place) → (a && not b) ≡ false
    both false b f g w = refl
    both true true f g w = refl
    both true false f (inl g) w = absurd (true≢false (sym g.0))
    both true false f (inr g) (inl w) = absurd (g.1 w)
    both true false (inl f) (inr g) (inr w) = absurd (let x = f.1 in omega (arith, x, w))
    both true false (inr f) (inr g) (inr w) = absurd (true≢false f.0)

-- ---- the list that is filled, place by place
pub record IsFilled (f : ℕ → ℕ) (image : List ℕ) (count : ℕ) : Type 0 where
  pub long : length image ≡ count
  pub each : (place : ℕ) → place < count → get_or image place 0 ≡ f place

fill_is : (fill : Fill) (scene : Scene) (view : View) (place : ℕ) → Shows scene view → fill_byte fill view place ≡ filled fill scene place
fill_is Old scene view place s = ap (λ l. slice_index l place) s.stable_are
fill_is New scene view place s = ap (λ l. slice_index l place) s.bytes_are
fill_is (Byte byte) scene view place s = refl

-- the list that was filled so is the one that is chosen
pub chosen : (scene : Scene) (view : View) (fill : Fill) (size count : ℕ) (image : List ℕ) → Shows scene view → IsFilled (view_byte fill view) image count → count ≡ max (min size (length view.bytes.items)) (length view.stable.items)
    → IsChosen scene fill size image
chosen scene view fill size count image s f is =
    let stable = ap length s.stable_are in
    let greatest : length view.bytes.items ≡ longest (length scene.unsynced.stable) scene.unsynced.written = s.size ∙ ap (λ n. longest n scene.unsynced.written) stable in
    let long = f.long in
    let more = le-longest (length scene.unsynced.stable) scene.unsynced.written in
    record {
      long = omega (arith, long, is, stable, greatest);
      sure = λ place lt clear.
          f.each place (omega (arith, is, stable, greatest, more, lt))
          ∙ ap (λ b. if b then slice_index view.stable.items place else fill_byte fill view place)
          (sure_is view place (omega (arith, stable, lt)) (λ w. clear (subst (λ r. IsWritten place r) s.written_are w)))
          ∙ ap (λ l. slice_index l place) s.stable_are;
      loose = λ place lt loose.
          f.each place (omega (arith, long, lt))
          ∙ ap (λ b. if b then slice_index view.stable.items place else fill_byte fill view place)
          (loose_is view place (⊎_elim (λ w. inl (subst (λ r. IsWritten place r) (sym s.written_are) w)) (λ le. inr (omega (arith, stable, le))) loose))
          ∙ fill_is fill scene view place s;
    }

-- and one that a crash may leave
pub chosen-left : (scene : Scene) (fill : Fill) (size : ℕ) (image : List ℕ) → IsChosen scene fill size image → IsImage scene.unsynced image
chosen-left scene fill size image c =
    let long = c.long in
    let more = le-longest (length scene.unsynced.stable) scene.unsynced.written in
    record { no_shorter = omega (arith, long); no_longer = omega (arith, long, more); stable = c.sure }
