-- Flat segments are made again of the parents that they list; and where the levels of segments that are cut end.
use Rattle.std.proofs.Common.{◌≡◌, ◌<◌, ◌≤◌, ℕ, zero, suc, ◌+◌, ◌-◌, Bool, true, false, cond, ◌&&◌, List, [], ◌∷◌, ◌++◌, length, take, min, Some, None, refl, sym, ap, ap₂, subst, ◌∙◌, if◌then◌else◌, nat_lt, arith, le_refl}
use Rattle.std.proofs.lemmas.Bool.{ltb-true, ltb-false, lt-ltb, le-ltb, le-leb}
use Rattle.id_groups.specs.Lists.{IsIn}
use Rattle.commit_graph.proofs.Down.{in-left}
use Rattle.segment_codec.specs.Record.{Segment}
use Rattle.segment_codec.specs.Table.{Follow, segment_at}
use Rattle.segment_codec.specs.Flat.{if_ends}
use Rattle.segment_codec.proofs.Tables.{follow-rising, follow-within, rising-at}
use Rattle.flat_segments.specs.Maximal.{cut}
use Rattle.segment_rules.specs.Levels.{complete, level_segments}
use Rattle.segment_levels.specs.Endings.{level_ending}
use Rattle.segment_levels.specs.Whole.{IsWholeTo, Grows}
use Rattle.segment_levels.proofs.Heading.{in-take}
use Rattle.segment_levels.proofs.Leveled.{leveled, level-grows}
use Rattle.segment_levels.proofs.Reading.{levels-nest}
use Rattle.payload_tables.proofs.Lists.{same-self}

-- ---- segments that are cut

none-cut : (below first end : ℕ) (xs : List Segment) → Follow first end xs → below ≤ first → cut below xs ≡ []
none-cut below first end [] f le = refl
none-cut below first end (s ∷ more) f le =
    let low = f.0 in let order = f.1 in
    ap (λ b. cond b (record s { high = min s.high (below - 1) } ∷ cut below more) (cut below more)) (le-ltb s.low below (omega (arith, low, le)))
    ∙ none-cut below (s.high + 1) end more f.2 (omega (arith, order, le))

complete-one : (b : Bool) (s : Segment) (more : List Segment) → more ≡ [] → complete (cond b (s ∷ more) more) ≡ []
complete-one true s more e = ap (λ l. complete (s ∷ l)) e
complete-one false s more e = ap complete e

complete-more : (s t : Segment) (more : List Segment) → complete (s ∷ t ∷ more) ≡ s ∷ complete (t ∷ more)
complete-more s t more = let n : length (s ∷ t ∷ more) - 1 ≡ suc (length (t ∷ more) - 1) = omega arith in ap (λ k. take k (s ∷ t ∷ more)) n

-- what is complete below the cut is complete
pub grows-cut : (below first end : ℕ) (xs : List Segment) → Follow first end xs → Grows (cut below xs) xs
grows-cut below first end [] f = record { more = []; is = refl }
grows-cut below first end (s ∷ []) f = record { more = complete (s ∷ []); is = ap (λ l. l ++ complete (s ∷ [])) (sym (complete-one (nat_lt s.low below) (record s { high = min s.high (below - 1) }) [] refl)) }
grows-cut below first end (s ∷ t ∷ more) f = by_test (grows-cut below (s.high + 1) end (t ∷ more) f.2) (nat_lt t.low below) refl
  where
    by_test : Grows (cut below (t ∷ more)) (t ∷ more) → (b : Bool) → nat_lt t.low below ≡ b → Grows (cut below (s ∷ t ∷ more)) (s ∷ t ∷ more)
    by_test g false e =
        let le = ltb-false t.low below e in let low = f.2.0 in
        let none = none-cut below (s.high + 1) end (t ∷ more) f.2 (omega (arith, le, low)) in
        record { more = complete (s ∷ t ∷ more); is = ap (λ l. l ++ complete (s ∷ t ∷ more)) (sym (complete-one (nat_lt s.low below) (record s { high = min s.high (below - 1) }) (cut below (t ∷ more)) none)) }
    by_test g true e =
        let lt = ltb-true t.low below e in let low = f.2.0 in let order = f.1 in let first-low = f.0 in
        let t-cut = record t { high = min t.high (below - 1) } in
        let same : min s.high (below - 1) ≡ s.high = omega (arith, lt, low) in
        let rest : cut below (t ∷ more) ≡ t-cut ∷ cut below more = ap (λ b. cond b (t-cut ∷ cut below more) (cut below more)) e in
        let all : cut below (s ∷ t ∷ more) ≡ s ∷ t-cut ∷ cut below more =
        ap (λ b. cond b (record s { high = min s.high (below - 1) } ∷ cut below (t ∷ more)) (cut below (t ∷ more))) (lt-ltb s.low below (omega (arith, lt, low, order, first-low)))
        ∙ ap₂ (λ n l. record s { high = n } ∷ l) same rest in
        record {
          more = g.more;
          is = complete-more s t more ∙ ap (λ l. s ∷ l) (g.is ∙ ap (λ l. complete l ++ g.more) rest) ∙ ap (λ l. l ++ g.more) (sym (complete-more s t-cut (cut below more)))
              ∙ ap (λ l. complete l ++ g.more) (sym all);
        }

-- a segment of a level ends below the end of the flat ones
level-within : (flats : List Segment) (end : ℕ) → Follow 0 end flats → (level : ℕ) (s : Segment) → IsIn s (level_segments flats level) → s.high < end
level-within flats end f zero s i = (follow-within 0 end flats f s (in-take (length flats - 1) flats s i)).2
level-within flats end f (suc level) s i =
    let t = levels-nest flats level s i in
    subst (λ n. n < end) t.2 (level-within flats end f level t.0 t.1)

-- what ends in a level of the segments that are cut ends in that level of all
pub level-ends : (flats : List Segment) (end below : ℕ) → IsWholeTo flats end → Follow 0 below (cut below flats) → (level : ℕ) (s : Segment) → suc level ≤ 7 → IsIn s (level_segments (cut below flats) (suc level))
    → level_ending flats below (suc level) s.high ≡ Some s
level-ends flats end below w f level s known i =
    let grown = level-grows (cut below flats) flats (grows-cut below 0 end flats w.follow) (suc level) in
    let there = subst (IsIn s) (sym grown.1) (in-left s (level_segments (cut below flats) (suc level)) grown.0 i) in
    let l = leveled flats end w (suc level) in
    let order = (follow-within 0 l.last (level_segments flats (suc level)) l.follow s there).1 in
    let at = rising-at (level_segments flats (suc level)) s.high s (follow-rising 0 l.last (level_segments flats (suc level)) l.follow) there (order, le_refl _) in
    ap₂ (λ a b. if a && b then if_ends s.high (segment_at (level_segments flats (suc level)) s.high) else None) (lt-ltb s.high below (level-within (cut below flats) below f (suc level) s i)) (le-leb (suc level) 7 known)
    ∙ ap (if_ends s.high) at ∙ ap (λ b. if b then Some s else None) (same-self s.high)
