use Rattle.std.proofs.Common.{◌≡◌, ℕ, suc, List, [], refl, sym, ap, arith, subst}
use Rattle.id_groups.specs.Lists.{IsIn}
use Rattle.segment_codec.specs.Record.{Segment}
use Rattle.segment_rules.specs.Levels.{level_segments, count_grouped, groups}
use Rattle.segment_levels.specs.Kept.{PlainGroups, IsLevelOf}
use Rattle.high_segments.proofs.levels.Levels.empty.Goals as goal

abbrev no-flats : List Segment
no-flats = []

-- no level of no segments has any
none : (level : ℕ) (l : PlainGroups) → level_segments no-flats level ≡ [] → l ≡ record { level = suc level; groups = []; bytes = []; end = 0; grouped = 0; count = 0 } → IsLevelOf no-flats level l
none level l e is =
    let above : level_segments no-flats (suc level) ≡ [] = ap (groups (suc level) 0) e in
    subst (IsLevelOf no-flats level) (sym is)
    (record {
      number = refl;
      follow = subst (λ (z : List Segment). Rattle.segment_codec.specs.Table.Follow 0 0 z) (sym above) refl;
      count = ap Rattle.std.proofs.Common.length (sym above);
      grouped = ap (count_grouped 0) (sym e);
      read = refl;
      rise = omega arith;
      kept = λ s i. absurd i;
      each = λ s i. absurd (subst (λ z. IsIn s z) above i);
    })

pub returns : goal.returns
returns c = record {
  count = refl;
  levels = (
    none 0 c.empty.result refl c.empty.ensures,
    (
      none 1 c.empty-2.result refl c.empty-2.ensures,
      (
        none 2 c.empty-3.result refl c.empty-3.ensures,
        (
          none 3 c.empty-4.result refl c.empty-4.ensures,
          (none 4 c.empty-5.result refl c.empty-5.ensures, (none 5 c.empty-6.result refl c.empty-6.ensures, (none 6 c.empty-7.result refl c.empty-7.ensures, refl))),
        ),
      ),
    ),
  );
}
