use Rattle.std.proofs.Common.{◌≡◌, ◌+◌, ◌<◌, ◌^◌, Bool, false, not, length, filter, flat_map, map, ap, ◌∙◌, subst, sym}
use Rattle.std.specs.Prelude.{slice_index_or}
use Rattle.std.specs.List.{AllByRecursion, range_with_len}
use Rattle.segment_codec.specs.Record.{Segment}
use Rattle.segment_codec.specs.Table.{Follow}
use Rattle.remote_rules.specs.CloneData.{CloneData, KnownName}
use Rattle.remote_rules.specs.Known.{master_world}
use Rattle.remote_rules.specs.Honest.{named_ids}
use Rattle.remote_answers.specs.Marks.{AreMarks, IsWithin, stored_by}
use Rattle.remote_answers.proofs.Cloned.{masters-within, cloned-is, highs-within}
use Rattle.remote_answers.proofs.cloning.clone_of.Goals as goal

pub stored_marks-requires : goal.stored_marks-requires
stored_marks-requires g c =
    let rows = c.requires.0 in
    let m = c.requires.1 in
    let count = c.count_of-count.ensures rows m.0 in
    let put = c.in_ok-put_segments.ensures.segments m.0.masters m.0.others (2 ^ 56 + m.0.other_count) m.0.parts (subst (λ n. Follow 0 n m.0.masters) (sym count) m.0.follow) m.0.behind in
    let within = masters-within (g.T.SegmentTable.flats c.args.table.now) (g.met.T.SegmentTable.lawful c.args.table.now) rows m.0 in
    let held = ap (λ (d : CloneData). d.segments) c.given.view_is ∙ put in
    subst (λ n. AllByRecursion (IsWithin n) c.given.inside.segments) (sym count) (subst (AllByRecursion (IsWithin (length rows))) (sym held) within)

pub parent_marks-requires : goal.parent_marks-requires
parent_marks-requires g c =
    let rows = c.requires.0 in
    let m = c.requires.1 in
    let count = c.count_of-count.ensures rows m.0 in
    let put = c.in_ok-put_segments.ensures.segments m.0.masters m.0.others (2 ^ 56 + m.0.other_count) m.0.parts (subst (λ n. Follow 0 n m.0.masters) (sym count) m.0.follow) m.0.behind in
    let within = masters-within (g.T.SegmentTable.flats c.args.table.now) (g.met.T.SegmentTable.lawful c.args.table.now) rows m.0 in
    let held = ap (λ (d : CloneData). d.segments) c.given-2.view_is ∙ c.in_ok-put_names.ensures.segments ∙ put in
    subst (λ n. AllByRecursion (IsWithin n) c.given-2.inside.segments) (sym count) (subst (AllByRecursion (IsWithin (length rows))) (sym held) within)

pub put_heads-requires-clause-highs : goal.put_heads-requires-clause-highs
put_heads-requires-clause-highs g c =
    let rows = c.requires.0 in
    let m = c.requires.1 in
    let count = c.count_of-count.ensures rows m.0 in
    let put = c.in_ok-put_segments.ensures.segments m.0.masters m.0.others (2 ^ 56 + m.0.other_count) m.0.parts (subst (λ n. Follow 0 n m.0.masters) (sym count) m.0.follow) m.0.behind in
    let within = masters-within (g.T.SegmentTable.flats c.args.table.now) (g.met.T.SegmentTable.lawful c.args.table.now) rows m.0 in
    let size = ap (length {A = Bool}) c.deref-2.ensures.value ∙ c.in_ok-parents.ensures.size ∙ count in
    subst (λ n. AllByRecursion (λ (s : Segment). s.high < n) c.put_names.new.given.segments) (sym size) (subst (AllByRecursion (λ (s : Segment). s.high < length rows)) (sym (c.in_ok-put_names.ensures.segments ∙ put)) (highs-within (length rows) m.0.masters within))

pub returns : goal.returns
returns g c = λ rows m.
    let count = c.count_of-count.ensures rows m.0 in
    let put = c.in_ok-put_segments.ensures.segments m.0.masters m.0.others (2 ^ 56 + m.0.other_count) m.0.parts (subst (λ n. Follow 0 n m.0.masters) (sym count) m.0.follow) m.0.behind in
    let within = masters-within (g.T.SegmentTable.flats c.args.table.now) (g.met.T.SegmentTable.lawful c.args.table.now) rows m.0 in
    let first = ap (λ (d : CloneData). d.segments) c.given.view_is ∙ put in
    let second = ap (λ (d : CloneData). d.segments) c.given-2.view_is ∙ c.in_ok-put_names.ensures.segments ∙ put in
    let stored = c.in_ok-stored.stored.items in
    let parents = c.in_ok-parents.parents.items in
    cloned-is rows m.0.masters m.0.flat within c.put_heads.new.given stored parents
    (c.in_ok-put_heads.ensures.segments ∙ c.in_ok-put_names.ensures.segments ∙ put)
    (subst (λ n. AreMarks n (flat_map stored_by m.0.masters) stored) count (subst (λ l. AreMarks c.count_of-count.result (flat_map stored_by l) stored) first c.in_ok-stored.ensures))
    (subst (λ n. AreMarks n (flat_map (λ (s : Segment). s.parents) m.0.masters) parents) count (subst (λ l. AreMarks c.count_of-count.result (flat_map (λ (s : Segment). s.parents) l) parents) second c.in_ok-parents.ensures))
    (c.in_ok-put_heads.ensures.names ∙ subst (λ l. c.put_names.new.given.names ≡ named_ids (master_world rows) (filter (λ id. slice_index_or l id false) (range_with_len 0 (length l)))) c.deref.ensures.value (c.in_ok-put_names.ensures.names rows m.1))
    (subst (λ l. c.put_heads.new.given.heads ≡ map (λ (k : KnownName). k.name) (named_ids (master_world rows) (filter (λ id. not (slice_index_or parents id false)) (map (λ (s : Segment). s.high) l)))) (c.in_ok-put_names.ensures.segments ∙ put)
    (subst (λ l. c.put_heads.new.given.heads ≡ map (λ (k : KnownName). k.name) (named_ids (master_world rows) (filter (λ id. not (slice_index_or l id false)) (map (λ (s : Segment). s.high) c.put_names.new.given.segments)))) c.deref-2.ensures.value (c.in_ok-put_heads.ensures.heads rows m.1)))
