use Rattle.std.proofs.Common.{◌∙◌, ap, sym}
use Rattle.flat_segments.specs.Kept.{KeptFlats}
use Rattle.flat_segments.specs.Runs.{do_rise}
use Rattle.flat_segments.proofs.Standing.{table-rises, viewed, alone-flats, alone-begin, alone-lawful, alone-few}
use Rattle.flat_segments.proofs.table.FlatTable.view.Goals as goal

pub count_below-count-requires : goal.count_below-count-requires
count_below-count-requires c =
    let r = c.requires.records in
    let same = c.deref.ensures.value ∙ ap (λ (k : KeptFlats). k.entries) c.self.view_is in
    (c.args.self.now.end, ap (do_rise c.args.self.now.end) same ∙ table-rises c.args.bytes.now c.are_countable.ensures c.args.self.now r.0 r.1 r.2 c.args.below c.requires.below)

pub invariant_of-result : goal.invariant_of-result
invariant_of-result c =
    let r = c.requires.records in
    let same = c.deref-2.ensures.value ∙ ap (λ (k : KeptFlats). k.entries) c.self.view_is in
    record { read = (viewed c.args.bytes.now c.are_countable.ensures c.args.self.now r.0 r.1 r.2 c.args.below c.requires.below c.count_below-count.result c.deref-2.result.now c.deref.result.now same (c.deref.ensures.value ∙ ap (λ (k : KeptFlats). k.entries) c.self.view_is) c.count_below-count.ensures.below).run }

pub invariant_of-result-2 : goal.invariant_of-result-2
invariant_of-result-2 c =
    let r = c.requires.records in
    let same = c.deref-2.ensures.value ∙ ap (λ (k : KeptFlats). k.entries) c.self.view_is in
    let run = viewed c.args.bytes.now c.are_countable.ensures c.args.self.now r.0 r.1 r.2 c.args.below c.requires.below c.count_below-count.result c.deref-2.result.now c.deref.result.now same (c.deref.ensures.value ∙ ap (λ (k : KeptFlats). k.entries) c.self.view_is) c.count_below-count.ensures.below in
    record {
      lawful = alone-lawful c.args.bytes.now c.are_countable.ensures c.args.self.now r.0 r.1 r.2 c.args.below c.requires.below _ run.flats_are _ _ _ _ _ _ c.none.ensures.entries c.none-2.ensures.entries c.none-2.ensures.end;
      other_ids = alone-begin _ _ _ _ c.none.ensures.entries c.none.ensures.end;
      pending_ids = alone-begin _ _ _ _ c.none-2.ensures.entries (c.none-2.ensures.end ∙ sym c.none.ensures.end);
      few = alone-few c.args.self.now r.0 c.count_below-count.result c.deref-2.result.now _ _ r.1 same c.none.ensures.entries c.none-2.ensures.entries;
    }

pub returns-clause-flats : goal.returns-clause-flats
returns-clause-flats c = λ records is stand.
    let same = c.deref-2.ensures.value ∙ ap (λ (k : KeptFlats). k.entries) c.self.view_is in
    let run = viewed c.args.bytes.now c.are_countable.ensures c.args.self.now records is stand c.args.below c.requires.below c.count_below-count.result c.deref-2.result.now c.deref.result.now same (c.deref.ensures.value ∙ ap (λ (k : KeptFlats). k.entries) c.self.view_is) c.count_below-count.ensures.below in
    alone-flats _ _ _ _ _ _ _ _ run.flats_are c.none.ensures.entries c.none-2.ensures.entries
