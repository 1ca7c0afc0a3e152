use Rattle.std.proofs.Common.{◌≡◌, ◌++◌, take}
use Rattle.batch_codec.specs.Payload.{Payload}
use Rattle.batch_codec.specs.Building.{IsBuilt}
use Rattle.high_segments.specs.Views.{flats_in}
use Rattle.log_compact.specs.Sections.{masters_in, others_in}
use Rattle.log_compact.proofs.whole.add_flats.Given as goal

abbrev pub invariant-flats : goal.invariant-flats
invariant-flats l = record {
  built : (p : Payload) → IsBuilt l.fn.build p → IsBuilt l.build (record p { master = p.master ++ masters_in (take l.k (flats_in l.view)); others = p.others ++ others_in (take l.k (flats_in l.view)) });
  count : l.build.other_count ≡ l.fn.build.other_count;
}
