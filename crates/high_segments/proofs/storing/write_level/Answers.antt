use Rattle.std.proofs.Common.{◌∙◌, ◌++◌, flat_map, ap, sym, length}
use Rattle.segment_codec.specs.Record.{segment_bytes}
use Rattle.high_segments.proofs.Places.{segments-length}
use Rattle.high_segments.proofs.StoringLemmas.{new-row}
use Rattle.high_segments.proofs.storing.write_level.Goals as goal

pub row_from-requires-clause-held : goal.row_from-requires-clause-held
row_from-requires-clause-held c = let r = c.requires.new in (r.2.top, r.0, r.1, r.2.at, r.2.from_there)

pub write_row-requires-clause-sound : goal.write_row-requires-clause-sound
write_row-requires-clause-sound c =
    let r = c.requires.new in (new-row c.args.levels.now c.args.k r.0 r.1 c.args.mark.end r.2 c.in_ok-run.run' (c.in_ok-run.ensures r.2.top r.0 r.1 r.2.at r.2.from_there)).sound

pub write_row-requires-clause-spelled : goal.write_row-requires-clause-spelled
write_row-requires-clause-spelled c =
    let r = c.requires.new in (new-row c.args.levels.now c.args.k r.0 r.1 c.args.mark.end r.2 c.in_ok-run.run' (c.in_ok-run.ensures r.2.top r.0 r.1 r.2.at r.2.from_there)).spelled

pub returns-clause-written : goal.returns-clause-written
returns-clause-written c = λ segments from h.
    c.in_ok-write_row.ensures
    ∙ ap (λ z. c.args.out.now.items ++ flat_map segment_bytes z)
    (new-row c.args.levels.now c.args.k segments from c.args.mark.end h c.in_ok-run.run' (c.in_ok-run.ensures h.top segments from h.at h.from_there)).are

pub returns-clause-count : goal.returns-clause-count
returns-clause-count c = λ segments from h.
    c.len.ensures ∙ sym (segments-length c.in_ok-run.run')
    ∙ ap length (new-row c.args.levels.now c.args.k segments from c.args.mark.end h c.in_ok-run.run' (c.in_ok-run.ensures h.top segments from h.at h.from_there)).are
