use Rattle.segment_codec.specs.Lent.{segment_of, parents_left}
use Rattle.segment_levels.specs.Kept.{segments_in}
use Rattle.high_segments.proofs.Noting.{notes-begin, notes-next, notes-end}
use Rattle.high_segments.proofs.children.note_parents.Goals as goal

pub parents-init : goal.parents-init
parents-init c = notes-begin (segments_in c.args.below.now) c.args.place (segment_of c.args.segment).parents (parents_left c.parents-rest.result) c.args.note.now c.parents-rest.ensures

pub parents-preserved : goal.parents-preserved
parents-preserved c =
    notes-next (segments_in c.args.below.now) c.args.place (segment_of c.args.segment).parents (parents_left c.parents.rest) (parents_left c.next.new.self) c.in-Some.parent c.number.result c.args.note.now c.parents.note c.note_parent.new.note
    c.parents.invariant c.in-Some.ensures.steps c.number.ensures.number c.note_parent.ensures

pub returns : goal.returns
returns c = notes-end (segments_in c.args.below.now) c.args.place (segment_of c.args.segment).parents (parents_left c.parents.rest) c.args.note.now c.parents.note c.parents.invariant c.in_default.ensures.steps.0
