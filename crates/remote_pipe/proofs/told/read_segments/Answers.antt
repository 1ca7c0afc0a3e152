use Rattle.std.proofs.Common.{◌+◌, ◌-◌, ◌∷◌, [], length, refl, sym, ap, ◌∙◌, arith, length-append}
use Rattle.remote_pipe.specs.Reading.{items_at, segment_at}
use Rattle.remote_rules.specs.CloneData.{CloneData}
use Rattle.remote_pipe.proofs.ItemsInTurn.{put_front, one-more, none-more, all-read, counted-none, counted-some}
use Rattle.remote_pipe.proofs.told.read_segments.Goals as goal

pub returns-in_default-clause-none : goal.returns-in_default-clause-none
returns-in_default-clause-none c = λ _. counted-none segment_at c.args.bytes.now c.in_default.ensures.exact

pub segments-init : goal.segments-init
segments-init c = record {
  len = ap length c.requires;
  only = refl;
  read = counted-some segment_at c.args.bytes.now c.in-Some.rest.now c.in-Some.count c.args.told.now.segments c.in-Some.ensures.exact c.requires;
}

pub returns-in-Err-clause-none : goal.returns-in-Err-clause-none
returns-in-Err-clause-none c = λ e.
    let inv = c.segments.invariant in
    none-more segment_at _ c.segments.told.segments c.in-Some.count c.segments._segment c.segments.rest.now c.segments-test.true inv.read (c.in-Err.ensures.none e)

pub segments-preserved : goal.segments-preserved
segments-preserved c =
    let inv = c.segments.invariant in
    let f = c.in-Ok.ensures.found in
    record {
      len = let l = inv.len in ap length f.2 ∙ omega (arith, l, length-append c.segments.told.segments (f.0 ∷ []));
      only = c.read_segment.ensures.only ∙ ap (λ (t : CloneData). (let z : CloneData = record { segments = c.read_segment.new.told.segments; names = t.names; heads = t.heads } in z)) inv.only;
      read = one-more segment_at _ c.segments.told.segments c.in-Some.count c.segments._segment c.segments.rest.now c.in-Ok.behind.now f.0 c.segments-test.true inv.read f.1
          ∙ ap (λ l. put_front l (items_at segment_at (c.in-Some.count - (c.segments._segment + 1)) c.in-Ok.behind.now)) (sym f.2);
    }

pub returns-clause-found : goal.returns-clause-found
returns-clause-found c =
    let inv = c.segments.invariant in
    let end = c.segments-test.false in
    let most = c.segments.auto._segment-end in
    all-read segment_at _ c.segments.told.segments c.in-Some.count c.segments._segment c.segments.rest.now (omega (arith, end, most)) inv.read
