use Rattle.std.proofs.Common.{◌+◌, ◌-◌, ◌∷◌, [], length, refl, sym, ap, ◌∙◌, arith, length-append}
use Rattle.batch_codec.specs.Reading.{piece_at}
use Rattle.remote_pipe.specs.Reading.{items_at}
use Rattle.remote_rules.specs.CloneData.{CloneData}
use Rattle.remote_pipe.proofs.ItemsInTurn.{put_front, one-more, none-more, all-read, counted-none, counted-some}
use Rattle.remote_pipe.proofs.told.read_heads.Goals as goal

pub returns-in_default-clause-none : goal.returns-in_default-clause-none
returns-in_default-clause-none c = λ _. counted-none (piece_at 20) c.args.bytes.now c.in_default.ensures.exact

pub heads-init : goal.heads-init
heads-init c = record {
  len = ap length c.requires;
  only = refl;
  read = counted-some (piece_at 20) c.args.bytes.now c.in-Some.rest.now c.in-Some.count c.args.told.now.heads c.in-Some.ensures.exact c.requires;
}

pub returns-in-Err-clause-none : goal.returns-in-Err-clause-none
returns-in-Err-clause-none c = λ e.
    let inv = c.heads.invariant in
    none-more (piece_at 20) _ c.heads.told.heads c.in-Some.count c.heads._head c.heads.rest.now c.heads-test.true inv.read (c.in-Err.ensures.none e)

pub heads-preserved : goal.heads-preserved
heads-preserved c =
    let inv = c.heads.invariant in
    let f = c.in-Ok.ensures.found in
    record {
      len = let l = inv.len in ap length f.2 ∙ omega (arith, l, length-append c.heads.told.heads (f.0 ∷ []));
      only = c.read_head.ensures.only ∙ ap (λ (t : CloneData). (let z : CloneData = record { segments = t.segments; names = t.names; heads = c.read_head.new.told.heads } in z)) inv.only;
      read = one-more (piece_at 20) _ c.heads.told.heads c.in-Some.count c.heads._head c.heads.rest.now c.in-Ok.behind.now f.0 c.heads-test.true inv.read f.1
          ∙ ap (λ l. put_front l (items_at (piece_at 20) (c.in-Some.count - (c.heads._head + 1)) c.in-Ok.behind.now)) (sym f.2);
    }

pub returns-clause-found : goal.returns-clause-found
returns-clause-found c =
    let inv = c.heads.invariant in
    let end = c.heads-test.false in
    let most = c.heads.auto._head-end in
    all-read (piece_at 20) _ c.heads.told.heads c.in-Some.count c.heads._head c.heads.rest.now (omega (arith, end, most)) inv.read
