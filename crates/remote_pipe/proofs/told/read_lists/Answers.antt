use Rattle.std.proofs.Common.{◌≡◌, ap, ◌∙◌}
use Rattle.std.proofs.lemmas.Result.{IfOk-weaker}
use Rattle.remote_rules.specs.CloneData.{CloneData}
use Rattle.remote_pipe.proofs.ListsRead.{no-segments, no-names, no-heads, all-lists}
use Rattle.remote_pipe.proofs.told.read_lists.Goals as goal

pub returns-in-Err-clause-none : goal.returns-in-Err-clause-none
returns-in-Err-clause-none c = λ e. no-segments c.args.bytes.now (c.in-Err.ensures.none e)

pub returns-in-Err-read_knowns-clause-none : goal.returns-in-Err-read_knowns-clause-none
returns-in-Err-read_knowns-clause-none c = λ e. no-names c.args.bytes.now c.in-Ok.rest.now _ c.in-Ok.ensures.found (c.in-Err-read_knowns.ensures.none e)

pub returns-clause-found : goal.returns-clause-found
returns-clause-found c =
    let s = c.read_segments.new.told.segments in
    let n = c.read_knowns.new.told.names in
    let h = c.read_heads.new.told.heads in
    let whole : c.read_heads.new.told ≡ record { segments = s; names = n; heads = h } =
    c.read_heads.ensures.only ∙ ap (λ (t : CloneData). (let z : CloneData = record { segments = t.segments; names = t.names; heads = h } in z)) c.read_knowns.ensures.only in
    IfOk-weaker c.read_heads.result _ _ (λ rest e. all-lists c.args.bytes.now c.in-Ok.rest.now c.in-Ok-read_knowns.rest.now rest.now s n h c.read_heads.new.told c.in-Ok.ensures.found c.in-Ok-read_knowns.ensures.found e whole)
    c.read_heads.ensures.found

pub returns-clause-none : goal.returns-clause-none
returns-clause-none c = λ e. no-heads c.args.bytes.now c.in-Ok.rest.now c.in-Ok-read_knowns.rest.now _ _ c.in-Ok.ensures.found c.in-Ok-read_knowns.ensures.found (c.read_heads.ensures.none e)
