use Rattle.std.proofs.Common.{◌≡◌, List, Option, Some, length, take, arith, ap, sym, ◌∙◌, length-take}
use Rattle.std.proofs.lemmas.List.{take_at}
use Rattle.id_groups.specs.Name.{Name}
use Rattle.batch_codec.specs.Reading.{names_read}
use Rattle.batch_codec.proofs.Entries.{names-length}
use Rattle.remote_pipe.proofs.ItemsInTurn.{if-none}
use Rattle.remote_pipe.proofs.BodiesRead.{named-read, named-none, named-size}
use Rattle.remote_pipe.proofs.reading.read_named.Goals as goal
use Rattle.remote_pipe.proofs.reading.read_named.Goals.{then-count-out-via-then-count-out, then-count-out-via-else-count-out+then-rest-count}

pub returns-in_err-count-clause-none : goal.returns-in_err-count-clause-none
returns-in_err-count-clause-none c = if-none c.from_residual.result _ (λ names few e. named-none c.args.bytes.now names c.in_err-count.ensures.exact e)

pub returns-then-count-out-clause-none : goal.returns-then-count-out-clause-none
returns-then-count-out-clause-none c = λ names few e.
    let s = named-size c.args.bytes.now c.in_ok-count.rest.now c.in_ok-count.count names c.in_ok-count.ensures.exact e in
    let n = s.0 in
    elim c.then-count-out.branch [ then-count-out-via-then-count-out w ↦ (let lt = w.if-count-out.true in omega (arith, lt, n, few)) | then-count-out-via-else-count-out+then-rest-count w ↦ w.if-rest-count.true s.1 ]

pub returns-clause-named : goal.returns-clause-named
returns-clause-named c =
    let n = c.in_ok-count.count in
    let many : length (take n c.args.out.now) ≡ n = omega (arith, length-take {A = Name} n c.args.out.now, c.if-count-out.false) in
    let put = c.put_names.ensures ∙ ap (λ k. names_read k c.in_ok-count.rest.now) many in
    let size : length c.put_names.new.out ≡ n = ap (length {A = Name}) put ∙ names-length n c.in_ok-count.rest.now in
    named-read c.args.bytes.now c.in_ok-count.rest.now n c.in_ok-count.ensures.exact c.if-rest-count.false
    ∙ ap (λ l. (let o : Option (List Name) = Some l in o)) (sym put ∙ sym (take_at c.put_names.new.out _ n size))
