use Rattle.std.proofs.Common.{ℕ, List, [], ◌++◌, ◌≡◌, ◌<◌, ◌^◌, map, sym, ◌∙◌, ap, subst, rules}
use Rattle.std.proofs.lemmas.Result.{err_from_is_err_and}
use Rattle.outside.specs.Told.{WhereTold, TookFront}
use Rattle.outside.proofs.ToldLemmas.{WhereTold-join}
use Rattle.id_groups.specs.Name.{hex_text}
use Rattle.store_queries.specs.Names.{names_left, name_of}
use Rattle.command_lines.specs.Sending.{Sends, lines_text}
use Rattle.command_lines.proofs.PutLemmas.{count-short, count_lines, names-part, names-all, sends-more, sends-front, sends-puts}
use Rattle.command_lines.proofs.put.put_names.Goals as goal

pub returns-in_err-put_behind-clause-bytes : goal.returns-in_err-put_behind-clause-bytes
returns-in_err-put_behind-clause-bytes g c =
    let p = err_from_is_err_and c.from_residual.result c.from_residual.ensures.1 in
    let more = names-part c.args.count (names_left c.args.names) (map name_of c.loop-name.yielded) (names_left c.loop-name.name-iterator) c.loop-name.invariant.names in
    rw p.1 (WhereTold-join (g.O.Sink.taken c.args.output.now) (g.O.Sink.taken c.loop-name.output) (g.O.Sink.taken c.put_behind.new.output) _ _ _
    (λ x y z s t. subst (λ all. TookFront all x z) (sym more.1) (sends-front _ _ more.0 x y z s t))
    c.loop-name.invariant.told c.in_err-put_behind.ensures.bytes)

pub returns-in_err-put_behind-2-clause-bytes : goal.returns-in_err-put_behind-2-clause-bytes
returns-in_err-put_behind-2-clause-bytes g c =
    let p = err_from_is_err_and c.from_residual-in_err-put_behind-2.result c.from_residual-in_err-put_behind-2.ensures.1 in
    let more = names-part c.args.count (names_left c.args.names) (map name_of c.loop-name.yielded) (names_left c.loop-name.name-iterator) c.loop-name.invariant.names in
    rw p.1 (WhereTold-join (g.O.Sink.taken c.args.output.now) (g.O.Sink.taken c.loop-name.output) (g.O.Sink.taken c.put_behind-2.new.output) _ _ _
    (λ x y z s t. subst (λ all. TookFront all x z) (sym more.1) (sends-front _ _ more.0 x y z s t))
    c.loop-name.invariant.told c.in_err-put_behind-2.ensures.bytes)

pub returns-clause-bytes : goal.returns-clause-bytes
returns-clause-bytes g c =
    let names = names_left c.args.names in
    let none : names_left c.loop-name.name-iterator ≡ [] = search rules in
    let sent = lines_text (map hex_text (map name_of c.loop-name.yielded)) in
    let line = lines_text (count_lines c.args.count) in
    let waits = c.in_ok-put_behind-2.ensures.bytes in
    let pushed : c.put_behind-2.new.block.items ≡ waits.0 ++ line = waits.1 ∙ ap (λ (t : List ℕ). waits.0 ++ t) c.number_line.ensures in
    let told : WhereTold (g.O.Sink.taken c.args.output.now) (g.O.Sink.taken c.put_behind-2.new.output) (Sends (sent ++ line) c.put_behind-2.new.block.items) =
    WhereTold-join (g.O.Sink.taken c.args.output.now) (g.O.Sink.taken c.loop-name.output) (g.O.Sink.taken c.put_behind-2.new.output)
    (Sends sent c.loop-name.block.items) (Sends c.loop-name.block.items waits.0) (Sends (sent ++ line) c.put_behind-2.new.block.items)
    (λ x y z s t. sends-more sent c.loop-name.block.items waits.0 c.put_behind-2.new.block.items line x y z s t pushed)
    c.loop-name.invariant.told waits.2 in
    let puts = rw c.as_slice.ensures.value at c.put.ensures.bytes in
    rw (names-all c.args.count names (map name_of c.loop-name.yielded) (names_left c.loop-name.name-iterator) c.loop-name.invariant.names none)
    (sends-puts (g.O.Sink.taken c.args.output.now) (g.O.Sink.taken c.put_behind-2.new.output) (g.O.Sink.taken c.put.new.self) c.put.result (sent ++ line) c.put_behind-2.new.block.items told puts)

pub put_behind-requires-2 : goal.put_behind-requires-2
put_behind-requires-2 g c =
    let bound : c.args.count < 2 ^ 64 = search rules in
    rw c.number_line.ensures (count-short c.args.count bound)
