use Rattle.std.proofs.Common.{◌≡◌, ◌∙◌, ◌<◌, ◌+◌, ◌^◌, ℕ, length, get_or, sym, subst, ap, arith, nat_eq, if◌then◌else◌}
use Rattle.id_groups.specs.Lists.{is_in}
use Rattle.commit_graph.specs.Ids.{place_of}
use Rattle.assign_ids.specs.Numbers.{AreBelow}
use Rattle.change_parts.specs.Moves.{rest_of}
use Rattle.change_parts.proofs.Marking.{moved-is, rest-below, rest-short}
use Rattle.flush_plan.proofs.numbers.ids_of.Goals as goal

pub returns-clause-ids : goal.returns-clause-ids
returns-clause-ids c = λ k lt.
    let n = c.args.n in
    let len = c.in_ok-ids.ensures in
    let len2 = c.numbered-ids.ensures.len in
    let first = c.numbered-ids.ensures.ids k (subst (λ m. k < m) (sym len) lt) in
    let second = c.numbered-ids-2.ensures.ids k (subst (λ m. k < m) (sym (len2 ∙ len)) lt) in
    second
    ∙ ap (λ x. if is_in nat_eq k c.args.moved.now.order.now then c.args.moved.now.before + place_of nat_eq k c.args.moved.now.order.now else x)
    (first ∙ ap (λ l. if is_in nat_eq k l then 2 ^ 56 + place_of nat_eq k l else get_or c.in_ok-ids.ids.items k 0) c.requires.rest)
    ∙ moved-is c.args.moved.now.before n k (get_or c.in_ok-ids.ids.items k 0) c.args.moved.now.order.now lt

pub numbered-ids-requires-clause-below : goal.numbered-ids-requires-clause-below
numbered-ids-requires-clause-below c =
    subst (AreBelow (length c.in_ok-ids.ids.items)) (sym c.requires.rest) (subst (λ m. AreBelow m (rest_of c.args.n c.args.moved.now.order.now)) (sym c.in_ok-ids.ensures) (rest-below c.args.n c.args.moved.now.order.now))

pub numbered-ids-requires-clause-room : goal.numbered-ids-requires-clause-room
numbered-ids-requires-clause-room c =
    let len : length c.args.moved.now.rest.now ≡ length (rest_of c.args.n c.args.moved.now.order.now) = ap (length {A = ℕ}) c.requires.rest in
    let short = rest-short c.args.n c.args.moved.now.order.now in
    let fits = c.ranges.n.fits in omega (arith, len, short, fits)
