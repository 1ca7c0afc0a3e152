use Rattle.std.proofs.Common.{◌≡◌, ◌+◌, ◌≤◌, arith, ℕ, length, sym, subst, ap, rules, le_refl, OnOk}
use Rattle.std.specs.Prelude.{◌↔◌}
use Rattle.segment_codec.specs.Table.{IsHeld}
use Rattle.span_set.specs.Members.{IsMember}
use Rattle.ancestor_query.specs.Graph.{table_graph}
use Rattle.set_expr.specs.declared.words.Call.TheVariants as calls
use Rattle.set_expr.specs.declared.tree.Tree.{Tree}
use Rattle.set_expr.specs.Expr.{One, Of, commits_in}
use Rattle.set_expr.specs.Ids.{with_ids}
use Rattle.set_expr.specs.Meaning as means
use Rattle.set_expr.specs.Tree.{tree_in}
use Rattle.set_query.specs.Pairs.{whole_of}
use Rattle.set_query.proofs.Ids.{member-held, only-of, call-of, set-of}
use Rattle.set_query.proofs.PairLemmas.{whole-is, front-few, paired-parts, paired-members}
use Rattle.set_query.proofs.Alike.{on-ok, both, front-is, back-is, same-call, same-top, top-taken}
use Rattle.set_query.proofs.UnionLemmas.{names-are, reached-are}
use Rattle.set_query.proofs.evaluation.+members_of.Goals as goal

pub made_of-requires : goal.made_of-requires
made_of-requires g t c =
    (λ x m. member-held (g.T.SegmentTable.flats c.args.table.now) (g.met.T.SegmentTable.lawful c.args.table.now) c.args.ids.now c.requires.held (tree_in c.in-Of.set.value) (subst (λ (tree : Tree). length c.args.ids.now ≡ length (commits_in (tree_in tree))) c.in-Of.is c.requires.count) x (((subst (λ (tree : Tree). (x : ℕ) → IsMember c.in_ok-members-in-Of.members x ↔ means.IsMember (table_graph (g.T.SegmentTable.flats c.args.table.now)) (with_ids (tree_in tree) c.args.ids.now) x) c.deref.ensures c.in_ok-members-in-Of.ensures.members) x).0 m))

pub returns-in_ok-members-in-Of-clause-members : goal.returns-in_ok-members-in-Of-clause-members
returns-in_ok-members-in-Of-clause-members g t c =
    let same = (subst (λ (tree : Tree). (x : ℕ) → IsMember c.in_ok-members-in-Of.members x ↔ means.IsMember (table_graph (g.T.SegmentTable.flats c.args.table.now)) (with_ids (tree_in tree) c.args.ids.now) x) c.deref.ensures c.in_ok-members-in-Of.ensures.members) in
    let held : (x : ℕ) → IsMember c.in_ok-members-in-Of.members x → IsHeld (g.T.SegmentTable.flats c.args.table.now) x = (λ x m. member-held (g.T.SegmentTable.flats c.args.table.now) (g.met.T.SegmentTable.lawful c.args.table.now) c.args.ids.now c.requires.held (tree_in c.in-Of.set.value) (subst (λ (tree : Tree). length c.args.ids.now ≡ length (commits_in (tree_in tree))) c.in-Of.is c.requires.count) x (((subst (λ (tree : Tree). (x : ℕ) → IsMember c.in_ok-members-in-Of.members x ↔ means.IsMember (table_graph (g.T.SegmentTable.flats c.args.table.now)) (with_ids (tree_in tree) c.args.ids.now) x) c.deref.ensures c.in_ok-members-in-Of.ensures.members) x).0 m)) in
    on-ok c.made_of.result _ _ (λ r h x. subst (λ (tree : Tree). IsMember r x ↔ means.IsMember (table_graph (g.T.SegmentTable.flats c.args.table.now)) (with_ids (tree_in tree) c.args.ids.now) x) (sym c.in-Of.is)
    (both (h x) (same-call (g.T.SegmentTable.flats c.args.table.now) (g.met.T.SegmentTable.lawful c.args.table.now) c.in-Of.call (IsMember c.in_ok-members-in-Of.members) (means.IsMember (table_graph (g.T.SegmentTable.flats c.args.table.now)) (with_ids (tree_in c.in-Of.set.value) c.args.ids.now)) same held x))) c.made_of.ensures.members

pub returns-in_ok-members-in-Of-clause-one : goal.returns-in_ok-members-in-Of-clause-one
returns-in_ok-members-in-Of-clause-one g t c = λ name x e i ends.
    let set = tree_in c.deref.result.now in
    let f = subst (λ (tree : Tree). Of c.in-Of.call (tree_in tree) ≡ Of calls.Ancestors (One name)) (sym c.deref.ensures)
    (subst (λ (tree : Tree). tree_in tree ≡ Of calls.Ancestors (One name)) c.in-Of.is e) in
    let one = set-of c.in-Of.call calls.Ancestors set (One name) f in
    subst (λ (n : ℕ). OnOk c.made_of.result (c.made_of.new.steps.taken ≤ n + 8)) (c.in_ok-members-in-Of.ensures.quiet name one)
    (c.made_of.ensures.one x (call-of c.in-Of.call calls.Ancestors set (One name) f)
    (only-of (table_graph (g.T.SegmentTable.flats c.args.table.now)) set name c.args.ids.now x c.in_ok-members-in-Of.members one i c.in_ok-members-in-Of.ensures.members)
    ends)

pub returns-then-is_of_names-clause-members : goal.returns-then-is_of_names-clause-members
returns-then-is_of_names-clause-members g t c =
    let means = names-are (table_graph (g.T.SegmentTable.flats c.args.table.now)) (tree_in c.args.tree.now) c.args.ids.now (c.is_of_names.ensures c.if-is_of_names.true) c.requires.count in
    on-ok c.set_of.result _ _ (λ r h x. both (h x) ((means x).1, (means x).0)) c.set_of.ensures.members

pub returns-then-is_of_ancestors-clause-members : goal.returns-then-is_of_ancestors-clause-members
returns-then-is_of_ancestors-clause-members g t c =
    let means = reached-are (table_graph (g.T.SegmentTable.flats c.args.table.now)) (tree_in c.args.tree.now) c.args.ids.now (c.is_of_ancestors.ensures c.if-is_of_ancestors.true) c.requires.count in
    on-ok c.ancestors_of.result _ _ (λ r h x. both (h x) ((means x).1, (means x).0)) c.ancestors_of.ensures.members

pub name_count-requires : goal.name_count-requires
name_count-requires g t c =
    front-few (tree_in c.args.tree.now) c.paired-pairing.result.0 (tree_in c.paired-pairing.result.1.now) (tree_in c.paired-pairing.result.2.now) 256 (whole-is (tree_in c.args.tree.now) c.in-OfTwo.call c.in-OfTwo.first.value c.in-OfTwo.second.value c.deref-in-OfTwo.result.now c.deref-in-OfTwo-2.result.now (whole_of c.paired-pairing.result.0 (tree_in c.paired-pairing.result.1.now) (tree_in c.paired-pairing.result.2.now)) (ap tree_in c.in-OfTwo.is) c.deref-in-OfTwo.ensures c.deref-in-OfTwo-2.ensures c.paired-pairing.ensures) c.requires.few

pub split_at-requires : goal.split_at-requires
split_at-requires g t c =
    let few = front-few (tree_in c.args.tree.now) c.paired-pairing.result.0 (tree_in c.paired-pairing.result.1.now) (tree_in c.paired-pairing.result.2.now) (length (commits_in (tree_in c.args.tree.now))) (whole-is (tree_in c.args.tree.now) c.in-OfTwo.call c.in-OfTwo.first.value c.in-OfTwo.second.value c.deref-in-OfTwo.result.now c.deref-in-OfTwo-2.result.now (whole_of c.paired-pairing.result.0 (tree_in c.paired-pairing.result.1.now) (tree_in c.paired-pairing.result.2.now)) (ap tree_in c.in-OfTwo.is) c.deref-in-OfTwo.ensures c.deref-in-OfTwo-2.ensures c.paired-pairing.ensures) (le_refl (length (commits_in (tree_in c.args.tree.now)))) in
    omega (arith, few, c.name_count.ensures, c.requires.count)

pub members_of-requires-in-OfTwo : goal.members_of-requires-in-OfTwo
members_of-requires-in-OfTwo g t c =
    let p = (paired-parts (g.T.SegmentTable.flats c.args.table.now) (tree_in c.args.tree.now) c.paired-pairing.result.0 (tree_in c.paired-pairing.result.1.now) (tree_in c.paired-pairing.result.2.now) c.args.ids.now c.split_at.result.0.now c.split_at.result.1.now c.name_count.result (whole-is (tree_in c.args.tree.now) c.in-OfTwo.call c.in-OfTwo.first.value c.in-OfTwo.second.value c.deref-in-OfTwo.result.now c.deref-in-OfTwo-2.result.now (whole_of c.paired-pairing.result.0 (tree_in c.paired-pairing.result.1.now) (tree_in c.paired-pairing.result.2.now)) (ap tree_in c.in-OfTwo.is) c.deref-in-OfTwo.ensures c.deref-in-OfTwo-2.ensures c.paired-pairing.ensures) c.name_count.ensures c.split_at.ensures.front c.split_at.ensures.back c.requires.count c.requires.few c.requires.held) in
    let less = p.less_front in
    let few = p.parts.few_front in
    let count = p.parts.front_count in
    let held = p.parts.front_held in
    λ κs le. (search (rules, less), (search rules, (few, (count, held))))

pub members_of-requires-in-OfTwo-2 : goal.members_of-requires-in-OfTwo-2
members_of-requires-in-OfTwo-2 g t c =
    let p = (paired-parts (g.T.SegmentTable.flats c.args.table.now) (tree_in c.args.tree.now) c.paired-pairing.result.0 (tree_in c.paired-pairing.result.1.now) (tree_in c.paired-pairing.result.2.now) c.args.ids.now c.split_at.result.0.now c.split_at.result.1.now c.name_count.result (whole-is (tree_in c.args.tree.now) c.in-OfTwo.call c.in-OfTwo.first.value c.in-OfTwo.second.value c.deref-in-OfTwo.result.now c.deref-in-OfTwo-2.result.now (whole_of c.paired-pairing.result.0 (tree_in c.paired-pairing.result.1.now) (tree_in c.paired-pairing.result.2.now)) (ap tree_in c.in-OfTwo.is) c.deref-in-OfTwo.ensures c.deref-in-OfTwo-2.ensures c.paired-pairing.ensures) c.name_count.ensures c.split_at.ensures.front c.split_at.ensures.back c.requires.count c.requires.few c.requires.held) in
    let less = p.less_back in
    let few = p.parts.few_back in
    let count = p.parts.back_count in
    let held = p.parts.back_held in
    λ κs le. (search (rules, less), (search rules, (few, (count, held))))

pub made_of_pair-requires-clause-one : goal.made_of_pair-requires-clause-one
made_of_pair-requires-clause-one g t c = (λ x m. member-held (g.T.SegmentTable.flats c.args.table.now) (g.met.T.SegmentTable.lawful c.args.table.now) c.split_at.result.0.now (paired-parts (g.T.SegmentTable.flats c.args.table.now) (tree_in c.args.tree.now) c.paired-pairing.result.0 (tree_in c.paired-pairing.result.1.now) (tree_in c.paired-pairing.result.2.now) c.args.ids.now c.split_at.result.0.now c.split_at.result.1.now c.name_count.result (whole-is (tree_in c.args.tree.now) c.in-OfTwo.call c.in-OfTwo.first.value c.in-OfTwo.second.value c.deref-in-OfTwo.result.now c.deref-in-OfTwo-2.result.now (whole_of c.paired-pairing.result.0 (tree_in c.paired-pairing.result.1.now) (tree_in c.paired-pairing.result.2.now)) (ap tree_in c.in-OfTwo.is) c.deref-in-OfTwo.ensures c.deref-in-OfTwo-2.ensures c.paired-pairing.ensures) c.name_count.ensures c.split_at.ensures.front c.split_at.ensures.back c.requires.count c.requires.few c.requires.held).parts.front_held (tree_in c.paired-pairing.result.1.now) (paired-parts (g.T.SegmentTable.flats c.args.table.now) (tree_in c.args.tree.now) c.paired-pairing.result.0 (tree_in c.paired-pairing.result.1.now) (tree_in c.paired-pairing.result.2.now) c.args.ids.now c.split_at.result.0.now c.split_at.result.1.now c.name_count.result (whole-is (tree_in c.args.tree.now) c.in-OfTwo.call c.in-OfTwo.first.value c.in-OfTwo.second.value c.deref-in-OfTwo.result.now c.deref-in-OfTwo-2.result.now (whole_of c.paired-pairing.result.0 (tree_in c.paired-pairing.result.1.now) (tree_in c.paired-pairing.result.2.now)) (ap tree_in c.in-OfTwo.is) c.deref-in-OfTwo.ensures c.deref-in-OfTwo-2.ensures c.paired-pairing.ensures) c.name_count.ensures c.split_at.ensures.front c.split_at.ensures.back c.requires.count c.requires.few c.requires.held).parts.front_count x ((c.in_ok-one-in-OfTwo.ensures.members x).0 m))

pub made_of_pair-requires-clause-other : goal.made_of_pair-requires-clause-other
made_of_pair-requires-clause-other g t c = (λ x m. member-held (g.T.SegmentTable.flats c.args.table.now) (g.met.T.SegmentTable.lawful c.args.table.now) c.split_at.result.1.now (paired-parts (g.T.SegmentTable.flats c.args.table.now) (tree_in c.args.tree.now) c.paired-pairing.result.0 (tree_in c.paired-pairing.result.1.now) (tree_in c.paired-pairing.result.2.now) c.args.ids.now c.split_at.result.0.now c.split_at.result.1.now c.name_count.result (whole-is (tree_in c.args.tree.now) c.in-OfTwo.call c.in-OfTwo.first.value c.in-OfTwo.second.value c.deref-in-OfTwo.result.now c.deref-in-OfTwo-2.result.now (whole_of c.paired-pairing.result.0 (tree_in c.paired-pairing.result.1.now) (tree_in c.paired-pairing.result.2.now)) (ap tree_in c.in-OfTwo.is) c.deref-in-OfTwo.ensures c.deref-in-OfTwo-2.ensures c.paired-pairing.ensures) c.name_count.ensures c.split_at.ensures.front c.split_at.ensures.back c.requires.count c.requires.few c.requires.held).parts.back_held (tree_in c.paired-pairing.result.2.now) (paired-parts (g.T.SegmentTable.flats c.args.table.now) (tree_in c.args.tree.now) c.paired-pairing.result.0 (tree_in c.paired-pairing.result.1.now) (tree_in c.paired-pairing.result.2.now) c.args.ids.now c.split_at.result.0.now c.split_at.result.1.now c.name_count.result (whole-is (tree_in c.args.tree.now) c.in-OfTwo.call c.in-OfTwo.first.value c.in-OfTwo.second.value c.deref-in-OfTwo.result.now c.deref-in-OfTwo-2.result.now (whole_of c.paired-pairing.result.0 (tree_in c.paired-pairing.result.1.now) (tree_in c.paired-pairing.result.2.now)) (ap tree_in c.in-OfTwo.is) c.deref-in-OfTwo.ensures c.deref-in-OfTwo-2.ensures c.paired-pairing.ensures) c.name_count.ensures c.split_at.ensures.front c.split_at.ensures.back c.requires.count c.requires.few c.requires.held).parts.back_count x ((c.in_ok-other-in-OfTwo.ensures.members x).0 m))

pub returns-in_ok-other-in-OfTwo-clause-members : goal.returns-in_ok-other-in-OfTwo-clause-members
returns-in_ok-other-in-OfTwo-clause-members g t c =
    let one_held : (x : ℕ) → IsMember c.in_ok-one-in-OfTwo.one x → IsHeld (g.T.SegmentTable.flats c.args.table.now) x = (λ x m. member-held (g.T.SegmentTable.flats c.args.table.now) (g.met.T.SegmentTable.lawful c.args.table.now) c.split_at.result.0.now (paired-parts (g.T.SegmentTable.flats c.args.table.now) (tree_in c.args.tree.now) c.paired-pairing.result.0 (tree_in c.paired-pairing.result.1.now) (tree_in c.paired-pairing.result.2.now) c.args.ids.now c.split_at.result.0.now c.split_at.result.1.now c.name_count.result (whole-is (tree_in c.args.tree.now) c.in-OfTwo.call c.in-OfTwo.first.value c.in-OfTwo.second.value c.deref-in-OfTwo.result.now c.deref-in-OfTwo-2.result.now (whole_of c.paired-pairing.result.0 (tree_in c.paired-pairing.result.1.now) (tree_in c.paired-pairing.result.2.now)) (ap tree_in c.in-OfTwo.is) c.deref-in-OfTwo.ensures c.deref-in-OfTwo-2.ensures c.paired-pairing.ensures) c.name_count.ensures c.split_at.ensures.front c.split_at.ensures.back c.requires.count c.requires.few c.requires.held).parts.front_held (tree_in c.paired-pairing.result.1.now) (paired-parts (g.T.SegmentTable.flats c.args.table.now) (tree_in c.args.tree.now) c.paired-pairing.result.0 (tree_in c.paired-pairing.result.1.now) (tree_in c.paired-pairing.result.2.now) c.args.ids.now c.split_at.result.0.now c.split_at.result.1.now c.name_count.result (whole-is (tree_in c.args.tree.now) c.in-OfTwo.call c.in-OfTwo.first.value c.in-OfTwo.second.value c.deref-in-OfTwo.result.now c.deref-in-OfTwo-2.result.now (whole_of c.paired-pairing.result.0 (tree_in c.paired-pairing.result.1.now) (tree_in c.paired-pairing.result.2.now)) (ap tree_in c.in-OfTwo.is) c.deref-in-OfTwo.ensures c.deref-in-OfTwo-2.ensures c.paired-pairing.ensures) c.name_count.ensures c.split_at.ensures.front c.split_at.ensures.back c.requires.count c.requires.few c.requires.held).parts.front_count x ((c.in_ok-one-in-OfTwo.ensures.members x).0 m)) in
    let other_held : (x : ℕ) → IsMember c.in_ok-other-in-OfTwo.other x → IsHeld (g.T.SegmentTable.flats c.args.table.now) x = (λ x m. member-held (g.T.SegmentTable.flats c.args.table.now) (g.met.T.SegmentTable.lawful c.args.table.now) c.split_at.result.1.now (paired-parts (g.T.SegmentTable.flats c.args.table.now) (tree_in c.args.tree.now) c.paired-pairing.result.0 (tree_in c.paired-pairing.result.1.now) (tree_in c.paired-pairing.result.2.now) c.args.ids.now c.split_at.result.0.now c.split_at.result.1.now c.name_count.result (whole-is (tree_in c.args.tree.now) c.in-OfTwo.call c.in-OfTwo.first.value c.in-OfTwo.second.value c.deref-in-OfTwo.result.now c.deref-in-OfTwo-2.result.now (whole_of c.paired-pairing.result.0 (tree_in c.paired-pairing.result.1.now) (tree_in c.paired-pairing.result.2.now)) (ap tree_in c.in-OfTwo.is) c.deref-in-OfTwo.ensures c.deref-in-OfTwo-2.ensures c.paired-pairing.ensures) c.name_count.ensures c.split_at.ensures.front c.split_at.ensures.back c.requires.count c.requires.few c.requires.held).parts.back_held (tree_in c.paired-pairing.result.2.now) (paired-parts (g.T.SegmentTable.flats c.args.table.now) (tree_in c.args.tree.now) c.paired-pairing.result.0 (tree_in c.paired-pairing.result.1.now) (tree_in c.paired-pairing.result.2.now) c.args.ids.now c.split_at.result.0.now c.split_at.result.1.now c.name_count.result (whole-is (tree_in c.args.tree.now) c.in-OfTwo.call c.in-OfTwo.first.value c.in-OfTwo.second.value c.deref-in-OfTwo.result.now c.deref-in-OfTwo-2.result.now (whole_of c.paired-pairing.result.0 (tree_in c.paired-pairing.result.1.now) (tree_in c.paired-pairing.result.2.now)) (ap tree_in c.in-OfTwo.is) c.deref-in-OfTwo.ensures c.deref-in-OfTwo-2.ensures c.paired-pairing.ensures) c.name_count.ensures c.split_at.ensures.front c.split_at.ensures.back c.requires.count c.requires.few c.requires.held).parts.back_count x ((c.in_ok-other-in-OfTwo.ensures.members x).0 m)) in
    on-ok c.made_of_pair.result _ _ (λ r h x. both (h x)
    (paired-members (g.T.SegmentTable.flats c.args.table.now) (g.met.T.SegmentTable.lawful c.args.table.now) (tree_in c.args.tree.now) c.paired-pairing.result.0 (tree_in c.paired-pairing.result.1.now) (tree_in c.paired-pairing.result.2.now) c.args.ids.now c.split_at.result.0.now c.split_at.result.1.now
    (whole-is (tree_in c.args.tree.now) c.in-OfTwo.call c.in-OfTwo.first.value c.in-OfTwo.second.value c.deref-in-OfTwo.result.now c.deref-in-OfTwo-2.result.now (whole_of c.paired-pairing.result.0 (tree_in c.paired-pairing.result.1.now) (tree_in c.paired-pairing.result.2.now)) (ap tree_in c.in-OfTwo.is) c.deref-in-OfTwo.ensures c.deref-in-OfTwo-2.ensures c.paired-pairing.ensures)
    (front-is c.split_at.result.0.now c.args.ids.now (tree_in c.paired-pairing.result.1.now) c.name_count.result c.name_count.ensures c.split_at.ensures.front)
    (back-is c.split_at.result.1.now c.args.ids.now (tree_in c.paired-pairing.result.1.now) c.name_count.result c.name_count.ensures c.split_at.ensures.back)
    (IsMember c.in_ok-one-in-OfTwo.one) (IsMember c.in_ok-other-in-OfTwo.other) c.in_ok-one-in-OfTwo.ensures.members c.in_ok-other-in-OfTwo.ensures.members one_held other_held x))
    c.made_of_pair.ensures.members

pub returns-in_ok-members-in-Top-clause-members : goal.returns-in_ok-members-in-Top-clause-members
returns-in_ok-members-in-Top-clause-members g t c =
    let same = (subst (λ (tree : Tree). (x : ℕ) → IsMember c.in_ok-members-in-Top.members x ↔ means.IsMember (table_graph (g.T.SegmentTable.flats c.args.table.now)) (with_ids (tree_in tree) c.args.ids.now) x) c.deref-in-Top.ensures c.in_ok-members-in-Top.ensures.members) in
    let held : (x : ℕ) → IsMember c.in_ok-members-in-Top.members x → IsHeld (g.T.SegmentTable.flats c.args.table.now) x = (λ x m. member-held (g.T.SegmentTable.flats c.args.table.now) (g.met.T.SegmentTable.lawful c.args.table.now) c.args.ids.now c.requires.held (tree_in c.in-Top.set.value) (subst (λ (tree : Tree). length c.args.ids.now ≡ length (commits_in (tree_in tree))) c.in-Top.is c.requires.count) x (((subst (λ (tree : Tree). (x : ℕ) → IsMember c.in_ok-members-in-Top.members x ↔ means.IsMember (table_graph (g.T.SegmentTable.flats c.args.table.now)) (with_ids (tree_in tree) c.args.ids.now) x) c.deref-in-Top.ensures c.in_ok-members-in-Top.ensures.members) x).0 m)) in
    on-ok c.take_greatest.result _ _ (λ r h x. subst (λ (tree : Tree). IsMember r x ↔ means.IsMember (table_graph (g.T.SegmentTable.flats c.args.table.now)) (with_ids (tree_in tree) c.args.ids.now) x) (sym c.in-Top.is)
    (both (top-taken (g.T.SegmentTable.flats c.args.table.now) (g.met.T.SegmentTable.lawful c.args.table.now) c.in_ok-members-in-Top.members r c.in-Top.n c.in_ok-members-in-Top.ensures.canonical held h x)
    (same-top (g.T.SegmentTable.flats c.args.table.now) (g.met.T.SegmentTable.lawful c.args.table.now) c.in-Top.n (IsMember c.in_ok-members-in-Top.members) (means.IsMember (table_graph (g.T.SegmentTable.flats c.args.table.now)) (with_ids (tree_in c.in-Top.set.value) c.args.ids.now)) same held x))) c.take_greatest.ensures.ids
