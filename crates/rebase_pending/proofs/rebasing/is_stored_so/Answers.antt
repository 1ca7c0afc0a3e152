use Rattle.std.proofs.Common.{◌∙◌, ◌+◌, ◌<◌, ℕ, List, length, nat_eq, inl, inr, refl, sym, subst, ap}
use Rattle.std.specs.Prelude.{MatchOption}
use Rattle.std.specs.Cmp.Lexicographic.{pointwise}
use Rattle.std.specs.List.{AllByRecursion, AllZip}
use Rattle.id_groups.specs.Id.{other_id}
use Rattle.id_groups.specs.Lists.{IsIn}
use Rattle.high_segments.specs.Views.{flats_in}
use Rattle.segment_codec.specs.Table.{parents_at}
use Rattle.rebase_pending.specs.Rebasing.{IsAt, IsNowhere, AreStoredAs}
use Rattle.rebase_pending.proofs.Moved.{ok-more}
use Rattle.rebase_pending.proofs.rebasing.is_stored_so.Goals as goal

pub stored_parents-requires-clause-parents : goal.stored_parents-requires-clause-parents
stored_parents-requires-clause-parents c =
    let r = c.requires.row in
    let same = c.deref.ensures.value ∙ c.in_ok-parents.ensures ∙ c.in-Some.ensures r.0 r.1 r.2 r.3 in
    subst (λ f. AllByRecursion (λ p. p < other_id (f + length c.args.reads.now.found.now)) c.deref.result.now) (sym c.first.ensures)
    (subst (λ (l : List ℕ). AllByRecursion (λ p. p < other_id (c.args.reads.now.pending.now.first + length c.args.reads.now.found.now)) l) (sym same) r.4)

pub returns-in-Some-2 : goal.returns-in-Some-2
returns-in-Some-2 c = λ added before rows row n b e h at.
    let same = c.deref.ensures.value ∙ c.in_ok-parents.ensures ∙ c.in-Some.ensures rows row h at in
    let got = subst (λ o. MatchOption o ((p : ℕ) × IsIn p c.deref.result.now × IsNowhere before added c.first.result c.args.reads.now.found.now p) (λ ids. AllZip (IsAt before added c.first.result c.args.reads.now.found.now) c.deref.result.now ids.items)) c.in-Some-2.is (c.in_ok-stored.ensures added before n b (c.first.ensures ∙ e)) in
    let z = subst (λ f. AllZip (IsAt before added f c.args.reads.now.found.now) row.parents c.in-Some-2.stored.items) c.first.ensures (subst (λ l. AllZip (IsAt before added c.first.result c.args.reads.now.found.now) l c.in-Some-2.stored.items) same got) in
    ok-more c.has_parents.result _ (AreStoredAs before added c.args.reads.now.pending.now.first c.args.reads.now.found.now (parents_at (flats_in c.args.view.now) c.args.id) row.parents)
    (λ s q. inr (c.in-Some-2.stored.items, z, q ∙ ap (pointwise nat_eq (parents_at (flats_in c.args.view.now) c.args.id)) c.deref-in-Some-2.ensures.value)) c.has_parents.ensures

pub returns : goal.returns
returns c = λ added before rows row n b e h at.
    let same = c.deref.ensures.value ∙ c.in_ok-parents.ensures ∙ c.in-Some.ensures rows row h at in
    let got = subst (λ o. MatchOption o ((p : ℕ) × IsIn p c.deref.result.now × IsNowhere before added c.first.result c.args.reads.now.found.now p) (λ ids. AllZip (IsAt before added c.first.result c.args.reads.now.found.now) c.deref.result.now ids.items)) c.in-None.is (c.in_ok-stored.ensures added before n b (c.first.ensures ∙ e)) in
    inl (refl, (got.0, subst (IsIn got.0) same got.1, subst (λ f. IsNowhere before added f c.args.reads.now.found.now got.0) c.first.ensures got.2))
