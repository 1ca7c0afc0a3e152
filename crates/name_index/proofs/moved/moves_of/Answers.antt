use Rattle.std.proofs.Common.{Some, List, Option, ℕ, ◌+◌, subst, sym}
use Rattle.std.proofs.lemmas.Bool.Decides.{Decides-eqb}
use Rattle.std.proofs.lemmas.Slice.Eq.{strip_prefix_is}
use Rattle.name_index.proofs.Thinning.{Moving, moving-start, moving-found, moving-gone, moving-same}
use Rattle.name_index.proofs.moved.moves_of.Goals as goal

pub names-init : goal.names-init
names-init c = subst (λ (ms : List (Option ℕ)). Moving c.args.old.now c.args.new.now ms c.args.old.now c.args.new.now 0) (sym c.in_ok-moves.ensures.items) (moving-start c.args.old.now c.args.new.now)

pub names-preserved-in-Some : goal.names-preserved-in-Some
names-preserved-in-Some c =
    let both = c.in-Some.ensures in
    moving-same c.args.old.now c.args.new.now c.names.moves.items c.push_block.new.moves.items c.names.rest.now c.names.left.now both.0 c.in-Some.others.now c.in-Some.behind.now c.names.number 64
    both.2 both.3 both.1 c.in_ok-push_block-in-Some.ensures c.names.invariant

pub names-preserved-in_ok-push-in-Some-strip_prefix : goal.names-preserved-in_ok-push-in-Some-strip_prefix
names-preserved-in_ok-push-in-Some-strip_prefix c =
    let name = c.split_at.result.0.now in
    let found = c.in-Some-strip_prefix in
    subst (λ (ms : List (Option ℕ)). Moving c.args.old.now c.args.new.now ms c.split_at.result.1.now found.behind.now (c.names.number + 1)) (sym c.in_ok-push-in-Some-strip_prefix.ensures.items)
    (moving-found c.args.old.now c.args.new.now c.names.moves.items c.names.rest.now name c.split_at.result.1.now c.names.left.now found.behind.now c.names.number c.told.result
    c.split_at.ensures.front c.split_at.ensures.front_len c.split_at.ensures.back
    (strip_prefix_is Decides-eqb c.names.left.now name (Some found.behind) found.ensures.cases) c.told.ensures c.names.invariant)

pub names-preserved : goal.names-preserved
names-preserved c =
    subst (λ (ms : List (Option ℕ)). Moving c.args.old.now c.args.new.now ms c.split_at.result.1.now c.names.left.now c.names.number) (sym c.in_ok-push-in-None-strip_prefix.ensures.items)
    (moving-gone c.args.old.now c.args.new.now c.names.moves.items c.names.rest.now c.split_at.result.1.now c.names.left.now c.names.number c.split_at.ensures.back c.names.invariant)
