use Rattle.std.proofs.Common.{◌⊎◌, ◌↔◌, inl, subst, sym}
use Rattle.id_groups.specs.Lists.{IsIn}
use Rattle.segment_codec.specs.Lent.{parents_left}
use Rattle.segment_codec.specs.declared.lent.Parents.{Parents}
use Rattle.ancestor_query.proofs.Work.{pushed-next, pushed-all}
use Rattle.ancestor_query.proofs.work_list.WorkList.push_all.Goals as goal

pub push-init : goal.push-init
push-init c = record {
  members = λ x. subst (λ (p : Parents). (IsIn x c.args.self.now ⊎ IsIn x (parents_left p)) ↔ (IsIn x c.args.self.now ⊎ IsIn x (parents_left c.args.parents)))
      (sym c.into_iter-id-iterator.ensures.into_iter_gives) (λ a. a, λ a. a);
  kept = λ x i. i;
}

pub push-preserved : goal.push-preserved
push-preserved c = record {
  members = pushed-next c.args.self.now c.push.self c.push-in-push.new.self (parents_left c.args.parents) (parents_left c.push.id-iterator) (parents_left c.next.new.self) c.in-Some.id
      c.in-Some.ensures.steps c.in_ok-push.ensures.all c.push.invariant.members;
  kept = λ x i. (c.in_ok-push.ensures.all x).1 (inl (c.push.invariant.kept x i));
}

pub returns-clause-all : goal.returns-clause-all
returns-clause-all c = pushed-all c.args.self.now c.push.self (parents_left c.args.parents) (parents_left c.push.id-iterator) c.in-None.ensures.steps.0 c.push.invariant.members

pub returns-clause-sound : goal.returns-clause-sound
returns-clause-sound c = λ x i. (c.push.invariant.members x).0 (inl i)

pub returns-in_err-push-clause-kept : goal.returns-in_err-push-clause-kept
returns-in_err-push-clause-kept c = λ x i. subst (IsIn x) (sym c.in_err-push.ensures.unchanged) (c.push.invariant.kept x i)

pub returns-in_err-push-clause-sound : goal.returns-in_err-push-clause-sound
returns-in_err-push-clause-sound c = λ x i. (c.push.invariant.members x).0 (inl (subst (IsIn x) c.in_err-push.ensures.unchanged i))
