use Rattle.dag_store.proofs.Followers.{FollowsSoFar}
use Rattle.dag_store.proofs.store.Store.follow.Given as goal

abbrev pub invariant-batches : goal.invariant-batches
invariant-batches l = FollowsSoFar l.fn.self l.fn.more.payloads l.k l.store
