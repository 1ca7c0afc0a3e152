use Rattle.std.proofs.Common.{arith, ◌≡◌, ◌∙◌, ℕ, List, ◌⊎◌, ◌↔◌, ◌-◌, ◌<◌, ◌≤◌, inl, inr, ⊎_elim, sym, subst}
use Rattle.id_groups.specs.Lists.{IsIn}
use Rattle.segment_codec.specs.Lent.{segment_of}
use Rattle.span_set.specs.Members.{IsMember}
use Rattle.commit_graph.proofs.Naming.{each}
use Rattle.ancestor_query.specs.Parts.{IsSettled}
use Rattle.ancestor_query.proofs.Parts.{add-over, add-whole, same-left, settled-part}
use Rattle.ancestor_query.proofs.parent_set.Found.add_part.Goals as goal

pub returns-then-lowest-low-clause-parents : goal.returns-then-lowest-low-clause-parents
returns-then-lowest-low-clause-parents c = λ x.
    let low = c.number-lowest.ensures.number in let l = c.low.ensures in let lt = c.if-lowest-low.true in
    same-left
    (add-over (segment_of c.args.segment) c.take_from.new.self.ids c.insert_between.new.self c.take_from.new.self.waiting c.args.low c.args.high (omega arith)
    (subst (λ (n : ℕ). (x : ℕ) → IsMember c.insert_between.new.self x ↔ (IsMember c.take_from.new.self.ids x ⊎ ((c.args.low - 1 ≤ x) × (x < n)))) c.number-then-lowest-low.ensures.number c.in_ok-insert_between.ensures.members) x)
    (c.in_ok-take_from.ensures.same x)

pub returns-clause-parents : goal.returns-clause-parents
returns-clause-parents c = λ x.
    let low : c.number-lowest.result ≡ (segment_of c.args.segment).low = c.number-lowest.ensures.number ∙ c.low.ensures in let le = c.if-lowest-low.false in
    same-left
    (add-whole (segment_of c.args.segment) c.take_from.new.self.ids c.insert_between-2.new.self c.take_from.new.self.waiting c.push_all.new.self c.args.low c.args.high (omega arith) c.requires.order
    (subst (λ (n : ℕ). (x : ℕ) → IsMember c.insert_between-2.new.self x ↔ (IsMember c.take_from.new.self.ids x ⊎ (((segment_of c.args.segment).low ≤ x) × (x < n)))) c.number-2.ensures.number
    (subst (λ (n : ℕ). (x : ℕ) → IsMember c.insert_between-2.new.self x ↔ (IsMember c.take_from.new.self.ids x ⊎ ((n ≤ x) × (x < c.number-2.result)))) low c.in_ok-insert_between-2.ensures.members))
    (subst (λ (l : List ℕ). (x : ℕ) → IsIn x c.push_all.new.self ↔ (IsIn x c.take_from.new.self.waiting ⊎ IsIn x l)) c.parents.ensures c.in_ok-push_all.ensures.all) x)
    (c.in_ok-take_from.ensures.same x)

pub returns-clause-settled : goal.returns-clause-settled
returns-clause-settled c =
    settled-part c.take_from.new.self.ids c.insert_between-2.new.self c.take_from.new.self.waiting c.push_all.new.self c.number-lowest.result c.number-2.result
    (subst (IsSettled c.take_from.new.self.ids c.take_from.new.self.waiting) (c.number.ensures.number ∙ sym c.number-2.ensures.number) c.in_ok-take_from.ensures.settled)
    c.in_ok-insert_between-2.ensures.members
    (λ x i. ⊎_elim (λ o. inl o)
    (λ p. let lt = each (λ q. q < c.args.segment.low) (segment_of c.args.segment).parents c.args.segment.below x (subst (IsIn x) c.parents.ensures p) in
    let l = c.low.ensures in let n = c.number-lowest.ensures.number in inr (omega arith)) ((c.in_ok-push_all.ensures.all x).0 i))
    (c.in_ok-insert_between-2.ensures.canonical c.in_ok-take_from.ensures.settled.canonical)
