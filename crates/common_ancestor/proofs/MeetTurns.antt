-- A turn of the visit of what two sets both reach, by what its calls give.
use Rattle.std.proofs.Common.{◌≡◌, ℕ, ◌<◌, ◌^◌, [], List, Some, refl, sym, subst, arith}
use Rattle.id_groups.specs.declared.span.IdSpan.{IdSpan}
use Rattle.segment_codec.specs.Record.{Segment}
use Rattle.segment_codec.specs.Table.{IsHeld, IsLawful}
use Rattle.common_ancestor.specs.Jumps.{IsFloor, IsJumpAbove}
use Rattle.common_ancestor.specs.Meets.{greatest_of, shared_of, AddsShared}
use Rattle.common_ancestor.specs.Waits.{Drops, FindsNext, PutsParents}
use Rattle.common_ancestor.specs.declared.meeting.Waiting.{Waiting}
use Rattle.common_ancestor.specs.declared.meeting.Next.{Next}
use Rattle.common_ancestor.proofs.Jumps.{jump-step}
use Rattle.common_ancestor.proofs.MeetVisits.{MeetVisits, meet-kept, meet-none, meet-turn, tops-of, greatest-under, greatest-held}

-- the visit as its lists stand
abbrev pub Visiting : List Segment → (ℕ → Type 0) → (ℕ → Type 0) → ℕ → Waiting → List IdSpan → Type 0
Visiting flats A B a w answer = MeetVisits flats A B a w.left w.right w.both answer

module _ (flats : List Segment) (lawful : IsLawful flats) (A B : ℕ → Type 0) where
  pub visiting-none : ((z : ℕ) → A z → IsHeld flats z) → ((z : ℕ) → B z → IsHeld flats z) → (w : Waiting) (answer : List IdSpan)
      → w.left ≡ [] → w.right ≡ [] → w.both ≡ [] → answer ≡ [] → Visiting flats A B (2 ^ 57) w answer
  visiting-none inside_a inside_b w answer l r b e =
      subst (λ x. MeetVisits flats A B (2 ^ 57) x w.right w.both answer) (sym l)
      (subst (λ x. MeetVisits flats A B (2 ^ 57) [] x w.both answer) (sym r)
      (subst (λ x. MeetVisits flats A B (2 ^ 57) [] [] x answer) (sym b)
      (subst (λ x. MeetVisits flats A B (2 ^ 57) [] [] [] x) (sym e) (meet-none flats lawful A B inside_a inside_b))))

  module _ (a : ℕ) (w w2 : Waiting) (answer : List IdSpan) (v : Visiting flats A B a w answer) (drops : Drops a w w2) where
    pub visiting-kept : Visiting flats A B a w2 answer
    visiting-kept = meet-kept flats lawful A B a w.left w.right w.both w2.left w2.right w2.both answer drops.left drops.right drops.both v

    module _ (n : Next) (finds : FindsNext A B a w2 (Some n)) (x : ℕ) (ex : x ≡ greatest_of n.left n.right n.both) where
      pub turn-held : ((z : ℕ) → A z → IsHeld flats z) → ((z : ℕ) → B z → IsHeld flats z) → IsHeld flats x
      turn-held inside_a inside_b = greatest-held flats lawful A B a w2.left w2.right w2.both answer visiting-kept n.left n.right finds.0 finds.1 inside_a inside_b n.both finds.2 x ex

      module _ (s : Segment) (floor : ℕ) (goes : IsJumpAbove flats x floor s) (low : ℕ) (el : low ≡ s.low) where
        pub turn-falls : low < a
        turn-falls =
            let under = greatest-under flats lawful A B a w2.left w2.right w2.both answer visiting-kept n.left n.right finds.0 finds.1 n.both finds.2 in
            let le = goes.jump.order in omega arith

        pub turn-visits : (ids : List ℕ) (w3 : Waiting) (longer : List IdSpan) → IsFloor x (shared_of n.left n.right n.both) floor → ids ≡ s.parents → PutsParents low n ids w2 w3
            → AddsShared low (shared_of n.left n.right n.both) n.both answer longer → Visiting flats A B low w3 longer
        turn-visits ids w3 longer free ei puts adds =
            let y = shared_of n.left n.right n.both in
            let step = jump-step flats lawful x floor s y goes free in
            subst (λ l. Visiting flats A B l w3 longer) (sym el)
            (meet-turn flats lawful A B a w2.left w2.right w2.both answer visiting-kept n.left n.right finds.0 finds.1 x y s step n.both
            (tops-of flats lawful A B a w2.left w2.right w2.both answer visiting-kept n.left n.right finds.0 finds.1 x y s step n.both finds.2 ex refl)
            w3.left w3.right w3.both longer
            (subst (λ l. PutsParents l n s.parents w2 w3) el (subst (λ i. PutsParents low n i w2 w3) ei puts))
            (subst (λ l. AddsShared l y n.both answer longer) el adds))
