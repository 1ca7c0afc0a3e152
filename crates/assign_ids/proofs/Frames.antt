-- What a stack of frames is still to do.
use Rattle.std.proofs.Common.{◌≡◌, ℕ, suc, ◌+◌, ◌-◌, ◌*◌, ◌<◌, ◌≤◌, ◌^◌, false, List, [], ◌∷◌, ◌++◌, length, drop, refl, sym, ap, subst, ◌∙◌, arith, le_refl, lit<}
use Rattle.std.specs.Prelude.{nat_eq}
use Rattle.std.proofs.lemmas.List.{length-append}
use Rattle.id_groups.specs.Lists.{IsIn, is_in}
use Rattle.commit_graph.specs.World.{Row}
use Rattle.assign_ids.specs.Placing.{place, place_all}
use Rattle.assign_ids.specs.Numbers.{others_of, HaveOlderParents, rows_below}
use Rattle.assign_ids.specs.declared.graph.Node.{Node}
use Rattle.assign_ids.specs.declared.walk.Frame.{Frame}
use Rattle.assign_ids.proofs.NumberLemmas.{number-behind, number-grows, below-in}

module _ (parents : ℕ → List Node) (n : ℕ) where
  -- Resuming a frame: the rest of its parents are placed, and then its number.
  abbrev pub resumed : Frame → List ℕ → List ℕ
  resumed f order = place_all nat_eq (rows_below parents n) order (others_of (drop f.done (parents f.number))) ++ f.number ∷ []

  -- Resuming a stack, from the top, its last frame, down.
  abbrev pub all_resumed : List Frame → List ℕ → List ℕ
  all_resumed [] order = order
  all_resumed (f ∷ above) order = resumed f (all_resumed above order)

  -- each frame is of a number below n
  abbrev pub AreOfBelow : List Frame → Type 0
  AreOfBelow [] = Unit {0}
  AreOfBelow (f ∷ above) = (f.number < n) × AreOfBelow above

  -- the top is resumed first
  pub top-first : (frames : List Frame) (f : Frame) (order : List ℕ) → all_resumed (frames ++ f ∷ []) order ≡ all_resumed frames (resumed f order)
  top-first [] f order = refl
  top-first (g ∷ frames) f order = ap (resumed g) (top-first frames f order)

  pub below-front : (frames : List Frame) (f : Frame) → AreOfBelow (frames ++ f ∷ []) → AreOfBelow frames × (f.number < n)
  below-front [] f h = (tt, h.0)
  below-front (g ∷ frames) f h = let rest = below-front frames f h.1 in ((h.0, rest.0), rest.1)

  pub below-back : (frames : List Frame) (f : Frame) → AreOfBelow frames → f.number < n → AreOfBelow (frames ++ f ∷ [])
  below-back [] f h lt = (lt, tt)
  below-back (g ∷ frames) f h lt = (h.0, below-back frames f h.1 lt)

  -- resuming only adds to the order
  pub resumed-grows : (f : Frame) (order : List ℕ) → suc (length order) ≤ length (resumed f order)
  resumed-grows f order =
      let a = number-grows parents n order (others_of (drop f.done (parents f.number))) in
      let b = length-append (place_all nat_eq (rows_below parents n) order (others_of (drop f.done (parents f.number)))) (f.number ∷ []) in omega (arith, a, b)

  pub all-resumed-grow : (frames : List Frame) (order : List ℕ) → length order ≤ length (all_resumed frames order)
  all-resumed-grow [] order = le_refl (length order)
  all-resumed-grow (f ∷ frames) order = let a = all-resumed-grow frames order in let b = resumed-grows f (all_resumed frames order) in omega (arith, a, b)

  -- the number of the top frame, or 0
  abbrev pub top_of : List Frame → ℕ
  top_of [] = 0
  top_of (f ∷ []) = f.number
  top_of (f ∷ g ∷ above) = top_of (g ∷ above)

  pub top-is : (frames : List Frame) (f : Frame) → top_of (frames ++ f ∷ []) ≡ f.number
  top-is [] f = refl
  top-is (g ∷ []) f = refl
  top-is (g ∷ h ∷ frames) f = top-is (h ∷ frames) f

  -- Frames that lead to the wanted order.
  pub record Leads (frames : List Frame) (order wanted : List ℕ) : Type 0 where
    pub resume : all_resumed frames order ≡ wanted
    pub below : AreOfBelow frames

  -- Each turn either adds to the order, or puts a frame of a lower number on top.
  abbrev pub turns_left : List Frame → List ℕ → List ℕ → ℕ
  turns_left frames order wanted = 2 ^ 32 * (length wanted - length order) + top_of frames

  -- a head that isn't in the order begins with one frame
  pub leads-start : HaveOlderParents parents → (head : ℕ) (order : List ℕ) → head < n → is_in nat_eq head order ≡ false
      → Leads (record { number = head; done = 0 } ∷ []) order (place nat_eq (rows_below parents n) order head)
  leads-start older head order lt new = record { resume = sym (number-behind parents older n head order lt new); below = (lt, tt) }

  -- where all parents are placed, the number goes behind them
  pub leads-place : (frames : List Frame) (f : Frame) (order wanted : List ℕ)
      → place_all nat_eq (rows_below parents n) order (others_of (drop f.done (parents f.number))) ≡ order
      → Leads (frames ++ f ∷ []) order wanted → Leads frames (order ++ f.number ∷ []) wanted
  leads-place frames f order wanted done h = record {
    resume = ap (λ o. all_resumed frames (o ++ f.number ∷ [])) (sym done) ∙ sym (top-first frames f order) ∙ h.resume;
    below = (below-front frames f h.below).0;
  }

  -- where one is missing, it comes first, and the frame below counts it as done
  pub leads-wait : HaveOlderParents parents → (frames : List Frame) (f : Frame) (order wanted : List ℕ) (k done : ℕ)
      → IsIn k (others_of (parents f.number)) → is_in nat_eq k order ≡ false
      → place_all nat_eq (rows_below parents n) order (others_of (drop f.done (parents f.number)))
      ≡ place_all nat_eq (rows_below parents n) (place nat_eq (rows_below parents n) order k) (others_of (drop done (parents f.number)))
      → Leads (frames ++ f ∷ []) order wanted
      → Leads ((frames ++ record { number = f.number; done = done } ∷ []) ++ record { number = k; done = 0 } ∷ []) order wanted
  leads-wait older frames f order wanted k done i new left h =
      let lt = below-in f.number (others_of (parents f.number)) k (older f.number) i in
      let front = below-front frames f h.below in
      let less = front.1 in
      let waiting : Frame = record { number = f.number; done = done } in
      let pushed : Frame = record { number = k; done = 0 } in
      let within : k < n = omega (arith, lt, less) in record {
        resume = top-first (frames ++ waiting ∷ []) pushed order
            ∙ ap (all_resumed (frames ++ waiting ∷ [])) (sym (number-behind parents older n k order within new))
            ∙ top-first frames waiting (place nat_eq (rows_below parents n) order k)
            ∙ ap (λ o. all_resumed frames (o ++ f.number ∷ [])) (sym left)
            ∙ sym (top-first frames f order) ∙ h.resume;
        below = below-back (frames ++ waiting ∷ []) pushed (below-back frames waiting front.0 less) within;
      }

  -- the order is never longer than the wanted one, and shorter while there are frames
  pub leads-short : (frames : List Frame) (f : Frame) (order wanted : List ℕ) → Leads (frames ++ f ∷ []) order wanted → length order < length wanted
  leads-short frames f order wanted h =
      let a = all-resumed-grow frames (resumed f order) in
      let b = resumed-grows f order in
      let e = ap length (sym (top-first frames f order) ∙ h.resume) in omega (arith, a, b, e)

  top-bound : (frames : List Frame) → n ≤ 2 ^ 32 → AreOfBelow frames → top_of frames < 2 ^ 32
  top-bound [] few h = lit< tt
  top-bound (f ∷ []) few h = let lt = h.0 in omega (arith, few, lt)
  top-bound (f ∷ g ∷ frames) few h = top-bound (g ∷ frames) few h.1

  fewer : (wanted short long high low : ℕ) → short < wanted → long ≡ short + 1 → high < 2 ^ 32 → 2 ^ 32 * (wanted - long) + high < 2 ^ 32 * (wanted - short) + low
  fewer wanted short long high low lt e h = omega (arith, lt, e, h)

  -- the turn that places the number of the top frame
  pub place-turn : (before frames : List Frame) (f : Frame) (nodes : List Node) (order next wanted : List ℕ) → n ≤ 2 ^ 32
      → before ≡ frames ++ f ∷ [] → nodes ≡ parents f.number → next ≡ order ++ f.number ∷ []
      → ((rows : List (Row ℕ)) → place_all nat_eq rows order (others_of (drop f.done nodes)) ≡ order)
      → Leads before order wanted → Leads frames next wanted × (turns_left frames next wanted < turns_left before order wanted)
  place-turn before frames f nodes order next wanted few is at more done h =
      let leads : Leads (frames ++ f ∷ []) order wanted = subst (λ (fs : List Frame). Leads fs order wanted) is h in
      let after : Leads frames next wanted = subst (λ (o : List ℕ). Leads frames o wanted) (sym more)
      (leads-place frames f order wanted (ap (λ ns. place_all nat_eq (rows_below parents n) order (others_of (drop f.done ns))) (sym at) ∙ done (rows_below parents n)) leads) in
      let longer : length next ≡ length order + 1 = ap length more ∙ length-append order (f.number ∷ []) in (
        after,
        fewer (length wanted) (length order) (length next) (top_of frames) (top_of before) (leads-short frames f order wanted leads) longer (top-bound frames few after.below),
      )

  -- the turn that puts a missing parent on top
  pub wait-turn : HaveOlderParents parents → (before frames middle after : List Frame) (f : Frame) (nodes : List Node) (order wanted : List ℕ) (k done : ℕ)
      → before ≡ frames ++ f ∷ [] → nodes ≡ parents f.number
      → middle ≡ frames ++ record { number = f.number; done = done } ∷ [] → after ≡ middle ++ record { number = k; done = 0 } ∷ []
      → IsIn k (others_of nodes) × (is_in nat_eq k order ≡ false)
      × ((rows : List (Row ℕ)) → place_all nat_eq rows order (others_of (drop f.done nodes)) ≡ place_all nat_eq rows (place nat_eq rows order k) (others_of (drop done nodes)))
      → Leads before order wanted → Leads after order wanted × (turns_left after order wanted < turns_left before order wanted)
  wait-turn older before frames middle after f nodes order wanted k done is at mid aft t h =
      let waiting : Frame = record { number = f.number; done = done } in
      let pushed : Frame = record { number = k; done = 0 } in
      let all : after ≡ (frames ++ waiting ∷ []) ++ pushed ∷ [] = aft ∙ ap (λ fs. fs ++ pushed ∷ []) mid in
      let i : IsIn k (others_of (parents f.number)) = subst (λ ns. IsIn k (others_of ns)) at t.0 in
      let left = subst (λ (ns : List Node). place_all nat_eq (rows_below parents n) order (others_of (drop f.done ns)) ≡ place_all nat_eq (rows_below parents n) (place nat_eq (rows_below parents n) order k) (others_of (drop done ns))) at (t.2 (rows_below parents n)) in
      let lt : k < f.number = below-in f.number (others_of (parents f.number)) k (older f.number) i in
      let high : top_of before ≡ f.number = ap top_of is ∙ top-is frames f in
      let low : top_of after ≡ k = ap top_of all ∙ top-is (frames ++ waiting ∷ []) pushed in (
        subst (λ (fs : List Frame). Leads fs order wanted) (sym all)
            (leads-wait older frames f order wanted k done i t.1 left (subst (λ (fs : List Frame). Leads fs order wanted) is h)),
        omega (arith, lt, high, low),
      )

  -- the number of the top frame is below n
  pub top-within : (before frames : List Frame) (f : Frame) (order wanted : List ℕ) → before ≡ frames ++ f ∷ [] → Leads before order wanted → f.number < n
  top-within before frames f order wanted is h = (below-front frames f (subst AreOfBelow is h.below)).1

  -- a stack of the head alone
  pub start-turn : HaveOlderParents parents → (empty frames : List Frame) (head : ℕ) (order : List ℕ) → empty ≡ [] → frames ≡ empty ++ record { number = head; done = 0 } ∷ []
      → head < n → is_in nat_eq head order ≡ false → Leads frames order (place nat_eq (rows_below parents n) order head)
  start-turn older empty frames head order none is lt new =
      let one : Frame = record { number = head; done = 0 } in
      let all : frames ≡ one ∷ [] = is ∙ ap (λ fs. fs ++ one ∷ []) none in
      subst (λ (fs : List Frame). Leads fs order (place nat_eq (rows_below parents n) order head)) (sym all) (leads-start older head order lt new)
