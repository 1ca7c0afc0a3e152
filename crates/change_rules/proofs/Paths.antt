-- From the commits that a remote may name a path leads to each commit that a head reaches.
use Rattle.std.proofs.Common.{◌≡◌, ◌≤◌, suc, inl, inr, List, [], ◌∷◌, length, Some, refl, sym, ap, subst, ◌∙◌, arith, zero-le, ⊎_elim}
use Rattle.std.specs.Option.{option_and_then}
use Rattle.id_groups.specs.Lists.{IsIn}
use Rattle.id_groups.specs.Name.{Name}
use Rattle.commit_graph.specs.World.{World}
use Rattle.commit_graph.specs.Graph.{Graph, IsWalk, first_of_list}
use Rattle.commit_graph.proofs.Walks.{reaches-self, reaches-parent, reaches-trans}
use Rattle.remote_rules.specs.Known.{Path, IsReached, IsPathTo, master_graph}

along : (g : Graph Name) (heads : List Name) (more : List Name) (y x : Name) → IsReached g heads y → (path : Path) × IsPathTo g heads y (Some path) → IsWalk g y more x → (path : Path) × IsPathTo g heads x (Some path)
along g heads [] y x r p walk = subst (λ z. (path : Path) × IsPathTo g heads z (Some path)) walk p
along g heads (q ∷ more) y x r p walk = along g heads more q x next (step (g.parents y) refl walk.0) walk.1
  where
    next : IsReached g heads q
    next = (r.0, r.1, r.2, reaches-trans g r.0 y q r.3 (reaches-parent g y q q walk.0 (reaches-self g q)))

    step : (parents : List Name) → g.parents y ≡ parents → IsIn q parents → (path : Path) × IsPathTo g heads q (Some path)
    step [] e i = absurd i
    step (f ∷ []) e i =
        let first : first_of_list (g.parents y) ≡ Some q = ap first_of_list e ∙ ap Some (sym (⊎_elim (λ s. s) (λ j. absurd j) i)) in
        (record { from = p.0.from; back = suc p.0.back }, (p.1.0, ap (option_and_then (λ z. first_of_list (g.parents z))) p.1.1 ∙ first))
    step (f ∷ s ∷ rest) e i =
        let long : 2 ≤ length (g.parents y) = subst (λ l. 2 ≤ length l) (sym e) (let z : 0 ≤ length rest = zero-le in omega (arith, z)) in
        (record { from = q; back = 0 }, (inr (y, r, long, walk.0), refl))

pub paths-there : (r : World Name) (heads : List Name) (x : Name) → IsReached (master_graph r) heads x → (path : Path) × IsPathTo (master_graph r) heads x (Some path)
paths-there r heads x h =
    along (master_graph r) heads h.3.0 h.0 x (h.0, h.1, h.2, reaches-self (master_graph r) h.0) (record { from = h.0; back = 0 }, (inl (h.1, h.2), refl)) h.3.1
