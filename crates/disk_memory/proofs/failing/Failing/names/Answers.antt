use Rattle.std.proofs.Common.{inr, ⊎_elim, ◌==◌, List, ℕ, IsTrue, sym, ◌∙◌, ap, true≢false}
use Rattle.std.specs.List.{list_any}
use Rattle.disk_memory.specs.Named.{IsPast}
use Rattle.disk_memory.proofs.failing.Failing.names.Goals as goal

pub returns : goal.returns
returns c =
    let same = c.contains.ensures.value ∙ ap (λ (l : List ℕ). list_any (λ y. y == c.args.number) l) c.deref.ensures.value in
    ((λ h. inr (sym same ∙ h)), (λ h. ⊎_elim (λ (p : IsPast c.args.self.now.stop_after c.args.number). absurd (true≢false (sym (c.is_past.ensures.1 p) ∙ c.if-is_past.false))) (λ (q : IsTrue (list_any (λ y. y == c.args.number) c.args.self.now.fails.items)). same ∙ q) h))
