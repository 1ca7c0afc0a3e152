use Rattle.std.proofs.Common.{◌∙◌, List, ◌++◌, drop, sym, subst}
use Rattle.std.specs.List.{AllByRecursion}
use Rattle.name_index.specs.Index.{IsIndexOf, NamedPlace, StandFrom}
use Rattle.name_index.specs.Runs.{AreRuns, Holds, joined}
use Rattle.name_index.proofs.Inserting.{distinct-there, inserted}
use Rattle.name_index.proofs.index.NameIndex.put_run.Goals as goal

pub returns-clause-added : goal.returns-clause-added
returns-clause-added c = λ all new is stand stands holds distinct.
    let value = c.deref-2.ensures.value ∙ c.self.view_is in
    let at = c.args.new.now.at in let added = c.args.new.now.bytes.now in
    let merged : (held : List (List NamedPlace)) (named : List NamedPlace) → AreRuns (drop c.count_kept-kept.result c.args.self.now) held → AllByRecursion (StandFrom 0 c.args.bytes.now) held → Holds c.args.run named → StandFrom at added named → Holds c.in_ok-merged.merged (joined held ++ named)
    = λ held named behind. c.in_ok-merged.ensures held named (subst (λ rs. AreRuns (drop c.count_kept-kept.result rs) held) (sym value) behind) in
    subst (λ rs. IsIndexOf rs (all ++ new)) (sym c.in_ok-replace.ensures.replaced)
    (inserted c.args.bytes.now at added c.args.self.now c.count_kept-kept.result c.args.run c.in_ok-merged.merged all new is stand stands holds (λ once. distinct-there all new (joined is.held) is.same distinct) merged)
