use Rattle.std.proofs.Common.{◌∙◌, ◌++◌, ◌∷◌, [], List, length, ap, sym, subst}
use Rattle.id_groups.specs.Lists.{IsIn}
use Rattle.name_index.specs.declared.entry.Entry.{Entry}
use Rattle.name_index.specs.Index.{IsIndexOf, names_in}
use Rattle.name_index.proofs.OneName.{last-more, set-last}
use Rattle.name_index.proofs.index.NameIndex.put_last.Goals as goal

pub returns-clause-added : goal.returns-clause-added
returns-clause-added c = λ all n is stand entry name out.
    let runs = c.self.inside.runs.items in
    let view = c.self.view_is in
    let long = ap (length {A = List Entry}) view ∙ c.requires in
    subst (λ rs. IsIndexOf rs (all ++ n ∷ [])) (sym (set-last runs c.args.before c.insert.new.self long))
    (last-more c.args.bytes.now runs all (subst (λ rs. IsIndexOf rs all) (sym view) is) stand c.args.before c.index_mut-last.result.now c.insert.new.self n long c.index_mut-last.ensures.value
    (subst (λ z. IsIn z (names_in all) → ⊥) (sym name) out)
    (λ held run stands none. c.in_ok-insert.ensures.inserted held n run stands entry name (subst (λ z. IsIn z (names_in held) → ⊥) name none)))
