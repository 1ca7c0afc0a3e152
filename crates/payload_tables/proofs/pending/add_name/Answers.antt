use Rattle.std.proofs.Common.{◌∙◌, ◌∷◌, [], ◌++◌, length, ℕ, refl, sym, ap, subst, true≢false}
use Rattle.std.proofs.lemmas.Result.{on_ok_weaker}
use Rattle.batch_codec.proofs.Entries.{names-size}
use Rattle.id_groups.specs.Lists.{IsIn}
use Rattle.name_index.specs.Index.{IsIndexOf, names_in}
use Rattle.payload_tables.proofs.Pushing.{held-stand, held-name, finds-more, finds-again}
use Rattle.payload_tables.proofs.pending.add_name.Goals as goal

pub returns-then-pushed-clause-found : goal.returns-then-pushed-clause-found
returns-then-pushed-clause-found c = λ before f e w told.
    finds-again _ _ before c.args.pushed.now.name.now f refl (f.whole c.args.pushed.now.name.now (told.0 c.if-pushed.true))

pub returns-clause-found : goal.returns-clause-found
returns-clause-found c = λ before f e w told.
    let at = length c.args.names.now in
    let name = c.args.pushed.now.name.now in
    on_ok_weaker c.insert_new_one.result
    (λ is. finds-more _ _ before at name f (ap (length {A = ℕ}) e ∙ names-size before w)
    (subst (λ x. IsIndexOf c.insert_new_one.new.self (f.named ++ record { place = at; name = x } ∷ [])) c.lend.ensures is))
    (c.insert_new_one.ensures.added f.named f.index_of (held-stand c.args.names.now before _ f e w)
    (subst (λ x. IsIn x (names_in f.named) → ⊥) (sym c.lend.ensures) (λ i. true≢false (sym (told.1 (held-name _ before name f i)) ∙ c.if-pushed.false))))
