use Rattle.std.proofs.Common.{◌≡◌, ◌∙◌, ap, sym, subst, refl, nat_eq}
use Rattle.std.specs.Bool.{IsTrue}
use Rattle.payload_tables.specs.Kept.{PlainTables}
use Rattle.payload_tables.proofs.Lists.{same-exact}
use Rattle.payload_tables.proofs.Following.{none-added, nothing-there}
use Rattle.payload_tables.proofs.tables.Tables.is_empty.Goals as goal

pub returns-then-master_count-eq0 : goal.returns-then-master_count-eq0
returns-then-master_count-eq0 c = λ added t.
    let s = c.args.self.now in
    let masters : s.names.masters ≡ 0 = sym (ap (λ (z : PlainTables). z.names.masters) c.self.view_is) ∙ sym c.master_count.ensures ∙ c.if-master_count-eq0.true in
    let count : c.count.result ≡ s.others.count = c.count.ensures ∙ ap (λ (z : PlainTables). z.others.count) c.self.view_is in (
      λ e. none-added s added t masters (sym count ∙ same-exact c.count.result 0 e),
      λ e. subst (λ n. IsTrue (nat_eq n 0)) (sym (count ∙ (nothing-there s added t e).1)) refl,
    )
