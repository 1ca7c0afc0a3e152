use Rattle.std.proofs.Common.{length, Ok, refl, sym, ap, subst}
use Rattle.store_plans.specs.Sessions.{PlainSession}
use Rattle.store_queries.specs.declared.adding.Added.TheVariants.{Old}
use Rattle.store_queries.specs.Adding.{Appends, IsNewAmong, MayBeParents, MayBeSought, PutsSought}
use Rattle.store_queries.proofs.AddingSession.{on-err-map}
use Rattle.store_queries.proofs.adding.add_sought.Goals as goal

pub append-requires-clause-parents : goal.append-requires-clause-parents
append-requires-clause-parents c =
    let x = c.args.session.now in
    subst (MayBeParents x.pending.first (length x.pending.places)) (sym c.deref.ensures.value) (subst (MayBeSought x.pending) c.in-New.is c.requires.parents)

pub returns-in-New-clause-puts : goal.returns-in-New-clause-puts
returns-in-New-clause-puts c = λ rows h fresh.
    let x = c.args.session.now in
    let next : PlainSession = record x { pending = c.append.new.pending } in
    subst (λ what. PutsSought c.args.most x rows c.args.name.now what c.append.result next) (sym c.in-New.is) (
      refl,
      subst (λ l. Appends c.args.most x.pending rows c.args.name.now l c.append.result c.append.new.pending) c.deref.ensures.value
          (c.append.ensures.appends rows h (subst (IsNewAmong rows c.args.name.now) c.in-New.is fresh)),
    )

pub returns-in-New-clause-refused : goal.returns-in-New-clause-refused
returns-in-New-clause-refused c =
    let x = c.args.session.now in
    on-err-map c.append.result (λ same. ap {B = PlainSession} (λ p. record x { pending = p }) same) c.append.ensures.unchanged

pub returns-in-Old-clause-puts : goal.returns-in-Old-clause-puts
returns-in-Old-clause-puts c = λ rows h fresh.
    let x = c.args.session.now in
    subst (λ what. PutsSought c.args.most x rows c.args.name.now what (Ok (Old c.in-Old.id)) x) (sym c.in-Old.is) (refl, refl)
