use Rattle.std.proofs.Common.{◌≡◌, ◌∙◌, ◌+◌, ◌∷◌, ◌++◌, [], inl, inr, sym, ap, subst, arith, not, true}
use Rattle.std.specs.BTreeSet.{contains, Updates}
use Rattle.std.specs.Ordering.{nat_cmp}
use Rattle.std.specs.Cmp.Lexicographic.{slice_cmp}
use Rattle.id_groups.specs.Name.{Name}
use Rattle.remote_rules.specs.CloneData.{KnownName}
use Rattle.remote_trait.specs.Broken.{HasSeen}
use Rattle.remote_trait.proofs.Items.{seen-not, seen-new, seen-more}
use Rattle.remote_trait.proofs.broken_names.SeenNames.add.Goals as goal
use Rattle.remote_trait.proofs.broken_names.SeenNames.add.Goals.{then-end-id-via-then-end-id, then-end-id-via-else-end-id+then-id-self}

pub returns-then-end-id-clause-fits : goal.returns-then-end-id-clause-fits
returns-then-end-id-clause-fits c = λ before h.
    let id = c.from-id.ensures in let view = ap (λ (k : KnownName). k.id) c.known.view_is in
    elim c.then-end-id.branch [
      | then-end-id-via-then-end-id w ↦ seen-not before c.args.self.now.names c.args.self.now.next h c.args.known.now c.args.end (inl (let le = w.if-end-id.true in omega (arith, le, id, view)))
      | then-end-id-via-else-end-id+then-id-self w ↦ seen-not before c.args.self.now.names c.args.self.now.next h c.args.known.now c.args.end (inr (let lt = w.if-id-self.true in omega (arith, lt, id, view)))
    ]

pub returns-clause-fits : goal.returns-clause-fits
returns-clause-fits c = λ before h.
    let id = c.from-id.ensures in let view = ap (λ (k : KnownName). k.id) c.known.view_is in
    let called : c.bytes_of.result ≡ c.args.known.now.name = c.bytes_of.ensures ∙ ap (λ (k : KnownName). k.name) c.known.view_is in
    let end = c.if-end-id.false in let next = c.if-id-self.false in
    seen-new before c.args.self.now.names c.args.self.now.next h c.args.known.now c.args.end (omega (arith, end, id, view)) (omega (arith, next, id, view)) c.in_ok-is_new.is_new
    (c.in_ok-is_new.ensures.added ∙ ap (λ (x : Name). not (contains (slice_cmp nat_cmp) c.args.self.now.names x)) called)

pub returns-clause-seen : goal.returns-clause-seen
returns-clause-seen c = λ before h _.
    let id = c.from-id.ensures in let view = ap (λ (k : KnownName). k.id) c.known.view_is in
    let called : c.bytes_of.result ≡ c.args.known.now.name = c.bytes_of.ensures ∙ ap (λ (k : KnownName). k.name) c.known.view_is in
    let next = c.if-id-self.false in
    let same : c.args.known.now.id ≡ c.from-id.result = sym (id ∙ view) in
    subst (λ n. HasSeen (before ++ c.args.known.now ∷ []) c.insert.new.self (n + 1)) same (seen-more before c.args.self.now.names c.args.self.now.next h c.args.known.now c.args.end (omega (arith, next, id, view)) c.insert.new.self
    (subst (λ x. Updates (slice_cmp nat_cmp) c.args.self.now.names c.insert.new.self x true) called c.in_ok-is_new.ensures.updates))
