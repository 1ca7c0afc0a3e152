use Rattle.std.proofs.Common.{◌≡◌, suc, true, List, length, nat_lt, sym, ◌∙◌, ap, arith}
use Rattle.std.specs.Prelude.{◌&&◌, not}
use Rattle.std.specs.List.{list_any}
use Rattle.std.proofs.lemmas.Bool.{le-leb}
use Rattle.disk_memory.specs.declared.view.Span.{Span}
use Rattle.disk_memory.specs.Views.{covers}
use Rattle.disk_memory.proofs.view.View.is_sure.Goals as goal

pub returns-then-place-len : goal.returns-then-place-len
returns-then-place-len c =
    let inside : nat_lt c.args.place (length c.args.self.now.stable.items) ≡ true =
    (let e = c.len.ensures in let t = c.if-place-len.true in le-leb (suc c.args.place) (length c.args.self.now.stable.items) (omega (arith, e, t, c.args.self.now.stable.ok.0))) in
    ap (λ b. not b) (c.is_written.ensures ∙ ap (λ (l : List Span). list_any (λ span. covers c.args.place span) l) c.deref.ensures.value)
    ∙ sym (ap (λ b. b && not (list_any (λ span. covers c.args.place span) c.args.self.now.written.items)) inside)
