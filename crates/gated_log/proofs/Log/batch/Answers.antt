use Rattle.std.proofs.Common.{◌≡◌, ◌<◌, ◌+◌, ℕ, List, [], get_or, length, sym, ◌∙◌, ap, subst, arith}
use Rattle.std.proofs.lemmas.Grind.{get_or_default_zero}
use Rattle.gated_log.specs.Held.{Held, length_behind, payload_behind}
use Rattle.gated_log.proofs.Places.{inside, length-payloads_at, payloads_at-index}
use Rattle.gated_log.proofs.Log.batch.Goals as goal

pub index-requires : goal.index-requires
index-requires c =
    let below : c.args.k < length c.self.inside.gates.items = (let e = ap (λ (l : Held). length l.payloads) c.self.view_is in let n = length-payloads_at c.self.inside.gates.items c.self.inside.bytes.items in omega (arith, e, n, c.requires)) in
    omega (arith, below, c.self.inside.gates.ok.0)

pub payload_at-requires : goal.payload_at-requires
payload_at-requires c =
    let below : c.args.k < length c.self.inside.gates.items = (let e = ap (λ (l : Held). length l.payloads) c.self.view_is in let n = length-payloads_at c.self.inside.gates.items c.self.inside.bytes.items in omega (arith, e, n, c.requires)) in
    let is : c.index.result.now ≡ get_or c.self.inside.gates.items c.args.k 0 = c.index.ensures ∙ get_or_default_zero c.self.inside.gates.items c.args.k c.index.result.now below in
    subst (λ (l : List ℕ). c.index.result.now + 9 + length_behind l c.index.result.now < length l) (sym c.deref.ensures.value)
    (subst (λ (n : ℕ). n + 9 + length_behind c.self.inside.bytes.items n < length c.self.inside.bytes.items) (sym is) (inside c.self.inside.gates.items c.self.inside.bytes.items c.self.inside.limit c.args.k c.self.invariant below))

pub returns : goal.returns
returns c =
    let below : c.args.k < length c.self.inside.gates.items = (let e = ap (λ (l : Held). length l.payloads) c.self.view_is in let n = length-payloads_at c.self.inside.gates.items c.self.inside.bytes.items in omega (arith, e, n, c.requires)) in
    let is : c.index.result.now ≡ get_or c.self.inside.gates.items c.args.k 0 = c.index.ensures ∙ get_or_default_zero c.self.inside.gates.items c.args.k c.index.result.now below in
    c.payload_at.ensures ∙ ap (λ (l : List ℕ). payload_behind l c.index.result.now) c.deref.ensures.value ∙ ap (payload_behind c.self.inside.bytes.items) is
    ∙ payloads_at-index c.self.inside.gates.items c.self.inside.bytes.items c.args.k below ∙ ap (λ (l : Held). get_or l.payloads c.args.k []) c.self.view_is
