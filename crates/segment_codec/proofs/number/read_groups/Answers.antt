use Rattle.std.proofs.Common.{◌≡◌, ◌≤◌, ◌+◌, ◌*◌, ◌%◌, ◌^◌, ◌∙◌, ℕ, false, inl, inr, ◌⊎◌, ltb, eqb, ◌&&◌, subst, ap, arith}
use Rattle.std.proofs.lemmas.Bool.{and_left, and_right, le-ltb, ne_eqb}
use Rattle.std.proofs.lemmas.List.{nil_from_length}
use Rattle.segment_codec.proofs.Groups.{Reads, reads-first, reads-more, reads-end, reads-last, reads-zero, reads-large, reads-long}
use Rattle.segment_codec.proofs.number.read_groups.Goals as goal

pub groups-init : goal.groups-init
groups-init c = reads-first c.args.bytes.now (λ i. omega (arith, c.type_inv.bytes i))

pub returns-in_err-value : goal.returns-in_err-value
returns-in_err-value c =
    let reads = subst (Reads c.args.bytes.now c.groups.value c.groups.unit) c.in-Some.ensures.cases.0 c.groups.invariant in
    let large = c.in_err-value.ensures in
    rw c.from_residual.ensures (reads-large c.args.bytes.now c.groups.value c.groups.unit c.in-Some.first.now c.in-Some.others.now reads
    (subst (λ (g : ℕ). 2 ^ 64 ≤ c.groups.value + c.groups.unit * g) c.from.ensures large))

pub returns-then-unit-gt1 : goal.returns-then-unit-gt1
returns-then-unit-gt1 c =
    let reads = subst (Reads c.args.bytes.now c.groups.value c.groups.unit) c.in-Some.ensures.cases.0 c.groups.invariant in
    reads-zero c.args.bytes.now c.groups.value c.groups.unit c.in-Some.first.now c.in-Some.others.now reads c.if-first-eq0.true c.if-unit-gt1.true

either-test : (first unit : ℕ) → ((first ≡ 0) × (unit ≤ 1)) ⊎ (first ≡ 0 → ⊥) → (eqb first 0 && ltb 1 unit) ≡ false
either-test first unit (inl h) = and_right (eqb first 0) (ltb 1 unit) (le-ltb 1 unit h.1)
either-test first unit (inr h) = and_left (eqb first 0) (ltb 1 unit) (ne_eqb first 0 h)

pub returns-else-first-eq0 : goal.returns-else-first-eq0
returns-else-first-eq0 c =
    let reads = subst (Reads c.args.bytes.now c.groups.value c.groups.unit) c.in-Some.ensures.cases.0 c.groups.invariant in
    let first = c.in-Some.first.now in
    let small = c.if-first-lt-MORE.true in
    let group : first % 128 ≡ first = omega (arith, small) in
    let sum : c.in_ok-value.value ≡ c.groups.value + c.groups.unit * first = c.in_ok-value.ensures.0 ∙ ap (λ (g : ℕ). c.groups.value + c.groups.unit * g) (c.from.ensures ∙ group) in
    let fits = c.in_ok-value.ensures.1 in
    rw sum (reads-last c.args.bytes.now c.groups.value c.groups.unit first c.in-Some.others.now reads small (either-test first c.groups.unit c.else-first-eq0.either) (omega (arith, sum, fits)))

pub returns-in_err-unit : goal.returns-in_err-unit
returns-in_err-unit c =
    let reads = subst (Reads c.args.bytes.now c.groups.value c.groups.unit) c.in-Some.ensures.cases.0 c.groups.invariant in
    let large = c.in_err-unit.ensures in
    rw c.from_residual-in_err-unit.ensures (reads-long c.args.bytes.now c.groups.value c.groups.unit c.in-Some.first.now c.in-Some.others.now reads c.if-first-lt-MORE.false (omega (arith, large)))

pub groups-preserved : goal.groups-preserved
groups-preserved c =
    let reads = subst (Reads c.args.bytes.now c.groups.value c.groups.unit) c.in-Some.ensures.cases.0 c.groups.invariant in
    let sum : c.in_ok-value.value ≡ c.groups.value + c.groups.unit * (c.in-Some.first.now % 128) = c.in_ok-value.ensures.0 ∙ ap (λ (g : ℕ). c.groups.value + c.groups.unit * g) c.from.ensures in
    let unit : c.in_ok-unit.unit ≡ c.groups.unit * 128 = c.in_ok-unit.ensures.1 in
    rw (sum, unit) (reads-more c.args.bytes.now c.groups.value c.groups.unit c.in-Some.first.now c.in-Some.others.now reads c.if-first-lt-MORE.false)

pub returns : goal.returns
returns c =
    let nothing = nil_from_length c.groups.rest.now c.in_default.ensures.cases in
    reads-end c.args.bytes.now c.groups.value c.groups.unit (subst (Reads c.args.bytes.now c.groups.value c.groups.unit) nothing c.groups.invariant)
