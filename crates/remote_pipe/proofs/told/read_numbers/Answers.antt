use Rattle.std.proofs.Common.{◌≡◌, ◌+◌, ◌-◌, ◌++◌, ◌∷◌, [], length, take, sym, ap, ◌∙◌, arith, slice_set}
use Rattle.std.specs.Int.{w64}
use Rattle.std.proofs.lemmas.List.{take_all}
use Rattle.batch_codec.specs.Reading.{fixed_at}
use Rattle.remote_pipe.specs.Reading.{items_at}
use Rattle.remote_pipe.proofs.ItemsInTurn.{if-none, put_front, one-more, none-more, all-read, set-long, set-front}
use Rattle.remote_pipe.proofs.told.read_numbers.Goals as goal

pub returns-in_err-number-clause-none : goal.returns-in_err-number-clause-none
returns-in_err-number-clause-none c =
    let inv = c.numbers.invariant in
    let lt = c.numbers-test.true in
    let len = inv.len in
    if-none c.from_residual.result _
    (none-more (fixed_at w64) _ (take c.numbers.k c.numbers.numbers) (length c.args.numbers.now) c.numbers.k c.numbers.rest.now (omega (arith, lt, len)) inv.read c.in_err-number.ensures.exact)

pub numbers-preserved : goal.numbers-preserved
numbers-preserved c =
    let inv = c.numbers.invariant in
    let lt = c.numbers-test.true in
    let len = inv.len in
    let n = length c.args.numbers.now in
    let k = c.numbers.k in
    let front : take (k + 1) (slice_set c.numbers.numbers k c.in_ok-number.number) ≡ take k c.numbers.numbers ++ c.in_ok-number.number ∷ [] = set-front c.numbers.numbers k c.in_ok-number.number (omega (arith, lt, len)) in
    record {
      len = set-long c.numbers.numbers k c.in_ok-number.number ∙ len;
      read = one-more (fixed_at w64) _ (take k c.numbers.numbers) n k c.numbers.rest.now c.in_ok-number.behind.now c.in_ok-number.number (omega (arith, lt, len)) inv.read c.in_ok-number.ensures.exact
          ∙ ap (λ l. put_front l (items_at (fixed_at w64) (n - (k + 1)) c.in_ok-number.behind.now)) (sym front);
    }

pub returns-clause-found : goal.returns-clause-found
returns-clause-found c =
    let inv = c.numbers.invariant in
    let end = c.numbers-test.false in
    let most = c.numbers.auto.k-end in
    let len = inv.len in
    let n = length c.args.numbers.now in
    all-read (fixed_at w64) _ c.numbers.numbers n c.numbers.k c.numbers.rest.now (omega (arith, end, most))
    (inv.read ∙ ap (λ l. put_front l (items_at (fixed_at w64) (n - c.numbers.k) c.numbers.rest.now)) (take_all c.numbers.k c.numbers.numbers (omega (arith, end, len))))
