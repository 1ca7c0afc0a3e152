use Rattle.std.proofs.Common.{◌≡◌, map, sym, subst, true}
use Rattle.name_index.specs.Runs.{key_in, IsHead}
use Rattle.name_index.proofs.Reading.{head-tested}
use Rattle.name_index.proofs.run.is_repeated.Goals as goal

pub returns-in-Some : goal.returns-in-Some
returns-in-Some c =
    let key = key_in c.args.stretch.now.bytes.now c.args.stretch.now.at in
    let k = key c.args.entry.now in
    let heads = map key c.args.others.now in
    let item = c.in-Some.ensures.item in
    subst (λ b. (b ≡ true → IsHead k heads) × (IsHead k heads → b ≡ true)) (sym c.is_eq.ensures)
    (head-tested key k c.args.others.now c.in-Some.next.now c.compare.result item.3.0 item.1 c.compare.ensures)
