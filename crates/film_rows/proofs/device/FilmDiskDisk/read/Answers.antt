use Rattle.std.proofs.Common.{◌≡◌, ◌≤◌, ◌-◌, ℕ, min, length, take, sym, ◌∙◌, subst, subst₂, List}
use Rattle.disk_trait.specs.Meanwhile.{AreRead}
use Rattle.film_rows.specs.Films.{turning, of_two}
use Rattle.film_rows.proofs.Filming.{read-twice, film-longer}
use Rattle.film_rows.proofs.device.FilmDiskDisk.read.Goals as goal

pub returns-clause-read : goal.returns-clause-read
returns-clause-read c =
    let d = c.args.self.now in
    let film : ℕ → List ℕ = turning d.change d.first.items d.later.items in
    let n = c.copy_in_two-count.result in
    let at = c.args.at in
    let out0 = c.args.out.now in
    let out1 = c.copy_in_two-count.new.out in
    let le = c.next.ensures.later in
    subst (λ (to : ℕ). AreRead film d.moment to at (take n out1) × (min (length out1) (length (film d.moment) - at) ≤ n)) (c.next.ensures.next ∙ sym c.pass.ensures.next)
    (read-twice film d.moment c.next.result at d.split n out0 out1 le (film-longer d.change d.first.items d.later.items d.longer d.moment c.next.result le)
    (subst (λ (b : List ℕ). n ≡ min (length out0) (length b - at)) c.bytes-later.ensures c.copy_in_two-count.ensures.count)
    (subst₂ (λ (a b : List ℕ). out1 ≡ of_two at (min (min d.split (length out0)) (length a - at)) n a b out0) c.bytes-earlier.ensures c.bytes-later.ensures c.copy_in_two-count.ensures.bytes))
