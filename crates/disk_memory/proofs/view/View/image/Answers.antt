use Rattle.std.proofs.Common.{arith}
use Rattle.disk_memory.proofs.Viewing.{chosen}
use Rattle.disk_memory.proofs.view.View.image.Goals as goal

pub returns : goal.returns
returns c = λ scene s. chosen scene c.args.self.now c.args.fill c.args.size c.places.place c.places.image.items s c.places.invariant
    (let a = c.max-wanted.ensures in let b = c.min.ensures in let d = c.len-greatest.ensures in let e = c.len.ensures in let f = c.args.self.now.stable.ok.0 in let h = c.args.self.now.bytes.ok.0 in let i = c.places-test.false in let j = c.places.auto.place-end in
    omega (arith, a, b, d, e, f, h, i, j))
