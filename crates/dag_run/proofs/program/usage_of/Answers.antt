use Rattle.std.proofs.Common.{rules, ◌≡◌, Err, inl, refl}
use Rattle.program_words.specs.declared.usage.WordsFault.TheVariants as fault
use Rattle.dag_run.proofs.program.usage_of.Goals as goal

pub returns-in-Err-Usage : goal.returns-in-Err-Usage
returns-in-Err-Usage c =
    let refused : c.read_words.result ≡ Err fault.Usage = search rules in
    inl (refl, c.read_words.ensures.err refused)
