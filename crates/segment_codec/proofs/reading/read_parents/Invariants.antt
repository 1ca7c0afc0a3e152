use Rattle.segment_codec.proofs.Lists.{ReadSoFar}
use Rattle.segment_codec.proofs.reading.read_parents.Given as goal

abbrev pub invariant-numbers : goal.invariant-numbers
invariant-numbers l = ReadSoFar l.end l.count l.bytes l.counter l.rest
