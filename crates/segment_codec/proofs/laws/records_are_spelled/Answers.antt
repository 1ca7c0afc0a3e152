use Rattle.segment_codec.proofs.Lengths.{record-parts}
use Rattle.segment_codec.proofs.Records.{one-record}
use Rattle.segment_codec.proofs.laws.records_are_spelled.Goals as goal

pub returns-clause-one : goal.returns-clause-one
returns-clause-one c = one-record

pub returns-clause-parts : goal.returns-clause-parts
returns-clause-parts c = record-parts
