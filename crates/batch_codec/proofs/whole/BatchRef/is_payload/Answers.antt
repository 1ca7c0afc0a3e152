use Rattle.batch_codec.specs.Lent.{payload_of}
use Rattle.batch_codec.proofs.Payloads.{payload_takes}
use Rattle.batch_codec.proofs.whole.BatchRef.is_payload.Goals as goal

pub returns-clause-payload : goal.returns-clause-payload
returns-clause-payload c =
    let t = payload_takes c.args.self.now.payload.now (payload_of c.args.self.now) c.are_bytes.ensures c.args.self.now.read in
    t.whole
