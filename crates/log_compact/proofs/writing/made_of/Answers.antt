use Rattle.std.proofs.Common.{◌∙◌, ap}
use Rattle.gated_log.specs.Log.{log_length}
use Rattle.gated_log.specs.Held.{log_bytes}
use Rattle.payload_tables.specs.Kept.{PlainOthers}
use Rattle.log_compact.proofs.FromLog.{masters-size, others-size}
use Rattle.log_compact.proofs.writing.made_of.Goals as goal

pub returns : goal.returns
returns c = λ added t s e. record {
  lawful = t.lawful;
  size = c.bytes.ensures.size ∙ ap log_length e;
  each = λ w hold. record {
    texts = c.in_ok-text.ensures added w t s e hold;
    master = c.master_count.ensures ∙ masters-size c.args.tables.now added w t hold;
    others = c.from.ensures ∙ c.count.ensures ∙ ap (λ (o : PlainOthers). o.count) c.others.ensures ∙ others-size c.args.tables.now (log_bytes c.args.log.now) added w t s hold;
  };
}
