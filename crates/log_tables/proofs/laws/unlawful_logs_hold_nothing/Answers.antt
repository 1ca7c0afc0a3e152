use Rattle.std.proofs.Common.{[]}
use Rattle.log_tables.proofs.Unlawful.{none-lawful}
use Rattle.log_tables.proofs.laws.unlawful_logs_hold_nothing.Goals as goal

pub returns : goal.returns
returns c = λ texts k payloads first spelled lawful. none-lawful [] texts k payloads first spelled lawful
