use Rattle.dag_run.proofs.program.load.Goals as goal

pub returns-in-Err-Frame-clause-opens : goal.returns-in-Err-Frame-clause-opens
returns-in-Err-Frame-clause-opens g c = λ payloads w. rw c.in-Err-Frame.field-0-is at c.in-Err-Frame.ensures.opens payloads w

pub returns-in-Err-Batch-clause-opens : goal.returns-in-Err-Batch-clause-opens
returns-in-Err-Batch-clause-opens g c = λ payloads w. rw c.in-Err-Batch.field-0-is at c.in-Err-Batch.ensures.opens payloads w
