use Rattle.dag_run.proofs.Anew.{answer-status, of-log-disk, of-no-log, of-spare-disk, of-log}
use Rattle.dag_run.proofs.compacting.compact_log.Goals as goal

pub returns-clause-known : goal.returns-clause-known
returns-clause-known g c = answer-status c.compact-answer.result c.tell_answer.result c.tell_answer.ensures.has

pub returns-clause-means : goal.returns-clause-means
returns-clause-means g c = record {
  answer = c.compact-answer.result;
  has = c.tell_answer.ensures.has;
  puts = c.tell_answer.ensures.puts;
  reads = c.compact-answer.ensures.reads;
  writes = c.compact-answer.ensures.writes;
  shrinks = c.compact-answer.ensures.shrinks;
  moments = c.compact-answer.ensures.moments;
  done = c.compact-answer.ensures.done;
  loaded = c.compact-answer.ensures.loaded;
  unwritten = c.compact-answer.ensures.unwritten;
}

pub returns-clause-quiet : goal.returns-clause-quiet
returns-clause-quiet g c = λ e. c.compact-answer.ensures.quiet (of-log c.compact-answer.result c.tell_answer.result c.tell_answer.ensures.has e)

pub returns-clause-unwritten : goal.returns-clause-unwritten
returns-clause-unwritten g c = λ e. c.compact-answer.ensures.from_unwritten (of-no-log c.compact-answer.result c.tell_answer.result c.tell_answer.ensures.has e)

pub returns-clause-disk : goal.returns-clause-disk
returns-clause-disk g c = λ e.
    let p = of-log-disk c.compact-answer.result c.tell_answer.result c.tell_answer.ensures.has e in
    c.compact-answer.ensures.from_cause p.0 p.1

pub returns-clause-spare_disk : goal.returns-clause-spare_disk
returns-clause-spare_disk g c = λ e.
    let p = of-spare-disk c.compact-answer.result c.tell_answer.result c.tell_answer.ensures.has e in
    c.compact-answer.ensures.to_cause p.0 p.1
