use Rattle.std.proofs.Common.{map, sym, subst}
use Rattle.std.specs.Prelude.{length}
use Rattle.gated_log.specs.Held.{log_bytes}
use Rattle.dag_store.specs.declared.asks.Ask.{Ask}
use Rattle.dag_store.specs.Asks.{verb_of, PreparesAsk}
use Rattle.dag_store.proofs.asks.prepare_ask.Goals as goal

pub returns-in-Flush-clause-prepares : goal.returns-in-Flush-clause-prepares
returns-in-Flush-clause-prepares g c = λ began s added st over of on.
    subst (λ (a : Ask). PreparesAsk c.args.limits st s (length (log_bytes c.args.log.now)) (verb_of a) (map g.R.Remote.shown c.args.sources.mirrors.now.items) (map g.R.Remote.shown c.prepare_flush.new.sources.1.0.items) c.args.sources.cache.now c.prepare_flush.new.sources.0 c.prepare_flush.result) (sym c.in-Flush.is)
    (c.prepare_flush.ensures.step began s added st over of on)

pub returns-in-Strip-clause-prepares : goal.returns-in-Strip-clause-prepares
returns-in-Strip-clause-prepares g c = λ began s added st over of on.
    subst (λ (a : Ask). PreparesAsk c.args.limits st s (length (log_bytes c.args.log.now)) (verb_of a) (map g.R.Remote.shown c.args.sources.mirrors.now.items) (map g.R.Remote.shown c.prepare_strip.new.sources.1.0.items) c.args.sources.cache.now c.prepare_strip.new.sources.0 c.prepare_strip.result) (sym c.in-Strip.is)
    (c.prepare_strip.ensures.step began s added st over on)

pub returns-in-Clone-clause-prepares : goal.returns-in-Clone-clause-prepares
returns-in-Clone-clause-prepares g c = λ began s added st over of on.
    subst (λ (a : Ask). PreparesAsk c.args.limits st s (length (log_bytes c.args.log.now)) (verb_of a) (map g.R.Remote.shown c.args.sources.mirrors.now.items) (map g.R.Remote.shown c.prepare_clone.new.mirrors.items) c.args.sources.cache.now c.args.sources.cache.now c.prepare_clone.result) (sym c.in-Clone.is)
    (c.prepare_clone.ensures.asks began s added st over of on)

pub returns-in-Pull-clause-prepares : goal.returns-in-Pull-clause-prepares
returns-in-Pull-clause-prepares g c = λ began s added st over of on.
    subst (λ (a : Ask). PreparesAsk c.args.limits st s (length (log_bytes c.args.log.now)) (verb_of a) (map g.R.Remote.shown c.args.sources.mirrors.now.items) (map g.R.Remote.shown c.prepare_pull.new.mirrors.items) c.args.sources.cache.now c.args.sources.cache.now c.prepare_pull.result) (sym c.in-Pull.is)
    (c.prepare_pull.ensures.asks began s added st over on)
