use Rattle.std.proofs.Common.{rules, ◌≡◌, ◌≤◌, [], map, take, length, sym, subst, arith}
use Rattle.std.proofs.lemmas.List.{take_all}
use Rattle.line_io.specs.Lines.{longest_line}
use Rattle.dag_run.specs.Demo.{IsAnswered, LeadsOn}
use Rattle.dag_run.proofs.Leading.{AsksOn, asks-start, asks-next, asks-end, map-more, all-at}
use Rattle.dag_run.proofs.demo.ask_all.Goals as goal

pub lines-init : goal.lines-init
lines-init g c = record {
  ready = c.requires.ready;
  asks = subst (λ bytes. AsksOn c.args.store [] c.args.store bytes) (sym c.requires.none) (asks-start c.args.store);
}

pub answer-requires-clause-short : goal.answer-requires-clause-short
answer-requires-clause-short g c =
    let same : c.deref.result.now ≡ c.line-item.result.items = search rules in
    subst (λ line. length line ≤ longest_line) (sym same) (all-at IsAnswered (λ line. line.items) c.args.lines.now c.lines.line-index c.line-item.result c.requires.answered c.lines-test.true c.line-item.is).0

pub lines-preserved : goal.lines-preserved
lines-preserved g c =
    let lines = c.args.lines.now in
    let i = c.lines.line-index in
    let item = c.line-item.result in
    let store = c.in_ok-store.store in
    let same : c.deref.result.now ≡ item.items = search rules in
    let heard = (all-at IsAnswered (λ line. line.items) lines i item c.requires.answered c.lines-test.true c.line-item.is).1 in record {
      ready = c.in_ok-store.ensures.ready;
      asks = subst (λ asked. AsksOn c.args.store asked store c.answer.new.replies.taken) (sym (map-more (λ line. line.items) lines i item c.lines-test.true c.line-item.is))
          (asks-next c.args.store c.lines.store store (map (λ line. line.items) (take i lines)) item.items c.lines.replies.taken c.answer.new.replies.taken c.lines.invariant.asks heard
          (subst (λ line. LeadsOn line c.lines.store store c.lines.replies.taken c.answer.new.replies.taken) same c.in_ok-store.ensures.leads));
    }

pub returns : goal.returns
returns g c =
    let lines = c.args.lines.now in
    let bytes = c.lines.replies.taken in
    let over = c.lines-test.false in
    asks-end c.args.store c.lines.store (map (λ line. line.items) lines) bytes
    (subst (λ ls. AsksOn c.args.store (map (λ line. line.items) ls) c.lines.store bytes) (take_all c.lines.line-index lines (omega (arith, over))) c.lines.invariant.asks)
