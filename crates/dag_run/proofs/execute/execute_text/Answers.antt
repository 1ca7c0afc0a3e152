use Rattle.outside.proofs.ToldLemmas.{WhereTold-map}
use Rattle.command_lines.specs.Meant.{meant}
use Rattle.run_rules.specs.Grammar.{SpellsCommand}
use Rattle.dag_run.proofs.Solo.{read-of}
use Rattle.dag_run.proofs.execute.execute_text.Goals as goal

pub returns : goal.returns
returns g c =
    let text = c.args.text.now in
    let p = c.execute_parsed-next.ensures in
    let parsed = c.parse-parsed.ensures in
    let read = read-of (λ command. SpellsCommand text command.session (meant command.verb)) text c.parse-parsed.result parsed.ok parsed.syntax parsed.memory in (record {
      payload = p.payload;
      clock = p.clock;
      noted = p.noted;
      leaves = p.leaves;
      tells = WhereTold-map (g.O.Sink.taken c.args.output.now) (g.O.Sink.taken c.execute_parsed-next.new.output) _ _ (λ before now h le. h text c.requires.heard le read) p.tells;
      ends = p.ends;
    })
