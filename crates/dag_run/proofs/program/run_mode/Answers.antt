use Rattle.std.proofs.Common.{refl, sym, subst, ◌∙◌}
use Rattle.std.proofs.lemmas.List.{length-map}
use Rattle.program_words.specs.declared.usage.Mode.TheVariants.{Run, Demo, Serve, Bundle, Compact}
use Rattle.dag_run.specs.Serving.{WantsOne}
use Rattle.dag_run.proofs.Headline.{does-in, run-causes, demo-causes, serve-causes, bundle-causes, compact-causes}
use Rattle.dag_run.proofs.program.run_mode.Goals as goal

pub returns-in-Run : goal.returns-in-Run
returns-in-Run g c =
    let run = c.run_lines.ensures in
    let status = c.run_lines.result.status in
    does-in c.args.usage _ c.run_lines.result.changes Run c.in-Run.is status status refl
    (rw c.standard-limits.ensures at run.does, refl)
    run.known (run-causes _ status run.known run.disk run.unwritten run.source run.sink run.quiet)

pub returns-in-Demo : goal.returns-in-Demo
returns-in-Demo g c =
    let demo = c.demo.ensures in
    let status = c.demo.result in
    does-in c.args.usage _ c.idle.result.changes Demo c.in-Demo.is status c.idle.result.status c.idle.ensures.status
    (record { means = demo.means; log = refl; spare = refl; mirrors = refl; input = refl; none = c.idle.ensures.changes })
    demo.known (demo-causes _ status demo.known demo.sink (λ e. (refl, demo.quiet e, refl)))

pub returns-in-Serve : goal.returns-in-Serve
returns-in-Serve g c =
    let serve = c.serve_mirror.ensures in
    let status = c.serve_mirror.result in
    let same = length-map c.args.mirrors.now.list.items g.R.Remote.shown in
    does-in c.args.usage _ c.idle-in-Serve.result.changes Serve c.in-Serve.is status c.idle-in-Serve.result.status c.idle-in-Serve.ensures.status
    (record {
      means = λ one. rw c.standard-limits.ensures at serve.means (sym same ∙ one);
      one = subst (λ n. WantsOne n status) (sym same) serve.one;
      log = refl;
      spare = refl;
      none = c.idle-in-Serve.ensures.changes;
    })
    serve.known (serve-causes _ status serve.known serve.source serve.sink serve.quiet)

pub returns-in-Bundle : goal.returns-in-Bundle
returns-in-Bundle g c =
    let put = c.put_bundle.ensures in
    let status = c.put_bundle.result in
    does-in c.args.usage _ c.idle-in-Bundle.result.changes Bundle c.in-Bundle.is status c.idle-in-Bundle.result.status c.idle-in-Bundle.ensures.status
    (record {
      means = rw c.standard-limits.ensures at put.means;
      refuses = rw c.standard-limits.ensures at put.refuses;
      holds = rw c.standard-limits.ensures at put.holds;
      loaded = put.loaded;
      nothing = put.quiet;
      spare = refl;
      mirrors = refl;
      input = refl;
      none = c.idle-in-Bundle.ensures.changes;
    })
    put.known (bundle-causes _ status put.known refl refl put.quiet put.disk put.unwritten put.sink)

pub returns-in-Compact : goal.returns-in-Compact
returns-in-Compact g c =
    let anew = c.compact_log.ensures in
    let status = c.compact_log.result in
    does-in c.args.usage _ c.idle-in-Compact.result.changes Compact c.in-Compact.is status c.idle-in-Compact.result.status c.idle-in-Compact.ensures.status
    (record {
      means = rw c.standard-limits.ensures at anew.means;
      holds = rw c.standard-limits.ensures at anew.holds;
      loaded = anew.loaded;
      nothing = anew.nothing;
      spare = anew.quiet;
      mirrors = refl;
      input = refl;
      none = c.idle-in-Compact.ensures.changes;
    })
    anew.known (compact-causes _ status anew.known refl refl anew.nothing anew.disk anew.unwritten anew.sink anew.spare_disk)
