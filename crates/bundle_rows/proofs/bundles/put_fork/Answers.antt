use Rattle.std.proofs.Common.{◌≡◌, refl, subst}
use Rattle.bundle_codec.specs.Building.{IsBuilt, no_contents}
use Rattle.bundle_rows.specs.Fork.{fork_names}
use Rattle.bundle_rows.proofs.Samples.{made, fork, fork_records, fork-is}
use Rattle.bundle_rows.proofs.bundles.put_fork.Goals as goal

pub returns-clause-built : goal.returns-clause-built
returns-clause-built c =
    let a1 = c.in_ok-segment.ensures.ok no_contents c.requires in
    let a2 = c.in_ok-segment-2.ensures.ok _ a1 in
    let a3 = c.in_ok-segment-3.ensures.ok _ a2 in
    let a4 = c.in_ok-put_names.ensures.built _ a3 refl in
    let same : made c.master.result c.master-2.result c.master-3.result c.master-4.result c.master-5.result c.master-6.result c.master-7.result c.master-8.result c.master-9.result ≡ fork_records =
    cc (c.master.ensures, c.master-2.ensures, c.master-3.ensures, c.master-4.ensures, c.master-5.ensures, c.master-6.ensures, c.master-7.ensures, c.master-8.ensures, c.master-9.ensures) in
    (fork, fork-is, subst (λ ss. IsBuilt c.put_names.new.build (record { segments = ss; names = fork_names })) same a4, refl)
