use Rattle.bundle_codec.proofs.Made.{made, one-world}
use Rattle.bundle_codec.proofs.laws.worlds_have_bundles.Goals as goal

pub returns-clause-bundle : goal.returns-clause-bundle
returns-clause-bundle c = made

pub returns-clause-one : goal.returns-clause-one
returns-clause-one c = one-world
