use Rattle.remote_bundle.proofs.Sound.{honest-bundle, sound-bundle}
use Rattle.remote_bundle.proofs.laws.mirrors_of_bundles.Goals as goal

pub returns-clause-honest : goal.returns-clause-honest
returns-clause-honest c = honest-bundle c.worlds_have_bundles.ensures.bundle

pub returns-clause-sound : goal.returns-clause-sound
returns-clause-sound c = sound-bundle
