use Rattle.spec_meanings.proofs.Existence.{has_scene, view_has_scene}
use Rattle.spec_meanings.proofs.laws.scenes_exist.Goals as goal

pub returns-clause-some : goal.returns-clause-some
returns-clause-some c = has_scene

pub returns-clause-views : goal.returns-clause-views
returns-clause-views c = view_has_scene
