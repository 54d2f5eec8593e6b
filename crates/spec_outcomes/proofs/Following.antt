-- Leaves that follow one another stand each for some time.
pub use Rattle.spec_trees.proofs.Covering.{all_have_time}
