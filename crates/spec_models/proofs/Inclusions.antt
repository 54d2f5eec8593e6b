-- Whatever is made of two intervals, inclusion is kept.
pub use Rattle.spec_models.proofs.NarrowedInclusions.{Includes-outer, Includes-narrow}
pub use Rattle.spec_models.proofs.Coarse.{Includes-refl, Includes-coarsened, Includes-not_negative, Includes-not_positive, Includes-negative}
pub use Rattle.spec_models.proofs.ProductInclusions.{Includes-ordered, Includes-product}
pub use Rattle.spec_models.proofs.SumInclusions.{Includes-sum, Includes-negated, Includes-difference}
pub use Rattle.spec_models.proofs.Squares.{Includes-signed_square, Includes-twice_size, Includes-offsets}
pub use Rattle.spec_models.proofs.Meets.{Includes-meet}
pub use Rattle.spec_models.proofs.Enclosures.{product_ordered, holds_ordered, IncludesEnclosure-parts}
