use Rattle.std.proofs.Common.{sym, subst, ℤ, w32}
use Rattle.std.proofs.lemmas.Int.{to_z-of_z}
use Rattle.spec_models.specs.Models.{Model, IsNear, model}
use Rattle.span_models.specs.Settled.{at_coarser}
use Rattle.span_models.proofs.NearSums.{coarser_near}
use Rattle.span_models.proofs.settling.settled.Goals as goal

pub returns-then-is_model_exponent : goal.returns-then-is_model_exponent
returns-then-is_model_exponent c p q r g near =
    subst (λ (m : Model). IsNear m p q r) (sym c.rounded_model.ensures) (subst (λ (s : ℤ). IsNear (at_coarser c.normalizing_shift-k.result (model c.args.wide.now c.args.error s)) p q r) (sym (to_z-of_z w32 c.args.exponent c.ranges.exponent)) (coarser_near c.changes.ensures.raised c.normalizing_shift-k.result (model c.args.wide.now c.args.error c.args.exponent) c.requires.count p q r g near))
