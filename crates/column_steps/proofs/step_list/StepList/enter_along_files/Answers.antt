use Rattle.std.proofs.Common.{◌∙◌, ap, arith}
use Rattle.spec_steps.specs.declared.sights.Sight.{Sight}
use Rattle.column_steps.specs.Places.{displacement_of}
use Rattle.column_steps.proofs.Entered.{grows_on}
use Rattle.column_steps.proofs.Framed.{files_along, moved}
use Rattle.column_steps.proofs.step_list.StepList.enter_along_files.Goals as goal

pub returns-clause-grown : goal.returns-clause-grown
returns-clause-grown c =
    let x = c.enter_displacement_if-x.ensures.grown in
    let y = c.enter_displacement_if-y.ensures.grown in
    grows_on _ _ _ 16 8 30 (omega arith) (grows_on _ _ _ 8 8 16 (omega arith) x y) c.enter_displacement_if-z.ensures.grown

pub returns-clause-made : goal.returns-clause-made
returns-clause-made c =
    let x = c.enter_displacement_if-x.ensures in
    let y = c.enter_displacement_if-y.ensures in
    let z = c.enter_displacement_if-z.ensures in
    let q = c.args.quantity in
    let target = c.args.target in
    let sight = z.grown.sight ∙ y.grown.sight ∙ x.grown.sight in
    files_along _ q target c.args.wanted.now _ (ap (λ (s : Sight). s.frame) sight ∙ c.requires.frame)
    (λ is. moved (λ s. displacement_of s target 0) _ _ 8 _ q z.grown (moved (λ s. displacement_of s target 0) _ _ 8 _ q y.grown (x.made is)))
    (λ is. moved (λ s. displacement_of s target 1) _ _ 8 _ q z.grown (y.made is))
    z.made
