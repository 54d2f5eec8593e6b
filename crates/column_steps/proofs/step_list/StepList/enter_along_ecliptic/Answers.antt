use Rattle.std.proofs.Common.{◌∙◌, ap, arith}
use Rattle.spec_bodies.specs.Coordinates.{ecliptic_coordinate}
use Rattle.spec_steps.specs.declared.sights.Sight.{Sight}
use Rattle.column_steps.specs.Places.{displacement_of}
use Rattle.column_steps.proofs.Entered.{grows_on}
use Rattle.column_steps.proofs.Framed.{in_ecliptic, moved, of_first, of_second, restated, y_listed, z_listed}
use Rattle.column_steps.proofs.step_list.StepList.enter_along_ecliptic.Goals as goal

pub enter_turned_if-y-requires-clause-operands : goal.enter_turned_if-y-requires-clause-operands
enter_turned_if-y-requires-clause-operands c = λ is.
    let y = c.enter_displacement_if-own_y.ensures in
    let z = c.enter_displacement_if-own_z.ensures in
    let turned = c.is_either_wanted-turned.ensures ∙ of_first _ _ is in
    let frame = ap (λ (s : Sight). s.frame) (z.grown.sight ∙ y.grown.sight ∙ c.enter_displacement_if-x.ensures.grown.sight) ∙ c.requires.frame in
    y_listed _ c.args.quantity c.args.target frame _ _ (moved (λ s. displacement_of s c.args.target 1) _ _ 8 _ c.args.quantity z.grown (y.made turned)) (z.made turned)

pub enter_turned_if-z-requires-clause-operands : goal.enter_turned_if-z-requires-clause-operands
enter_turned_if-z-requires-clause-operands c = λ is.
    let q = c.args.quantity in
    let target = c.args.target in
    let y = c.enter_displacement_if-own_y.ensures in
    let z = c.enter_displacement_if-own_z.ensures in
    let w = c.enter_turned_if-y.ensures in
    let turned = c.is_either_wanted-turned.ensures ∙ of_second _ _ is in
    let frame = ap (λ (s : Sight). s.frame) (w.grown.sight ∙ z.grown.sight ∙ y.grown.sight ∙ c.enter_displacement_if-x.ensures.grown.sight) ∙ c.requires.frame in
    let later = grows_on _ _ _ 8 3 11 (omega arith) z.grown w.grown in
    z_listed _ q target frame _ _ (moved (λ s. displacement_of s target 1) _ _ 11 _ q later (y.made turned)) (moved (λ s. displacement_of s target 2) _ _ 3 _ q w.grown (z.made turned))

pub returns-clause-grown : goal.returns-clause-grown
returns-clause-grown c =
    let xy = grows_on _ _ _ 8 8 16 (omega arith) c.enter_displacement_if-x.ensures.grown c.enter_displacement_if-own_y.ensures.grown in
    let turned = grows_on _ _ _ 3 3 6 (omega arith) c.enter_turned_if-y.ensures.grown c.enter_turned_if-z.ensures.grown in
    grows_on _ _ _ 24 6 30 (omega arith) (grows_on _ _ _ 16 8 24 (omega arith) xy c.enter_displacement_if-own_z.ensures.grown) turned

pub returns-clause-made : goal.returns-clause-made
returns-clause-made c =
    let q = c.args.quantity in
    let target = c.args.target in
    let x = c.enter_displacement_if-x.ensures in
    let y = c.enter_displacement_if-own_y.ensures in
    let z = c.enter_displacement_if-own_z.ensures in
    let v = c.enter_turned_if-y.ensures in
    let w = c.enter_turned_if-z.ensures in
    let frame = ap (λ (s : Sight). s.frame) (w.grown.sight ∙ v.grown.sight ∙ z.grown.sight ∙ y.grown.sight ∙ x.grown.sight) ∙ c.requires.frame in
    let own = grows_on _ _ _ 8 8 16 (omega arith) y.grown z.grown in
    let both = grows_on _ _ _ 3 3 6 (omega arith) v.grown w.grown in
    let all = grows_on _ _ _ 16 6 22 (omega arith) own both in
    record {
      x = λ is. in_ecliptic _ q target 0 _ frame (moved (λ s. displacement_of s target 0) _ _ 22 _ q all (x.made is));
      y = λ is.
          let turned = c.is_either_wanted-turned.ensures ∙ of_first _ _ is in
          in_ecliptic _ q target 1 _ frame
          (moved (λ s. ecliptic_coordinate (displacement_of s target) 1) _ _ 3 _ q w.grown
          (restated (λ s. ecliptic_coordinate (displacement_of s target) 1) _ _ 3 _ q v.grown (v.made is _ _ (moved (λ s. displacement_of s target 1) _ _ 8 _ q z.grown (y.made turned)) (z.made turned))));
      z = λ is.
          let turned = c.is_either_wanted-turned.ensures ∙ of_second _ _ is in
          in_ecliptic _ q target 2 _ frame
          (restated (λ s. ecliptic_coordinate (displacement_of s target) 2) _ _ 3 _ q w.grown
          (w.made is _ _ (moved (λ s. displacement_of s target 2) _ _ 3 _ q v.grown (z.made turned)) (moved (λ s. displacement_of s target 1) _ _ 3 _ q v.grown (moved (λ s. displacement_of s target 1) _ _ 8 _ q z.grown (y.made turned)))));
    }
