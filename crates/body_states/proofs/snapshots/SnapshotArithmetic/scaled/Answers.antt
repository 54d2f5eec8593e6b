use Rattle.std.proofs.Common.{◌≡◌, ◌∙◌, ap, sym, subst}
use Rattle.spec_bodies.specs.Meanings.{factor_interval}
use Rattle.spec_bodies.specs.Views.{Fits, factor_of}
use Rattle.spec_expressions.specs.Term.{part_exponent}
use Rattle.spec_intervals.specs.Enclosure.{AllWithin, Encloses, constant_of, product_of}
use Rattle.spec_steps.specs.ColumnTerms.{scaled as term_of}
use Rattle.spec_steps.proofs.Parts.{scaled_part}
use Rattle.body_states.specs.Moments.{Moment}
use Rattle.body_states.proofs.Good.{constant_encloses, constant_within, factor_number, factor_within, one}
use Rattle.body_states.proofs.snapshots.SnapshotArithmetic.scaled.Goals as goal
use Rattle.body_states.proofs.snapshots.SnapshotArithmetic.scaled.Goals.{After-constant-constant, After-factor}

fits : (c : After-factor) → Fits c.args.self.now.view c.args.self.now.first c.args.self.now.last
fits c = subst (λ (m : Moment). Fits m.view m.first m.last) c.self.view_is c.self.invariant.2

-- the factor is that of the view, and so is the enclosure that is constant
same : (c : After-factor) → c.factor.result ≡ factor_interval (factor_of c.args.self.now.view c.args.factor)
same c = c.factor.ensures ∙ λ i. factor_interval (factor_of (c.self.view_is i).view c.args.factor)

constant : (c : After-constant-constant) → c.constant-constant.result ≡ constant_of c.args.self.now.first c.args.self.now.last (factor_interval (factor_of c.args.self.now.view c.args.factor))
constant c =
    let own = c.factor.ensures ∙ λ i. factor_interval (factor_of (c.self.view_is i).view c.args.factor) in
    c.constant-constant.ensures ∙ λ i. constant_of (c.self.view_is i).first (c.self.view_is i).last (own i)

pub constant-constant-requires-clause-within : goal.constant-constant-requires-clause-within
constant-constant-requires-clause-within c = rw (same c) (factor_within c.args.self.now.view (fits c).view c.args.factor)

pub constant-constant-requires-clause-number : goal.constant-constant-requires-clause-number
constant-constant-requires-clause-number c = rw (same c) (factor_number c.args.self.now.view (fits c).view c.args.factor)

pub product-requires : goal.product-requires
product-requires c =
    let first = ap (λ (m : Moment). m.first) c.self.view_is in
    let last = ap (λ (m : Moment). m.last) c.self.view_is in
    let own = fits (goal.at.product-requires c).After-factor in
    let same_constant = constant (goal.at.product-requires c).After-constant-constant in
    let x = one c.listed_enclosures_are_within_limits.ensures _ _ c.self.view_is c.self.invariant.2 (term_of c.args.factor) (scaled_part _ c.args.factor) c.args.x.now c.requires.operand in
    record {
      x_within = subst (AllWithin part_exponent) (sym same_constant) (constant_within c.args.self.now.view own.view c.args.factor _ _);
      y_within = x.within;
      x_encloses = rw (first, last) (subst (Encloses c.args.self.now.first c.args.self.now.last) (sym same_constant) (constant_encloses c.args.self.now.view own.view c.args.factor _ _ own.ordered));
      y_encloses = x.encloses;
    }

pub returns : goal.returns
returns c =
    let own = constant (goal.at.returns c).After-constant-constant in
    λ p part x. c.product.ensures ∙ λ i. product_of (c.self.view_is i).first (c.self.view_is i).last (own i) (x i)
