use Rattle.std.proofs.Common.{rules, FitsSigned, ◌≡◌, ◌∙◌, ap, sym, subst, pos, ◌*ℤ◌, to_z, of_z, w64}
use Rattle.std.proofs.lemmas.Int.{to_z-of_z}
use Rattle.spec_ephemeris.specs.Ephemeris.{Ephemeris, IsEphemeris}
use Rattle.spec_ephemeris.specs.Ticks.{IsInSeconds, in_ticks}
use Rattle.spec_ephemeris.proofs.Ticks.{are_checked}
use Rattle.eph_model.proofs.ephemeris.Ephemeris.in_ticks.Goals as goal

pub invariant_of-result : goal.invariant_of-result
invariant_of-result c =
    let inside = c.self.inside in
    let e : Ephemeris = record { header = inside.header; start = inside.start; blocks = inside.blocks; numbers = inside.numbers.items } in
    let seconds : IsInSeconds e = rw (← c.self.view_is) at c.requires.seconds in
    let checked : IsEphemeris (in_ticks c.args.tick e) = are_checked c.args.tick e c.requires.tick c.self.invariant.0 seconds in
    let fits : FitsSigned w64 c.start_in_ticks-start.result = search rules in
    let start : to_z w64 (of_z w64 c.start_in_ticks-start.result) ≡ inside.start *ℤ pos c.args.tick =
    to_z-of_z w64 c.start_in_ticks-start.result fits ∙ (c.start_in_ticks-start.ensures ∙ ap (λ (x : Ephemeris). x.start *ℤ pos c.args.tick) (sym c.self.view_is))
    in (
      subst IsEphemeris (λ i. record { header = sym c.header_in_ticks.ensures i; start = sym start i; blocks = inside.blocks; numbers = inside.numbers.items }) checked,
      c.self.invariant.1,
    )

pub returns : goal.returns
returns c =
    let inside = c.self.inside in
    let fits : FitsSigned w64 c.start_in_ticks-start.result = search rules in
    let start : to_z w64 (of_z w64 c.start_in_ticks-start.result) ≡ inside.start *ℤ pos c.args.tick =
    to_z-of_z w64 c.start_in_ticks-start.result fits ∙ (c.start_in_ticks-start.ensures ∙ ap (λ (x : Ephemeris). x.start *ℤ pos c.args.tick) (sym c.self.view_is))
    in
    (λ i. record { header = c.header_in_ticks.ensures i; start = start i; blocks = inside.blocks; numbers = inside.numbers.items })
    ∙ ap (in_ticks c.args.tick) c.self.view_is
