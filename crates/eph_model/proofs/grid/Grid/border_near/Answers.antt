use Rattle.std.proofs.Common.{◌≡◌, ◌+◌, to_z, of_z, w64}
use Rattle.std.proofs.lemmas.Int.{to_z-of_z}
use Rattle.eph_model.specs.Grids.{IsBorderAt, IsGridBorder}
use Rattle.eph_model.proofs.BorderLemmas.{covered, short_in_grid}
use Rattle.spec_ephemeris.proofs.Nearer.{nearest_of_two}
use Rattle.eph_model.proofs.grid.Grid.border_near.Goals as goal

pub returns : goal.returns
returns c =
    let grid = c.args.self in
    let a = c.args.a in
    let b = c.args.b in
    let j = c.index_before_middle-before.result in
    let middle = c.index_before_middle-before.ensures in
    let same_a : to_z w64 (of_z w64 a) ≡ a = to_z-of_z w64 a c.ranges.a in
    let same_b : to_z w64 (of_z w64 b) ≡ b = to_z-of_z w64 b c.ranges.b in
    rw (c.nearer_border.ensures, same_a, same_b)
    (nearest_of_two (IsBorderAt grid j a b) (IsBorderAt grid (j + 1) a b) (IsGridBorder grid a b) a b _ _
    (rw (same_a, same_b) at c.border_at-last.ensures) (rw (same_a, same_b) at c.border_at-next.ensures)
    (λ s border. record { index = j; border = border }) (λ s border. record { index = j + 1; border = border })
    (λ s border. covered grid a b s j c.requires.order middle.in_range
    (rw (same_a, same_b) at middle.from) (rw (same_a, same_b) at middle.before) border))

pub nearer_border-requires-clause-first : goal.nearer_border-requires-clause-first
nearer_border-requires-clause-first c =
    let same_a : to_z w64 (of_z w64 c.args.a) ≡ c.args.a = to_z-of_z w64 c.args.a c.ranges.a in
    let same_b : to_z w64 (of_z w64 c.args.b) ≡ c.args.b = to_z-of_z w64 c.args.b c.ranges.b in
    rw (same_a, same_b)
    (short_in_grid (IsBorderAt c.args.self c.index_before_middle-before.result c.args.a c.args.b) c.args.self c.args.a c.args.b c.border_at-last.result
    c.requires.from c.requires.upto (λ s border. (border.after, border.upto)) (rw (same_a, same_b) at c.border_at-last.ensures))

pub nearer_border-requires-clause-second : goal.nearer_border-requires-clause-second
nearer_border-requires-clause-second c =
    let same_a : to_z w64 (of_z w64 c.args.a) ≡ c.args.a = to_z-of_z w64 c.args.a c.ranges.a in
    let same_b : to_z w64 (of_z w64 c.args.b) ≡ c.args.b = to_z-of_z w64 c.args.b c.ranges.b in
    rw (same_a, same_b)
    (short_in_grid (IsBorderAt c.args.self (c.index_before_middle-before.result + 1) c.args.a c.args.b) c.args.self c.args.a c.args.b c.border_at-next.result
    c.requires.from c.requires.upto (λ s border. (border.after, border.upto)) (rw (same_a, same_b) at c.border_at-next.ensures))
