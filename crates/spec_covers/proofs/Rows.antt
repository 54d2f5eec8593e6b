-- The entries of the rows of T and U at one time are near models that are made by the same steps.
use Rattle.std.proofs.Common.{ℕ, suc, ◌*◌, ◌^◌, arith, ℤ, pos, ◌+ℤ◌, ◌*ℤ◌, neg_ℤ, ◌≤ℤ◌}
use Rattle.std.proofs.lemmas.Nat.{pow_pos}
use Rattle.std.proofs.lemmas.Int.{ints}
use Rattle.spec_numbers.specs.Numbers.{floor_div, ceil_div}
use Rattle.spec_numbers.proofs.Order.{lin}
use Rattle.spec_numbers.proofs.Floor.{floor_div-le, floor_div-lt, ceil_div-ge, ceil_div-lt}
use Rattle.spec_chebyshev.specs.declared.ends.Ival62.{Ival62}
use Rattle.spec_chebyshev.specs.Differences.{IsArgument}
use Rattle.spec_chebyshev.specs.Rows.{t_unit, u_unit, t_size, u_size, t_row, u_row, IsArguments}
use Rattle.spec_chebyshev.proofs.RowEnds.{t_ordered, u_ordered}
use Rattle.spec_models.specs.Ends.{in_units, Under, Over}
use Rattle.spec_models.specs.Models.{Model, constant, Covers, widened}
use Rattle.spec_covers.specs.Combining.{MultipliesTo, SubtractsTo, IsUpto}
use Rattle.spec_covers.specs.Series.{of_entry, double_unit}
use Rattle.spec_models.proofs.Between.{near-under, near-over}
use Rattle.spec_covers.proofs.Units.{Covers-constant}
use Rattle.spec_covers.proofs.Steps.{near_next, units}

module _ (p q : ℤ) (is : IsArgument p q) where
  pub Covers-t_first : (x : Ival62) → Covers (constant (pos (2 ^ 60)) 0 (neg_ℤ (pos t_unit))) p q (of_entry t_unit (t_row x 0))
  unfolding t_row
  Covers-t_first x = Covers-constant p q is (pos (2 ^ 60)) (pos (2 ^ 60)) (pos (2 ^ 60)) (neg_ℤ (pos 60)) 0 (record { low = omega (arith, lin); high = omega (arith, lin) }) (record { low = omega (arith, lin); high = omega (arith, lin) })

  pub Covers-u_first : (x : Ival62) → Covers (constant (pos (2 ^ 50)) 0 (neg_ℤ (pos u_unit))) p q (of_entry u_unit (u_row x 0))
  unfolding u_row
  Covers-u_first x = Covers-constant p q is (pos (2 ^ 50)) (pos (2 ^ 50)) (pos (2 ^ 50)) (neg_ℤ (pos 50)) 0 (record { low = omega (arith, lin); high = omega (arith, lin) }) (record { low = omega (arith, lin); high = omega (arith, lin) })

  pub Covers-t_second : (x : Ival62) (m : Model) → Covers m p q (of_entry t_unit x) → Covers m p q (of_entry t_unit (t_row x 1))
  unfolding t_row
  Covers-t_second x m covers = covers

  module _ (d : ℕ) where
    -- twice the argument, in the unit of U
    pub Covers-u_second : (x : Ival62) (m : Model) → IsUpto d m (in_units (pos 1) (neg_ℤ (pos u_unit))) → Covers m p q (of_entry double_unit x)
        → Covers (widened d m) p q (of_entry u_unit (u_row x 1))
    unfolding u_row
    Covers-u_second x m upto covers =
        let f0 = floor_div-le x.lo (2 ^ 9) (pow_pos 9) in
        let f1 = floor_div-lt x.lo (2 ^ 9) (pow_pos 9) in
        let c0 = ceil_div-ge x.hi (2 ^ 9) (pow_pos 9) in
        let c1 = ceil_div-lt x.hi (2 ^ 9) (pow_pos 9) in
        record {
          low = near-under m p q d (units x.lo (2 ^ 59)) (units (floor_div x.lo (2 ^ 9)) (2 ^ 50)) (units (pos 1) (2 ^ 50)) is (pow_pos 50) (pow_pos 50) upto (halved_below x.lo (floor_div x.lo (2 ^ 9)) f0 (omega (arith, lin))) covers.low;
          high = near-over m p q d (units x.hi (2 ^ 59)) (units (ceil_div x.hi (2 ^ 9)) (2 ^ 50)) (units (pos 1) (2 ^ 50)) is (pow_pos 50) (pow_pos 50) upto (halved_above x.hi (ceil_div x.hi (2 ^ 9)) c0 (omega (arith, lin))) covers.high;
        }
      where
        halved_below : (z f : ℤ) → (f *ℤ pos (2 ^ 9)) ≤ℤ z → z ≤ℤ (f *ℤ pos (2 ^ 9) +ℤ pos (2 ^ 9)) → Under (units (pos 1) (2 ^ 50)) (units f (2 ^ 50)) (units z (2 ^ 59))
        halved_below z f h g = record { near = omega (arith, ints); below = omega (arith, ints) }

        halved_above : (z f : ℤ) → z ≤ℤ (f *ℤ pos (2 ^ 9)) → (f *ℤ pos (2 ^ 9)) ≤ℤ (z +ℤ pos (2 ^ 9)) → Over (units (pos 1) (2 ^ 50)) (units f (2 ^ 50)) (units z (2 ^ 59))
        halved_above z f h g = record { near = omega (arith, ints); above = omega (arith, ints) }

    module _ (m a w b k : Model) (multiplies : MultipliesTo m a w) (subtracts : SubtractsTo w b k) (x : Ival62) (arguments : IsArguments x)
        (covers : Covers m p q (of_entry double_unit x)) (j : ℕ) where
      pub Covers-t_next : IsUpto d k (in_units (pos 1) (neg_ℤ (pos t_unit)))
          → Covers a p q (of_entry t_unit (t_row x (suc j))) → Covers b p q (of_entry t_unit (t_row x j))
          → Covers (widened d k) p q (of_entry t_unit (t_row x (suc (suc j))))
      unfolding t_row
      Covers-t_next upto last before =
          let both = near_next d p q is m a w b k multiplies subtracts (2 ^ 60) (pow_pos 60) upto (t_size (suc (suc j)) * 2 ^ t_unit) x (t_row x (suc j)) (t_row x j)
          covers.low covers.high last.low last.high before.low before.high (t_ordered x arguments (suc (suc j))) in
          record { low = both.0; high = both.1 }

      pub Covers-u_next : IsUpto d k (in_units (pos 1) (neg_ℤ (pos u_unit)))
          → Covers a p q (of_entry u_unit (u_row x (suc j))) → Covers b p q (of_entry u_unit (u_row x j))
          → Covers (widened d k) p q (of_entry u_unit (u_row x (suc (suc j))))
      unfolding u_row
      Covers-u_next upto last before =
          let both = near_next d p q is m a w b k multiplies subtracts (2 ^ 50) (pow_pos 50) upto (u_size (suc (suc j)) * 2 ^ u_unit) x (u_row x (suc j)) (u_row x j)
          covers.low covers.high last.low last.high before.low before.high (u_ordered x arguments (suc (suc j))) in
          record { low = both.0; high = both.1 }
