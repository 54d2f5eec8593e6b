-- The rules on models at each time of a span.
use Rattle.std.proofs.Common.{◌≡◌, arith, ℤ, pos, neg_ℤ, ◌+ℤ◌, ◌-ℤ◌, ◌*ℤ◌, ◌≤ℤ◌, ◌<ℤ◌, Option, None, Some, subst}
use Rattle.std.specs.Prelude.{IfSome}
use Rattle.std.proofs.lemmas.Int.{ints}
use Rattle.spec_numbers.proofs.Integers.{doubled}
use Rattle.spec_intervals.specs.Interval.{Interval}
use Rattle.spec_chebyshev.specs.Differences.{IsArgument}
use Rattle.spec_models.specs.Ends.{IsOrdered}
use Rattle.spec_models.specs.Models.{Covers, Model}
use Rattle.event_models.specs.Covered.{IsIfMade, argument}

argument_low : (c d t u : ℤ) → u ≡ t +ℤ t → c ≤ℤ t → neg_ℤ (d -ℤ c) ≤ℤ (u -ℤ c -ℤ d)
argument_low c d t u is after = omega (arith, ints, is, after)

argument_high : (c d t u : ℤ) → u ≡ t +ℤ t → t ≤ℤ d → (u -ℤ c -ℤ d) ≤ℤ (d -ℤ c)
argument_high c d t u is before = omega (arith, ints, is, before)

positive_length : (c d : ℤ) → c <ℤ d → pos 0 <ℤ (d -ℤ c)
positive_length c d later = omega (arith, ints, later)

pub is_argument : (c d t : ℤ) → c <ℤ d → c ≤ℤ t → t ≤ℤ d → IsArgument (argument c d t) (d -ℤ c)
is_argument c d t later after before = record {
  positive = positive_length c d later;
  low = argument_low c d t (pos 2 *ℤ t) (doubled t) after;
  high = argument_high c d t (pos 2 *ℤ t) (doubled t) before;
}

module _ (c d : ℤ) (later : c <ℤ d) where
  pub constant_made : (r : Option Model) (value : Interval) → IsOrdered value
      → IfSome r (λ m. (p q : ℤ) → IsArgument p q → Covers m p q value) → IsIfMade c d r (λ t. value)
  constant_made None value ordered covers = covers
  constant_made (Some m) value ordered covers =
      λ t after before. record { ordered = ordered; covers = covers (argument c d t) (d -ℤ c) (is_argument c d t later after before) }

  -- of one operand that may be made
  pub made_of_one : (op : Interval → Interval) → ((x : Interval) → IsOrdered x → IsOrdered (op x))
      → (r : Option Model) (m : Model)
      → IfSome r (λ k. (p q : ℤ) (x : Interval) → IsArgument p q → x.lo ≤ℤ x.hi → Covers m p q x → Covers k p q (op x))
      → (x : Option Model) → x ≡ Some m → (f : ℤ → Interval) → IsIfMade c d x f → IsIfMade c d r (λ t. op (f t))
  made_of_one op ordered None m covers x is f of_x = covers
  made_of_one op ordered (Some made) m covers x is f of_x = λ t after before.
      let own = (subst (λ made. IsIfMade c d made f) is of_x) t after before in
      record {
        ordered = ordered (f t) own.ordered;
        covers = covers (argument c d t) (d -ℤ c) (f t) (is_argument c d t later after before) own.ordered own.covers;
      }

  -- of two
  pub made_of_two : (op : Interval → Interval → Interval) → ((x y : Interval) → IsOrdered x → IsOrdered y → IsOrdered (op x y))
      → (r : Option Model) (m n : Model)
      → IfSome r (λ k. (p q : ℤ) (x y : Interval) → IsArgument p q → x.lo ≤ℤ x.hi → y.lo ≤ℤ y.hi → Covers m p q x → Covers n p q y → Covers k p q (op x y))
      → (x y : Option Model) → x ≡ Some m → y ≡ Some n → (f g : ℤ → Interval) → IsIfMade c d x f → IsIfMade c d y g → IsIfMade c d r (λ t. op (f t) (g t))
  made_of_two op ordered None m n covers x y is_m is_n f g of_x of_y = covers
  made_of_two op ordered (Some made) m n covers x y is_m is_n f g of_x of_y = λ t after before.
      let first = (subst (λ made. IsIfMade c d made f) is_m of_x) t after before in
      let second = (subst (λ made. IsIfMade c d made g) is_n of_y) t after before in
      record {
        ordered = ordered (f t) (g t) first.ordered second.ordered;
        covers = covers (argument c d t) (d -ℤ c) (f t) (g t) (is_argument c d t later after before) first.ordered second.ordered first.covers second.covers;
      }
