-- The numbers of scalars as code reads them.
use Rattle.std.specs.Prelude.{ℤ, Option, option_map}
use Rattle.std.specs.Borrow.{Bor}
use Rattle.spec_scalars.specs.Quads.{Quadratic, small_quadratic}
use Rattle.spec_requests.specs.Names.{Text}
use Rattle.spec_requests.specs.Options.{quad_of, quad_of_numbers, quad_of_two}
use Rattle.option_values.specs.declared.polynomials.Polynomial.{Polynomial}

-- the two texts behind references, where there are two
abbrev pub bytes_of_two : Option (Bor Text × Bor Text) → Option (Text × Text)
bytes_of_two = option_map (λ texts. (texts.0.now, texts.1.now))

-- the polynomial as code holds it
abbrev pub as_polynomial : Quadratic → Polynomial
as_polynomial k = record { p = k.p; q = k.q; r = k.r }

abbrev pub small_polynomial : ℤ → ℤ → ℤ → Option Polynomial
small_polynomial p q r = option_map as_polynomial (small_quadratic p q r)

abbrev pub polynomial_of_numbers : Option ℤ → Option ℤ → Option ℤ → Option Polynomial
polynomial_of_numbers p q r = option_map as_polynomial (quad_of_numbers p q r)

abbrev pub polynomial_of_two : Text → Option (Text × Text) → Option Polynomial
polynomial_of_two p others = option_map as_polynomial (quad_of_two p others)

abbrev pub polynomial_of : Text → Option Polynomial
polynomial_of word = option_map as_polynomial (quad_of word)
