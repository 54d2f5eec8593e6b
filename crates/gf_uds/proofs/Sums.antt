-- A bound of a quadratic polynomial, from the numbers of which it is made.
use Rattle.std.proofs.Common.{◌≡◌, ◌∙◌, ℤ, ◌+ℤ◌, ◌*ℤ◌}

-- f is the lesser or the greater of two
module _ (f : ℤ → ℤ → ℤ) (a b : ℤ) where
  pub sums_are : {p p' q q' r r' least least' greatest greatest' square line both all : ℤ} → p ≡ p' → q ≡ q' → r ≡ r' → least ≡ least' → greatest ≡ greatest'
      → square ≡ f (p *ℤ least) (p *ℤ greatest) → line ≡ f (q *ℤ a) (q *ℤ b) → both ≡ square +ℤ line → all ≡ both +ℤ r
      → all ≡ (f (p' *ℤ least') (p' *ℤ greatest') +ℤ f (q' *ℤ a) (q' *ℤ b)) +ℤ r'
  sums_are ep eq er el eg square line both all =
      let first = square ∙ (λ i. f (ep i *ℤ el i) (ep i *ℤ eg i)) in
      let second = line ∙ (λ i. f (eq i *ℤ a) (eq i *ℤ b)) in
      let together = both ∙ (λ i. first i +ℤ second i) in
      all ∙ (λ i. together i +ℤ er i)
