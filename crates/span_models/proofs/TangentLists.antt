-- The tangent of one coefficient more.
use Rattle.std.proofs.Common.{◌≡◌, ◌∙◌, ℕ, suc, ◌+◌, ◌-◌, ◌<◌, arith, sym, ap, List, drop, drop-cons, length, get_or, ℤ, pos}
use Rattle.span_models.specs.declared.tangents.Line.{Line}
use Rattle.span_models.specs.declared.tangents.Tangent.{Tangent}
use Rattle.span_models.specs.Tangents.{next, tangent}

pub tangent_more : (l : Line) (xs : List ℤ) (t u : Tangent) (n i : ℕ) (a : ℤ) → i < n → length xs ≡ n → t ≡ tangent l (drop (n - i) xs) → u ≡ next l t a → a ≡ get_or xs (n - 1 - i) (pos 0) → u ≡ tangent l (drop (n - (i + 1)) xs)
tangent_more l xs t u n i a below count known made is =
    let place : n - 1 - i ≡ n - (i + 1) = omega (arith, below) in
    let after : suc (n - (i + 1)) ≡ n - i = omega (arith, below) in
    let inside : n - (i + 1) < length xs = omega (arith, below, count) in
    made ∙ (λ j. next l (known j) ((is ∙ ap (λ m. get_or xs m (pos 0)) place) j)) ∙ ap (λ m. next l (tangent l (drop m xs)) (get_or xs (n - (i + 1)) (pos 0))) (sym after) ∙ ap (tangent l) (sym (drop-cons xs (n - (i + 1)) (pos 0) inside))
