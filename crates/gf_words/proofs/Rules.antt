-- Arguments that are added to a command in turn.
use Rattle.std.proofs.Common.{◌≡◌, ◌∙◌, ◌+◌, ◌<◌, ℕ, List, [], ◌∷◌, ◌++◌, Result, IfOk, map, take, length, get_or, refl, ap, subst, append_assoc, zero, suc, arith}
use Rattle.clap.specs.Walk.{Rule}
use Rattle.clap.specs.Simple.{App}
use Rattle.spec_requests.specs.declared.request.Named.{Named}
use Rattle.gf_words.specs.Commands.{with_rules}

pub more_rules : (first second : List Rule) (a : App) → with_rules second (with_rules first a) ≡ with_rules (first ++ second) a
more_rules first second a = λ i. record a { top = record a.top { rules = append_assoc a.top.rules first second i } }

taken : (rule : Named → Rule) (xs : List Named) (i : ℕ) (d : Named) → i < length xs
    → map rule (take i xs) ++ rule (get_or xs i d) ∷ [] ≡ map rule (take (suc i) xs)
taken rule [] i d below = absurd (omega arith)
taken rule (y ∷ ys) zero d below = refl
taken rule (y ∷ ys) (suc i) d below = ap (λ (rs : List Rule). rule y ∷ rs) (taken rule ys i d (omega arith))

-- one argument more
pub rules_step : (rule : Named → Rule) (xs : List Named) (i : ℕ) (d : Named) (a now next : App) → i < length xs
    → now ≡ with_rules (map rule (take i xs)) a → next ≡ with_rules (rule (get_or xs i d) ∷ []) now
    → next ≡ with_rules (map rule (take (i + 1) xs)) a
rules_step rule xs i d a now next below now_is next_is =
    let one : suc i ≡ i + 1 = omega arith in
    next_is ∙ ap (with_rules (rule (get_or xs i d) ∷ [])) now_is
    ∙ more_rules (map rule (take i xs)) (rule (get_or xs i d) ∷ []) a
    ∙ ap (λ (rs : List Rule). with_rules rs a) (taken rule xs i d below)
    ∙ ap (λ (n : ℕ). with_rules (map rule (take n xs)) a) one

-- what is made is seen as the one, and so as the other
pub made_along : {M E X : Type 0} (f : M → X) (result : Result M E) (x y : X) → x ≡ y → IfOk result (λ m. f m ≡ x)
    → IfOk result (λ m. f m ≡ y)
made_along f result x y same made = subst (λ z. IfOk result (λ m. f m ≡ z)) same made
