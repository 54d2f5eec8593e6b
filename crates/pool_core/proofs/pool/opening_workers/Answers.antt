use Rattle.std.proofs.Common.{◌≡◌, ℕ, ◌+◌, ◌-◌, ◌≤◌, List, [], ◌∷◌, ◌++◌, Some, replicate, sym, ap, ◌∙◌, arith}
use Rattle.std.proofs.lemmas.Grind.{replicate_next}
use Rattle.pool_core.specs.States.{Holding, holding, nothing}
use Rattle.pool_core.proofs.pool.opening_workers.Goals as goal

one_more : (x y : Holding) (k : ℕ) (xs ys : List Holding) → 1 ≤ k → xs ≡ x ∷ replicate (k - 1) y → ys ≡ xs ++ y ∷ [] → ys ≡ x ∷ replicate ((k + 1) - 1) y
one_more x y k xs ys some e added =
    let number : (k - 1) + 1 ≡ (k + 1) - 1 = omega arith in
    added ∙ ap (λ (l : List Holding). l ++ y ∷ []) e ∙ ap (λ (l : List Holding). x ∷ l) (sym (replicate_next (k - 1) y)) ∙ ap (λ n. x ∷ replicate n y) number

pub loop-preserved : goal.loop-preserved
loop-preserved c =
    one_more (holding (Some c.args.root) [] []) nothing c.loop.counter c.loop.made.items c.add_worker-in-loop.new.made.items c.loop.auto.counter c.loop.invariant
    (c.in_ok-add_worker-2.ensures ∙ ap (λ y. c.loop.made.items ++ y ∷ []) c.new-in-loop.ensures)
