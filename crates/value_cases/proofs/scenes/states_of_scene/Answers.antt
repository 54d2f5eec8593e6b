use Rattle.std.proofs.Common.{◌≡◌, ◌<◌, IsTrue, ℕ, zero, suc, Bool, true, List, [], ◌∷◌, length, slice_index_or, rules, arith}
use Rattle.std.specs.List.{list_all}
use Rattle.spec_numbers.proofs.Booleans.{both_first, both_second}
use Rattle.spec_ephemeris.specs.declared.body.Body.{Body}
use Rattle.spec_ephemeris.specs.Header.{has_column}
use Rattle.spec_ephemeris.specs.Ephemeris.{Ephemeris}
use Rattle.spec_bodies.specs.Sources.{source_of, needed_columns}
use Rattle.spec_bodies.specs.Views.{HasColumns}
use Rattle.value_cases.proofs.scenes.states_of_scene.Goals as goal

-- what a test finds of all
each : (test : ℕ → Bool) (xs : List ℕ) → list_all test xs ≡ true → (i : ℕ) (d : ℕ) → i < length xs → IsTrue (test (slice_index_or xs i d))
each test [] holds i d within = absurd (omega (arith, within))
each test (x ∷ xs) holds zero d within = both_first (test x) (list_all test xs) holds
each test (x ∷ xs) holds (suc i) d within = each test xs (both_second (test x) (list_all test xs) holds) i d (omega (arith, within))

of_three : (P : Body → Type 0) (x y z : Body) → P x → P y → P z → (i : ℕ) (d : Body) → i < 3 → P (slice_index_or (x ∷ y ∷ z ∷ []) i d)
of_three P x y z one two three zero d within = one
of_three P x y z one two three (suc zero) d within = two
of_three P x y z one two three (suc (suc zero)) d within = three
of_three P x y z one two three (suc (suc (suc i))) d within = absurd (omega (arith, within))

there : (e : Ephemeris) (body : Body) (found : Bool) → found ≡ list_all (has_column e.header) (needed_columns (source_of body)) → found ≡ true → HasColumns e (needed_columns (source_of body))
there e body found is holds = each (has_column e.header) (needed_columns (source_of body)) (cc)

pub new-requires-clause-present : goal.new-requires-clause-present
new-requires-clause-present c =
    let first : c.has_columns_of_body-has_first.result ≡ true = search rules in
    let second : c.has_columns_of_body-has_second.result ≡ true = search rules in
    let observer : c.has_columns_of_body-has_observer.result ≡ true = search rules in
    let Present : Body → Type 0 = λ body. HasColumns c.args.ephemeris.now (needed_columns (source_of body)) in
    of_three Present _ _ _
    (there c.args.ephemeris.now _ _ c.has_columns_of_body-has_observer.ensures observer)
    (there c.args.ephemeris.now _ _ c.has_columns_of_body-has_first.ensures first)
    (there c.args.ephemeris.now _ _ c.has_columns_of_body-has_second.ensures second)
