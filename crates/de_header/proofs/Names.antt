-- The place of EMRAT among names.
use Rattle.std.proofs.Common.{◌≡◌, ℕ, zero, suc, ◌+◌, ◌<◌, ◌≤◌, true, false, List, [], ◌∷◌, length, take, drop, Option, Some, refl, sym, ap, ◌∙◌, arith}
use Rattle.std.specs.Prelude.{slice_get, codes}
use Rattle.std.proofs.lemmas.List.{length-take-le}
use Rattle.spec_numbers.proofs.Lists.{get_take}
use Rattle.spec_files.specs.Sections.{is_word}
use Rattle.spec_files.specs.HeaderRules.{emrat_from}

no_emrat : (ws : List (List ℕ)) (i k : ℕ) → i < length ws → is_word (slice_get ws i) (codes "EMRAT") ≡ false
    → emrat_from k (drop i ws) ≡ emrat_from (suc k) (drop (suc i) ws)
no_emrat [] i k below test = absurd (omega arith)
no_emrat (w ∷ ws) zero k below test = rw test refl
no_emrat (w ∷ ws) (suc i) k below test = no_emrat ws i k (omega arith) test

an_emrat : (ws : List (List ℕ)) (i k : ℕ) → i < length ws → is_word (slice_get ws i) (codes "EMRAT") ≡ true
    → emrat_from k (drop i ws) ≡ Some k
an_emrat [] i k below test = absurd (omega arith)
an_emrat (w ∷ ws) zero k below test = rw test refl
an_emrat (w ∷ ws) (suc i) k below test = an_emrat ws i k (omega arith) test

pub found_here : (ts : List (List ℕ)) (n i start : ℕ) → n ≤ length ts → i < n → is_word (slice_get ts i) (codes "EMRAT") ≡ true
    → emrat_from (start + i) (drop i (take n ts)) ≡ emrat_from start (take n ts) → Some (start + i) ≡ emrat_from start (take n ts)
found_here ts n i start there below test is =
    let within : i < length (take n ts) = omega (arith, length-take-le n ts there, below) in
    sym (an_emrat (take n ts) i (start + i) within (ap (λ (o : Option (List ℕ)). is_word o (codes "EMRAT")) (get_take ts n i below) ∙ test)) ∙ is

pub found_later : (ts : List (List ℕ)) (n i start : ℕ) → n ≤ length ts → i < n → is_word (slice_get ts i) (codes "EMRAT") ≡ false
    → emrat_from (start + i) (drop i (take n ts)) ≡ emrat_from start (take n ts) → emrat_from (start + (i + 1)) (drop (i + 1) (take n ts)) ≡ emrat_from start (take n ts)
found_later ts n i start there below test is =
    let within : i < length (take n ts) = omega (arith, length-take-le n ts there, below) in
    let step = no_emrat (take n ts) i (start + i) within (ap (λ (o : Option (List ℕ)). is_word o (codes "EMRAT")) (get_take ts n i below) ∙ test) in
    let next : suc i ≡ i + 1 = omega arith in
    let place : suc (start + i) ≡ start + (i + 1) = omega arith in
    (λ k. emrat_from (sym place k) (drop (sym next k) (take n ts))) ∙ sym step ∙ is
