-- The number that digits write, step by step.
use Rattle.std.proofs.Common.{◌≡◌, ℕ, suc, ◌+◌, ◌-◌, ◌*◌, ◌^◌, ◌<◌, ◌≤◌, List, [], ◌∷◌, ◌++◌, length, take, take-suc, get_or, refl, ap, ◌∙◌, arith}
use Rattle.std.proofs.Math.Nat.{pow-suc}
use Rattle.std.proofs.Math.Seq.{take-length}
use Rattle.spec_text.specs.Decimals.{value, value_after}

value_after-append : (n : ℕ) (xs : List ℕ) (b : ℕ) → value_after n (xs ++ b ∷ []) ≡ 10 * value_after n xs + (b - 48)
value_after-append n [] b = refl
value_after-append n (x ∷ xs) b = value_after-append (10 * n + (x - 48)) xs b

-- the value after some digits, and a bound that keeps the next step small
pub record IsValue (word : List ℕ) (i value_now : ℕ) : Type 0 where
  pub value : value_now ≡ value (take i word)
  pub bound : value_now + 23 ≤ 23 * 10 ^ i

pub value_begun : (word : List ℕ) → IsValue word 0 0
value_begun word = record { value = refl; bound = omega arith }

pub value_more : (word : List ℕ) (i n d : ℕ) → i < length word → get_or word i 0 < 256 → d ≡ get_or word i 0 - 48 → IsValue word i n → IsValue word (i + 1) (10 * n + d)
value_more word i n d h small e is =
    let more = take-suc word i 0 h in
    let grown = pow-suc 10 i in
    let next : suc i ≡ i + 1 = omega arith in
    record {
      value = rw (← next) (rw (more, value_after-append 0 (take i word) (get_or word i 0)) (omega (arith, is.value, e)));
      bound = rw (← next) (omega (arith, is.bound, grown, e, small));
    }

pub value_whole : (word : List ℕ) (i n : ℕ) → i ≡ length word → IsValue word i n → n ≡ value word
value_whole word i n e is =
    let all : take i word ≡ word = rw e (take-length word) in
    is.value ∙ ap (λ (xs : List ℕ). value xs) all

pub value_bound : (word : List ℕ) (i n : ℕ) → i ≡ length word → IsValue word i n → n + 23 ≤ 23 * 10 ^ length word
value_bound word i n e is = rw (← e) is.bound
