-- The bytes of a token, several at a time.
use Rattle.std.proofs.Common.{◌≡◌, ◌≢◌, ℕ, ◌+◌, ◌%◌, ◌^◌, ◌<◌, ◌≤◌, arith, List, length, get_or, map, replicate, cond, not, nat_le, false, w8, sym, ap, ◌∙◌}
use Rattle.std.proofs.lemmas.Bool.Decides.{nat_tests}
use Rattle.std.proofs.lemmas.Simd.{bitmask_splat, length-chunk, leading_from_mask_l, trailing_mask_l, run_in_chunk_le, run_in_chunk_fails}
use Rattle.std.specs.List.{prefix_len}
use lib.Count.{count_trailing_zeros}
use lib.Lanes.{chunk, mask_l, top, zip2}
use Rattle.spec_text.specs.Lines.{is_separator}

above_blank : (b : ℕ) → nat_le b 32 ≡ false → is_separator b ≡ false
above_blank b above = grind (arith, nat_tests)

positive : (m n : ℕ) → m ≢ 0 → m ≡ n → 0 < n
positive m n some same = omega (arith, some, same)

module _ (lanes : ℕ) (few : lanes ≤ 64) (text : List ℕ) (at : ℕ) (room : at + lanes ≤ length text) where
  -- a bit for each byte that is no greater than a blank
  abbrev pub marks : ℕ
  marks = mask_l (map (top 7) (zip2 (λ a b. cond (nat_le a b) 255 0) (chunk at lanes text) (replicate lanes 32))) % 2 ^ 64

  marks_are : marks ≡ mask_l (map (λ b. nat_le b 32) (chunk at lanes text))
  marks_are = bitmask_splat w8 nat_le (chunk at lanes text) lanes 32 (length-chunk at lanes text room) few

  passed : (r : ℕ) → r ≡ prefix_len (λ b. not (nat_le b 32)) (chunk at lanes text)
      → (k : ℕ) → at ≤ k → k < at + r → is_separator (get_or text k 0) ≡ false
  passed r counted k from below = above_blank (get_or text k 0) (run_in_chunk_fails (λ b. nat_le b 32) text at lanes r 0 room counted k from below)

  -- where no bit is set
  pub all_pass : marks ≡ 0 → (k : ℕ) → at ≤ k → k < at + lanes → is_separator (get_or text k 0) ≡ false
  all_pass none = passed lanes (sym (leading_from_mask_l (λ b. nat_le b 32) (chunk at lanes text) (sym marks_are ∙ none) ∙ length-chunk at lanes text room))

  counted : marks ≢ 0 → count_trailing_zeros 64 marks ≡ prefix_len (λ b. not (nat_le b 32)) (chunk at lanes text)
  counted some =
      ap (count_trailing_zeros 64) marks_are
      ∙ trailing_mask_l (λ b. nat_le b 32) 64 (chunk at lanes text) (omega (arith, few, length-chunk at lanes text room)) (positive _ _ some marks_are)

  -- where the lowest one is
  pub some_pass : marks ≢ 0 → (k : ℕ) → at ≤ k → k < at + count_trailing_zeros 64 marks → is_separator (get_or text k 0) ≡ false
  some_pass some = passed _ (counted some)

  pub few_pass : marks ≢ 0 → count_trailing_zeros 64 marks ≤ lanes
  few_pass some = run_in_chunk_le (λ b. nat_le b 32) text at lanes _ 0 room (counted some)
