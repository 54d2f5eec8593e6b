-- The text so far, and what is left of it.
use Rattle.std.proofs.Common.{◌≡◌, ◌+◌, ◌-◌, ◌*◌, ◌<◌, List, [], ◌∷◌, ◌++◌, ℕ, zero, suc, append_assoc, append-nil, arith, refl, sym, ap, ◌∙◌}
use Rattle.std.specs.Fmt.{decimal}
use Rattle.spec_generated.specs.Blocks.{block_lines, lines_from, row, rows_from, state_of}
use Rattle.spec_generated.specs.Draws.{next_state, state_after}
use Rattle.spec_text.specs.Printed.{joined_lines}
use Rattle.spec_generated.specs.Words.{block_word}

pub row_is : (t0 t1 t2 t3 t4 t5 a b c : List ℕ) → t1 ≡ t0 ++ a → t2 ≡ t1 ++ 32 ∷ [] → t3 ≡ t2 ++ b → t4 ≡ t3 ++ 32 ∷ [] → t5 ≡ t4 ++ c
    → t5 ++ 10 ∷ [] ≡ t0 ++ ((a ++ 32 ∷ (b ++ 32 ∷ c)) ++ 10 ∷ [])
row_is t0 t1 t2 t3 t4 t5 a b c e1 e2 e3 e4 e5 = rw (e5, e4, e3, e2, e1) (simp append_assoc)

pub row_left : (word : ℕ → List ℕ) (old new : List ℕ) (rows : ℕ) → rows < 340 → new ≡ old ++ (row word (3 * rows + 1) ++ 10 ∷ [])
    → new ++ joined_lines (rows_from word (3 * (rows + 1) + 1) (340 - (rows + 1))) ≡ old ++ joined_lines (rows_from word (3 * rows + 1) (340 - rows))
unfolding joined_lines rows_from
row_left word old new rows below is =
    let left : 340 - rows ≡ suc (340 - (rows + 1)) = omega (arith, below) in
    let place : 3 * (rows + 1) + 1 ≡ 3 * rows + 1 + 3 = omega arith in
    rw (is, left, place) (simp append_assoc)

pub block_is : (t0 t1 : List ℕ) (state block : ℕ) → t1 ≡ t0 ++ (decimal (block + 1) ++ 32 ∷ (decimal 1018 ++ 10 ∷ []))
    → t1 ++ joined_lines (rows_from (block_word state block) 1 340) ≡ t0 ++ joined_lines (block_lines state block)
unfolding joined_lines block_lines
block_is t0 t1 state block is = rw is (simp append_assoc)

pub joined_append : (xs ys : List (List ℕ)) → joined_lines (xs ++ ys) ≡ joined_lines xs ++ joined_lines ys
unfolding joined_lines
joined_append [] ys = refl
joined_append (x ∷ xs) ys =
    ap (λ (l : List ℕ). x ++ 10 ∷ l) (joined_append xs ys) ∙ sym (append_assoc x (10 ∷ joined_lines xs) (joined_lines ys))

pub block_left : (seed block blocks : ℕ) (old new : List ℕ) → block < blocks → new ≡ old ++ joined_lines (block_lines (state_of seed block) block)
    → new ++ joined_lines (lines_from seed (block + 1) (blocks - (block + 1))) ≡ old ++ joined_lines (lines_from seed block (blocks - block))
unfolding lines_from
block_left seed block blocks old new below is =
    let left : blocks - block ≡ suc (blocks - (block + 1)) = omega (arith, below) in
    let lines = block_lines (state_of seed block) block in
    let rest = lines_from seed (block + 1) (blocks - (block + 1)) in
    rw (is, left) (append_assoc old (joined_lines lines) (joined_lines rest) ∙ ap (λ (l : List ℕ). old ++ l) (sym (joined_append lines rest)))

-- nothing is left
pub rows_end : (word : ℕ → List ℕ) (text : List ℕ) (place n : ℕ) → n ≡ 0 → text ++ joined_lines (rows_from word place n) ≡ text
unfolding joined_lines rows_from
rows_end word text place n none = rw none (append-nil text)

pub blocks_end : (seed block n : ℕ) (text : List ℕ) → n ≡ 0 → text ++ joined_lines (lines_from seed block n) ≡ text
unfolding joined_lines lines_from
blocks_end seed block n text none = rw none (append-nil text)

pub state_more : (state m n : ℕ) → state_after (state_after state m) n ≡ state_after state (m + n)
unfolding state_after
state_more state m zero = let same : m ≡ m + 0 = omega arith in ap (state_after state) same
state_more state m (suc n) =
    let one : suc (m + n) ≡ m + suc n = omega arith in ap next_state (state_more state m n) ∙ ap (state_after state) one
