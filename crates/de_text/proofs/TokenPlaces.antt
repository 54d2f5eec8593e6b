-- The first token of a line, by the places where it begins and ends, and a token by its place.
use Rattle.std.proofs.Common.{◌≡◌, ℕ, zero, suc, ◌+◌, ◌<◌, ◌≤◌, true, false, List, [], ◌∷◌, length, get_or, take, drop, length-drop, refl, sym, ap, ◌∙◌, arith}
use Rattle.std.specs.Prelude.{slice_get, None}
use Rattle.std.proofs.lemmas.List.{get_or-drop, drop_more}
use Rattle.spec_text.specs.Lines.{is_separator, tokens}
use Rattle.spec_text.proofs.TokenLemmas.{skip, some_token, token_at}

front_is : (line text : List ℕ) (start : ℕ) → text ≡ drop start line → get_or text 0 0 ≡ get_or line start 0
front_is line text start is =
    let place : start + 0 ≡ start = omega arith in
    ap (λ (l : List ℕ). get_or l 0 0) is ∙ get_or-drop start line 0 0 ∙ ap (λ (k : ℕ). get_or line k 0) place

-- the token at the front has a byte
pub some_len : (line text : List ℕ) (start n : ℕ) → text ≡ drop start line → start < length line → is_separator (get_or line start 0) ≡ false
    → (n < length text → is_separator (get_or text n 0) ≡ true) → 0 < n
some_len line text start zero is below here at =
    let some : 0 < length text = omega (arith, ap length is, length-drop start line) in
    let other = at some in
    let same = ap is_separator (front_is line text start is) in
    absurd (cc)
some_len line text start (suc n) is below here at = omega arith

-- a line has a token where something stands after its separators
pub has_token : (line : List ℕ) (start : ℕ) → start < length line → ((k : ℕ) → k < start → is_separator (get_or line k 0) ≡ true)
    → is_separator (get_or line start 0) ≡ false → 0 < length (tokens line)
has_token line start below before here =
    rw (skip line start (omega arith) before, drop_more line start 0 below) (some_token (get_or line start 0) (drop (start + 1) line) here)

-- a token after separators
pub token_after : (line text : List ℕ) (start n : ℕ) → text ≡ drop start line → start < length line
    → ((k : ℕ) → k < start → is_separator (get_or line k 0) ≡ true) → is_separator (get_or line start 0) ≡ false
    → n ≤ length text → ((k : ℕ) → k < n → is_separator (get_or text k 0) ≡ false) → (n < length text → is_separator (get_or text n 0) ≡ true)
    → tokens line ≡ take n text ∷ tokens (drop n text)
token_after line text start n is below before here within inside at =
    skip line start (omega arith) before ∙ ap tokens (sym is)
    ∙ token_at text n (some_len line text start n is below here at) within inside at

-- the element at a place is the first of what is left there
pub get_first : {X : Type 0} (xs rest : List X) (i : ℕ) → drop i xs ≡ rest → slice_get xs i ≡ slice_get rest 0
get_first {X = X} xs rest zero is = ap (λ (l : List X). slice_get l 0) is
get_first {X = X} [] rest (suc i) is = ap (λ (l : List X). slice_get l 0) is
get_first (x ∷ xs) rest (suc i) is = get_first xs rest i is

-- nothing stands past an end
pub get_none : {X : Type 0} (xs rest : List X) (k i : ℕ) → drop k xs ≡ rest → rest ≡ [] → k ≤ i → slice_get xs i ≡ None
get_none [] rest k i is none past = refl
get_none (x ∷ xs) rest zero i is none past = absurd (cc)
get_none (x ∷ xs) rest (suc k) zero is none past = absurd (omega arith)
get_none (x ∷ xs) rest (suc k) (suc i) is none past = get_none xs rest k i is none (omega arith)
