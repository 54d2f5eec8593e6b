-- One piece behind another.
use Rattle.std.proofs.Common.{◌≡◌, List, [], ◌∷◌, ℕ, suc, ◌+◌, ◌<◌, ◌++◌, length, take, take-suc, get_or, Result, Ok, Err, OnOk, sym, ap, ◌∙◌, arith}
use Rattle.std.proofs.lemmas.Grind.{flat_map-append}
use Rattle.std.proofs.lemmas.List.{append_assoc, append-nil}
use Rattle.std.specs.List.{flat_map}
use Rattle.std.specs.Prelude.{is_ok, if◌then◌else◌}

both : (old mid new a b : List ℕ) → mid ≡ old ++ a → new ≡ mid ++ b → new ≡ old ++ (a ++ b)
both old mid new a b first last = last ∙ ap (λ (xs : List ℕ). xs ++ b) first ∙ append_assoc old a b

pub two_pieces : {T E : Type 0} (result : Result T E) (old mid new a b : List ℕ) → mid ≡ old ++ a → OnOk result (new ≡ mid ++ b) → OnOk result (new ≡ old ++ (a ++ b))
two_pieces (Ok u) old mid new a b first last = both old mid new a b first last
two_pieces (Err e) old mid new a b first last = last

pub three_pieces : {T E : Type 0} (result : Result T E) (old mid next new a b d : List ℕ) → mid ≡ old ++ a → next ≡ mid ++ b → OnOk result (new ≡ next ++ d) → OnOk result (new ≡ old ++ (a ++ b ++ d))
three_pieces result old mid next new a b d first second last = two_pieces result old next new (a ++ b) d (both old mid next a b first second) last

pub four_pieces : {T E : Type 0} (result : Result T E) (old mid next more new a b d e : List ℕ) → mid ≡ old ++ a → next ≡ mid ++ b → more ≡ next ++ d → OnOk result (new ≡ more ++ e) → OnOk result (new ≡ old ++ (a ++ b ++ d ++ e))
four_pieces result old mid next more new a b d e first second third last = three_pieces result old next more new (a ++ b) d e (both old mid next a b first second) third last

-- the piece of one more element
pub one_more_piece : {X : Type 0} (f : X → List ℕ) (xs : List X) (k : ℕ) (d : X) (old mid new : List ℕ) → k < length xs
    → mid ≡ old ++ flat_map f (take k xs) → new ≡ mid ++ f (get_or xs k d) → new ≡ old ++ flat_map f (take (k + 1) xs)
one_more_piece f xs k d old mid new below first last =
    let next : suc k ≡ k + 1 = omega arith in
    let here = f (get_or xs k d) in
    let before = flat_map f (take k xs) in
    let pieces : flat_map f (take (suc k) xs) ≡ before ++ here = ap (flat_map f) (take-suc xs k d below) ∙ flat_map-append f (take k xs) (get_or xs k d ∷ []) ∙ ap (λ (more : List ℕ). before ++ more) (append-nil here) in
    both old mid new before here first last ∙ ap (λ (more : List ℕ). old ++ more) (sym pieces) ∙ ap (λ (n : ℕ). old ++ flat_map f (take n xs)) next

-- what `push_str` leaves, where its result is the caller's own
pub last_text : {T E : Type 0} (result : Result T E) (mid new b : List ℕ) → new ≡ (if is_ok result then mid ++ b else mid) → OnOk result (new ≡ mid ++ b)
last_text (Ok u) mid new b is = is
last_text (Err e) mid new b is = tt
