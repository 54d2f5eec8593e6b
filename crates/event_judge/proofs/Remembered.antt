-- A word stands for one sign at one time.
use Rattle.std.proofs.Common.{◌≡◌, ℕ, ◌<◌, ◌^◌, Option, Some, ℤ, pos, ◌+ℤ◌, ◌*ℤ◌, refl, sym, ap, subst, ◌∙◌, arith}
use Rattle.std.proofs.lemmas.Int.{ints}
use Rattle.std.specs.Prelude.{IfSome}
use Rattle.spec_intervals.specs.declared.signs.Sign.{Sign}
use Rattle.spec_intervals.specs.declared.signs.Sign.TheVariants.{Yes, No, Open}
use Rattle.spec_searches.specs.Search.{Search}
use Rattle.spec_bounds.specs.Steady.{sign_at}
use Rattle.event_judge.specs.Memory.{KeepsSign, code_of, sign_word}

few : (sign : Sign) → code_of sign < 4
few Yes = omega arith
few No = omega arith
few Open = omega arith

one_code : (sign other : Sign) → code_of sign ≡ code_of other → sign ≡ other
one_code Yes Yes e = refl
one_code No No e = refl
one_code Open Open e = refl
one_code Yes No e = absurd (omega (arith, e))
one_code Yes Open e = absurd (omega (arith, e))
one_code No Yes e = absurd (omega (arith, e))
one_code No Open e = absurd (omega (arith, e))
one_code Open Yes e = absurd (omega (arith, e))
one_code Open No e = absurd (omega (arith, e))

same_time : (t u : ℤ) (c d : ℕ) → c < 4 → d < 4 → ((t +ℤ pos (2 ^ 51)) *ℤ pos 4) +ℤ pos c ≡ ((u +ℤ pos (2 ^ 51)) *ℤ pos 4) +ℤ pos d → t ≡ u
same_time t u c d small few e = omega (arith, ints, small, few, e)

same_code : (t u : ℤ) (c d : ℕ) → c < 4 → d < 4 → ((t +ℤ pos (2 ^ 51)) *ℤ pos 4) +ℤ pos c ≡ ((u +ℤ pos (2 ^ 51)) *ℤ pos 4) +ℤ pos d → c ≡ d
same_code t u c d small few e = omega (arith, ints, small, few, e)

pub kept : (s : Search) (t : ℤ) (sign : Sign) (word : ℕ) → sign_at s t ≡ sign → pos word ≡ sign_word t sign → KeepsSign s word
kept s t sign word right is u other e =
    let both : sign_word t sign ≡ sign_word u other = sym is ∙ e in
    let time : t ≡ u = same_time t u (code_of sign) (code_of other) (few sign) (few other) both in
    let code : sign ≡ other = one_code sign other (same_code t u (code_of sign) (code_of other) (few sign) (few other) both) in
    ap (sign_at s) (sym time) ∙ (right ∙ code)

-- the sign at a time, by one that is found at it
pub known_sign : (s : Search) (t u : ℤ) (found : Option Sign) (sign : Sign) → found ≡ Some sign → IfSome found (λ sign. sign_at s t ≡ sign) → t ≡ u → sign_at s u ≡ sign
known_sign s t u found sign is known same = ap (sign_at s) (sym same) ∙ subst (λ (found : Option Sign). IfSome found (λ sign. sign_at s t ≡ sign)) is known
