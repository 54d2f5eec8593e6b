-- A condition is certified at a time by the sign of its formula that is found then.
use Rattle.std.proofs.Common.{◌≡◌, ◌∙◌, Bool, true, false, not, ℤ, ap, refl, sym}
use Rattle.spec_intervals.specs.Enclosure.{Enclosure}
use Rattle.spec_intervals.specs.Signs.{sign_of}
use Rattle.spec_intervals.specs.declared.signs.Sign.{Sign}
use Rattle.spec_intervals.specs.declared.signs.Sign.TheVariants.{Yes, No, Open}
use Rattle.spec_expressions.specs.Term.{Term}
use Rattle.spec_bodies.specs.Views.{View, state_enclosure}
use Rattle.spec_events.specs.Verdict.{certifies}
use Rattle.spec_searches.specs.Search.{enclosure_over}

-- the sign of a formula's enclosure at a time, which was made of equal parts
pub found_sign : (v states : View) → states ≡ v → (term formula : Term) → formula ≡ term → (t u : ℤ) → u ≡ t
    → (over : Enclosure) → over ≡ enclosure_over (state_enclosure states) formula u u → (found sign : Sign) → found ≡ sign_of over.range → found ≡ sign
    → sign_of (enclosure_over (state_enclosure v) term t t).range ≡ sign
found_sign v states same term formula is t u then over made found sign by e =
    (λ i. sign_of (enclosure_over (state_enclosure (sym same i)) (sym is i) (sym then i) (sym then i)).range)
    ∙ (sym (ap (λ (x : Enclosure). sign_of x.range) made) ∙ (sym by ∙ e))

pub by_yes : (at_least : Bool) (sign : Sign) → sign ≡ Yes → at_least ≡ certifies at_least sign
by_yes true sign e = rw e refl
by_yes false sign e = rw e refl

pub by_no : (at_least : Bool) (sign : Sign) → sign ≡ No → not at_least ≡ certifies at_least sign
by_no true sign e = rw e refl
by_no false sign e = rw e refl

pub by_open : (at_least : Bool) (sign : Sign) → sign ≡ Open → false ≡ certifies at_least sign
by_open true sign e = rw e refl
by_open false sign e = rw e refl
