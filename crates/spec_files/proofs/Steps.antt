-- Steps one after the other.
use Rattle.std.proofs.Common.{◌≡◌, ℕ, Result, Ok, Err, refl}
use Rattle.spec_files.specs.declared.rules.BrokenRule.{BrokenRule}
use Rattle.spec_text.specs.declared.decimals.Fault.{Fault}
use Rattle.spec_files.specs.Sections.{◌>>=◌, at_line, line_fault, ruled_at}

pub bind_assoc : {A B C E : Type 0} (r : Result A E) (f : A → Result B E) (g : B → Result C E) → ((r >>= f) >>= g) ≡ (r >>= λ x. f x >>= g)
bind_assoc (Ok x) f g = refl
bind_assoc (Err e) f g = refl

pub bind_same : {A B E : Type 0} (r : Result A E) (f g : A → Result B E) → ((x : A) → r ≡ Ok x → f x ≡ g x) → (r >>= f) ≡ (r >>= g)
bind_same (Ok x) f g same = same x refl
bind_same (Err e) f g same = refl

pub bind_at : {A B : Type 0} (file number : ℕ) (r : Result A BrokenRule) (f : A → Result B BrokenRule)
    → (at_line file number r >>= λ x. at_line file number (f x)) ≡ at_line file number (r >>= f)
bind_at file number (Ok x) f = refl
bind_at file number (Err b) f = refl

-- a fault of a line is that of a rule which it breaks
pub broken_by : {A : Type 0} (line : ℕ) (r : Result A BrokenRule) (fault : Fault) → ruled_at line r ≡ Err fault
    → (broken : BrokenRule) × (r ≡ Err broken) × (line_fault line broken ≡ fault)
broken_by line (Ok x) fault is = absurd (cc)
broken_by line (Err broken) fault is = (broken, refl, cc)
