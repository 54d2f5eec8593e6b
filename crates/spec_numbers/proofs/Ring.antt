-- A ring identity over the integers, proved by computing the polynomials of its two sides.
--     Poly            an expression: v i is variable i of the list of values, k z a constant, and ⊕ ⊖ ⊗ the operations
--     value xs e      what it stands for
--     ring xs a b tt  value xs a ≡ value xs b, where a ⊖ b has the normal form 0
use Rattle.std.proofs.Common.{◌≡◌, ℕ, zero, suc, arith, refl, sym, ap, subst, ◌∙◌, Bool, true, false, ◌&&◌, eqb, ltb, List, [], ◌∷◌, ℤ, pos, negsuc, ◌+ℤ◌, ◌-ℤ◌, ◌*ℤ◌, neg_ℤ}
use Rattle.std.proofs.Math.Dec.{T, eqb→eq}
use Rattle.std.proofs.lemmas.Int.{ints}
use Rattle.spec_numbers.proofs.Whole.{mul_comm, mul_assoc, mul-add, add-mul, exchanged, one-mul}

infixl 6 ◌⊕◌
infixl 6 ◌⊖◌
infixl 7 ◌⊗◌
pub data Poly : Type 0 where
  v : ℕ → Poly
  k : ℤ → Poly
  ◌⊕◌ : Poly → Poly → Poly
  ◌⊖◌ : Poly → Poly → Poly
  ◌⊗◌ : Poly → Poly → Poly
  minus : Poly → Poly

abbrev pub at : List ℤ → ℕ → ℤ
at [] n = pos 0
at (x ∷ xs) zero = x
at (x ∷ xs) (suc n) = at xs n

abbrev pub value : List ℤ → Poly → ℤ
value xs (v n) = at xs n
value xs (k z) = z
value xs (a ⊕ b) = value xs a +ℤ value xs b
value xs (a ⊖ b) = value xs a -ℤ value xs b
value xs (a ⊗ b) = value xs a *ℤ value xs b
value xs (minus a) = neg_ℤ (value xs a)

-- ---- the normal form: monomials, each a coefficient with its variables in order
pub record Mono : Type 0 where
  pub co : ℤ
  pub of : List ℕ

abbrev mval : List ℤ → List ℕ → ℤ
mval xs [] = pos 1
mval xs (i ∷ m) = at xs i *ℤ mval xs m

abbrev pval : List ℤ → List Mono → ℤ
pval xs [] = pos 0
pval xs (t ∷ p) = t.co *ℤ mval xs t.of +ℤ pval xs p

abbrev with_var : ℕ → List ℕ → List ℕ
with_var i [] = i ∷ []
with_var i (j ∷ m) = elim (ltb j i) [ true ↦ j ∷ with_var i m | false ↦ i ∷ j ∷ m ]

abbrev mono_mul : List ℕ → List ℕ → List ℕ
mono_mul [] n = n
mono_mul (i ∷ m) n = with_var i (mono_mul m n)

abbrev same : List ℕ → List ℕ → Bool
same [] [] = true
same [] (j ∷ n) = false
same (i ∷ m) [] = false
same (i ∷ m) (j ∷ n) = elim (eqb i j) [ true ↦ same m n | false ↦ false ]

abbrev before : List ℕ → List ℕ → Bool
before [] n = true
before (i ∷ m) [] = false
before (i ∷ m) (j ∷ n) = elim (ltb i j) [ true ↦ true | false ↦ elim (eqb i j) [ true ↦ before m n | false ↦ false ] ]

abbrev add_mono : ℤ → List ℕ → List Mono → List Mono
add_mono c m [] = record { co = c; of = m } ∷ []
add_mono c m (t ∷ p) = elim (same m t.of) [ true ↦ record { co = c +ℤ t.co; of = t.of } ∷ p | false ↦ elim (before m t.of) [ true ↦ record { co = c; of = m } ∷ t ∷ p | false ↦ t ∷ add_mono c m p ] ]

abbrev poly_add : List Mono → List Mono → List Mono
poly_add [] q = q
poly_add (t ∷ p) q = add_mono t.co t.of (poly_add p q)

abbrev scaled : ℤ → List ℕ → List Mono → List Mono
scaled c m [] = []
scaled c m (t ∷ q) = add_mono (c *ℤ t.co) (mono_mul m t.of) (scaled c m q)

abbrev poly_mul : List Mono → List Mono → List Mono
poly_mul [] q = []
poly_mul (t ∷ p) q = poly_add (scaled t.co t.of q) (poly_mul p q)

abbrev norm : Poly → List Mono
norm (v n) = record { co = pos 1; of = n ∷ [] } ∷ []
norm (k z) = record { co = z; of = [] } ∷ []
norm (a ⊕ b) = poly_add (norm a) (norm b)
norm (a ⊖ b) = poly_add (norm a) (scaled (negsuc 0) [] (norm b))
norm (a ⊗ b) = poly_mul (norm a) (norm b)
norm (minus a) = scaled (negsuc 0) [] (norm a)

abbrev is_zero : ℤ → Bool
is_zero (pos zero) = true
is_zero (pos (suc n)) = false
is_zero (negsuc n) = false

abbrev all_zero : List Mono → Bool
all_zero [] = true
all_zero (t ∷ p) = is_zero t.co && all_zero p

-- ---- each step keeps the value
mval-with_var : (xs : List ℤ) (i : ℕ) (m : List ℕ) → mval xs (with_var i m) ≡ at xs i *ℤ mval xs m
mval-with_var xs i [] = refl
mval-with_var xs i (j ∷ m) = by (mval-with_var xs i m) (ltb j i)
  where
    by : mval xs (with_var i m) ≡ at xs i *ℤ mval xs m → (b : Bool) → mval xs (elim b [ true ↦ j ∷ with_var i m | false ↦ i ∷ j ∷ m ]) ≡ at xs i *ℤ (at xs j *ℤ mval xs m)
    by ih true = ap (λ x. at xs j *ℤ x) ih ∙ exchanged (at xs j) (at xs i) (mval xs m)
    by ih false = refl

mval-mul : (xs : List ℤ) (m n : List ℕ) → mval xs (mono_mul m n) ≡ mval xs m *ℤ mval xs n
mval-mul xs [] n = sym (one-mul (mval xs n))
mval-mul xs (i ∷ m) n =
    mval-with_var xs i (mono_mul m n) ∙ (ap (λ x. at xs i *ℤ x) (mval-mul xs m n) ∙ sym (mul_assoc (at xs i) (mval xs m) (mval xs n)))

same-eq : (m n : List ℕ) → T (same m n) → m ≡ n
same-eq [] [] h = refl
same-eq [] (j ∷ n) h = absurd h
same-eq (i ∷ m) [] h = absurd h
same-eq (i ∷ m) (j ∷ n) h = by (same-eq m n) (eqb i j) refl h
  where
    by : (T (same m n) → m ≡ n) → (b : Bool) → eqb i j ≡ b → T (elim b [ true ↦ same m n | false ↦ false ]) → i ∷ m ≡ j ∷ n
    by ih true e t = let p : i ≡ j = eqb→eq i j (subst T (sym e) tt) in let q : m ≡ n = ih t in cc
    by ih false e t = absurd t

pval-add_mono : (xs : List ℤ) (c : ℤ) (m : List ℕ) (p : List Mono) → pval xs (add_mono c m p) ≡ c *ℤ mval xs m +ℤ pval xs p
pval-add_mono xs c m [] = refl
pval-add_mono xs c m (t ∷ p) = by (pval-add_mono xs c m p) (same m t.of) refl
  where
    last : pval xs (add_mono c m p) ≡ c *ℤ mval xs m +ℤ pval xs p → (b : Bool) → pval xs (elim b [ true ↦ record { co = c; of = m } ∷ t ∷ p | false ↦ t ∷ add_mono c m p ]) ≡ c *ℤ mval xs m +ℤ (t.co *ℤ mval xs t.of +ℤ pval xs p)
    last e true = refl
    last e false = ap (λ x. t.co *ℤ mval xs t.of +ℤ x) e ∙ omega (arith, ints)

    by : pval xs (add_mono c m p) ≡ c *ℤ mval xs m +ℤ pval xs p → (b : Bool) → same m t.of ≡ b → pval xs (elim b [ true ↦ record { co = c +ℤ t.co; of = t.of } ∷ p | false ↦ elim (before m t.of) [ true ↦ record { co = c; of = m } ∷ t ∷ p | false ↦ t ∷ add_mono c m p ] ]) ≡ c *ℤ mval xs m +ℤ (t.co *ℤ mval xs t.of +ℤ pval xs p)
    by ih true e = let q : m ≡ t.of = same-eq m t.of (subst T (sym e) tt) in let d : (c +ℤ t.co) *ℤ mval xs t.of ≡ c *ℤ mval xs t.of +ℤ t.co *ℤ mval xs t.of = add-mul c t.co (mval xs t.of) in ap (λ x. x +ℤ pval xs p) d ∙ (rw q (omega (arith, ints)))
    by ih false e = last ih (before m t.of)

pval-add : (xs : List ℤ) (p q : List Mono) → pval xs (poly_add p q) ≡ pval xs p +ℤ pval xs q
pval-add xs [] q = omega (arith, ints)
pval-add xs (t ∷ p) q =
    pval-add_mono xs t.co t.of (poly_add p q) ∙ (ap (λ x. t.co *ℤ mval xs t.of +ℤ x) (pval-add xs p q) ∙ omega (arith, ints))

mono_times : (c d m n : ℤ) → (c *ℤ d) *ℤ (m *ℤ n) ≡ (c *ℤ m) *ℤ (d *ℤ n)
mono_times c d m n = mul_assoc c d (m *ℤ n) ∙ (ap (λ x. c *ℤ x) (exchanged d m n) ∙ sym (mul_assoc c m (d *ℤ n)))

pval-scaled : (xs : List ℤ) (c : ℤ) (m : List ℕ) (q : List Mono) → pval xs (scaled c m q) ≡ (c *ℤ mval xs m) *ℤ pval xs q
pval-scaled xs c m [] = sym (mul_comm (c *ℤ mval xs m) (pos 0) ∙ omega (arith, ints))
pval-scaled xs c m (t ∷ q) =
    pval-add_mono xs (c *ℤ t.co) (mono_mul m t.of) (scaled c m q) ∙ (ap (λ x. (c *ℤ t.co) *ℤ x +ℤ pval xs (scaled c m q)) (mval-mul xs m t.of) ∙ (ap (λ x. x +ℤ pval xs (scaled c m q)) (mono_times c t.co (mval xs m) (mval xs t.of)) ∙ (ap (λ x. (c *ℤ mval xs m) *ℤ (t.co *ℤ mval xs t.of) +ℤ x) (pval-scaled xs c m q) ∙ sym (mul-add (c *ℤ mval xs m) (t.co *ℤ mval xs t.of) (pval xs q)))))

pval-mul : (xs : List ℤ) (p q : List Mono) → pval xs (poly_mul p q) ≡ pval xs p *ℤ pval xs q
pval-mul xs [] q = sym (mul_comm (pos 0) (pval xs q) ∙ (mul_comm (pval xs q) (pos 0) ∙ omega (arith, ints)))
pval-mul xs (t ∷ p) q =
    pval-add xs (scaled t.co t.of q) (poly_mul p q) ∙ (ap (λ x. x +ℤ pval xs (poly_mul p q)) (pval-scaled xs t.co t.of q) ∙ (ap (λ x. (t.co *ℤ mval xs t.of) *ℤ pval xs q +ℤ x) (pval-mul xs p q) ∙ sym (add-mul (t.co *ℤ mval xs t.of) (pval xs p) (pval xs q))))

pval-norm : (xs : List ℤ) (e : Poly) → pval xs (norm e) ≡ value xs e
pval-norm xs (v n) = omega (arith, ints)
pval-norm xs (k z) = omega (arith, ints)
pval-norm xs (a ⊕ b) =
    pval-add xs (norm a) (norm b) ∙ (ap (λ x. x +ℤ pval xs (norm b)) (pval-norm xs a) ∙ ap (λ x. value xs a +ℤ x) (pval-norm xs b))
pval-norm xs (a ⊖ b) =
    let e : pval xs (scaled (negsuc 0) [] (norm b)) ≡ (negsuc 0 *ℤ pos 1) *ℤ pval xs (norm b) = pval-scaled xs (negsuc 0) [] (norm b) in
    let f : pval xs (norm b) ≡ value xs b = pval-norm xs b in
    pval-add xs (norm a) (scaled (negsuc 0) [] (norm b)) ∙ (ap (λ x. x +ℤ pval xs (scaled (negsuc 0) [] (norm b))) (pval-norm xs a) ∙ (ap (λ x. value xs a +ℤ x) e ∙ (ap (λ x. value xs a +ℤ negsuc 0 *ℤ x) f ∙ omega (arith, ints))))
pval-norm xs (a ⊗ b) =
    pval-mul xs (norm a) (norm b) ∙ (ap (λ x. x *ℤ pval xs (norm b)) (pval-norm xs a) ∙ ap (λ x. value xs a *ℤ x) (pval-norm xs b))
pval-norm xs (minus a) =
    let e : pval xs (scaled (negsuc 0) [] (norm a)) ≡ (negsuc 0 *ℤ pos 1) *ℤ pval xs (norm a) = pval-scaled xs (negsuc 0) [] (norm a) in
    e ∙ (ap (λ x. negsuc 0 *ℤ x) (pval-norm xs a) ∙ omega (arith, ints))

is_zero-eq : (z : ℤ) → T (is_zero z) → z ≡ pos 0
is_zero-eq (pos zero) h = refl
is_zero-eq (pos (suc n)) h = absurd h
is_zero-eq (negsuc n) h = absurd h

both : (a b : Bool) → T (a && b) → T a × T b
both true b h = (tt, h)
both false b h = absurd h

pval-all_zero : (xs : List ℤ) (p : List Mono) → T (all_zero p) → pval xs p ≡ pos 0
pval-all_zero xs [] h = refl
pval-all_zero xs (t ∷ p) h =
    let w : T (is_zero t.co) × T (all_zero p) = both (is_zero t.co) (all_zero p) h in
    ap (λ x. x *ℤ mval xs t.of +ℤ pval xs p) (is_zero-eq t.co w.0) ∙ (ap (λ x. pos 0 *ℤ mval xs t.of +ℤ x) (pval-all_zero xs p w.1) ∙ omega (arith, ints))

pub ring : (xs : List ℤ) (a b : Poly) → T (all_zero (norm (a ⊖ b))) → value xs a ≡ value xs b
ring xs a b h =
    let e : value xs a -ℤ value xs b ≡ pos 0 = sym (pval-norm xs (a ⊖ b)) ∙ pval-all_zero xs (norm (a ⊖ b)) h in
    omega (arith, ints)
