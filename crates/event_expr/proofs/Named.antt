-- The set of a term has what the term names.
use Rattle.std.proofs.Common.{◌≡◌, ℕ, zero, suc, ◌<◌, ◌↔◌, ◌⊎◌, inl, inr, arith, ap, sym, refl, ◌∙◌, Bool, true, false, ◌||◌, IsTrue}
use Rattle.std.proofs.lemmas.Bool.{eqb-true, eq-eqb}
use Rattle.spec_expressions.specs.Term.{Leaf, position, velocity, IsLeaf, Term, leaf, length, cosine, sum, difference, product, signed_square, HasLeaves}
use Rattle.event_expr.specs.declared.axes.Axes.{Axes}
use Rattle.event_expr.specs.declared.leaves.Leaves.{Leaves}
use Rattle.event_expr.specs.Leaves.{Names, no_axes, one_axis, either_axes, has_axis, no_leaves, either_leaves, has_leaf, leaves_of}

isnt : false ≡ true → ⊥
isnt p = cc

-- ---- axes
has_axis-none : (axis : ℕ) → IsTrue (has_axis no_axes axis) → ⊥
has_axis-none zero p = isnt p
has_axis-none (suc zero) p = isnt p
has_axis-none (suc (suc axis)) p = isnt p

has_axis-one : (a axis : ℕ) → axis < 3 → IsTrue (has_axis (one_axis a) axis) ↔ (a ≡ axis)
has_axis-one a zero h = (eqb-true a 0, eq-eqb a 0)
has_axis-one a (suc zero) h = (eqb-true a 1, eq-eqb a 1)
has_axis-one a (suc (suc axis)) h =
    let e : suc (suc axis) ≡ 2 = omega arith in
    (λ p. eqb-true a 2 p ∙ sym e, λ p. eq-eqb a 2 (p ∙ e))

has_axis-either : (a b : Axes) (axis : ℕ) → has_axis (either_axes a b) axis ≡ (has_axis a axis || has_axis b axis)
has_axis-either a b zero = refl
has_axis-either a b (suc zero) = refl
has_axis-either a b (suc (suc axis)) = refl

-- ---- parts of a leaf
abbrev target_of : Leaf → ℕ
target_of (position target axis) = target
target_of (velocity target axis) = target

abbrev axis_of : Leaf → ℕ
axis_of (position target axis) = axis
axis_of (velocity target axis) = axis

abbrev is_velocity : Leaf → Bool
is_velocity (position target axis) = false
is_velocity (velocity target axis) = true

-- ---- one leaf
same : (l : ℕ → ℕ → Leaf) → ((t a : ℕ) → axis_of (l t a) ≡ a) → (t u a b : ℕ) → t ≡ u → b < 3 → IsTrue (has_axis (one_axis a) b) ↔ (l t a ≡ l u b)
same l is t u a b e h =
    let f = has_axis-one a b h in
    (λ p i. l (e i) (f.0 p i), λ p. f.1 (sym (is t a) ∙ ap axis_of p ∙ is u b))

others : (k l : Leaf) (axis : ℕ) → (k ≡ l → ⊥) → IsTrue (has_axis no_axes axis) ↔ (k ≡ l)
others k l axis n = (λ p. absurd (has_axis-none axis p), λ p. absurd (n p))

apart : (k l : Leaf) → (target_of k ≡ target_of l → ⊥) → k ≡ l → ⊥
apart k l n p = n (ap target_of p)

position-apart : (t a u b : ℕ) → position t a ≡ velocity u b → ⊥
position-apart t a u b p = isnt (ap is_velocity p)

velocity-apart : (t a u b : ℕ) → velocity t a ≡ position u b → ⊥
velocity-apart t a u b p = isnt (sym (ap is_velocity p))

has_leaf-one : (k l : Leaf) → IsLeaf k → IsLeaf l → IsTrue (has_leaf (leaves_of (leaf k)) l) ↔ (k ≡ l)
has_leaf-one (position zero a) (position zero b) g h = same position (λ t a. refl) zero zero a b refl h.1
has_leaf-one (position zero a) (position (suc u) b) g h = others _ _ b (apart _ _ (λ p. omega arith))
has_leaf-one (position (suc t) a) (position zero b) g h = others _ _ b (apart _ _ (λ p. omega arith))
has_leaf-one (position (suc t) a) (position (suc u) b) g h = same position (λ t a. refl) (suc t) (suc u) a b (let p = g.0 in let q = h.0 in omega arith) h.1
has_leaf-one (velocity zero a) (velocity zero b) g h = same velocity (λ t a. refl) zero zero a b refl h.1
has_leaf-one (velocity zero a) (velocity (suc u) b) g h = others _ _ b (apart _ _ (λ p. omega arith))
has_leaf-one (velocity (suc t) a) (velocity zero b) g h = others _ _ b (apart _ _ (λ p. omega arith))
has_leaf-one (velocity (suc t) a) (velocity (suc u) b) g h = same velocity (λ t a. refl) (suc t) (suc u) a b (let p = g.0 in let q = h.0 in omega arith) h.1
has_leaf-one (position zero a) (velocity zero b) g h = others _ _ b (position-apart zero a zero b)
has_leaf-one (position zero a) (velocity (suc u) b) g h = others _ _ b (position-apart zero a (suc u) b)
has_leaf-one (position (suc t) a) (velocity zero b) g h = others _ _ b (position-apart (suc t) a zero b)
has_leaf-one (position (suc t) a) (velocity (suc u) b) g h = others _ _ b (position-apart (suc t) a (suc u) b)
has_leaf-one (velocity zero a) (position zero b) g h = others _ _ b (velocity-apart zero a zero b)
has_leaf-one (velocity zero a) (position (suc u) b) g h = others _ _ b (velocity-apart zero a (suc u) b)
has_leaf-one (velocity (suc t) a) (position zero b) g h = others _ _ b (velocity-apart (suc t) a zero b)
has_leaf-one (velocity (suc t) a) (position (suc u) b) g h = others _ _ b (velocity-apart (suc t) a (suc u) b)

-- ---- no leaf, and those of two sets
has_leaf-none : (l : Leaf) → IsTrue (has_leaf no_leaves l) ↔ ⊥
has_leaf-none (position zero axis) = (has_axis-none axis, λ p. absurd p)
has_leaf-none (position (suc target) axis) = (has_axis-none axis, λ p. absurd p)
has_leaf-none (velocity zero axis) = (has_axis-none axis, λ p. absurd p)
has_leaf-none (velocity (suc target) axis) = (has_axis-none axis, λ p. absurd p)

has_leaf-either : (s r : Leaves) (l : Leaf) → has_leaf (either_leaves s r) l ≡ (has_leaf s l || has_leaf r l)
has_leaf-either s r (position zero axis) = has_axis-either s.first_position r.first_position axis
has_leaf-either s r (position (suc target) axis) = has_axis-either s.second_position r.second_position axis
has_leaf-either s r (velocity zero axis) = has_axis-either s.first_velocity r.first_velocity axis
has_leaf-either s r (velocity (suc target) axis) = has_axis-either s.second_velocity r.second_velocity axis

one_of : (a b : Bool) (P Q : Type 0) → IsTrue a ↔ P → IsTrue b ↔ Q → IsTrue (a || b) ↔ (P ⊎ Q)
one_of true b P Q f g = (λ p. inl (f.0 refl), λ p. refl)
one_of false b P Q f g = (λ p. inr (g.0 p), λ p. elim p [ inl q ↦ absurd (isnt (f.1 q)) | inr q ↦ g.1 q ])

two : (s r : Leaves) (l : Leaf) (P Q : Type 0) → IsTrue (has_leaf s l) ↔ P → IsTrue (has_leaf r l) ↔ Q → IsTrue (has_leaf (either_leaves s r) l) ↔ (P ⊎ Q)
two s r l P Q f g = rw (has_leaf-either s r l) (one_of (has_leaf s l) (has_leaf r l) P Q f g)

pub has_leaf-leaves_of : (e : Term) → HasLeaves e → (l : Leaf) → IsLeaf l → IsTrue (has_leaf (leaves_of e) l) ↔ Names e l
has_leaf-leaves_of (leaf k) g l h = has_leaf-one k l g h
has_leaf-leaves_of (length d) g l h = has_leaf-none l
has_leaf-leaves_of (cosine d) g l h = has_leaf-none l
has_leaf-leaves_of (sum x y) g l h = two (leaves_of x) (leaves_of y) l (Names x l) (Names y l) (has_leaf-leaves_of x g.0 l h) (has_leaf-leaves_of y g.1 l h)
has_leaf-leaves_of (difference x y) g l h = two (leaves_of x) (leaves_of y) l (Names x l) (Names y l) (has_leaf-leaves_of x g.0 l h) (has_leaf-leaves_of y g.1 l h)
has_leaf-leaves_of (product x y) g l h = two (leaves_of x) (leaves_of y) l (Names x l) (Names y l) (has_leaf-leaves_of x g.0 l h) (has_leaf-leaves_of y g.1 l h)
has_leaf-leaves_of (signed_square x) g l h = has_leaf-leaves_of x g l h
