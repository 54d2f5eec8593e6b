-- What a target is made of stands among the columns in use, and these are there.
use Rattle.std.proofs.Common.{◌≡◌, ◌⊎◌, ℕ, zero, suc, ◌<◌, ◌≤◌, ◌==◌, ◌||◌, Bool, true, false, cond, IsTrue, List, [], ◌∷◌, slice_index_or, refl, ap, subst, ◌∙◌, arith, inl, inr, eq-eqb, sym}
use Rattle.std.specs.Prelude.{All, Contains}
use Rattle.std.specs.List.{filter}
use Rattle.std.proofs.lemmas.List.Elements.{All-append, All-head, All-tail, All-contains_itself, filter_passes, All-filter}
use Rattle.std.proofs.lemmas.List.Folds.{list_any_at}
use Rattle.std.proofs.lemmas.Bool.{eqb-true}
use Rattle.std.proofs.Math.Bool.{or-true}
use Rattle.spec_ephemeris.specs.declared.limits.TheConstants.{BODY_COLUMNS}
use Rattle.spec_ephemeris.specs.Header.{has_column}
use Rattle.spec_ephemeris.specs.Ephemeris.{Ephemeris}
use Rattle.spec_bodies.specs.declared.source.Source.{Source}
use Rattle.spec_bodies.specs.declared.source.Source.TheVariants.{EarthOfPair, MoonOfPair}
use Rattle.spec_ephemeris.specs.declared.body.Body.{Body}
use Rattle.spec_ephemeris.specs.declared.body.Body.TheVariants.{Mercury, Venus, Emb, Mars, Jupiter, Saturn, Uranus, Neptune, Pluto, Moon, Sun, Earth, Ssb}
use Rattle.spec_bodies.specs.declared.source.TheConstants.{EMB_COLUMN, MOON_COLUMN}
use Rattle.spec_bodies.specs.Sources.{source_of, needed_columns, used, body_columns, is_among, is_in_use}
use Rattle.spec_bodies.specs.Reading.{IsUsable}
use Rattle.spec_bodies.specs.Views.{View, HasColumns, IsView, IsThere, target_of, columns_of}

-- what is true of the columns that both need is true of those in use
pub used_all : (P : ℕ → Type 0) (target observer : Source) → All P (needed_columns target) → All P (needed_columns observer) → All P (used target observer)
used_all P MoonOfPair EarthOfPair one other = λ k d within. All-of_one P MOON_COLUMN (one 1 0 (omega arith)) k d within
  where
    All-of_one : (P : ℕ → Type 0) (n : ℕ) → P n → All P (n ∷ [])
    All-of_one P n is zero d within = is
    All-of_one P n is (suc k) d within = absurd (omega (arith, within))
used_all P EarthOfPair MoonOfPair one other = λ k d within. All-of_one P MOON_COLUMN (one 1 0 (omega arith)) k d within
  where
    All-of_one : (P : ℕ → Type 0) (n : ℕ) → P n → All P (n ∷ [])
    All-of_one P n is zero d within = is
    All-of_one P n is (suc k) d within = absurd (omega (arith, within))
used_all P target observer one other = All-append P (needed_columns target) (needed_columns observer) one other

-- what passes stays among what is filtered
contains_filtered : {X : Type 0} (p : X → Bool) (xs : List X) (x : X) → Contains xs x → p x ≡ true → Contains (filter p xs) x
contains_filtered p [] x there passes = let within = there.1 in absurd (omega (arith, within))
contains_filtered p (y ∷ ys) x (zero, within, is) passes = rw (ap p is ∙ passes) (0, omega arith, is)
contains_filtered p (y ∷ ys) x (suc k, within, is) passes = by (p y) (contains_filtered p ys x (k, omega (arith, within), is) passes)
  where
    by : (b : Bool) → Contains (filter p ys) x → Contains (cond b (y ∷ filter p ys) (filter p ys)) x
    by true (m, below, at) = (suc m, omega (arith, below), at)
    by false there = there

found : (ns : List ℕ) (number : ℕ) → Contains ns number → is_among ns number ≡ true
found ns number there = list_any_at (λ n. n == number) ns there.0 number there.1 (eq-eqb _ number there.2)

is_body_column : (number : ℕ) → 0 < number → number ≤ BODY_COLUMNS → Contains body_columns number
is_body_column zero some few = absurd (omega (arith, some))
is_body_column (suc zero) some few = (0, omega arith, refl)
is_body_column (suc (suc zero)) some few = (1, omega arith, refl)
is_body_column (suc (suc (suc zero))) some few = (2, omega arith, refl)
is_body_column (suc (suc (suc (suc zero)))) some few = (3, omega arith, refl)
is_body_column (suc (suc (suc (suc (suc zero))))) some few = (4, omega arith, refl)
is_body_column (suc (suc (suc (suc (suc (suc zero)))))) some few = (5, omega arith, refl)
is_body_column (suc (suc (suc (suc (suc (suc (suc zero))))))) some few = (6, omega arith, refl)
is_body_column (suc (suc (suc (suc (suc (suc (suc (suc zero)))))))) some few = (7, omega arith, refl)
is_body_column (suc (suc (suc (suc (suc (suc (suc (suc (suc zero))))))))) some few = (8, omega arith, refl)
is_body_column (suc (suc (suc (suc (suc (suc (suc (suc (suc (suc zero)))))))))) some few = (9, omega arith, refl)
is_body_column (suc (suc (suc (suc (suc (suc (suc (suc (suc (suc (suc zero))))))))))) some few = (10, omega arith, refl)
is_body_column (suc (suc (suc (suc (suc (suc (suc (suc (suc (suc (suc (suc n)))))))))))) some few = absurd (omega (arith, few))

-- column 0 is nowhere
counted : (e : Ephemeris) (number : ℕ) → IsTrue (has_column e.header number) → 0 < number
counted e zero there = absurd (cc)
counted e (suc number) there = omega arith

or_true : (a b : Bool) → (a ≡ true) ⊎ (b ≡ true) → (a || b) ≡ true
or_true a b (inl one) = rw one refl
or_true a b (inr other) = rw other (or-true a)

there_for : (v : View) → IsView v → (target : ℕ) → IsThere v.ephemeris (target_of v target)
there_for v is zero = is.first
there_for v is (suc target) = is.second

used_in_use : (v : View) (target number : ℕ) → Contains (used (target_of v target) v.observer) number → 0 < number → number ≤ BODY_COLUMNS → Contains (columns_of v) number
used_in_use v zero number among some few =
    contains_filtered (is_in_use v.first v.second v.observer) body_columns number (is_body_column number some few) (or_true (is_among (used v.first v.observer) number) (is_among (used v.second v.observer) number) (inl (found (used v.first v.observer) number among)))
used_in_use v (suc target) number among some few =
    contains_filtered (is_in_use v.first v.second v.observer) body_columns number (is_body_column number some few) (or_true (is_among (used v.first v.observer) number) (is_among (used v.second v.observer) number) (inr (found (used v.second v.observer) number among)))

-- each column that a target is made of
pub used_usable : (v : View) → IsView v → (target : ℕ) → All (IsUsable v) (used (target_of v target) v.observer)
used_usable v is target = λ k d within.
    let own = there_for v is target in
    let columns = used (target_of v target) v.observer in
    let present = used_all (λ number. IsTrue (has_column v.ephemeris.header number)) (target_of v target) v.observer own.present is.observer.present k d within in
    let of_body = used_all (λ number. number ≤ BODY_COLUMNS) (target_of v target) v.observer own.of_bodies is.observer.of_bodies k d within in
    record {
      there = present;
      of_body = of_body;
      in_use = used_in_use v target _ (All-contains_itself (used (target_of v target) v.observer) k d within) (counted v.ephemeris _ present) of_body;
    }

-- every body comes from columns of bodies
one_column : (n : ℕ) → n ≤ BODY_COLUMNS → All (λ number. number ≤ BODY_COLUMNS) (n ∷ [])
one_column n few zero d within = few
one_column n few (suc k) d within = absurd (omega (arith, within))

pair_columns : All (λ number. number ≤ BODY_COLUMNS) (EMB_COLUMN ∷ MOON_COLUMN ∷ [])
pair_columns zero d within = omega arith
pair_columns (suc zero) d within = omega arith
pair_columns (suc (suc k)) d within = absurd (omega (arith, within))

pub columns_of_bodies : (body : Body) → All (λ number. number ≤ BODY_COLUMNS) (needed_columns (source_of body))
columns_of_bodies Mercury = one_column 1 (omega arith)
columns_of_bodies Venus = one_column 2 (omega arith)
columns_of_bodies Emb = one_column 3 (omega arith)
columns_of_bodies Mars = one_column 4 (omega arith)
columns_of_bodies Jupiter = one_column 5 (omega arith)
columns_of_bodies Saturn = one_column 6 (omega arith)
columns_of_bodies Uranus = one_column 7 (omega arith)
columns_of_bodies Neptune = one_column 8 (omega arith)
columns_of_bodies Pluto = one_column 9 (omega arith)
columns_of_bodies Moon = pair_columns
columns_of_bodies Sun = one_column 11 (omega arith)
columns_of_bodies Earth = pair_columns
columns_of_bodies Ssb = λ k d within. absurd (omega (arith, within))

-- and where these are there, so is the body
pub body_there : (e : Ephemeris) (body : Body) → HasColumns e (needed_columns (source_of body)) → IsThere e (source_of body)
body_there e body present = record { present = present; of_bodies = columns_of_bodies body }

-- what is true of each of some columns is true of one that is among them
pub among_all : (P : ℕ → Type 0) (ns : List ℕ) (number : ℕ) → All P ns → is_among ns number ≡ true → P number
among_all P [] number all found = absurd (cc)
among_all P (n ∷ ns) number all found = by (n == number) refl (λ other. among_all P ns number (All-tail P n ns all) (rw other at found))
  where
    by : (b : Bool) → (n == number) ≡ b → ((n == number) ≡ false → P number) → P number
    by true same later = subst P (eqb-true n number same) (All-head P n ns all)
    by false other later = later other

-- the columns in use are there
pub present_in_use : (v : View) → IsView v → HasColumns v.ephemeris (columns_of v)
present_in_use v is = λ k d within. by (slice_index_or (columns_of v) k d) (is_among (used v.first v.observer) (slice_index_or (columns_of v) k d)) refl (filter_passes (is_in_use v.first v.second v.observer) body_columns k d within)
  where
    by : (number : ℕ) (b : Bool) → is_among (used v.first v.observer) number ≡ b → is_in_use v.first v.second v.observer number ≡ true → IsTrue (has_column v.ephemeris.header number)
    by number true among in_use = among_all (λ n. IsTrue (has_column v.ephemeris.header n)) (used v.first v.observer) number (used_all (λ n. IsTrue (has_column v.ephemeris.header n)) v.first v.observer is.first.present is.observer.present) among
    by number false other in_use = among_all (λ n. IsTrue (has_column v.ephemeris.header n)) (used v.second v.observer) number (used_all (λ n. IsTrue (has_column v.ephemeris.header n)) v.second v.observer is.second.present is.observer.present) (rw other at in_use)

-- ---- and so they can be read
few : All (λ n. n ≤ BODY_COLUMNS) body_columns
few zero d w = omega arith
few (suc zero) d w = omega arith
few (suc (suc zero)) d w = omega arith
few (suc (suc (suc zero))) d w = omega arith
few (suc (suc (suc (suc zero)))) d w = omega arith
few (suc (suc (suc (suc (suc zero))))) d w = omega arith
few (suc (suc (suc (suc (suc (suc zero)))))) d w = omega arith
few (suc (suc (suc (suc (suc (suc (suc zero))))))) d w = omega arith
few (suc (suc (suc (suc (suc (suc (suc (suc zero)))))))) d w = omega arith
few (suc (suc (suc (suc (suc (suc (suc (suc (suc zero))))))))) d w = omega arith
few (suc (suc (suc (suc (suc (suc (suc (suc (suc (suc zero)))))))))) d w = omega arith
few (suc (suc (suc (suc (suc (suc (suc (suc (suc (suc (suc n))))))))))) d w = absurd (omega (arith, w))

pub usable_in_use : (v : View) → IsView v → All (IsUsable v) (columns_of v)
usable_in_use v is = λ k d within. record {
  there = present_in_use v is k d within;
  of_body = All-filter (is_in_use v.first v.second v.observer) (λ n. n ≤ BODY_COLUMNS) body_columns few k d within;
  in_use = All-contains_itself (columns_of v) k d within;
}

-- by whatever name they are listed
pub usable_numbers : (v : View) → IsView v → (numbers : List ℕ) → numbers ≡ columns_of v → All (IsUsable v) numbers
usable_numbers v is numbers same = subst (All (IsUsable v)) (sym same) (usable_in_use v is)
