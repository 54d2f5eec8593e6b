-- A time has one granule of a column, and a span one nearest border.
use Rattle.std.proofs.Common.{◌≡◌, ◌⊎◌, ℕ, ◌+◌, ◌*◌, ◌<◌, ◌≤◌, Option, Some, None, ℤ, pos, ◌+ℤ◌, ◌<ℤ◌, ◌≤ℤ◌, refl, sym, ◌∙◌, ap, arith, inl, inr}
use Rattle.std.proofs.lemmas.Int.{ints}
use Rattle.std.proofs.lemmas.Nat.{mul-le, same_from_place}
use Rattle.std.proofs.lemmas.Bool.{cases_lt}
use Rattle.std.proofs.Math.Nat.{eq_of_mul-eq-mul_right}
use Rattle.spec_numbers.proofs.Naturals.{exchanged_factors, row_fits}
use Rattle.spec_ephemeris.specs.declared.header.Column.{Column}
use Rattle.spec_ephemeris.specs.Ephemeris.{Ephemeris, IsEphemeris, Granule, IsGranuleAt, granule_end, granule_numbers, block_numbers, end_of, IsPreferred, IsNearest}
use Rattle.spec_ephemeris.proofs.ColumnRules.{one_column, some_granules}

preferred_once : (a b t s : ℤ) → IsPreferred a b t s → IsPreferred a b s t → t ≡ s
preferred_once a b t s (inl one) (inl other) = absurd (omega (arith, one, other))
preferred_once a b t s (inl one) (inr other) = absurd (omega (arith, one, other.0))
preferred_once a b t s (inr one) (inl other) = absurd (omega (arith, one.0, other))
preferred_once a b t s (inr one) (inr other) = omega (arith, ints, one.1, other.1)

pub nearest_once : (P : ℤ → Type 0) (a b : ℤ) (x y : Option ℤ) → IsNearest P a b x → IsNearest P a b y → x ≡ y
nearest_once P a b None None one other = refl
nearest_once P a b None (Some s) one other = absurd (one s other.0)
nearest_once P a b (Some t) None one other = absurd (other t one.0)
nearest_once P a b (Some t) (Some s) one other = ap Some (preferred_once a b t s (one.1 s other.0) (other.1 t one.0))

-- where t belongs to the granule of index m, a granule that begins by t has no greater index
no_later : (start t : ℤ) (k m count l : ℕ) → 0 < l → k < count → (start +ℤ pos (k * l)) ≤ℤ t
    → (t <ℤ ((start +ℤ pos (m * l)) +ℤ pos l)) ⊎ ((t ≡ (start +ℤ pos (m * l)) +ℤ pos l) × (t ≡ start +ℤ pos (count * l)))
    → k ≤ m
no_later start t k m count l some below from upto = elim (cases_lt m k) [
  | inr holds ↦ holds
  | inl later ↦ (let next : (m + 1) * l ≤ k * l = mul-le (m + 1) l k l (omega (arith, later)) (omega arith) in
      let last : (k + 1) * l ≤ count * l = mul-le (k + 1) l count l (omega (arith, below)) (omega arith) in
      absurd (elim upto [
        | inl before ↦ omega (arith, ints, from, next, before)
        | inr at_end ↦ omega (arith, ints, some, from, next, last, at_end.0, at_end.1)
      ]))
]

pub granules_end : (e : Ephemeris) (l gr : ℕ) → e.header.block_seconds ≡ pos (l * gr) → end_of e ≡ e.start +ℤ pos (e.blocks * gr * l)
granules_end e l gr shares = rw shares (ap (λ n. e.start +ℤ pos n) (exchanged_factors e.blocks l gr))

pub some_length : (e : Ephemeris) (l gr : ℕ) → IsEphemeris e → e.header.block_seconds ≡ pos (l * gr) → 0 < l
some_length e l gr checked shares = elim (cases_lt 0 l) [
  | inl some ↦ some
  | inr none ↦ (let nothing : l * gr ≤ 0 * gr = mul-le l gr 0 gr none (omega arith) in
      let shortest = checked.header.shortest in absurd (omega (arith, ints, nothing, shares, shortest)))
]

inside : (block blocks inner gr : ℕ) → block < blocks → inner < gr → block * gr + inner < blocks * gr
inside block blocks inner gr one other = let row = row_fits block blocks gr one in omega (arith, other, row)

-- the index of a granule that a time belongs to is no greater than another's
index_once : (e : Ephemeris) (t : ℤ) (g h : Granule) (k m gr : ℕ) → IsEphemeris e → e.header.block_seconds ≡ pos (g.duration * gr)
    → h.duration ≡ g.duration → k < e.blocks * gr → g.start ≡ e.start +ℤ pos (k * g.duration) → h.start ≡ e.start +ℤ pos (m * h.duration)
    → g.start ≤ℤ t → (t <ℤ granule_end h) ⊎ ((t ≡ granule_end h) × (t ≡ end_of e)) → k ≤ m
index_once e t g h k m gr checked shares duration below g_start h_start from upto =
    let start : h.start ≡ e.start +ℤ pos (m * g.duration) = rw duration at h_start in
    no_later e.start t k m (e.blocks * gr) g.duration (some_length e g.duration gr checked shares) below (rw g_start at from)
    (rw (duration, start, granules_end e g.duration gr shares) at upto)

same_numbers : (number : ℕ) (c : Column) (e : Ephemeris) (i j k m : ℕ) → i ≡ j → k ≡ m
    → granule_numbers number c i (block_numbers e k) ≡ granule_numbers number c j (block_numbers e m)
same_numbers number c e i j k m one other = rw (one, other) refl

pub one_granule : (e : Ephemeris) (number : ℕ) (t : ℤ) (g h : Granule) → IsEphemeris e → IsGranuleAt e number t g → IsGranuleAt e number t h → g ≡ h
one_granule e number t g h checked one other =
    let a = one.granule in
    let b = other.granule in
    let gr : ℕ = a.column.granules in
    let column : b.column ≡ a.column = one_column e.header number b.column a.column b.is a.is in
    let some : 0 < gr = some_granules a.column e.header number a.is in
    let shares : e.header.block_seconds ≡ pos (h.duration * gr) = rw column at b.shares in
    let both : pos (h.duration * gr) ≡ pos (g.duration * gr) = sym shares ∙ a.shares in
    let products : h.duration * gr ≡ g.duration * gr = omega (arith, ints, both) in
    let duration : h.duration ≡ g.duration = eq_of_mul-eq-mul_right gr some h.duration g.duration products in
    let b_inner : b.inner < gr = rw column at b.of_block in
    let b_start : h.start ≡ e.start +ℤ pos ((b.block * gr + b.inner) * h.duration) = rw column at b.start in
    let k : ℕ = a.block * gr + a.inner in
    let m : ℕ = b.block * gr + b.inner in
    let least : k ≤ m = index_once e t g h k m gr checked a.shares duration (inside a.block e.blocks a.inner gr a.of_ephemeris a.of_block) a.start b_start one.from other.upto in
    let greatest : m ≤ k = index_once e t h g m k gr checked shares (sym duration) (inside b.block e.blocks b.inner gr b.of_ephemeris b_inner) b_start a.start other.from one.upto in
    let place = same_from_place a.block a.inner b.block b.inner gr a.of_block b_inner (omega (arith, least, greatest)) in
    let b_coefs : h.coefs ≡ granule_numbers number a.column b.inner (block_numbers e b.block) = rw column at b.coefs in
    let coefs : g.coefs ≡ h.coefs = a.coefs ∙ (same_numbers number a.column e a.inner b.inner a.block b.block place.1 place.0 ∙ sym b_coefs) in
    let index : m ≡ k = omega (arith, least, greatest) in
    let moved : h.start ≡ e.start +ℤ pos (k * g.duration) = rw (index, duration) at b_start in
    let start : g.start ≡ h.start = a.start ∙ sym moved in
    let lengths : g.duration ≡ h.duration = sym duration in
    λ i. record { start = start i; duration = lengths i; coefs = coefs i }
