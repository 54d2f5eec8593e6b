-- Some blocks of an ephemeris have its granules and borders, as far as they reach.
use Rattle.std.proofs.Common.{◌≡◌, ℕ, ◌+◌, ◌-◌, ◌*◌, ◌<◌, ◌≤◌, ◌⊎◌, inl, inr, List, [], ◌∷◌, take, drop, ℤ, pos, ◌+ℤ◌, ◌*ℤ◌, ◌≤ℤ◌, ◌<ℤ◌, sym, ap, ◌∙◌, subst, arith}
use Rattle.std.proofs.lemmas.Int.{ints}
use Rattle.std.proofs.lemmas.Nat.{mul-le}
use Rattle.std.proofs.lemmas.Bool.{cases_lt}
use Rattle.std.proofs.lemmas.List.{drop-drop, drop-take, take-take}
use Rattle.spec_numbers.proofs.Naturals.{row_fits}
use Rattle.spec_numbers.proofs.Ring.{v, ◌⊕◌, ◌⊗◌, ring}
use Rattle.spec_ephemeris.specs.Ephemeris.{Ephemeris, Granule, IsBorderIn, IsEphemeris, IsGranule, IsGranuleAt, block_numbers, end_of, granule_end, granule_numbers}
use Rattle.spec_searches.proofs.Parts.{no_earlier}
use Rattle.spec_spans.specs.Seams.{block_start}
use Rattle.spec_spans.specs.Searches.{some_blocks}

-- ---- the numbers of a block
same_block : {X : Type 0} (n skipped count block : ℕ) (xs : List X) → block < count
    → take n (drop (block * n) (take (count * n) (drop (skipped * n) xs))) ≡ take n (drop ((skipped + block) * n) xs)
same_block n skipped count block xs below =
    let fits : block * n + n ≤ count * n = row_fits block count n below in
    let whole : count * n ≡ block * n + (count * n - block * n) = omega (arith, fits) in
    ap (λ m. take n (drop (block * n) (take m (drop (skipped * n) xs)))) whole
    ∙ ap (take n) (drop-take (block * n) (count * n - block * n) (drop (skipped * n) xs))
    ∙ take-take n (count * n - block * n) (drop (block * n) (drop (skipped * n) xs)) (omega (arith, fits))
    ∙ ap (take n) (drop-drop (block * n) (skipped * n) xs ∙ ap (λ m. drop m xs) (sum skipped block n))
  where
    sum : (a b n : ℕ) → a * n + b * n ≡ (a + b) * n
    sum a b n = grind arith

-- ---- times
two_starts : (start length : ℤ) (a b : ℕ) → (start +ℤ (pos a *ℤ length)) +ℤ (pos b *ℤ length) ≡ start +ℤ (pos (a + b) *ℤ length)
two_starts start length a b = ring (start ∷ length ∷ pos a ∷ pos b ∷ []) ((v 0 ⊕ v 2 ⊗ v 1) ⊕ v 3 ⊗ v 1) (v 0 ⊕ (v 2 ⊕ v 3) ⊗ v 1) tt

-- a granule's start from the start of the blocks that are not skipped
moved : (skipped block granules inner l : ℕ) → (pos skipped *ℤ pos (l * granules)) +ℤ pos ((block * granules + inner) * l) ≡ pos (((skipped + block) * granules + inner) * l)
moved skipped block granules inner l = ap pos (grind arith)

-- where a granule lies
below_block : (granules block inner l k : ℕ) → inner < granules → block < k → (block * granules + inner) * l ≤ k * granules * l
below_block granules block inner l k within below =
    let row = row_fits block k granules below in
    mul-le (block * granules + inner) l (k * granules) l (omega (arith, row, within)) (omega arith)

above_block : (granules block inner l k : ℕ) → k ≤ block → k * granules * l ≤ (block * granules + inner) * l
above_block granules block inner l k above =
    let row : k * granules ≤ block * granules = mul-le k granules block granules above (omega arith) in
    mul-le (k * granules) l (block * granules + inner) l (omega (arith, row)) (omega arith)

starts_at : (k granules l : ℕ) → pos k *ℤ pos (l * granules) ≡ pos (k * granules * l)
starts_at k granules l = ap pos (grind arith)

module _ (e : Ephemeris) (skipped count : ℕ) (checked : IsEphemeris e) (within : skipped + count ≤ e.blocks) where
  abbrev part : Ephemeris
  part = some_blocks skipped count e

  -- the end of some blocks is the start of the next
  part_end : end_of part ≡ block_start e (skipped + count)
  part_end = two_starts e.start e.header.block_seconds skipped count

  pub starts_later : e.start ≤ℤ part.start
  starts_later = no_earlier e.start e.header.block_seconds skipped checked.header.shortest

  pub ends_within : end_of part ≤ℤ end_of e
  ends_within =
      let k : ℕ = skipped + count in
      let all : k + (e.blocks - k) ≡ e.blocks = omega (arith, within) in
      subst (λ (z : ℤ). end_of part ≤ℤ z) (two_starts e.start e.header.block_seconds k (e.blocks - k) ∙ ap (block_start e) all)
      (subst (λ (z : ℤ). z ≤ℤ (block_start e k +ℤ (pos (e.blocks - k) *ℤ e.header.block_seconds))) (sym part_end)
      (no_earlier (block_start e k) e.header.block_seconds (e.blocks - k) checked.header.shortest))

  block_from : (k : ℕ) (g : Granule) (granules : ℕ) → e.header.block_seconds ≡ pos (g.duration * granules) → block_start e k ≡ e.start +ℤ pos (k * granules * g.duration)
  block_from k g granules shares = ap (λ d. e.start +ℤ (pos k *ℤ d)) shares ∙ ap (λ d. e.start +ℤ d) (starts_at k granules g.duration)

  -- ---- granules
  regroup : (a b c d : ℤ) → b +ℤ c ≡ d → (a +ℤ b) +ℤ c ≡ a +ℤ d
  regroup a b c d e = omega (arith, ints, e)

  start_moved : (block inner granules l : ℕ) → e.header.block_seconds ≡ pos (l * granules)
      → part.start +ℤ pos ((block * granules + inner) * l) ≡ e.start +ℤ pos (((skipped + block) * granules + inner) * l)
  start_moved block inner granules l shares =
      ap (λ d. (e.start +ℤ (pos skipped *ℤ d)) +ℤ pos ((block * granules + inner) * l)) shares
      ∙ regroup e.start (pos skipped *ℤ pos (l * granules)) (pos ((block * granules + inner) * l)) (pos (((skipped + block) * granules + inner) * l)) (moved skipped block granules inner l)

  pub granule_of_all : (number : ℕ) (g : Granule) → IsGranule part number g → IsGranule e number g
  granule_of_all number g is =
      let below = is.of_ephemeris in
      record {
        column = is.column;
        is = is.is;
        block = skipped + is.block;
        of_ephemeris = omega (arith, within, below);
        inner = is.inner;
        of_block = is.of_block;
        shares = is.shares;
        start = is.start ∙ start_moved is.block is.inner is.column.granules g.duration is.shares;
        coefs = is.coefs ∙ ap (granule_numbers number is.column is.inner) (same_block e.header.ncoeff skipped count is.block e.numbers below);
      }

  granule_of_part : (number block : ℕ) (g : Granule) (is : IsGranule e number g) → is.block ≡ skipped + block → block < count → IsGranule part number g
  granule_of_part number block g is at below = record {
    column = is.column;
    is = is.is;
    block = block;
    of_ephemeris = below;
    inner = is.inner;
    of_block = is.of_block;
    shares = is.shares;
    start = is.start ∙ ap (λ k. e.start +ℤ pos ((k * is.column.granules + is.inner) * g.duration)) at ∙ sym (start_moved block is.inner is.column.granules g.duration is.shares);
    coefs = is.coefs ∙ ap (λ k. granule_numbers number is.column is.inner (block_numbers e k)) at
        ∙ sym (ap (granule_numbers number is.column is.inner) (same_block e.header.ncoeff skipped count block e.numbers below));
  }

  -- up to a time of which the block is there
  module _ (last : ℤ) (next : (last <ℤ block_start e (skipped + count)) ⊎ (skipped + count ≡ e.blocks)) where
    same_end : skipped + count ≡ e.blocks → end_of part ≡ end_of e
    same_end all = part_end ∙ ap (block_start e) all

    pub granule_at_of_all : (number : ℕ) (t : ℤ) (g : Granule) → t ≤ℤ last → IsGranuleAt part number t g → IsGranuleAt e number t g
    granule_at_of_all number t g upto at = record { granule = granule_of_all number g at.granule; from = at.from; upto = by at.upto next }
      where
        by : (t <ℤ granule_end g) ⊎ ((t ≡ granule_end g) × (t ≡ end_of part)) → (last <ℤ block_start e (skipped + count)) ⊎ (skipped + count ≡ e.blocks)
            → (t <ℤ granule_end g) ⊎ ((t ≡ granule_end g) × (t ≡ end_of e))
        by (inl before) n = inl before
        by (inr end) (inl before) = let ends = part_end in let is = end.1 in absurd (omega (arith, ints, ends, is, before, upto))
        by (inr end) (inr all) = inr (end.0, end.1 ∙ same_end all)

    -- ---- borders
    within_part : (number : ℕ) (g : Granule) (is : IsGranule e number g) → part.start <ℤ g.start → g.start ≤ℤ last → (skipped ≤ is.block) × (is.block < skipped + count)
    within_part number g is after upto = (low (cases_lt is.block skipped), high (cases_lt is.block (skipped + count)) next)
      where
        low : (is.block < skipped) ⊎ (skipped ≤ is.block) → skipped ≤ is.block
        low (inr above) = above
        low (inl below) =
            let before = below_block is.column.granules is.block is.inner g.duration skipped is.of_block below in
            let starts = block_from skipped g is.column.granules is.shares in
            let at = is.start in
            absurd (omega (arith, ints, before, starts, at, after))

        high : (is.block < skipped + count) ⊎ ((skipped + count) ≤ is.block) → (last <ℤ block_start e (skipped + count)) ⊎ (skipped + count ≡ e.blocks) → is.block < skipped + count
        high (inl below) n = below
        high (inr above) (inl before) =
            let behind = above_block is.column.granules is.block is.inner g.duration (skipped + count) above in
            let ends = block_from (skipped + count) g is.column.granules is.shares in
            let at = is.start in
            absurd (omega (arith, ints, behind, ends, at, before, upto))
        high (inr above) (inr all) = let of_all = is.of_ephemeris in absurd (omega (arith, above, all, of_all))

    pub border_of_all : (numbers : List ℕ) (a b t : ℤ) → IsBorderIn part numbers a b t → IsBorderIn e numbers a b t
    border_of_all numbers a b t is =
        let from = starts_later in
        let later = is.border.later in
        record {
          number = is.number;
          listed = is.listed;
          border = record { granule = is.border.granule; is = granule_of_all is.number is.border.granule is.border.is; begins = is.border.begins; later = omega (arith, ints, from, later) };
          after = is.after;
          upto = is.upto;
        }

    pub border_of_part : (numbers : List ℕ) (a b t : ℤ) → part.start ≤ℤ a → b ≤ℤ last → IsBorderIn e numbers a b t → IsBorderIn part numbers a b t
    border_of_part numbers a b t from to is =
        let begins = is.border.begins in
        let after = is.after in
        let upto = is.upto in
        let granule = is.border.is in
        let place = within_part is.number is.border.granule granule (omega (arith, ints, begins, after, from)) (omega (arith, ints, begins, upto, to)) in
        record {
          number = is.number;
          listed = is.listed;
          border = record {
            granule = is.border.granule;
            is = granule_of_part is.number (granule.block - skipped) is.border.granule granule (omega (arith, place.0)) (omega (arith, place.0, place.1));
            begins = begins;
            later = omega (arith, ints, after, from);
          };
          after = after;
          upto = upto;
        }
