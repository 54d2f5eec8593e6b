-- A span with a margin is still.
use Rattle.std.proofs.Common.{◌≡◌, ◌⊎◌, inl, inr, ℕ, ◌*◌, ◌^◌, ◌<◌, ◌≤◌, arith, refl, sym, ap, subst, ◌∙◌, [], ◌∷◌, ℤ, pos, negsuc, neg_ℤ, ◌+ℤ◌, ◌*ℤ◌, ◌≤ℤ◌, ◌<ℤ◌, true, false}
use Rattle.std.proofs.lemmas.Nat.{pow_pos}
use Rattle.std.proofs.Math.Nat.{mul-pos}
use borrow.Author.Differences.{up, down}
use Rattle.spec_numbers.proofs.Ring.{v, k as lit, ◌⊕◌, ◌⊗◌, minus, ring}
use Rattle.spec_numbers.proofs.Order.{lin, le-mul, le-mul_cancel, lt-mul_cancel}
use Rattle.spec_intervals.specs.declared.signs.Sign.TheVariants.{Yes, No}
use Rattle.spec_intervals.specs.Enclosure.{Enclosure, centred, middle, offsets}
use Rattle.spec_intervals.specs.Fraction.{Fraction, Holds, IsFraction}
use Rattle.spec_intervals.specs.Interval.{Interval, end_limit, is_zero, meet, product, sum}
use Rattle.spec_intervals.specs.Signs.{sign_of}
use Rattle.spec_intervals.proofs.Centred.{middle_between}
use Rattle.spec_intervals.proofs.Sums.{zero_num}
use Rattle.spec_expressions.specs.Term.{HasLeaves}
use Rattle.spec_ephemeris.specs.Ephemeris.{IsBorderIn}
use Rattle.spec_bodies.specs.Views.{Fits, columns_of, state_enclosure}
use Rattle.spec_trees.specs.declared.tree.Node.{Node}
use Rattle.spec_trees.specs.declared.tree.Verdict.TheVariants.{Clear}
use Rattle.spec_trees.specs.Tree.{IsValid, width}
use Rattle.spec_events.specs.Verdict.{is_known}
use Rattle.spec_searches.specs.Found.{rules}
use Rattle.spec_searches.specs.Search.{IsSearch, Search, crosses, enclosure_over, verdict_of}
use Rattle.spec_models.specs.Bounds.{Bound}
use Rattle.spec_models.specs.Inclusion.{Includes, Spans}
use Rattle.spec_models.proofs.Inclusions.{holds_ordered}
use Rattle.spec_bounds.specs.Steady.{sign_at}
use Rattle.spec_bounds.specs.Terms.{bound_over}
use Rattle.spec_bounds.proofs.Within.{formula-within}
use Rattle.spec_bounds.proofs.Quiet.{open_by_fit}
use Rattle.spec_bounds.proofs.Rules.{AreInOrder, IsIncluded, enclosures_in_order}
use Rattle.spec_bounds.proofs.Staged.{exact_in, stages_of}
use Rattle.spec_bounds.proofs.States.{formula_included, part_fits}
use Rattle.spec_bounds.proofs.StatesAtMiddle.{middle_told}
use Rattle.spec_bounds.proofs.StatesAtTime.{formula_at_time}
use Rattle.spec_bounds.proofs.Signs.{sign_above, sign_below}
use Rattle.spec_stills.specs.declared.still.StillSpan.{StillSpan}
use Rattle.spec_stills.specs.Still.{IsStill}
use Rattle.spec_stills.proofs.Units.{clear_unit as clear_by_ends}
use Rattle.spec_models.specs.Ends.{NoMore, greatest_end, high, in_units, low, size}
use Rattle.spec_models.proofs.Ordered.{no_more_trans}
use Rattle.spec_stills.specs.Margins.{HasMargin, IsAbove, IsBelow, StepsFit, opposite, range_at}
use Rattle.spec_stills.proofs.Centred.{centred_above, centred_below, changes_fit, sizes}
use Rattle.spec_stills.proofs.Made.{IsMade, formula_made}
use Rattle.spec_stills.proofs.Meets.{IsKeptUp, IsRoundedUp, shared_high, shared_low}
use Rattle.spec_stills.proofs.Shares.{many_units, one_unit, share}
use Rattle.spec_stills.proofs.Sizes.{fine_no_more, included_size, limited_size, units_are_fraction}

-- ---- signs
-- a number of units that is at least something above 0, or at most something below 0
above_zero : (z n : ℤ) (u q w : ℕ) → pos 0 <ℤ n → 0 < w → (n *ℤ pos w) ≤ℤ (z *ℤ pos u *ℤ pos q) → pos 0 ≤ℤ z
above_zero (pos z) n u q w p r h = omega (arith, lin)
above_zero (negsuc z) n u q w p r h =
    let l = le-mul (pos 1) n (pos w) (omega (arith, lin)) (omega (arith, lin)) in
    let e = ring (pos w ∷ []) (lit (pos 1) ⊗ v 0) (v 0) tt in
    let f = le-mul (negsuc z) (pos 0) (pos (u * q)) (omega (arith, lin)) (omega (arith, lin)) in
    let g = ring (negsuc z ∷ pos u ∷ pos q ∷ []) (v 0 ⊗ v 1 ⊗ v 2) (v 0 ⊗ (v 1 ⊗ v 2)) tt in
    let i = ring (pos (u * q) ∷ []) (lit (pos 0) ⊗ v 0) (lit (pos 0)) tt in
    absurd (omega (arith, lin))

below_zero : (z n : ℤ) (u q w : ℕ) → pos 0 <ℤ n → 0 < w → (z *ℤ pos u *ℤ pos q) ≤ℤ (neg_ℤ n *ℤ pos w) → z <ℤ pos 0
below_zero (negsuc z) n u q w p r h = omega (arith, lin)
below_zero (pos z) n u q w p r h =
    let l = le-mul (neg_ℤ n) (neg_ℤ (pos 1)) (pos w) (omega (arith, lin)) (omega (arith, lin)) in
    let e = ring (pos w ∷ []) (minus (lit (pos 1)) ⊗ v 0) (minus (v 0)) tt in
    absurd (omega (arith, lin))

module _ (g : Fraction) (positive : pos 0 <ℤ g.numerator) (is_fraction : IsFraction g) where
  low_above : (x : Interval) → NoMore g (low x) → pos 0 ≤ℤ x.lo
  low_above x h = above_zero x.lo g.numerator (2 ^ up x.s) g.denominator (2 ^ down x.s) positive (pow_pos (down x.s)) h

  high_below : (x : Interval) → NoMore (high x) (opposite g) → x.hi <ℤ pos 0
  high_below x h = below_zero x.hi g.numerator (2 ^ up x.s) g.denominator (2 ^ down x.s) positive (pow_pos (down x.s)) h

  -- ---- what is shared with an interval that is a 256th of the margin below 0, in units of at most a 2^10th of it
  module _ (c x : Interval) (below : NoMore (high c) (opposite (share 1 256 g)))
      (fine : NoMore (in_units (pos 1) x.s) (share 1 1024 g))
      (near : IsRoundedUp c x) where
    at_base : NoMore (in_units (c.hi *ℤ pos (2 ^ near.lift_of)) near.base) (opposite (share 1 256 g))
    at_base =
        no_more_trans (in_units (c.hi *ℤ pos (2 ^ near.lift_of)) near.base) (high c) (opposite (share 1 256 g))
        (units_are_fraction c.hi c.s)
        (fine_no_more c.hi (c.hi *ℤ pos (2 ^ near.lift_of)) near.base c.s near.lift_of near.from (omega (arith, lin))) below

    unit_at_base : NoMore (in_units (pos 1 *ℤ pos (2 ^ near.rise)) near.base) (share 1 1024 g)
    unit_at_base =
        no_more_trans (in_units (pos 1 *ℤ pos (2 ^ near.rise)) near.base) (in_units (pos 1) x.s) (share 1 1024 g)
        (units_are_fraction (pos 1) x.s)
        (fine_no_more (pos 1) (pos 1 *ℤ pos (2 ^ near.rise)) near.base x.s near.rise near.to (omega (arith, lin))) fine

    shared_below : x.hi <ℤ pos 0
    shared_below =
        negative x.hi (c.hi *ℤ pos (2 ^ near.lift_of)) (2 ^ near.rise) (2 ^ up near.base) (2 ^ down near.base)
        (pow_pos (up near.base)) near.near
        at_base unit_at_base
      where
        negative : (z w : ℤ) (j u d : ℕ) → 0 < u → (z *ℤ pos j) <ℤ (w +ℤ pos j)
            → (w *ℤ pos u *ℤ pos (g.denominator * 256)) ≤ℤ (neg_ℤ (g.numerator *ℤ pos 1) *ℤ pos d)
            → (pos 1 *ℤ pos j *ℤ pos u *ℤ pos (g.denominator * 1024)) ≤ℤ (g.numerator *ℤ pos 1 *ℤ pos d) → z <ℤ pos 0
        negative z w j u d p l a b =
            let e = ring (w ∷ pos j ∷ pos u ∷ pos g.denominator ∷ []) ((v 0 ⊕ v 1) ⊗ (v 2 ⊗ (v 3 ⊗ lit (pos 256))))
            (v 0 ⊗ v 2 ⊗ (v 3 ⊗ lit (pos 256)) ⊕ v 3 ⊗ lit (pos 256) ⊗ (v 1 ⊗ v 2)) tt in
            let f = ring (pos j ∷ pos u ∷ pos g.denominator ∷ []) (lit (pos 1) ⊗ v 0 ⊗ v 1 ⊗ (v 2 ⊗ lit (pos 1024)))
            (v 2 ⊗ lit (pos 1024) ⊗ (v 0 ⊗ v 1)) tt in
            let h = le-mul (pos (g.denominator * 256)) (pos (g.denominator * 1024)) (pos (j * u)) (omega (arith, lin))
            (omega (arith, lin)) in
            let i = ring (g.numerator ∷ pos d ∷ []) (minus (v 0 ⊗ lit (pos 1)) ⊗ v 1) (minus (v 0 ⊗ lit (pos 1) ⊗ v 1)) tt in
            let k = ring (pos (u * (g.denominator * 256)) ∷ []) (lit (pos 0) ⊗ v 0) (lit (pos 0)) tt in
            let m = le-mul_cancel (w +ℤ pos j) (pos 0) (u * (g.denominator * 256))
            (mul-pos p (mul-pos is_fraction (omega arith))) (omega (arith, lin)) in
            let n = ring (pos j ∷ []) (lit (pos 0) ⊗ v 0) (lit (pos 0)) tt in
            lt-mul_cancel z (pos 0) j (omega (arith, lin))

-- ---- 0 alone holds nothing that an interval below 0 holds
not_held_by_both : (x y : Interval) (r : Fraction) → IsFraction r → Holds x r → x.hi <ℤ pos 0 → Holds y r → is_zero y ≡ true → ⊥
not_held_by_both x y r is held below also zero =
    let e = zero_num y r zero also in
    let h = held.high in
    let l = le-mul x.hi (neg_ℤ (pos 1)) (pos (2 ^ up x.s * r.denominator)) (omega (arith, lin)) (omega (arith, lin)) in
    let f = ring (pos (2 ^ up x.s * r.denominator) ∷ []) (minus (lit (pos 1)) ⊗ v 0) (minus (v 0)) tt in
    let g = ap (λ n. n *ℤ pos (2 ^ down x.s)) e ∙ ring (pos (2 ^ down x.s) ∷ []) (lit (pos 0) ⊗ v 0) (lit (pos 0)) tt in
    let p = mul-pos (pow_pos (up x.s)) is in
    omega (arith, lin)

-- ---- nodes within a..b, where the times from c to d fit, and a..b lies within those
module _ (s : Search) (a b c d : ℤ) (g : Fraction) (is : IsSearch s) (fits : Fits s.view c d) (begins : c ≤ℤ a) (ends : b ≤ℤ d)
    (margin : HasMargin s a b g) where
  abbrev over_span : Bound
  over_span = bound_over s.view s.event.function c d

  module _ (n : Node) (valid : IsValid (rules s) n) (after : a ≤ℤ n.a) (upto : n.b ≤ℤ b) where
    wide_after : c ≤ℤ n.a
    wide_after = omega (arith, lin)

    wide_upto : n.b ≤ℤ d
    wide_upto = omega (arith, lin)

    abbrev over_node : Enclosure
    over_node = enclosure_over (state_enclosure s.view) s.event.function n.a n.b

    leaves : HasLeaves s.event.function
    leaves = is.formulas.function.leaves

    node_fits : Fits s.view n.a n.b
    node_fits = part_fits s.view n.a n.b c d fits wide_after valid.inside wide_upto

    open_node : crosses s n ≡ false
    open_node = open_by_fit s n is node_fits

    part : IsIncluded (exact_in s s.event.function) n.a n.b over_span over_node
    part = formula_included s.view n.a n.b c d fits wide_after valid.inside wide_upto s.event.function leaves

    in_order : AreInOrder over_node
    in_order = enclosures_in_order n.a n.b valid.inside (exact_in s s.event.function) over_node part.numbers part.enclosed

    node_ordered : n.a ≤ℤ n.b
    node_ordered = let inside = valid.inside in omega (arith, lin)

    told : over_node.mid ≡ range_at s (middle n.a n.b)
    told = middle_told s.view n.a n.b node_fits s.event.function leaves

    clear_by_sign : is_known (sign_of over_node.range) ≡ true → verdict_of s n ≡ Clear
    clear_by_sign known = stages_of s is n valid ∙ rw (open_node, known) refl

    module _ (q : ℕ) (narrow : width n ≤ q) (fit : StepsFit over_span q g) where
      abbrev reached : Interval
      reached = sum over_node.mid (product over_node.step (offsets n.a n.b))

      mid_limited : NoMore (size over_node.mid) (share (2 ^ 52) 1 g)
      mid_limited =
          let within = formula-within s.view s.event.function c d is.formulas.function fits in
          no_more_trans (size over_node.mid) (size over_span.range) (share (2 ^ 52) 1 g)
          (units_are_fraction (pos (greatest_end over_span.range)) over_span.range.s)
          (included_size over_span.range over_node.mid in_order.mid part.included.mid)
          (no_more_trans (size over_span.range) (in_units (pos end_limit) over_span.range.s) (share (2 ^ 52) 1 g)
          (units_are_fraction (pos end_limit) over_span.range.s) (limited_size _ over_span.range within.range)
          (many_units over_span.range.s g fit.unit))

      changes : NoMore (sizes over_node.step (offsets n.a n.b)) (share 31 32 g)
      changes =
          changes_fit over_span.step over_node.step n.a n.b q g node_ordered narrow
          (included_size over_span.step over_node.step in_order.step part.included.step) fit.steps

      made : IsMade n.a n.b over_node
      made = formula_made n.a n.b valid.inside s.view s.event.function

      shares : over_node.range ≡ meet made.plain reached
      unfolding centred
      shares = made.range

      -- the unit of the range is no coarser than that of the bound
      fine_unit : Spans over_span.range over_node.range → NoMore (in_units (pos 1) over_node.range.s) (share 1 1024 g)
      fine_unit spans =
          no_more_trans (in_units (pos 1) over_node.range.s) (in_units (pos 1) over_span.range.s) (share 1 1024 g)
          (units_are_fraction (pos 1) over_span.range.s)
          (fine_no_more (pos 1) (pos 1) over_node.range.s over_span.range.s spans.gap spans.exponent
          (omega (arith, lin, pow_pos spans.gap)))
          (one_unit over_span.range.s g fit.unit)

      known_above : NoMore g (low over_node.mid) → is_known (sign_of over_node.range) ≡ true
      known_above above =
          let c = centred_above over_node.mid over_node.step (offsets n.a n.b) g margin.positive margin.is_fraction
          mid_limited changes above in
          ap is_known (sign_above over_node.range (rw shares (shared_low made.plain reached (rest_above reached c))))
        where
          rest_above : (x : Interval) → NoMore (share 1 256 g) (low x) → pos 0 ≤ℤ x.lo
          rest_above x h =
              let p = margin.positive in
              let e = ring (g.numerator ∷ []) (v 0 ⊗ lit (pos 1)) (v 0) tt in
              low_above (share 1 256 g) (omega (arith, lin)) (mul-pos margin.is_fraction (omega arith)) x h

      known_below : NoMore (high over_node.mid) (opposite g) → is_known (sign_of over_node.range) ≡ true
      known_below below =
          let c = centred_below over_node.mid over_node.step (offsets n.a n.b) g margin.positive margin.is_fraction
          mid_limited changes below in
          by c part.included.range (subst (λ (x : Interval). IsKeptUp reached x) (sym shares) (shared_high made.plain reached))
        where
          not_zero : is_zero over_node.range ≡ true → ⊥
          not_zero zero =
              let between = middle_between n.a n.b node_ordered in
              not_held_by_both over_node.mid over_node.range (exact_in s s.event.function (middle n.a n.b))
              (part.numbers (middle n.a n.b) between.0 between.1) part.enclosed.mid
              (high_below g margin.positive margin.is_fraction over_node.mid below)
              (part.enclosed.range (middle n.a n.b) between.0 between.1) zero

          by : NoMore (high reached) (opposite (share 1 256 g)) → Includes over_span.range over_node.range
              → IsKeptUp reached over_node.range
              → is_known (sign_of over_node.range) ≡ true
          by c i (inl zero) = absurd (not_zero zero)
          by c (inr h) (inr near) = absurd (not_zero h.zero)
          by c (inl spans) (inr near) =
              ap is_known (sign_below over_node.range in_order.range
              (shared_below g margin.positive margin.is_fraction reached over_node.range c (fine_unit spans) near))

      clear_by_steps : verdict_of s n ≡ Clear
      clear_by_steps = by margin.one_sign
        where
          by : IsAbove s a b g ⊎ IsBelow s a b g → verdict_of s n ≡ Clear
          by (inl above) =
              let between = middle_between n.a n.b node_ordered in
              let low_time = between.0 in
              let high_time = between.1 in
              clear_by_sign (known_above (rw told (above (middle n.a n.b) (omega (arith, lin)) (omega (arith, lin)))))
          by (inr below) =
              let between = middle_between n.a n.b node_ordered in
              let low_time = between.0 in
              let high_time = between.1 in
              clear_by_sign (known_below (rw told (below (middle n.a n.b) (omega (arith, lin)) (omega (arith, lin)))))

-- ---- signs at times, and nodes of one unit by those at both ends
module _ (s : Search) (a b : ℤ) (g : Fraction) where
  pub yes_above : pos 0 <ℤ g.numerator → IsFraction g → IsAbove s a b g → (t : ℤ) → a ≤ℤ t → t ≤ℤ b → sign_at s t ≡ Yes
  yes_above positive is_fraction above t after upto =
      sign_above (range_at s t) (low_above g positive is_fraction (range_at s t) (above t after upto))

  pub no_below : (c d : ℤ) → IsSearch s → Fits s.view c d → c ≤ℤ a → b ≤ℤ d → pos 0 <ℤ g.numerator → IsFraction g
      → IsBelow s a b g → (t : ℤ) → a ≤ℤ t → t ≤ℤ b → sign_at s t ≡ No
  no_below c d is fits begins ends positive is_fraction below t after upto =
      let part = formula_at_time s.view c d t fits (omega (arith, lin)) (omega (arith, lin)) s.event.function
      is.formulas.function.leaves in
      let ordered : (range_at s t).lo ≤ℤ (range_at s t).hi = rw part.single
      (holds_ordered _ part.value part.number part.held) in
      sign_below (range_at s t) ordered (high_below g positive is_fraction (range_at s t) (below t after upto))

module _ (s : Search) (a b c d : ℤ) (g : Fraction) (is : IsSearch s) (fits : Fits s.view c d) (begins : c ≤ℤ a) (ends : b ≤ℤ d)
    (margin : HasMargin s a b g) where
  sign_there : (t : ℤ) → a ≤ℤ t → t ≤ℤ b → sign_at s t ≡ elim margin.one_sign [ inl above ↦ Yes | inr below ↦ No ]
  sign_there t after upto = by margin.one_sign
    where
      by : (one : IsAbove s a b g ⊎ IsBelow s a b g) → sign_at s t ≡ elim one [ inl above ↦ Yes | inr below ↦ No ]
      by (inl above) = yes_above s a b g margin.positive margin.is_fraction above t after upto
      by (inr below) = no_below s a b g c d is fits begins ends margin.positive margin.is_fraction below t after upto

  module _ (n : Node) (valid : IsValid (rules s) n) (after : a ≤ℤ n.a) (upto : n.b ≤ℤ b) (narrow : width n ≤ 1) where
    clear_unit : verdict_of s n ≡ Clear
    clear_unit =
        let inside = valid.inside in
        clear_by_ends s n is valid narrow (elim margin.one_sign [ inl above ↦ Yes | inr below ↦ No ]) (known margin.one_sign)
        (sign_there n.a after (omega (arith, lin))) (sign_there n.b (omega (arith, lin)) upto)
      where
        known : (one : IsAbove s a b g ⊎ IsBelow s a b g) → is_known (elim one [ inl above ↦ Yes | inr below ↦ No ]) ≡ true
        known (inl above) = refl
        known (inr below) = refl

-- ---- spans
-- a span within times that fit
module _ (s : Search) (x : StillSpan) (g : Fraction) (c d : ℤ) (is : IsSearch s) (fits : Fits s.view c d) (begins : c ≤ℤ x.from)
    (ends : x.upto ≤ℤ d) (margin : HasMargin s x.from x.upto g) (sign : sign_at s x.from ≡ x.sign) where
  none_begins : (t : ℤ) → IsBorderIn s.view.ephemeris (columns_of s.view) x.from x.upto t → ⊥
  none_begins t border = fits.no_border t (record {
    number = border.number;
    listed = border.listed;
    border = border.border;
    after = let after = border.after in omega (arith, lin);
    upto = let upto = border.upto in omega (arith, lin);
  })

  -- one sign at each time, since that at the first is it
  one_sign : (t : ℤ) → x.from ≤ℤ t → t ≤ℤ x.upto → sign_at s t ≡ x.sign
  one_sign t after upto =
      sign_there s x.from x.upto c d g is fits begins ends margin t after upto ∙
      (sym (sign_there s x.from x.upto c d g is fits begins ends margin x.from (omega (arith, lin)) (omega (arith, lin))) ∙
      sign)

  pub still_by_steps : StepsFit (bound_over s.view s.event.function c d) x.widest g → IsStill s x
  still_by_steps fit = record {
    no_border = λ wider. none_begins;
    clear = λ n valid after upto narrow. clear_by_steps s x.from x.upto c d g is fits begins ends margin n valid after upto
        x.widest narrow fit;
    signs = one_sign;
  }

  pub still_by_units : x.widest ≤ 1 → IsStill s x
  still_by_units units = record {
    no_border = λ wider. none_begins;
    clear = λ n valid after upto narrow. clear_unit s x.from x.upto c d g is fits begins ends margin n valid after upto
        (omega (arith, narrow, units));
    signs = one_sign;
  }
