-- The parts of a node that may be cut are valid and cut it, nodes that are split may be cut, and the rules are sound.
use Rattle.std.proofs.Common.{◌≡◌, ℕ, ◌+◌, ◌≤◌, ◌^◌, ◌⊎◌, inl, inr, true, nat_lt, Option, None, Some, is_some, ℤ, pos, negsuc, neg_ℤ, ◌+ℤ◌, ◌*ℤ◌, ◌≤ℤ◌, ◌<ℤ◌, refl, ap, arith}
use Rattle.std.proofs.lemmas.Int.{ints}
use Rattle.std.proofs.lemmas.Bool.{and_parts, or_cases, both_ways, ltb-true}
use Rattle.spec_ephemeris.specs.Ephemeris.{end_of}
use Rattle.spec_bodies.specs.Views.{IsView}
use Rattle.spec_bodies.proofs.Held.{times_span}
use Rattle.spec_trees.specs.declared.tree.Node.{Node}
use Rattle.spec_trees.specs.declared.tree.Verdict.TheVariants.{Split}
use Rattle.spec_trees.specs.Cuts.{CanCut, cut_of, is_wide}
use Rattle.spec_trees.specs.Tree.{Cuts, IsSound, IsValid}
use Rattle.spec_trees.proofs.Cutting.{cut_inside}
use Rattle.spec_events.specs.Soundness.{findings_of}
use Rattle.spec_events.proofs.Limits.{split_may_be_cut}
use Rattle.spec_searches.specs.Search.{Search, border_cut, border_in, criteria, crosses, evidence_at, may_be_cut, parts_at, parts_by, verdict_of}
use Rattle.spec_searches.specs.Found.{IsSpan, root, rules}
use Rattle.spec_searches.proofs.Borders.{border_within, time_fits}

wide_is : (n : Node) → is_wide n ≡ true → (n.a +ℤ pos 1) <ℤ n.b
wide_is n e = grind (arith, ints)

border_cut_inside : (n : Node) (border : ℤ) → is_wide n ≡ true → n.a <ℤ border → border ≤ℤ n.b → (n.a <ℤ border_cut n border) × (border_cut n border <ℤ n.b)
border_cut_inside n border e after upto = grind (arith, ints)

-- some blocks of some length end no earlier than they begin
pub no_earlier : (start length : ℤ) (count : ℕ) → pos 1 ≤ℤ length → start ≤ℤ (start +ℤ (pos count *ℤ length))
no_earlier start (pos length) count some = omega (arith, ints)
no_earlier start (negsuc length) count some = absurd (omega (arith, ints, some))

pub split_may : (s : Search) (n : Node) → verdict_of s n ≡ Split → may_be_cut s n ≡ true
unfolding verdict_of
split_may s n split = split_may_be_cut (criteria s) n (findings_of (evidence_at s n)) split

module _ (s : Search) (is : IsView s.view) where
  some_time : s.view.ephemeris.start ≤ℤ end_of s.view.ephemeris
  some_time = no_earlier s.view.ephemeris.start s.view.ephemeris.header.block_seconds s.view.ephemeris.blocks is.checked.header.shortest

  pub first_near : neg_ℤ (pos (2 ^ 50)) ≤ℤ s.view.ephemeris.start
  first_near =
      let near = (times_span s.view s.view.ephemeris.start s.view.ephemeris.start (time_fits s.view is s.view.ephemeris.start (omega (arith, ints)) some_time)).first_near in
      omega (arith, ints, near)

  pub last_near : end_of s.view.ephemeris ≤ℤ pos (2 ^ 50)
  last_near =
      let near = (times_span s.view (end_of s.view.ephemeris) (end_of s.view.ephemeris) (time_fits s.view is (end_of s.view.ephemeris) some_time (omega (arith, ints)))).last_near in
      omega (arith, ints, near)

  module _ (n : Node) (valid : IsValid (rules s) n) where
    -- two valid nodes that cut it
    abbrev pub AreParts : Node × Node → Type 0
    AreParts both = Cuts n both.0 both.1 × IsValid (rules s) both.0 × IsValid (rules s) both.1

    parts_at_time : (time : ℤ) (depth : ℕ) → n.a <ℤ time → time <ℤ n.b → depth ≤ s.depth → AreParts (parts_at time depth n)
    parts_at_time time depth after before few = (
      record { from = refl; meet = refl; to = refl },
      record { from = valid.from; inside = after; to = let upto = valid.to in omega (arith, ints, before, upto); depth = few },
      record { from = let from = valid.from in omega (arith, ints, after, from); inside = before; to = valid.to; depth = few },
    )

    pub can_cut : is_wide n ≡ true → CanCut n.a n.b
    can_cut wide = record {
      wide = wide_is n wide;
      low = let low = first_near in let from = valid.from in omega (arith, ints, low, from);
      high = let high = last_near in let upto = valid.to in omega (arith, ints, high, upto);
    }

    pub parts_are : may_be_cut s n ≡ true → AreParts (parts_by s.cut (border_in s n) n)
    parts_are may = let both = and_parts (is_wide n) _ may in by both.0 (or_cases (crosses s n) (nat_lt n.depth s.depth) both.1) (border_in s n) refl
      where
        by : is_wide n ≡ true → (crosses s n ≡ true) ⊎ (nat_lt n.depth s.depth ≡ true) → (found : Option ℤ) → border_in s n ≡ found → AreParts (parts_by s.cut found n)
        by wide either (Some border) e =
            let within = border_within s.view is n.a n.b border e in
            let inside = border_cut_inside n border wide within.0 within.1 in
            parts_at_time (border_cut n border) n.depth inside.0 inside.1 valid.depth
        by wide (inl crossing) None e = absurd (both_ways (crosses s n) (ap is_some e) crossing)
        by wide (inr above) None e =
            let deeper = ltb-true n.depth s.depth above in
            let inside = cut_inside s.cut n.a n.b (can_cut wide) in
            parts_at_time (cut_of s.cut n.a n.b) (n.depth + 1) inside.0 inside.1 (omega (arith, deeper))

  pub rules_are_sound : IsSound (rules s)
  rules_are_sound = record {
    low = first_near;
    high = last_near;
    cut = λ n valid split. let are = parts_are n valid (split_may s n split) in record { cuts = are.0; left = are.1; right = are.2 };
  }

  pub root_is_valid : (first last : ℤ) → IsSpan s first last → IsValid (rules s) (root first last)
  root_is_valid first last span = record { from = span.from; inside = span.ordered; to = span.to; depth = omega arith }
