-- The times of a valid node are near J2000, so that its width can be taken.
use Rattle.std.proofs.Common.{◌≡◌, ◌<◌, ◌^◌, to_z, of_z, ◌⊎◌, inl, inr, true, false, nat_lt, None, Some, is_some, ap, subst, ℤ, pos, neg_ℤ, ◌-ℤ◌, ◌≤ℤ◌, arith}
use Rattle.std.proofs.lemmas.Int.{ints, fits_signed_from_abs, to_z-of_z}
use Rattle.std.proofs.lemmas.Bool.{and_parts, or_cases, both_ways as no_fact, ltb-true}
use mir.Syntax.{w64}
use mir.Val.{SFits}
use Rattle.spec_trees.specs.declared.tree.Node.{Node}
use Rattle.spec_trees.specs.Cuts.{CanCut, is_wide}
use Rattle.spec_bodies.specs.Views.{View, IsView, Fits}
use Rattle.spec_searches.specs.Search.{Search, border_in, crosses, may_be_cut}
use Rattle.spec_searches.specs.Found.{rules}
use Rattle.spec_searches.proofs.Borders.{border_within, span_fits, time_fits}
use Rattle.spec_searches.proofs.Parts.{can_cut, rules_are_sound}
use Rattle.spec_ephemeris.specs.Ephemeris.{end_of}
use Rattle.spec_trees.specs.Tree.{IsSound, IsValid, Rules}
use Rattle.event_judge.specs.Memory.{IsNear}

module _ (t : Rules) (sound : IsSound t) (n : Node) (valid : IsValid t n) where
  pub a_low : neg_ℤ (pos (2 ^ 50)) ≤ℤ n.a
  a_low = let low = sound.low in let from = valid.from in omega (arith, ints, low, from)

  pub b_high : n.b ≤ℤ pos (2 ^ 50)
  b_high = let high = sound.high in let to = valid.to in omega (arith, ints, high, to)

  pub a_fits : SFits w64 n.a
  a_fits = let low = a_low in let high = b_high in let inside = valid.inside in fits_signed_from_abs w64 n.a (omega (arith, ints, low, high, inside))

  pub b_fits : SFits w64 n.b
  b_fits = let low = a_low in let high = b_high in let inside = valid.inside in fits_signed_from_abs w64 n.b (omega (arith, ints, low, high, inside))

  pub width_fits : SFits w64 (n.b -ℤ n.a)
  width_fits = let low = a_low in let high = b_high in let inside = valid.inside in fits_signed_from_abs w64 (n.b -ℤ n.a) (omega (arith, ints, low, high, inside))

-- ---- a time of the ephemeris, at which states can be asked for
pub record IsTime (s : Search) (t : ℤ) : Type 0 where
  pub from : s.view.ephemeris.start ≤ℤ t
  pub upto : t ≤ℤ end_of s.view.ephemeris
  pub near : IsNear t

pub near_fits : (t : ℤ) → IsNear t → SFits w64 t
near_fits t near = let low = near.low in let high = near.high in fits_signed_from_abs w64 t (omega (arith, ints, low, high))

pub passed_fits : (s : Search) (t : ℤ) → IsNear t → s.view.ephemeris.start ≤ℤ t → t ≤ℤ end_of s.view.ephemeris → (v : View) → v ≡ s.view → IsView v → Fits v (to_z w64 (of_z w64 t)) (to_z w64 (of_z w64 t))
passed_fits s t near from upto v same is = rw (same, to_z-of_z w64 t (near_fits t near)) (time_fits s.view (subst IsView same is) t from upto)

module _ (s : Search) (sound : IsSound (rules s)) (n : Node) (valid : IsValid (rules s) n) where
  pub time_within : (t : ℤ) → n.a ≤ℤ t → t ≤ℤ n.b → IsTime s t
  time_within t after before =
      let low = a_low (rules s) sound n valid in
      let high = b_high (rules s) sound n valid in
      let from = valid.from in
      let to = valid.to in
      record {
        from = omega (arith, ints, from, after);
        upto = omega (arith, ints, before, to);
        near = record { low = omega (arith, ints, low, after); high = omega (arith, ints, before, high) };
      }

  pub last_time : IsTime s n.b
  last_time = let inside = valid.inside in time_within n.b (omega (arith, ints, inside)) (omega (arith, ints))

  pub last_fits : (v : View) → v ≡ s.view → IsView v → Fits v (to_z w64 (of_z w64 n.b)) (to_z w64 (of_z w64 n.b))
  last_fits v same is = passed_fits s n.b last_time.near last_time.from last_time.upto v same is

-- ---- and over all times of a node into which no border falls
pub whole_fits : (s : Search) (sound : IsSound (rules s)) (n : Node) (valid : IsValid (rules s) n) (v : View) → v ≡ s.view → IsView v → crosses s n ≡ false → Fits v (to_z w64 (of_z w64 n.a)) (to_z w64 (of_z w64 n.b))
whole_fits s sound n valid v same is open_node =
    let inside = valid.inside in
    rw (same, to_z-of_z w64 n.a (a_fits (rules s) sound n valid), to_z-of_z w64 n.b (b_fits (rules s) sound n valid))
    (span_fits s.view (subst IsView same is) n.a n.b valid.from (omega (arith, ints, inside)) valid.to open_node)

-- a node that may be cut can be cut by a rule, and a border in it is near too
module _ (s : Search) (is : IsView s.view) (n : Node) (valid : IsValid (rules s) n) where
  pub border_low : (border : ℤ) → border_in s n ≡ Some border → neg_ℤ (pos (2 ^ 60)) ≤ℤ border
  border_low border e =
      let within = border_within s.view is n.a n.b border e in
      let after = within.0 in
      let low = a_low (rules s) (rules_are_sound s is) n valid in
      omega (arith, ints, after, low)

  pub border_fits : (border : ℤ) → border_in s n ≡ Some border → SFits w64 border
  border_fits border e =
      let within = border_within s.view is n.a n.b border e in
      let after = within.0 in
      let upto = within.1 in
      let low = a_low (rules s) (rules_are_sound s is) n valid in
      let high = b_high (rules s) (rules_are_sound s is) n valid in
      fits_signed_from_abs w64 border (omega (arith, ints, after, upto, low, high))

  pub cut_inside : may_be_cut s n ≡ true → CanCut (to_z w64 (of_z w64 n.a)) (to_z w64 (of_z w64 n.b))
  cut_inside may =
      let sound = rules_are_sound s is in
      rw (to_z-of_z w64 n.a (a_fits (rules s) sound n valid), to_z-of_z w64 n.b (b_fits (rules s) sound n valid)) (can_cut s is n valid (and_parts (is_wide n) _ may).0)

  -- where no border falls into it, it is not as deep as the depth
  pub deeper : may_be_cut s n ≡ true → border_in s n ≡ None → n.depth < s.depth
  deeper may none = by (or_cases (crosses s n) (nat_lt n.depth s.depth) (and_parts (is_wide n) _ may).1)
    where
      by : (crosses s n ≡ true) ⊎ (nat_lt n.depth s.depth ≡ true) → n.depth < s.depth
      by (inl crossing) = absurd (no_fact (crosses s n) (ap is_some none) crossing)
      by (inr above) = ltb-true n.depth s.depth above
