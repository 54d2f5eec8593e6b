-- Where what is found over a whole node leaves no wanted turn in it, the signs at its ends, if they are known, say so too.
use Rattle.std.proofs.Common.{◌≡◌, ◌⊎◌, inl, inr, true, false, ℤ, ◌≤ℤ◌, refl, arith}
use Rattle.std.proofs.lemmas.Bool.{or_cases, false≢true}
use Rattle.spec_numbers.proofs.Order.{lin}
use Rattle.spec_intervals.specs.declared.signs.Sign.{Sign}
use Rattle.spec_intervals.specs.declared.signs.Sign.TheVariants.{Yes, No, Open}
use Rattle.spec_trees.specs.declared.tree.Node.{Node}
use Rattle.spec_events.specs.declared.dir.Dir.{Dir}
use Rattle.spec_events.specs.declared.dir.Dir.TheVariants as D
use Rattle.spec_events.specs.Soundness.{AreSound, IsNot, Tells}
use Rattle.spec_events.specs.Stages.{has_no_turn, is_turnless}
use Rattle.spec_events.specs.Verdict.{Findings, differ, is_known, steps_against}
use Rattle.spec_events.proofs.Lasting.{lasts}

-- signs that are known differ in a wanted direction, or there is no wanted turn between them
pub differ_or_none : (dir : Dir) (first last : Sign) → is_known first ≡ true → is_known last ≡ true → has_no_turn dir first last ≡ false → differ dir first last ≡ true
differ_or_none dir first last p q none = grind arith

-- ---- P is so at the first end, and Q at the last
-- both ends have the sign that there is over all
one_sign : (P Q : Type 0) (dir : Dir) (over first last : Sign) → is_known over ≡ true → is_known first ≡ true → is_known last ≡ true
    → Tells over P → Tells over Q → Tells first P → Tells last Q → has_no_turn dir first last ≡ true
one_sign P Q dir Yes Yes Yes k p q h g f l = refl
one_sign P Q dir Yes Yes No k p q h g f l = absurd (l.no refl (g.yes refl))
one_sign P Q dir Yes Yes Open k p q h g f l = absurd (false≢true q)
one_sign P Q dir Yes No last k p q h g f l = absurd (f.no refl (h.yes refl))
one_sign P Q dir Yes Open last k p q h g f l = absurd (false≢true p)
one_sign P Q dir No Yes last k p q h g f l = absurd (h.no refl (f.yes refl))
one_sign P Q dir No No Yes k p q h g f l = absurd (g.no refl (l.yes refl))
one_sign P Q dir No No No k p q h g f l = refl
one_sign P Q dir No No Open k p q h g f l = absurd (false≢true q)
one_sign P Q dir No Open last k p q h g f l = absurd (false≢true p)
one_sign P Q dir Open first last k p q h g f l = absurd (false≢true k)

-- what is not so at the first end is not so at the last
never_rises : (P Q : Type 0) (first last : Sign) → is_known first ≡ true → is_known last ≡ true → Tells first P → Tells last Q
    → ((P → ⊥) → Q → ⊥) → has_no_turn D.Rise first last ≡ true
never_rises P Q Yes Yes p q f l stays = refl
never_rises P Q Yes No p q f l stays = refl
never_rises P Q Yes Open p q f l stays = absurd (false≢true q)
never_rises P Q No Yes p q f l stays = absurd (stays (f.no refl) (l.yes refl))
never_rises P Q No No p q f l stays = refl
never_rises P Q No Open p q f l stays = absurd (false≢true q)
never_rises P Q Open last p q f l stays = absurd (false≢true p)

-- what is so at the first end is so at the last
never_falls : (P Q : Type 0) (first last : Sign) → is_known first ≡ true → is_known last ≡ true → Tells first P → Tells last Q
    → (P → Q) → has_no_turn D.Fall first last ≡ true
never_falls P Q Yes Yes p q f l stays = refl
never_falls P Q Yes No p q f l stays = absurd (l.no refl (stays (f.yes refl)))
never_falls P Q Yes Open p q f l stays = absurd (false≢true q)
never_falls P Q No Yes p q f l stays = refl
never_falls P Q No No p q f l stays = refl
never_falls P Q No Open p q f l stays = absurd (false≢true q)
never_falls P Q Open last p q f l stays = absurd (false≢true p)

module _ (P G : ℤ → Type 0) (n : Node) (f : Findings) (s : AreSound P G n f) (none : f.crosses ≡ false)
    (first_known : is_known f.at_first ≡ true) (last_known : is_known f.at_last ≡ true) where
  ordered : n.a ≤ℤ n.b
  ordered = let inside = s.ordered in omega (arith, lin)

  by_sign : (dir : Dir) → is_known f.over ≡ true → has_no_turn dir f.at_first f.at_last ≡ true
  by_sign dir known =
      one_sign (P n.a) (P n.b) dir f.over f.at_first f.at_last known first_known last_known
      (s.over none n.a (omega (arith, lin)) ordered) (s.over none n.b ordered (omega (arith, lin))) s.first s.last

  by_steps : (dir : Dir) → steps_against dir f.step ≡ true → has_no_turn dir f.at_first f.at_last ≡ true
  by_steps D.Any against = absurd (false≢true against)
  by_steps D.Rise against =
      never_rises (P n.a) (P n.b) f.at_first f.at_last first_known last_known s.first s.last
      (lasts (IsNot P) n.a n.b (s.falling none against) n.a n.b (omega (arith, lin)) ordered (omega (arith, lin)))
  by_steps D.Fall against =
      never_falls (P n.a) (P n.b) f.at_first f.at_last first_known last_known s.first s.last
      (lasts P n.a n.b (s.rising none against) n.a n.b (omega (arith, lin)) ordered (omega (arith, lin)))

  pub turnless_by_ends : (dir : Dir) → is_turnless dir f.over f.step ≡ true → has_no_turn dir f.at_first f.at_last ≡ true
  turnless_by_ends dir turnless = by (or_cases (is_known f.over) (steps_against dir f.step) turnless)
    where
      by : (is_known f.over ≡ true) ⊎ (steps_against dir f.step ≡ true) → has_no_turn dir f.at_first f.at_last ≡ true
      by (inl known) = by_sign dir known
      by (inr against) = by_steps dir against
