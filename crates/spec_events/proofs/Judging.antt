-- A clear node holds no event, and a node with one exactly one, where the findings are true.
use Rattle.std.proofs.Common.{◌≡◌, arith, refl, sym, subst, ℤ, pos, ◌-ℤ◌, ◌≤ℤ◌, ◌<ℤ◌, Bool, true, false, not, ◌&&◌, ◌||◌, nat_le, int_lt, ◌⊎◌, inl, inr}
use Rattle.std.specs.Prelude.{if◌then◌else◌}
use Rattle.std.specs.List.{list_all, list_any}
use Rattle.std.proofs.lemmas.Int.{ints}
use Rattle.std.proofs.lemmas.Bool.{and_parts, or_cases, false≢true}
use Rattle.spec_numbers.proofs.Order.{lin}
use Rattle.spec_intervals.specs.declared.signs.Sign.{Sign}
use Rattle.spec_intervals.specs.declared.signs.Sign.TheVariants.{Yes, No}
use Rattle.spec_trees.specs.declared.tree.Node.{Node}
use Rattle.spec_trees.specs.declared.tree.Turn.{Turn}
use Rattle.spec_trees.specs.declared.tree.Turn.TheVariants.{Rise, Fall}
use Rattle.spec_trees.specs.declared.tree.Verdict.TheVariants.{Clear, One, Split, Undecided}
use Rattle.spec_trees.specs.declared.window.Holds.TheVariants.{Certain}
use Rattle.spec_trees.specs.Cuts.{is_wide}
use Rattle.spec_trees.specs.Tree.{width}
use Rattle.spec_trees.specs.Windows.{window_of}
use Rattle.spec_events.specs.declared.dir.Dir.{Dir}
use Rattle.spec_events.specs.declared.dir.Dir.TheVariants as D
use Rattle.spec_events.specs.Events.{wants, IsWantedTurn, IsEvent, HasNoEvent, HoldsOne, Passes}
use Rattle.spec_events.specs.Verdict.{Criteria, Findings, is_known, agree, differ, differ_against, turn_to, is_certified, is_refuted, rises, falls, is_monotone, is_steady, is_readable, has_one_sign, steps_against, is_clear, is_one, is_split, verdict}
use Rattle.spec_events.specs.Soundness.{Tells, Lasts, IsNot, AreSound}
use Rattle.spec_events.proofs.Lasting.{HasNoTurn, HasOneTurn, lasts, is_so, no_fall, no_rise, one_rise, one_fall}

was_not : (p : Bool) → not p ≡ true → p ≡ false
was_not p e = grind arith

pub passes_or_not : (test : ℤ → Bool) (t : ℤ) → Passes test t ⊎ IsNot (Passes test) t
passes_or_not test t = by (test t)
  where
    by : (b : Bool) → (b ≡ true) ⊎ (b ≡ true → ⊥)
    by true = inl refl
    by false = inr false≢true

-- ---- what the signs at the ends are
agree_by : (p q : Sign) → agree p q ≡ true → ((p ≡ Yes) × (q ≡ Yes)) ⊎ ((p ≡ No) × (q ≡ No))
agree_by p q e = grind arith

against_by : (dir : Dir) (p q : Sign) → differ_against dir p q ≡ true → ((dir ≡ D.Rise) × (p ≡ Yes) × (q ≡ No)) ⊎ ((dir ≡ D.Fall) × (p ≡ No) × (q ≡ Yes))
against_by dir p q e = grind arith

differ_by : (dir : Dir) (p q : Sign) → differ dir p q ≡ true → ((wants dir Rise ≡ true) × (p ≡ No) × (q ≡ Yes)) ⊎ ((wants dir Fall ≡ true) × (p ≡ Yes) × (q ≡ No))
differ_by dir p q e = grind arith

known_by : (p : Sign) → is_known p ≡ true → (p ≡ Yes) ⊎ (p ≡ No)
known_by p e = grind arith

-- the one time from a on that is before b, where b is the next
first_alone : (a b t : ℤ) → int_lt (pos 1) (b -ℤ a) ≡ false → a ≤ℤ t → t <ℤ b → t ≡ a
first_alone a b t w p q = grind (arith, ints)

-- ---- conditions that do not change
module _ (P : ℤ → Type 0) (a b : ℤ) where
  all_so : ((t : ℤ) → a ≤ℤ t → t ≤ℤ b → P t) → (turn : Turn) → HasNoTurn P turn a b
  all_so h Rise t p q e = e.0 (h (t -ℤ pos 1) (omega (arith, lin)) (omega (arith, lin)))
  all_so h Fall t p q e = e.1 (h t (omega (arith, lin)) q)

  all_not : ((t : ℤ) → a ≤ℤ t → t ≤ℤ b → IsNot P t) → (turn : Turn) → HasNoTurn P turn a b
  all_not h Rise t p q e = h t (omega (arith, lin)) q e.1
  all_not h Fall t p q e = h (t -ℤ pos 1) (omega (arith, lin)) (omega (arith, lin)) e.0

module _ (P G : ℤ → Type 0) (decide : (t : ℤ) → P t ⊎ IsNot P t) (c : Criteria) (n : Node) (f : Findings) (s : AreSound P G n f) where
  abbrev IsSteady : Type 0
  IsSteady = Lasts P n.a n.b ⊎ Lasts (IsNot P) n.a n.b

  abbrev IsClear : Type 0
  IsClear = HasNoEvent (IsWantedTurn P c.dir G) n.a n.b

  ordered : n.a ≤ℤ n.b
  ordered = let h = s.ordered in omega (arith, lin)

  -- over one unit of time it lasts or its opposite does, whatever it is
  unit_is_steady : is_wide n ≡ false → IsSteady
  unit_is_steady w = by (decide n.a)
    where
      only : (t : ℤ) → n.a ≤ℤ t → t <ℤ n.b → t ≡ n.a
      only t p q = first_alone n.a n.b t w p q

      by : P n.a ⊎ IsNot P n.a → IsSteady
      by (inl x) = inr (λ t p q h. absurd (h (subst P (sym (only t p q)) x)))
      by (inr x) = inl (λ t p q h. absurd (x (subst P (only t p q) h)))

  steady : is_steady n f ≡ true → IsSteady
  steady h = by (or_cases (is_monotone f) (not (is_wide n)) h)
    where
      by_step : f.crosses ≡ false → (rises f.step ≡ true) ⊎ (falls f.step ≡ true) → IsSteady
      by_step k (inl r) = inl (s.rising k r)
      by_step k (inr r) = inr (s.falling k r)

      by : (is_monotone f ≡ true) ⊎ (not (is_wide n) ≡ true) → IsSteady
      by (inl m) = let x = and_parts (not f.crosses) (rises f.step || falls f.step) m in by_step (was_not f.crosses x.0) (or_cases (rises f.step) (falls f.step) x.1)
      by (inr u) = unit_is_steady (was_not (is_wide n) u)

  -- no turn that is wanted, and so no event
  none : ((turn : Turn) → wants c.dir turn ≡ true → HasNoTurn P turn n.a n.b) → IsClear
  none h t p q (inl e) = h Rise e.wanted t p q e.turns
  none h t p q (inr e) = h Fall e.wanted t p q e.turns

  clear_over : has_one_sign f ≡ true → IsClear
  clear_over h = let x = and_parts (not f.crosses) (is_known f.over) h in by (s.over (was_not f.crosses x.0)) (known_by f.over x.1)
    where
      by : ((t : ℤ) → n.a ≤ℤ t → t ≤ℤ n.b → Tells f.over (P t)) → (f.over ≡ Yes) ⊎ (f.over ≡ No) → IsClear
      by tells (inl e) = none (λ turn w. all_so P n.a n.b (λ t p q. (tells t p q).yes e) turn)
      by tells (inr e) = none (λ turn w. all_not P n.a n.b (λ t p q. (tells t p q).no e) turn)

  clear_agreeing : agree f.at_first f.at_last ≡ true → IsSteady → IsClear
  clear_agreeing h g = by (agree_by f.at_first f.at_last h) g
    where
      by : ((f.at_first ≡ Yes) × (f.at_last ≡ Yes)) ⊎ ((f.at_first ≡ No) × (f.at_last ≡ No)) → IsSteady → IsClear
      by (inl e) (inl g) = none (λ turn w. all_so P n.a n.b (λ t p q. lasts P n.a n.b g n.a t (omega (arith, lin)) p q (s.first.yes e.0)) turn)
      by (inl e) (inr g) = none (λ turn w. all_so P n.a n.b (λ t p q. is_so P decide n.a n.b g t (λ h. lasts (IsNot P) n.a n.b g t n.b p q (omega (arith, lin)) h (s.last.yes e.1))) turn)
      by (inr e) (inl g) = none (λ turn w. all_not P n.a n.b (λ t p q h. s.last.no e.1 (lasts P n.a n.b g t n.b p q (omega (arith, lin)) h)) turn)
      by (inr e) (inr g) = none (λ turn w. all_not P n.a n.b (λ t p q. lasts (IsNot P) n.a n.b g n.a t (omega (arith, lin)) p q (s.first.no e.0)) turn)

  rise_wanted : c.dir ≡ D.Rise → HasNoTurn P Rise n.a n.b → IsClear
  rise_wanted d h = none by
    where
      by : (turn : Turn) → wants c.dir turn ≡ true → HasNoTurn P turn n.a n.b
      by Rise w = h
      by Fall w = absurd (false≢true (rw d at w))

  fall_wanted : c.dir ≡ D.Fall → HasNoTurn P Fall n.a n.b → IsClear
  fall_wanted d h = none by
    where
      by : (turn : Turn) → wants c.dir turn ≡ true → HasNoTurn P turn n.a n.b
      by Rise w = absurd (false≢true (rw d at w))
      by Fall w = h

  clear_against : differ_against c.dir f.at_first f.at_last ≡ true → IsSteady → IsClear
  clear_against h g = by (against_by c.dir f.at_first f.at_last h) g
    where
      by : ((c.dir ≡ D.Rise) × (f.at_first ≡ Yes) × (f.at_last ≡ No)) ⊎ ((c.dir ≡ D.Fall) × (f.at_first ≡ No) × (f.at_last ≡ Yes)) → IsSteady → IsClear
      by (inl e) (inl g) = absurd (s.last.no e.2 (lasts P n.a n.b g n.a n.b (omega (arith, lin)) ordered (omega (arith, lin)) (s.first.yes e.1)))
      by (inl e) (inr g) = rise_wanted e.0 (no_rise P decide n.a n.b g)
      by (inr e) (inl g) = fall_wanted e.0 (no_fall P n.a n.b g)
      by (inr e) (inr g) = absurd (lasts (IsNot P) n.a n.b g n.a n.b (omega (arith, lin)) ordered (omega (arith, lin)) (s.first.no e.1) (s.last.yes e.2))

  clear_by_steps : f.crosses ≡ false → steps_against c.dir f.step ≡ true → IsClear
  clear_by_steps k h = by c.dir refl h
    where
      by : (dir : Dir) → c.dir ≡ dir → steps_against dir f.step ≡ true → IsClear
      by D.Any d h = absurd (false≢true h)
      by D.Rise d h = rise_wanted d (no_rise P decide n.a n.b (s.falling k h))
      by D.Fall d h = fall_wanted d (no_fall P n.a n.b (s.rising k h))

  clear_by_guard : is_readable n f.crosses ≡ true → list_any is_refuted f.guards ≡ true → IsClear
  clear_by_guard r h t p q (inl e) = s.refuted r h t p q e.guarded
  clear_by_guard r h t p q (inr e) = s.refuted r h t p q e.guarded

  pub none_in_clear : is_clear c n f ≡ true → IsClear
  none_in_clear h = let x = and_parts (is_readable n f.crosses) _ h in over x.0 (or_cases (has_one_sign f) _ x.1)
    where
      at_guard : is_readable n f.crosses ≡ true → ((not f.crosses && steps_against c.dir f.step) ≡ true) ⊎ (list_any is_refuted f.guards ≡ true) → IsClear
      at_guard r (inl h) = let x = and_parts (not f.crosses) (steps_against c.dir f.step) h in clear_by_steps (was_not f.crosses x.0) x.1
      at_guard r (inr h) = clear_by_guard r h

      against : is_readable n f.crosses ≡ true → ((differ_against c.dir f.at_first f.at_last && is_steady n f) ≡ true) ⊎ (((not f.crosses && steps_against c.dir f.step) || list_any is_refuted f.guards) ≡ true) → IsClear
      against r (inl h) = let x = and_parts (differ_against c.dir f.at_first f.at_last) (is_steady n f) h in clear_against x.0 (steady x.1)
      against r (inr h) = at_guard r (or_cases (not f.crosses && steps_against c.dir f.step) (list_any is_refuted f.guards) h)

      agreeing : is_readable n f.crosses ≡ true → ((agree f.at_first f.at_last && is_steady n f) ≡ true) ⊎ (((differ_against c.dir f.at_first f.at_last && is_steady n f) || ((not f.crosses && steps_against c.dir f.step) || list_any is_refuted f.guards)) ≡ true) → IsClear
      agreeing r (inl h) = let x = and_parts (agree f.at_first f.at_last) (is_steady n f) h in clear_agreeing x.0 (steady x.1)
      agreeing r (inr h) = against r (or_cases (differ_against c.dir f.at_first f.at_last && is_steady n f) _ h)

      over : is_readable n f.crosses ≡ true → (has_one_sign f ≡ true) ⊎ (((agree f.at_first f.at_last && is_steady n f) || ((differ_against c.dir f.at_first f.at_last && is_steady n f) || ((not f.crosses && steps_against c.dir f.step) || list_any is_refuted f.guards))) ≡ true) → IsClear
      over r (inl h) = clear_over h
      over r (inr h) = agreeing r (or_cases (agree f.at_first f.at_last && is_steady n f) _ h)

  -- ---- exactly one
  abbrev HasOne : Turn → Type 0
  HasOne turn = HoldsOne (IsWantedTurn P c.dir G) turn (window_of n (Certain turn))

  one_from : (turn : Turn) → wants c.dir turn ≡ true → ((t : ℤ) → n.a <ℤ t → t ≤ℤ n.b → G t) → HasOneTurn P turn n.a n.b → HasOne turn
  one_from turn w gs o =
      record {
        time = o.time;
        inside = record { from = let h = o.after in omega (arith, lin); to = o.upto };
        turns = record { wanted = w; turns = o.turns; guarded = gs o.time o.after o.upto };
        alone = λ t i e. by t (let h = i.from in omega (arith, lin)) i.to e;
      }
    where
      by : (t : ℤ) → n.a <ℤ t → t ≤ℤ n.b → IsEvent (IsWantedTurn P c.dir G) t → t ≡ o.time
      by t p q (inl e) = o.alone t p q Rise e.turns
      by t p q (inr e) = o.alone t p q Fall e.turns

  one_between : ((t : ℤ) → n.a <ℤ t → t ≤ℤ n.b → G t) → IsSteady → differ c.dir f.at_first f.at_last ≡ true → HasOne (turn_to f.at_last)
  one_between gs g h = by (differ_by c.dir f.at_first f.at_last h) g
    where
      by : ((wants c.dir Rise ≡ true) × (f.at_first ≡ No) × (f.at_last ≡ Yes)) ⊎ ((wants c.dir Fall ≡ true) × (f.at_first ≡ Yes) × (f.at_last ≡ No)) → IsSteady → HasOne (turn_to f.at_last)
      by (inl e) (inl g) = subst (λ (sign : Sign). HasOne (turn_to sign)) (sym e.2) (one_from Rise e.0 gs (one_rise P n.a n.b g decide ordered (s.first.no e.1) (s.last.yes e.2)))
      by (inl e) (inr g) = absurd (lasts (IsNot P) n.a n.b g n.a n.b (omega (arith, lin)) ordered (omega (arith, lin)) (s.first.no e.1) (s.last.yes e.2))
      by (inr e) (inl g) = absurd (s.last.no e.2 (lasts P n.a n.b g n.a n.b (omega (arith, lin)) ordered (omega (arith, lin)) (s.first.yes e.1)))
      by (inr e) (inr g) = subst (λ (sign : Sign). HasOne (turn_to sign)) (sym e.2) (one_from Fall e.0 gs (one_fall P decide n.a n.b g ordered (s.first.yes e.1) (s.last.no e.2)))

  pub one_in_one : is_one c n f ≡ true → HasOne (turn_to f.at_last)
  one_in_one h =
      let x = and_parts (is_readable n f.crosses) _ h in
      let y = and_parts (nat_le (width n) c.width) _ x.1 in
      let z = and_parts (differ c.dir f.at_first f.at_last) _ y.1 in
      let u = and_parts (is_steady n f) (list_all is_certified f.guards) z.1 in
      one_between (s.certified x.0 u.1) (steady u.0) z.0

  -- ---- the two laws
  pub verdict_clear : verdict c n f ≡ Clear → IsClear
  unfolding verdict
  verdict_clear e = by (is_clear c n f) (is_one c n f) (is_split c n f) refl e
    where
      by : (p q r : Bool) → is_clear c n f ≡ p → (if p then Clear else if q then One (turn_to f.at_last) else if r then Split else Undecided) ≡ Clear → IsClear
      by true q r h e = none_in_clear h
      by false true r h e = cc
      by false false true h e = cc
      by false false false h e = cc

  pub verdict_one : (turn : Turn) → verdict c n f ≡ One turn → HasOne turn
  unfolding verdict
  verdict_one turn e = by (is_clear c n f) (is_one c n f) (is_split c n f) refl e
    where
      by : (p q r : Bool) → is_one c n f ≡ q → (if p then Clear else if q then One (turn_to f.at_last) else if r then Split else Undecided) ≡ One turn → HasOne turn
      by true q r h e = cc
      by false true r h e = let k : turn_to f.at_last ≡ turn = cc in subst HasOne k (one_in_one h)
      by false false true h e = cc
      by false false false h e = cc
