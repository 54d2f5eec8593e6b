-- The search of a query over a span of an ephemeris is one, and what it finds are the windows of the query's events.
use Rattle.std.proofs.Common.{◌≡◌, ◌⊎◌, ◌<◌, ◌≤◌, ℕ, Bool, true, false, if◌then◌else◌, ℤ, pos, negsuc, ◌+ℤ◌, ◌*ℤ◌, ◌<ℤ◌, ◌≤ℤ◌, List, length, Option, None, Some, Ok, Err, refl, sym, ap, ◌∙◌, subst, arith, inl, inr, lit<, lit≤}
use Rattle.std.proofs.lemmas.Bool.{lt-ltb, le-ltb}
use Rattle.std.proofs.lemmas.Int.{ints}
use Rattle.std.specs.Prelude.{unsigned_abs}
use Rattle.spec_numbers.proofs.Naturals.{positive_product}
use Rattle.spec_ephemeris.specs.Ephemeris.{Ephemeris, IsEphemeris}
use Rattle.spec_trees.specs.declared.tree.Leaf.{Leaf}
use Rattle.spec_trees.specs.Tree.{Covers, IsValid}
use Rattle.spec_trees.proofs.Covering.{leaves_cover}
use Rattle.spec_searches.specs.Search.{IsSearch, Search}
use Rattle.spec_searches.specs.Found.{IsSpan, root, rules}
use Rattle.spec_searches.proofs.Finding.{windows_are_found}
use Rattle.spec_searches.proofs.Parts.{rules_are_sound}
use Rattle.spec_kinds.specs.declared.fault.EventFault.{EventFault}
use Rattle.spec_kinds.specs.Faults.{fault_of}
use Rattle.spec_kinds.proofs.Searching.{search_is}
use Rattle.spec_outcomes.specs.declared.query.Query.{Query}
use Rattle.spec_outcomes.specs.declared.query.Span.{Span}
use Rattle.spec_outcomes.specs.declared.refusal.Refusal.{Refusal}
use Rattle.spec_outcomes.specs.declared.refusal.Refusal.TheVariants.{Event, Memory, Outside, TooManyLeaves}
use Rattle.spec_outcomes.specs.Outcomes.{cause_by, IsFound, Stops, cause_of, found, searched, unless}
use Rattle.spec_outcomes.specs.Queries.{AreFound, IsQuery, conjunctions, is_within, leaves_in, search, whole_span}

-- ---- the leaves of a search
pub few_searched : (most : ℕ) (s : Search) (span : Span) → length (leaves_in s span) ≤ most → searched most s span ≡ Ok (leaves_in s span)
unfolding searched
few_searched most s span few = ap (λ (many : Bool). if many then Err (TooManyLeaves most) else Ok (leaves_in s span)) (le-ltb most (length (leaves_in s span)) few)

pub many_searched : (most : ℕ) (s : Search) (span : Span) → most < length (leaves_in s span) → searched most s span ≡ Err (TooManyLeaves most)
unfolding searched
many_searched most s span many = ap (λ (many : Bool). if many then Err (TooManyLeaves most) else Ok (leaves_in s span)) (lt-ltb most (length (leaves_in s span)) many)

-- too many stop the search
pub leaves_stop : (most : ℕ) (q : Query) (e : Ephemeris) (span : Span) (r : Refusal) → found most q e span ≡ searched most (search q e) span
    → (r ≡ Memory) ⊎ ((r ≡ TooManyLeaves most) × (most < length (leaves_in (search q e) span))) → Stops most q e span r
leaves_stop most q e span r is (inl none) = inl none
leaves_stop most q e span r is (inr many) = inr (is ∙ many_searched most (search q e) span many.1 ∙ ap (λ (s : Refusal). Err s) (sym many.0))

-- ---- causes
-- where there is none, the span is one of the ephemeris, and the event has no fault
pub none_by : (inside : Bool) (fault : Option EventFault) (span whole : Span) → cause_by inside fault span whole ≡ None → (inside ≡ true) × (fault ≡ None)
none_by false fault span whole is = absurd (cc)
none_by true (Some fault) span whole is = absurd (cc)
none_by true None span whole is = (refl, refl)

module _ (most : ℕ) (q : Query) (e : Ephemeris) (span : Span) where
  pub outside_stops : is_within span e ≡ false → found most q e span ≡ Err (Outside span (whole_span e))
  outside_stops out = ap (λ (inside : Bool). unless (cause_by inside (fault_of e q.ask) span (whole_span e)) (searched most (search q e) span)) out

  module _ (within : is_within span e ≡ true) where
    pub fault_stops : (fault : EventFault) → fault_of e q.ask ≡ Some fault → found most q e span ≡ Err (Event fault)
    fault_stops fault has = λ i. unless (cause_by (within i) (has i) span (whole_span e)) (searched most (search q e) span)

    pub found_is : fault_of e q.ask ≡ None → found most q e span ≡ searched most (search q e) span
    found_is sound = λ i. unless (cause_by (within i) (sound i) span (whole_span e)) (searched most (search q e) span)

-- ---- spans
-- some blocks of some length
later : (start length : ℤ) (count : ℕ) → pos 1 ≤ℤ length → 0 < count → start <ℤ (start +ℤ (pos count *ℤ length))
later start (pos length) count some has =
    let more = positive_product count length has (omega (arith, ints, some)) in omega (arith, ints, more)
later start (negsuc length) count some has = absurd (omega (arith, ints, some))

-- the span is one of the search
inside : (q : Query) (e : Ephemeris) (span : Span) → is_within span e ≡ true → IsSpan (search q e) span.from span.upto
inside q e span within = record {
  from = grind (arith, ints, within);
  ordered = grind (arith, ints, within);
  to = grind (arith, ints, within);
}

pub whole_within : (e : Ephemeris) → IsEphemeris e → 0 < e.blocks → is_within (whole_span e) e ≡ true
whole_within e checked block =
    let after = later e.start e.header.block_seconds e.blocks (omega (arith, ints, checked.header.shortest)) block in
    grind (arith, ints, after)

pub root_valid : (q : Query) (e : Ephemeris) (span : Span) → is_within span e ≡ true → IsValid (rules (search q e)) (root span.from span.upto)
root_valid q e span within = let is = inside q e span within in record { from = is.from; inside = is.ordered; to = is.to; depth = omega arith }

-- ---- queries
abs_some : (z : ℤ) → pos 1 ≤ℤ z → 0 < unsigned_abs z
abs_some (pos n) some = omega (arith, ints, some)
abs_some (negsuc n) some = absurd (omega (arith, ints, some))

-- the search of a generated text keeps to the limits
pub conjunctions_are : IsQuery conjunctions
conjunctions_are = record {
  ask = record { second = refl; target = λ same. absurd (cc); other = λ same. absurd (cc); axis = lit< tt };
  some_width = omega (arith, ints);
  width = omega (arith, ints);
  depth = lit≤ tt;
}

module _ (q : Query) (e : Ephemeris) (checked : IsEphemeris e) (block : 0 < e.blocks) (is : IsQuery q) where
  pub searchable : fault_of e q.ask ≡ None → IsSearch (search q e)
  searchable sound =
      search_is e q.ask (unsigned_abs q.width) q.depth q.cut checked block is.ask sound (abs_some q.width is.some_width)

  pub leaves_follow : (span : Span) → is_within span e ≡ true → fault_of e q.ask ≡ None → Covers span.from (leaves_in (search q e) span) span.upto
  leaves_follow span within sound =
      leaves_cover (rules (search q e)) (rules_are_sound (search q e) (searchable sound).view) (root span.from span.upto) (root_valid q e span within)

  pub are_found : (span : Span) → is_within span e ≡ true → fault_of e q.ask ≡ None → AreFound (search q e) span (leaves_in (search q e) span)
  are_found span within sound = windows_are_found (search q e) (searchable sound) span.from span.upto (inside q e span within)

  pub events_found : (span : Span) → cause_of q e span ≡ None → AreFound (search q e) span (leaves_in (search q e) span)
  events_found span none =
      let is = none_by (is_within span e) (fault_of e q.ask) span (whole_span e) none in are_found span is.0 is.1

  -- no more leaves than so many are found
  pub is_found : (most : ℕ) (span : Span) (ls : List Leaf) → is_within span e ≡ true → fault_of e q.ask ≡ None → ls ≡ leaves_in (search q e) span
      → length (leaves_in (search q e) span) ≤ most → IsFound most q e span ls
  is_found most span ls within sound same few = record {
    within = within;
    outcome = found_is most q e span within sound ∙ few_searched most (search q e) span few ∙ ap (λ (vs : List Leaf). Ok vs) (sym same);
    same = same;
    follow = subst (λ (vs : List Leaf). Covers span.from vs span.upto) (sym same) (leaves_follow span within sound);
    windows = subst (λ (vs : List Leaf). AreFound (search q e) span vs) (sym same) (are_found span within sound);
  }
