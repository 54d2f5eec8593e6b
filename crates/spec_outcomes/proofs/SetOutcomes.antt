-- The outcome of the search for sets: the causes against it in their order, and the sets that are found.
use Rattle.std.proofs.Common.{◌≡◌, ◌<◌, ℕ, Bool, true, false, ◌||◌, ◌&&◌, List, [], ◌∷◌, All, None, Some, Ok, Err, Result, ℤ, pos, ◌+ℤ◌, ◌≤ℤ◌, refl, sym, ◌∙◌, ap, arith}
use Rattle.std.proofs.lemmas.Bool.{and_parts}
use Rattle.std.proofs.lemmas.Int.{ints}
use Rattle.std.proofs.lemmas.List.Elements.{All-nil, All-cons, All-weaker}
use Rattle.spec_ephemeris.specs.Ephemeris.{Ephemeris, IsEphemeris}
use Rattle.spec_intervals.specs.declared.signs.Sign.{Sign}
use Rattle.spec_trees.specs.declared.tree.Leaf.{Leaf}
use Rattle.spec_sets.specs.Pairs.{AreOf}
use Rattle.spec_sets.specs.Signs.{is_possible, is_sure}
use Rattle.spec_sets.specs.Spans.{AreSpans, AreSpansFrom, has, is_between, is_in}
use Rattle.spec_sets.proofs.Members.{has_first, in_parts, inside}
use Rattle.spec_sets.proofs.Runs.{are_spans_of}
use Rattle.spec_kinds.specs.declared.fault.EventFault.{EventFault}
use Rattle.spec_kinds.specs.Faults.{fault_of}
use Rattle.spec_times.specs.Ticks.{IsTimeIn}
use Rattle.spec_requests.specs.declared.request.Relation.{Relation}
use Rattle.spec_output.specs.declared.limits.TheConstants.{MAX_LEAVES}
use Rattle.spec_output.specs.Report.{AreTimesIn}
use Rattle.spec_outcomes.specs.declared.query.Query.{Query}
use Rattle.spec_outcomes.specs.declared.query.Span.{Span}
use Rattle.spec_outcomes.specs.declared.refusal.Refusal.{Refusal}
use Rattle.spec_outcomes.specs.declared.refusal.Refusal.TheVariants.{Event, Outside}
use Rattle.spec_outcomes.specs.Outcomes.{cause_by, cause_of, searched, unless}
use Rattle.spec_outcomes.specs.Queries.{is_within, leaves_in, search, whole_span}
use Rattle.spec_outcomes.specs.Sets.{AreSetsFound, IsPart, IsSetQuery, related_signs, relation_sign, searched_signs, signs_by, signs_found, together}
use Rattle.spec_outcomes.proofs.SetSigns.{sets_meet, span_early, span_late}

-- ---- spans within a span
or_later : (here later : Bool) → later ≡ true → (here || later) ≡ true
or_later true later is = refl
or_later false later is = is

pub parts_are : (span : Span) (low : ℤ) (xs : List (ℤ × ℤ)) → AreSpansFrom low xs
    → ((t : ℤ) → has xs t ≡ true → is_between span.from span.upto t ≡ true) → All (IsPart span) xs
parts_are span low [] is within = All-nil (IsPart span)
parts_are span low (x ∷ xs) is within =
    let ordered = is.1 in
    let from = in_parts (span.from, span.upto) x.0 (within x.0 (has_first x xs x.0 (inside x x.0 (omega (arith, ints)) ordered))) in
    let upto = in_parts (span.from, span.upto) x.1 (within x.1 (has_first x xs x.1 (inside x x.1 ordered (omega (arith, ints))))) in
    All-cons (IsPart span) x xs (record { from = from.0; ordered = ordered; upto = upto.1 })
    (parts_are span (x.1 +ℤ pos 2) xs is.3 (λ t there. within t (or_later (is_in x t) (has xs t) there)))

-- their times have texts where those of the span have
pub parts_have_times : (tick : ℕ) (span : Span) → IsTimeIn tick span.from → IsTimeIn tick span.upto → (xs : List (ℤ × ℤ)) → All (IsPart span) xs → All (AreTimesIn tick) xs
parts_have_times tick span from upto xs are = All-weaker (IsPart span) (AreTimesIn tick) one xs are
  where
    one : (x : ℤ × ℤ) → IsPart span x → AreTimesIn tick x
    one x is = record {
      first = record { low = omega (arith, ints, from.low, is.from); high = omega (arith, ints, upto.high, is.ordered, is.upto) };
      last = record { low = omega (arith, ints, from.low, is.from, is.ordered); high = omega (arith, ints, upto.high, is.upto) };
    }

-- ---- causes
module _ (relation : Relation) (q r : Query) (e : Ephemeris) (span : Span) where
  abbrev both_searched : Result (ℤ → Sign) Refusal
  both_searched = searched_signs relation (search q e) (search r e) span

  pub outside_stops_sets : is_within span e ≡ false → signs_found relation q r e span ≡ Err (Outside span (whole_span e))
  outside_stops_sets out = ap (λ (inside : Bool). unless (cause_by inside (fault_of e q.ask) span (whole_span e)) (unless (cause_of r e span) both_searched)) out

  module _ (within : is_within span e ≡ true) where
    pub fault_stops_sets : (fault : EventFault) → fault_of e q.ask ≡ Some fault → signs_found relation q r e span ≡ Err (Event fault)
    fault_stops_sets fault faulty = λ i. unless (cause_by (within i) (faulty i) span (whole_span e)) (unless (cause_of r e span) both_searched)

    module _ (sound : fault_of e q.ask ≡ None) where
      pub other_fault_stops : (fault : EventFault) → fault_of e r.ask ≡ Some fault → signs_found relation q r e span ≡ Err (Event fault)
      other_fault_stops fault faulty =
          λ i. unless (cause_by (within i) (sound i) span (whole_span e)) (unless (cause_by (within i) (faulty i) span (whole_span e)) both_searched)

      module _ (other_sound : fault_of e r.ask ≡ None) where
        signs_are : signs_found relation q r e span ≡ both_searched
        signs_are = λ i. unless (cause_by (within i) (sound i) span (whole_span e)) (unless (cause_by (within i) (other_sound i) span (whole_span e)) both_searched)

        abbrev make : List Leaf → List Leaf → ℤ → Sign
        make ls ms t = relation_sign relation (signs_by (search q e) span ls t) (signs_by (search r e) span ms t)

        pub leaves_stop_sets : (refusal : Refusal) → searched MAX_LEAVES (search q e) span ≡ Err refusal → signs_found relation q r e span ≡ Err refusal
        leaves_stop_sets refusal many = signs_are ∙ ap (λ (first : Result (List Leaf) Refusal). together make first (searched MAX_LEAVES (search r e) span)) many

        module _ (few : searched MAX_LEAVES (search q e) span ≡ Ok (leaves_in (search q e) span)) where
          pub other_leaves_stop : (refusal : Refusal) → searched MAX_LEAVES (search r e) span ≡ Err refusal → signs_found relation q r e span ≡ Err refusal
          other_leaves_stop refusal many = signs_are ∙ (λ i. together make (few i) (many i))

          -- ---- what is found
          module _ (other_few : searched MAX_LEAVES (search r e) span ≡ Ok (leaves_in (search r e) span))
              (checked : IsEphemeris e) (block : 0 < e.blocks) (is : IsSetQuery q) (other : IsSetQuery r) where
            abbrev sign : ℤ → Sign
            sign = related_signs relation (search q e) (search r e) span

            between : (test : ℤ → Bool) (xs : List (ℤ × ℤ)) → ((t : ℤ) → has xs t ≡ (is_between span.from span.upto t && test t))
                → (t : ℤ) → has xs t ≡ true → is_between span.from span.upto t ≡ true
            between test xs have t there = (and_parts (is_between span.from span.upto t) (test t) (sym (have t) ∙ there)).0

            pub sets_are_found : span.from ≤ℤ span.upto → (surely perhaps : List (ℤ × ℤ)) → AreSpans surely → AreSpans perhaps → AreOf sign span.from span.upto surely perhaps
                → AreSetsFound relation q r e span surely perhaps
            sets_are_found ordered surely perhaps sure_spans possible_spans are =
                let early = span_early q e span checked block is within sound in
                let late = span_late q e span checked block is within sound in
                record {
                  outcome = signs_are ∙ (λ i. together make (few i) (other_few i));
                  sure = are_spans_of (λ t. is_sure (sign t)) span.from span.upto ordered early late surely sure_spans are.sure;
                  maybe = are_spans_of (λ t. is_possible (sign t)) span.from span.upto ordered early late perhaps possible_spans are.maybe;
                  meets = sets_meet relation q r e span checked block is other within sound other_sound surely perhaps are;
                  sure_within = parts_are span _ surely sure_spans (between (λ t. is_sure (sign t)) surely are.sure);
                  maybe_within = parts_are span _ perhaps possible_spans (between (λ t. is_possible (sign t)) perhaps are.maybe);
                }
