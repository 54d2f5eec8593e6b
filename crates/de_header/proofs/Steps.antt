-- What is left to read after a line of counted words.
use Rattle.std.proofs.Common.{◌≡◌, ℕ, suc, ◌+◌, ◌-◌, ◌<◌, ◌≤◌, min, List, [], ◌∷◌, ◌++◌, length, get_or, take, Option, None, Some, Result, Ok, Err, refl, sym, ap, ◌∙◌, inl, inr, arith}
use Rattle.std.specs.Prelude.{slice_get, codes}
use Rattle.std.specs.Str.{bytes_eq}
use Rattle.std.proofs.lemmas.Bool.{cases_Bool}
use Rattle.std.proofs.lemmas.List.{length-take}
use Rattle.std.proofs.lemmas.Option.{slice_get-get_or}
use Rattle.spec_text.specs.declared.decimals.Decimal.{Decimal}
use Rattle.spec_files.specs.declared.rules.BrokenRule.{BrokenRule}
use Rattle.spec_faults.specs.declared.numbers.TheConstants.{ENDED}
use Rattle.spec_files.specs.HeaderLines.{names, HeaderOrStop, facts_of, from_column_group, from_value_group, from_values}
use Rattle.spec_files.specs.HeaderRules.{emrat_from, mass_ratio}
use Rattle.spec_files.specs.Sections.{FileLine, Stop, ◌>>=◌, at_line, after_words}
use Rattle.spec_files.specs.declared.facts.Facts.{Facts}
use Rattle.spec_files.specs.declared.facts.BlockShape.{BlockShape}
use Rattle.de_header.specs.Reader.{from_more_names, from_more_values, or_else}
use Rattle.de_header.proofs.Runs.{after_names, after_line, after_none, names_line, names_none, ratio_here, ratio_later}

or_else_again : (a b c : Option ℕ) → or_else a (or_else b c) ≡ or_else (or_else a b) c
or_else_again None b c = refl
or_else_again (Some k) b c = refl

or_else_none : (a : Option ℕ) → or_else a None ≡ a
or_else_none None = refl
or_else_none (Some k) = refl

emrat_append : (k m : ℕ) (xs ys : List (List ℕ)) → m ≡ k + length xs → emrat_from k (xs ++ ys) ≡ or_else (emrat_from k xs) (emrat_from m ys)
emrat_append k m [] ys is =
    let same : k ≡ m = omega (arith, is) in
    ap (λ (i : ℕ). emrat_from i ys) same
emrat_append k m (x ∷ xs) ys is = elim (cases_Bool (bytes_eq x (codes "EMRAT"))) [
  | inl test ↦ rw test refl
  | inr test ↦ rw test (emrat_append (suc k) m xs ys (omega (arith, is)))
]

module _ (shape : BlockShape) (count : ℕ) where
  abbrev named : ℕ → Option ℕ → List (List ℕ) × List FileLine → HeaderOrStop
  named passed emrat x = from_value_group shape count (or_else emrat (emrat_from passed x.0)) x.1

  named_after : (r : Result (List (List ℕ) × List FileLine) Stop) (words : List (List ℕ)) (found later : Option ℕ) (passed m : ℕ)
      → m ≡ passed + length words → later ≡ or_else found (emrat_from passed words)
      → ((r >>= after_names words) >>= named passed found) ≡ (r >>= named m later)
  named_after (Err e) words found later passed m m_is later_is = refl
  named_after (Ok x) words found later passed m m_is later_is =
      ap (λ (e : Option ℕ). from_value_group shape count e x.1)
      (ap (or_else found) (emrat_append passed m words x.0 m_is) ∙ or_else_again found (emrat_from passed words) (emrat_from m x.0)
      ∙ ap (λ (e : Option ℕ). or_else e (emrat_from m x.0)) (sym later_is))

  pub no_names_left : (left passed : ℕ) (emrat : Option ℕ) (rest : List FileLine) → left ≡ 0
      → from_value_group shape count emrat rest ≡ from_more_names shape count left passed emrat rest
  no_names_left left passed emrat rest none =
      ap (λ (e : Option ℕ). from_value_group shape count e rest) (sym (or_else_none emrat))
      ∙ sym (ap (λ (r : Result (List (List ℕ) × List FileLine) Stop). r >>= named passed emrat) (names_none left rest none))

  pub names_passed : (left here passed : ℕ) (found later : Option ℕ) (line : FileLine) (rest : List FileLine) → 0 < left
      → here ≡ min left (length line.words) → later ≡ or_else found (emrat_from passed (take here line.words))
      → from_more_names shape count left passed found (line ∷ rest) ≡ from_more_names shape count (left - here) (passed + here) later rest
  names_passed left here passed found later line rest some here_is later_is =
      let all : length (take here line.words) ≡ here = length-take here line.words ∙ omega (arith, here_is) in
      ap (λ (r : Result (List (List ℕ) × List FileLine) Stop). r >>= named passed found) (names_line left here line rest some here_is)
      ∙ named_after (names (left - here) rest) (take here line.words) found later passed (passed + here) (omega (arith, all)) later_is

pub no_values_left : (facts : Facts) (left : ℕ) (rest : List FileLine) → left ≡ 0 → from_column_group facts rest ≡ from_more_values facts left rest
no_values_left facts left rest none = sym (ap (λ (r : Result (List FileLine) Stop). r >>= from_column_group facts) (after_none left rest none))

pub values_passed : (facts : Facts) (left here : ℕ) (line : FileLine) (rest : List FileLine) → 0 < left → here ≡ min left (length line.words)
    → from_more_values facts left (line ∷ rest) ≡ from_more_values facts (left - here) rest
values_passed facts left here line rest some here_is =
    ap (λ (r : Result (List FileLine) Stop). r >>= from_column_group facts) (after_line left here line rest some here_is)

abbrev with_ratio : Decimal → List FileLine → Result (Decimal × List FileLine) Stop
with_ratio d rest = Ok (d, rest)

module _ (shape : BlockShape) where
  abbrev rated : Decimal × List FileLine → HeaderOrStop
  rated emrat = from_column_group (facts_of shape emrat.0) emrat.1

  pub values_later : (left here before : ℕ) (line : FileLine) (rest : List FileLine) → here ≡ min left (length line.words) → here ≤ before
      → from_values shape left before (line ∷ rest) ≡ from_values shape (left - here) (before - here) rest
  values_later left here before line rest here_is le =
      ap (λ (r : Result (Decimal × List FileLine) Stop). r >>= rated) (ratio_later left here before line rest here_is le)

  rated_after : (d : Decimal) (r : Result (List FileLine) Stop) → ((r >>= with_ratio d) >>= rated) ≡ (r >>= from_column_group (facts_of shape d))
  rated_after d (Ok x) = refl
  rated_after d (Err e) = refl

  -- on the line that has the value of EMRAT, by what is read of its word
  module _ (left here before : ℕ) (line : FileLine) (rest : List FileLine) (read : Result Decimal BrokenRule) (here_is : here ≡ min left (length line.words)) (below : before < here)
      (of_word : (word : List ℕ) → slice_get line.words before ≡ Some word → read ≡ mass_ratio word) where
    abbrev after : Result Decimal BrokenRule → HeaderOrStop
    after r = (at_line line.file line.number r >>= λ emrat. after_words ENDED (left - here) rest >>= with_ratio emrat) >>= rated

    value_read : from_values shape left before (line ∷ rest) ≡ after read
    value_read =
        let word = slice_get-get_or line.words before [] (omega (arith, here_is, below)) in
        ap (λ (r : Result (Decimal × List FileLine) Stop). r >>= rated) (ratio_here left here before line rest (get_or line.words before []) here_is below word)
        ∙ ap after (sym (of_word (get_or line.words before []) word))

    pub value_here : (d : Decimal) → read ≡ Ok d → from_values shape left before (line ∷ rest) ≡ from_more_values (facts_of shape d) (left - here) rest
    value_here d is = value_read ∙ ap after is ∙ rated_after d (after_words ENDED (left - here) rest)

    pub value_breaks : (broken : BrokenRule) → read ≡ Err broken → from_values shape left before (line ∷ rest) ≡ at_line line.file line.number (Err broken)
    value_breaks broken is = value_read ∙ ap after is
