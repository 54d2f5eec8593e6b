-- What a reader of a header comes to, by what it answered.
use Rattle.std.proofs.Common.{◌≡◌, ℕ, List, [], ◌∷◌, ◌++◌, Ok, Err, refl, sym, ap, ◌∙◌, append_assoc}
use Rattle.spec_text.specs.Lines.{TokenLine}
use Rattle.spec_text.specs.declared.decimals.Fault.{Fault}
use Rattle.spec_ephemeris.specs.declared.header.Header.{Header}
use Rattle.spec_files.specs.HeaderLines.{header, HeaderOrStop as Says}
use Rattle.spec_files.specs.Sections.{FileLine, ended, breaks}
use Rattle.spec_files.specs.declared.errors.ReadError.TheVariants as errors
use Rattle.de_header.specs.declared.answers.Step.TheVariants.{More}
use Rattle.de_header.specs.declared.state.State.{State}
use Rattle.de_header.specs.declared.state.State.TheVariants.{Whole, Refused}
use Rattle.de_header.specs.Reader.{Ends, IsRefused, IsWhole, answer, says}
use Rattle.spec_files.specs.FileLines.{line_of}
use Rattle.gf_files.specs.Reader.{IsOfHeader}

-- a header that is whole is the one that is given at the end, whatever lines follow
pub whole_header : (state : State) (end : ℕ) (h : Header) → IsWhole state → Ends end (says 0 state []) (Ok h) → (file : ℕ) (rest : List FileLine) → says file state rest ≡ Ok (h, rest)
unfolding says
whole_header (Whole facts count columns) end h whole ends file rest = ap (λ (found : Header). Ok (found, rest)) (sym ends)
whole_header state end h whole ends file rest = absurd whole

pub whole_no_fault : (state : State) (end : ℕ) (fault : Fault) → IsWhole state → Ends end (says 0 state []) (Err (errors.Fault fault)) → ⊥
unfolding says
whole_no_fault (Whole facts count columns) end fault whole ends = ends
whole_no_fault state end fault whole ends = absurd whole

pub refused_says : (state : State) (fault : Fault) → IsRefused state fault → (file : ℕ) (rest : List FileLine) → says file state rest ≡ Err (breaks file fault)
unfolding says
refused_says (Refused kept) fault is file rest = ap (λ (f : Fault). Err (breaks file f)) is
refused_says state fault is file rest = absurd is

pub more_is_wanted : (said : Says) → answer said ≡ Ok More → (late : ℕ) × (said ≡ Err (ended late))
more_is_wanted (Ok x) is = absurd (cc)
more_is_wanted (Err (ended late)) is = (late, refl)
more_is_wanted (Err (breaks file fault)) is = absurd (cc)

pub of_header_next : (old new : State) (line : TokenLine) → IsOfHeader old → ((file : ℕ) (rest : List FileLine) → says file new rest ≡ says file old (line_of file line ∷ rest)) → IsOfHeader new
of_header_next old new line of moves = record {
  before = of.before ++ line_of 0 line ∷ [];
  same = λ rest. moves 0 rest ∙ of.same (line_of 0 line ∷ rest) ∙ ap header (sym (append_assoc of.before (line_of 0 line ∷ []) rest));
}
