-- What a parse's error says of the words.
use Rattle.std.proofs.Common.{◌≡◌, ◌∙◌, ◌⊎◌, true, false, not, List, [], ◌∷◌, refl, ap, inl, inr, arith}
use Rattle.std.proofs.lemmas.Bool.Decides.{nat_tests}
use Rattle.clap.specs.Walk.{is_empty}
use Rattle.clap.specs.Simple.{App, HasMatchesOf, is_simple}
use Rattle.clap.specs.Faults.{fault_of, is_free_app, is_simple_and_free}
use Rattle.clap.specs.Simple.{built}
use Rattle.clap.specs.Kinds.{HasKind, IsAmong, Kinds}
use Rattle.clap.specs.Values.{kind_of}
use Rattle.clap.specs.declared.error.Error.{Error}
use Rattle.clap.specs.declared.error.kind.ErrorKind.{ErrorKind}
use Rattle.clap.specs.declared.error.kind.ErrorKind.TheVariants.{OutOfMemory}
use Rattle.clap.specs.declared.parser.matches.ArgMatches.{ArgMatches}
use Rattle.clap.proofs.WalkLemmas.{both}
use Rattle.spec_requests.specs.declared.request.WordFault.{WordFault}
use Rattle.spec_requests.specs.declared.request.WordFault.TheVariants.{Memory, Words}
use Rattle.spec_requests.specs.Names.{Text}
use Rattle.spec_requests.specs.Commands.{is_refused}
use Rattle.gf_words.specs.Readings.{IsReading, word_fault}

pub words_fault : (kind : ErrorKind) → (kind ≡ OutOfMemory → ⊥) → Words ≡ word_fault kind
words_fault OutOfMemory other = absurd (other refl)
words_fault _ other = refl

either_fault : (kind : ErrorKind) → (word_fault kind ≡ Memory) ⊎ (word_fault kind ≡ Words)
either_fault OutOfMemory = inl refl
either_fault _ = inr refl

some_kind : (kind : ErrorKind) (kinds : Kinds) → IsAmong kind kinds → not (is_empty kinds) ≡ true
some_kind kind [] among = absurd among
some_kind kind (k ∷ ks) among = grind (arith, nat_tests)

pub refused_is : (command : App) (words : List Text) (error : Error) (fault : WordFault) → fault ≡ word_fault (kind_of error)
    → HasKind (fault_of command words) error → (fault ≡ Memory) ⊎ ((fault ≡ Words) × (is_refused command words ≡ true))
unfolding is_refused
refused_is command words error fault is (inl memory) = inl (is ∙ ap word_fault memory)
refused_is command words error fault is (inr among) = elim (either_fault (kind_of error)) [
  | inl memory ↦ inl (is ∙ memory)
  | inr words_refused ↦ inr (is ∙ words_refused, some_kind (kind_of error) (fault_of command words) among)
]

none_refused : (kinds : Kinds) → kinds ≡ [] → not (is_empty kinds) ≡ false
none_refused kinds e = ap (λ ks. not (is_empty ks)) e

pub reading_is : (command : App) (words : List Text) (matches : ArgMatches) → is_simple_and_free command ≡ true
    → HasMatchesOf command words matches → fault_of command words ≡ [] → IsReading command words matches
unfolding is_refused
reading_is command words matches simple has free = record {
  rows = (has (both (is_simple command) (is_free_app (built command)) simple).0).0;
  read = none_refused (fault_of command words) free;
}
