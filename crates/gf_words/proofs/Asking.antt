-- What a list of words asks for, by its first word.
use Rattle.std.proofs.Common.{◌≡◌, ◌∙◌, ◌⊎◌, ◌<◌, ◌≤◌, [], ◌∷◌, List, Option, Result, Ok, Err, IfOk, IfErr, String, Global, get_or, length, map, string_bytes, refl, sym, ap, inl, inr, arith}
use Rattle.spec_requests.specs.declared.request.Request.{Request}
use Rattle.spec_requests.specs.declared.request.WordFault.{WordFault}
use Rattle.spec_requests.specs.declared.request.WordFault.TheVariants.{Memory, NoCommand}
use Rattle.spec_requests.specs.declared.tables.CommandName.{CommandName}
use Rattle.spec_requests.specs.Names.{command_of}
use Rattle.spec_requests.specs.Requests.{request_for, request_of}
use Rattle.gf_words.specs.Answers.{Answers}

pub no_words : (words : List (String Global)) → length words < 1 → request_of (map string_bytes words) ≡ Err NoCommand
unfolding request_of
no_words [] few = refl
no_words (word ∷ words) few = absurd (omega arith)

first_asks : (words : List (String Global)) (first : String Global) → 1 ≤ length words → first ≡ get_or words 0 first
    → request_of (map string_bytes words) ≡ request_for (command_of (string_bytes first)) (map string_bytes words)
unfolding request_of
first_asks [] first some is = absurd (omega arith)
first_asks (word ∷ words) first some is =
    ap (λ (w : String Global). request_for (command_of (string_bytes w)) (map string_bytes (word ∷ words))) (sym is)

-- the first word stands for this command, or for none
pub command_asks : (words : List (String Global)) (first : String Global) (command : Option CommandName) → 1 ≤ length words
    → first ≡ get_or words 0 first → command ≡ command_of (string_bytes first)
    → request_of (map string_bytes words) ≡ request_for command (map string_bytes words)
command_asks words first command some is known =
    first_asks words first some is ∙ ap (λ (c : Option CommandName). request_for c (map string_bytes words)) (sym known)

pub asked_if : (expected known : Result Request WordFault) (result : Result Request WordFault) → known ≡ expected
    → Answers expected result → IfOk result (λ request. known ≡ Ok request)
asked_if expected known (Ok request) same answers = same ∙ answers
asked_if expected known (Err fault) same answers = tt

pub refused_if : (expected known : Result Request WordFault) (result : Result Request WordFault) → known ≡ expected
    → Answers expected result → IfErr result (λ fault. (fault ≡ Memory) ⊎ (known ≡ Err fault))
refused_if expected known (Ok request) same answers = tt
refused_if expected known (Err fault) same (inl memory) = inl memory
refused_if expected known (Err fault) same (inr is) = inr (same ∙ is)
