-- Numbers, word by word.
use Rattle.std.proofs.Common.{◌≡◌, ℕ, suc, ◌+◌, ◌-◌, ◌<◌, ◌≤◌, List, [], ◌∷◌, ◌++◌, length, take, drop, Ok, Err, refl, sym, ap, ◌∙◌, subst, arith}
use Rattle.std.proofs.lemmas.List.{length-append, take-append-le}
use Rattle.spec_text.specs.declared.decimals.Decimal.{Decimal}
use Rattle.spec_ephemeris.specs.Ephemeris.{Ephemeris}
use Rattle.spec_files.specs.declared.rules.BrokenRule.{BrokenRule}
use Rattle.spec_files.specs.BlockRules.{number_rule}
use Rattle.de_blocks.specs.Steps.{Pushes, ReadsNumbers, numbers_on, wanted}
use Rattle.spec_files.specs.declared.errors.ReadError.{ReadError}
use Rattle.spec_files.specs.declared.errors.ReadError.TheVariants.{Fault, Memory}
use Rattle.spec_files.specs.Sections.{ruled_at}
use Rattle.spec_files.proofs.Steps.{broken_by}
use Rattle.eph_model.specs.Stores.{Store}

-- what a loop over words keeps
pub record Keeps (before : Ephemeris) (old new : List Decimal) (words left : List (List ℕ)) : Type 0 where
  pub same : numbers_on before old (take (wanted before old) words) ≡ numbers_on before new (take (wanted before new) left)
  pub after : drop (wanted before old) words ≡ drop (wanted before new) left
  pub front : take (length old) new ≡ old
  pub more : length old ≤ length new
  pub few : length new ≤ before.header.ncoeff

one_more : (before : Ephemeris) (numbers : List Decimal) (d : Decimal) → length numbers < before.header.ncoeff
    → wanted before numbers ≡ suc (wanted before (numbers ++ d ∷ []))
one_more before numbers d few = omega (arith, few, length-append numbers (d ∷ []))

pub keeps_on : (before : Ephemeris) (old mid new : List Decimal) (words left rest : List (List ℕ)) (line : ℕ) (word : List ℕ) → Keeps before old mid words left
    → left ≡ word ∷ rest → length mid < before.header.ncoeff → Pushes before mid line word (Ok tt) new → Keeps before old new words rest
keeps_on before old mid new words left rest line word keeps is few (d, rule, pushed) =
    let k = one_more before mid d few in
    let step : numbers_on before mid (take (wanted before mid) left) ≡ numbers_on before (mid ++ d ∷ []) (take (wanted before (mid ++ d ∷ [])) rest) =
    rw (is, k, rule) refl in
    let later : drop (wanted before mid) left ≡ drop (wanted before (mid ++ d ∷ [])) rest = rw (is, k) refl in
    let begins : take (length old) (mid ++ d ∷ []) ≡ old = take-append-le (length old) mid (d ∷ []) keeps.more ∙ keeps.front in
    subst (λ (l : List Decimal). Keeps before old l words rest) (sym pushed) (record {
      same = keeps.same ∙ step;
      after = keeps.after ∙ later;
      front = begins;
      more = omega (arith, keeps.more, length-append mid (d ∷ []));
      few = omega (arith, few, length-append mid (d ∷ []));
    })

-- how many numbers there are after a word
pub counted : (before : Ephemeris) (numbers new : List Decimal) (line : ℕ) (word : List ℕ) (count : ℕ) → count ≡ length numbers
    → Pushes before numbers line word (Ok tt) new → count + 1 ≡ length new
counted before numbers new line word count is (d, rule, pushed) = omega (arith, is, length-append numbers (d ∷ []), ap length pushed)

pub stops_at : (before : Ephemeris) (old mid : List Decimal) (words left rest : List (List ℕ)) (word : List ℕ) (b : BrokenRule) → Keeps before old mid words left
    → left ≡ word ∷ rest → length mid < before.header.ncoeff → number_rule before mid word ≡ Err b
    → numbers_on before old (take (wanted before old) words) ≡ Err b
stops_at before old mid words left rest word b keeps is few rule =
    let some : wanted before mid ≡ suc (wanted before mid - 1) = omega (arith, few) in
    let step : numbers_on before mid (take (wanted before mid) left) ≡ Err b = rw (is, some, rule) refl in
    keeps.same ∙ step

pub fails_at : (before : Ephemeris) (old mid new : List Decimal) (words left rest : List (List ℕ)) (line : ℕ) (word : List ℕ) (why : ReadError)
    → Keeps before old mid words left → left ≡ word ∷ rest → length mid < before.header.ncoeff → Pushes before mid line word (Err why) new
    → ReadsNumbers before old line words (Err why) new rest
fails_at before old mid new words left rest line word (Fault fault) keeps is few failed =
    let by = broken_by line (number_rule before mid word) fault failed.0 in
    ap (ruled_at line) (stops_at before old mid words left rest word by.0 keeps is few by.1) ∙ ap (λ f. Err f) by.2
fails_at before old mid new words left rest line word Memory keeps is few failed = tt

-- ---- the same of a store
pub record IsOn (old new : Store) (words left : List (List ℕ)) : Type 0 where
  pub same : new.accepted ≡ old.accepted
  pub keeps : Keeps old.accepted old.numbers new.numbers words left

-- the numbers so far are too few, as the store says it
pub few_in : (old mid : Store) (words left : List (List ℕ)) → IsOn old mid words left → length mid.numbers < old.accepted.header.ncoeff
    → length mid.numbers < mid.accepted.header.ncoeff
few_in old mid words left is few = subst (λ (e : Ephemeris). length mid.numbers < e.header.ncoeff) (sym is.same) few

pub is_on : (old mid new : Store) (words left rest : List (List ℕ)) (line : ℕ) (word : List ℕ) → IsOn old mid words left
    → left ≡ word ∷ rest → length mid.numbers < old.accepted.header.ncoeff → Pushes mid.accepted mid.numbers line word (Ok tt) new.numbers
    → new.accepted ≡ mid.accepted → IsOn old new words rest
is_on old mid new words left rest line word is first few pushed same = record {
  same = same ∙ is.same;
  keeps = keeps_on old.accepted old.numbers mid.numbers new.numbers words left rest line word is.keeps first few
      (subst (λ (e : Ephemeris). Pushes e mid.numbers line word (Ok tt) new.numbers) is.same pushed);
}

pub fails_in : (old mid new : Store) (words left rest : List (List ℕ)) (line : ℕ) (word : List ℕ) (why : ReadError)
    → IsOn old mid words left → left ≡ word ∷ rest → length mid.numbers < old.accepted.header.ncoeff
    → Pushes mid.accepted mid.numbers line word (Err why) new.numbers → ReadsNumbers old.accepted old.numbers line words (Err why) new.numbers rest
fails_in old mid new words left rest line word why is first few failed =
    fails_at old.accepted old.numbers mid.numbers new.numbers words left rest line word why is.keeps first few
    (subst (λ (e : Ephemeris). Pushes e mid.numbers line word (Err why) new.numbers) is.same failed)

same_numbers : (line : ℕ) (before : Ephemeris) (numbers new : List Decimal) (word : List ℕ) (why : ReadError) → Pushes before numbers line word (Err why) new → new ≡ numbers
same_numbers line before numbers new word (Fault fault) failed = failed.1
same_numbers line before numbers new word Memory failed = failed

-- where a word is refused, the numbers begin with those that there were
pub front_in : (old mid new : Store) (words left : List (List ℕ)) (line : ℕ) (word : List ℕ) (why : ReadError)
    → IsOn old mid words left → Pushes mid.accepted mid.numbers line word (Err why) new.numbers → take (length old.numbers) new.numbers ≡ old.numbers
front_in old mid new words left line word why is failed =
    ap (take (length old.numbers)) (same_numbers line mid.accepted mid.numbers new.numbers word why failed) ∙ is.keeps.front

-- ---- a word that is refused
