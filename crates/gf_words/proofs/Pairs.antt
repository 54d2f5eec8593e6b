-- Parts that are read two by two: where one is bad, the first that is bad is what all come to.
use Rattle.std.proofs.Common.{◌≡◌, ◌∙◌, Result, Ok, Err, ap}
use Rattle.spec_requests.specs.declared.request.Named.{Named}
use Rattle.option_values.specs.Parts.{pair}
use Rattle.gf_words.specs.Parts.{made}

pub along : {A B : Type 0} {first one : Result A Named} {second other : Result B Named} → first ≡ one → second ≡ other
    → pair first second ≡ pair one other
along first second = λ i. pair (first i) (second i)

pub first_bad : {A B : Type 0} {option : Named} {found read : Result A Named} (make : A → B) → Err option ≡ found
    → found ≡ read → Err option ≡ made make read
first_bad make bad same = ap (made make) (bad ∙ same)

pub all_read : {A B : Type 0} {x : A} {found read : Result A Named} (make : A → B) → Ok x ≡ found → found ≡ read
    → Ok (make x) ≡ made make read
all_read make good same = ap (made make) (good ∙ same)
