-- Lines whose bytes are known.
use Rattle.std.proofs.Common.{◌≡◌, ◌+◌, ◌/◌, ◌%◌, ◌≤◌, ◌<◌, ◌^◌, ℕ, None, Some, List, [], ◌∷◌, ◌++◌, refl, ◌∙◌, ap, lit<, lit≤}
use Rattle.std.proofs.lemmas.Fmt.{decimal_digit, decimal_step}
use Rattle.std.proofs.lemmas.List.{append-nil}
use Rattle.std.specs.Prelude.{codes, pos}
use Rattle.std.specs.Fmt.{decimal}
use Rattle.spec_faults.specs.Faults.{fault_kind}
use Rattle.spec_requests.specs.Examples.{search_in}
use Rattle.spec_requests.specs.declared.request.Relation.TheVariants.{Less}
use Rattle.spec_output.specs.Messages.{event_text, leaves_text, title, words_text}
use Rattle.spec_output.specs.Report.{query_text, relation_text}

-- a number whose digits but the last are known
number : (n : ℕ) (tens : List ℕ) → 10 ≤ n → n < 2 ^ 64 → decimal (n / 10) ≡ tens → decimal n ≡ tens ++ ((48 + n % 10) ∷ [])
number n tens low high is = decimal_step n low high ∙ ap (λ (digits : List ℕ). digits ++ ((48 + n % 10) ∷ [])) is

number_60 : decimal 60 ≡ codes "60"
number_60 = number 60 (codes "6") (lit≤ tt) (lit< tt) (decimal_digit 6 (lit< tt))

number_63 : decimal 63 ≡ codes "63"
number_63 = number 63 (codes "6") (lit≤ tt) (lit< tt) (decimal_digit 6 (lit< tt))

pub no_word_line : words_text 60 None ≡ codes "finder: words: 60 NoCommand\n"
unfolding title fault_kind
no_word_line = ap (λ (number : List ℕ). codes "finder: words: " ++ (number ++ codes " " ++ title 60 0) ++ [] ++ codes "\n") number_60

pub option_line : words_text 63 (Some (codes "width")) ≡ codes "finder: words: 63 BadValue width\n"
unfolding title fault_kind
option_line = ap (λ (number : List ℕ). codes "finder: words: " ++ (number ++ codes " " ++ title 63 0) ++ codes " width" ++ codes "\n") number_63

pub number_50 : decimal 50 ≡ codes "50"
number_50 = number 50 (codes "5") (lit≤ tt) (lit< tt) (decimal_digit 5 (lit< tt))

number_51 : decimal 51 ≡ codes "51"
number_51 = number 51 (codes "5") (lit≤ tt) (lit< tt) (decimal_digit 5 (lit< tt))

number_52 : decimal 52 ≡ codes "52"
number_52 = number 52 (codes "5") (lit≤ tt) (lit< tt) (decimal_digit 5 (lit< tt))

event_line : (n : ℕ) (word : List ℕ) → decimal n ≡ word → event_text n ≡ codes "finder: event: " ++ (word ++ codes " " ++ title n 0) ++ codes "\n"
event_line n word is = ap (λ (number : List ℕ). codes "finder: event: " ++ (number ++ codes " " ++ title n 0) ++ codes "\n") is

pub absent_line : event_text 50 ≡ codes "finder: event: 50 BodyAbsent\n"
unfolding title fault_kind
absent_line = event_line 50 (codes "50") number_50

pub same_line : event_text 51 ≡ codes "finder: event: 51 SameBody\n"
unfolding title fault_kind
same_line = event_line 51 (codes "51") number_51

pub reference_line : event_text 52 ≡ codes "finder: event: 52 ReferenceRange\n"
unfolding title fault_kind
reference_line = event_line 52 (codes "52") number_52

number_3355 : decimal 3355 ≡ codes "3355"
number_3355 =
    number 3355 (codes "335") (lit≤ tt) (lit< tt)
    (number 335 (codes "33") (lit≤ tt) (lit< tt) (number 33 (codes "3") (lit≤ tt) (lit< tt) (decimal_digit 3 (lit< tt))))

number_33554432 : decimal 33554432 ≡ codes "33554432"
number_33554432 =
    number 33554432 (codes "3355443") (lit≤ tt) (lit< tt)
    (number 3355443 (codes "335544") (lit≤ tt) (lit< tt)
    (number 335544 (codes "33554") (lit≤ tt) (lit< tt) (number 33554 (codes "3355") (lit≤ tt) (lit< tt) number_3355)))

number_4194304 : decimal 4194304 ≡ codes "4194304"
number_4194304 =
    number 4194304 (codes "419430") (lit≤ tt) (lit< tt)
    (number 419430 (codes "41943") (lit≤ tt) (lit< tt)
    (number 41943 (codes "4194") (lit≤ tt) (lit< tt)
    (number 4194 (codes "419") (lit≤ tt) (lit< tt)
    (number 419 (codes "41") (lit≤ tt) (lit< tt) (number 41 (codes "4") (lit≤ tt) (lit< tt) (decimal_digit 4 (lit< tt)))))))

leaves_line : (most : ℕ) (word : List ℕ) → decimal most ≡ word → leaves_text most ≡ codes "finder: more than " ++ word ++ codes " leaves\n"
leaves_line most word is = ap (λ (number : List ℕ). codes "finder: more than " ++ number ++ codes " leaves\n") is

pub many_leaves_line : leaves_text 33554432 ≡ codes "finder: more than 33554432 leaves\n"
many_leaves_line = leaves_line 33554432 (codes "33554432") number_33554432

pub certificate_leaves_line : leaves_text 4194304 ≡ codes "finder: more than 4194304 leaves\n"
certificate_leaves_line = leaves_line 4194304 (codes "4194304") number_4194304

-- ---- numbers of the worked reports
pub number_0 : decimal 0 ≡ codes "0"
number_0 = decimal_digit 0 (lit< tt)

pub number_1 : decimal 1 ≡ codes "1"
number_1 = decimal_digit 1 (lit< tt)

pub number_2 : decimal 2 ≡ codes "2"
number_2 = decimal_digit 2 (lit< tt)

pub number_9 : decimal 9 ≡ codes "9"
number_9 = decimal_digit 9 (lit< tt)

pub number_10 : decimal 10 ≡ codes "10"
number_10 = number 10 (codes "1") (lit≤ tt) (lit< tt) number_1

pub number_40 : decimal 40 ≡ codes "40"
number_40 = number 40 (codes "4") (lit≤ tt) (lit< tt) (decimal_digit 4 (lit< tt))

pub set_line : query_text (codes "SET ") (relation_text Less) (record (search_in (codes "a")) { width = pos 60 })
    ≡ codes "SET coord target mercury second - observer ssb frame eq axis x values 0 relation less width 60 depth 40 cut half"
set_line = rw (number_60, number_40) refl

-- one span of either sort, whose lines are these
pub lines_of_two_spans : (sure possible : List ℕ) → sure ++ [] ++ (possible ++ []) ++ (codes "END sure " ++ decimal 1 ++ (codes " possible " ++ decimal 1 ++ codes "\n"))
    ≡ sure ++ possible ++ codes "END sure 1 possible 1\n"
lines_of_two_spans sure possible = λ i. append-nil sure i ++ append-nil possible i ++ (codes "END sure " ++ number_1 i ++ (codes " possible " ++ number_1 i ++ codes "\n"))

-- two windows, one certain and one undecided, whose lines are these, after this text
pub report_of_two_windows : (text certain undecided : List ℕ)
    → text ++ (certain ++ (undecided ++ [])) ++ (codes "END certain " ++ decimal 1 ++ (codes " undecided " ++ decimal 1 ++ codes "\n"))
    ≡ text ++ (certain ++ undecided) ++ codes "END certain 1 undecided 1\n"
report_of_two_windows text certain undecided = λ i.
    text ++ (certain ++ append-nil undecided i) ++ (codes "END certain " ++ number_1 i ++ (codes " undecided " ++ number_1 i ++ codes "\n"))

-- no window after this text
pub report_of_no_window : (text : List ℕ)
    → text ++ [] ++ (codes "END certain " ++ decimal 0 ++ (codes " undecided " ++ decimal 0 ++ codes "\n"))
    ≡ text ++ codes "END certain 0 undecided 0\n"
report_of_no_window text = λ i. append-nil text i ++ (codes "END certain " ++ number_0 i ++ (codes " undecided " ++ number_0 i ++ codes "\n"))

-- and a certificate of nine leaves
pub verified_without_window : (text : List ℕ)
    → text ++ [] ++ (codes "END certain " ++ decimal 0 ++ (codes " undecided " ++ decimal 0 ++ codes "\n")) ++ (codes "VERIFIED leaves " ++ decimal 9 ++ codes "\n")
    ≡ text ++ codes "END certain 0 undecided 0\n" ++ codes "VERIFIED leaves 9\n"
verified_without_window text = λ i. report_of_no_window text i ++ (codes "VERIFIED leaves " ++ number_9 i ++ codes "\n")
