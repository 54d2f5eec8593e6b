-- What is left of a file once its first bytes were read.
use Rattle.std.proofs.Common.{◌≡◌, ℕ, ◌+◌, ◌<◌, ◌≤◌, List, Option, None, Some, Result, Ok, Err, length, drop, take, ◌++◌, refl, sym, ap, ◌∙◌, subst, append-nil, append_assoc, arith, drop_at, length-take-le, take-add, take_all}
use Rattle.std.specs.Prelude.{IfOk, IfSome, IsSome, IsSomeAnd}
use Rattle.std.specs.Io.{ReadsAtMost}
use Rattle.std.specs.Io.KnownBytes.{Consumes, IsAtEnd, Keeps, ReadConsumes}
use Rattle.std.proofs.Math.Seq.{drop-append_seam, take-append_seam}
use Rattle.std.proofs.lemmas.List.{length-drop, take-append-le}
use Rattle.gf_edges.specs.Edges.{Files, Lacks, Opens, file_of}
use Rattle.spec_files.specs.Files.{HasLeft}
use Rattle.gf_files.specs.Read.{Grows}

left_in : (file before after : Option (List ℕ)) (read : List ℕ) (n : ℕ) → before ≡ file → IsSome before → Consumes before after read → length read ≡ n
    → IsSomeAnd file (λ bytes. after ≡ Some (drop n bytes))
left_in file None after read n is some took size = absurd (cc)
left_in file (Some xs) None read n is some took size = absurd took
left_in file (Some xs) (Some ys) read n is some took size =
    let rest : ys ≡ drop n xs =
    sym (drop-append_seam read ys) ∙ ap (λ (k : ℕ). drop k (read ++ ys)) size ∙ ap (λ (l : List ℕ). drop n l) (sym took) in
    rw (← is) (ap (λ (l : List ℕ). Some l) rest)

pub left_past : (files : Option Files) (name : List ℕ) (before after : Option (List ℕ)) (read : List ℕ) (n : ℕ) → Opens files name before
    → Consumes before after read → length read ≡ n → HasLeft files name n after
left_past None name before after read n opens took size = tt
left_past (Some told) name before after read n opens took size = left_in (file_of name told) before after read n opens.0 opens.1 took size

pub not_none : (left : Option (List ℕ)) → left ≡ None → IsSome left → ⊥
not_none None is some = absurd (cc)
not_none (Some bytes) is some = absurd (cc)

-- a file that is not there does not open
pub not_opened : (files : Option Files) (name : List ℕ) (left : Option (List ℕ)) → Opens files name left → Lacks files name → ⊥
not_opened None name left opens lacks = lacks
not_opened (Some told) name left opens lacks = not_none left (opens.0 ∙ lacks) opens.1

-- bytes are taken, and then more
pub consumes_more : (a b c : Option (List ℕ)) (xs ys : List ℕ) → Consumes a b xs → Consumes b c ys → Consumes a c (xs ++ ys)
consumes_more None b c xs ys first second = tt
consumes_more (Some a) None c xs ys first second = absurd first
consumes_more (Some a) (Some b) None xs ys first second = absurd second
consumes_more (Some a) (Some b) (Some c) xs ys first second = first ∙ ap (λ (l : List ℕ). xs ++ l) second ∙ sym (append_assoc xs ys c)

-- nothing is taken
pub kept : (a : Option (List ℕ)) → Keeps a a
kept None = tt
kept (Some xs) = refl

pub consumes_kept : (a b c : Option (List ℕ)) (xs : List ℕ) → Consumes a b xs → Keeps b c → Consumes a c xs
consumes_kept None b c xs taken same = tt
consumes_kept (Some a) None c xs taken same = absurd taken
consumes_kept (Some a) (Some b) None xs taken same = absurd same
consumes_kept (Some a) (Some b) (Some c) xs taken same = taken ∙ ap (λ (l : List ℕ). xs ++ l) (sym same)

-- bytes are taken up to the end
pub consumed_all : (a b : Option (List ℕ)) (xs : List ℕ) → Consumes a b xs → IsAtEnd b → IfSome a (λ left. left ≡ xs)
consumed_all None b xs taken end = tt
consumed_all (Some a) None xs taken end = absurd taken
consumed_all (Some a) (Some b) xs taken end = taken ∙ ap (λ (l : List ℕ). xs ++ l) end ∙ append-nil xs

-- what is read to a place stands after what stood before it
pub read_after : (text was now : List ℕ) (at count : ℕ) → take at now ≡ take at was → take at was ≡ text → take (at + count) now ≡ text ++ take count (drop at now)
read_after text was now at count same before = take-add at count now ∙ ap (λ (l : List ℕ). l ++ take count (drop at now)) (same ∙ before)

-- what is read into a part of bytes stands there among them
pub read_in_place : {E : Type 0} (before after : Option (List ℕ)) (result : Result ℕ E) (front part rest : List ℕ) (at : ℕ) → length front ≡ at → ReadsAtMost result part
    → ReadConsumes before after result part → IfOk result (λ count. Consumes before after (take count (drop at (front ++ (part ++ rest)))))
read_in_place before after (Ok count) front part rest at long fits read =
    subst (Consumes before after) (sym (ap (take count) (drop_at front (part ++ rest) at long) ∙ take-append-le count part rest fits.0)) read.0
read_in_place before after (Err e) front part rest at long fits read = tt

pub read_to_end : {E : Type 0} (before after : Option (List ℕ)) (result : Result ℕ E) (part : List ℕ) → 0 < length part → ReadConsumes before after result part
    → IfOk result (λ count. count ≡ 0 → IsAtEnd after)
read_to_end before after (Ok count) part some read = λ none. read.1 none some
read_to_end before after (Err e) part some read = tt

-- a text that is made longer begins with what it was
pub longer_begins : (text was tail : List ℕ) (at n : ℕ) → at ≡ length text → at ≤ n → was ≡ take n text ++ tail → take at was ≡ text
longer_begins text was tail at n at_is fits is =
    let all : length text ≤ n = omega (arith, at_is, fits) in
    ap (λ (l : List ℕ). take at l) (is ∙ ap (λ (l : List ℕ). l ++ tail) (take_all n text all)) ∙ ap (λ (k : ℕ). take k (text ++ tail)) at_is ∙ take-append_seam text tail

pub grows_by : (before after : Option (List ℕ)) (text was now : List ℕ) (at count : ℕ) → take at was ≡ text → take at now ≡ take at was → at + count ≤ length now
    → Consumes before after (take count (drop at now)) → Grows before after text (take (at + count) now) count
grows_by before after text was now at count begins same fits taken = record {
  read = take count (drop at now);
  taken = taken;
  is = read_after text was now at count same begins;
  size = length-take-le count (drop at now) (omega (arith, fits, length-drop at now));
}

pub grown_more : (a b c : Option (List ℕ)) (text new : List ℕ) (count : ℕ) → Consumes a b text → Grows b c text new count → Consumes a c new
grown_more a b c text new count taken grows = subst (Consumes a c) (sym grows.is) (consumes_more a b c text grows.read taken grows.taken)
