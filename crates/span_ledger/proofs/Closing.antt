-- What a list of seats keeps while they are joined.
use Rattle.std.proofs.Common.{◌≡◌, ℕ, ◌+◌, List, [], ◌∷◌, ◌++◌, length, Option, Some, None, refl, sym, ap, ◌∙◌, subst, length-append, arith}
use Rattle.std.proofs.lemmas.List.Elements.{All-push}
use Rattle.std.specs.List.{All}
use Rattle.std.specs.Prelude.{IfNone}
use mathlib.Core.Option as M
use lib.ListN.{get_elem?}
use Rattle.atomic_table.specs.Table.{Final, Seen, rest}
use Rattle.spec_trees.specs.declared.book.Booked.{Booked}
use Rattle.span_ledger.specs.declared.desk.LedgerSeat.{LedgerSeat}
use Rattle.spec_pool.specs.declared.ledger.SeatHistory.{SeatHistory}
use Rattle.span_ledger.specs.declared.ledger.SeatView.{SeatView}
use Rattle.spec_pool.specs.declared.ledger.LedgerTerms.{LedgerTerms}
use Rattle.spec_pool.specs.History.{FitsPart, EachFits, Sound}
use Rattle.span_ledger.specs.Rule.{the_part, joined, Kept, Sat}
use Rattle.span_ledger.proofs.Moves.{first_fits}
use Rattle.span_ledger.proofs.Indexing.{some_same}
use Rattle.span_ledger.proofs.Seats.{single, ends}

abbrev pub Known : List Booked → LedgerSeat → Type 0
Known log s = FitsPart log (the_part s.raw.me.0.parts)

pub nothing : {A : Type 0} (xs : List A) → length xs ≡ 0 → xs ≡ []
nothing [] e = refl
nothing (x ∷ xs) e = absurd (omega (arith, e))

pub one_more : {A : Type 0} (old new : List A) (x : A) → old ≡ new ++ x ∷ [] → length old ≡ length new + 1
one_more old new x e = ap length e ∙ length-append new (x ∷ [])

each_split : (log : List Booked) (ps qs : List SeatHistory) → EachFits log (ps ++ qs) → EachFits log ps × EachFits log qs
each_split log [] qs f = (tt, f)
each_split log (p ∷ ps) qs f = let g = each_split log ps qs f.1 in ((f.0, g.0), g.1)

-- one more seat is known where its parts fit
pub known_more : (old new : List LedgerSeat) (s : LedgerSeat) (log : List Booked) → old ≡ new ++ s ∷ [] → EachFits log s.raw.me.0.parts → All (Known log) new → All (Known log) old
known_more old new s log e f rest = subst (All (Known log)) (sym e) (All-push (Known log) new s rest (first_fits log s.raw.me.0 (the_part s.raw.me.0.parts) (single s.raw.me.0.parts s.one) f))

pub known_joined : (old new : List LedgerSeat) (s : LedgerSeat) (v w : SeatView) (log : List Booked) → old ≡ new ++ s ∷ [] → w ≡ joined v s.raw.me.0 → EachFits log w.parts → All (Known log) new → EachFits log v.parts × All (Known log) old
known_joined old new s v w log e is f rest =
    let g = each_split log v.parts s.raw.me.0.parts (subst (λ (x : SeatView). EachFits log x.parts) is f) in
    (g.0, known_more old new s log e g.1 rest)

pub joined_length : (v w x : SeatView) → x ≡ joined v w → length x.parts ≡ length v.parts + length w.parts
joined_length v w x is = ap (λ (y : SeatView). length y.parts) is ∙ length-append v.parts w.parts

pub none_known : (log : List Booked) (xs : List LedgerSeat) → length xs ≡ 0 → All (Known log) xs
none_known log xs e k d below = absurd (omega (arith, e, below))

some_apart : {A : Type 0} (o : M.Option (Option A)) (r : Option A) (a : A) → o ≡ M.some r → o ≡ M.some (Some a) → r ≡ Some a
some_apart o r a e f = M.some-injective r (Some a) (sym e ∙ f)

-- the book that is found is the whole history
pub found_whole : (t : LedgerTerms) (id : ℕ) (v : SeatView) (ws : List ℕ) (xs : List (Option (List Booked))) (r : Option (List Booked)) → v.holds ≡ 0 → length v.parts ≡ t.seats → Final (Seen (Kept t) id v) ws xs → get_elem? xs 0 ≡ M.some r
    → (log : List Booked) × (r ≡ Some log) × Sound t log × EachFits log v.parts
found_whole t id v ws xs r idle all f e = let x = ends t id v ws xs idle all f in (x.0, some_apart (get_elem? xs 0) r x.0 e x.1, x.2, x.3)

pub whole : (t : LedgerTerms) (v : SeatView) (r : Option (List Booked)) (book : List Booked) (x : (log : List Booked) × (r ≡ Some log) × Sound t log × EachFits log v.parts) → r ≡ Some book → Sound t book × EachFits book v.parts
whole t v r book x e = let same : x.0 ≡ book = some_same r x.0 book x.1 e in subst (λ (l : List Booked). Sound t l × EachFits l v.parts) same (x.2, x.3)

pub if_none : {A P : Type 0} (o : Option A) → o ≡ None → IfNone o P → P
if_none {A} {P} o is p = subst (λ (r : Option A). IfNone r P) is p

-- the book that a seat finds is the history, and what it holds once it has put a book back
slot_of : List (ℕ × Option (List Booked)) → Option (List Booked)
slot_of [] = None
slot_of (x ∷ xs) = x.1

same_slot : (xs ys : List (ℕ × Option (List Booked))) (a b : Option (List Booked)) (k : ℕ) → xs ≡ (k, a) ∷ [] → xs ≡ (k, b) ∷ ys → a ≡ b
unfolding slot_of
same_slot xs ys a b k p q = ap slot_of (sym p ∙ q)

pub one_taken : (xs : List (ℕ × Option (List Booked))) (log : List Booked) → xs ≡ (0, Some log) ∷ [] → xs ≡ (0, Some log) ∷ rest xs
one_taken xs log is = is ∙ ap (λ (r : List (ℕ × Option (List Booked))). (0, Some log) ∷ r) (sym (ap rest is))

pub found_book : (xs : List (ℕ × Option (List Booked))) (log : List Booked) (found : Option (List Booked)) (book : List Booked) → xs ≡ (0, Some log) ∷ [] → xs ≡ (0, found) ∷ rest xs → found ≡ Some book → book ≡ log
found_book xs log found book held is some_book = let at : Some log ≡ found = same_slot xs (rest xs) (Some log) found 0 held is in cc (at, some_book)

pub after_put : (m m' m'' : Sat) (log book' : List Booked) → m.1 ≡ (0, Some log) ∷ [] → m' ≡ (m.0, (0, None) ∷ rest m.1) → m'' ≡ (m'.0, (0, Some book') ∷ rest m'.1) → m'' ≡ (m.0, (0, Some book') ∷ [])
after_put m m' m'' log book' held first second =
    let view : m'.0 ≡ m.0 = ap (λ (x : Sat). x.0) first in
    let slots : rest m'.1 ≡ [] = ap (λ (x : Sat). rest x.1) first ∙ ap rest held in
    second ∙ (λ i. (view i, (0, Some book') ∷ slots i))
