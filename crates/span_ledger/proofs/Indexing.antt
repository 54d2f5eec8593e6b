-- What the book keeps stays right as an entry is added.
use Rattle.std.proofs.Common.{◌≡◌, ◌≢◌, ◌⊎◌, ⊎_elim, inl, inr, ℕ, zero, suc, ◌+◌, ◌^◌, ◌<◌, ◌≤◌, ◌==◌, ℤ, true, false, List, [], ◌∷◌, ◌++◌, length, Option, Some, None, refl, sym, ap, ◌∙◌, subst, slice_set, slice_index_or, length-append, arith}
use Rattle.std.proofs.lemmas.List.{get_or-set_same, get_or-set_other, get_or-replicate, length-set, length-replicate}
use native.Mathlib.Decide.{ℕ_discrete}
use Rattle.std.specs.Prelude.{IfSome, IfNone, replicate, take, ◌-◌}
use Rattle.std.specs.Map.{lookup}
use Rattle.std.specs.Option.{unwrap_or}
use Rattle.std.proofs.lemmas.Bool.Decides.{nat_tests}
use Rattle.std.proofs.lemmas.Map.Lookups.{CmpEqualImpliesEq, exact_unsigned, exact_signed, exact_pairs}
use Rattle.std.specs.declared.cmp.Ordering.{Ordering}
use Rattle.std.specs.declared.cmp.Ordering.TheVariants.{Less, Equal, Greater}
use Rattle.std.specs.Ordering.{ordering_then, int_cmp, nat_cmp, is_eq}
use Rattle.std.specs.BTreeMap.{BTreeMap, get, is_at, Updates}
use mathlib.Core.Option as O
use lib.ListN.{get_elem?}
use Rattle.atomic_table.proofs.Lists.{at_longer, at_last}
use Rattle.spec_trees.specs.declared.tree.Leaf.{Leaf}
use Rattle.spec_trees.specs.declared.tree.Mark.{Mark}
use Rattle.spec_trees.specs.declared.tree.Mark.TheVariants.{Clear, One, Undecided}
use Rattle.spec_trees.specs.declared.tree.Turn.TheVariants.{Rise, Fall}
use Rattle.spec_trees.specs.declared.book.Booked.{Booked}
use Rattle.spec_pool.specs.History.{by_seat, Fresh, Stands, width_of, widths}
use Rattle.spec_pool.specs.Marks.{mark_number}
use Rattle.span_ledger.specs.Indexes.{Key, key_cmp, key_of, Registered}
use Rattle.span_ledger.proofs.Views.{by_seat-append, by_own, by_other}

-- the order tells all keys apart
exact : CmpEqualImpliesEq key_cmp
exact = exact_pairs (λ (x y : ℤ × ℤ). ordering_then (int_cmp x.0 y.0) (int_cmp x.1 y.1)) (λ (x y : ℕ × ℕ). ordering_then (nat_cmp x.0 y.0) (nat_cmp x.1 y.1))
    (exact_pairs int_cmp int_cmp exact_signed exact_signed) (exact_pairs nat_cmp nat_cmp exact_unsigned exact_unsigned)

differ : (x y : Key) (o : Ordering) → key_cmp x y ≡ o → x ≢ y → is_eq (key_cmp x y) ≡ false
differ x y Less e n = ap is_eq e
differ x y Equal e n = absurd (n (exact x y e))
differ x y Greater e n = ap is_eq e

mark_at : ℕ → Mark
mark_at zero = Clear
mark_at (suc zero) = One Rise
mark_at (suc (suc zero)) = One Fall
mark_at (suc (suc (suc k))) = Undecided

mark_back : (m : Mark) → mark_at (mark_number m) ≡ m
unfolding mark_at
mark_back Clear = refl
mark_back (One Rise) = refl
mark_back (One Fall) = refl
mark_back Undecided = refl

leaf_at : Key → Leaf
leaf_at k = record { node = record { a = k.0.0; b = k.0.1; depth = k.1.0 }; mark = mark_at k.1.1 }

leaf_back : (l : Leaf) → leaf_at (key_of l) ≡ l
unfolding leaf_at
leaf_back l = λ i. record { node = l.node; mark = mark_back l.mark i }

pub key_apart : (l m : Leaf) → key_of l ≡ key_of m → l ≡ m
key_apart l m e = sym (leaf_back l) ∙ (ap leaf_at e ∙ leaf_back m)

module _ {A : Type 0} where
  pub at_end : (l : List A) (a b : A) (j : ℕ) → get_elem? (l ++ a ∷ []) j ≡ O.some b → (get_elem? l j ≡ O.some b) ⊎ ((j ≡ length l) × (a ≡ b))
  at_end [] a b zero e = inr (refl, O.some-injective a b e)
  at_end [] a b (suc j) e = absurd (O.some-ne-none b (sym e))
  at_end (x ∷ xs) a b zero e = inl e
  at_end (x ∷ xs) a b (suc j) e = ⊎_elim (λ t. inl t) (λ t. inr (ap suc t.0, t.1)) (at_end xs a b j e)

  pub some_same : (o : Option A) (a b : A) → o ≡ Some a → o ≡ Some b → a ≡ b
  some_same o a b p q = cc (p, q)

taken : (xs ys : List Booked) → take (length xs) (xs ++ ys) ≡ xs
taken [] ys = refl
taken (x ∷ xs) ys = ap (λ (l : List Booked). x ∷ l) (taken xs ys)

pub widths-append : (xs ys : List Booked) → widths (xs ++ ys) ≡ widths xs + widths ys
widths-append [] ys = omega arith
widths-append (x ∷ xs) ys = omega (arith, widths-append xs ys)

back_by : (log : List Booked) (m m' : BTreeMap Key ℕ) (e : Booked) (q : Key) (i : ℕ) (o : Ordering) → key_cmp (key_of e.leaf) q ≡ o
    → ((q : Key) (i : ℕ) → get key_cmp m q ≡ Some i → (f : Booked) × (get_elem? log i ≡ O.some f) × (key_of f.leaf ≡ q))
    → Updates key_cmp m m' (key_of e.leaf) (Some (length log)) → get key_cmp m' q ≡ Some i
    → (f : Booked) × (get_elem? (log ++ e ∷ []) i ≡ O.some f) × (key_of f.leaf ≡ q)
back_by log m m' e q i Equal c back u h =
    let same : key_of e.leaf ≡ q = exact (key_of e.leaf) q c in
    let here : get key_cmp m' q ≡ Some (length log) = subst (λ (k : Key). get key_cmp m' k ≡ Some (length log)) same u.1 in
    let last : length log ≡ i = some_same (get key_cmp m' q) (length log) i here h in
    (e, at_last log e i last, same)
back_by log m m' e q i Less c back u h = let f = back q i (sym (u.2 q (ap is_eq c)) ∙ h) in (f.0, at_longer log (e ∷ []) i f.0 f.1, f.2)
back_by log m m' e q i Greater c back u h = let f = back q i (sym (u.2 q (ap is_eq c)) ∙ h) in (f.0, at_longer log (e ∷ []) i f.0 f.1, f.2)

count_there : (counts : List ℕ) (log : List Booked) (e : Booked) (k : ℕ) → e.seat < length counts → slice_index_or counts k 0 ≡ length (by_seat k log) → Dec (k ≡ e.seat)
    → slice_index_or (slice_set counts e.seat (slice_index_or counts e.seat 0 + 1)) k 0 ≡ length (by_seat k (log ++ e ∷ []))
count_there counts log e k small is (yes same) =
    let own : e.seat ≡ k = sym same in
    let one : length (by_seat k (e ∷ [])) ≡ 1 = ap length (by_own k e own) in
    let all : length (by_seat k (log ++ e ∷ [])) ≡ length (by_seat k log) + length (by_seat k (e ∷ [])) = ap length (by_seat-append k log (e ∷ [])) ∙ length-append (by_seat k log) (by_seat k (e ∷ [])) in
    let now = get_or-set_same counts e.seat (slice_index_or counts e.seat 0 + 1) 0 small in
    subst (λ (j : ℕ). slice_index_or (slice_set counts e.seat (slice_index_or counts e.seat 0 + 1)) j 0 ≡ length (by_seat k (log ++ e ∷ []))) own
    (now ∙ (ap (λ (j : ℕ). slice_index_or counts j 0 + 1) own ∙ omega (arith, is, one, all)))
count_there counts log e k small is (no other) =
    let none : length (by_seat k (e ∷ [])) ≡ 0 = ap length (by_other k e (λ z. other (sym z))) in
    let all : length (by_seat k (log ++ e ∷ [])) ≡ length (by_seat k log) + length (by_seat k (e ∷ [])) = ap length (by_seat-append k log (e ∷ [])) ∙ length-append (by_seat k log) (by_seat k (e ∷ [])) in
    get_or-set_other counts e.seat k (slice_index_or counts e.seat 0 + 1) 0 other ∙ omega (arith, is, none, all)

pub adds : (log : List Booked) (m m' : BTreeMap Key ℕ) (w v : ℕ) (counts : List ℕ) (e : Booked) → Registered log m w counts → Fresh e.leaf log → Updates key_cmp m m' (key_of e.leaf) (Some (length log))
    → v ≡ width_of e → v ≤ 2 ^ 64 → e.seat < 64 → Registered (log ++ e ∷ []) m' (w + v) (slice_set counts e.seat (slice_index_or counts e.seat 0 + 1))
adds log m m' w v counts e s fresh u is wide small =
    let one : widths (e ∷ []) ≡ width_of e = omega arith in
    let more : length (log ++ e ∷ []) ≡ length log + 1 = length-append log (e ∷ []) in
    record {
      at = λ i f g. ⊎_elim
          (λ (old : get_elem? log i ≡ O.some f). u.2 (key_of f.leaf) (differ (key_of e.leaf) (key_of f.leaf) _ refl (λ z. fresh i f old (sym (key_apart e.leaf f.leaf z)))) ∙ s.at i f old)
          (λ (last : (i ≡ length log) × (e ≡ f)). ap (λ (b : Booked). get key_cmp m' (key_of b.leaf)) (sym last.1) ∙ (u.1 ∙ ap Some (sym last.0)))
          (at_end log e f i g);
      back = λ q i h. back_by log m m' e q i _ refl s.back u h;
      width_is = omega (arith, s.width_is, is, one, widths-append log (e ∷ []));
      low = omega (arith, s.low, is, wide, one, more, widths-append log (e ∷ []));
      seats = length-set counts e.seat (slice_index_or counts e.seat 0 + 1) ∙ s.seats;
      counted = λ k below. count_there counts log e k (omega (arith, s.seats, small)) (s.counted k below) (ℕ_discrete k e.seat);
    }

pub begins : (log : List Booked) (m : BTreeMap Key ℕ) (counts : List ℕ) → log ≡ [] → m.entries ≡ [] → counts ≡ replicate 64 0 → Registered log m 0 counts
begins log m counts none empty zeros =
    let nothing : (q : Key) → get key_cmp m q ≡ None = λ q. ap (lookup (is_at (key_cmp q))) empty in
    subst (λ (l : List Booked). Registered l m 0 counts) (sym none) (record {
      at = λ i f g. absurd (O.some-ne-none f (sym g));
      back = λ q i h. let no : None ≡ Some i = sym (nothing q) ∙ h in absurd cc;
      width_is = refl;
      low = omega arith;
      seats = ap length zeros ∙ length-replicate {A = ℕ} 64 0;
      counted = λ k below. ap (λ (c : List ℕ). slice_index_or c k 0) zeros ∙ get_or-replicate 64 k 0 0 below;
    })

-- a map that answers the same, or has the same entries
stays_by : (log log' : List Booked) (m m' : BTreeMap Key ℕ) (w : ℕ) (counts : List ℕ) → log' ≡ log → ((q : Key) → get key_cmp m' q ≡ get key_cmp m q) → Registered log m w counts → Registered log' m' w counts
stays_by log log' m m' w counts same answers s =
    subst (λ (l : List Booked). Registered l m' w counts) (sym same) (record {
      at = λ i f g. answers (key_of f.leaf) ∙ s.at i f g;
      back = λ q i h. s.back q i (sym (answers q) ∙ h);
      width_is = s.width_is;
      low = s.low;
      seats = s.seats;
      counted = s.counted;
    })

pub stays : (log log' : List Booked) (m m' : BTreeMap Key ℕ) (w : ℕ) (counts : List ℕ) → log' ≡ log → m'.entries ≡ m.entries → Registered log m w counts → Registered log' m' w counts
stays log log' m m' w counts same entries s = stays_by log log' m m' w counts same (λ q. ap (lookup (is_at (key_cmp q))) entries) s

-- what the index answers for a leaf
pub found : (log : List Booked) (m : BTreeMap Key ℕ) (w : ℕ) (counts : List ℕ) (l : Leaf) (r : Option ℕ) → Registered log m w counts → r ≡ get key_cmp m (key_of l) → IfSome r (λ p. Stands l log p)
found log m w counts l (Some p) s e = let f = s.back (key_of l) p (sym e) in (f.0, f.1, key_apart f.0.leaf l f.2)
found log m w counts l None s e = tt

pub missing : (log : List Booked) (m : BTreeMap Key ℕ) (w : ℕ) (counts : List ℕ) (l : Leaf) (r : Option ℕ) → Registered log m w counts → r ≡ get key_cmp m (key_of l) → IfNone r (Fresh l log)
missing log m w counts l None s e = λ i f g same. let no : None ≡ Some i = e ∙ (ap (λ (x : Leaf). get key_cmp m (key_of x)) (sym same) ∙ s.at i f g) in absurd cc
missing log m w counts l (Some p) s e = tt

pub same_at : (q : Key) (o : Option ℕ) (es es' : List (Key × ℕ)) → lookup (is_at (key_cmp q)) es ≡ o → es' ≡ es → lookup (is_at (key_cmp q)) es' ≡ o
same_at q o es es' is same = ap (lookup (is_at (key_cmp q))) same ∙ is

-- a key that was asked with place n to be given it: where the answer is another place, the leaf stands there and the
-- index answers as before; where it is n, which lies behind all entries, the leaf is new
there : (o : Option ℕ) (v n : ℕ) → v ≡ unwrap_or o n → v ≢ n → o ≡ Some v
there (Some p) v n is other = ap Some (sym is)
there None v n is other = absurd (other is)

answers_by : (m m' : BTreeMap Key ℕ) (k q : Key) (v : ℕ) (o : Ordering) → key_cmp k q ≡ o → get key_cmp m k ≡ Some v → Updates key_cmp m m' k (Some v) → get key_cmp m' q ≡ get key_cmp m q
answers_by m m' k q v Equal c has u = subst (λ (x : Key). get key_cmp m' x ≡ get key_cmp m x) (exact k q c) (u.1 ∙ sym has)
answers_by m m' k q v Less c has u = u.2 q (ap is_eq c)
answers_by m m' k q v Greater c has u = u.2 q (ap is_eq c)

pub stays_there : (log log' : List Booked) (m m' : BTreeMap Key ℕ) (w : ℕ) (counts : List ℕ) (k : Key) (v n : ℕ) → log' ≡ log → v ≡ unwrap_or (get key_cmp m k) n → v ≢ n → Updates key_cmp m m' k (Some v) → Registered log m w counts → Registered log' m' w counts
stays_there log log' m m' w counts k v n same is other u s = stays_by log log' m m' w counts same (λ q. answers_by m m' k q v _ refl (there _ v n is other) u) s

pub stands_there : (log : List Booked) (m : BTreeMap Key ℕ) (w : ℕ) (counts : List ℕ) (l : Leaf) (k : Key) (v n : ℕ) → Registered log m w counts → k ≡ key_of l → v ≡ unwrap_or (get key_cmp m k) n → v ≢ n → Stands l log v
stands_there log m w counts l k v n s key is other =
    let f = s.back k v (there _ v n is other) in
    (f.0, f.1, key_apart f.0.leaf l (f.2 ∙ key))

within : (log : List Booked) (e : Booked) (i : ℕ) → get_elem? log i ≡ O.some e → i < length log
within [] e i at = absurd (O.some-ne-none e (sym at))
within (x ∷ xs) e zero at = omega arith
within (x ∷ xs) e (suc i) at = omega (arith, within xs e i at)

new_by : (log : List Booked) (m : BTreeMap Key ℕ) (w : ℕ) (counts : List ℕ) (l : Leaf) (v n : ℕ) (o : Option ℕ) → Registered log m w counts → o ≡ get key_cmp m (key_of l) → v ≡ unwrap_or o n → v ≡ n → n ≡ length log → Fresh l log
new_by log m w counts l v n None s e is same end = missing log m w counts l None s e
new_by log m w counts l v n (Some p) s e is same end = let f = s.back (key_of l) p (sym e) in absurd (omega (arith, within log f.0 p f.1, is, same, end))

pub new_there : (log : List Booked) (m : BTreeMap Key ℕ) (w : ℕ) (counts : List ℕ) (l : Leaf) (k : Key) (v n : ℕ) → Registered log m w counts → k ≡ key_of l → v ≡ unwrap_or (get key_cmp m k) n → v ≡ n → n ≡ length log → Fresh l log
new_there log m w counts l k v n s key is same end = new_by log m w counts l v n _ s refl (subst (λ (x : Key). v ≡ unwrap_or (get key_cmp m x) n) key is) same end

few_by : (k : ℕ) (e : Booked) (es : List Booked) → Dec (e.seat ≡ k) → length (by_seat k es) ≤ length es → length (by_seat k (e ∷ es)) ≤ length (e ∷ es)
few_by k e es (yes own) h = let t : (e.seat == k) ≡ true = grind (arith, nat_tests) in rw t (omega (arith, h))
few_by k e es (no other) h = let t : (e.seat == k) ≡ false = grind (arith, nat_tests) in rw t (omega (arith, h))

few : (k : ℕ) (log : List Booked) → length (by_seat k log) ≤ length log
few k [] = omega arith
few k (e ∷ es) = few_by k e es (ℕ_discrete e.seat k) (few k es)

pub room : (log : List Booked) (m : BTreeMap Key ℕ) (w : ℕ) (counts : List ℕ) (k : ℕ) → Registered log m w counts → k < 64 → slice_index_or counts k 0 ≤ length log
room log m w counts k s small = omega (arith, s.counted k small, few k log)

-- the same, as the calls tell it
pub adds_from : (log log' : List Booked) (m m' : BTreeMap Key ℕ) (w v : ℕ) (counts : List ℕ) (e : Booked) (k : Key) (n : ℕ) → Registered log m w counts → Fresh e.leaf log → log' ≡ log ++ e ∷ [] → k ≡ key_of e.leaf → n ≡ length log
    → Updates key_cmp m m' k (Some n) → v ≡ width_of e → v ≤ 2 ^ 64 → e.seat < 64 → Registered log' m' (w + v) (slice_set counts e.seat (slice_index_or counts e.seat 0 + 1))
adds_from log log' m m' w v counts e k n s fresh more key len u is wide small =
    subst (λ (l : List Booked). Registered l m' (w + v) (slice_set counts e.seat (slice_index_or counts e.seat 0 + 1))) (sym more)
    (adds log m m' w v counts e s fresh (subst (λ (x : Key × ℕ). Updates key_cmp m m' x.0 (Some x.1)) (λ i. (key i, len i)) u) is wide small)

pub popped : (old mid new : List Booked) (e : Booked) (k : ℕ) → mid ≡ old ++ e ∷ [] → k ≡ length mid → new ≡ take (k - 1) mid → new ≡ old
popped old mid new e k more len rest =
    let n : k - 1 ≡ length old = let l : length mid ≡ length old + 1 = ap length more ∙ length-append old (e ∷ []) in omega (arith, l, len) in
    rest ∙ (ap (λ (j : ℕ). take j mid) n ∙ (ap (λ (l : List Booked). take (length old) l) more ∙ taken old (e ∷ [])))
