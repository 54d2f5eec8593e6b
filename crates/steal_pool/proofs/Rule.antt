-- Each kind of step keeps the rule.
use Rattle.std.proofs.Common.{◌≡◌, ℕ, ◌+◌, ◌<◌, List, [], ◌∷◌, ◌++◌, append_assoc, refl, sym, ap, ◌∙◌, subst, slice_set, sum_by, IsPermutation, Option, Some, None, MatchOption, arith}
use Rattle.std.specs.List.{AllByRecursion}
use Rattle.std.proofs.lemmas.List.{append-nil}
use Rattle.std.proofs.lemmas.List.Sorted.{sum_by-IsPermutation}
use Rattle.std.proofs.lemmas.List.Sums.{sum_by-append, sum_by-cons, sum_by_push}
use mathlib.Core.Option.{some}
use lib.ListN.{get_elem?}
use Rattle.spec_trees.specs.declared.tree.Node.{Node}
use Rattle.spec_trees.specs.Tree.{Rules, IsValid}
use Rattle.spec_pool.proofs.Finding.{nodes_summed}
use Rattle.spec_pool.proofs.Weights.{total_le, total_set}
use Rattle.crossbeam_deque.specs.Tasks.{Pushes, Takes, Finds, Forks, Merges}
use Rattle.steal_pool.specs.declared.view.DequeView.{DequeView}
use Rattle.steal_pool.specs.Rule.{Balanced, Fits, HasLeft, HasTaken, IsUsedUp, OwnerTakes, opening, spent, stealer_out, with_put, with_taken, made_one, joined_one}
use Rattle.steal_pool.proofs.Listing.{all_left, all_more, all_push, all_right, all_set}
use Rattle.steal_pool.proofs.Totals.{AllFit, fit_get, owner_only, owner_set, made_only, view_get}

-- what the owner put, in order, where its view is v
abbrev Ordered : List Node → List Node → DequeView → Type 0
Ordered gone items v = v.owner ≡ 1 → v.put ≡ gone ++ items

pub begins : (t : Rules) → Balanced t [] (opening ∷ [])
begins t = record {
  gone = [];
  order = (λ _. refl, tt);
  balance = λ h. omega (arith, sum_by-cons (λ (u : DequeView). sum_by h u.taken) opening []);
  valid = tt;
  one_owner = refl;
  counted = refl;
  fit = (record { put = λ _. refl; made = λ _. refl; taken = λ _. refl }, tt);
}

pub pushes : (t : Rules) (port : ℕ) (v : DequeView) (x : Node) → v.owner ≡ 1 → IsValid t x → Pushes (Balanced t) port v (x ∷ []) (λ w. w ≡ with_put v (x ∷ []))
pushes t port v x mine valid items views kept at = let w : DequeView = with_put v (x ∷ []) in (
  w,
  record {
    gone = kept.gone;
    order = owner_set (λ u. u.put ≡ kept.gone ++ (items ++ x ∷ [])) views port v w kept.one_owner at mine
        (ap (λ (l : List Node). l ++ x ∷ []) (view_get (Ordered kept.gone items) views port v at kept.order mine) ∙ append_assoc kept.gone items (x ∷ []));
    balance = λ h. omega (arith, kept.balance h, total_set (λ (u : DequeView). sum_by h u.taken) views port v w at);
    valid = all_push (IsValid t) items x kept.valid valid;
    one_owner = omega (arith, kept.one_owner, total_set (λ (u : DequeView). u.owner) views port v w at);
    counted = omega (arith, kept.counted, total_set (λ (u : DequeView). u.out) views port v w at, total_set (λ (u : DequeView). u.made) views port v w at);
    fit = all_set Fits views port w (record { put = λ z. absurd (omega arith); made = λ z. absurd (omega arith); taken = λ z. absurd (omega arith) }) kept.fit;
  },
  refl,
)

pub takes : (t : Rules) (port : ℕ) (v : DequeView) → 0 < v.owner + v.out → Takes (Balanced t) port v 1 (HasTaken t v)
takes t port v may xs items views least most kept at =
    let w : DequeView = with_taken v xs in
    let f = fit_get views port v at kept.fit in
    let order : AllByRecursion (Ordered (kept.gone ++ xs) items) views = all_more (Ordered kept.gone (xs ++ items)) (Ordered (kept.gone ++ xs) items) views (λ u p mine. p mine ∙ sym (append_assoc kept.gone xs items)) kept.order in (
      w,
      record {
        gone = kept.gone ++ xs;
        order = all_set (Ordered (kept.gone ++ xs) items) views port w (view_get (Ordered (kept.gone ++ xs) items) views port v at order) order;
        balance = λ h. omega (
          arith,
          kept.balance h,
          total_set (λ (u : DequeView). sum_by h u.taken) views port v w at,
          sum_by-append h v.taken xs,
          sum_by-append h kept.gone xs,
        );
        valid = all_right (IsValid t) xs items kept.valid;
        one_owner = omega (arith, kept.one_owner, total_set (λ (u : DequeView). u.owner) views port v w at);
        counted = omega (arith, kept.counted, total_set (λ (u : DequeView). u.out) views port v w at, total_set (λ (u : DequeView). u.made) views port v w at);
        fit = all_set Fits views port w (record { put = f.put; made = f.made; taken = λ z. absurd (omega arith) }) kept.fit;
      },
      (refl, all_left (IsValid t) xs items kept.valid),
    )

-- where no stealer is out, what is gone is what the owner took, and what the deque holds is what was put after it
gone_taken : (t : Rules) (port : ℕ) (v : DequeView) → v.owner ≡ 1 → (items : List Node) (views : List DequeView) (kept : Balanced t items views) → get_elem? views port ≡ some v → v.made ≡ 0 → IsPermutation kept.gone v.taken
gone_taken t port v mine items views kept at none =
    let out : sum_by (λ (u : DequeView). u.out) views ≡ 0 = omega (arith, none, kept.counted, made_only views port v kept.fit kept.one_owner at mine) in
    nodes_summed kept.gone v.taken (λ h. omega (
      arith,
      kept.balance h,
      owner_only (λ (u : DequeView). sum_by h u.taken) views port v (λ u f o p. ap (sum_by h) (f.taken (omega arith))) kept.fit kept.one_owner out at mine,
    ))

-- the owner takes what was put first of what is left
pub owner_takes : (t : Rules) (port : ℕ) (v : DequeView) → v.owner ≡ 1 → Takes (Balanced t) port v 1 (OwnerTakes t v)
owner_takes t port v mine xs items views least most kept at =
    let one = takes t port v (omega (arith, mine)) xs items views least most kept at in (
      one.0,
      one.1,
      (
        one.2,
        (
          kept.gone,
          items,
          view_get (Ordered kept.gone (xs ++ items)) views port v at kept.order mine,
          (λ h. omega (arith, kept.balance h, total_le (λ (u : DequeView). sum_by h u.taken) views port v at)),
          gone_taken t port v mine (xs ++ items) views kept at,
        ),
      ),
    )

pub finds : (t : Rules) (port : ℕ) (v : DequeView) → v.owner ≡ 1 → Finds (Balanced t) port v (IsUsedUp v)
finds t port v mine views kept at none =
    let order : v.put ≡ kept.gone = view_get (Ordered kept.gone []) views port v at kept.order mine ∙ append-nil kept.gone in
    subst (λ (l : List Node). IsPermutation l v.taken) (sym order) (gone_taken t port v mine [] views kept at none)

-- what is left after a pop
pub none_left : (v : DequeView) → IsUsedUp v → HasLeft v
none_left v used none = ([], (v.put, sym (append-nil v.put), used none))

pub pop_left : (t : Rules) (r : Option Node) (v w : DequeView) → MatchOption r ((w ≡ v) × IsUsedUp v) (λ n. OwnerTakes t v (n ∷ []) w) → HasLeft v
pop_left t None v w rule = none_left v rule.1
pop_left t (Some n) v w (took, (gone, later, order, within, same)) = λ none. (n ∷ later, (gone, order, same none))

pub left_permuted : (v : DequeView) → HasLeft v → v.made ≡ 0 → (left : List Node) × IsPermutation v.put (v.taken ++ left)
left_permuted v has none = let (left, (gone, order, same)) = has none in (
  left,
  nodes_summed v.put (v.taken ++ left) (λ h. omega (
    arith,
    ap (sum_by h) order,
    sum_by-append h gone left,
    sum_by-append h v.taken left,
    sum_by-IsPermutation h gone v.taken same,
  )),
)

pub forks : (t : Rules) (port : ℕ) (v : DequeView) → v.owner ≡ 1 → Forks (Balanced t) port v (made_one v) stealer_out
forks t port v mine items views kept at =
    let l : DequeView = made_one v in
    let r : DequeView = stealer_out in
    let vs : List DequeView = slice_set views port l in record {
      gone = kept.gone;
      order = all_push (Ordered kept.gone items) vs r
          (all_set (Ordered kept.gone items) views port l (view_get (Ordered kept.gone items) views port v at kept.order) kept.order)
          (λ z. absurd (omega (arith, z)));
      balance = λ h. omega (
        arith,
        kept.balance h,
        total_set (λ (u : DequeView). sum_by h u.taken) views port v l at,
        sum_by_push (λ (u : DequeView). sum_by h u.taken) vs r,
      );
      valid = kept.valid;
      one_owner = omega (arith, kept.one_owner, total_set (λ (u : DequeView). u.owner) views port v l at, sum_by_push (λ (u : DequeView). u.owner) vs r);
      counted = omega (
        arith,
        kept.counted,
        total_set (λ (u : DequeView). u.out) views port v l at,
        total_set (λ (u : DequeView). u.made) views port v l at,
        sum_by_push (λ (u : DequeView). u.out) vs r,
        sum_by_push (λ (u : DequeView). u.made) vs r,
      );
      fit = all_push Fits vs r
          (all_set Fits views port l (record { put = λ z. absurd (omega arith); made = λ z. absurd (omega arith); taken = λ z. absurd (omega arith) }) kept.fit)
          (record { put = λ z. refl; made = λ z. refl; taken = λ z. absurd (omega arith) });
    }

pub merges : (t : Rules) (port : ℕ) (v : DequeView) (other : ℕ) (u : DequeView) → v.owner ≡ 1 → u.owner ≡ 0 → u.out ≡ 1 → 0 < v.made → Merges (Balanced t) port v other u (joined_one v u) spent
merges t port v other u mine theirs out made items views kept at apart at' =
    let w : DequeView = joined_one v u in
    let vs : List DequeView = slice_set views port w in
    let fits : AllFit vs = all_set Fits views port w (record { put = λ z. absurd (omega arith); made = λ z. absurd (omega arith); taken = λ z. absurd (omega arith) }) kept.fit in
    let f = fit_get vs other u at' fits in record {
      gone = kept.gone;
      order = all_set (Ordered kept.gone items) vs other spent (λ z. absurd (omega (arith, z)))
          (all_set (Ordered kept.gone items) views port w (view_get (Ordered kept.gone items) views port v at kept.order) kept.order);
      balance = λ h. omega (
        arith,
        kept.balance h,
        total_set (λ (x : DequeView). sum_by h x.taken) views port v w at,
        total_set (λ (x : DequeView). sum_by h x.taken) vs other u spent at',
        sum_by-append h v.taken u.taken,
      );
      valid = kept.valid;
      one_owner = omega (arith, kept.one_owner, total_set (λ (x : DequeView). x.owner) views port v w at, total_set (λ (x : DequeView). x.owner) vs other u spent at');
      counted = omega (
        arith,
        kept.counted,
        f.made theirs,
        total_set (λ (x : DequeView). x.out) views port v w at,
        total_set (λ (x : DequeView). x.made) views port v w at,
        total_set (λ (x : DequeView). x.out) vs other u spent at',
        total_set (λ (x : DequeView). x.made) vs other u spent at',
      );
      fit = all_set Fits vs other spent (record { put = λ z. refl; made = λ z. refl; taken = λ z. refl }) fits;
    }
