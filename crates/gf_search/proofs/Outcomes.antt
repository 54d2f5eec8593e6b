-- What a search of a query finds, and what stops it.
use Rattle.std.proofs.Common.{◌≡◌, ◌⊎◌, ◌∙◌, ◌<◌, ◌≤◌, ℕ, None, List, Result, Ok, Err, true, refl, sym, ap, subst, inl, inr}
use Rattle.std.specs.Prelude.{IfErr, IfOk, Vec}
use Rattle.std.specs.declared.alloc.Global.{Global}
use Rattle.spec_ephemeris.specs.Ephemeris.{Ephemeris, IsEphemeris}
use Rattle.spec_trees.specs.declared.tree.Leaf.{Leaf}
use Rattle.spec_trees.specs.declared.tree.Node.{Node}
use Rattle.spec_trees.specs.Tree.{Covers, Rules, leaf_count, leaves}
use Rattle.spec_trees.specs.Windows.{windows}
use Rattle.spec_searches.specs.Search.{Search}
use Rattle.spec_searches.specs.Found.{root, rules}
use Rattle.spec_stills.specs.ServedTree.{TellTheSame}
use Rattle.spec_kinds.specs.Faults.{fault_of}
use Rattle.spec_outcomes.specs.declared.query.Query.{Query}
use Rattle.spec_outcomes.specs.declared.query.Span.{Span}
use Rattle.spec_outcomes.specs.declared.refusal.Refusal.{Refusal}
use Rattle.spec_outcomes.specs.declared.refusal.Refusal.TheVariants.{Memory}
use Rattle.spec_outcomes.specs.Outcomes.{HasFault, IsFound, Stops}
use Rattle.spec_outcomes.specs.Queries.{IsQuery, is_within, search}
use Rattle.spec_outcomes.proofs.Searching.{are_found, fault_stops, few_searched, found_is, is_found, leaves_stop}
use Rattle.gf_search.specs.declared.wanted.Wanted.{Wanted}
use Rattle.gf_search.specs.declared.wanted.Wanted.TheVariants.{Leaves, Signs, Windows}
use Rattle.gf_search.specs.Wanted.{AreLeaves, AreWanted, HasSigns, HasWindows, HaveSigns, HaveWindows, IsWanted, StopsAt}

-- there is no judge
pub fault_is : (most : ℕ) (q : Query) (e : Ephemeris) (span : Span) → is_within span e ≡ true → (r : Refusal) → (r ≡ Memory) ⊎ HasFault e q.ask r → Stops most q e span r
fault_is most q e span within r (inl none) = inl none
fault_is most q e span within r (inr has) = inr (fault_stops most q e span within has.0 has.1 ∙ ap (λ (s : Refusal). Err s) (sym has.2))

-- two facts of what is found are one
pub both_ok : (P Q R : Vec Leaf Global → Type 0) → ((found : Vec Leaf Global) → P found → Q found → R found) → (r : Result (Vec Leaf Global) Refusal) → IfOk r P → IfOk r Q → IfOk r R
both_ok P Q R join (Ok found) p q = join found p q
both_ok P Q R join (Err stop) p q = tt

-- the rules of the judge are those of the search
module _ (most : ℕ) (t : Rules) (s : Search) (n : Node) (same : t ≡ rules s) (r : Result (Vec Leaf Global) Refusal) where
  leaves_by : (found : Vec Leaf Global) → found.items ≡ leaves t n → leaf_count t n ≤ most → AreLeaves most s n found.items
  leaves_by found is few = record {
    same = is ∙ ap (λ (u : Rules). leaves u n) same;
    few = subst (λ (u : Rules). leaf_count u n ≤ most) same few;
  }

  have_windows : Covers n.a (leaves t n) n.b → (found : Vec Leaf Global) → found.items ≡ leaves t n → leaf_count t n ≤ most → HaveWindows most s n found.items
  have_windows cover found is few =
      let are = leaves_by found is few in
      record {
        windows = ap windows are.same;
        follow = subst (λ (ls : List Leaf). Covers n.a ls n.b) (sym is) cover;
        few = are.few;
      }

  tell_signs : Covers n.a (leaves t n) n.b → (found : Vec Leaf Global) → found.items ≡ leaves t n → leaf_count t n ≤ most → HaveSigns most s n found.items
  tell_signs cover found is few =
      let are = leaves_by found is few in
      record {
        signs = subst (λ (ls : List Leaf). TellTheSame s n.a found.items ls n.b) are.same (λ t upto. refl);
        follow = subst (λ (ls : List Leaf). Covers n.a ls n.b) (sym is) cover;
        few = are.few;
      }

  wanted_by : Covers n.a (leaves t n) n.b → (w : Wanted) (found : Vec Leaf Global) → found.items ≡ leaves t n → leaf_count t n ≤ most → AreWanted w most s n found.items
  wanted_by cover Leaves = leaves_by
  wanted_by cover Windows = have_windows cover
  wanted_by cover Signs = tell_signs cover

  -- its leaves serve whatever is wanted
  pub are_wanted : Covers n.a (leaves t n) n.b → IfOk r (λ found. found.items ≡ leaves t n) → IfOk r (λ found. leaf_count t n ≤ most)
      → (w : Wanted) → IfOk r (λ found. AreWanted w most s n found.items)
  are_wanted cover all few w = both_ok (λ found. found.items ≡ leaves t n) (λ found. leaf_count t n ≤ most) (λ found. AreWanted w most s n found.items) (wanted_by cover w) r all few

-- the tree of the judge is that of the query
module _ (most : ℕ) (q : Query) (e : Ephemeris) (span : Span) (within : is_within span e ≡ true) (sound : fault_of e q.ask ≡ None) (s : Search) (n : Node) (is : s ≡ search q e) (whole : n ≡ root span.from span.upto) where
  leaves_found : IsEphemeris e → 0 < e.blocks → IsQuery q → (ls : List Leaf) → AreLeaves most s n ls → IsFound most q e span ls
  leaves_found checked block query ls are =
      is_found q e checked block query most span ls within sound (are.same ∙ (λ i. leaves (rules (is i)) (whole i)))
      (subst (λ (count : ℕ). count ≤ most) (λ i. leaf_count (rules (is i)) (whole i)) are.few)

  windows_found : IsEphemeris e → 0 < e.blocks → IsQuery q → (ls : List Leaf) → HaveWindows most s n ls → HasWindows most q e span ls
  windows_found checked block query ls have = record {
    within = within;
    outcome = found_is most q e span within sound ∙ few_searched most (search q e) span (subst (λ (count : ℕ). count ≤ most) (λ i. leaf_count (rules (is i)) (whole i)) have.few);
    windows = have.windows ∙ (λ i. windows (leaves (rules (is i)) (whole i)));
    follow = subst (λ (m : Node). Covers m.a ls m.b) whole have.follow;
    events = are_found q e checked block query span within sound;
  }

  signs_found : (ls : List Leaf) → HaveSigns most s n ls → HasSigns most q e span ls
  signs_found ls have = record {
    within = within;
    outcome = found_is most q e span within sound ∙ few_searched most (search q e) span (subst (λ (count : ℕ). count ≤ most) (λ i. leaf_count (rules (is i)) (whole i)) have.few);
    signs = subst (λ (m : Node). TellTheSame (search q e) m.a ls (leaves (rules (search q e)) m) m.b) whole
        (subst (λ (r : Search). TellTheSame r n.a ls (leaves (rules r) n) n.b) is have.signs);
    follow = subst (λ (m : Node). Covers m.a ls m.b) whole have.follow;
  }

  pub wanted_found : IsEphemeris e → 0 < e.blocks → IsQuery q → (w : Wanted) (ls : List Leaf) → AreWanted w most s n ls → IsWanted w most q e span ls
  wanted_found checked block query Leaves ls are = leaves_found checked block query ls are
  wanted_found checked block query Windows ls have = windows_found checked block query ls have
  wanted_found checked block query Signs ls have = signs_found ls have

  pub leaves_stopped : {X : Type 0} (r : Result X Refusal) → IfErr r (StopsAt most (leaf_count (rules s) n)) → IfErr r (λ stop. Stops most q e span stop)
  leaves_stopped (Ok found) stops = tt
  leaves_stopped (Err r) stops =
      leaves_stop most q e span r (found_is most q e span within sound)
      (subst (λ (count : ℕ). StopsAt most count r) (λ i. leaf_count (rules (is i)) (whole i)) stops)
