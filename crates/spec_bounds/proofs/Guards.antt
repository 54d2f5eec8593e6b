-- The guards that are found at a node: all are certified where each condition is, and none is refuted where no condition is.
use Rattle.std.proofs.Common.{◌≡◌, Bool, true, false, ◌||◌, List, [], ◌∷◌, All, map, refl}
use Rattle.std.specs.List.{list_all, list_any}
use Rattle.std.proofs.lemmas.List.Elements.{All-head, All-tail}
use Rattle.spec_numbers.proofs.Booleans.{both_true}
use Rattle.spec_bodies.specs.Views.{exact_state, state_enclosure}
use Rattle.spec_trees.specs.declared.tree.Node.{Node}
use Rattle.spec_events.specs.Soundness.{finding_of}
use Rattle.spec_events.specs.Verdict.{GuardFinding, is_certified, is_refuted}
use Rattle.spec_searches.specs.Event.{Condition}
use Rattle.spec_searches.specs.Search.{Search, guard_evidence}
use Rattle.spec_bounds.proofs.Signs.{not_refuted}

module _ (s : Search) (n : Node) where
  abbrev guard_found : Condition → GuardFinding
  guard_found c = finding_of (guard_evidence (exact_state s.view) (state_enclosure s.view) n c)

  abbrev guards_found : List Condition → List GuardFinding
  guards_found cs = map finding_of (map (guard_evidence (exact_state s.view) (state_enclosure s.view) n) cs)

  -- by induction, what holds for no conditions and is kept by one more of which P holds
  over_guards : (P : Condition → Type 0) (Q : List Condition → Type 0) → Q [] → ((c : Condition) (cs : List Condition) → P c → Q cs → Q (c ∷ cs))
      → (cs : List Condition) → All P cs → Q cs
  over_guards P Q none more [] all = none
  over_guards P Q none more (c ∷ cs) all = more c cs (All-head P c cs all) (over_guards P Q none more cs (All-tail P c cs all))

  abbrev pub IsCertified : Condition → Type 0
  IsCertified c = is_certified (guard_found c) ≡ true

  pub all_certified : (cs : List Condition) → All IsCertified cs → list_all is_certified (guards_found cs) ≡ true
  all_certified = over_guards IsCertified (λ cs. list_all is_certified (guards_found cs) ≡ true) refl (λ c cs. both_true _ _)

  abbrev pub IsNotRefuted : Condition → Type 0
  IsNotRefuted c = is_refuted (guard_found c) ≡ false

  neither : (p q : Bool) → p ≡ false → q ≡ false → (p || q) ≡ false
  neither p q h g = rw (h, g) refl

  pub none_refuted : (cs : List Condition) → All IsNotRefuted cs → list_any is_refuted (guards_found cs) ≡ false
  none_refuted = over_guards IsNotRefuted (λ cs. list_any is_refuted (guards_found cs) ≡ false) refl (λ c cs. neither _ _)

  -- what is certified is not refuted
  pub still_holds : (c : Condition) → IsCertified c → IsNotRefuted c
  still_holds c = not_refuted (guard_found c).at_least (guard_found c).sign
