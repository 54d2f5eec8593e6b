-- What is so of an ask that has no fault.
use Rattle.std.proofs.Common.{◌≡◌, ◌≢◌, ◌<◌, Bool, true, false, ◌||◌, not, [], ◌∷◌, Option, None, Some, unwrap_or, if◌then◌else◌, refl}
use Rattle.std.specs.Prelude.{All}
use Rattle.std.specs.List.{list_all}
use Rattle.std.proofs.lemmas.Bool.{and_parts, or_parts}
use Rattle.std.proofs.lemmas.List.Elements.{All-nil, All-cons}
use Rattle.spec_ephemeris.specs.declared.body.Body.{Body}
use Rattle.spec_ephemeris.specs.Ephemeris.{Ephemeris, IsEphemeris}
use Rattle.spec_bodies.specs.Views.{HasBody, IsView}
use Rattle.spec_bodies.proofs.InUse.{body_there as source_there}
use Rattle.spec_kinds.specs.declared.ask.Ask.{Ask}
use Rattle.spec_kinds.specs.declared.fault.EventFault.TheVariants.{BodyAbsent, SameBody, ReferenceRange}
use Rattle.spec_kinds.specs.Asks.{targets_of, before, bodies_of}
use Rattle.spec_kinds.specs.Faults.{has_body, is_same, has_twice, are_in_range, fault_of}
use Rattle.spec_kinds.specs.Searches.{view_of_ask}
use Rattle.spec_kinds.proofs.Tests.{body_there, other_body}

-- no test finds a fault
pub record IsServed (e : Ephemeris) (ask : Ask) : Type 0 where
  pub there : list_all (has_body e) (bodies_of ask) ≡ true
  pub apart : has_twice (bodies_of ask) ≡ false
  pub in_range : are_in_range ask.kind ask.value1 ask.value2 ≡ true

first_of_none : (there twice in_range : Bool) → (if not there then Some BodyAbsent else if twice then Some SameBody else if not in_range then Some ReferenceRange else None) ≡ None → (there ≡ true) × (twice ≡ false) × (in_range ≡ true)
first_of_none true false true is = (refl, refl, refl)
first_of_none true false false is = absurd (cc)
first_of_none true true in_range is = absurd (cc)
first_of_none false twice in_range is = absurd (cc)

pub served : (e : Ephemeris) (ask : Ask) → fault_of e ask ≡ None → IsServed e ask
unfolding fault_of
served e ask is =
    let parts = first_of_none (list_all (has_body e) (bodies_of ask)) (has_twice (bodies_of ask)) (are_in_range ask.kind ask.value1 ask.value2) is in
    record { there = parts.0; apart = parts.1; in_range = parts.2 }

-- ---- the target, the second body or the target, and the observer
all_pass : (P : Body → Bool) (target : Body) (second : Option Body) (observer : Body) → list_all P (target ∷ before second (observer ∷ [])) ≡ true → (P target ≡ true) × (P (unwrap_or second target) ≡ true) × (P observer ≡ true)
all_pass P target None observer all =
    let parts = and_parts (P target) (list_all P (observer ∷ [])) all in
    (parts.0, parts.0, (and_parts (P observer) true parts.1).0)
all_pass P target (Some second) observer all =
    let parts = and_parts (P target) (list_all P (second ∷ observer ∷ [])) all in
    let rest = and_parts (P second) (list_all P (observer ∷ [])) parts.1 in
    (parts.0, rest.0, (and_parts (P observer) true rest.1).0)

none_same : (target : Body) (second : Option Body) (observer : Body) → has_twice (target ∷ before second (observer ∷ [])) ≡ false → (is_same target observer ≡ false) × (is_same (unwrap_or second target) observer ≡ false)
none_same target None observer apart =
    let own = (or_parts (is_same target observer) false (or_parts (is_same target observer || false) (has_twice (observer ∷ [])) apart).0).0 in
    (own, own)
none_same target (Some second) observer apart =
    let parts = or_parts (is_same target second || (is_same target observer || false)) (has_twice (second ∷ observer ∷ [])) apart in
    let own = (or_parts (is_same target observer) false (or_parts (is_same target second) (is_same target observer || false) parts.0).1).0 in
    (own, (or_parts (is_same second observer) false (or_parts (is_same second observer || false) (has_twice (observer ∷ [])) parts.1).0).0)

all_of_two : (P : Body → Type 0) (one other : Body) → P one → P other → All P (one ∷ other ∷ [])
all_of_two P one other p q = All-cons P one (other ∷ []) p (All-cons P other [] q (All-nil P))

pub present : (e : Ephemeris) (ask : Ask) → fault_of e ask ≡ None → All (HasBody e) (ask.observer ∷ targets_of ask)
present e ask is =
    let there = all_pass (has_body e) ask.target ask.second ask.observer (served e ask is).there in
    All-cons (HasBody e) ask.observer (targets_of ask) (body_there e ask.observer there.2)
    (all_of_two (HasBody e) ask.target (unwrap_or ask.second ask.target) (body_there e ask.target there.0) (body_there e _ there.1))

pub apart : (e : Ephemeris) (ask : Ask) → fault_of e ask ≡ None → All (λ target. target ≢ ask.observer) (targets_of ask)
apart e ask is =
    let other = none_same ask.target ask.second ask.observer (served e ask is).apart in
    all_of_two (λ target. target ≢ ask.observer) ask.target (unwrap_or ask.second ask.target) (other_body ask.target ask.observer other.0) (other_body _ ask.observer other.1)

pub viewed : (e : Ephemeris) (ask : Ask) → IsEphemeris e → 0 < e.blocks → fault_of e ask ≡ None → IsView (view_of_ask e ask)
viewed e ask checked block is =
    let there = all_pass (has_body e) ask.target ask.second ask.observer (served e ask is).there in
    record {
      checked = checked;
      block = block;
      first = source_there e ask.target (body_there e ask.target there.0);
      second = source_there e (unwrap_or ask.second ask.target) (body_there e _ there.1);
      observer = source_there e ask.observer (body_there e ask.observer there.2);
    }
