-- What the tests of faults mean.
use Rattle.std.proofs.Common.{◌≡◌, ◌≢◌, true, false, ap, eq-eqb}
use Rattle.std.proofs.lemmas.Bool.{and_parts, ltb-true, leb-true}
use Rattle.std.proofs.lemmas.List.Sums.{AllPass-from_list_all, list_all-from_AllPass}
use Rattle.spec_text.specs.declared.decimals.Decimal.{Decimal}
use Rattle.spec_intervals.specs.Interval.{IsDistance, IsCosine}
use Rattle.spec_ephemeris.specs.declared.body.Body.{Body}
use Rattle.spec_ephemeris.specs.Header.{has_column}
use Rattle.spec_ephemeris.specs.Ephemeris.{Ephemeris}
use Rattle.spec_bodies.specs.Sources.{source_of, needed_columns}
use Rattle.spec_bodies.specs.Views.{HasBody}
use Rattle.spec_kinds.specs.Faults.{has_body, is_same, body_number, is_distance, is_cosine, is_radius}

pub body_there : (e : Ephemeris) (body : Body) → has_body e body ≡ true → HasBody e body
body_there e body is = AllPass-from_list_all (λ number. has_column e.header number) (needed_columns (source_of body)) is

pub there_body : (e : Ephemeris) (body : Body) → HasBody e body → has_body e body ≡ true
there_body e body is = list_all-from_AllPass (λ number. has_column e.header number) (needed_columns (source_of body)) is

pub other_body : (one other : Body) → is_same one other ≡ false → one ≢ other
other_body one other apart = λ same. absurd (by (eq-eqb (body_number one) (body_number other) (ap body_number same)))
  where
    by : is_same one other ≡ true → ⊥
    by alike = cc

pub small_distance : (d : Decimal) → is_distance d ≡ true → IsDistance d.mant d.exp
small_distance d is = ltb-true _ _ is

pub small_cosine : (d : Decimal) → is_cosine d ≡ true → IsCosine d.mant d.exp
small_cosine d is = leb-true _ _ is

pub small_radius : (d : Decimal) → is_radius d ≡ true → IsDistance d.mant d.exp
small_radius d is = small_distance d (and_parts _ _ is).1
