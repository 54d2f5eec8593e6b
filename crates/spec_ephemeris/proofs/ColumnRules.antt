-- A number has one column at most, and what is known of a column that is present.
use Rattle.std.proofs.Common.{◌≡◌, ℕ, suc, ◌<◌, ◌≤◌, nat_lt, Bool, true, false, IsTrue, List, Option, None, Some, if◌then◌else◌, refl, sym, ◌∙◌, arith}
use Rattle.std.specs.Prelude.{slice_get}
use Rattle.std.proofs.lemmas.Bool.{ltb-true}
use Rattle.std.proofs.lemmas.Option.{none-some}
use Rattle.spec_ephemeris.specs.declared.header.Column.{Column}
use Rattle.spec_ephemeris.specs.declared.header.Header.{Header}
use Rattle.spec_ephemeris.specs.declared.limits.TheConstants.{MAX_COEFFICIENTS, READ_COLUMNS}
use Rattle.spec_ephemeris.specs.Header.{IsHeader, IsColumn, column_at, has_column, is_present_at}
use Rattle.spec_ephemeris.specs.Ephemeris.{Ephemeris}
use Rattle.spec_ephemeris.specs.Granules.{column_or_none, column_of}

listed_by : (read : Bool) (o : Option Column) (c : Column) → (if read then o else None) ≡ Some c → (read ≡ true) × (o ≡ Some c)
listed_by true o c is = (refl, is)
listed_by false o c is = absurd (none-some c is)

-- a column that is read stands in the list
pub listed : (columns : List Column) (i : ℕ) (c : Column) → column_at columns (suc i) ≡ Some c → (i < READ_COLUMNS) × (slice_get columns i ≡ Some c)
listed columns i c is =
    let both = listed_by (nat_lt i READ_COLUMNS) (slice_get columns i) c is in
    (ltb-true i READ_COLUMNS both.0, both.1)

pub one_column : (h : Header) (number : ℕ) (c d : Column) → IsColumn h number c → IsColumn h number d → c ≡ d
one_column h number c d one other =
    let both : Some c ≡ Some d = sym one.listed ∙ other.listed in (cc)

pub some_granules : (c : Column) (h : Header) (number : ℕ) → IsColumn h number c → 0 < c.granules
some_granules c h number is = let present = is.present in grind (arith, present)

-- a present column has from 1 to 32 coefficients
pub few : (h : Header) (number : ℕ) (c : Column) → IsHeader h → IsColumn h number c → (1 ≤ c.coefs) × (c.coefs ≤ MAX_COEFFICIENTS)
few h number c header is =
    let present = is.present in
    (grind (arith, present), (header.columns number c is).coefficients)

column_there : (h : Header) (number : ℕ) (o : Option Column) → column_at h.columns number ≡ o → IsTrue (is_present_at o) → IsColumn h number (column_or_none o)
column_there h number None is there = absurd (cc)
column_there h number (Some c) is there = record { listed = is; present = there }

pub is_column : (e : Ephemeris) (number : ℕ) → IsTrue (has_column e.header number) → IsColumn e.header number (column_of e number)
is_column e number there = column_there e.header number (column_at e.header.columns number) refl there
