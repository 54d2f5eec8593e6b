-- What the rules of a header say of a present column.
use Rattle.std.proofs.Common.{◌≡◌, ℕ, arith}
use Rattle.std.proofs.lemmas.Int.{ints}
use mir.Val.{to_z, of_z}
use mir.Syntax.{w64}
use Rattle.spec_ephemeris.specs.declared.header.Column.{Column}
use Rattle.spec_ephemeris.specs.declared.header.Header.{Header}
use Rattle.spec_ephemeris.specs.Header.{IsHeader, IsColumn, IsShared}

-- the granules of a present column share a block, also as the code passes its length on
pub shared : (h : Header) (number : ℕ) (c : Column) → IsHeader h → IsColumn h number c → IsShared (to_z w64 (of_z w64 h.block_seconds)) c.granules
shared h number c header is =
    let low = header.shortest in
    let high = header.longest in
    let same : to_z w64 (of_z w64 h.block_seconds) ≡ h.block_seconds = omega (arith, ints, low, high) in
    rw same ((header.columns number c is).granules)
