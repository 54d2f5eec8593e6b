-- Places in whole numbers, and their products. In the plane of x and y all is as seen along the z axis.
use Rattle.std.specs.Prelude.{◌≡◌, ℕ, zero, suc, ℤ, pos, neg_ℤ, ◌+ℤ◌, ◌-ℤ◌, ◌*ℤ◌, ◌≤ℤ◌, ◌<ℤ◌}

pub record Triple : Type 0 where
  pub x : ℤ
  pub y : ℤ
  pub z : ℤ

-- the coordinate along an axis, counted from 0
abbrev pub along : Triple → ℕ → ℤ
along p zero = p.x
along p (suc zero) = p.y
along p (suc (suc axis)) = p.z

abbrev pub dot : Triple → Triple → ℤ
dot p q = (p.x *ℤ q.x +ℤ p.y *ℤ q.y) +ℤ p.z *ℤ q.z

abbrev pub square : Triple → ℤ
square p = dot p p

-- ---- in the plane of x and y
abbrev pub plane_dot : Triple → Triple → ℤ
plane_dot p q = p.x *ℤ q.x +ℤ p.y *ℤ q.y

abbrev pub plane_cross : Triple → Triple → ℤ
plane_cross p q = p.x *ℤ q.y -ℤ p.y *ℤ q.x

-- p turned by a quarter towards greater longitudes
abbrev pub quarter_turned : Triple → Triple
quarter_turned p = record { x = neg_ℤ p.y; y = p.x; z = p.z }

-- p is off the z axis
abbrev pub IsOffAxis : Triple → Type 0
IsOffAxis p = pos 0 <ℤ plane_dot p p

-- p and q lie in one half plane that the z axis bounds, one of them perhaps on the axis: l p and m q agree in x and y
pub record AreInHalfPlane (p q : Triple) : Type 0 where
  pub l : ℤ
  pub m : ℤ
  pub l_low : pos 0 ≤ℤ l
  pub m_low : pos 0 ≤ℤ m
  pub not_both_0 : pos 0 <ℤ (l +ℤ m)
  pub same_x : l *ℤ p.x ≡ m *ℤ q.x
  pub same_y : l *ℤ p.y ≡ m *ℤ q.y

-- off the axis, they lie in opposite half planes: l p and -(m q) agree in x and y
pub record AreInOppositeHalfPlanes (p q : Triple) : Type 0 where
  pub off_axis : IsOffAxis p
  pub l : ℤ
  pub m : ℤ
  pub l_positive : pos 0 <ℤ l
  pub m_positive : pos 0 <ℤ m
  pub opposite_x : l *ℤ p.x ≡ neg_ℤ (m *ℤ q.x)
  pub opposite_y : l *ℤ p.y ≡ neg_ℤ (m *ℤ q.y)
