-- Sums, products and other models that are near what is made of the numbers near their operands.
use Rattle.std.proofs.Common.{◌≡◌, arith, refl, subst, [], ◌∷◌, ℤ, pos, ◌+ℤ◌, ◌-ℤ◌, ◌*ℤ◌, neg_ℤ, ◌≤ℤ◌, unsigned_abs}
use Rattle.spec_numbers.proofs.Ring.{v, ◌⊕◌, ◌⊖◌, ◌⊗◌, minus, ring}
use Rattle.spec_numbers.proofs.Order.{lin, le-mul}
use Rattle.spec_numbers.proofs.Whole.{nonneg-mul}
use Rattle.spec_chebyshev.specs.Differences.{Within}
use Rattle.spec_chebyshev.proofs.Sizes.{Within-mul, Within-add}
use Rattle.spec_models.proofs.Bounds.{Within-neg, Within-more, Within-is, Within-scale, Within-size}
use Rattle.spec_models.proofs.Nearness.{Apart}

-- ---- over plain numbers
-- 0 ≤ Q, U, D
module _ (A Q E U W n D : ℤ) (q0 : pos 0 ≤ℤ Q) (u0 : pos 0 ≤ℤ U) (d0 : pos 0 ≤ℤ D) where
  scale0 : pos 0 ≤ℤ (U *ℤ D)
  scale0 = nonneg-mul U D u0 d0

  -- to K times a polynomial within S of this one, in units K as great, with an error F of those and S more
  pub Apart-moved : (B S F K : ℤ) → pos 0 ≤ℤ K → E ≤ℤ (F *ℤ K) → Within (A -ℤ K *ℤ B) (S *ℤ K *ℤ Q) → Apart A Q E U W n D → Apart B Q (F +ℤ S) (U *ℤ K) W n D
  Apart-moved B S F K k0 f w x =
      let a : Within (A *ℤ (U *ℤ D) -ℤ K *ℤ B *ℤ (U *ℤ D)) (S *ℤ K *ℤ Q *ℤ (U *ℤ D)) = Within-is _ _ _ _ (ring (A ∷ B ∷ K ∷ U ∷ D ∷ []) ((v 0 ⊖ v 2 ⊗ v 1) ⊗ (v 3 ⊗ v 4)) (v 0 ⊗ (v 3 ⊗ v 4) ⊖ v 2 ⊗ v 1 ⊗ (v 3 ⊗ v 4)) tt) refl (Within-scale (A -ℤ K *ℤ B) (S *ℤ K *ℤ Q) (U *ℤ D) scale0 w) in
      let b : Within ((n *ℤ (Q *ℤ W) -ℤ A *ℤ (U *ℤ D)) +ℤ (A *ℤ (U *ℤ D) -ℤ K *ℤ B *ℤ (U *ℤ D))) (E *ℤ Q *ℤ (U *ℤ D) +ℤ S *ℤ K *ℤ Q *ℤ (U *ℤ D)) = Within-add _ _ _ _ x.within a in
      let c : (E *ℤ (Q *ℤ (U *ℤ D))) ≤ℤ ((F *ℤ K) *ℤ (Q *ℤ (U *ℤ D))) = le-mul E (F *ℤ K) (Q *ℤ (U *ℤ D)) (nonneg-mul Q (U *ℤ D) q0 scale0) f in
      let e : E *ℤ (Q *ℤ (U *ℤ D)) ≡ E *ℤ Q *ℤ (U *ℤ D) = ring (E ∷ Q ∷ U ∷ D ∷ []) (v 0 ⊗ (v 1 ⊗ (v 2 ⊗ v 3))) (v 0 ⊗ v 1 ⊗ (v 2 ⊗ v 3)) tt in
      let g : (F +ℤ S) *ℤ Q *ℤ ((U *ℤ K) *ℤ D) ≡ (F *ℤ K) *ℤ (Q *ℤ (U *ℤ D)) +ℤ S *ℤ K *ℤ Q *ℤ (U *ℤ D) = ring (F ∷ S ∷ K ∷ Q ∷ U ∷ D ∷ []) ((v 0 ⊕ v 1) ⊗ v 3 ⊗ ((v 4 ⊗ v 2) ⊗ v 5)) ((v 0 ⊗ v 2) ⊗ (v 3 ⊗ (v 4 ⊗ v 5)) ⊕ v 1 ⊗ v 2 ⊗ v 3 ⊗ (v 4 ⊗ v 5)) tt in
      let h : (n *ℤ (Q *ℤ W) -ℤ A *ℤ (U *ℤ D)) +ℤ (A *ℤ (U *ℤ D) -ℤ K *ℤ B *ℤ (U *ℤ D)) ≡ n *ℤ (Q *ℤ W) -ℤ B *ℤ ((U *ℤ K) *ℤ D) = ring (A ∷ B ∷ K ∷ U ∷ D ∷ n ∷ Q ∷ W ∷ []) ((v 5 ⊗ (v 6 ⊗ v 7) ⊖ v 0 ⊗ (v 3 ⊗ v 4)) ⊕ (v 0 ⊗ (v 3 ⊗ v 4) ⊖ v 2 ⊗ v 1 ⊗ (v 3 ⊗ v 4))) (v 5 ⊗ (v 6 ⊗ v 7) ⊖ v 1 ⊗ ((v 3 ⊗ v 2) ⊗ v 4)) tt in
      record { within = Within-more _ _ _ (omega (arith, lin)) (Within-is _ _ _ _ h refl b) }

  -- K times the polynomial, in units that K is as great as
  pub Apart-lowered : (K : ℤ) → pos 0 ≤ℤ K → Apart A Q E U W n D → Apart (K *ℤ A) Q (E *ℤ K) U (W *ℤ K) n D
  Apart-lowered K k0 x =
      record { within = Within-is _ _ _ _ (ring (A ∷ Q ∷ K ∷ U ∷ W ∷ n ∷ D ∷ []) ((v 5 ⊗ (v 1 ⊗ v 4) ⊖ v 0 ⊗ (v 3 ⊗ v 6)) ⊗ v 2) (v 5 ⊗ (v 1 ⊗ (v 4 ⊗ v 2)) ⊖ (v 2 ⊗ v 0) ⊗ (v 3 ⊗ v 6)) tt) (ring (E ∷ Q ∷ K ∷ U ∷ D ∷ []) ((v 0 ⊗ v 1 ⊗ (v 3 ⊗ v 4)) ⊗ v 2) ((v 0 ⊗ v 2) ⊗ v 1 ⊗ (v 3 ⊗ v 4)) tt) (Within-scale _ _ K k0 x.within) }

  pub Apart-negated : Apart A Q E U W n D → Apart (neg_ℤ A) Q E U W (neg_ℤ n) D
  Apart-negated x =
      record { within = Within-is _ _ _ _ (ring (A ∷ Q ∷ U ∷ W ∷ n ∷ D ∷ []) (minus (v 4 ⊗ (v 1 ⊗ v 3) ⊖ v 0 ⊗ (v 2 ⊗ v 5))) (minus (v 4) ⊗ (v 1 ⊗ v 3) ⊖ minus (v 0) ⊗ (v 2 ⊗ v 5)) tt) refl (Within-neg _ _ x.within) }

  pub Apart-sum : (B F z G : ℤ) → pos 0 ≤ℤ G → Apart A Q E U W n D → Apart B Q F U W z G → Apart (A +ℤ B) Q (E +ℤ F) U W (n *ℤ G +ℤ z *ℤ D) (D *ℤ G)
  Apart-sum B F z G g0 x y =
      let s = Within-add _ _ _ _ (Within-scale _ _ G g0 x.within) (Within-scale _ _ D d0 y.within) in
      record { within = Within-is _ _ _ _ (ring (A ∷ B ∷ Q ∷ U ∷ W ∷ n ∷ D ∷ z ∷ G ∷ []) ((v 5 ⊗ (v 2 ⊗ v 4) ⊖ v 0 ⊗ (v 3 ⊗ v 6)) ⊗ v 8 ⊕ (v 7 ⊗ (v 2 ⊗ v 4) ⊖ v 1 ⊗ (v 3 ⊗ v 8)) ⊗ v 6) ((v 5 ⊗ v 8 ⊕ v 7 ⊗ v 6) ⊗ (v 2 ⊗ v 4) ⊖ (v 0 ⊕ v 1) ⊗ (v 3 ⊗ (v 6 ⊗ v 8))) tt) (ring (E ∷ F ∷ Q ∷ U ∷ D ∷ G ∷ []) ((v 0 ⊗ v 2 ⊗ (v 3 ⊗ v 4)) ⊗ v 5 ⊕ (v 1 ⊗ v 2 ⊗ (v 3 ⊗ v 5)) ⊗ v 4) ((v 0 ⊕ v 1) ⊗ v 2 ⊗ (v 3 ⊗ (v 4 ⊗ v 5))) tt) s }

-- a polynomial is at most S and one at most T at their argument
module _ (A Q E U W n D : ℤ) (q0 : pos 0 ≤ℤ Q) (u0 : pos 0 ≤ℤ U) (d0 : pos 0 ≤ℤ D) (e0 : pos 0 ≤ℤ E) (S : ℤ) (s0 : pos 0 ≤ℤ S) (B R F V X z G : ℤ) (r0 : pos 0 ≤ℤ R) (v0 : pos 0 ≤ℤ V) (g0 : pos 0 ≤ℤ G) (f0 : pos 0 ≤ℤ F) (T : ℤ) (t0 : pos 0 ≤ℤ T) where
  bound0 : (y M N O : ℤ) → pos 0 ≤ℤ y → pos 0 ≤ℤ M → pos 0 ≤ℤ N → pos 0 ≤ℤ O → pos 0 ≤ℤ (y *ℤ M *ℤ (N *ℤ O))
  bound0 y M N O a b c d = nonneg-mul (y *ℤ M) (N *ℤ O) (nonneg-mul y M a b) (nonneg-mul N O c d)

  sized : (a s M N O : ℤ) → pos 0 ≤ℤ N → pos 0 ≤ℤ O → Within a (s *ℤ M) → Within (a *ℤ (N *ℤ O)) (s *ℤ M *ℤ (N *ℤ O))
  sized a s M N O c d w = Within-scale a (s *ℤ M) (N *ℤ O) (nonneg-mul N O c d) w

  pub Apart-product : Within A (S *ℤ Q) → Within B (T *ℤ R) → Apart A Q E U W n D → Apart B R F V X z G → Apart (A *ℤ B) (Q *ℤ R) (S *ℤ F +ℤ T *ℤ E +ℤ E *ℤ F) (U *ℤ V) (W *ℤ X) (n *ℤ z) (D *ℤ G)
  Apart-product wa wb x y =
      let a = Within-mul _ _ _ _ (bound0 S Q U D s0 q0 u0 d0) (bound0 F R V G f0 r0 v0 g0) (sized A S Q U D u0 d0 wa) y.within in
      let b = Within-mul _ _ _ _ (bound0 T R V G t0 r0 v0 g0) (bound0 E Q U D e0 q0 u0 d0) (sized B T R V G v0 g0 wb) x.within in
      let c = Within-mul _ _ _ _ (bound0 E Q U D e0 q0 u0 d0) (bound0 F R V G f0 r0 v0 g0) x.within y.within in
      let s = Within-add _ _ _ _ (Within-add _ _ _ _ a b) c in
      record { within = Within-is _ _ _ _ (ring (A ∷ Q ∷ U ∷ W ∷ n ∷ D ∷ B ∷ R ∷ V ∷ X ∷ z ∷ G ∷ []) (((v 0 ⊗ (v 2 ⊗ v 5)) ⊗ (v 10 ⊗ (v 7 ⊗ v 9) ⊖ v 6 ⊗ (v 8 ⊗ v 11)) ⊕ (v 6 ⊗ (v 8 ⊗ v 11)) ⊗ (v 4 ⊗ (v 1 ⊗ v 3) ⊖ v 0 ⊗ (v 2 ⊗ v 5))) ⊕ (v 4 ⊗ (v 1 ⊗ v 3) ⊖ v 0 ⊗ (v 2 ⊗ v 5)) ⊗ (v 10 ⊗ (v 7 ⊗ v 9) ⊖ v 6 ⊗ (v 8 ⊗ v 11))) ((v 4 ⊗ v 10) ⊗ ((v 1 ⊗ v 7) ⊗ (v 3 ⊗ v 9)) ⊖ (v 0 ⊗ v 6) ⊗ ((v 2 ⊗ v 8) ⊗ (v 5 ⊗ v 11))) tt) (ring (S ∷ T ∷ E ∷ F ∷ Q ∷ U ∷ D ∷ R ∷ V ∷ G ∷ []) (((v 0 ⊗ v 4 ⊗ (v 5 ⊗ v 6)) ⊗ (v 3 ⊗ v 7 ⊗ (v 8 ⊗ v 9)) ⊕ (v 1 ⊗ v 7 ⊗ (v 8 ⊗ v 9)) ⊗ (v 2 ⊗ v 4 ⊗ (v 5 ⊗ v 6))) ⊕ (v 2 ⊗ v 4 ⊗ (v 5 ⊗ v 6)) ⊗ (v 3 ⊗ v 7 ⊗ (v 8 ⊗ v 9))) ((v 0 ⊗ v 3 ⊕ v 1 ⊗ v 2 ⊕ v 2 ⊗ v 3) ⊗ (v 4 ⊗ v 7) ⊗ ((v 5 ⊗ v 8) ⊗ (v 6 ⊗ v 9))) tt) s }

-- a greater error
module _ (A Q E U W n D : ℤ) (q0 : pos 0 ≤ℤ Q) (u0 : pos 0 ≤ℤ U) (d0 : pos 0 ≤ℤ D) where
  pub Apart-wider : (F : ℤ) → E ≤ℤ F → Apart A Q E U W n D → Apart A Q F U W n D
  Apart-wider F h x =
      let c : (E *ℤ (Q *ℤ (U *ℤ D))) ≤ℤ (F *ℤ (Q *ℤ (U *ℤ D))) = le-mul E F (Q *ℤ (U *ℤ D)) (nonneg-mul Q (U *ℤ D) q0 (nonneg-mul U D u0 d0)) h in
      let e : (z : ℤ) → z *ℤ (Q *ℤ (U *ℤ D)) ≡ z *ℤ Q *ℤ (U *ℤ D) = λ z. ring (z ∷ Q ∷ U ∷ D ∷ []) (v 0 ⊗ (v 1 ⊗ (v 2 ⊗ v 3))) (v 0 ⊗ v 1 ⊗ (v 2 ⊗ v 3)) tt in
      let a = e E in
      let b = e F in
      record { within = Within-more _ _ _ (omega (arith, lin)) x.within }

-- other forms of the numbers
pub Apart-is : (A Q E U W n D A' Q' E' U' W' n' D' : ℤ) → A ≡ A' → Q ≡ Q' → E ≡ E' → U ≡ U' → W ≡ W' → n ≡ n' → D ≡ D' → Apart A Q E U W n D → Apart A' Q' E' U' W' n' D'
Apart-is A Q E U W n D A' Q' E' U' W' n' D' a q e u w m d x =
    subst (λ t. Apart A' Q' E' U' W' n' t) d (subst (λ t. Apart A' Q' E' U' W' t D) m (subst (λ t. Apart A' Q' E' U' t n D) w (subst (λ t. Apart A' Q' E' t W n D) u (subst (λ t. Apart A' Q' t U W n D) e (subst (λ t. Apart A' t E U W n D) q (subst (λ t. Apart t Q E U W n D) a x))))))

-- c times the number, and 2^k times it or a part in 2^k of it by the exponent alone
module _ (A Q E U W n D : ℤ) where
  pub Apart-multiplied : (c : ℤ) → pos 0 ≤ℤ (E *ℤ Q *ℤ (U *ℤ D)) → Apart A Q E U W n D → Apart (c *ℤ A) Q (pos (unsigned_abs c) *ℤ E) U W (c *ℤ n) D
  Apart-multiplied c b0 x =
      let s = Within-mul c _ (pos (unsigned_abs c)) _ (omega (arith, lin)) b0 (Within-size c) x.within in
      record { within = Within-is _ _ _ _ (ring (A ∷ Q ∷ U ∷ W ∷ n ∷ D ∷ c ∷ []) (v 6 ⊗ (v 4 ⊗ (v 1 ⊗ v 3) ⊖ v 0 ⊗ (v 2 ⊗ v 5))) ((v 6 ⊗ v 4) ⊗ (v 1 ⊗ v 3) ⊖ (v 6 ⊗ v 0) ⊗ (v 2 ⊗ v 5)) tt) (ring (pos (unsigned_abs c) ∷ E ∷ Q ∷ U ∷ D ∷ []) (v 0 ⊗ (v 1 ⊗ v 2 ⊗ (v 3 ⊗ v 4))) ((v 0 ⊗ v 1) ⊗ v 2 ⊗ (v 3 ⊗ v 4)) tt) s }

  pub Apart-greater : (K : ℤ) → pos 0 ≤ℤ K → Apart A Q E U W n D → Apart A Q E (U *ℤ K) W (n *ℤ K) D
  Apart-greater K k0 x =
      record { within = Within-is _ _ _ _ (ring (A ∷ Q ∷ U ∷ W ∷ n ∷ D ∷ K ∷ []) ((v 4 ⊗ (v 1 ⊗ v 3) ⊖ v 0 ⊗ (v 2 ⊗ v 5)) ⊗ v 6) ((v 4 ⊗ v 6) ⊗ (v 1 ⊗ v 3) ⊖ v 0 ⊗ ((v 2 ⊗ v 6) ⊗ v 5)) tt) (ring (E ∷ Q ∷ U ∷ D ∷ K ∷ []) ((v 0 ⊗ v 1 ⊗ (v 2 ⊗ v 3)) ⊗ v 4) (v 0 ⊗ v 1 ⊗ ((v 2 ⊗ v 4) ⊗ v 3)) tt) (Within-scale _ _ K k0 x.within) }

  pub Apart-lesser : (K : ℤ) → pos 0 ≤ℤ K → Apart A Q E U W n D → Apart A Q E U (W *ℤ K) n (D *ℤ K)
  Apart-lesser K k0 x =
      record { within = Within-is _ _ _ _ (ring (A ∷ Q ∷ U ∷ W ∷ n ∷ D ∷ K ∷ []) ((v 4 ⊗ (v 1 ⊗ v 3) ⊖ v 0 ⊗ (v 2 ⊗ v 5)) ⊗ v 6) (v 4 ⊗ (v 1 ⊗ (v 3 ⊗ v 6)) ⊖ v 0 ⊗ (v 2 ⊗ (v 5 ⊗ v 6))) tt) (ring (E ∷ Q ∷ U ∷ D ∷ K ∷ []) ((v 0 ⊗ v 1 ⊗ (v 2 ⊗ v 3)) ⊗ v 4) (v 0 ⊗ v 1 ⊗ (v 2 ⊗ (v 3 ⊗ v 4))) tt) (Within-scale _ _ K k0 x.within) }
