-- total_cmp's order is a strict total order: by sign first, then by size. Assumes nothing.
use mathlib.Core.Path.{◌≡◌, refl, sym, subst, ◌∙◌}
use mathlib.Core.Bool.{Bool, true, false, not, ◌&&◌, ◌||◌, cond, or-false}
use Prim.Native.Nat.{ℕ, zero, suc, ◌+◌, ◌*◌, ◌<◌}
use native.Mathlib.Nat.{mul_right_comm, mul-lt-mul_of_pos_right, lt_of_mul-lt-mul_right, lt_trans}
use native.Mathlib.Omega.{arith}
use lib.Dec.{ltb, eqb}
use lib.IntN.{ℤ}
use lib.Ieee.{Float, nan, inf, fin, up, down, below, level, lt, eq, is_nan}
use lib.Ieee.Fits.{down_pos}
use borrow.Author.Tests.{ltb-true, ltb-false, lt-ltb, le-ltb, eqb-true}
use Rattle.float.specs.Float as F64
use Rattle.float.specs.Facts.{IsF64, TotalOrder}
use Rattle.laws.proofs.Bools.{no, yes, holds}
use Rattle.float.proofs.Rounding.{unique}

-- finite floats: what has a sign first, then by size
abbrev earlier : Bool → ℕ → Bool → ℕ → Bool
earlier false a false b = ltb a b
earlier false a true b = false
earlier true a false b = true
earlier true a true b = ltb b a

either : (q l : Bool) → l ≡ true → cond q true (l || false) ≡ true
either true l h = refl
either false l h = or-false l ∙ h

before_fin : (s : Bool) (m : ℕ) (e : ℤ) (t : Bool) (n : ℕ) (d : ℤ) → F64.is_total_before (fin s m e) (fin t n d) ≡ earlier s (m * up e * down d) t (n * up d * down e)
unfolding F64.is_total_before F64.is_sign_negative lt eq is_nan
before_fin s m e t n d = go s t (m * up e * down d) (n * up d * down e)
  where
    go : (s t : Bool) (a b : ℕ) → cond (level s a t b) (s && not t) (below s a t b || false) ≡ earlier s a t b
    go false false a b = by (eqb a b) refl
      where
        by : (q : Bool) → eqb a b ≡ q → cond (q && true) false (ltb a b || false) ≡ ltb a b
        by true e = sym (le-ltb a b (omega (arith, eqb-true a b e)))
        by false e = or-false (ltb a b)
    go true true a b = by (eqb a b) refl
      where
        by : (q : Bool) → eqb a b ≡ q → cond (q && true) false (ltb b a || false) ≡ ltb b a
        by true e = sym (le-ltb b a (omega (arith, eqb-true a b e)))
        by false e = or-false (ltb b a)
    go false true a b = by (eqb a b && eqb a 0)
      where
        by : (q : Bool) → cond q false false ≡ false
        by true = refl
        by false = refl
    go true false zero zero = refl
    go true false zero (suc b) = either (eqb 0 (suc b) && eqb 0 0) (ltb 0 (0 + suc b)) (lt-ltb 0 (0 + suc b) (omega arith))
    go true false (suc a) b = either (eqb (suc a) b && eqb (suc a) 0) (ltb 0 (suc a + b)) (lt-ltb 0 (suc a + b) (omega arith))

-- a / e < b / d and b / d < c / g
chain : (a b c e d g : ℕ) → 0 < e → 0 < d → 0 < g → a * d < b * e → b * g < c * d → a * g < c * e
chain a b c e d g E D G p q =
    lt_of_mul-lt-mul_right d
    (subst (λ (x : ℕ). x < c * e * d) (mul_right_comm a d g)
    (lt_trans (mul-lt-mul_of_pos_right p G)
    (subst (λ (x : ℕ). x < c * e * d) (mul_right_comm b g e) (subst (λ (x : ℕ). b * g * e < x) (mul_right_comm c d e) (mul-lt-mul_of_pos_right q E)))))

fin_trans : (s : Bool) (m : ℕ) (e : ℤ) (t : Bool) (n : ℕ) (d : ℤ) (u : Bool) (l : ℕ) (g : ℤ)
    → earlier s (m * up e * down d) t (n * up d * down e) ≡ true → earlier t (n * up d * down g) u (l * up g * down d) ≡ true
    → earlier s (m * up e * down g) u (l * up g * down e) ≡ true
fin_trans false m e false n d false l g p q =
    lt-ltb _ _ (chain (m * up e) (n * up d) (l * up g) (down e) (down d) (down g) (down_pos e) (down_pos d) (down_pos g) (ltb-true _ _ p) (ltb-true _ _ q))
fin_trans true m e true n d true l g p q =
    lt-ltb _ _ (chain (l * up g) (n * up d) (m * up e) (down g) (down d) (down e) (down_pos g) (down_pos d) (down_pos e) (ltb-true _ _ q) (ltb-true _ _ p))
fin_trans true m e true n d false l g p q = refl
fin_trans true m e false n d false l g p q = refl
fin_trans true m e false n d true l g p q = no q
fin_trans false m e true n d u l g p q = no p
fin_trans false m e false n d true l g p q = no q

before_trans : (x y z : Float) → F64.is_total_before x y ≡ true → F64.is_total_before y z ≡ true → F64.is_total_before x z ≡ true
unfolding F64.is_total_before F64.is_sign_negative lt eq is_nan
before_trans nan y z p q = no p
before_trans (inf false) nan z p q = no q
before_trans (inf false) (inf true) z p q = no p
before_trans (inf false) (inf false) z p q = no p
before_trans (inf false) (fin t n d) z p q = no p
before_trans (inf true) nan z p q = no q
before_trans (inf true) (inf true) z p q = no p
before_trans (inf true) (inf false) nan p q = refl
before_trans (inf true) (inf false) (inf true) p q = no q
before_trans (inf true) (inf false) (inf false) p q = no q
before_trans (inf true) (inf false) (fin u l g) p q = no q
before_trans (inf true) (fin t n d) nan p q = refl
before_trans (inf true) (fin t n d) (inf true) p q = no q
before_trans (inf true) (fin t n d) (inf false) p q = refl
before_trans (inf true) (fin t n d) (fin u l g) p q = refl
before_trans (fin s m e) nan z p q = no q
before_trans (fin s m e) (inf true) z p q = no p
before_trans (fin s m e) (inf false) nan p q = refl
before_trans (fin s m e) (inf false) (inf true) p q = no q
before_trans (fin s m e) (inf false) (inf false) p q = no q
before_trans (fin s m e) (inf false) (fin u l g) p q = no q
before_trans (fin s m e) (fin t n d) nan p q = refl
before_trans (fin s m e) (fin t n d) (inf true) p q = no q
before_trans (fin s m e) (fin t n d) (inf false) p q = refl
before_trans (fin s m e) (fin t n d) (fin u l g) p q =
    before_fin s m e u l g ∙ fin_trans s m e t n d u l g (sym (before_fin s m e t n d) ∙ p) (sym (before_fin t n d u l g) ∙ q)

before_itself : (x : Float) → F64.is_total_before x x ≡ false
unfolding F64.is_total_before F64.is_sign_negative lt eq is_nan
before_itself nan = refl
before_itself (inf true) = refl
before_itself (inf false) = refl
before_itself (fin true m e) = before_fin true m e true m e ∙ le-ltb (m * up e * down e) (m * up e * down e) (omega arith)
before_itself (fin false m e) = before_fin false m e false m e ∙ le-ltb (m * up e * down e) (m * up e * down e) (omega arith)

level_sizes : (a b : ℕ) → ltb a b ≡ false → ltb b a ≡ false → a ≡ b
level_sizes a b p q = omega (arith, ltb-false a b p, ltb-false b a q)

fin_same : (s : Bool) (m : ℕ) (e : ℤ) (t : Bool) (n : ℕ) (d : ℤ) → IsF64 (fin s m e) → IsF64 (fin t n d)
    → earlier s (m * up e * down d) t (n * up d * down e) ≡ false → earlier t (n * up d * down e) s (m * up e * down d) ≡ false → fin s m e ≡ fin t n d
fin_same false m e false n d f g p q = unique false m e n d (holds f) (holds g) (level_sizes (m * up e * down d) (n * up d * down e) p q)
fin_same true m e true n d f g p q = unique true m e n d (holds f) (holds g) (level_sizes (m * up e * down d) (n * up d * down e) q p)
fin_same true m e false n d f g p q = yes p
fin_same false m e true n d f g p q = yes q

before_same : (x y : Float) → IsF64 x → IsF64 y → F64.is_total_before x y ≡ false → F64.is_total_before y x ≡ false → x ≡ y
unfolding F64.is_total_before F64.is_sign_negative lt eq is_nan
before_same nan nan f g p q = refl
before_same nan (inf t) f g p q = yes q
before_same nan (fin t n d) f g p q = yes q
before_same (inf s) nan f g p q = yes p
before_same (inf true) (inf true) f g p q = refl
before_same (inf true) (inf false) f g p q = yes p
before_same (inf false) (inf true) f g p q = yes q
before_same (inf false) (inf false) f g p q = refl
before_same (inf true) (fin t n d) f g p q = yes p
before_same (inf false) (fin t n d) f g p q = yes q
before_same (fin s m e) nan f g p q = yes p
before_same (fin s m e) (inf true) f g p q = yes q
before_same (fin s m e) (inf false) f g p q = yes p
before_same (fin s m e) (fin t n d) f g p q = fin_same s m e t n d f g (sym (before_fin s m e t n d) ∙ p) (sym (before_fin t n d s m e) ∙ q)

pub total_order : TotalOrder
unfolding TotalOrder
total_order = (before_itself, before_trans, before_same)
