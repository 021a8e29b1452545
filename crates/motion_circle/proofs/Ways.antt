-- The two ways between two positions: one is the difference of the wrapped positions, and the other is c minus it,
-- each rounded. Assumes nothing.
use mathlib.Core.Logic.{◌⊎◌, inl, inr}
use mathlib.Core.Path.{◌≡◌, refl, sym, ap, ◌∙◌}
use mathlib.Core.Bool.{Bool, true, false, not, cond, or-true}
use Prim.Native.Nat.{ℕ, ◌-◌, ◌*◌, ◌<◌, ◌≤◌, ◌^◌}
use native.Mathlib.Nat.{zero-mul, mul-pos, sub-le, le_of_lt, le_trans}
use native.Mathlib.Omega.{arith}
use lib.Dec.{ltb}
use lib.Ieee.{Float, nan, inf, fin, binary64, up, down, sub, neg, lt, le, eq, of_bits}
use lib.Ieee.Fits.{down_pos}
use borrow.Author.Tests.{ltb-true, ltb-false, eqb-true, eq-eqb}
use Rattle.float.specs.Float as F64
use Rattle.float.proofs.Cases.{lt_zero_neg}
use Rattle.float.proofs.Rounding.{Plus}
use Rattle.laws.proofs.Bools.{yes}
use Rattle.motion.specs.Cyclic.{is_degenerate, wrap_position, forward_distance, cyclic_distance}
use Rattle.motion_circle.specs.Facts.{IsCircle, WrapInCircle, CyclicBothWays}
use Rattle.motion_circle.proofs.Circle.{wrap_in_circle, ahead}
use Rattle.float.proofs.Units.{held}
use Rattle.motion_circle.proofs.Grains.{rounded, Worth, worth_same, Count, count_of, plus_held, some, lt_is, eq_is, not_below, at_most, sub_count, sub_below, sub_is, turn_is}
use Rattle.motion_circle.proofs.Shorter.{circle_count, circle_plus, finite_between, forward_count, least, cyclic_count}
use Rattle.motion_circle.proofs.Wrapped.{circle_finite, wrap_fits}

-- a wrapped position
pub wrap_count : (p c : Float) (h : ℕ) → IsCircle c → Count c h → F64.is_finite p ≡ true
    → (g : ℕ) × Count (wrap_position p c) g × (g < h)
unfolding WrapInCircle le
wrap_count p c h k C f =
    let x = wrap_position p c in
    let i = wrap_in_circle p c k f in
    let G = count_of x (wrap_fits p c k.1 f) i.0 (finite_between x c i.0 (rw i.1) (circle_finite c k.1)) in
    (G.0, G.1, ltb-true G.0 h (sym (lt_is x c G.0 h G.1.value C.value) ∙ i.1))

-- ---- a difference below 0

minus_below : (x : Float) (g : ℕ) → Plus x → Worth x g → 0 < g → lt (neg x) F64.zero ≡ true
unfolding neg
minus_below nan g p w l = absurd p
minus_below (inf s) g p w l = absurd w
minus_below (fin true m e) g p w l = yes p
minus_below (fin false m e) g p w l = go (lt (fin true m e) F64.zero) refl
  where
    go : (t : Bool) → lt (fin true m e) F64.zero ≡ t → t ≡ true
    go true h = refl
    go false h =
        let z : m * up e * 2 ^ 1074 ≡ 0 = rw (lt_zero_neg m e h, zero-mul (up e), zero-mul (2 ^ 1074)) in
        let y : 0 < g * down e = mul-pos l (down_pos e) in
        absurd (omega (arith, sym w ∙ z))

pub above : (x : Float) (g : ℕ) → Worth x g → 0 < g → Plus x
above nan g w l = absurd w
above (inf s) g w l = absurd w
above (fin true m e) g w l = absurd (omega arith)
above (fin false m e) g w l = refl

-- ---- the way forward

module _ (a b c : Float) (g h l : ℕ) (k : IsCircle c) (C : Count c l) (fa : F64.is_finite a ≡ true) (fb : F64.is_finite b ≡ true)
    (A : Count (wrap_position a c) g) (B : Count (wrap_position b c) h) where
  opened : forward_distance a b c ≡ ahead (sub binary64 (wrap_position b c) (wrap_position a c)) c
  unfolding forward_distance
  opened = rw (k.1, fa, fb)

  pub straight : g ≤ h → Count (forward_distance a b c) (rounded (h - g))
  straight m =
      let d = sub binary64 (wrap_position b c) (wrap_position a c) in
      let D = sub_count (wrap_position b c) (wrap_position a c) h g B A m in
      rw (opened, not_below d (rounded (h - g)) D.value) D

  turned_is : h < g → g < l → forward_distance a b c ≡ held (l - rounded (g - h))
  turned_is m n =
      let G = at_most (g - h) C (le_trans (sub-le g h) (le_of_lt n)) in
      let v = held (g - h) in
      let p = plus_held (g - h) in
      let below = minus_below v (rounded (g - h)) p G.0.value (some (g - h) (omega arith) G.0.value) in
      rw (opened, sub_below (wrap_position b c) (wrap_position a c) h g B.value A.value m, below)
      (turn_is v c (rounded (g - h)) l G.1 p (circle_plus c k) G.0.value C.value)

  pub turned : h < g → g < l → Count (forward_distance a b c) (rounded (l - rounded (g - h)))
  turned m n = rw (turned_is m n) (at_most (l - rounded (g - h)) C (sub-le l (rounded (g - h)))).0

  -- from a position above 0 it has no sign
  pub forward_plus : 0 < g → g < l → Plus (forward_distance a b c)
  forward_plus z n = go (ltb h g) refl
    where
      d : Float
      d = sub binary64 (wrap_position b c) (wrap_position a c)

      go : (t : Bool) → ltb h g ≡ t → Plus (forward_distance a b c)
      go true i = rw (turned_is (ltb-true h g i) n) (plus_held (l - rounded (g - h)))
      go false i =
          let m = ltb-false h g i in
          let D = sub_count (wrap_position b c) (wrap_position a c) h g B A m in
          let e = sub_is (wrap_position b c) (wrap_position a c) h g m (above (wrap_position b c) h B.value (omega arith)) (above (wrap_position a c) g A.value z) B.value A.value in
          rw (opened, not_below d (rounded (h - g)) D.value) (rw e (plus_held (h - g)))

-- ---- there and back

-- c - (c - x) is x
abbrev back_again : ℕ → ℕ → Type 0
back_again l g = rounded (l - rounded (l - g)) ≡ g

returned : (x c : Float) (g l : ℕ) → Count c l → Count x g → g ≤ l → eq (sub binary64 c (sub binary64 c x)) x ≡ true → back_again l g
returned x c g l C D m e =
    let r = at_most (l - g) C (sub-le l g) in
    let S = sub_count c x l g C D m in
    let w = sub_count c (sub binary64 c x) l (rounded (l - g)) C S r.1 in
    eqb-true (rounded (l - rounded (l - g))) g (sym (eq_is (sub binary64 c (sub binary64 c x)) x (rounded (l - rounded (l - g))) g w.value D.value) ∙ e)

-- each is c minus the other, rounded
Opposite : ℕ → ℕ → ℕ → Type 0
Opposite l d e = (d ≡ e) ⊎ ((e ≡ rounded (l - d)) ⊎ (d ≡ rounded (l - e)))

swapped : (d e : ℕ) → least d e ≡ least e d
swapped d e = go (ltb d e) (ltb e d) refl refl
  where
    go : (t u : Bool) → ltb d e ≡ t → ltb e d ≡ u → cond t d e ≡ cond u e d
    go true true i j = omega (arith, ltb-true d e i, ltb-true e d j)
    go true false i j = refl
    go false true i j = refl
    go false false i j = omega (arith, ltb-false d e i, ltb-false e d j)

alike : (l d e : ℕ) → Opposite l d e → back_again l d → back_again l e → least d (rounded (l - d)) ≡ least e (rounded (l - e))
unfolding Opposite
alike l d e (inl i) p q = rw i
alike l d e (inr (inl i)) p q = rw (i, p) (swapped d (rounded (l - d)))
alike l d e (inr (inr i)) p q = rw (i, q) (swapped (rounded (l - e)) e)

opposite : (a b c : Float) (d e l : ℕ) → IsCircle c → Count c l → Count (forward_distance a b c) d → Count (forward_distance b a c) e → Opposite l d e
unfolding Opposite forward_distance
opposite a b c d e l k C D E = go (F64.is_finite a) (F64.is_finite b) refl refl
  where
    count : {x : Float} {g h : ℕ} → Count x g → Count x h → g ≡ h
    count {x} {g} {h} p q = worth_same x g h p.value q.value

    -- no way at all
    nowhere : forward_distance a b c ≡ F64.zero → forward_distance b a c ≡ F64.zero → Opposite l d e
    nowhere i j = inl (worth_same F64.zero d e (rw i at D.value) (rw j at E.value))

    go : (t u : Bool) → F64.is_finite a ≡ t → F64.is_finite b ≡ u → Opposite l d e
    go false u i j = nowhere (rw (k.1, i)) (rw (k.1, i, or-true (not (F64.is_finite b))))
    go true false i j = nowhere (rw (k.1, i, j)) (rw (k.1, j))
    go true true i j =
        let A = wrap_count a c l k C i in
        let B = wrap_count b c l k C j in
        let g = A.0 in
        let h = B.0 in
        by A B (ltb g h) (ltb h g) refl refl
      where
        by : (A : (g : ℕ) × Count (wrap_position a c) g × (g < l)) (B : (h : ℕ) × Count (wrap_position b c) h × (h < l)) (t u : Bool)
            → ltb A.0 B.0 ≡ t → ltb B.0 A.0 ≡ u → Opposite l d e
        by A B true u p q =
            let there = straight a b c A.0 B.0 l k C i j A.1 B.1 (le_of_lt (ltb-true A.0 B.0 p)) in
            let round_about = turned b a c B.0 A.0 l k C j i B.1 A.1 (ltb-true A.0 B.0 p) B.2 in
            inr (inl (count E round_about ∙ ap (λ (x : ℕ). rounded (l - x)) (count there D)))
        by A B false true p q =
            let there = straight b a c B.0 A.0 l k C j i B.1 A.1 (le_of_lt (ltb-true B.0 A.0 q)) in
            let round_about = turned a b c A.0 B.0 l k C i j A.1 B.1 (ltb-true B.0 A.0 q) A.2 in
            inr (inr (count D round_about ∙ ap (λ (x : ℕ). rounded (l - x)) (count there E)))
        by A B false false p q =
            let there = straight a b c A.0 B.0 l k C i j A.1 B.1 (ltb-false B.0 A.0 q) in
            let here = straight b a c B.0 A.0 l k C j i B.1 A.1 (ltb-false A.0 B.0 p) in
            let same : B.0 - A.0 ≡ A.0 - B.0 = omega (arith, ltb-false A.0 B.0 p, ltb-false B.0 A.0 q) in
            inl (count D there ∙ ap rounded same ∙ count here E)

pub cyclic_both_ways : CyclicBothWays
unfolding CyclicBothWays cyclic_distance of_bits eq
cyclic_both_ways a b c t p q = go (is_degenerate c) refl
  where
    go : (x : Bool) → is_degenerate c ≡ x → eq (cyclic_distance a b c) (cyclic_distance b a c) ≡ true
    go true h = rw h
    go false h =
        let k : IsCircle c = (t, h) in
        let C = circle_count c k in
        let l = C.0 in
        let D = forward_count a b c l k C.1 in
        let E = forward_count b a c l k C.1 in
        let d = D.0 in
        let e = E.0 in
        let there = returned (forward_distance a b c) c d l C.1 D.1 D.2 p in
        let here = returned (forward_distance b a c) c e l C.1 E.1 E.2 q in
        eq_is (cyclic_distance a b c) (cyclic_distance b a c) (least d (rounded (l - d))) (least e (rounded (l - e)))
        (cyclic_count a b c d l k C.1 D.1 D.2).value (cyclic_count b a c e l k C.1 E.1 E.2).value
        ∙ eq-eqb (least d (rounded (l - d))) (least e (rounded (l - e))) (alike l d e (opposite a b c d e l k C.1 D.1 E.1) there here)
