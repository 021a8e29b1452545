-- The claims of specs/Sets.antt: adding 2 ^ p where bit p is unset sets that bit and no other, as the quotients by
-- lower powers of two keep their parity and those by higher ones stay; clearing takes it away again. Assumes nothing.
use mathlib.Core.Path.{◌≡◌, refl, sym, ap, ◌∙◌}
use mathlib.Core.Bool.{Bool, true, false, not, cond, or-true, or-false, and-true, and-false}
use Prim.Native.Nat.{ℕ, ◌+◌, ◌-◌, ◌*◌, ◌/◌, ◌%◌, ◌<◌, ◌^◌}
use native.Mathlib.Nat.{add-div_right, add-mul-div_right, add-mul-mod_self_right}
use native.Mathlib.Omega.{arith}
use lib.Dec.{eqb, leb, ltb}
use lib.Pow.{pow_pos, shr-shr}
use borrow.Author.Tests.{eqb-true, eqb-false, eq-eqb, ne_eqb, leb-false, lt-leb, ltb-true, ltb-false, not-true}
use Rattle.world_call_sets.specs.Calls.{is_called, pressed, cleared}
use Rattle.world_call_sets.specs.Sets.{Pressing, PressingTwice, Clearing, Sets}
use Rattle.world_call_sets.proofs.Bits.{either, bit_held, pow_above}

-- ---- 2 ^ p added

-- at p itself the quotient grows by one
at_it : (n p : ℕ) → is_called (n + 2 ^ p) p ≡ not (is_called n p)
unfolding is_called
at_it n p = rw (add-div_right n (pow_pos p)) (go (n / 2 ^ p) (eqb (n / 2 ^ p % 2) 1) refl)
  where
    go : (q : ℕ) (b : Bool) → eqb (q % 2) 1 ≡ b → eqb ((q + 1) % 2) 1 ≡ not b
    go q true h = let odd = eqb-true (q % 2) 1 h in ne_eqb ((q + 1) % 2) 1 (λ k. omega arith)
    go q false h = let even = eqb-false (q % 2) 1 h in eq-eqb ((q + 1) % 2) 1 (omega arith)

-- below p it grows by an even number
below_it : (n p s : ℕ) → s < p → is_called (n + 2 ^ p) s ≡ is_called n s
unfolding is_called
below_it n p s l =
    let k = 2 ^ (p - s - 1) in
    rw (pow_above p s l, add-mul-div_right n (k * 2) (pow_pos s), add-mul-mod_self_right (n / 2 ^ s) k 2)

-- above p it stays, as half of an even number does with one more
above_it : (n p s : ℕ) → p < s → is_called n p ≡ false → is_called (n + 2 ^ p) s ≡ is_called n s
unfolding is_called
above_it n p s l h =
    let q = n / 2 ^ p in
    rw (quotient (n + 2 ^ p), quotient n, add-div_right n (pow_pos p), half q (eqb-false (q % 2) 1 h))
  where
    quotient : (m : ℕ) → m / 2 ^ s ≡ m / 2 ^ p / 2 / 2 ^ (s - p - 1)
    quotient m =
        let k = s - p - 1 in
        let sum : s ≡ p + 1 + k = omega arith in
        ap (λ (x : ℕ). m / 2 ^ x) sum ∙ sym (shr-shr m (p + 1) k) ∙ ap (λ (x : ℕ). x / 2 ^ k) (sym (shr-shr m p 1))

    half : (q : ℕ) → (q % 2 ≡ 1 → ⊥) → (q + 1) / 2 ≡ q / 2
    half q even = omega arith

off_it : (n p s : ℕ) → (s ≡ p → ⊥) → is_called n p ≡ false → is_called (n + 2 ^ p) s ≡ is_called n s
off_it n p s ne h =
    either (ltb s p)
    (λ k. below_it n p s (ltb-true s p k))
    (λ k. let l = ltb-false s p k in above_it n p s (omega arith) h)

-- ---- the sets

-- the calls m have v at stop p, and what n has elsewhere
record OnlyAt (p : ℕ) (v : Bool) (n m : ℕ) : Type 0 where
  here : is_called m p ≡ v
  there : (s : ℕ) → (s ≡ p → ⊥) → is_called m s ≡ is_called n s

kept : (n p : ℕ) (v : Bool) → is_called n p ≡ v → OnlyAt p v n n
kept n p v h = record { here = h; there = λ s ne. refl }

added : (n p : ℕ) → is_called n p ≡ false → OnlyAt p true n (n + 2 ^ p)
added n p h = record { here = at_it n p ∙ ap not h; there = λ s ne. off_it n p s ne h }

removed : (n p : ℕ) → is_called n p ≡ true → OnlyAt p false n (n - 2 ^ p)
removed n p h =
    let rest = n - 2 ^ p in
    let back : rest + 2 ^ p ≡ n = omega (arith, bit_held n p h) in
    let was : not (is_called rest p) ≡ true = sym (at_it rest p) ∙ ap (λ (x : ℕ). is_called x p) back ∙ h in
    let gone = not-true (is_called rest p) was in
    record { here = gone; there = λ s ne. sym (off_it rest p s ne gone) ∙ ap (λ (x : ℕ). is_called x s) back }

pressed_only : (calls p : ℕ) → p < 64 → OnlyAt p true calls (pressed calls p)
unfolding pressed
pressed_only calls p l =
    rw (lt-leb 64 p l) (either (is_called calls p) (λ h. rw h (kept calls p true h)) (λ h. rw h (added calls p h)))

cleared_only : (calls p : ℕ) → OnlyAt p false calls (cleared calls p)
unfolding cleared
cleared_only calls p =
    either (is_called calls p) (λ h. rw h (removed calls p h)) (λ h. rw h (kept calls p false h))

-- so stop s has v where it is p, and what it had where not
member : {p : ℕ} {v : Bool} {n m : ℕ} → OnlyAt p v n m → (s : ℕ) → is_called m s ≡ cond (eqb s p) v (is_called n s)
member {p} {m = m} h s =
    either (eqb s p)
    (λ e. rw e (ap (λ (x : ℕ). is_called m x) (eqb-true s p e) ∙ h.here))
    (λ e. rw e (h.there s (eqb-false s p e)))

pressing : Pressing
unfolding Pressing
pressing calls p s l =
    let h = member (pressed_only calls p l) s in
    either (eqb s p) (λ e. simp (h, e, or-true)) (λ e. simp (h, e, or-false))

pressing_twice : PressingTwice
unfolding PressingTwice pressed
pressing_twice calls p =
    either (leb 64 p) (λ e. rw e) (λ e. let l = leb-false 64 p e in rw ((pressed_only calls p l).here, e))

clearing : Clearing
unfolding Clearing
clearing calls p s =
    let h = member (cleared_only calls p) s in
    either (eqb s p) (λ e. simp (h, e, and-false)) (λ e. simp (h, e, and-true))

pub all_sets : Sets
all_sets = record { pressing = pressing; twice = pressing_twice; clearing = clearing }
