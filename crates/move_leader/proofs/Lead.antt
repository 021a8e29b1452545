-- The search of the leader: what it holds is the leader among the cars passed, and that one is the nearest: a car more
-- is no other of the line, or is nearer, or is not. Assumes nothing.
use mathlib.Core.Path.{◌≡◌, refl, sym, subst, ap, ◌∙◌}
use mathlib.Core.Bool.{Bool, true, false, not, cond}
use mathlib.Core.List.{List}
use mathlib.Core.Logic.{⊎_elim}
use Prim.Native.Nat.{ℕ, zero, suc, ◌+◌, ◌<◌, ◌≤◌, min}
use native.Mathlib.Nat.{eq-or-lt_of_le, le_of_suc-le-suc}
use native.Mathlib.Numerals.{add-one}
use native.Mathlib.Omega.{arith}
use Rattle.std.proofs.lemmas.List.{get_or-take}
use lib.Dec.{eqb}
use lib.Ieee.{Float}
use borrow.Author.Tests.{eqb-true, eqb-false, eq-eqb, ne_eqb, not-true}
use Rattle.float.specs.Float.{is_total_before}
use Rattle.float.specs.Facts.{TotalOrder}
use Rattle.laws.proofs.Bools.{no, and_left, and_right}
use Rattle.float.proofs.Total.{total_order}
use Rattle.world.specs.World.{car_at}
use Rattle.move_leader.specs.Leader.{car_position, is_other, distance_to_car, leader_or, leader_to, leader_pos, loop_leader_pos, IsOther, Led, LeaderIsNearest}
use Rattle.move_leader.specs.Parts.{nearer_leader}
use Rattle.world.specs.declared.Car.{Car}
use Rattle.std.specs.declared.option.Option.{Option}
use Rattle.std.specs.Option.{option_map}
use Rattle.std.specs.declared.option.Option.TheVariants.{None, Some}

-- ---- the code's turn

-- what the search holds: the leader's distance and position
abbrev pub held : List Car → Float → Float → Option ℕ → Option (Float × Float)
held cars pos circumference None = None
held cars pos circumference (Some j) = Some (distance_to_car cars pos circumference j, car_position cars j)

module _ (cars : List Car) (pos circumference : Float) where
  or_nearer : (x : Option ℕ) (i : ℕ)
      → nearer_leader (held cars pos circumference x) (distance_to_car cars pos circumference i) (car_position cars i) ≡ held cars pos circumference (leader_or cars pos circumference x i)
  or_nearer None i = refl
  or_nearer (Some j) i = by (is_total_before (distance_to_car cars pos circumference i) (distance_to_car cars pos circumference j))
    where
      by : (b : Bool)
          → cond b (Some (distance_to_car cars pos circumference i, car_position cars i)) (Some (distance_to_car cars pos circumference j, car_position cars j))
          ≡ held cars pos circumference (cond b (Some i) (Some j))
      by true = refl
      by false = refl

  module _ (me line : ℕ) where
    pub none_yet : None ≡ held cars pos circumference (leader_to cars me line pos circumference 0)
    unfolding leader_to
    none_yet = refl

    module _ (i : ℕ) (best : Option (Float × Float)) (h : best ≡ held cars pos circumference (leader_to cars me line pos circumference i)) where
      pub taken : is_other cars me line i ≡ true
          → nearer_leader best (distance_to_car cars pos circumference i) (car_position cars i)
          ≡ held cars pos circumference (leader_to cars me line pos circumference (i + 1))
      unfolding leader_to
      taken t = rw (add-one, t, h) (or_nearer (leader_to cars me line pos circumference i) i)

      pub passed : is_other cars me line i ≡ false
          → best ≡ held cars pos circumference (leader_to cars me line pos circumference (i + 1))
      unfolding leader_to
      passed t = rw (add-one, t) h

-- its position
pub placed : (cars : List Car) (pos circumference : Float) (x : Option ℕ) (best : Option (Float × Float))
    → best ≡ held cars pos circumference x → option_map (λ (p : Float × Float). p.1) best ≡ leader_pos cars x
placed cars pos circumference None best h = rw h
placed cars pos circumference (Some j) best h = rw h

-- one turn of the search
pub ruleset turn_of = (none_yet, taken, passed, placed, get_or-take)

-- ---- the claim

itself : (x : Float) → is_total_before x x ≡ false
unfolding TotalOrder
itself = total_order.0

through : (x y z : Float) → is_total_before x y ≡ true → is_total_before y z ≡ true → is_total_before x z ≡ true
unfolding TotalOrder
through = total_order.1

-- what holds below n and at n holds below n + 1
extend : (P : ℕ → Type 0) (n : ℕ) → ((k : ℕ) → k < n → P k) → P n → (k : ℕ) → k < suc n → P k
extend P n all here k l = ⊎_elim (λ e. subst P (sym e) here) (λ lt. all k lt) (eq-or-lt_of_le (le_of_suc-le-suc l))

module _ (cars : List Car) (me line : ℕ) (pos circumference : Float) where
  abbrev d : ℕ → Float
  d = distance_to_car cars pos circumference

  abbrev other : ℕ → Type 0
  other k = is_other cars me line k ≡ true

  -- x is the leader among the first n cars
  abbrev Best : ℕ → Option ℕ → Type 0
  Best n None = (k : ℕ) → k < n → other k → ⊥
  Best n (Some j) = (j < n) × other j × ((k : ℕ) → k < n → other k → is_total_before (d k) (d j) ≡ false) × ((k : ℕ) → k < n → other k → d k ≡ d j → j ≤ k)

  -- car n is no other car of the line
  skip : (n : ℕ) (x : Option ℕ) → is_other cars me line n ≡ false → Best n x → Best (suc n) x
  skip n None t h = extend (λ (k : ℕ). other k → ⊥) n h (λ o. no (sym t ∙ o))
  skip n (Some j) t h = (
    omega arith,
    h.1,
    extend (λ (k : ℕ). other k → is_total_before (d k) (d j) ≡ false) n h.2 (λ o. no (sym t ∙ o)),
    extend (λ (k : ℕ). other k → d k ≡ d j → j ≤ k) n h.3 (λ o. no (sym t ∙ o)),
  )

  -- car n is the first, or nearer
  first : (n : ℕ) → other n → Best n None → Best (suc n) (Some n)
  first n o h = (
    omega arith,
    o,
    extend (λ (k : ℕ). other k → is_total_before (d k) (d n) ≡ false) n (λ k l p. absurd (h k l p)) (λ _. itself (d n)),
    extend (λ (k : ℕ). other k → d k ≡ d n → n ≤ k) n (λ k l p. absurd (h k l p)) (λ _ _. omega arith),
  )

  not_before : (b : Bool) → (b ≡ true → ⊥) → b ≡ false
  not_before true h = absurd (h refl)
  not_before false h = refl

  comes_nearer : (n j : ℕ) → other n → is_total_before (d n) (d j) ≡ true → Best n (Some j) → Best (suc n) (Some n)
  comes_nearer n j o t h = (
    omega arith,
    o,
    extend (λ (k : ℕ). other k → is_total_before (d k) (d n) ≡ false) n
        (λ k l p. not_before (is_total_before (d k) (d n)) (λ b. no (sym (h.2 k l p) ∙ through (d k) (d n) (d j) b t)))
        (λ _. itself (d n)),
    extend (λ (k : ℕ). other k → d k ≡ d n → n ≤ k) n
        (λ k l p e. no (sym (h.2 k l p) ∙ (ap (λ (x : Float). is_total_before x (d j)) e ∙ t)))
        (λ _ _. omega arith),
  )

  farther : (n j : ℕ) → is_total_before (d n) (d j) ≡ false → Best n (Some j) → Best (suc n) (Some j)
  farther n j t h = (
    omega arith,
    h.1,
    extend (λ (k : ℕ). other k → is_total_before (d k) (d j) ≡ false) n h.2 (λ _. t),
    extend (λ (k : ℕ). other k → d k ≡ d j → j ≤ k) n h.3 (λ _ _. let l : j < n = h.0 in omega arith),
  )

  turn : (n : ℕ) (x : Option ℕ) → other n → Best n x → Best (suc n) (leader_or cars pos circumference x n)
  turn n None o h = first n o h
  turn n (Some j) o h = by (is_total_before (d n) (d j)) refl
    where
      by : (b : Bool) → is_total_before (d n) (d j) ≡ b → Best (suc n) (cond b (Some n) (Some j))
      by true t = comes_nearer n j o t h
      by false t = farther n j t h

  best : (n : ℕ) → Best n (leader_to cars me line pos circumference n)
  unfolding leader_to
  best zero = λ k l. absurd (omega arith)
  best (suc n) = by (best n) (is_other cars me line n) refl
    where
      by : Best n (leader_to cars me line pos circumference n) → (b : Bool) → is_other cars me line n ≡ b
          → Best (suc n) (cond b (leader_or cars pos circumference (leader_to cars me line pos circumference n) n) (leader_to cars me line pos circumference n))
      by h true t = turn n (leader_to cars me line pos circumference n) t h
      by h false t = skip n (leader_to cars me line pos circumference n) t h

  -- the tests and what they say
  is_other_lem : (count k : ℕ) → IsOther cars count me line k → other k
  is_other_lem count k h = rw (ne_eqb k me h.1.0, eq-eqb (car_at cars k).line line h.1.1)

  other_is : (count k : ℕ) → k < min count 16 → other k → IsOther cars count me line k
  other_is count k l o = (
    l,
    (
      eqb-false k me (not-true (eqb k me) (and_left (not (eqb k me)) (eqb (car_at cars k).line line) o)),
      eqb-true (car_at cars k).line line (and_right (not (eqb k me)) (eqb (car_at cars k).line line) o),
    ),
  )

  led : (count : ℕ) (x : Option ℕ) → Best (min count 16) x → Led cars count me line pos circumference (leader_pos cars x)
  led count None h = λ k o. h k o.0 (is_other_lem count k o)
  led count (Some j) h = (
    j,
    (
      record {
        other = other_is count j h.0 h.1;
        least = λ k o. h.2 k o.0 (is_other_lem count k o);
        lower = λ k o. h.3 k o.0 (is_other_lem count k o);
      },
      refl,
    ),
  )

pub leader_is_nearest : LeaderIsNearest
unfolding LeaderIsNearest loop_leader_pos
leader_is_nearest cars me line pos circumference =
    led cars.items me line pos circumference cars.count (leader_to cars.items me line pos circumference (min cars.count 16))
    (best cars.items me line pos circumference (min cars.count 16))
