-- Tests that decide a condition, and how they go together. Assumes nothing.
use mathlib.Core.Path.{◌≡◌, refl, sym, subst, subst⁻¹, ◌∙◌}
use mathlib.Core.Logic.{◌⊎◌, inl, inr}
use mathlib.Core.Bool.{Bool, true, false, not, ◌&&◌, ◌||◌, cond}
use Prim.Native.Nat.{ℕ, zero, suc, ◌<◌, ◌≤◌}
use native.Mathlib.Omega.{arith}
use lib.Dec.{leb, ltb, eqb}
use borrow.Author.Tests.{ltb-true, ltb-false, lt-ltb, leb-true, le-leb, lt-leb, eqb-true, eq-eqb}
use Rattle.laws.proofs.Bools.{no, yes}
use Rattle.world_sound_rows.specs.Rows.{is_any_below}

-- the test passes exactly where the condition holds
pub record Decides (P : Type 0) (b : Bool) : Type 0 where
  pub so : b ≡ true → P
  pub back : P → b ≡ true

-- ---- numbers and flags

pub less : (a b : ℕ) → Decides (a < b) (ltb a b)
less a b = record { so = ltb-true a b; back = lt-ltb a b }

pub most : (a b : ℕ) → Decides (a ≤ b) (leb a b)
most a b = record { so = leb-true a b; back = le-leb a b }

pub same : (a b : ℕ) → Decides (a ≡ b) (eqb a b)
same a b = record { so = eqb-true a b; back = eq-eqb a b }

pub flag : (b : Bool) → Decides (b ≡ true) b
flag b = record { so = λ e. e; back = λ e. e }

pub clear : (b : Bool) → Decides (b ≡ false) (not b)
clear true = record { so = λ e. sym e; back = λ e. sym e }
clear false = record { so = λ e. refl; back = λ e. refl }

-- ---- together

-- the test fails where the condition does not hold
pub fails : {P : Type 0} {b : Bool} → Decides P b → (P → ⊥) → b ≡ false
fails {b = true} d h = absurd (h (d.so refl))
fails {b = false} d h = refl

pub holds_not : {P : Type 0} {b : Bool} → Decides P b → b ≡ false → P → ⊥
holds_not d e p = yes (sym (d.back p) ∙ e)

-- the same condition in other words
pub through : {P Q : Type 0} {b : Bool} → (P → Q) → (Q → P) → Decides P b → Decides Q b
through f g d = record { so = λ e. f (d.so e); back = λ q. d.back (g q) }

pub never : {P : Type 0} → (P → ⊥) → Decides P false
never h = record { so = λ e. no e; back = λ p. absurd (h p) }

pub non : {P : Type 0} {b : Bool} → Decides P b → Decides (P → ⊥) (not b)
non {b = true} d = record { so = λ e. no e; back = λ h. absurd (h (d.so refl)) }
non {b = false} d = record { so = λ e p. no (d.back p); back = λ h. refl }

infixl 35 ◌and◌
pub ◌and◌ : {P Q : Type 0} {a b : Bool} → Decides P a → Decides Q b → Decides (P × Q) (a && b)
◌and◌ {a = true} c d = record { so = λ e. (c.so refl, d.so e); back = λ p. d.back p.1 }
◌and◌ {a = false} c d = record { so = λ e. no e; back = λ p. c.back p.0 }

infixl 30 ◌or◌
pub ◌or◌ : {P Q : Type 0} {a b : Bool} → Decides P a → Decides Q b → Decides (P ⊎ Q) (a || b)
◌or◌ {P} {Q} {a = true} {b} c d = record { so = λ e. inl (c.so refl); back = λ p. refl }
◌or◌ {P} {Q} {a = false} {b} c d = record { so = λ e. inr (d.so e); back = back_or }
  where
    back_or : P ⊎ Q → b ≡ true
    back_or (inl p) = no (c.back p)
    back_or (inr q) = d.back q

-- a test for numbers past the table that finds none
pub past : {P : Type 0} {b : Bool} (size number : ℕ) → number < size → Decides P b → Decides P (leb size number || b)
past {P} {b} size number h d = subst⁻¹ (λ (x : Bool). Decides P (x || b)) (lt-leb size number h) d

-- a choice by a test
pub choice : {P Q R : Type 0} {a b c : Bool} → Decides P a → Decides Q b → Decides R c
    → Decides ((P × Q) ⊎ ((P → ⊥) × R)) (cond a b c)
choice {P} {Q} {R} {a = true} {b} {c} p q r = record { so = λ e. inl (p.so refl, q.so e); back = back_first }
  where
    back_first : (P × Q) ⊎ ((P → ⊥) × R) → b ≡ true
    back_first (inl x) = q.back x.1
    back_first (inr x) = absurd (x.0 (p.so refl))
choice {P} {Q} {R} {a = false} {b} {c} p q r = record { so = λ e. inr (λ x. no (p.back x), r.so e); back = back_second }
  where
    back_second : (P × Q) ⊎ ((P → ⊥) × R) → c ≡ true
    back_second (inl x) = no (p.back x.0)
    back_second (inr x) = r.back x.1

-- one of the numbers below a bound
abbrev pub AnyBelow : ℕ → (ℕ → Type 0) → Type 0
AnyBelow bound P = (i : ℕ) × (i < bound) × P i

pub any : {P : ℕ → Type 0} {f : ℕ → Bool} → ((i : ℕ) → Decides (P i) (f i)) → (bound : ℕ)
    → Decides (AnyBelow bound P) (is_any_below f bound)
unfolding is_any_below
any d zero = never (λ x. omega (arith, x.1))
any {P} {f} d (suc k) = through last split (any d k or d k)
  where
    last : AnyBelow k P ⊎ P k → AnyBelow (suc k) P
    last (inl x) = (x.0, omega (arith, x.1), x.2)
    last (inr p) = (k, omega arith, p)

    split : AnyBelow (suc k) P → AnyBelow k P ⊎ P k
    split x = go (ltb x.0 k) refl
      where
        go : (b : Bool) → ltb x.0 k ≡ b → AnyBelow k P ⊎ P k
        go true e = inl (x.0, ltb-true x.0 k e, x.2)
        go false e = let q : x.0 ≡ k = omega (arith, x.1, ltb-false x.0 k e) in inr (subst P q x.2)
