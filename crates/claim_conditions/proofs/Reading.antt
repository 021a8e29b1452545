-- A list of checks that is read by a list of places: what the one answers is what the other says. Assumes nothing.
use mathlib.Core.Path.{◌≡◌, sym, ap, ◌∙◌}
use mathlib.Core.Logic.{◌⊎◌, inl, inr}
use mathlib.Core.Bool.{Bool, true, false, not, ◌&&◌}
use mathlib.Core.List.{List, [], ◌∷◌}
use Prim.Native.Nat.{ℕ}
use native.Mathlib.Omega.{arith}
use lib.Dec.{eqb}
use borrow.Author.Tests.{eqb-false, not-true}
use Rattle.laws.proofs.Bools.{yes, and_left, and_right}
use Rattle.world.specs.Refusal.{Check, refusal_number}
use Rattle.claim_conditions.specs.Refusals.{Cause, FirstHolds, Verdict, taken, refused, ByCauses}
use Rattle.claim_conditions.proofs.Deciding.{Decides, holds_not}

-- the verdict of the first check that holds
abbrev pub Says : List Check → Verdict → Type 0
Says [] x = x ≡ taken
Says (c ∷ cs) x = ((c.holds ≡ true) × (x ≡ refused (refusal_number c.refusal))) ⊎ ((c.holds ≡ false) × Says cs x)

-- the two verdicts
apart : {x : Verdict} (k : ℕ) → x ≡ taken → x ≡ refused k → ⊥
apart {x} k p q = let z : ◌≡◌ {A = ℕ} 0 1 = cc in omega arith

number_of : {x : Verdict} (k m : ℕ) → x ≡ refused k → x ≡ refused m → k ≡ m
number_of {x} k m p q = cc

module _ (x : Verdict) where
  -- the checks are read by the places
  pub record Read (cs : List Check) (ps : List Cause) : Type 0 where
    pub read : Says cs x → ByCauses ps x

  -- no check and no place is left
  pub done : Read [] []
  done = record { read = λ e. record { given = λ m. (λ q. apart m e q, λ f. absurd f); passed = (λ q. tt, λ q. e) } }

  skipped : {p : Cause} {ps : List Cause} → (p.Holds → ⊥) → ByCauses ps x → ByCauses (p ∷ ps) x
  skipped {p} {ps} h r = record {
    given = λ m. (λ q. inr (h, (r.given m).0 q), back m);
    passed = (λ q. (h, r.passed.0 q), λ q. r.passed.1 q.1);
  }
    where
      back : (m : ℕ) → FirstHolds m (p ∷ ps) → x ≡ refused m
      back m (inl q) = absurd (h q.1)
      back m (inr q) = (r.given m).1 q.1

  met : {p : Cause} {ps : List Cause} → x ≡ refused p.number → p.Holds → ByCauses (p ∷ ps) x
  met {p} {ps} e h = record {
    given = λ m. (λ q. inl (number_of p.number m e q, h), back m);
    passed = (λ q. absurd (apart p.number q e), λ q. absurd (q.0 h));
  }
    where
      back : (m : ℕ) → FirstHolds m (p ∷ ps) → x ≡ refused m
      back m (inl q) = e ∙ ap refused q.0
      back m (inr q) = absurd (q.0 h)

  -- a place that the checks do not ask
  pub silent : {cs : List Check} {p : Cause} {ps : List Cause} → (p.Holds → ⊥) → ((p.Holds → ⊥) → Read cs ps)
      → Read cs (p ∷ ps)
  silent h r = record { read = λ q. skipped h ((r h).read q) }

  -- a check that decides a place of its number
  pub asked : {c : Check} {cs : List Check} {p : Cause} {ps : List Cause}
      → refusal_number c.refusal ≡ p.number → Decides p.Holds c.holds → ((p.Holds → ⊥) → Read cs ps)
      → Read (c ∷ cs) (p ∷ ps)
  asked {c} {cs} {p} {ps} e d r = record { read = go }
    where
      go : Says (c ∷ cs) x → ByCauses (p ∷ ps) x
      go (inl q) = met (q.1 ∙ ap refused e) (d.so q.0)
      go (inr q) = let h : (p.Holds → ⊥) = holds_not d q.0 in skipped h ((r h).read q.1)

  -- a check that never holds
  pub unmet : {c : Check} {cs : List Check} {ps : List Cause} → c.holds ≡ false → (c.holds ≡ false → Read cs ps)
      → Read (c ∷ cs) ps
  unmet {c} {cs} {ps} e r = record { read = go }
    where
      go : Says (c ∷ cs) x → ByCauses ps x
      go (inl q) = yes (sym q.0 ∙ e)
      go (inr q) = (r q.0).read q.1

  -- a check that holds, at a place that has its condition
  pub sure : {c : Check} {cs : List Check} {p : Cause} {ps : List Cause}
      → refusal_number c.refusal ≡ p.number → c.holds ≡ true → p.Holds → Read (c ∷ cs) (p ∷ ps)
  sure {c} {cs} {p} {ps} e t h = record { read = go }
    where
      go : Says (c ∷ cs) x → ByCauses (p ∷ ps) x
      go (inl q) = met (q.1 ∙ ap refused e) h
      go (inr q) = yes (sym t ∙ q.0)

-- a number that no place has
abbrev pub is_none : ℕ → List Cause → Bool
is_none m [] = true
is_none m (p ∷ ps) = not (eqb p.number m) && is_none m ps

pub not_first : (m : ℕ) (ps : List Cause) → is_none m ps ≡ true → FirstHolds m ps → ⊥
not_first m [] e f = f
not_first m (p ∷ ps) e (inl q) = eqb-false p.number m (not-true (eqb p.number m) (and_left (not (eqb p.number m)) (is_none m ps) e)) q.0
not_first m (p ∷ ps) e (inr q) = not_first m ps (and_right (not (eqb p.number m)) (is_none m ps) e) q.1
