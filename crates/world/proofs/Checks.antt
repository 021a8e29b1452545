-- What a list of checks comes to, and what is known of the checks where it is known what they came to. Assumes
-- nothing.
use mathlib.Core.Path.{◌≡◌, refl, subst}
use mathlib.Core.Logic.{◌⊎◌, inl, inr}
use mathlib.Core.Bool.{Bool, true, false, ◌&&◌}
use mathlib.Core.List.{List, [], ◌∷◌}
use Rattle.laws.proofs.Bools.{and_left, and_right}
use Rattle.laws.proofs.Choices.{cases}
use Rattle.world.specs.declared.refusal.Refusal.{Refusal}
use Rattle.world.specs.Refusal.{Check, unless}

-- no condition holds
abbrev pub Passed : List Check → Type 0
Passed [] = Unit {0}
Passed (c ∷ cs) = (c.holds ≡ false) × Passed cs

-- the refusal is that of the first condition that holds
abbrev pub First : Refusal → List Check → Type 0
First r [] = ⊥
First r (c ∷ cs) = ((c.holds ≡ true) × (c.refusal ≡ r)) ⊎ ((c.holds ≡ false) × First r cs)

-- from the checks to what they come to: it has what is made of the first refusal has, and what follows has
pub unless_has : {A : Type 0} (P : A → Type 0) (cs : List Check) (refused : Refusal → A) (next : A)
    → ((r : Refusal) → First r cs → P (refused r)) → (Passed cs → P next) → P (unless cs refused next)
unless_has P [] refused next h k = k tt
unless_has P (c ∷ cs) refused next h k =
    cases P c.holds (λ e. h c.refusal (inl (e, refl))) (λ e. unless_has P cs refused next (λ r q. h r (inr (e, q))) (λ q. k (e, q)))

-- every refusal of the checks meets a test
abbrev pub all : (Refusal → Bool) → List Check → Bool
all test [] = true
all test (c ∷ cs) = test c.refusal && all test cs

pub first_of : (test : Refusal → Bool) (cs : List Check) {r : Refusal} → all test cs ≡ true → First r cs → test r ≡ true
first_of test [] e q = absurd q
first_of test (c ∷ cs) e (inl q) = subst (λ (x : Refusal). test x ≡ true) q.1 (and_left (test c.refusal) (all test cs) e)
first_of test (c ∷ cs) e (inr q) = first_of test cs (and_right (test c.refusal) (all test cs) e) q.1

-- and back: where they came to what is not made of a refusal, none holds
pub unless_passed : {A : Type 0} (cs : List Check) {refused : Refusal → A} {next x : A}
    → ((r : Refusal) → refused r ≡ x → ⊥) → unless cs refused next ≡ x → Passed cs × (next ≡ x)
unless_passed [] h = λ e. (tt, e)
unless_passed {A} (c ∷ cs) {refused} {next} {x} h =
    cases (λ (y : A). y ≡ x → Passed (c ∷ cs) × (next ≡ x)) c.holds
    (λ q e. absurd (h c.refusal e))
    (λ q e. let k = unless_passed cs h e in ((q, k.0), k.1))
