-- Laws on truth values. Assumes nothing.
use mathlib.Core.Path.{◌≡◌, refl, sym, subst}
use mathlib.Core.Bool.{Bool, true, false, not, ◌&&◌, ◌||◌, true≢false}
use lib.Dec.{T}

pub no : {A : Type 0} → false ≡ true → A
no h = absurd (true≢false (sym h))

pub yes : {A : Type 0} → true ≡ false → A
yes h = absurd (true≢false h)

pub holds : {b : Bool} → b ≡ true → T b
holds h = subst T (sym h) tt

pub fails : {b : Bool} → b ≡ false → T (not b)
fails h = subst (λ (x : Bool). T (not x)) (sym h) tt

pub and_right : (a b : Bool) → (a && b) ≡ true → b ≡ true
and_right true b h = h
and_right false b h = no h

pub and_left : (a b : Bool) → (a && b) ≡ true → a ≡ true
and_left true b h = refl
and_left false b h = no h

pub or_left : (a b : Bool) → (a || b) ≡ false → a ≡ false
or_left true b h = h
or_left false b h = refl

pub or_right : (a b : Bool) → (a || b) ≡ false → b ≡ false
or_right true b h = yes h
or_right false b h = h
