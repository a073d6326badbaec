-- Lists made from those at the places below a bound, by the last one.
use Rattle.std.specs.Prelude.{ℕ, zero, suc, cond, List, [], ◌∷◌, ◌++◌, ltb}

-- f 0, .., f (n - 1), one after the other
unfoldable pub joined : {A : Type 0} → ℕ → (ℕ → List A) → List A
joined zero f = []
joined (suc n) f = joined n f ++ f n

-- the elements at the places below n
abbrev pub listed : {A : Type 0} → ℕ → (ℕ → A) → List A
listed n f = joined n (λ i. f i ∷ [])

-- the first n numbers of f, and zeros up to the size
abbrev pub first_of : ℕ → ℕ → (ℕ → ℕ) → List ℕ
first_of size n f = listed size (λ i. cond (ltb i n) (f i) 0)
