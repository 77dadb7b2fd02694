-- Finite sums, tests and lists over the numbers 1 to m, and over the numbers below n.
use Rattle.std.specs.Prelude.{ℕ, zero, suc, ◌+◌, Bool, true, false, cond, ◌||◌, List, [], ◌∷◌, ◌++◌, ltb}

-- x where the test holds, else 0
abbrev pub pick : Bool → ℕ → ℕ
pick true x = x
pick false x = 0

-- f 1 + f 2 + .. + f m
abbrev pub sum : ℕ → (ℕ → ℕ) → ℕ
sum zero f = 0
sum (suc m) f = sum m f + f (suc m)

-- how many of 1 to m pass the test
abbrev pub count : ℕ → (ℕ → Bool) → ℕ
count m f = sum m (λ k. pick (f k) 1)

-- whether one of 1 to m passes the test
abbrev pub some : ℕ → (ℕ → Bool) → Bool
some zero f = false
some (suc m) f = some m f || f (suc m)

-- the list f 1, f 2, .., f m
abbrev pub list : {A : Type 0} → ℕ → (ℕ → A) → List A
list zero f = []
list (suc m) f = list m f ++ (f (suc m) ∷ [])

-- f 0 + f 1 + .. + f (n - 1)
abbrev pub sum₀ : ℕ → (ℕ → ℕ) → ℕ
sum₀ zero f = 0
sum₀ (suc n) f = sum₀ n f + f n

-- how many of the numbers below n pass the test
unfoldable pub size : ℕ → (ℕ → Bool) → ℕ
size n g = sum₀ n (λ i. pick (g i) 1)

-- the list f 0, f 1, .., f (n - 1)
unfoldable pub entries : {A : Type 0} → ℕ → (ℕ → A) → List A
entries zero f = []
entries (suc n) f = entries n f ++ (f n ∷ [])

-- the sum of f over a list
unfoldable pub total : (ℕ → ℕ) → List ℕ → ℕ
total f [] = 0
total f (u ∷ us) = f u + total f us

-- the smaller of two numbers
abbrev pub smaller : ℕ → ℕ → ℕ
smaller a b = cond (ltb a b) a b
