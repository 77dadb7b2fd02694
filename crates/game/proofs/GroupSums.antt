-- Laws of sums over all groups.
use Prim.Native.Nat.{ℕ, suc, ◌+◌, ◌*◌}
use mathlib.Core.Path.{◌≡◌, refl, sym, ap₂, ◌∙◌}
use mathlib.Core.Bool.{Bool, true, false}
use mathlib.Core.List.{List, [], ◌∷◌, ◌++◌, map}
use native.Mathlib.Nat.{mul-zero}
use native.Mathlib.Omega.{arith}
use Rattle.basics.specs.Sum.{pick, sum}
use Rattle.game.specs.Search.{groups}
use Rattle.game.specs.Shapley.{over_all}
use Rattle.basics.proofs.Sums.{sum_add, sum_zero}

over_append : (f : List Bool → ℕ) (l r : List (List Bool)) → over_all f (l ++ r) ≡ over_all f l + over_all f r
unfolding over_all
over_append f [] r = omega arith
over_append f (g ∷ l) r = omega (arith, over_append f l r)

over_map : (f : List Bool → ℕ) (h : List Bool → List Bool) (l : List (List Bool))
    → over_all f (map h l) ≡ over_all (λ g. f (h g)) l
unfolding over_all
over_map f h [] = refl
over_map f h (g ∷ l) = omega (arith, over_map f h l)

-- the groups without the first number, and those with it
pub over_first : (f : List Bool → ℕ) (n : ℕ)
    → over_all f (groups (suc n)) ≡ over_all (λ g. f (false ∷ g)) (groups n) + over_all (λ g. f (true ∷ g)) (groups n)
unfolding groups
over_first f n =
    over_append f (map (λ g. false ∷ g) (groups n)) (map (λ g. true ∷ g) (groups n))
    ∙ ap₂ (λ (a b : ℕ). a + b) (over_map f (λ g. false ∷ g) (groups n)) (over_map f (λ g. true ∷ g) (groups n))

pub over_cong : (l : List (List Bool)) {f h : List Bool → ℕ} → ((g : List Bool) → f g ≡ h g) → over_all f l ≡ over_all h l
unfolding over_all
over_cong [] e = refl
over_cong (g ∷ l) e = ap₂ (λ (a b : ℕ). a + b) (e g) (over_cong l e)

pub over_zero : (l : List (List Bool)) → over_all (λ g. 0) l ≡ 0
unfolding over_all
over_zero [] = refl
over_zero (g ∷ l) = omega (arith, over_zero l)

pub over_times : (c : ℕ) (f : List Bool → ℕ) (l : List (List Bool)) → over_all (λ g. c * f g) l ≡ c * over_all f l
unfolding over_all
over_times c f [] = sym (mul-zero c)
over_times c f (g ∷ l) = omega (arith, over_times c f l)

pub over_pick : (b : Bool) (f : List Bool → ℕ) (l : List (List Bool))
    → over_all (λ g. pick b (f g)) l ≡ pick b (over_all f l)
over_pick true f l = refl
over_pick false f l = over_zero l

-- a sum over groups and one over numbers change places
pub over_sum : (m : ℕ) (f : ℕ → List Bool → ℕ) (l : List (List Bool))
    → over_all (λ g. sum m (λ k. f k g)) l ≡ sum m (λ k. over_all (f k) l)
unfolding over_all
over_sum m f [] = sym (sum_zero m (λ k i. refl))
over_sum m f (g ∷ l) = omega (arith, over_sum m f l, sum_add m (λ k. f k g) (λ k. over_all (f k) l))
