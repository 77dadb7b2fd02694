-- The table of totals as it is filled, class by class.
use Prim.Native.Nat.{ℕ, zero, suc, ◌+◌, ◌<◌}
use mathlib.Core.Path.{◌≡◌, refl}
use mathlib.Core.List.{List, ◌++◌}
use native.Mathlib.Omega.{arith}
use lib.ListN.{set, replicate}
use Rattle.basics.specs.Sum.{entries}
use Rattle.limits.specs.Limits.{most_classes}
use Rattle.answers.specs.Classes.{by_class}

module _ (paid cost : ℕ → ℕ) where
  -- the totals of the first c classes
  abbrev pub totals_to : ℕ → List ℕ
  totals_to c = by_class c paid ++ by_class c cost

  pub totals_start : replicate 8 0 ≡ totals_to 0
  unfolding entries
  totals_start = refl

  totals_on : (c : ℕ) → c < most_classes
      → set (set (totals_to c) c (paid c)) (most_classes + c) (cost c) ≡ totals_to (c + 1)
  unfolding entries
  totals_on zero h = refl
  totals_on (suc zero) h = refl
  totals_on (suc (suc zero)) h = refl
  totals_on (suc (suc (suc zero))) h = refl
  totals_on (suc (suc (suc (suc c)))) h = absurd (omega arith)

  -- the next class's totals in their places
  pub filled : (c : ℕ) → c < most_classes → {l : List ℕ} → l ≡ totals_to c
      → set (set l c (paid c)) (most_classes + c) (cost c) ≡ totals_to (c + 1)
  filled c h is = rw is (totals_on c h)
