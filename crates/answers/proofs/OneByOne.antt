-- A loop that checks the numbers 1, 2, .. one by one: a turn.
use Prim.Native.Nat.{ℕ, zero, suc, ◌+◌, ◌≤◌}
use mathlib.Core.Path.{◌≡◌, sym, ap, ◌∙◌}
use native.Mathlib.Decide.{ℕ_discrete}
use native.Mathlib.Numerals.{add-one}
use native.Mathlib.Omega.{arith}
use Rattle.answer_forms.specs.Answer.{Check, accepted, refused, ◌then◌}
use Rattle.answers.specs.Checks.{one_by_one}

module _ (check : ℕ → Check) where
  -- what is found at number k is the answer for all numbers from k on
  stays : (k m : ℕ) {number place : ℕ} → one_by_one check k ≡ refused number place → k ≤ m
      → one_by_one check m ≡ refused number place
  unfolding one_by_one
  stays k zero e h = let z : k ≡ 0 = omega arith in rw z at e
  stays k (suc m) e h =
      elim (ℕ_discrete k (suc m)) [
        | yes d ↦ rw d at e
        | no d ↦ ap (λ (c : Check). c then check (suc m)) (stays k m e (omega arith))
      ]

  -- the numbers up to i are accepted, and here is what is found at the next one
  module _ (i : ℕ) {here : Check} (so_far : one_by_one check i ≡ accepted) (is : here ≡ check (suc i)) where
    turn : one_by_one check (i + 1) ≡ here
    unfolding one_by_one
    turn = ap (one_by_one check) (add-one i) ∙ ap (λ (c : Check). c then check (suc i)) so_far ∙ sym is

    pub step_accepted : here ≡ accepted → one_by_one check (i + 1) ≡ accepted
    step_accepted e = turn ∙ e

    pub step_refused : {number place : ℕ} → here ≡ refused number place → (m : ℕ) → i + 1 ≤ m → here ≡ one_by_one check m
    step_refused e m h = e ∙ sym (stays (i + 1) m (turn ∙ e) h)
