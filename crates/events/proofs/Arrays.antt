-- The arrays of a state: the parts [0..m] that code takes, and a list written to the front of an array of zeros.
use Prim.Native.Nat.{ℕ, zero, suc, ◌-◌, ◌<◌, ◌≤◌}
use mathlib.Core.Path.{◌≡◌, refl, sym, ap, ap₂, ◌∙◌}
use mathlib.Core.List.{List, [], ◌++◌}
use native.Mathlib.Nat.{sub-zero}
use native.Mathlib.Omega.{arith}
use borrow.Author.Tests.{le-ltb}
use lib.ListN.{length, set, take, drop, replicate, length-append, length-replicate}
use Rattle.limits.specs.Limits.{most_arcs}
use Rattle.game.specs.Tree.{tree_of}
use Rattle.answers.specs.Checks.{tree_check}
use Rattle.answers.specs.States.{State, padded, tree_in, state_check}
use Rattle.answers.specs.Events.{put_arc}

-- what is written for arc v stands at place v - 1
pub put_at : (l : List ℕ) (v x : ℕ) → 0 < v → set l (v - 1) x ≡ put_arc l v x
put_at l zero x h = absurd (omega arith)
put_at l (suc u) x h = ap (λ (i : ℕ). set l i x) {x = suc u - 1} {y = u} (omega arith)

-- the tree of a state, as the parts that code takes
pub part_tree : (s : State)
    → tree_of (take (s.arcs - 0) s.parents) (take (s.arcs - 0) s.costs) (take (s.arcs - 0) s.marks)
    ≡ tree_in s
unfolding tree_in
part_tree s = rw (sub-zero s.arcs)

pub state_check_few : (s : State) → s.arcs ≤ most_arcs → state_check s ≡ tree_check (tree_in s)
unfolding state_check
state_check_few s few = rw (le-ltb most_arcs s.arcs few)

zeros_left : (n k : ℕ) → drop k (replicate n 0) ≡ replicate {A = ℕ} (n - k) 0
zeros_left n zero = ap (λ (i : ℕ). replicate {A = ℕ} i 0) (sym (sub-zero n))
zeros_left zero (suc k) = ap (λ (i : ℕ). replicate {A = ℕ} i 0) {x = 0} {y = 0 - suc k} (omega arith)
zeros_left (suc n) (suc k) =
    zeros_left n k ∙ ap (λ (i : ℕ). replicate {A = ℕ} i 0) {x = n - k} {y = suc n - suc k} (omega arith)

-- a list that is short enough fills an array when it is padded
pub padded_length : (l : List ℕ) → length l ≤ most_arcs → length (padded l) ≡ most_arcs
unfolding padded
padded_length l few =
    omega (
      arith,
      length-append l (replicate (most_arcs - length l) 0),
      length-replicate {A = ℕ} (most_arcs - length l) 0,
    )

pub zeros_padded : replicate most_arcs 0 ≡ padded []
unfolding padded
zeros_padded = refl

module _ {zeros : List ℕ} (are : zeros ≡ padded []) where
  pub zeros_are : zeros ≡ replicate most_arcs 0
  unfolding padded
  zeros_are = are

  pub zeros_room : length zeros ≡ most_arcs
  zeros_room = ap length are ∙ padded_length [] (omega arith)

  pub front_padded : {front l : List ℕ} {n : ℕ} → front ≡ l → n ≡ length l → front ++ drop (n - 0) zeros ≡ padded l
  unfolding padded
  front_padded {l = l} {n = n} is len =
      ap₂ (λ (a b : List ℕ). a ++ b) is
      (ap (drop (n - 0)) zeros_are ∙ zeros_left most_arcs (n - 0)
      ∙ ap (λ (i : ℕ). replicate {A = ℕ} i 0) {x = most_arcs - (n - 0)} {y = most_arcs - length l} (omega (arith, len)))
