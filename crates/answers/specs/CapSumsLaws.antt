-- What is proved of the running sums of caps on every accepted tree, caps list and output list.
use Rattle.std.specs.Prelude.{ℕ, ◌≡◌, true, false, List, length, get_or, eqb}
use Rattle.basics.specs.Sum.{pick, sum, sum₀}
use Rattle.game.specs.Network.{used, everyone, number}
use Rattle.game.specs.Tree.{Tree, network, of_arc, marked}
use Rattle.answer_forms.specs.Answer.{value, accepted}
use Rattle.answers.specs.Laws.{ArcOf}
use Rattle.answers.specs.Level.{cap_sum}
use Rattle.answers.specs.CapSums.{cap_sums_check, cap_sums_answer, cap_sums_list}

-- what the list holds for arc k
abbrev pub sum_at : Tree → List ℕ → List ℕ → ℕ → ℕ
sum_at t caps out = of_arc (cap_sums_list t caps out)

-- what the list holds for the arcs that leave vertex v, added up
abbrev pub sum_from : Tree → List ℕ → List ℕ → ℕ → ℕ
sum_from t caps out v = sum (length t.parents) (λ u. pick (eqb (of_arc t.parents u) v) (sum_at t caps out u))

pub record CapSumsLaws (t : Tree) (caps out : List ℕ) : Type 0 where
  pub one_an_arc : length (cap_sums_list t caps out) ≡ length t.parents
  -- each is exactly the sum of the caps of the arc's users, so 0 where it has none
  pub of_users : (k : ℕ) → ArcOf t k → sum_at t caps out k ≡ cap_sum (network t) caps k
  pub of_nobody : (k : ℕ) → ArcOf t k → used (network t) everyone k ≡ false → sum_at t caps out k ≡ 0
  -- at a member's arc it is the member's cap, elsewhere those of the child arcs added up
  pub at_member : (k : ℕ) → ArcOf t k → marked t.marks k ≡ true
      → sum_at t caps out k ≡ get_or caps (number (network t) k) 0
  pub elsewhere : (k : ℕ) → ArcOf t k → marked t.marks k ≡ false → sum_at t caps out k ≡ sum_from t caps out k
  -- the number answered is the sum of the caps list, and of the sums at the arcs from the source
  pub answers_caps : cap_sums_answer t caps out ≡ value (sum₀ (length caps) (λ j. get_or caps j 0))
  pub answers_from_source : cap_sums_answer t caps out ≡ value (sum_from t caps out 0)

abbrev pub CapSumsStatement : Type 0
CapSumsStatement = (t : Tree) (caps out : List ℕ) → cap_sums_check t caps out ≡ accepted → CapSumsLaws t caps out
