-- The cap sums where every cap is 1 are the numbers of users.
use Prim.Native.Nat.{ℕ}
use mathlib.Core.Path.{◌≡◌, sym, ap, ◌∙◌, fun_ext}
use mathlib.Core.List.{List}
use native.Mathlib.Decide.{dec_lt}
use native.Mathlib.Omega.{arith}
use lib.ListN.{get_or, replicate, length-replicate, get_or-replicate, get_or-eq_default}
use Rattle.basics.specs.Sum.{pick, list, size}
use Rattle.game.specs.Network.{Network, member_count}
use Rattle.game.specs.Core.{users}
use Rattle.game.specs.ByArc.{user_count}
use Rattle.basics.proofs.Sums.{sum₀_cong}
use Rattle.game.proofs.Core.{users_by_vertex}
use Rattle.tree.specs.Passes.{Capped}
use Rattle.answers.specs.Level.{cap_sum}

-- k ones, one a member
module _ {ones : List ℕ} {k : ℕ} (are : ones ≡ replicate k 1) where
  -- they are one cap a member, none above the limit
  pub ones_capped : {n : ℕ} → k ≡ n → Capped n ones
  ones_capped {n} e =
      rw (are, e)
      (record {
        sized = length-replicate n 1;
        limited = λ j.
            elim (dec_lt j n) [
              | yes h ↦ omega (arith, get_or-replicate {A = ℕ} n j 1 0 h)
              | no h ↦ omega (
                arith,
                get_or-eq_default {A = ℕ} (replicate n 1) 0 {n = j}
                    (omega (arith, length-replicate {A = ℕ} n 1)),
              )
            ];
      })

  pub ones_count : (n : Network) → k ≡ member_count n → list n.arcs (cap_sum n ones) ≡ list n.arcs (user_count n)
  unfolding size
  ones_count n e =
      rw (are, e)
      (ap (list n.arcs)
      (fun_ext
      (λ a.
      sym (users_by_vertex n (λ j. get_or (replicate (member_count n) 1) j 0) a)
      ∙ sum₀_cong (member_count n)
      (λ j h. ap (pick (users n a j)) (get_or-replicate {A = ℕ} (member_count n) j 1 0 h)))))
