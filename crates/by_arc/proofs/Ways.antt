-- The equal parts on the way to each vertex, from the source outward.
use Prim.Native.Nat.{ℕ, zero, suc, ◌+◌, ◌*◌, ◌/◌, ◌≤◌, ◌<◌}
use mathlib.Core.Path.{◌≡◌, sym, ap, ◌∙◌}
use mathlib.Core.Bool.{Bool}
use mathlib.Core.List.{List, []}
use native.Mathlib.Nat.{div-le_self}
use native.Mathlib.Omega.{arith}
use borrow.Author.Tests.{ne_eqb}
use lib.ListN.{length, get_or, set}
use lib.Dec.{eqb}
use Rattle.limits.specs.Limits.{most_cost, most_arcs}
use Rattle.basics.specs.Sum.{pick, list}
use Rattle.basics.proofs.Bools.{eqb_comm, pick_no, pick_le}
use Rattle.basics.proofs.Sums.{sum_cong, sum_add, sum_zero, sum_at, sum_bound}
use Rattle.basics.proofs.Filling.{Rewriting, rewriting_on}
use Rattle.basics.proofs.Lists.{list_is}
use Rattle.game.specs.Network.{Network, at_or_below}
use Rattle.game.specs.Tree.{network_of, of_arc}
use Rattle.game.proofs.Below.{Rooted, below_source, below_pick}
use Rattle.tree.specs.Passes.{Sound, Costed}
use Rattle.by_arc.specs.Shares.{sum_above}

module _ (n : Network) (rooted : Rooted n) (x : ℕ → ℕ) where
  above_source : sum_above n x 0 ≡ 0
  unfolding sum_above
  above_source = sum_zero n.arcs (λ k i. pick_no (x k) (below_source n rooted k ∙ ne_eqb k 0 (λ e. omega arith)))

  -- arc k is v's own, or above v's parent, and never both
  above_pick : (k v : ℕ)
      → pick (at_or_below n k (suc v)) (x k)
      ≡ pick (eqb (suc v) k) (x k) + pick (at_or_below n k (n.parent (suc v))) (x k)
  above_pick k v =
      below_pick n rooted k v (x k)
      ∙ ap (λ (b : Bool). pick b (x k) + pick (at_or_below n k (n.parent (suc v))) (x k)) (eqb_comm k (suc v))

  above_step : (v : ℕ) → suc v ≤ n.arcs → sum_above n x (suc v) ≡ sum_above n x (n.parent (suc v)) + x (suc v)
  unfolding sum_above
  above_step v h =
      sum_cong n.arcs (λ k i. above_pick k v)
      ∙ sum_add n.arcs (λ k. pick (eqb (suc v) k) (x k)) (λ k. pick (at_or_below n k (n.parent (suc v))) (x k))
      ∙ omega (arith, sum_at n.arcs (suc v) x (omega arith))

module _ (ps cs counts : List ℕ) where
  -- a user's part of each arc
  abbrev x : ℕ → ℕ
  x k = of_arc cs k / of_arc counts k

  -- the arcs up to i have the parts on the way in place of their numbers of users
  abbrev pub Walking : List ℕ → ℕ → Type 0
  Walking = Rewriting counts (λ u. sum_above (network_of ps [] []) x (suc u))

  module _ (sound : Sound ps) (costed : Costed ps cs) where
    -- the parts of all arcs are within 64 bits
    pub parts_small : (v : ℕ)
        → sum_above (network_of ps [] []) x v ≤ most_arcs * most_cost
    unfolding sum_above
    parts_small v =
        let n = network_of ps [] [] in
        omega (
          arith,
          sum_bound (length ps) most_cost {f = λ k. pick (at_or_below n k v) (of_arc cs k / of_arc counts k)}
              (λ k i.
              omega (
                arith,
                pick_le (at_or_below n k v) (of_arc cs k / of_arc counts k),
                div-le_self (of_arc cs k) (of_arc counts k),
                costed.limited k,
              )),
          sound.few,
        )

    module _ {parts : List ℕ} {i : ℕ} (s : Walking parts i) where
      way_at : (v : ℕ) → v ≤ i → of_arc parts v ≡ sum_above (network_of ps [] []) x v
      way_at zero h = sym (above_source (network_of ps [] []) sound.rising x)
      way_at (suc u) h = s.done u (omega arith)

      -- arc i + 1, as the code reads its parent and takes the two parts
      module _ (h : i < length ps) {parent above own part : ℕ} (at : parent ≡ get_or ps i 0)
          (up : above ≡ of_arc parts parent) (divided : own ≡ get_or cs i 0 / get_or parts i 0)
          (same : part ≡ own) where
        -- what is written: the parts on the way to vertex i + 1
        pub way_on : above + part ≡ sum_above (network_of ps [] []) x (suc i)
        way_on =
            omega (
              arith,
              up ∙ ap (of_arc parts) at,
              way_at (get_or ps i 0) (sound.rising i),
              same ∙ divided ∙ ap (λ (c : ℕ). get_or cs i 0 / c) (s.rest i (omega arith)),
              above_step (network_of ps [] []) sound.rising x i h,
            )

        pub way_small : above + part ≤ most_arcs * most_cost
        way_small = omega (arith, way_on, parts_small (suc i))

        pub walking_on : length counts ≡ length ps → Walking (set parts i (above + part)) (i + 1)
        walking_on sized =
            rewriting_on counts (λ u. sum_above (network_of ps [] []) x (suc u)) s (omega arith) (above + part) way_on

      pub way_end : length ps ≤ i → length counts ≡ length ps
          → parts ≡ list (length ps) (sum_above (network_of ps [] []) x)
      way_end h sized =
          list_is (sum_above (network_of ps [] []) x) 0 (length ps) parts (s.kept ∙ sized)
          (λ u l. s.done u (omega arith))
