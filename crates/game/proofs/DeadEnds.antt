-- Where the members are the dead ends every arc has a user.
use Prim.Native.Nat.{ℕ, zero, suc, ◌+◌, ◌≤◌}
use mathlib.Core.Path.{◌≡◌, refl, ap, ◌∙◌}
use mathlib.Core.Bool.{Bool, true, false, not}
use mathlib.Core.Logic.{◌⊎◌, inl, inr, ⊎_elim}
use mathlib.Core.List.{List}
use lib.ListN.{length}
use native.Mathlib.Omega.{arith}
use borrow.Author.Tests.{eqb-true}
use lib.Dec.{eqb}
use Rattle.basics.specs.Sum.{pick}
use Rattle.game.specs.Network.{Network, used, everyone}
use Rattle.game.specs.Tree.{of_arc, has_child, marked, dead_ends, network_of}
use Rattle.basics.proofs.Bools.{both, and_both}
use Rattle.basics.proofs.Lists.{list_length}
use Rattle.game.proofs.ArcEntries.{of_list}
use Rattle.basics.proofs.Sums.{In, Some, some_is}
use Rattle.game.proofs.Below.{Rooted, below_self, child_after}
use Rattle.game.proofs.Groups.{used_of, used_child}

-- every vertex from 1 on is a member or has a child
abbrev pub Ends : Network → Type 0
Ends n = (k : ℕ) → In n.arcs k → (n.member k ≡ true) ⊎ Some n.arcs (λ u. eqb (n.parent u) k)

module _ (ps : List ℕ) where
  pub dead_ends_length : length (dead_ends ps) ≡ length ps
  unfolding dead_ends
  dead_ends_length = list_length (λ v. pick (not (has_child ps v)) 1) (length ps)

  -- the dead ends are marked
  pub dead_end : (v : ℕ) → In (length ps) v → marked (dead_ends ps) v ≡ not (has_child ps v)
  unfolding dead_ends
  dead_end v i =
      ap (λ (x : ℕ). eqb x 1) (of_list (length ps) (λ u. pick (not (has_child ps u)) 1) v i)
      ∙ ones (not (has_child ps v))
    where
      ones : (b : Bool) → eqb (pick b 1) 1 ≡ b
      ones true = refl
      ones false = refl

  pub dead_ends_lem : (cs : List ℕ) → Ends (network_of ps cs (dead_ends ps))
  unfolding has_child
  dead_ends_lem cs k i =
      ⊎_elim
      (λ (e : has_child ps k ≡ true). inr (some_is (length ps) (λ u. eqb (of_arc ps u) k) e))
      (λ (e : has_child ps k ≡ false). inl (dead_end k i ∙ ap not e))
      (both (has_child ps k))

module _ (n : Network) (rooted : Rooted n) (ends : Ends n) where
  own : (k : ℕ) → In n.arcs k → n.member k ≡ true → used n everyone k ≡ true
  own k i m = used_of n (record { by = k; within = i; chosen = refl; uses = and_both m (below_self n rooted k) })

  -- d bounds how far the arcs' numbers go on after k
  used_within : (d k : ℕ) → In n.arcs k → n.arcs ≤ k + d → used n everyone k ≡ true
  used_within zero k i h =
      ⊎_elim
      (λ (m : n.member k ≡ true). own k i m)
      (λ (s : Some n.arcs (λ u. eqb (n.parent u) k)).
      absurd
      (omega (
        arith,
        child_after n rooted k s.which s.within (eqb-true (n.parent s.which) k s.passes),
        s.within.high,
      )))
      (ends k i)
  used_within (suc d) k i h =
      ⊎_elim
      (λ (m : n.member k ≡ true). own k i m)
      (λ (s : Some n.arcs (λ u. eqb (n.parent u) k)).
      let e = eqb-true (n.parent s.which) k s.passes in
      used_child n rooted everyone k s.which s.within e
      (used_within d s.which s.within (omega (arith, child_after n rooted k s.which s.within e))))
      (ends k i)

  pub every_arc_used : (k : ℕ) → In n.arcs k → used n everyone k ≡ true
  every_arc_used k i = used_within n.arcs k i (omega arith)
