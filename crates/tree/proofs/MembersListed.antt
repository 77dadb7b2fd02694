-- The members' vertices, written by the marks, and the network by them; how many there are.
use Prim.Native.Nat.{ℕ, ◌≤◌}
use mathlib.Core.Path.{◌≡◌, ap, ◌∙◌}
use mathlib.Core.List.{List, []}
use native.Mathlib.Omega.{arith}
use lib.ListN.{length}
use Rattle.limits.specs.Limits.{most_arcs}
use Rattle.basics.specs.Sum.{count}
use Rattle.basics.proofs.Sums.{count_le}
use Rattle.game.specs.Network.{member_count, members_to}
use Rattle.game.specs.Tree.{network_of, marked}
use Rattle.game.proofs.Numbering.{members_length}
use Rattle.tree.specs.Passes.{Sound, Marked, Listed, network_at}
use Rattle.tree.proofs.Vertices.{by_vertices, marked_listing}

-- the number of marks that are 1 is the number of members
pub marks_count : (ps ms : List ℕ) → Marked ps ms → count (length ms) (marked ms) ≡ member_count (network_of ps [] ms)
marks_count ps ms marks = ap (λ (k : ℕ). count k (marked ms)) marks.sized

-- at most one member an arc
pub members_few : (ps ms : List ℕ) → Sound ps → member_count (network_of ps [] ms) ≤ most_arcs
members_few ps ms sound = omega (arith, count_le (length ps) (marked ms), sound.few)

module _ (ps ms : List ℕ) (marks : Marked ps ms) {vs : List ℕ} (are : vs ≡ members_to (marked ms) (length ms)) where
  by_arcs : vs ≡ members_to (marked ms) (length ps)
  by_arcs = are ∙ ap (members_to (marked ms)) marks.sized

  pub written_listed : Listed ps vs
  written_listed = rw by_arcs (marked_listing ps ms marks)

  pub written_network : (cs : List ℕ) → network_at ps cs vs ≡ network_of ps cs ms
  written_network cs = rw by_arcs (by_vertices ps ms marks cs)

  pub written_count : length vs ≡ member_count (network_of ps [] ms)
  written_count = ap length by_arcs ∙ members_length (marked ms) (length ps)
