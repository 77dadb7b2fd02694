-- The branch of an arc: the tree in which nobody but the arc's users is a member.
use Rattle.std.specs.Prelude.{ℕ, List, length}
use Rattle.basics.specs.Sum.{pick, list}
use Rattle.game.specs.Network.{at_or_below}
use Rattle.game.specs.Tree.{Tree, tree_of, of_arc, network}

-- the marks of the vertices at or below arc b, and 0 elsewhere
unfoldable pub branch_marks : Tree → ℕ → List ℕ
branch_marks t b = list (length t.parents) (λ v. pick (at_or_below (network t) b v) (of_arc t.marks v))

-- the tree with these marks: an arc elsewhere has no users, so it is in no cost and no need
abbrev pub branch : Tree → ℕ → Tree
branch t b = tree_of t.parents t.costs (branch_marks t b)
