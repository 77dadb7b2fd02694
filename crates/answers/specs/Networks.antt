-- The networks to try of the specification, §10, and some like them.
use Rattle.std.specs.Prelude.{ℕ, [], ◌∷◌}
use Rattle.game.specs.Tree.{Tree, tree_of, dead_end_tree}

-- the tree T
abbrev pub T : Tree
T = dead_end_tree (0 ∷ 1 ∷ 1 ∷ 0 ∷ []) (6 ∷ 1 ∷ 5 ∷ 4 ∷ [])

-- T with these marks
abbrev pub T_marked : ℕ → ℕ → ℕ → ℕ → Tree
T_marked a b c d = tree_of T.parents T.costs (a ∷ b ∷ c ∷ d ∷ [])

-- T with these costs
abbrev pub T_costing : ℕ → ℕ → ℕ → ℕ → Tree
T_costing a b c d = dead_end_tree T.parents (a ∷ b ∷ c ∷ d ∷ [])

-- T where vertex 3 is a plot with nobody on it
abbrev pub T_spare : Tree
T_spare = T_marked 0 1 0 1

-- the same where arc 3, which nobody uses, costs 14
abbrev pub spare_costing_14 : Tree
spare_costing_14 = tree_of T.parents (6 ∷ 1 ∷ 14 ∷ 4 ∷ []) T_spare.marks

-- the tree U
abbrev pub U : Tree
U = dead_end_tree (0 ∷ 1 ∷ 1 ∷ []) (7 ∷ 0 ∷ 0 ∷ [])

-- the tree X, in which two members share two arcs
abbrev pub X : Tree
X = dead_end_tree (0 ∷ 1 ∷ 2 ∷ 2 ∷ []) (1 ∷ 1 ∷ 0 ∷ 0 ∷ [])

-- the tree W
abbrev pub W : Tree
W = dead_end_tree (0 ∷ 1 ∷ 1 ∷ 0 ∷ []) (10 ∷ 1 ∷ 1 ∷ 8 ∷ [])

-- the tree Y, in which all three members use arcs 1 and 2
abbrev pub Y : Tree
Y = dead_end_tree (0 ∷ 1 ∷ 2 ∷ 2 ∷ 4 ∷ 2 ∷ []) (2 ∷ 5 ∷ 1 ∷ 2 ∷ 1 ∷ 3 ∷ [])

-- the tree Z, in which one member's arc has the whole cost
abbrev pub Z : Tree
Z = dead_end_tree (0 ∷ 1 ∷ 1 ∷ []) (0 ∷ 5 ∷ 0 ∷ [])
