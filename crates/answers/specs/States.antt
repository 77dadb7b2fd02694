-- States: a tree, its by-arc shares and the number of events committed, by value.
use Rattle.std.specs.Prelude.{ℕ, ◌-◌, List, [], ◌++◌, length, take, replicate, ltb}
use Rattle.limits.specs.Limits.{most_arcs}
use Rattle.game.specs.Tree.{Tree, tree_of, network}
use Rattle.game.specs.ByArc.{by_arc}
use Rattle.answer_forms.specs.Answer.{Check, fault, ◌then◌, written}
use Rattle.answers.specs.Checks.{tree_check}

-- the four lists have 1,023 entries each; entry 0 of the shares is that of member 0, entry 0 of each other that of
-- arc 1
pub record State : Type 0 where
  pub arcs : ℕ
  pub parents : List ℕ
  pub costs : List ℕ
  pub marks : List ℕ
  pub shares : List ℕ
  pub committed : ℕ

-- a list with 0 past its end, 1,023 entries in all
unfoldable pub padded : List ℕ → List ℕ
padded l = l ++ replicate (most_arcs - length l) 0

-- a tree and shares as a state holds them, with n events committed
abbrev pub holding : Tree → List ℕ → ℕ → State
holding t shares n =
    record {
      arcs = length t.parents;
      parents = padded t.parents;
      costs = padded t.costs;
      marks = padded t.marks;
      shares = padded shares;
      committed = n;
    }

-- the state that is 0 throughout
abbrev pub no_state : State
no_state = holding (tree_of [] [] []) [] 0

-- the state made of a tree, with n events committed; 0 throughout where the tree is refused
unfoldable pub made_state : Tree → ℕ → State
made_state t n = written (tree_check t) no_state (holding t (by_arc (network t)) n)

-- the tree of a state: the first entries of its lists, as many as it has arcs
unfoldable pub tree_in : State → Tree
tree_in s = tree_of (take s.arcs s.parents) (take s.arcs s.costs) (take s.arcs s.marks)

-- the tree's refusals; 1 also where there are more arcs than entries
unfoldable pub state_check : State → Check
state_check s = fault (ltb most_arcs s.arcs) 1 0 then tree_check (tree_in s)
