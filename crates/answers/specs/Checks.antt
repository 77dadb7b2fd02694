-- The checks on lists as they are handed in, with the specification's numbers and places (§7).
use Rattle.std.specs.Prelude.{ℕ, zero, suc, ◌+◌, ◌-◌, Bool, ◌||◌, ◌&&◌, not, List, [], ◌∷◌, length, ℤ, nat_abs, eqb, ltb, leb}
use Rattle.game.specs.Tree.{Tree, of_arc, has_child, marked}
use Rattle.basics.specs.Sum.{some}
use Rattle.basics.specs.Bit.{bit}
use Rattle.limits.specs.Limits.{most_arcs, most_small_arcs, group_bits, most_cost, most_share}
use Rattle.answer_forms.specs.Answer.{Check, accepted, fault, ◌then◌}

-- two lists differ in length
abbrev pub unlike : List ℕ → List ℕ → Bool
unlike a b = not (eqb (length a) (length b))

-- the refusal of this number where there is none, or more than so many
abbrev pub count_check : ℕ → ℕ → ℕ → Check
count_check most number count = fault (eqb count 0 || ltb most count) number 0

-- 1: there is no arc, or more than 1,023
abbrev pub arc_count_check : List ℕ → Check
arc_count_check parents = count_check most_arcs 1 (length parents)

-- at arc k: 3 where the parent is not below it
abbrev pub parent_check : List ℕ → ℕ → Check
parent_check parents k = fault (leb k (of_arc parents k)) 3 k

-- at arc k: 3, then 4 where the cost is above the limit
abbrev pub arc_check : List ℕ → List ℕ → ℕ → Check
arc_check parents costs k = parent_check parents k then fault (ltb most_cost (of_arc costs k)) 4 k

-- at vertex k: 16 where the mark is neither 0 nor 1, then 17 where it is 1 and some entry names the vertex as a parent
abbrev pub mark_check : List ℕ → List ℕ → ℕ → Check
mark_check parents marks k = fault (ltb 1 (of_arc marks k)) 16 k then fault (marked marks k && has_child parents k) 17 k

-- a check of the numbers 1, 2, .., k one by one
unfoldable pub one_by_one : (ℕ → Check) → ℕ → Check
one_by_one check zero = accepted
one_by_one check (suc k) = one_by_one check k then check (suc k)

-- 1, 2, then 3, 4, 16 and 17 arc by arc, and 18 where no vertex is marked
unfoldable pub tree_check : Tree → Check
tree_check t =
    arc_count_check t.parents
    then fault (unlike t.parents t.costs || unlike t.parents t.marks) 2 0
    then one_by_one (λ k. arc_check t.parents t.costs k then mark_check t.parents t.marks k)
    (length t.parents)
    then fault (not (some (length t.parents) (marked t.marks))) 18 0

-- the lists without marks: 1, 2, then 3 and 4 arc by arc
unfoldable pub plain_check : List ℕ → List ℕ → Check
plain_check parents costs =
    arc_count_check parents
    then fault (unlike parents costs) 2 0
    then one_by_one (arc_check parents costs) (length parents)

-- a parent list by itself: 31 where it has no arc or more than 6, then 3 arc by arc
unfoldable pub small_check : List ℕ → Check
small_check parents =
    count_check most_small_arcs 31 (length parents) then one_by_one (parent_check parents) (length parents)

-- 5 at the lowest bit that is set from bit j on, with f bits left to look at
unfoldable pub bits_check : List ℕ → ℕ → ℕ → Check
bits_check words zero j = accepted
bits_check words (suc f) j = fault (bit words j) 5 j then bits_check words f (j + 1)

-- no bit of the sixteen words stands at or beyond the number of members
abbrev pub group_check : ℕ → List ℕ → Check
group_check members words = bits_check words (group_bits - members) members

-- 7 at the lowest entry that is outside its range; the first entry is that of member j
unfoldable pub range_check : {A : Type 0} → (A → Bool) → ℕ → List A → Check
range_check outside j [] = accepted
range_check outside j (x ∷ rest) = fault (outside x) 7 j then range_check outside (j + 1) rest

-- a list with one entry a member: 6 where its length is not the number of members, then 7
abbrev pub member_list_check : {A : Type 0} → (A → Bool) → ℕ → List A → Check
member_list_check outside members l = fault (not (eqb (length l) members)) 6 0 then range_check outside 0 l

abbrev pub outside_share : ℤ → Bool
outside_share x = ltb most_share (nat_abs x)

abbrev pub proposal_check : ℕ → List ℤ → Check
proposal_check = member_list_check outside_share

-- 8 where an output list does not have exactly the length of what is written
abbrev pub length_check : ℕ → ℕ → Check
length_check wanted found = fault (not (eqb found wanted)) 8 0

abbrev pub output_check : {A : Type 0} → ℕ → List A → Check
output_check wanted out = length_check wanted (length out)
