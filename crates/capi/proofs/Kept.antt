-- No check refuses with number 0, so what it finds can be read back from its struct.
use Prim.Native.Nat.{ℕ, zero, suc, pred, ◌+◌, ◌*◌}
use mathlib.Core.Path.{◌≡◌, refl, subst}
use mathlib.Core.Bool.{Bool, not, ◌||◌}
use mathlib.Core.List.{List, [], ◌∷◌}
use lib.ListN.{length}
use lib.Dec.{eqb, ltb, leb}
use Rattle.game.specs.Tree.{Tree, network, of_arc, dead_end_tree}
use Rattle.game.specs.ByArc.{user_count}
use Rattle.basics.specs.Bit.{bit}
use Rattle.answer_forms.specs.Answer.{Check, fault, ◌then◌}
use Rattle.answer_forms.proofs.Composed.{fault_holds, then_holds}
use Rattle.limits.specs.Limits.{most_arcs, most_small_arcs, most_classes, most_events}
use Rattle.answers.specs.Checks.{one_by_one, tree_check, plain_check, bits_check, range_check}
use Rattle.answers.specs.Checks.{parent_check, small_check, member_list_check, output_check}
use Rattle.answers.specs.Level.{outside_cap, caps_check, floors_check, limits_check}
use Rattle.answers.specs.Margin.{leaves_source, margin_check}
use Rattle.answers.specs.Classes.{Classed, summed_tree, class_members, classed_check, classes_check}
use Rattle.answers.specs.States.{State}
use Rattle.answers.specs.Events.{Event, apply_check}
use Rattle.answers.specs.Quotes.{Quote, limit_check, number_check, commit_check}
use Rattle.answers.proofs.DeadEnds.{plain_check_lem}
use Rattle.answers.proofs.Numbers.{by_tree, by_apply}
use Rattle.capi.specs.Structs.{encode_check, decode_check}

abbrev pub Kept : Check → Type 0
Kept c = decode_check (encode_check c) ≡ c

pub fault_kept : (b : Bool) (n place : ℕ) → Kept (fault b (suc n) place)
fault_kept b n place = fault_holds Kept b refl refl

pub then_kept : (a b : Check) → Kept a → Kept b → Kept (a then b)
then_kept = then_holds Kept

pub fault_then_kept : (b : Bool) (n place : ℕ) (next : Check) → Kept next → Kept (fault b (suc n) place then next)
fault_then_kept b n place next = then_kept (fault b (suc n) place) next (fault_kept b n place)

pub tree_kept : (t : Tree) → Kept (tree_check t)
tree_kept = by_tree Kept refl (λ n place h. refl)

-- the lists without marks are checked as the tree whose dead ends are marked
pub plain_kept : (parents costs : List ℕ) → Kept (plain_check parents costs)
plain_kept parents costs = subst Kept (plain_check_lem parents costs) (tree_kept (dead_end_tree parents costs))

pub apply_kept : (s : State) (e : Event) → Kept (apply_check s e)
apply_kept = by_apply Kept refl (λ n place h. refl)

pub commit_kept : (s : State) (q : Quote) → Kept (commit_check s q)
unfolding commit_check
commit_kept s q =
    then_kept (number_check q.committed s.committed) (apply_check s q.event)
    (fault_then_kept (not (eqb q.committed s.committed)) 22 0 (limit_check s.committed)
    (fault_kept (leb most_events s.committed) 23 0))
    (apply_kept s q.event)

pub bits_kept : (words : List ℕ) (f j : ℕ) → Kept (bits_check words f j)
unfolding bits_check
bits_kept words zero j = refl
bits_kept words (suc f) j = fault_then_kept (bit words j) 4 j (bits_check words f (j + 1)) (bits_kept words f (j + 1))

range_kept : {A : Type 0} (outside : A → Bool) (j : ℕ) (l : List A) → Kept (range_check outside j l)
unfolding range_check
range_kept outside j [] = refl
range_kept outside j (x ∷ rest) =
    fault_then_kept (outside x) 6 j (range_check outside (j + 1) rest) (range_kept outside (j + 1) rest)

pub list_kept : {A : Type 0} (outside : A → Bool) (members : ℕ) (l : List A) → Kept (member_list_check outside members l)
list_kept outside members l =
    fault_then_kept (not (eqb (length l) members)) 5 0 (range_check outside 0 l) (range_kept outside 0 l)

pub ones_kept : (check : ℕ → Check) → ((k : ℕ) → Kept (check k)) → (m : ℕ) → Kept (one_by_one check m)
unfolding one_by_one
ones_kept check each zero = refl
ones_kept check each (suc m) = then_kept (one_by_one check m) (check (suc m)) (ones_kept check each m) (each (suc m))

pub floors_kept : (members : ℕ) (caps floors : List ℕ) → Kept (floors_check members caps floors)
floors_kept members caps floors =
    ones_kept _ (λ i. fault_kept (ltb (of_arc caps i) (of_arc floors i)) 26 (pred i)) members

pub limits_kept : (members : ℕ) (caps floors : List ℕ) → Kept (limits_check members caps floors)
limits_kept members caps floors =
    then_kept (caps_check members caps) _ (list_kept outside_cap members caps)
    (then_kept (caps_check members floors) (floors_check members caps floors) (list_kept outside_cap members floors)
    (floors_kept members caps floors))

pub output_kept : {A : Type 0} (wanted : ℕ) (out : List A) → Kept (output_check wanted out)
output_kept wanted out = fault_kept (not (eqb (length out) wanted)) 7 0

pub margin_kept : (t : Tree) (arc : ℕ) (out : List ℕ) → Kept (margin_check t arc out)
margin_kept t arc out =
    let users = user_count (network t) arc in
    then_kept (tree_check t) _ (tree_kept t)
    (fault_then_kept (not (leaves_source t.parents arc)) 24 arc _
    (fault_then_kept (ltb users 2) 25 arc (output_check users out) (output_kept users out)))

pub small_kept : (parents : List ℕ) → Kept (small_check parents)
unfolding small_check
small_kept parents =
    let few = eqb (length parents) 0 || ltb most_small_arcs (length parents) in
    fault_then_kept few 30 0 (one_by_one (parent_check parents) (length parents))
    (ones_kept (parent_check parents) (λ k. fault_kept (leb k (of_arc parents k)) 2 k) (length parents))

pub classes_kept : (w : Classed) (out : List ℕ) → Kept (classes_check w out)
unfolding classed_check
classes_kept w out =
    let m = length w.parents in
    then_kept (classed_check w) (output_check (w.classes * class_members w) out)
    (fault_then_kept (eqb w.classes 0 || ltb most_classes w.classes) 31 0 _
    (fault_then_kept (eqb m 0 || ltb most_arcs m) 0 0 _
    (fault_then_kept (not (eqb (length w.costs) (w.classes * m))) 1 0 (tree_check (summed_tree w))
    (tree_kept (summed_tree w)))))
    (output_kept (w.classes * class_members w) out)
