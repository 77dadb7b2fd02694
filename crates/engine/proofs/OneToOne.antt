-- Two answers of an entry that stand for the same value or refusal are the same: each answer can be read back. For an
-- answer whose value stands for itself: answer_forms, proofs/OneToOne.antt.
use Prim.Native.Nat.{ℕ}
use mathlib.Core.Path.{◌≡◌, refl, ap}
use Rattle.std.specs.Prelude.{Result, Ok, Err, Option, Some, None}
use Rattle.answer_forms.specs.Answer.{Answer, value, refusal, Check, accepted, refused}
use Rattle.answers.specs.Needs.{NeedsValue}
use Rattle.answers.specs.GroupCost.{GroupCostValue}
use Rattle.answers.specs.Audit.{Verdict, found, none}
use Rattle.answers.specs.Level.{LevelAnswer, split, refusal as not_split}
use Rattle.answers.specs.Margin.{MarginValue}
use Rattle.answers.specs.ParentLists.{Step, next, end}
use Rattle.answer_forms.specs.Checked.{check_of}
use Rattle.answer_forms.proofs.OneToOne.{read_back, refusal_by, refusal_is, error_is}
use Rattle.answer_forms.specs.declared.Refusal.{Refusal}
use Rattle.engine.specs.Outcomes.{level_of}
use Rattle.level.specs.declared.refusal.LevelRefusal.{LevelRefusal}
use Rattle.engine.specs.Outcomes.{needs_of, group_cost_of, search_of, margin_of, step_of}
use Rattle.engine.specs.declared.needs.NeedsFound.{NeedsFound}
use Rattle.engine.specs.declared.group.GroupCost.{GroupCost}
use Rattle.engine.specs.declared.group_search.GroupFound.{GroupFound}
use Rattle.engine.specs.declared.margin_split.MarginSplit.{MarginSplit}
use Rattle.engine.specs.declared.parent_step.Stepped.{Stepped}
use Rattle.engine.specs.declared.parent_step.Stepped.TheVariants.{Next, End}

abbrev check_back : Check → Result Unit Refusal
check_back accepted = Ok tt
check_back (refused number place) = Err (refusal_by number place)

check_is : (a : Result Unit Refusal) → check_back (check_of a) ≡ a
check_is (Ok u) = refl
check_is (Err r) = error_is r

pub check_one_to_one : (a b : Result Unit Refusal) → check_of a ≡ check_of b → a ≡ b
check_one_to_one = read_back check_of check_back check_is

abbrev needs_back : Answer NeedsValue → Result NeedsFound Refusal
needs_back (value v) = Ok (record { whole = v.whole; members = v.members })
needs_back (refusal number place) = Err (refusal_by number place)

needs_is : (a : Result NeedsFound Refusal) → needs_back (needs_of a) ≡ a
needs_is (Ok n) = refl
needs_is (Err r) = error_is r

pub needs_one_to_one : (a b : Result NeedsFound Refusal) → needs_of a ≡ needs_of b → a ≡ b
needs_one_to_one = read_back needs_of needs_back needs_is

abbrev cost_back : Answer GroupCostValue → Result GroupCost Refusal
cost_back (value v) = Ok (record { size = v.size; cost = v.cost })
cost_back (refusal number place) = Err (refusal_by number place)

cost_is : (a : Result GroupCost Refusal) → cost_back (group_cost_of a) ≡ a
cost_is (Ok g) = refl
cost_is (Err r) = error_is r

pub group_cost_one_to_one : (a b : Result GroupCost Refusal) → group_cost_of a ≡ group_cost_of b → a ≡ b
group_cost_one_to_one = read_back group_cost_of cost_back cost_is

abbrev search_back : Answer Verdict → Result (Option GroupFound) Refusal
search_back (value (found amount size)) = Ok (Some (record { amount = amount; size = size }))
search_back (value none) = Ok None
search_back (refusal number place) = Err (refusal_by number place)

search_is : (a : Result (Option GroupFound) Refusal) → search_back (search_of a) ≡ a
search_is (Ok (Some g)) = refl
search_is (Ok None) = refl
search_is (Err r) = error_is r

pub search_one_to_one : (a b : Result (Option GroupFound) Refusal) → search_of a ≡ search_of b → a ≡ b
search_one_to_one = read_back search_of search_back search_is

abbrev level_back : LevelAnswer → Result ℕ LevelRefusal
level_back (split members) = Ok members
level_back (not_split number place shortfall) = Err (record { refusal = refusal_by number place; shortfall = shortfall })

level_is : (a : Result ℕ LevelRefusal) → level_back (level_of a) ≡ a
level_is (Ok members) = refl
level_is (Err r) = ap (λ (refusal : Refusal). Err (record { refusal = refusal; shortfall = r.shortfall })) (refusal_is r.refusal)

pub level_one_to_one : (a b : Result ℕ LevelRefusal) → level_of a ≡ level_of b → a ≡ b
level_one_to_one = read_back level_of level_back level_is

abbrev margin_back : Answer MarginValue → Result MarginSplit Refusal
margin_back (value v) = Ok (record { margin = v.margin; users = v.users })
margin_back (refusal number place) = Err (refusal_by number place)

margin_is : (a : Result MarginSplit Refusal) → margin_back (margin_of a) ≡ a
margin_is (Ok m) = refl
margin_is (Err r) = error_is r

pub margin_one_to_one : (a b : Result MarginSplit Refusal) → margin_of a ≡ margin_of b → a ≡ b
margin_one_to_one = read_back margin_of margin_back margin_is

abbrev step_back : Answer Step → Result Stepped Refusal
step_back (value next) = Ok Next
step_back (value end) = Ok End
step_back (refusal number place) = Err (refusal_by number place)

step_is : (a : Result Stepped Refusal) → step_back (step_of a) ≡ a
step_is (Ok Next) = refl
step_is (Ok End) = refl
step_is (Err r) = error_is r

pub step_one_to_one : (a b : Result Stepped Refusal) → step_of a ≡ step_of b → a ≡ b
step_one_to_one = read_back step_of step_back step_is
