-- What each case of an entry's answer stands for, where its value is not a number.
use Rattle.std.specs.Prelude.{ℕ, Result, Ok, Err, Option, Some, None}
use Rattle.answer_forms.specs.Answer.{Answer, value, refusal}
use Rattle.answer_forms.specs.Reasons.{number_of}
use Rattle.answer_forms.specs.declared.Refusal.{Refusal}
use Rattle.answers.specs.Needs.{NeedsValue}
use Rattle.answers.specs.GroupCost.{GroupCostValue}
use Rattle.answers.specs.Audit.{Verdict, found, none}
use Rattle.answers.specs.Level.{LevelAnswer, split, refusal as not_split}
use Rattle.answers.specs.Margin.{MarginValue}
use Rattle.answers.specs.ParentLists.{Step, next, end}
use Rattle.level.specs.declared.refusal.LevelRefusal.{LevelRefusal}
use Rattle.engine.specs.declared.needs.NeedsFound.{NeedsFound}
use Rattle.engine.specs.declared.group.GroupCost.{GroupCost}
use Rattle.engine.specs.declared.group_search.GroupFound.{GroupFound}
use Rattle.engine.specs.declared.margin_split.MarginSplit.{MarginSplit}
use Rattle.engine.specs.declared.parent_step.Stepped.{Stepped}
use Rattle.engine.specs.declared.parent_step.Stepped.TheVariants.{Next, End}

abbrev pub needs_of : Result NeedsFound Refusal → Answer NeedsValue
needs_of (Ok n) = value (record { whole = n.whole; members = n.members })
needs_of (Err r) = refusal (number_of r.reason) r.place

abbrev pub group_cost_of : Result GroupCost Refusal → Answer GroupCostValue
group_cost_of (Ok g) = value (record { size = g.size; cost = g.cost })
group_cost_of (Err r) = refusal (number_of r.reason) r.place

abbrev pub search_of : Result (Option GroupFound) Refusal → Answer Verdict
search_of (Ok (Some g)) = value (found g.amount g.size)
search_of (Ok None) = value none
search_of (Err r) = refusal (number_of r.reason) r.place

abbrev pub level_of : Result ℕ LevelRefusal → LevelAnswer
level_of (Ok members) = split members
level_of (Err r) = not_split (number_of r.refusal.reason) r.refusal.place r.shortfall

abbrev pub margin_of : Result MarginSplit Refusal → Answer MarginValue
margin_of (Ok m) = value (record { margin = m.margin; users = m.users })
margin_of (Err r) = refusal (number_of r.reason) r.place

abbrev pub step_of : Result Stepped Refusal → Answer Step
step_of (Ok Next) = value next
step_of (Ok End) = value end
step_of (Err r) = refusal (number_of r.reason) r.place
