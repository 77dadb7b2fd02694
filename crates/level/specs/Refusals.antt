-- What the level split's refusals stand for.
use Rattle.std.specs.Prelude.{ℕ, Result, Ok, Err}
use Rattle.answer_forms.specs.Reasons.{number_of}
use Rattle.answer_forms.specs.declared.Refusal.{Refusal}
use Rattle.answers.specs.Level.{LevelAnswer, split, refusal}
use Rattle.level.specs.declared.refusal.LevelRefusal.{LevelRefusal}

-- a refusal without a shortfall
abbrev pub not_short : Refusal → LevelRefusal
not_short r = record { refusal = r; shortfall = 0 }

-- the split's answer: the number of members, or the refusal
abbrev pub answer_of : ℕ → Result Unit LevelRefusal → LevelAnswer
answer_of members (Ok _) = split members
answer_of members (Err r) = refusal (number_of r.refusal.reason) r.refusal.place r.shortfall
