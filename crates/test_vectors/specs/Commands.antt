-- The commands by their names, and the fields of their lines.
use Rattle.std.specs.Prelude.{ℕ, ◌≡◌, List, [], ◌∷◌, ◌++◌, get_or, length}
use Rattle.test_lines.specs.Fields.{First, fields_of}
use Rattle.text.specs.Ascii.{ascii}
use Rattle.test_vectors.specs.declared.command.Command.{Command}
use Rattle.test_vectors.specs.declared.command.Command.TheVariants.{Check, Count, Members, Needs, Group, Total}
use Rattle.test_vectors.specs.declared.command.Command.TheVariants.{Search, Shares, Level, Caps, ByArc, DeadEnds}
use Rattle.test_vectors.specs.declared.command.Command.TheVariants.{CapSums, Margin, Classes, Next, Walk, Job}
use Rattle.test_vectors.specs.declared.command.Command.TheVariants.{JobTwo, Write, ToTwo, ToOne, State, Events}
use Rattle.test_vectors.specs.declared.command.Command.TheVariants.{Unknown}

-- their names, with a space between two
abbrev pub names : List ℕ
names =
    ascii "check count members needs group total search shares level caps byarc deadends capsums margin "
    ++ ascii "classes next walk job job2 write to2 to1 state events"

-- the commands, in the order of their names
abbrev pub commands : List Command
commands =
    Check ∷ Count ∷ Members ∷ Needs ∷ Group ∷ Total ∷ Search ∷ Shares ∷ Level ∷ Caps ∷ ByArc ∷ DeadEnds ∷ CapSums
    ∷ Margin ∷ Classes ∷ Next ∷ Walk ∷ Job ∷ JobTwo ∷ Write ∷ ToTwo ∷ ToOne ∷ State ∷ Events ∷ []

-- how many fields a command's line has; none is right for an unknown command
abbrev pub field_count : Command → ℕ
field_count Check = 4
field_count Count = 4
field_count Members = 5
field_count Needs = 5
field_count Group = 5
field_count Total = 5
field_count Search = 5
field_count Shares = 3
field_count Level = 7
field_count Caps = 3
field_count ByArc = 5
field_count DeadEnds = 4
field_count CapSums = 6
field_count Margin = 6
field_count Classes = 6
field_count Next = 2
field_count Walk = 2
field_count Job = 3
field_count JobTwo = 3
field_count Write = 7
field_count ToTwo = 3
field_count ToOne = 3
field_count State = 5
field_count Events = 8
field_count Unknown = 0

-- c is the command at the name's place among the names, or unknown where the name is none of them
pub record Named (name : List ℕ) (c : Command) : Type 0 where
  pub place : ℕ
  pub first : First (fields_of names) (length commands) name place
  pub is : c ≡ get_or commands place Unknown
