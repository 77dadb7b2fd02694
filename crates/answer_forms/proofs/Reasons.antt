-- Two reasons have two numbers: a reason can be read back from its number.
use Prim.Native.Nat.{ℕ, ◌-◌}
use mathlib.Core.Path.{◌≡◌, refl}
use mathlib.Core.List.{List, [], ◌∷◌}
use lib.ListN.{get_or}
use Rattle.answer_forms.specs.Reasons.{number_of}
use Rattle.answer_forms.specs.declared.reason.Reason.{Reason}
use Rattle.answer_forms.specs.declared.reason.Reason.TheVariants.{ArcCount, TreeLengths, Parent, Cost, GroupBit, ListLength, ListRange, OutputLength, CapsShort, JobRoom, JobSize, JobSignature, JobLayout, JobFiller, JobMembers, Mark, MarkChild, NoMark, NoteLength, JobSpace, EventVertex, EventMark, QuoteNumber, EventCount, BranchArc, BranchUsers, FloorAboveCap, FloorsAboveNeed, UnmarkedDeadEnd, FloorAboveZero, SmallArcCount, ClassCount}

-- the reasons by their numbers, from 1 on
abbrev reasons : List Reason
reasons =
    ArcCount ∷ TreeLengths ∷ Parent ∷ Cost ∷ GroupBit ∷ ListLength ∷ ListRange ∷ OutputLength ∷ CapsShort ∷
    JobRoom ∷ JobSize ∷ JobSignature ∷ JobLayout ∷ JobFiller ∷ JobMembers ∷ Mark ∷ MarkChild ∷ NoMark ∷
    NoteLength ∷ JobSpace ∷ EventVertex ∷ EventMark ∷ QuoteNumber ∷ EventCount ∷ BranchArc ∷ BranchUsers ∷
    FloorAboveCap ∷ FloorsAboveNeed ∷ UnmarkedDeadEnd ∷ FloorAboveZero ∷ SmallArcCount ∷ ClassCount ∷ []

abbrev pub reason_by : ℕ → Reason
reason_by number = get_or reasons (number - 1) ArcCount

pub reason_is : (r : Reason) → reason_by (number_of r) ≡ r
reason_is ArcCount = refl
reason_is TreeLengths = refl
reason_is Parent = refl
reason_is Cost = refl
reason_is GroupBit = refl
reason_is ListLength = refl
reason_is ListRange = refl
reason_is OutputLength = refl
reason_is CapsShort = refl
reason_is JobRoom = refl
reason_is JobSize = refl
reason_is JobSignature = refl
reason_is JobLayout = refl
reason_is JobFiller = refl
reason_is JobMembers = refl
reason_is Mark = refl
reason_is MarkChild = refl
reason_is NoMark = refl
reason_is NoteLength = refl
reason_is JobSpace = refl
reason_is EventVertex = refl
reason_is EventMark = refl
reason_is QuoteNumber = refl
reason_is EventCount = refl
reason_is BranchArc = refl
reason_is BranchUsers = refl
reason_is FloorAboveCap = refl
reason_is FloorsAboveNeed = refl
reason_is UnmarkedDeadEnd = refl
reason_is FloorAboveZero = refl
reason_is SmallArcCount = refl
reason_is ClassCount = refl
