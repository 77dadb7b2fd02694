-- The number of each reason.
use Rattle.std.specs.Prelude.{ℕ}
use Rattle.answer_forms.specs.declared.reason.Reason.{Reason}
use Rattle.answer_forms.specs.declared.reason.Reason.TheVariants.{ArcCount, TreeLengths, Parent, Cost, GroupBit, ListLength, ListRange, OutputLength, CapsShort, JobRoom, JobSize, JobSignature, JobLayout, JobFiller, JobMembers, Mark, MarkChild, NoMark, NoteLength, JobSpace, EventVertex, EventMark, QuoteNumber, EventCount, BranchArc, BranchUsers, FloorAboveCap, FloorsAboveNeed, UnmarkedDeadEnd, FloorAboveZero, SmallArcCount, ClassCount}

abbrev pub number_of : Reason → ℕ
number_of ArcCount = 1
number_of TreeLengths = 2
number_of Parent = 3
number_of Cost = 4
number_of GroupBit = 5
number_of ListLength = 6
number_of ListRange = 7
number_of OutputLength = 8
number_of CapsShort = 9
number_of JobRoom = 10
number_of JobSize = 11
number_of JobSignature = 12
number_of JobLayout = 13
number_of JobFiller = 14
number_of JobMembers = 15
number_of Mark = 16
number_of MarkChild = 17
number_of NoMark = 18
number_of NoteLength = 19
number_of JobSpace = 20
number_of EventVertex = 21
number_of EventMark = 22
number_of QuoteNumber = 23
number_of EventCount = 24
number_of BranchArc = 25
number_of BranchUsers = 26
number_of FloorAboveCap = 27
number_of FloorsAboveNeed = 28
number_of UnmarkedDeadEnd = 29
number_of FloorAboveZero = 30
number_of SmallArcCount = 31
number_of ClassCount = 32
