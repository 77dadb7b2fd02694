-- The lines of a report, as bytes.
use Rattle.std.specs.Prelude.{ℕ, zero, suc, cond, List, [], ◌∷◌, ◌++◌, get_or, ℤ, pos}
use Prim.Native.String.{String}
use Rattle.basics.specs.Bit.{bit}
use Rattle.answer_forms.specs.Answer.{Answer, value, refusal}
use Rattle.answers.specs.Audit.{Verdict, found, none}
use Rattle.answers.specs.Level.{LevelAnswer, split, refusal as not_split}
use Rattle.numbers.specs.Signed.{is_zero}
use Rattle.text.specs.Ascii.{ascii}
use Rattle.text.specs.Decimal.{decimal, signed_decimal}

abbrev pub labelled : String → ℕ → List ℕ
labelled label n = ascii label ++ decimal n

abbrev pub labelled_signed : String → ℤ → List ℕ
labelled_signed label z = ascii label ++ signed_decimal z

abbrev pub newline : List ℕ
newline = ascii "\n"

-- a refused job's only line
abbrev pub refused_line : ℕ → ℕ → List ℕ
refused_line number place = labelled "refused " number ++ labelled " at " place ++ newline

-- the whole cost and the number of members
abbrev pub cost_line : ℕ → ℕ → List ℕ
cost_line whole members = labelled "cost " whole ++ labelled " members " members ++ newline

-- the member numbers below j whose bits are set, in rising order, a space before each
unfoldable pub group_text : List ℕ → ℕ → List ℕ
group_text words zero = []
group_text words (suc j) = group_text words j ++ cond (bit words j) (labelled " " j) []

-- the group that overpays most, of this many members in all
abbrev pub group_line : (amount size : ℕ) → List ℕ → ℕ → List ℕ
group_line amount size words members =
    labelled "audit group " amount ++ labelled " of " size ++ ascii ":" ++ group_text words members ++ newline

abbrev pub total_line : ℤ → List ℕ
total_line difference = labelled_signed "audit total " difference ++ newline

-- the total where it is off; on a job that was read neither check is refused
abbrev pub total_text : Answer ℤ → List ℕ
total_text (value difference) = cond (is_zero difference) [] (total_line difference)
total_text (refusal number place) = refused_line number place

-- the group where one is found
abbrev pub search_text : ℕ → Answer Verdict → List ℕ → List ℕ
search_text members (value (found amount size)) words = group_line amount size words members
search_text members (value none) words = []
search_text members (refusal number place) words = refused_line number place

-- a pass where there is no other line
abbrev pub or_pass : List ℕ → List ℕ
or_pass [] = ascii "audit pass\n"
or_pass (byte ∷ rest) = byte ∷ rest

-- the audit where there are this many members
abbrev pub audit_text : ℕ → Answer ℤ → Answer Verdict → List ℕ → List ℕ
audit_text members total search words = or_pass (total_text total ++ search_text members search words)

abbrev pub short_line : ℕ → ℕ → ℕ → List ℕ
short_line number place shortfall =
    labelled "level refused " number ++ labelled " at " place ++ labelled " short " shortfall ++ newline

abbrev pub level_line : LevelAnswer → List ℕ
level_line (split members) = ascii "level ok\n"
level_line (not_split number place shortfall) = short_line number place shortfall

-- a level share, or a dash where the split is refused
abbrev pub level_share : LevelAnswer → ℕ → List ℕ
level_share (split members) share = labelled " level " share
level_share (not_split number place shortfall) share = ascii " level -"

-- a member, its vertex, and its three shares
abbrev pub member_line : LevelAnswer → ℕ → ℕ → ℤ → ℕ → ℕ → List ℕ
member_line level j vertex proposed by_arc share =
    decimal j
    ++ labelled " at " vertex
    ++ labelled_signed ": proposed " proposed
    ++ labelled " by-arc " by_arc
    ++ level_share level share
    ++ newline

-- the lines of the members below j; the lists have an entry a member
unfoldable pub member_lines : LevelAnswer → List ℕ → List ℤ → List ℕ → List ℕ → ℕ → List ℕ
member_lines level vertices proposed by_arc shares zero = []
member_lines level vertices proposed by_arc shares (suc j) =
    member_lines level vertices proposed by_arc shares j
    ++ member_line level j (get_or vertices j 0) (get_or proposed j (pos 0)) (get_or by_arc j 0) (get_or shares j 0)
