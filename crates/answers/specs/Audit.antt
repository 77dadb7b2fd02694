-- The audit of a proposal: the total check and the group search, each by itself.
use Rattle.std.specs.Prelude.{ℕ, ◌≡◌, cond, List, replicate, ℤ, pos, negsuc, ltb}
use Rattle.game.specs.Network.{Network, member_count}
use Rattle.game.specs.Tree.{Tree, network}
use Rattle.basics.specs.Sum.{size}
use Rattle.game.specs.Group.{words_of}
use Rattle.game.specs.Proposal.{overpayment, difference}
use Rattle.game.specs.Search.{is_in, named}
use Rattle.answer_forms.specs.Answer.{Check, Answer, value, refusal, ◌then◌, answer}
use Rattle.answers.specs.Checks.{tree_check, proposal_check}

-- 6 and 7 after the tree
abbrev pub audit_check : Tree → List ℤ → Check
audit_check t shares = tree_check t then proposal_check (member_count (network t)) shares

-- the shares' sum less the whole cost, 0 included
unfoldable pub total_answer : Tree → List ℤ → Answer ℤ
total_answer t shares = answer (audit_check t shares) (difference (network t) shares)

-- what the group search finds
pub data Verdict : Type 0 where
  found : (amount size : ℕ) → Verdict
  none : Verdict

-- a group that overpays an amount above 0, else none
abbrev pub group_verdict : ℤ → ℕ → Verdict
group_verdict (pos amount) members = cond (ltb 0 amount) (found amount members) none
group_verdict (negsuc a) members = none

-- the search looks at no total
abbrev pub search_verdict : Network → List ℤ → Verdict
search_verdict n shares =
    group_verdict (overpayment n shares (is_in (named n shares))) (size (member_count n) (is_in (named n shares)))

unfoldable pub search_answer : Tree → List ℤ → Answer Verdict
search_answer t shares = answer (audit_check t shares) (search_verdict (network t) shares)

-- the group words beside an answer: all 0 except where a group is found
abbrev pub words_beside : Answer Verdict → List ℕ → List ℕ
words_beside (value (found amount members)) words = words
words_beside (value none) words = replicate 16 0
words_beside (refusal number place) words = replicate 16 0

unfoldable pub search_words : Tree → List ℤ → List ℕ
search_words t shares = words_beside (search_answer t shares) (words_of (is_in (named (network t) shares)))

-- a split passes when its difference is 0 and no group is found
pub record Passes (t : Tree) (shares : List ℤ) : Type 0 where
  pub adds_up : total_answer t shares ≡ value (pos 0)
  pub no_group : search_answer t shares ≡ value none
