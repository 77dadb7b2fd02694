use Prim.Native.Nat.{ℕ}
use mathlib.Core.Path.{◌≡◌, ap, ◌∙◌}
use mathlib.Core.List.{List}
use lib.IntN.{ℤ}
use Rattle.game.specs.Tree.{Tree}
use Rattle.answer_forms.specs.Answer.{Answer}
use Rattle.answers.specs.Audit.{Verdict, search_answer, search_words}
use Rattle.capi.specs.declared.group_search.ZilqodurSearch.{ZilqodurSearch}
use Rattle.capi.specs.Structs.{encode_search, decode_search, VerdictUnlessRefused}
use Rattle.capi.proofs.ReadBack.{stands_with, search_back, search_verdict_lem}
use Rattle.capi.proofs.group_search.zilqodur_find_group.Goals as goal

-- s is the struct of the search's answer and words
searched : (t : Tree) (shares : List ℤ) {answer : Answer Verdict} {words : List ℕ} {s : ZilqodurSearch}
    → s ≡ encode_search answer words
    → answer ≡ search_answer t shares
    → words ≡ search_words t shares
    → (decode_search s ≡ search_answer t shares)
    × ((s ≡ encode_search (decode_search s) (search_words t shares)) × VerdictUnlessRefused s.verdict s.refusal)
searched t shares {answer} is finds beside =
    let words = search_words t shares in
    stands_with (λ s. VerdictUnlessRefused s.verdict s.refusal) (λ a. encode_search a words) decode_search
    (is ∙ ap (encode_search answer) beside) finds (search_back _ words) (search_verdict_lem t shares words)

pub returns : goal.returns
returns c =
    let found = c.find_group.ensures in
    let it = searched _ _ c.from.ensures found.answer_value found.group_value in
    record { result_value = it.0; value = it.1.0; verdict_unless_refused = it.1.1 }
