-- The texts on a job, put together from their lines.
use Prim.Native.Nat.{ℕ}
use mathlib.Core.Path.{◌≡◌}
use mathlib.Core.List.{List}
use lib.IntN.{ℤ}
use Rattle.game.specs.Network.{member_count, members}
use Rattle.game.specs.Tree.{Tree, network}
use Rattle.answer_forms.specs.Answer.{Answer}
use Rattle.answers.specs.Audit.{Verdict, total_answer, search_answer, search_words}
use Rattle.answers.specs.Level.{LevelAnswer, level_answer, level_list}
use Rattle.answers.specs.ByArc.{by_arc_list}
use Rattle.buffer.specs.Put.{Put}
use Rattle.buffer.proofs.Pieces.{put_then}
use Rattle.report_lines.specs.Lines.{audit_text, level_line, member_lines}
use Rattle.report_text.specs.Report.{blank, no_floors, cost_text, tree_text, split_text}

module _ (t : Tree) (proposed : List ℤ) {a b c : List ℕ} {at e f n : ℕ} (n_is : n ≡ member_count (network t)) where
  pub tree_joined : {total : Answer ℤ} {search : Answer Verdict} {words : List ℕ}
      → total ≡ total_answer t proposed
      → search ≡ search_answer t proposed
      → words ≡ search_words t proposed
      → Put a at (cost_text t) b e
      → Put b e (audit_text n total search words) c f
      → Put a at (tree_text t proposed) c f
  unfolding tree_text
  tree_joined total_is search_is words_is p q = put_then p (rw (n_is, total_is, search_is, words_is) at q)

  -- the lists before the splits are all 0
  pub split_joined : (caps : List ℕ) {level : LevelAnswer} {vertices floors by_arc shares by_arc₀ shares₀ : List ℕ}
      → floors ≡ no_floors t
      → by_arc₀ ≡ blank t
      → shares₀ ≡ blank t
      → Put a at (level_line level) b e
      → Put b e (member_lines level vertices proposed by_arc shares n) c f
      → vertices ≡ members (network t)
      → by_arc ≡ by_arc_list t by_arc₀
      → level ≡ level_answer t caps floors shares₀
      → shares ≡ level_list t caps floors shares₀
      → Put a at (split_text t caps proposed) c f
  unfolding split_text
  split_joined caps floors_are by_arc₀_is shares₀_is p q vertices_is by_arc_is level_is shares_is =
      put_then (rw (level_is, floors_are, shares₀_is) at p)
      (rw (level_is, vertices_is, by_arc_is, shares_is, n_is, floors_are, by_arc₀_is, shares₀_is) at q)
