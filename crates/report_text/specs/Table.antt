-- The sample report (specification, §9 and §10), reports of other proposals, and that on a refused job.
use Rattle.std.specs.Prelude.{ℕ, ◌≡◌, List, [], ◌∷◌, ◌++◌, ℤ, pos, negsuc}
use Prim.Native.String.{String}
use Rattle.game.specs.Tree.{Tree}
use Rattle.text.specs.Ascii.{ascii}
use Rattle.answers.specs.Networks.{T, W}
use Rattle.job_bytes.specs.JobBytes.{member_row, trailer}
use Rattle.job_bytes.specs.declared.version.Version.TheVariants.{One}
use Rattle.job.specs.Table.{T_arcs, T_job, fewer_job}
use Rattle.report_text.specs.Report.{tree_text, report_text}

-- T with the proposal 8 4 5, whose total is off and which has a group besides
abbrev pub off_job : List ℕ
off_job =
    T_arcs
    ++ member_row One 100 (pos 8) 0
    ++ member_row One 100 (pos 4) 0
    ++ member_row One 100 (pos 5) 0
    ++ trailer 0 32 4 3 1

-- the lines on the tree and the proposal, which are those of the audit behind the first
abbrev pub Audited : Tree → List ℤ → String → Type 0
Audited t proposed lines = tree_text t proposed ≡ ascii lines

pub record ReportTable : Type 0 where
  -- the sample job's
  pub T_report :
      report_text T_job
      ≡ ascii "cost 16 members 3\n"
      ++ ascii "audit group 1 of 1: 0\n"
      ++ ascii "level ok\n"
      ++ ascii "0 at 2: proposed 8 by-arc 4 level 6\n"
      ++ ascii "1 at 3: proposed 4 by-arc 8 level 6\n"
      ++ ascii "2 at 4: proposed 4 by-arc 4 level 4\n"
  -- a line of the total, then one of the group
  pub off_report :
      report_text off_job
      ≡ ascii "cost 16 members 3\n"
      ++ ascii "audit total 1\n"
      ++ ascii "audit group 2 of 2: 0 2\n"
      ++ ascii "level ok\n"
      ++ ascii "0 at 2: proposed 8 by-arc 4 level 6\n"
      ++ ascii "1 at 3: proposed 4 by-arc 8 level 6\n"
      ++ ascii "2 at 4: proposed 5 by-arc 4 level 4\n"
  pub T_7_5_4 : Audited T (pos 7 ∷ pos 5 ∷ pos 4 ∷ []) "cost 16 members 3\naudit pass\n"
  pub T_less_1_13_4 : Audited T (negsuc 0 ∷ pos 13 ∷ pos 4 ∷ []) "cost 16 members 3\naudit group 2 of 1: 1\n"
  pub T_9_9_9 :
      Audited T (pos 9 ∷ pos 9 ∷ pos 9 ∷ []) "cost 16 members 3\naudit total 11\naudit group 11 of 3: 0 1 2\n"
  pub T_below_0 : Audited T (negsuc 0 ∷ negsuc 0 ∷ negsuc 0 ∷ []) "cost 16 members 3\naudit total -19\n"
  pub W_7_7_6 : Audited W (pos 7 ∷ pos 7 ∷ pos 6 ∷ []) "cost 20 members 3\naudit group 2 of 2: 0 1\n"
  -- 15
  pub refused_report : report_text fewer_job ≡ ascii "refused 15 at 0\n"
