-- Examples of jobs, as one statement about the answers and lists of the reader and of the writer.
use Rattle.std.specs.Prelude.{ℕ, ◌≡◌, List, [], ◌∷◌, ◌++◌, length, take, replicate, ℤ, pos, negsuc}
use Rattle.answer_forms.specs.Answer.{value, refusal, refused}
use Rattle.job_bytes.specs.JobBytes.{Contents, contents, arc_row, member_row, trailer}
use Rattle.job_bytes.specs.declared.version.Version.TheVariants.{One}
use Rattle.job_checks.specs.JobCheck.{values_check}
use Rattle.job.specs.Reader.{Lent, lent, job_answer, job_lists}
use Rattle.job.specs.Writer.{length_answer, write_answer, write_output}

-- the tree T of the specification, §10
abbrev pub T_arcs : List ℕ
T_arcs = arc_row 0 0 6 ++ arc_row 1 0 1 ++ arc_row 1 0 5 ++ arc_row 0 0 4

-- T with no note, caps 100 and the proposal 8 4 4
abbrev pub T_job : List ℕ
T_job =
    T_arcs
    ++ member_row One 100 (pos 8) 0
    ++ member_row One 100 (pos 4) 0
    ++ member_row One 100 (pos 4) 0
    ++ trailer 0 32 4 3 1

-- T with a note of two bytes and the proposal -1 13 4
abbrev pub noted_job : List ℕ
noted_job =
    (7 ∷ 9 ∷ [])
    ++ T_arcs
    ++ member_row One 100 (negsuc 0) 0
    ++ member_row One 100 (pos 13) 0
    ++ member_row One 100 (pos 4) 0
    ++ trailer 2 34 4 3 1

-- T with one member row less
abbrev pub fewer_job : List ℕ
fewer_job = T_arcs ++ member_row One 100 (pos 8) 0 ++ member_row One 100 (pos 4) 0 ++ trailer 0 32 4 2 1

-- one above the greatest cost, and one above the greatest cap and share
abbrev pub cost_above : ℕ
cost_above = 1000000001

abbrev pub share_above : ℕ
share_above = 2000000000001

-- a job of two arcs and two members. Its arguments, in the order in which they are checked: the version, the offset of
-- the member rows, arc 2's filler, arc 1's parent and cost, arc 2's parent (1 makes arc 2's vertex the only member),
-- member 1's cap, member 0's proposal
abbrev pub order_job : (version members_at filler₂ parent₁ cost₁ parent₂ cap₁ proposal₀ : ℕ) → List ℕ
order_job version members_at filler₂ parent₁ cost₁ parent₂ cap₁ proposal₀ =
    arc_row parent₁ 0 cost₁
    ++ arc_row parent₂ filler₂ 1
    ++ member_row One 100 (pos proposal₀) 0
    ++ member_row One cap₁ (pos 1) 0
    ++ trailer 0 members_at 2 2 version

-- the same with each of them at fault
abbrev pub worst_job : List ℕ
worst_job = order_job 2 17 1 1 cost_above 2 share_above share_above

-- 1,024 arc rows and no member row: arc 1 has itself for a parent, this filler and a cost above its limit, all else in
-- the rows is 0
abbrev pub many_job : (filler₁ : ℕ) → List ℕ
many_job filler₁ = arc_row 1 filler₁ cost_above ++ replicate 8184 0 ++ trailer 0 8192 1024 0 1

-- lent lists of n entries, all of them 77, which no job holds
abbrev pub lists : ℕ → Lent
lists n = lent (replicate n 77) (replicate n 77) (replicate n 77) (replicate n (pos 77))

-- the job is refused with this number and place, and nothing is written to the lists
abbrev pub Refuses : List ℕ → Lent → ℕ → ℕ → Type 0
Refuses bytes l number place = (job_answer bytes l ≡ refusal number place) × (job_lists bytes l ≡ l)

-- what T-job holds, and its bytes one by one
abbrev pub T_contents : Contents
T_contents =
    contents [] (0 ∷ 1 ∷ 1 ∷ 0 ∷ []) (6 ∷ 1 ∷ 5 ∷ 4 ∷ []) (100 ∷ 100 ∷ 100 ∷ []) (pos 8 ∷ pos 4 ∷ pos 4 ∷ [])

abbrev pub T_bytes : List ℕ
T_bytes =
    (0 ∷ 0 ∷ 0 ∷ 0 ∷ 6 ∷ 0 ∷ 0 ∷ 0 ∷ 1 ∷ 0 ∷ 0 ∷ 0 ∷ 1 ∷ 0 ∷ 0 ∷ 0 ∷ [])
    ++ (1 ∷ 0 ∷ 0 ∷ 0 ∷ 5 ∷ 0 ∷ 0 ∷ 0 ∷ 0 ∷ 0 ∷ 0 ∷ 0 ∷ 4 ∷ 0 ∷ 0 ∷ 0 ∷ [])
    ++ (100 ∷ 0 ∷ 0 ∷ 0 ∷ 0 ∷ 0 ∷ 0 ∷ 0 ∷ 8 ∷ 0 ∷ 0 ∷ 0 ∷ 0 ∷ 0 ∷ 0 ∷ 0 ∷ [])
    ++ (100 ∷ 0 ∷ 0 ∷ 0 ∷ 0 ∷ 0 ∷ 0 ∷ 0 ∷ 4 ∷ 0 ∷ 0 ∷ 0 ∷ 0 ∷ 0 ∷ 0 ∷ 0 ∷ [])
    ++ (100 ∷ 0 ∷ 0 ∷ 0 ∷ 0 ∷ 0 ∷ 0 ∷ 0 ∷ 4 ∷ 0 ∷ 0 ∷ 0 ∷ 0 ∷ 0 ∷ 0 ∷ 0 ∷ [])
    ++ (0 ∷ 0 ∷ 0 ∷ 0 ∷ 32 ∷ 0 ∷ 0 ∷ 0 ∷ 4 ∷ 0 ∷ 3 ∷ 0 ∷ 1 ∷ 0 ∷ 84 ∷ 74 ∷ [])

-- an output of n bytes
abbrev pub output : ℕ → List ℕ
output n = replicate n 9

-- a tree with one cap, one proposed share and 256 bytes of note: each is a fault where it has two members
abbrev pub faulty : (parents costs : List ℕ) → Contents
faulty parents costs = contents (replicate 256 7) parents costs (share_above ∷ []) (pos share_above ∷ [])

-- two arcs from the source, so two members, with these caps and shares and a note of this many bytes
abbrev pub noted : List ℕ → List ℤ → ℕ → Contents
noted caps proposals note = contents (replicate note 7) (0 ∷ 0 ∷ []) (1 ∷ 1 ∷ []) caps proposals

-- writing is refused with this number and place, and nothing is written to the output
abbrev pub RefusesToWrite : Contents → List ℕ → ℕ → ℕ → Type 0
RefusesToWrite c out number place = (write_answer c out ≡ refusal number place) × (write_output c out ≡ out)

pub record JobTable : Type 0 where
  pub T_size : length T_job ≡ 96
  pub T_read : job_answer T_job (lists 1023) ≡ value (record { arcs = 4; members = 3; note = 0 })
  pub T_lists :
      job_lists T_job (lists 1023)
      ≡ lent
      ((0 ∷ 1 ∷ 1 ∷ 0 ∷ []) ++ replicate 1019 77)
      ((6 ∷ 1 ∷ 5 ∷ 4 ∷ []) ++ replicate 1019 77)
      ((100 ∷ 100 ∷ 100 ∷ []) ++ replicate 1020 77)
      ((pos 8 ∷ pos 4 ∷ pos 4 ∷ []) ++ replicate 1020 (pos 77))
  pub noted_read : job_answer noted_job (lists 1023) ≡ value (record { arcs = 4; members = 3; note = 2 })
  pub noted_proposals :
      (job_lists noted_job (lists 1023)).proposals ≡ (negsuc 0 ∷ pos 13 ∷ pos 4 ∷ []) ++ replicate 1020 (pos 77)
  pub fewer_members : Refuses fewer_job (lists 1023) 15 0
  -- the order of the checks: later faults stand beside the one that is found, which the row of the next number mends
  pub order_10 : Refuses (take 15 worst_job) (lists 1022) 10 0
  pub order_11_short : Refuses (take 15 worst_job) (lists 1023) 11 0
  pub order_11_long : Refuses (replicate 24760 0 ++ worst_job) (lists 1023) 11 0
  pub order_12 : Refuses worst_job (lists 1023) 12 0
  pub order_13 : Refuses (order_job 1 17 1 1 cost_above 2 share_above share_above) (lists 1023) 13 0
  pub order_14 : Refuses (order_job 1 16 1 1 cost_above 2 share_above share_above) (lists 1023) 14 2
  pub order_3 : Refuses (order_job 1 16 0 1 cost_above 2 share_above share_above) (lists 1023) 3 1
  pub order_4 : Refuses (order_job 1 16 0 0 cost_above 2 share_above share_above) (lists 1023) 4 1
  pub order_3_next : Refuses (order_job 1 16 0 0 6 2 share_above share_above) (lists 1023) 3 2
  pub order_15 : Refuses (order_job 1 16 0 0 6 1 share_above share_above) (lists 1023) 15 0
  pub order_7_caps : Refuses (order_job 1 16 0 0 6 0 share_above share_above) (lists 1023) 7 1
  pub order_7_proposals : Refuses (order_job 1 16 0 0 6 0 100 share_above) (lists 1023) 7 0
  pub order_read :
      job_answer (order_job 1 16 0 0 6 0 100 8) (lists 1023) ≡ value (record { arcs = 2; members = 2; note = 0 })
  -- 1 after 14, and before 3, 4 and 15: the latter by the checks of the values alone, as 1,024 fillers compute slowly
  pub many_14 : Refuses (many_job 1) (lists 1023) 14 1
  pub many_1 : values_check One (many_job 0) ≡ refused 1 0
  -- 1 where there are no arcs, before 15
  pub none_1 : Refuses (member_row One 100 (pos 8) 0 ++ trailer 0 0 0 1 1) (lists 1023) 1 0
  -- the writer: the sample, with and without bytes behind it, and asked for its length; the bits of a negative share
  pub T_made : T_job ≡ T_bytes
  pub T_asked : length_answer T_contents ≡ value 96
  pub T_written : write_answer T_contents (output 96) ≡ value 96
  pub T_exact : write_output T_contents (output 96) ≡ T_bytes
  pub T_longer : write_output T_contents (output 99) ≡ T_bytes ++ (9 ∷ 9 ∷ 9 ∷ [])
  pub negative_row : member_row One 0 (negsuc 1) 0 ≡ replicate 8 0 ++ (254 ∷ replicate 7 255)
  -- the order of its checks, as above: 20 stands beside each fault, and 19 where there are 256 bytes in the note
  pub write_1 : RefusesToWrite (faulty [] (cost_above ∷ [])) (output 0) 1 0
  pub write_2 : RefusesToWrite (faulty (1 ∷ 2 ∷ []) (cost_above ∷ [])) (output 0) 2 0
  pub write_3 : RefusesToWrite (faulty (1 ∷ 2 ∷ []) (cost_above ∷ 1 ∷ [])) (output 0) 3 1
  pub write_4 : RefusesToWrite (faulty (0 ∷ 2 ∷ []) (cost_above ∷ 1 ∷ [])) (output 0) 4 1
  pub write_3_next : RefusesToWrite (faulty (0 ∷ 2 ∷ []) (1 ∷ cost_above ∷ [])) (output 0) 3 2
  pub write_6_caps : RefusesToWrite (faulty (0 ∷ 0 ∷ []) (1 ∷ 1 ∷ [])) (output 0) 6 0
  pub write_7_caps : RefusesToWrite (noted (1 ∷ share_above ∷ []) (pos share_above ∷ []) 256) (output 0) 7 1
  pub write_6_proposals : RefusesToWrite (noted (1 ∷ 1 ∷ []) (pos share_above ∷ []) 256) (output 0) 6 0
  pub write_7_proposals : RefusesToWrite (noted (1 ∷ 1 ∷ []) (pos 1 ∷ pos share_above ∷ []) 256) (output 0) 7 1
  pub write_19 : RefusesToWrite (noted (1 ∷ 1 ∷ []) (pos 1 ∷ pos 1 ∷ []) 256) (output 0) 19 0
  pub write_20 : RefusesToWrite (noted (1 ∷ 1 ∷ []) (pos 1 ∷ pos 1 ∷ []) 255) (output 318) 20 0
  pub write_ok : write_answer (noted (1 ∷ 1 ∷ []) (pos 1 ∷ pos 1 ∷ []) 255) (output 319) ≡ value 319
