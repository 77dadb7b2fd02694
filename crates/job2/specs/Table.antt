-- Examples of jobs of version 2 and of conversions, as one statement about the answers, lists and outputs.
use Rattle.std.specs.Prelude.{ℕ, ◌≡◌, List, [], ◌∷◌, ◌++◌, length, take, replicate, pos}
use Rattle.answer_forms.specs.Answer.{value, refusal}
use Rattle.job_bytes.specs.JobBytes.{arc_row, member_row, trailer}
use Rattle.job_bytes.specs.declared.version.Version.TheVariants.{Two}
use Rattle.job.specs.Reader.{job_answer}
use Rattle.job.specs.Table.{T_job, fewer_job, cost_above, share_above, lists, output}
use Rattle.job2.specs.Reader.{Lent2, lent2, job2_answer, job2_lists}
use Rattle.job2.specs.Converter.{to2_answer, to2_output, to1_answer, to1_output}

-- the tree T of the specification, §10, with these marks at its dead ends
abbrev pub T2_arcs : (mark₂ mark₃ mark₄ : ℕ) → List ℕ
T2_arcs mark₂ mark₃ mark₄ = arc_row 0 0 6 ++ arc_row 1 mark₂ 1 ++ arc_row 1 mark₃ 5 ++ arc_row 0 mark₄ 4

-- T with no note, its dead ends marked, caps 100, the proposal 8 4 4 and these floors
abbrev pub T2_job : (floor₀ floor₁ floor₂ : ℕ) → List ℕ
T2_job floor₀ floor₁ floor₂ =
    T2_arcs 1 1 1
    ++ member_row Two 100 (pos 8) floor₀
    ++ member_row Two 100 (pos 4) floor₁
    ++ member_row Two 100 (pos 4) floor₂
    ++ trailer 0 32 4 3 2

-- T with vertices 3 and 4 unmarked, and a floor of 5
abbrev pub spare_job : List ℕ
spare_job = T2_arcs 1 0 0 ++ member_row Two 100 (pos 8) 5 ++ trailer 0 32 4 1 2

-- a job of two arcs and two members. Its arguments, in the order in which they are checked: the version, the offset of
-- the member rows, arc 2's mark, arc 1's parent, cost and mark, arc 2's parent (1 gives vertex 1 a child), member 1's
-- cap, member 0's proposal and floor, member 1's floor
abbrev pub order_job2 : (version members_at mark₂ parent₁ cost₁ mark₁ parent₂ cap₁ proposal₀ floor₀ floor₁ : ℕ) → List ℕ
order_job2 version members_at mark₂ parent₁ cost₁ mark₁ parent₂ cap₁ proposal₀ floor₀ floor₁ =
    arc_row parent₁ mark₁ cost₁
    ++ arc_row parent₂ mark₂ 1
    ++ member_row Two 100 (pos proposal₀) floor₀
    ++ member_row Two cap₁ (pos 1) floor₁
    ++ trailer 0 members_at 2 2 version

-- the same with each of them at fault
abbrev pub worst_job2 : List ℕ
worst_job2 = order_job2 1 17 2 1 cost_above 1 1 share_above share_above share_above 101

-- no arc row and a member row
abbrev pub bare_job2 : List ℕ
bare_job2 = member_row Two 100 (pos 8) 0 ++ trailer 0 0 0 1 2

-- lent lists of n entries, all of them 77, which no job holds
abbrev pub lists2 : ℕ → Lent2
lists2 n =
    lent2 (replicate n 77) (replicate n 77) (replicate n 77) (replicate n 77) (replicate n (pos 77)) (replicate n 77)

-- the job is refused with this number and place, and nothing is written to the lists
abbrev pub Refuses2 : List ℕ → Lent2 → ℕ → ℕ → Type 0
Refuses2 bytes l number place = (job2_answer bytes l ≡ refusal number place) × (job2_lists bytes l ≡ l)

-- the conversion is refused with this number and place, and nothing is written to the output
abbrev pub NotTo2 : List ℕ → List ℕ → ℕ → ℕ → Type 0
NotTo2 bytes out number place = (to2_answer bytes out ≡ refusal number place) × (to2_output bytes out ≡ out)

abbrev pub NotTo1 : List ℕ → List ℕ → ℕ → ℕ → Type 0
NotTo1 bytes out number place = (to1_answer bytes out ≡ refusal number place) × (to1_output bytes out ≡ out)

pub record Job2Table : Type 0 where
  pub T2_size : length (T2_job 0 0 0) ≡ 120
  pub T2_read : job2_answer (T2_job 0 7 100) (lists2 1023) ≡ value (record { arcs = 4; members = 3; note = 0 })
  pub T2_lists :
      job2_lists (T2_job 0 7 100) (lists2 1023)
      ≡ lent2
      ((0 ∷ 1 ∷ 1 ∷ 0 ∷ []) ++ replicate 1019 77)
      ((6 ∷ 1 ∷ 5 ∷ 4 ∷ []) ++ replicate 1019 77)
      ((0 ∷ 1 ∷ 1 ∷ 1 ∷ []) ++ replicate 1019 77)
      ((100 ∷ 100 ∷ 100 ∷ []) ++ replicate 1020 77)
      ((pos 8 ∷ pos 4 ∷ pos 4 ∷ []) ++ replicate 1020 (pos 77))
      ((0 ∷ 7 ∷ 100 ∷ []) ++ replicate 1020 77)
  pub spare_read : job2_answer spare_job (lists2 1023) ≡ value (record { arcs = 4; members = 1; note = 0 })
  -- the order of the checks: later faults stand beside the one that is found, which the row of the next number mends
  pub order_10 : Refuses2 (take 15 worst_job2) (lists2 1022) 10 0
  pub order_11_short : Refuses2 (take 15 worst_job2) (lists2 1023) 11 0
  pub order_11_long : Refuses2 (replicate 32928 0 ++ worst_job2) (lists2 1023) 11 0
  pub order_12 : Refuses2 worst_job2 (lists2 1023) 12 0
  pub order_13 : Refuses2 (order_job2 2 17 2 1 cost_above 1 1 share_above share_above share_above 101) (lists2 1023) 13 0
  pub order_16 : Refuses2 (order_job2 2 16 2 1 cost_above 1 1 share_above share_above share_above 101) (lists2 1023) 16 2
  pub order_3 : Refuses2 (order_job2 2 16 1 1 cost_above 1 1 share_above share_above share_above 101) (lists2 1023) 3 1
  pub order_4 : Refuses2 (order_job2 2 16 1 0 cost_above 1 1 share_above share_above share_above 101) (lists2 1023) 4 1
  pub order_17 : Refuses2 (order_job2 2 16 1 0 6 1 1 share_above share_above share_above 101) (lists2 1023) 17 1
  pub order_3_next : Refuses2 (order_job2 2 16 1 0 6 1 2 share_above share_above share_above 101) (lists2 1023) 3 2
  pub order_18 : Refuses2 (order_job2 2 16 0 0 6 0 0 share_above share_above share_above 101) (lists2 1023) 18 0
  pub order_15 : Refuses2 (order_job2 2 16 1 0 6 0 0 share_above share_above share_above 101) (lists2 1023) 15 0
  pub order_7_caps : Refuses2 (order_job2 2 16 1 0 6 1 0 share_above share_above share_above 101) (lists2 1023) 7 1
  pub order_7_proposals : Refuses2 (order_job2 2 16 1 0 6 1 0 100 share_above share_above 101) (lists2 1023) 7 0
  pub order_7_floors : Refuses2 (order_job2 2 16 1 0 6 1 0 100 8 share_above 101) (lists2 1023) 7 0
  pub order_27 : Refuses2 (order_job2 2 16 1 0 6 1 0 100 8 100 101) (lists2 1023) 27 1
  pub order_read :
      job2_answer (order_job2 2 16 1 0 6 1 0 100 8 100 100) (lists2 1023)
      ≡ value (record { arcs = 2; members = 2; note = 0 })
  -- 1 before 15
  pub none_1 : Refuses2 bare_job2 (lists2 1023) 1 0
  -- each version's reader with the other's job
  pub T_by_2 : Refuses2 T_job (lists2 1023) 12 0
  pub T2_by_1 : job_answer (T2_job 0 0 0) (lists 1023) ≡ refusal 12 0
  -- there: the length, the bytes and those behind them; 15 beside 20, then 20
  pub T_to_2 : to2_answer T_job (output 122) ≡ value 120
  pub T_in_2 : to2_output T_job (output 122) ≡ T2_job 0 0 0 ++ (9 ∷ 9 ∷ [])
  pub to_2_15 : NotTo2 fewer_job (output 0) 15 0
  pub to_2_20 : NotTo2 T_job (output 119) 20 0
  -- and back; 27 beside 30 and 20, 29 beside 30 and 20, 30 beside 20, then 20
  pub T2_to_1 : to1_answer (T2_job 0 0 0) (output 99) ≡ value 96
  pub T2_in_1 : to1_output (T2_job 0 0 0) (output 99) ≡ T_job ++ (9 ∷ 9 ∷ 9 ∷ [])
  pub to_1_27 : NotTo1 (T2_job 0 101 0) (output 0) 27 1
  pub to_1_29 : NotTo1 spare_job (output 0) 29 3
  pub to_1_30 : NotTo1 (T2_job 0 1 1) (output 0) 30 1
  pub to_1_20 : NotTo1 (T2_job 0 0 0) (output 95) 20 0
