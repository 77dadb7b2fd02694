-- The members' list.
--
--   members_length                its length is the number of members
--   member_at                     a member stands at its number
--   vertex_of                     the vertex of a member number
--   before_member                 the number of the next member
use Prim.Native.Nat.{ℕ, zero, suc, pred, ◌+◌, ◌<◌}
use mathlib.Core.Path.{◌≡◌, refl, sym, ap, ap₂, ◌∙◌}
use mathlib.Core.Bool.{Bool, true, false}
use mathlib.Core.Logic.{⊎_elim}
use mathlib.Core.List.{List, [], ◌∷◌, ◌++◌}
use native.Mathlib.Decide.{dec_lt}
use native.Mathlib.Omega.{arith}
use lib.ListN.{length, get_or, length-append, get_or-append}
use lib.Seq.{get_or_at}
use Rattle.basics.specs.Sum.{pick, count}
use Rattle.game.specs.Network.{members_to}
use Rattle.basics.proofs.Bools.{both, pick_pos, pick_yes}
use Rattle.basics.proofs.Sums.{In, in_cases, in_last, in_more, sum_longer}

module _ (m : ℕ → Bool) where
  pub members_yes : (v : ℕ) → m (suc v) ≡ true → members_to m (suc v) ≡ members_to m v ++ (suc v ∷ [])
  unfolding members_to
  members_yes v e = rw (e, members_to)

  pub members_no : (v : ℕ) → m (suc v) ≡ false → members_to m (suc v) ≡ members_to m v
  unfolding members_to
  members_no v e = rw (e, members_to)

  -- how many members there are up to v
  pub members_length : (v : ℕ) → length (members_to m v) ≡ count v m
  unfolding members_to
  members_length zero = refl
  members_length (suc v) =
      ⊎_elim
      (λ (e : m (suc v) ≡ true).
      ap length (members_yes v e)
      ∙ length-append (members_to m v) (suc v ∷ [])
      ∙ ap₂ (λ (a : ℕ) (b : Bool). a + pick b 1) (members_length v) (sym e))
      (λ (e : m (suc v) ≡ false). ap length (members_no v e) ∙ members_length v ∙ rw e (omega arith))
      (both (m (suc v)))

  -- how many members come before a member
  pub before_member : (v : ℕ) → 0 < v → m v ≡ true → suc (count (pred v) m) ≡ count v m
  before_member zero h e = absurd (omega arith)
  before_member (suc v) h e = rw e (omega arith)

  -- a member stands behind all members with a smaller vertex
  pub member_at : (n v : ℕ) → In n v → m v ≡ true → get_or (members_to m n) (count (pred v) m) 0 ≡ v
  member_at zero v i e = absurd (omega arith)
  member_at (suc n) v i e =
      in_cases n v i
      (λ j.
      ⊎_elim
      (λ (f : m (suc n) ≡ true).
      ap (λ (l : List ℕ). get_or l (count (pred v) m) 0) (members_yes n f)
      ∙ get_or-append (members_to m n) (suc n ∷ []) 0 (count (pred v) m)
      (omega (arith, members_length n, before_member v i.low e, sum_longer v n (λ k. pick (m k) 1) j.high))
      ∙ member_at n v j e)
      (λ (f : m (suc n) ≡ false). ap (λ (l : List ℕ). get_or l (count (pred v) m) 0) (members_no n f) ∙ member_at n v j e)
      (both (m (suc n))))
      (λ d.
      ap₂ (λ (l : List ℕ) (u : ℕ). get_or l (count (pred u) m) 0) (members_yes n (sym (ap m d) ∙ e)) d
      ∙ get_or_at (members_to m n) (suc n) [] 0 (count n m) (members_length n)
      ∙ sym d)

  -- the vertex of a member number
  pub record Vertex (n j : ℕ) : Type 0 where
    pub vertex : ℕ
    pub within : In n vertex
    pub is_member : m vertex ≡ true
    pub numbered : count (pred vertex) m ≡ j

  pub vertex_of : (n j : ℕ) → j < count n m → Vertex n j
  vertex_of zero j h = absurd (omega arith)
  vertex_of (suc n) j h =
      elim (dec_lt j (count n m)) [
        | yes l ↦
            let v = vertex_of n j l in
            record
            { vertex = v.vertex; within = in_more v.within; is_member = v.is_member; numbered = v.numbered }
        | no l ↦
            let p = pick_pos (m (suc n)) 1 (omega arith) in
            record { vertex = suc n; within = in_last n; is_member = p.0; numbered = omega (arith, pick_yes 1 p.0) }
      ]
