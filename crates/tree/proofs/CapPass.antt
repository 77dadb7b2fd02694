-- The caps in a pass over the members that puts each one at its vertex.
use Prim.Native.Nat.{ℕ, suc, ◌+◌, ◌-◌, ◌≤◌, ◌<◌}
use mathlib.Core.Path.{◌≡◌, sym, ap, ap₂, ◌∙◌, fun_ext}
use mathlib.Core.Bool.{Bool, true, false}
use mathlib.Core.Logic.{⊎_elim}
use mathlib.Core.List.{List}
use native.Mathlib.Decide.{ℕ_discrete}
use native.Mathlib.Omega.{arith}
use borrow.Author.Tests.{lt-ltb, le-ltb, ltb-true}
use lib.ListN.{length, get_or, set, replicate, length-set, length-replicate, get_or-replicate}
use lib.Seq.{get_or-set_same, get_or-set_other}
use lib.Dec.{ltb}
use Rattle.basics.specs.Sum.{pick, sum, list}
use Rattle.game.specs.Network.{Network, sum_below, number, member_count, members}
use Rattle.game.specs.Tree.{of_arc}
use Rattle.basics.proofs.Bools.{both, same_test, pick_yes, pick_no, pick_zero, pick_le}
use Rattle.basics.proofs.Sums.{In, sum_cong, sum_bound}
use Rattle.basics.proofs.Lists.{list_is, list_length}
use Rattle.game.proofs.ArcEntries.{of_list}
use Rattle.game.proofs.Numbering.{members_length, member_at, Vertex, vertex_of}
use Rattle.game.proofs.Overpayment.{number_lt}
use Rattle.game.proofs.LevelList.{view, view_off}
use Rattle.game.proofs.Bump.{below_cong}
use Rattle.limits.specs.Limits.{most_share, most_arcs}
use Rattle.limits.specs.Inner.{most_total}
use Rattle.tree.specs.Passes.{Capped}
use Rattle.answers.specs.Level.{cap_sum}
use Rattle.answers.specs.CapSums.{all_caps}
use Rattle.answers.proofs.RunningSums.{all_caps_by_vertex}

module _ (n : Network) {vertices : List ℕ} (listed : vertices ≡ members n) where
  pub member_count_lem : length vertices ≡ member_count n
  member_count_lem = ap length listed ∙ members_length n.member n.arcs

  -- member j's vertex
  pub vertex_at : (j : ℕ) → j < length vertices → Vertex n.member n.arcs j
  vertex_at j h = vertex_of n.member n.arcs j (omega (arith, member_count_lem))

  pub vertex_is : (j : ℕ) (h : j < length vertices) → get_or vertices j 0 ≡ (vertex_at j h).vertex
  vertex_is j h =
      let v = vertex_at j h in
      ap₂ (λ (l : List ℕ) (i : ℕ). get_or l i 0) listed (sym v.numbered)
      ∙ member_at n.member n.arcs v.vertex v.within v.is_member

  pub member_in : (j : ℕ) → j < length vertices → In n.arcs (get_or vertices j 0)
  member_in j h = rw (vertex_is j h) (vertex_at j h).within

module _ (n : Network) (caps : List ℕ) where
  -- the caps of the members 0 to j - 1 stand at their arcs
  pub record Placing (out : List ℕ) (j : ℕ) : Type 0 where
    pub kept : length out ≡ n.arcs
    pub placed : (i : ℕ) → i < n.arcs → get_or out i 0 ≡ pick (ltb (number n (suc i)) j) (view n caps (suc i))

  pub placing_start : {out : List ℕ} → out ≡ replicate n.arcs 0 → Placing out 0
  placing_start e =
      rw e
      (record {
        kept = length-replicate n.arcs 0;
        placed =
            λ i h. get_or-replicate n.arcs i 0 0 h
            ∙ sym (pick_no (view n caps (suc i)) (le-ltb (number n (suc i)) 0 (omega arith)));
      })

  no_cap : (v : ℕ) (b : Bool) → In n.arcs v → n.member v ≡ false → pick b (view n caps v) ≡ 0
  no_cap v b i m = ap (pick b) (view_off n caps v i m) ∙ pick_zero b

  module _ {vertices : List ℕ} (listed : vertices ≡ members n) where
    module _ (j i : ℕ) (h : j < length vertices) (next : get_or vertices j 0 ≡ suc i) where
      numbered : number n (suc i) ≡ j
      numbered = ap (number n) (sym next ∙ vertex_is n listed j h) ∙ (vertex_at n listed j h).numbered

      is_member : n.member (suc i) ≡ true
      is_member = ap n.member (sym next ∙ vertex_is n listed j h) ∙ (vertex_at n listed j h).is_member

      own : get_or caps j 0 ≡ pick (ltb (number n (suc i)) (j + 1)) (view n caps (suc i))
      own =
          sym
          (pick_yes (view n caps (suc i)) (lt-ltb (number n (suc i)) (j + 1) (omega (arith, numbered)))
          ∙ pick_yes (get_or caps (number n (suc i)) 0) is_member
          ∙ ap (λ (x : ℕ). get_or caps x 0) numbered)

      -- no other member has this number
      other : (u : ℕ) → In n.arcs u → (u ≡ suc i → ⊥)
          → pick (ltb (number n u) j) (view n caps u) ≡ pick (ltb (number n u) (j + 1)) (view n caps u)
      other u k d =
          ⊎_elim
          (λ (m : n.member u ≡ true).
          ap (λ (b : Bool). pick b (view n caps u))
          (same_test (ltb (number n u) j) (ltb (number n u) (j + 1))
          (λ l. lt-ltb (number n u) (j + 1) (omega (arith, ltb-true (number n u) j l)))
          (λ l. lt-ltb (number n u) j (omega (arith, ltb-true (number n u) (j + 1) l, not_it m)))))
          (λ (m : n.member u ≡ false). no_cap u (ltb (number n u) j) k m
          ∙ sym (no_cap u (ltb (number n u) (j + 1)) k m))
          (both (n.member u))
        where
          not_it : n.member u ≡ true → number n u ≡ j → ⊥
          not_it m e =
              d (sym (member_at n.member n.arcs u k m) ∙ ap₂ (λ (l : List ℕ) (x : ℕ). get_or l x 0) (sym listed) e
              ∙ next)

      placing_at : {out : List ℕ} → Placing out j → Placing (set out i (get_or caps j 0)) (j + 1)
      placing_at {out} s =
          record {
            kept = length-set out i (get_or caps j 0) ∙ s.kept;
            placed =
                λ u l.
                elim (ℕ_discrete u i) [
                  | yes d ↦ rw d (get_or-set_same out i (get_or caps j 0) 0 (omega (arith, s.kept)) ∙ own)
                  | no d ↦ get_or-set_other out i u (get_or caps j 0) 0 d ∙ s.placed u l
                      ∙ other (suc u) (omega arith) (λ e. d (omega arith))
                ];
          }

    pub placing_on : {j : ℕ} → j < length vertices → {out : List ℕ} → Placing out j
        → Placing (set out (get_or vertices j 0 - 1) (get_or caps j 0)) (j + 1)
    placing_on {j} h s =
        placing_at j (get_or vertices j 0 - 1) h (omega (arith, (member_in n listed j h).low)) s

    -- after the last member
    pub placing_end : {out : List ℕ} {j : ℕ} → length vertices ≤ j → Placing out j → out ≡ list n.arcs (view n caps)
    placing_end {out} {j} all s =
        list_is (view n caps) 0 n.arcs out s.kept
        (λ u l.
        s.placed u l
        ∙ ⊎_elim
        (λ (m : n.member (suc u) ≡ true).
        pick_yes (view n caps (suc u))
        (lt-ltb (number n (suc u)) j (omega (arith, number_lt n (suc u) (omega arith) m, member_count_lem n listed))))
        (λ (m : n.member (suc u) ≡ false). no_cap (suc u) (ltb (number n (suc u)) j) (omega arith) m
        ∙ sym (view_off n caps (suc u) (omega arith) m))
        (both (n.member (suc u))))

-- the caps at their arcs, and their sums
module _ (n : Network) (caps : List ℕ) {out : List ℕ} (placed : out ≡ list n.arcs (view n caps)) where
  pub placed_sized : length out ≡ n.arcs
  placed_sized = ap length placed ∙ list_length (view n caps) n.arcs

  pub placed_at : (v : ℕ) → In n.arcs v → of_arc out v ≡ view n caps v
  placed_at v i = ap (λ (l : List ℕ). of_arc l v) placed ∙ of_list n.arcs (view n caps) v i

  pub placed_fits : {k : ℕ} → n.arcs ≤ most_arcs → Capped k caps → sum (length out) (of_arc out) ≤ most_total
  placed_fits few c =
      omega (
        arith,
        ap (λ (m : ℕ). sum m (of_arc out)) placed_sized,
        sum_bound n.arcs most_share {f = of_arc out}
            (λ v i. omega (
              arith,
              placed_at v i,
              pick_le (n.member v) (get_or caps (number n v) 0),
              c.limited (number n v),
            )),
      )

  pub placed_sums : list n.arcs (sum_below n (of_arc out)) ≡ list n.arcs (cap_sum n caps)
  placed_sums = ap (list n.arcs) (fun_ext (λ k. below_cong n (of_arc out) (view n caps) k placed_at))

  pub placed_total : length caps ≡ member_count n → sum (length out) (of_arc out) ≡ all_caps caps
  placed_total e =
      ap (λ (m : ℕ). sum m (of_arc out)) placed_sized
      ∙ sum_cong n.arcs placed_at
      ∙ sym (all_caps_by_vertex n caps e)
