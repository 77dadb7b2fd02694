-- The level split's lists where costs rise, of several arcs and of one.
use Prim.Native.Nat.{ℕ, ◌+◌, ◌≤◌}
use mathlib.Core.Path.{◌≡◌, refl, sym, ap, ap₂, ◌∙◌, subst}
use mathlib.Core.Bool.{Bool, true, false, not}
use mathlib.Core.Logic.{⊎_elim}
use mathlib.Core.List.{List, map}
use native.Mathlib.Decide.{ℕ_discrete}
use native.Mathlib.Omega.{arith}
use borrow.Author.Tests.{eq-eqb, ne_eqb}
use lib.ListN.{length, get_or}
use lib.IntN.{pos}
use lib.Dec.{eqb}
use Rattle.basics.specs.Sum.{pick, sum₀}
use Rattle.game.specs.Network.{Network, used, everyone, sum_below, need, whole_cost, member_count}
use Rattle.game.specs.Tree.{Tree, network, network_of, of_arc, counted_costs}
use Rattle.game.specs.Core.{users, Core}
use Rattle.game.specs.Inward.{amount_of}
use Rattle.game.specs.Floors.{adjusted}
use Rattle.game.specs.Level.{level}
use Rattle.basics.proofs.Bools.{both, pick_yes, pick_no, pick_parts}
use Rattle.basics.proofs.Sums.{In, sum_cong, sum₀_cong, sum₀_add, term₀_le}
use Rattle.game.proofs.Below.{top_of}
use Rattle.game.proofs.Counted.{counted_at}
use Rattle.game.proofs.Bump.{sum_more, below_cong, below_more}
use Rattle.game.proofs.LevelCosts.{recosted, level_same}
use Rattle.game.proofs.LevelGrows.{level_ordered}
use Rattle.game.proofs.CostsGrow.{amount_grows}
use Rattle.game.proofs.Rises.{all_rises, branch_rises}
use Rattle.answers.specs.Laws.{ArcOf}
use Rattle.answers.specs.Level.{split, level_answer, level_shares, level_list}
use Rattle.answers.specs.DearerLaws.{rise, BothSplit, NoCheaper, RiseLaws, RiseStatement}
use Rattle.answers.specs.DearerLaws.{Dearer, SourceArc, DearerLaws, DearerStatement}
use Rattle.answers.proofs.LevelFits.{tree_rooted, tree_ends, fits_given}
use Rattle.answers.proofs.LevelGiven.{given_tree, given_served, given_list}

module _ (t t' : Tree) (differ : NoCheaper t t') where
  -- the second tree's network is the first's with other costs
  moved : network t' ≡ recosted (network t) (of_arc (counted_costs t'))
  moved =
      ap₂ (λ (ps ms : List ℕ). network_of ps (counted_costs t') ms) differ.same_parents differ.same_marks

  -- so each arc has the same users
  same_used : (k : ℕ) → used (network t') everyone k ≡ used (network t) everyone k
  unfolding used
  same_used k = ap (λ (n : Network). used n everyone k) moved

  -- a counted cost of the second tree
  pub counted_second : (k : ℕ) → In (network t).arcs k
      → of_arc (counted_costs t') k ≡ pick (used (network t) everyone k) (of_arc t'.costs k)
  counted_second k i =
      counted_at t' k (subst (λ (ps : List ℕ). In (length ps) k) (sym differ.same_parents) i)
      ∙ ap (λ (b : Bool). pick b (of_arc t'.costs k)) (same_used k)

  counted_grows : (k : ℕ) → In (network t).arcs k → of_arc (counted_costs t) k ≤ of_arc (counted_costs t') k
  counted_grows k i =
      ⊎_elim
      (λ (u : used (network t) everyone k ≡ true).
      omega (
        arith,
        counted_at t k i,
        counted_second k i,
        pick_yes (of_arc t.costs k) u,
        pick_yes (of_arc t'.costs k) u,
        differ.no_less k (record { first = i.low; last = i.high }) u,
      ))
      (λ (u : used (network t) everyone k ≡ false).
      omega (arith, counted_at t k i, pick_no (of_arc t.costs k) u))
      (both (used (network t) everyone k))

  -- both are split
  module _ (caps floors out out' : List ℕ) (given : BothSplit t t' caps floors out out') where
    abbrev n : Network
    n = network t

    abbrev dear : Network
    dear = recosted n (of_arc (counted_costs t'))

    abbrev shares : List ℕ
    shares = level_list t caps floors out

    abbrev shares' : List ℕ
    shares' = level_list t' caps floors out'

    -- the second list by the first network: the rule looks at no cost
    second_list : shares' ≡ level n caps (amount_of dear (adjusted dear floors))
    second_list =
        given_list t' caps floors out' given.second
        ∙ ap (λ (m : Network). level_shares m caps floors) moved
        ∙ level_same n (of_arc (counted_costs t')) caps (amount_of dear (adjusted dear floors))
        (amount_of dear (adjusted dear floors)) (λ e i. refl)

    none_falls : (j : ℕ) → get_or shares j 0 ≤ get_or shares' j 0
    none_falls j =
        let tree = given_tree t caps floors out given.first in
        rw (given_list t caps floors out given.first, second_list)
        ((level_ordered n caps (amount_of n (adjusted n floors)) (amount_of dear (adjusted dear floors))
        (amount_grows n (tree_rooted t tree) (tree_ends t tree) (of_arc (counted_costs t')) counted_grows floors)).le j)

    core_of : (u : Tree) (l : List ℕ) → level_answer u caps floors l ≡ split (member_count (network u))
        → Core (network u) (map pos (level_list u caps floors l))
    core_of u l is =
        rw (given_list u caps floors l is)
        (fits_given u (given_tree u caps floors l is) caps floors (given_served u caps floors l is)).in_core

    core : Core n (map pos shares)
    core = core_of t out given.first

    core' : Core dear (map pos shares')
    core' = subst (λ (m : Network). Core m (map pos shares')) moved (core_of t' out' given.second)

    in_branch : (b : ℕ) → ArcOf t b → of_arc t.parents b ≡ 0
        → need n b + sum₀ (member_count n) (λ j. pick (users n b j) (rise shares shares' j)) ≡ need (network t') b
    in_branch b arc e =
        let tree = given_tree t caps floors out given.first in
        branch_rises n shares shares' none_falls (of_arc (counted_costs t')) core core'
        (tree_rooted t tree) (tree_ends t tree) b (record { low = arc.first; high = arc.last }) e
        ∙ ap (λ (m : Network). need m b) (sym moved)

    rises : RiseLaws t t' shares shares'
    rises =
        record {
          same_members = ap member_count moved;
          none_falls = λ j h. none_falls j;
          together =
              all_rises n shares shares' none_falls (of_arc (counted_costs t')) core core' ∙ ap whole_cost (sym moved);
          in_branch = in_branch;
          at_most = λ b j arc e h u.
              omega (
                arith,
                in_branch b arc e,
                term₀_le (member_count n) j (λ i. pick (users n b i) (rise shares shares' i)) h,
                pick_yes (rise shares shares' j) u,
              );
        }

pub rise_laws : RiseStatement
rise_laws t t' caps floors out out' given differ = rises t t' differ caps floors out out' given

module _ (t t' : Tree) (a d : ℕ) (differ : Dearer t t' a d) where
  nowhere_less : NoCheaper t t'
  nowhere_less =
      record {
        same_parents = differ.same_parents;
        same_marks = differ.same_marks;
        no_less = λ k arc u.
            elim (ℕ_discrete k a) [
              | yes e ↦ rw e (omega (arith, differ.dearer))
              | no e ↦ omega (arith, differ.same_costs k arc e)
            ];
      }

  within : In (network t).arcs a
  within = record { low = differ.is_arc.first; high = differ.is_arc.last }

  -- the counted costs are the same but at arc a
  counted_dearer : (k : ℕ) → In (network t).arcs k
      → of_arc (counted_costs t') k ≡ of_arc (counted_costs t) k + pick (eqb k a) d
  counted_dearer k i =
      elim (ℕ_discrete k a) [
        | yes e ↦
            let u = ap (used (network t) everyone) e ∙ differ.has_users in
            omega (
              arith,
              counted_at t k i,
              counted_second t t' nowhere_less k i,
              pick_yes (of_arc t.costs k) u,
              pick_yes (of_arc t'.costs k) u,
              pick_yes d (eq-eqb k a e),
              ap (of_arc t.costs) e,
              ap (of_arc t'.costs) e,
              differ.dearer,
            )
        | no e ↦
            omega (
              arith,
              counted_at t k i,
              counted_second t t' nowhere_less k i,
              ap (pick (used (network t) everyone k))
                  (differ.same_costs k (record { first = i.low; last = i.high }) e),
              pick_no d (ne_eqb k a e),
            )
      ]

  whole_dearer : whole_cost (network t') ≡ whole_cost (network t) + d
  unfolding whole_cost
  whole_dearer =
      ap whole_cost (moved t t' nowhere_less)
      ∙ sum_cong (network t).arcs counted_dearer
      ∙ sum_more (network t).arcs (network t).cost a d within

  -- the need of an arc from the source at or above arc a
  need_dearer : (b : SourceArc t a) → need (network t') b.arc ≡ need (network t) b.arc + d
  unfolding sum_below
  need_dearer b =
      ap (λ (m : Network). need m b.arc) (moved t t' nowhere_less)
      ∙ below_cong (network t) (of_arc (counted_costs t')) (λ v. (network t).cost v + pick (eqb v a) d) b.arc
      counted_dearer
      ∙ below_more (network t) (network t).cost a d b.arc within
      ∙ ap (λ (x : ℕ). need (network t) b.arc + x) (pick_yes d b.above)

  module _ (caps floors out out' : List ℕ) (given : BothSplit t t' caps floors out out') where
    abbrev members : ℕ
    members = member_count (network t)

    abbrev risen : ℕ → ℕ
    risen = rise (level_list t caps floors out) (level_list t' caps floors out')

    laws : RiseLaws t t' (level_list t caps floors out) (level_list t' caps floors out')
    laws = rise_laws t t' caps floors out out' given nowhere_less

    together : sum₀ members risen ≡ d
    together = omega (arith, laws.together, whole_dearer)

    -- the rises of those who use the arc from the source are all
    others_none : (b : SourceArc t a) → sum₀ members (λ j. pick (not (users (network t) b.arc j)) (risen j)) ≡ 0
    others_none b =
        omega (
          arith,
          together,
          laws.in_branch b.arc b.is_arc b.from_source,
          need_dearer b,
          sum₀_add members (λ j. pick (users (network t) b.arc j) (risen j))
              (λ j. pick (not (users (network t) b.arc j)) (risen j)),
          sum₀_cong members (λ j h. pick_parts (users (network t) b.arc j) (risen j)),
        )

    all : DearerLaws t t' a d (level_list t caps floors out) (level_list t' caps floors out')
    all =
        record {
          same_members = laws.same_members;
          none_falls = laws.none_falls;
          at_most = λ j h. omega (arith, term₀_le members j risen h, together);
          together = together;
          branch =
              let p = top_of (network t) (tree_rooted t (given_tree t caps floors out given.first)) a within in
              record {
                arc = p.arc;
                is_arc = record { first = p.within.low; last = p.within.high };
                from_source = p.leaves;
                above = p.above;
              };
          others_same = λ b j h u.
              omega (
                arith,
                laws.none_falls j h,
                others_none b,
                term₀_le members j (λ i. pick (not (users (network t) b.arc i)) (risen i)) h,
                pick_yes (risen j) (ap not u),
              );
        }

pub dearer_laws : DearerStatement
dearer_laws t t' caps floors out out' a d given differ = all t t' a d differ caps floors out out' given
