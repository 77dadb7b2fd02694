-- The layout from what the two loops write.
use Prim.Native.Nat.{ℕ, zero, suc, pred, ◌+◌, ◌≤◌, ◌<◌}
use mathlib.Core.Path.{◌≡◌, refl, sym, ap, ◌∙◌}
use mathlib.Core.List.{List, []}
use native.Mathlib.Omega.{arith}
use borrow.Author.Tests.{eq-eqb}
use lib.ListN.{length, get_or, take, drop}
use lib.Seq.{drop-cons}
use lib.Dec.{eqb}
use Rattle.basics.specs.Sum.{pick, list, sum₀, total}
use Rattle.game.specs.Network.{Network, at_or_below, member_count, members}
use Rattle.game.specs.Tree.{of_arc}
use Rattle.game.specs.Core.{users}
use Rattle.game.specs.ByArc.{user_count}
use Rattle.basics.proofs.Bools.{pick_yes}
use Rattle.basics.proofs.Sums.{In, sum_cong, sum_longer, count_le, sum₀_is, sum₀_cong, sum₀_at, term₀_le}
use Rattle.basics.proofs.Sizes.{size_le}
use Rattle.basics.proofs.Lists.{list_length, list_at}
use Rattle.game.proofs.ArcEntries.{of_list}
use Rattle.game.proofs.Below.{below_self}
use Rattle.game.proofs.Shapley.{user_count_pos}
use Rattle.tree.specs.Passes.{Sound, Listed, network_at}
use Rattle.tree.proofs.CapPass.{member_in}
use Rattle.tree.proofs.Vertices.{vertices_count, vertices_few, listed_end}
use Rattle.users.specs.Users.{LaidOut}
use Rattle.users.specs.Layout.{Counts, Begins, Begun, slot, Apart, Ordered}
use Rattle.basics.proofs.Totals.{total_places}
use Rattle.game.proofs.UserSums.{over_members, over_users}
use Rattle.users.proofs.Walk.{before, arc_filled, all_filled, arc_within}

-- the sum over a part of a list
part_total : (g : ℕ → ℕ) (l : List ℕ) (c a : ℕ) → a + c ≤ length l
    → before (λ s. g (get_or l s 0)) a + total g (take c (drop a l)) ≡ before (λ s. g (get_or l s 0)) (a + c)
unfolding total
part_total g l zero a h = let e : a + 0 ≡ a = omega arith in rw e (omega arith)
part_total g l (suc c) a h =
    let e : a + suc c ≡ suc a + c = omega arith in
    rw (e, drop-cons l a 0 (omega arith)) (omega (arith, part_total g l c (suc a) (omega arith)))

-- two terms are part of a sum
two_terms : (n i j : ℕ) (f : ℕ → ℕ) → i < j → j < n → f i + f j ≤ sum₀ n f
two_terms n i j f less high =
    omega (arith, term₀_le j i f less, sum₀_is j f, sum₀_is n f, sum_longer (suc j) n (λ k. f (pred k)) high)

-- the numbers of users as they are handed in
pub user_counts : (ps vertices : List ℕ) → Sound ps → {counts : List ℕ}
    → counts ≡ list (length ps) (user_count (network_at ps [] vertices)) → Counts (length ps) counts
user_counts ps vertices sound e =
    let n = network_at ps [] vertices in
    rw e
    (record {
      sized = list_length (user_count n) (length ps);
      limited =
          λ i h.
          omega (
            arith,
            list_at (user_count n) 0 (length ps) i h,
            size_le (member_count n) (users n (suc i)),
            count_le n.arcs n.member,
            sound.few,
          );
    })

module _ (ps vertices counts starts : List ℕ) (sound : Sound ps)
    (counted : counts ≡ list (length ps) (user_count (network_at ps [] vertices)))
    (begun : Begun ps counts starts) where
  abbrev net : Network
  net = network_at ps [] vertices

  count_of : (k : ℕ) → In (length ps) k → of_arc counts k ≡ user_count net k
  count_of k i = ap (λ (l : List ℕ). of_arc l k) counted ∙ of_list (length ps) (user_count net) k i

  begins : Begins (length ps) (of_arc ps) (user_count net) (of_arc starts)
  begins =
      record {
        source = refl;
        after =
            λ i h.
            begun.begins.after i h
            ∙ ap (λ (s : ℕ). of_arc starts (get_or ps i 0) + s)
            (sum_cong i (λ u j. ap (pick (eqb (of_arc ps u) (get_or ps i 0))) (count_of u (omega arith))));
      }

  arc_reach : (k : ℕ) → In (length ps) k → of_arc starts k + of_arc counts k ≤ member_count net
  arc_reach k i = omega (arith, arc_within net (of_arc starts) sound.rising begins k i, count_of k i)

  module _ (listing : Listed ps vertices) where
    -- the members' places are those below their number
    slots : (g : ℕ → ℕ) → sum₀ (member_count net) (λ j. g (slot vertices starts j)) ≡ before g (member_count net)
    slots g =
        ap (λ (l : List ℕ). sum₀ (member_count net) (λ j. g (slot l starts j))) listing.are
        ∙ over_members net (λ v. g (of_arc starts v))
        ∙ all_filled net (of_arc starts) sound.rising begins (listed_end ps vertices listing []) g

    slot_within : (j : ℕ) → j < length vertices → slot vertices starts j < member_count net
    slot_within j h =
        let v = get_or vertices j 0 in
        omega (
          arith,
          arc_reach v (member_in net listing.are j h),
          count_of v (member_in net listing.are j h),
          user_count_pos net v j (omega (arith, vertices_count ps vertices listing))
              (ap (λ (l : List ℕ). at_or_below net v (get_or l j 0)) (sym listing.are)
              ∙ below_self net sound.rising v),
        )

    -- two members at one place would count it twice
    slots_apart : (i j : ℕ) → i < j → j < length vertices → slot vertices starts i ≡ slot vertices starts j → ⊥
    slots_apart i j less h e =
        let s : ℕ → ℕ = slot vertices starts in
        let g : ℕ → ℕ = λ t. pick (eqb (s j) t) 1 in
        omega (
          arith,
          two_terms (member_count net) i j (λ u. g (s u)) less (omega (arith, vertices_count ps vertices listing)),
          slots g,
          sum₀_at (member_count net) (s j) (λ t. 1) (slot_within j h),
          pick_yes 1 (eq-eqb (s j) (s i) (sym e)),
          pick_yes 1 (eq-eqb (s j) (s j) refl),
        )

    pub members_apart : Apart vertices starts
    members_apart =
        record {
          few = vertices_few ps vertices listing sound;
          first = λ j h. (member_in net listing.are j h).low;
          last = λ j h. omega (arith, (member_in net listing.are j h).high, begun.kept);
          within = λ j h. omega (arith, slot_within j h, vertices_count ps vertices listing);
          apart = slots_apart;
        }

    module _ {order : List ℕ} (sized : length order ≡ length vertices) (ordered : Ordered vertices starts order) where
      part_within : (k : ℕ) → In (length ps) k → of_arc starts k + of_arc counts k ≤ length order
      part_within k i = omega (arith, arc_reach k i, vertices_count ps vertices listing)

      at_place : (j : ℕ) → j < member_count net → get_or order (slot (members net) starts j) 0 ≡ j
      at_place j h =
          ap (λ (l : List ℕ). get_or order (slot l starts j) 0) (sym listing.are)
          ∙ ordered.placed j (omega (arith, vertices_count ps vertices listing))

      place_in : (j : ℕ) → j < member_count net → slot (members net) starts j < length order
      place_in j h =
          omega (
            arith,
            ap (λ (l : List ℕ). slot l starts j) (sym listing.are),
            slot_within j (omega (arith, vertices_count ps vertices listing)),
            vertices_count ps vertices listing,
          )

      -- what stands at the users' places are their numbers
      at_slots : (g : ℕ → ℕ) (k : ℕ)
          → sum₀ (member_count net) (λ j. pick (users net k j) (g (get_or order (slot (members net) starts j) 0)))
          ≡ sum₀ (member_count net) (λ j. pick (users net k j) (g j))
      at_slots g k =
          sum₀_cong (member_count net) (λ j h. ap (λ (u : ℕ). pick (users net k j) (g u)) (at_place j h))

      all_listed : (g : ℕ → ℕ) → total g order ≡ sum₀ (member_count net) g
      all_listed g =
          total_places g order
          ∙ ap (before (λ t. g (get_or order t 0))) (sized ∙ vertices_count ps vertices listing)
          ∙ sym (all_filled net (of_arc starts) sound.rising begins (listed_end ps vertices listing [])
          (λ t. g (get_or order t 0)))
          ∙ sym (over_members net (λ v. g (get_or order (of_arc starts v) 0)))
          ∙ sum₀_cong (member_count net) (λ j h. ap g (at_place j h))

      pub laid_out : LaidOut net starts counts order
      laid_out =
          record {
            starts_sized = begun.kept;
            counts_sized = (user_counts ps vertices sound counted).sized;
            order_sized = sized ∙ vertices_count ps vertices listing;
            everyone = all_listed;
            place_within = place_in;
            placed = at_place;
            within = λ k low high. part_within k (omega arith);
            lists =
                λ k low high.
                record {
                  sums =
                      λ g.
                      omega (
                        arith,
                        part_total g order (of_arc counts k) (of_arc starts k) (part_within k (omega arith)),
                        arc_filled net (of_arc starts) sound.rising begins (listed_end ps vertices listing [])
                            (λ t. g (get_or order t 0)) k (omega arith),
                        ap (λ (c : ℕ). before (λ t. g (get_or order t 0)) (of_arc starts k + c))
                            (count_of k (omega arith)),
                        over_users net (λ v. g (get_or order (of_arc starts v) 0)) k,
                        at_slots g k,
                      );
                };
          }
