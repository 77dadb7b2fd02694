-- The shares made of the equal parts and the tallies are the by-arc split.
use Prim.Native.Nat.{ℕ, ◌+◌, ◌/◌, ◌<◌}
use mathlib.Core.Path.{◌≡◌, sym, ap, ap₂, ◌∙◌}
use mathlib.Core.List.{List, []}
use native.Mathlib.Nat.{mul-add-div_right, div-eq_of_lt}
use native.Mathlib.Omega.{arith}
use lib.ListN.{length, get_or}
use Rattle.basics.specs.Sum.{pick, list, entries}
use Rattle.basics.proofs.Lists.{entries_are, list_length}
use Rattle.basics.proofs.Sums.{In, sum_cong}
use Rattle.game.specs.Network.{Network, at_or_below, member_count, members}
use Rattle.game.specs.Tree.{network_of, of_arc}
use Rattle.game.specs.ByArc.{user_count, handled, by_arc}
use Rattle.game.proofs.ArcEntries.{of_list}
use Rattle.game.proofs.ByArc.{by_arc_length, by_arc_parts}
use Rattle.tree.specs.Passes.{Sound, Costed, Listed, network_at}
use Rattle.tree.proofs.CapPass.{member_in}
use Rattle.tree.proofs.Vertices.{vertices_count, vertices_few}
use Rattle.users.specs.Layout.{slot}
use Rattle.users.specs.Users.{LaidOut}
use Rattle.turns.specs.Keys.{KeysOf}
use Rattle.by_arc.specs.Shares.{sum_above, AllTallied, Placed, share_of}
use Rattle.by_arc.proofs.Ways.{parts_small}

module _ (ps cs vertices : List ℕ) where
  abbrev n : Network
  n = network_at ps cs vertices

  pub all_tallied : {starts counts order keys : List ℕ} → LaidOut (network_at ps [] vertices) starts counts order
      → KeysOf (length order) (handled n (length ps)).tallies order keys → AllTallied n starts keys
  all_tallied {starts} {counts} {order} {keys} laid of =
      record {
        sized = laid.starts_sized;
        kept = of.sized ∙ laid.order_sized;
        within = λ j h. omega (arith, laid.place_within j h, of.sized);
        tallied =
            λ j h.
            of.keyed (slot (members n) starts j) (laid.place_within j h)
            ∙ rw (laid.order_sized, laid.placed j h);
      }

  module _ (sound : Sound ps) (costed : Costed ps cs) (listing : Listed ps vertices) {starts keys : List ℕ}
      (tallied : AllTallied n starts keys) {counts : List ℕ}
      (counted : counts ≡ list (length ps) (user_count (network_at ps [] vertices))) {parts : List ℕ}
      (parted : parts ≡ list (length ps)
      (sum_above (network_of ps [] []) (λ k. of_arc cs k / of_arc counts k))) where
    -- the equal parts on the way to a vertex
    part_at : (v : ℕ) → In (length ps) v
        → of_arc parts v ≡ sum_above (network_of ps [] []) (λ k. of_arc cs k / of_arc counts k) v
    part_at v i = rw parted (of_list (length ps) _ v i)

    parts_length : length parts ≡ length ps
    parts_length = ap length parted ∙ list_length _ (length ps)

    all : length vertices ≡ member_count n
    all = vertices_count ps vertices listing

    vertex_is : (j : ℕ) → get_or vertices j 0 ≡ get_or (members n) j 0
    vertex_is j = ap (λ (l : List ℕ). get_or l j 0) listing.are

    pub split_placed : Placed vertices starts keys parts
    split_placed =
        record {
          few = vertices_few ps vertices listing sound;
          kept = tallied.kept ∙ sym all;
          last = λ j h. omega (arith, (member_in n listing.are j h).high, tallied.sized);
          keyed = λ j h. omega (arith, ap (of_arc starts) (vertex_is j), tallied.within j (omega (arith, all)));
          parted = λ j h. omega (arith, (member_in n listing.are j h).high, parts_length);
          limited =
              λ j h.
              omega (
                arith,
                part_at (get_or vertices j 0) (member_in n listing.are j h),
                parts_small ps cs counts sound costed (get_or vertices j 0),
              );
        }

    count_at : (k : ℕ) → In (length ps) k → of_arc counts k ≡ user_count n k
    count_at k i = ap (λ (l : List ℕ). of_arc l k) counted ∙ of_list (length ps) (user_count n) k i

    -- a key divided by the number of members is the tally
    tally_at : (j : ℕ) → j < member_count n
        → get_or keys (slot (members n) starts j) 0 / member_count n ≡ get_or (handled n (length ps)).tallies j 0
    tally_at j h =
        let some : 0 < member_count n = omega arith in
        let tally = get_or (handled n (length ps)).tallies j 0 in
        ap (λ (key : ℕ). key / member_count n) (tallied.tallied j h)
        ∙ mul-add-div_right some tally j
        ∙ omega (arith, div-eq_of_lt h)

    share_at_lem : (j : ℕ) → j < member_count n → get_or (by_arc n) j 0 ≡ share_of vertices starts keys parts j
    unfolding sum_above
    share_at_lem j h =
        let v = get_or vertices j 0 in
        let inside = member_in n listing.are j (omega (arith, all)) in
        by_arc_parts n j h
        ∙ ap₂ (λ (a b : ℕ). a + b)
        (sum_cong (length ps)
        (λ k i. ap₂ (λ (u c : ℕ). pick (at_or_below n k u) (n.cost k / c)) (sym (vertex_is j)) (sym (count_at k i)))
        ∙ sym (part_at v inside))
        (sym (tally_at j h)
        ∙ ap₂ (λ (place m : ℕ). get_or keys place 0 / m) (ap (of_arc starts) (sym (vertex_is j))) (sym all))

    pub split_is : entries (length vertices) (share_of vertices starts keys parts) ≡ by_arc n
    split_is =
        sym
        (entries_are (share_of vertices starts keys parts) 0 (length vertices) (by_arc n) (by_arc_length n ∙ sym all)
        (λ j h. share_at_lem j (omega (arith, all))))
