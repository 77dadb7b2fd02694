-- The arcs one after the other, from the last down: each hands back the tallies for the next.
use Prim.Native.Nat.{ℕ, suc, ◌+◌, ◌-◌, ◌*◌, ◌%◌, ◌≤◌, ◌<◌}
use mathlib.Core.Path.{◌≡◌, refl, sym, ap, ap₂, ◌∙◌}
use mathlib.Core.Logic.{◌⊎◌}
use mathlib.Core.List.{List, [], ◌++◌}
use native.Mathlib.Omega.{arith}
use lib.ListN.{length, get_or, take, drop, length-take, length-drop}
use Rattle.limits.specs.Limits.{most_arcs}
use Rattle.basics.proofs.Sums.{sum₀_zero, count_le}
use Rattle.game.specs.Network.{Network, member_count}
use Rattle.game.specs.Tree.{of_arc}
use Rattle.game.specs.ByArc.{user_count, leftover, tallied, handled}
use Rattle.game.proofs.ByArc.{tallied_at, handled_tallies, first_tally, tally_limit}
use Rattle.tree.specs.Passes.{Sound, listed, network_at}
use Rattle.users.specs.Users.{LaidOut}
use Rattle.basics.proofs.Totals.{total_has}
use Rattle.users.proofs.Listed.{as_many_users}
use Rattle.users.proofs.Parts.{entry, part_within}
use Rattle.turns.specs.Keys.{KeysOf, Keys, HandedBack}
use Rattle.turns.proofs.Served.{users_keys}
use Rattle.by_arc.proofs.PartKeys.{part_keys, whole_keys, no_user}

-- costs do not decide where the users are
pub with_costs : (ps cs vertices : List ℕ) {starts counts order : List ℕ}
    → LaidOut (network_at ps [] vertices) starts counts order
    → LaidOut (network_at ps cs vertices) starts counts order
with_costs ps cs vertices laid =
    record {
      starts_sized = laid.starts_sized;
      counts_sized = laid.counts_sized;
      order_sized = laid.order_sized;
      everyone = laid.everyone;
      place_within = laid.place_within;
      placed = laid.placed;
      within = laid.within;
      lists = λ k low high. record { sums = (laid.lists k low high).sums };
    }

module _ (ps vertices : List ℕ) {starts counts order : List ℕ} (sound : Sound ps)
    (laid : LaidOut (network_at ps [] vertices) starts counts order) where
  -- no more members than arcs
  pub order_few : length order ≤ most_arcs
  order_few = omega (arith, laid.order_sized, count_le (length ps) (listed vertices), sound.few)

  pub part_few : (k : ℕ) → 1 ≤ k → k ≤ length ps → get_or starts (k - 1) 0 + get_or counts (k - 1) 0 ≤ most_arcs
  part_few k low high = omega (arith, part_within laid k low high, order_few)

-- the arcs above k are handled
abbrev pub Turned : Network → List ℕ → List ℕ → ℕ → Type 0
Turned n order keys k = KeysOf (length order) (handled n (n.arcs - k)).tallies order keys

module _ (ps cs vertices : List ℕ) {starts counts order : List ℕ}
    (laid_out : LaidOut (network_at ps [] vertices) starts counts order) where
  abbrev n : Network
  n = network_at ps cs vertices

  laid : LaidOut n starts counts order
  laid = with_costs ps cs vertices laid_out

  pub turned_start : {keys : List ℕ} {k : ℕ} → keys ≡ order → k ≡ n.arcs → Turned n order keys k
  turned_start {keys} {k} same all =
      let none : n.arcs - k ≡ 0 = omega arith in
      rw (none, same)
      (record {
        sized = refl;
        keyed =
            λ i h.
            sym (ap (λ (t : ℕ). t * length order + get_or order i 0) (first_tally n (get_or order i 0)) ∙ omega arith);
      })

  -- u + 1 less the number of members is 0 for each member, so for each number in the order
  number_below : (p : ℕ) → p < length order → get_or order p 0 < member_count n
  number_below p h =
      omega (
        arith,
        total_has (λ u. suc u - member_count n) order p h,
        laid.everyone (λ u. suc u - member_count n),
        sum₀_zero (member_count n) {f = λ j. suc j - member_count n} (λ j l. omega arith),
      )

  module _ (k : ℕ) (low : 1 ≤ k) (high : k ≤ n.arcs) {keys : List ℕ} (s : Turned n order keys k) where
    abbrev now_tallies : List ℕ
    now_tallies = (handled n (n.arcs - k)).tallies

    abbrev from : ℕ
    from = of_arc starts k

    abbrev count : ℕ
    count = of_arc counts k

    abbrev part : List ℕ → List ℕ
    part l = take count (drop from l)

    part_turned_keys : length order ≤ most_arcs → n.arcs ≤ most_arcs → Keys (part keys)
    part_turned_keys few arcs =
        users_keys (length order) n k now_tallies (part order) (part keys) (laid.lists k low high)
        (omega (arith, laid.order_sized))
        (part_keys (length order) order keys from count (laid.within k low high) s)
        few
        (λ j h. omega (arith, tally_limit n (n.arcs - k) j h))

    -- the members that do not use arc k keep their tallies
    kept : (p : ℕ) → p < length order → (p < from) ⊎ (from + count ≤ p)
        → get_or (tallied n k now_tallies) (get_or order p 0) 0 ≡ get_or now_tallies (get_or order p 0) 0
    kept p h out =
        tallied_at n k now_tallies (get_or order p 0) (number_below p h)
        ∙ rw (no_user laid k low high p h out) (omega arith)

    part_turned_on : (more : ℕ) → (0 < user_count n k → more ≡ leftover n k) → (new : List ℕ)
        → HandedBack (length order) more (part keys) new
        → Turned n order (take from keys ++ (new ++ drop count (drop from keys))) (k - 1)
    part_turned_on more left new back =
        let next : n.arcs - (k - 1) ≡ suc (n.arcs - k) = omega arith in
        let here : n.arcs - (n.arcs - k) ≡ k = omega arith in
        let handed : (handled n (n.arcs - (k - 1))).tallies ≡ tallied n k now_tallies =
        ap (λ (i : ℕ). (handled n i).tallies) next ∙ handled_tallies n (n.arcs - k)
        ∙ ap (λ (a : ℕ). tallied n a now_tallies) here in
        rw handed
        (whole_keys (length order) order keys from count (laid.within k low high) s new
        (back.is n k now_tallies (part order) (laid.lists k low high) (omega (arith, laid.order_sized)) left
        (part_keys (length order) order keys from count (laid.within k low high) s))
        kept)

    -- the part as the code reads its start and size
    abbrev start : ℕ
    start = get_or starts (k - 1) 0

    abbrev size : ℕ
    size = start + get_or counts (k - 1) 0 - start

    start_is : start ≡ from
    start_is = entry starts k low

    size_is : size ≡ count
    size_is = omega (arith, entry counts k low)

    pub turned_within : start + get_or counts (k - 1) 0 ≤ length keys
    turned_within = omega (arith, part_within laid k low high, s.sized)

    pub turned_keys : Sound ps → Keys (take size (drop start keys))
    turned_keys sound = rw (size_is, start_is) (part_turned_keys (order_few ps vertices sound laid_out) sound.few)

    pub turned_size : length (take size (drop start keys)) ≡ size
    turned_size = omega (arith, length-take size (drop start keys), length-drop start keys, turned_within)

    pub turned_on : (more : ℕ) → (0 < get_or counts (k - 1) 0 → more ≡ get_or cs (k - 1) 0 % get_or counts (k - 1) 0)
        → (new : List ℕ) → HandedBack (length order) more (take size (drop start keys)) new
        → Turned n order (take start keys ++ (new ++ drop size (drop start keys))) (k - 1)
    turned_on more left new back =
        let users : get_or counts (k - 1) 0 ≡ user_count n k = omega (
          arith,
          entry counts k low,
          as_many_users n k (part order) (laid.lists k low high),
          length-take count (drop from order),
          length-drop from order,
          laid.within k low high,
        ) in
        rw (size_is, start_is)
        (part_turned_on more (λ h. left (omega arith) ∙ ap₂ (λ (c u : ℕ). c % u) (entry cs k low) users) new
        (rw (size_is, start_is) at back))
