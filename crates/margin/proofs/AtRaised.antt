-- The raised needs at the widest margin as bounds of the level rule, with caps that stop nobody.
use Prim.Native.Nat.{ℕ, ◌≤◌, ◌<◌}
use mathlib.Core.Path.{◌≡◌, sym, ap, ◌∙◌}
use mathlib.Core.List.{List, []}
use native.Mathlib.Decide.{dec_lt}
use native.Mathlib.Omega.{arith}
use lib.ListN.{length, get_or, replicate, length-replicate, get_or-replicate, get_or-eq_default}
use lib.Dec.{eqb}
use Rattle.basics.specs.Sum.{pick, sum, list}
use Rattle.basics.proofs.Sums.{In, sum_cong}
use Rattle.basics.proofs.Lists.{list_length}
use Rattle.limits.specs.Limits.{most_share}
use Rattle.limits.specs.Inner.{most_whole}
use Rattle.game.specs.Network.{Network, need, member_count, sum_below}
use Rattle.game.specs.Tree.{of_arc, network_of}
use Rattle.game.specs.ByArc.{user_count}
use Rattle.game.specs.Inward.{of_children, amount_of}
use Rattle.game.specs.Margin.{raised, widest, shares_at}
use Rattle.game.proofs.ArcEntries.{of_list}
use Rattle.game.proofs.SumBounds.{sum_below_le}
use Rattle.game.proofs.LevelCosts.{level_same}
use Rattle.game.proofs.LevelFree.{level_free}
use Rattle.game.proofs.LevelBounds.{ample_covers, amounts_all, bound_above}
use Rattle.game.proofs.Branched.{Branched, all_users, used_below, from_source_alone}
use Rattle.game.proofs.Raised.{raised_unused, raised_grows, widest_passes}
use Rattle.tree.specs.Passes.{Sound, Costed, Listed, Capped, network_at}
use Rattle.tree.proofs.Bounds.{costs_bound}
use Rattle.tree.proofs.Vertices.{vertices_count}
use Rattle.key_search.specs.Shares.{Bounds, level_at}
use Rattle.margin.specs.Passes.{Measured}

-- the needs and the numbers of users, as they are written: who is a member does not decide the needs, nor the costs how
-- many users there are
pub lists_measured : (ps cs vs : List ℕ) {needs counts : List ℕ}
    → needs ≡ list (length ps) (need (network_of ps cs []))
    → counts ≡ list (length ps) (user_count (network_at ps [] vs))
    → Measured ps cs vs needs counts
unfolding sum_below
lists_measured ps cs vs needs_are counts_are = record { needs_are = needs_are; counts_are = counts_are }

module _ (ps cs vs : List ℕ) (sound : Sound ps) (costed : Costed ps cs) (listed : Listed ps vs) (arc : ℕ)
    (br : Branched (network_at ps cs vs) arc) (some : 0 < length vs) where
  abbrev net : Network
  net = network_at ps cs vs

  count : length vs ≡ member_count net
  count = vertices_count ps vs listed

  -- the arc of the branch has users
  pub arc_used : 0 < user_count net arc
  arc_used = omega (arith, all_users net sound.rising arc br, count)

  abbrev d : ℕ
  d = widest net arc

  at_arc : raised net d arc ≡ need net arc
  at_arc = widest_passes net sound.rising arc br.arc arc_used

  need_limit : need net arc ≤ most_whole
  need_limit = omega (arith, sum_below_le net (of_arc cs) arc, costs_bound ps cs sound costed)

  -- no raised need is above that of the branch's arc
  raised_most : (k : ℕ) → In (length ps) k → raised net d k ≤ most_share
  raised_most k i =
      elim (dec_lt 0 (user_count net k)) [
        | yes h ↦
            omega (
              arith,
              bound_above net sound.rising (raised net d) (raised_grows net sound.rising d) arc k br.arc i
                  (used_below net sound.rising arc br k i h),
              at_arc,
              need_limit,
            )
        | no h ↦ omega (arith, raised_unused net sound.rising d k i (omega arith))
      ]

  module _ {bounds : List ℕ} {r : ℕ} (is : r ≡ d) (given : bounds ≡ list (length ps) (raised net r)) where
    written : bounds ≡ list (length ps) (raised net d)
    written = given ∙ ap (λ (x : ℕ). list (length ps) (raised net x)) is

    bound_at : (k : ℕ) → In (length ps) k → of_arc bounds k ≡ raised net d k
    bound_at k i = ap (λ (l : List ℕ). of_arc l k) written ∙ of_list (length ps) (raised net d) k i

    children_at : (k : ℕ) → of_children net (of_arc bounds) k ≡ of_children net (raised net d) k
    children_at k = sum_cong (length ps) (λ u i. ap (pick (eqb (of_arc ps u) k)) (bound_at u i))

    module _ {caps : List ℕ} {k : ℕ} (filled : caps ≡ replicate k most_share) (as_many : k ≡ length vs) where
      cap_at : (j : ℕ) → j < member_count net → get_or caps j 0 ≡ most_share
      cap_at j h =
          ap (λ (l : List ℕ). get_or l j 0) filled
          ∙ get_or-replicate {A = ℕ} k j most_share 0 (omega (arith, as_many, count))

      -- they are one cap a member, none above the limit
      pub ample_capped : Capped (length vs) caps
      ample_capped =
          rw (filled, as_many)
          (record {
            sized = length-replicate {A = ℕ} (length vs) most_share;
            limited = λ j.
                elim (dec_lt j (length vs)) [
                  | yes h ↦ omega (arith, get_or-replicate {A = ℕ} (length vs) j most_share 0 h)
                  | no h ↦
                      omega (
                        arith,
                        get_or-eq_default {A = ℕ} (replicate (length vs) most_share) 0 {n = j}
                            (omega (arith, length-replicate {A = ℕ} (length vs) most_share)),
                      )
                ];
          })

      pub raised_bounds : Bounds ps vs caps bounds
      unfolding sum_below
      raised_bounds =
          record {
            sized = ap length written ∙ list_length (raised net d) (length ps);
            grows = λ e i.
                omega (arith, children_at e, bound_at e i, raised_grows net sound.rising d e i);
            covered = λ e i.
                omega (
                  arith,
                  bound_at e i,
                  ample_covers net caps most_share (λ j h. omega (arith, cap_at j h)) (raised net d) raised_most
                      (raised_unused net sound.rising d) e i,
                );
          }

      amount_at : (e : ℕ) → In (length ps) e → amount_of net (of_arc bounds) e ≡ amount_of net (raised net d) e
      amount_at e i = omega (arith, bound_at e i, children_at e)

      total : sum (length ps) (amount_of net (raised net d)) ≡ need net arc
      total =
          amounts_all net sound.rising (raised net d) (raised_grows net sound.rising d)
          ∙ from_source_alone net sound.rising arc br (raised net d) (raised_unused net sound.rising d)
          ∙ at_arc

      pub level_at_raised : level_at ps vs caps bounds ≡ shares_at net r
      level_at_raised =
          level_same net (of_arc []) caps (amount_of net (of_arc bounds)) (amount_of net (raised net d)) amount_at
          ∙ level_free net caps (replicate (member_count net) (sum (length ps) (amount_of net (raised net d))))
          (sum (length ps) (amount_of net (raised net d)))
          (λ j h. (
            omega (arith, cap_at j h, total, need_limit),
            omega (
              arith,
              get_or-replicate {A = ℕ} (member_count net) j (sum (length ps) (amount_of net (raised net d))) 0 h,
            ),
          ))
          (amount_of net (raised net d)) (omega arith)
          ∙ ap (shares_at net) (sym is)
