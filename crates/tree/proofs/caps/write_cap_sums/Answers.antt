use Prim.Native.Nat.{ℕ}
use mathlib.Core.Path.{◌∙◌}
use mathlib.Core.List.{List, []}
use native.Mathlib.Omega.{arith}
use Rattle.game.specs.Network.{Network, sum_below}
use Rattle.tree.specs.Passes.{network_at}
use Rattle.tree.proofs.CapPass.{member_count_lem, placed_sized, placed_fits, placed_total, placed_sums}
use Rattle.tree.proofs.caps.write_cap_sums.Goals as goal

pub add_up-requires : goal.add_up-requires
add_up-requires c =
    let net : Network = network_at c.args.parents.now [] c.args.vertices.now in
    let caps : List ℕ = c.args.caps.now in
    let pre = c.requires in
    let written = c.write_at_members.ensures in
    let fits = placed_fits (net) (caps) written pre.sound.few pre.capped in
    record { sound = pre.sound; out_len = placed_sized (net) (caps) written; out_bound = omega (arith, fits) }

pub returns : goal.returns
unfolding sum_below
returns c =
    let net : Network = network_at c.args.parents.now [] c.args.vertices.now in
    let caps : List ℕ = c.args.caps.now in
    let pre = c.requires in
    let written = c.write_at_members.ensures in
    let sums = c.add_up.ensures in record {
      value = sums.value
          ∙ placed_total (net) (caps) written
          (pre.capped.sized ∙ member_count_lem (net) pre.listed.are);
      out_after = sums.out_after ∙ placed_sums (net) (caps) written;
    }
