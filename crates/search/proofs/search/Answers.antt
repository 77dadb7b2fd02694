use Rattle.search.proofs.NamedGroup.{found_amount, found_group}
use Rattle.search.proofs.search.Goals as goal

pub returns : goal.returns
returns c =
    let pre = c.requires in
    let excesses = c.find_excesses-found.ensures in
    let active = c.choose_active-group.ensures in
    record {
      shares_value = found_amount _ _ _ _ pre.sound pre.marked excesses active;
      group_value = found_group _ _ _ _ pre.sound pre.marked excesses active;
    }
