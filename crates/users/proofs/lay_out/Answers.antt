use borrow.Author.Rules.{rules}
use Rattle.users.proofs.Laid.{user_counts, members_apart, laid_out}
use Rattle.users.proofs.lay_out.Goals as goal

pub write_starts-requires : goal.write_starts-requires
write_starts-requires c =
    let pre = c.requires in
    record { sound = pre.sound; counts = user_counts _ _ pre.sound pre.counts_value; starts_len = pre.starts_len }

pub write_order-requires : goal.write_order-requires
write_order-requires c =
    let pre = c.requires in
    record {
      apart = members_apart _ _ _ _ pre.sound pre.counts_value c.write_starts.ensures pre.listed;
      order_len = pre.order_len;
    }

pub returns : goal.returns
returns c =
    let pre = c.requires in
    laid_out _ _ _ _ pre.sound pre.counts_value c.write_starts.ensures pre.listed (search rules)
    c.write_order.ensures
