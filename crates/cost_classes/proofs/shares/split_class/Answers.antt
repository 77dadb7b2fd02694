use mathlib.Core.Path.{sym, ap, ◌∙◌}
use Rattle.basics.specs.Sum.{total}
use Rattle.tree.proofs.LocalCosts.{counted_whole}
use Rattle.tree.proofs.TreeAccepted.{accepted_sound, counted_lent, accepted_lists}
use Rattle.cost_classes.proofs.OneClass.{members_listed, listed_count, shares_are, shares_small}
use Rattle.cost_classes.proofs.shares.split_class.Goals as goal

pub slice_bounds-counted-end : goal.slice_bounds-counted-end
slice_bounds-counted-end c = (accepted_sound _ c.requires.marks_value).few

pub write_counted-requires : goal.write_counted-requires
write_counted-requires c =
    let it = counted_lent _ c.requires.marks_value in
    record {
      sound = it.0;
      costed = it.1.0;
      marked = it.1.1.0;
      out_len = it.1.1.1;
    }

pub write_by_arc-requires : goal.write_by_arc-requires
write_by_arc-requires c =
    let pre = c.requires in
    let lists = accepted_lists _ pre.marks_value c.write_counted.ensures _ in
    record {
      sound = lists.0;
      costed = lists.1.0;
      listed = members_listed _ pre.marks_value pre.vertices_value;
      shares_len = pre.out_len ∙ sym (listed_count _ pre.marks_value pre.vertices_value);
    }

pub total_of-requires : goal.total_of-requires
total_of-requires c =
    shares_small _ c.requires.marks_value c.requires.vertices_value c.write_counted.ensures _ c.write_by_arc.ensures

pub returns : goal.returns
returns c =
    let are = shares_are _ c.requires.marks_value c.requires.vertices_value c.write_counted.ensures _
    c.write_by_arc.ensures in
    record {
      paid_value = c.total_of.ensures ∙ ap (total (λ x. x)) are;
      cost_value = c.whole_cost.ensures ∙ counted_whole _ c.write_counted.ensures _;
      out_after = are;
    }
