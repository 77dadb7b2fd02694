use mathlib.Core.Path.{sym, ap, ◌∙◌, subst}
use native.Mathlib.Omega.{arith}
use Rattle.game.specs.Network.{Network}
use Rattle.game.specs.Margin.{widest, shares_at}
use Rattle.game.proofs.Branched.{Branched}
use Rattle.tree.proofs.MembersListed.{written_listed, written_network, written_count}
use Rattle.engine.proofs.margin_split.share_out.Goals as goal

pub write_margin-requires : goal.write_margin-requires
write_margin-requires c =
    let rest = c.requires in
    let is = c.write_members.ensures in
    let same = written_network _ _ rest.marked is c.args.costs.now in
    let as_many = written_count _ _ rest.marked is in
    record {
      sound = c.requires.sound;
      costed = c.requires.costed;
      listed = written_listed _ _ rest.marked is;
      branched = subst (λ (n : Network). Branched n c.args.arc) (sym same) rest.branched;
      vertices_nonzero = omega (arith, as_many, rest.bound);
      shares_len = rest.out_len ∙ sym as_many;
    }

pub returns : goal.returns
returns c =
    let found = c.write_margin.ensures in
    let same = written_network _ _ c.requires.marked c.write_members.ensures c.args.costs.now in
    let is = found.value ∙ ap (λ (n : Network). widest n c.args.arc) same in
    let at = c.write_margin.result in
    record {
      value = is;
      out_after = found.shares_after ∙ ap (λ (n : Network). shares_at n at) same ∙ ap (shares_at _) is;
    }
