use Rattle.std.proofs.Common.{ℕ, ◌∙◌, arith, length-take}
use Rattle.std.proofs.lemmas.List.{length-replicate}
use Rattle.game.proofs.Encoding.{zeros}
use Rattle.tree.proofs.Vertices.{vertices_few}
use Rattle.key_search.proofs.Vertices.{vertices_apart, shares_found}
use Rattle.key_search.proofs.write_shares.Goals as goal

pub place_members-requires : goal.place_members-requires
place_members-requires c =
    let pre = c.requires in
    let listed = pre.listed in
    record {
      vertices_len_bound = vertices_few _ _ listed pre.sound;
      apart = vertices_apart _ _ listed pre.sound;
      caps_len = pre.capped.sized;
      by_index = zeros 1024;
    }

pub search-requires : goal.search-requires
search-requires c =
    let pre = c.requires in
    record {
      sound = pre.sound;
      listed = pre.listed;
      capped = pre.capped;
      bounds = pre.bounds;
      at_vertices = c.place_members.ensures;
      order_len = omega (arith, pre.sound.few, length-take {A = ℕ}, length-replicate {A = ℕ});
      by_index = zeros 1024;
    }

pub read_off-requires : goal.read_off-requires
read_off-requires c =
    let pre = c.requires in
    record {
      by_index = (vertices_apart _ _ pre.listed pre.sound).few;
      caps_len = pre.capped.sized;
      shares_len = pre.shares_len;
    }

pub returns : goal.returns
returns c =
    let read = c.read_off in
    let pre = c.requires in
    shares_found _ _ pre.listed _ _ _ _ c.search.ensures (read.auto.shares ∙ pre.shares_len)
    read.ensures
