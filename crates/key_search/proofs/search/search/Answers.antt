use Rattle.std.proofs.Common.{◌≡◌, ◌+◌, refl, ◌∙◌, arith, length-take}
use lib.ListN.{get_or-replicate}
use lib.Seq.{take-length}
use Rattle.game.proofs.Encoding.{zeros}
use Rattle.key_search.proofs.Searching.{last_key, as_ready, standing_start, standing_on, standing_end}
use Rattle.key_search.proofs.Searching.{few_bounds, rises_by_bounds, closed, room, addable, nearer}
use Rattle.key_search.proofs.Searching.{back_sized, back_within, back_open}
use Rattle.key_search.proofs.search.search.Goals as goal

pub loop-count-init : goal.loop-count-init
loop-count-init c =
    let pre = c.requires in
    let all = c.open_all.ensures in
    let ready = as_ready pre.sound pre.listed pre.capped pre.bounds pre.at_vertices in (
      ready,
      omega arith,
      refl,
      standing_start ready (take-length _ ∙ all.order_after) all.by_index pre.by_index
          (λ v i. get_or-replicate 1024 v (last_key + 1) 0 (omega (arith, pre.sound.few))) (zeros 1024) (zeros 1024) refl,
    )

pub evaluate-requires : goal.evaluate-requires
evaluate-requires c =
    let inv = c.loop-count.invariant in
    let standing = inv.3 in
    record {
      addable = addable inv.0 standing c.choose.ensures;
      by_index = closed inv.0 standing;
      by_index_2 = standing.no_sums;
      sums_value = standing.no_sum;
    }

pub keep_open-count-requires : goal.keep_open-count-requires
keep_open-count-requires c =
    let inv = c.loop-count.invariant in
    let standing = inv.3 in
    record {
      bounds_len_bound = few_bounds inv.0;
      rising = rises_by_bounds inv.0 standing;
      by_index = room inv.0 standing;
      by_index_2 = closed inv.0 standing;
    }

pub loop-count-smaller : goal.loop-count-smaller
loop-count-smaller c =
    let at_loop = c.loop-count in
    let inv = at_loop.invariant in
    nearer inv.0 inv.3 c.choose.ensures c.evaluate.ensures.evaluated c.settle.ensures
    (omega (arith, length-take at_loop.count at_loop.order, inv.1, c.loop-count-test.true))

pub loop-count-preserved : goal.loop-count-preserved
loop-count-preserved c =
    let at_loop = c.loop-count in
    let inv = at_loop.invariant in
    let zeros = c.evaluate.ensures in
    let part = c.keep_open-count.new.order in
    let sized = c.keep_open-count.auto.order in
    let fewer = c.keep_open-count.ensures.upper_bound in (
      inv.0,
      back_within at_loop.order part _ _ inv.1 sized fewer,
      back_sized at_loop.order part _ _ inv.1 sized fewer ∙ inv.2,
      rw (back_open at_loop.order part at_loop.count _ inv.1 sized fewer)
          (standing_on inv.0 inv.3 c.choose.ensures c.evaluate.ensures.evaluated
          c.settle.ensures zeros.by_index_3 zeros.sums_after c.keep_open-count.ensures.kept),
    )

pub returns : goal.returns
returns c =
    let inv = c.loop-count.invariant in
    let none : c.loop-count.count ≡ 0 = omega (arith, c.loop-count-test.false) in
    standing_end inv.0 inv.3 (rw none refl)
