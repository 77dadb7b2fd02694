use mathlib.Core.List.{[]}
use native.Mathlib.Omega.{arith}
use Rattle.tree.specs.Passes.{network_at}
use Rattle.tree.proofs.CapPass.{member_in, placing_on, placing_end}
use Rattle.tree.proofs.placed.write_at_members.Goals as goal

pub overflow_sub-place : goal.overflow_sub-place
overflow_sub-place c =
    let net = network_at c.args.parents.now [] c.args.vertices.now in
    omega (arith, member_in net c.requires.listed.are _ c.loop-j-test.true)

pub bounds-out-place : goal.bounds-out-place
bounds-out-place c =
    let net = network_at c.args.parents.now [] c.args.vertices.now in
    omega (arith, member_in net c.requires.listed.are _ c.loop-j-test.true)

pub loop-j-preserved : goal.loop-j-preserved
loop-j-preserved c =
    rw c.from-place.ensures (placing_on _ _ c.requires.listed.are c.loop-j-test.true c.loop-j.invariant)

pub returns : goal.returns
returns c = placing_end _ _ c.requires.listed.are (omega arith) c.loop-j.invariant
