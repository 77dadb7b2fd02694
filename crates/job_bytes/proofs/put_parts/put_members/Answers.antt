use mathlib.Core.Path.{refl}
use native.Mathlib.Omega.{arith}
use Rattle.std.proofs.Common.{rules}
use lib.IntN.{pos}
use lib.ListN.{length, get_or, replicate}
use mir.Syntax.{w64}
use mir.Facts.{to_z-of_z}
use Rattle.buffer.proofs.Listing.{listed_start, listed_on, listed_end}
use Rattle.job_bytes.specs.JobBytes.{rows}
use Rattle.job_bytes.proofs.Parts.{member_rows_length}
use Rattle.job_bytes.proofs.Putting.{member_more}
use Rattle.job_bytes.proofs.put_parts.put_members.Goals as goal

pub loop-j-init : goal.loop-j-init
unfolding rows
loop-j-init c = listed_start _ _ _ _ _ c.requires.caps_in_bounds refl

pub loop-j-preserved : goal.loop-j-preserved
loop-j-preserved c =
    let row = c.put_member-next.ensures in
    let args = c.args in
    let proposal = get_or args.proposals.now c.loop-j.j (pos 0) in
    listed_on _ _ _ _ _ c.requires.caps_in_bounds c.loop-j.invariant c.loop-j-test.true
    (member_more args.version args.caps.now args.proposals.now _ c.loop-j-test.true)
    (rw (to_z-of_z {w = w64} {z = proposal} (record { sfits = search rules })) at row.put)
    (omega (arith, row.value))

pub returns : goal.returns
returns c =
    let args = c.args in
    let put = listed_end _ _ _ _ _ c.requires.caps_in_bounds c.loop-j.invariant c.loop-j-test.false in
    let caps = args.caps.now in
    let long = member_rows_length args.version caps args.proposals.now (replicate (length caps) 0) in
    record { put = put; value = omega (arith, put.ends, long) }
