use Rattle.job_bytes.specs.Versions.{floor_width}
use Rattle.job_checks.proofs.Zeros.{none_below}
use Rattle.job_checks.proofs.values.check_floors.Goals as goal

pub check_limits-requires-clause-members_in_bounds : goal.check_limits-requires-clause-members_in_bounds
unfolding floor_width
check_limits-requires-clause-members_in_bounds c = rw c.in-Two.is at c.requires.members_in_bounds

pub returns-in-One : goal.returns-in-One
returns-in-One c =
    let args = c.args in
    rw c.in-One.is (none_below args.bytes.now args.caps.now args.offset args.members)
