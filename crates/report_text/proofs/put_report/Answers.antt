use native.Mathlib.Omega.{arith}
use Rattle.job.specs.Reader.{JobValue, lent}
use Rattle.report_text.proofs.Reading.{Fronts, fronts, refused_report}
use Rattle.report_text.proofs.Reading.{front_tree_lem, front_members, front_report}
use Rattle.report_text.proofs.put_report.Goals as goal
use Rattle.report_text.proofs.put_report.Goals.{In-Ok}

-- the job that was read stands in their fronts
abbrev values : (c : In-Ok) → JobValue
values c = record { arcs = c.in-Ok.read.arcs; members = c.in-Ok.read.members; note = c.in-Ok.read.note }

job : (c : In-Ok) → Fronts c.args.bytes.now (values c) (lent c.read.new.parents c.read.new.costs c.read.new.caps c.read.new.proposals)
job c =
    let pre = c.requires in
    let read = c.in-Ok.ensures in
    fronts _ _
    (record { parents = pre.parents_len; costs = pre.costs_len; caps = pre.caps_len; proposals = pre.proposed_len })
    {v = values c} {after = lent c.read.new.parents c.read.new.costs c.read.new.caps c.read.new.proposals} read.result_value
    read.proposals_after

pub slice_bounds-put_job-end : goal.slice_bounds-put_job-end
slice_bounds-put_job-end c = let f = job (goal.at.slice_bounds-put_job-end c).In-Ok in omega (arith, f.parents.room)

pub slice_bounds-put_job-end-in-Ok-2 : goal.slice_bounds-put_job-end-in-Ok-2
slice_bounds-put_job-end-in-Ok-2 c = let f = job (goal.at.slice_bounds-put_job-end-in-Ok-2 c).In-Ok in omega (arith, f.caps.room)

pub put_job-requires : goal.put_job-requires
put_job-requires c =
    let f = job (goal.at.put_job-requires c).In-Ok in
    record {
      costs_value = front_tree_lem f;
      proposed_len = front_members f;
      in_bounds = omega (arith, c.requires.in_bounds);
    }

pub returns-in-Ok : goal.returns-in-Ok
returns-in-Ok c = rw (← front_report (job (goal.at.returns-in-Ok c).In-Ok)) c.put_job.ensures

pub returns-in-Err : goal.returns-in-Err
returns-in-Err c =
    let pre = c.requires in
    rw
    (refused_report _ _
    (record { parents = pre.parents_len; costs = pre.costs_len; caps = pre.caps_len; proposals = pre.proposed_len })
    c.in-Err.ensures.result_value)
    c.put_refused.ensures.put
