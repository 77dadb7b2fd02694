-- What the lists that a job is written from hold.
use Rattle.job_bytes.specs.JobBytes.{Contents, contents}
use Rattle.job_bytes.specs.declared.lists.Lists.{Lists}

abbrev pub contents_of : Lists → Contents
contents_of l = contents l.note.now l.parents.now l.costs.now l.caps.now l.proposals.now
