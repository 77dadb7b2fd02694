use Rattle.std.proofs.Common.{◌≡◌, ◌++◌, ◌/◌, ◌^◌, drop}
use Rattle.job_bytes.specs.Numbers.{in_bytes}
use Rattle.job_bytes.proofs.put_rows.put_number.Given as goal

abbrev pub invariant-loop-byte : goal.invariant-loop-byte
invariant-loop-byte l =
    record {
      left : l.rest ≡ l.n / 256 ^ l.byte-index;
      written : l.byte-items ≡ in_bytes l.byte-index l.n ++ drop l.byte-index l.initial.byte-items;
    }
