use Rattle.std.proofs.Common.{◌≡◌, arith, refl, sym}
use Rattle.std.proofs.lemmas.Grind.{common_steps}
use Rattle.std.proofs.Math.Nat.{div-one}
use Rattle.job_bytes.specs.Numbers.{in_bytes}
use Rattle.job_bytes.proofs.Putting.{left_more, bytes_more, bytes_put}
use Rattle.job_bytes.proofs.put_rows.put_number.Goals as goal

pub loop-byte-init : goal.loop-byte-init
unfolding in_bytes
loop-byte-init c = record { left = sym (div-one c.args.n); written = refl }

pub loop-byte-preserved : goal.loop-byte-preserved
loop-byte-preserved c =
    let i = c.loop-byte.byte-index in
    let s = c.loop-byte.invariant in
    record {
      left = left_more i c.args.n c.loop-byte.rest s.left;
      written = rw s.written (bytes_more i c.args.n c.loop-byte.rest _ c.loop-byte-test.true s.left);
    }

pub returns-clause-put : goal.returns-clause-put
returns-clause-put c =
    let end : c.loop-byte.byte-index ≡ c.args.width = grind (arith, common_steps) in
    bytes_put c.args.out.now c.args.at c.args.width c.args.n _ _ c.requires end c.loop-byte.invariant.written
