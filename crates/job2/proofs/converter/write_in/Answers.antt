use mathlib.Core.Path.{sym}
use Rattle.std.proofs.lemmas.Result.{err_from_is_err_and}
use Rattle.job_checks.proofs.Written.{turned_away, has_space, written_out}
use Rattle.job2.specs.Converter.{other}
use Rattle.job2.proofs.Readable.{readable}
use Rattle.job2.proofs.Parts.{length_is}
use Rattle.job2.proofs.converter.write_in.Goals as goal

pub length_in-length-requires : goal.length_in-length-requires
length_in-length-requires c = (readable (other c.args.version) _ c.requires).layout.long

pub returns-in_err-check_space : goal.returns-in_err-check_space
returns-in_err-check_space c =
    let known = length_is c.args.version c.args.bytes.now c.requires c.length_in-length.ensures in
    let passed_on = err_from_is_err_and c.from_residual.result c.from_residual.ensures.1 in
    let it = turned_away _ c.args.out.now (rw known at (sym c.in_err-check_space.ensures)) in
    record { result_value = rw (passed_on.1, passed_on.2) it.0; out_after = it.1 }

pub put_in-requires : goal.put_in-requires
put_in-requires c =
    let known = length_is c.args.version c.args.bytes.now c.requires c.length_in-length.ensures in
    let space = rw known at (sym c.in_ok-check_space.ensures) in
    record { bytes_value = c.requires; bytes_in_bounds = has_space _ c.args.out.now space }

pub returns : goal.returns
returns c =
    let known = length_is c.args.version c.args.bytes.now c.requires c.length_in-length.ensures in
    let space = rw known at (sym c.in_ok-check_space.ensures) in
    let it = written_out _ _ space c.put_in.ensures in
    record { result_value = rw known it.0; out_after = it.1 }
