use Rattle.std.proofs.lemmas.Result.{err_from_is_err_and}
use Rattle.job.proofs.WriterAnswered.{no_length, no_space, has_room, written_out}
use Rattle.job.proofs.writer.write_job.Goals as goal

pub returns-in_err-length : goal.returns-in_err-length
returns-in_err-length c =
    let passed_on = err_from_is_err_and c.from_residual.result c.from_residual.ensures.1 in
    let it = no_length _ c.args.out.now c.in_err-length.ensures in
    record { result_value = rw (passed_on.1, passed_on.2) it.0; out_after = it.1 }

pub returns-in_err-check_space : goal.returns-in_err-check_space
returns-in_err-check_space c =
    let exit = c.from_residual-in_err-check_space in
    let passed_on = err_from_is_err_and exit.result exit.ensures.1 in
    let it = no_space _ c.args.out.now c.in_ok-length.ensures c.in_err-check_space.ensures in
    record { result_value = rw (passed_on.1, passed_on.2) it.0; out_after = it.1 }

pub put_plain-requires : goal.put_plain-requires
put_plain-requires c =
    let room = has_room _ c.args.out.now c.in_ok-length.ensures c.in_ok-check_space.ensures in
    record { parents_len_bound = room.0; costs_len = room.1; proposals_len = room.2; caps_in_bounds = room.3 }

pub returns : goal.returns
returns c =
    let it = written_out _ _ c.in_ok-length.ensures c.in_ok-check_space.ensures c.put_plain.ensures in
    record { result_value = it.0; out_after = it.1 }
