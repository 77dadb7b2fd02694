use Rattle.std.proofs.Common.{◌≡◌, ◌+◌, ◌-◌, fold, reverse, take, drop, arith, rules, ◌∙◌}
use Rattle.job_bytes.specs.Numbers.{Bytes}
use Rattle.job_bytes.proofs.Reading.{behind, read_back}
use Rattle.job_bytes.proofs.Standing.{number_small}
use Rattle.job_bytes.proofs.number.number_at.Goals as goal

pub returns : goal.returns
returns c =
    let at = c.args.at in
    let width = c.args.width in
    let bytes = c.args.bytes.now in
    let folded : c.fold.result ≡ fold behind 0 (reverse (take (at + width - at) (drop at bytes))) = search rules in
    let part : at + width - at ≡ width = omega arith in
    let small : Bytes bytes = λ i. omega (arith, c.type_inv.bytes i) in
    let value = rw part at folded ∙ read_back bytes small width at c.requires.width_bound c.requires.width_in_bounds in
    record { value = value; upper_bound = rw value (number_small bytes small width at) }
