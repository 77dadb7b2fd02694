use Rattle.std.proofs.Common.{length, sym, arith}
use Rattle.test_lines.proofs.HexLaws.{bytes_length, hex_fits}
use Rattle.test_lines.proofs.hex.read.Goals as goal

-- what can be read fits the list
pub decode-requires : goal.decode-requires
decode-requires c =
    let fits = hex_fits c.args.s.now (length c.args.out.now) (sym c.if-not-is_hex.ensures) in
    record { n_in_bounds = fits.1; digits = fits.0 }

pub returns : goal.returns
returns c =
    let is = sym c.if-not-is_hex.ensures in
    record {
      readable_is = sym is;
      count_is = sym (bytes_length c.args.s.now);
      within = omega (arith, (hex_fits c.args.s.now (length c.args.out.now) is).1);
      after_is = c.decode.ensures;
    }
