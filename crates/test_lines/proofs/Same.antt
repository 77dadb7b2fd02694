-- The integers' == says whether two of them are the same, so `rest::is` and `rest::end_of_others` say at an integer
-- type all that they say at a type with that.
use Rattle.std.proofs.Common.{rules}
use Rattle.std.specs.contracts.prelude.U8PartialEq
use Rattle.std.specs.contracts.prelude.U16PartialEq
use Rattle.std.specs.contracts.prelude.U32PartialEq
use Rattle.std.specs.contracts.prelude.U64PartialEq
use Rattle.std.specs.contracts.prelude.I64PartialEq
use Rattle.test_lines.specs.Lists.{EqIsSame}

pub same_u8 : EqIsSame U8PartialEq.TheImpl.ghosts.eq
same_u8 x y = search rules

pub same_u16 : EqIsSame U16PartialEq.TheImpl.ghosts.eq
same_u16 x y = search rules

pub same_u32 : EqIsSame U32PartialEq.TheImpl.ghosts.eq
same_u32 x y = search rules

pub same_u64 : EqIsSame U64PartialEq.TheImpl.ghosts.eq
same_u64 x y = search rules

pub same_i64 : EqIsSame I64PartialEq.TheImpl.ghosts.eq
same_i64 x y = search rules
