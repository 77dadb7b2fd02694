pub mod TwosComplement
