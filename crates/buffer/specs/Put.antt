-- A buffer before and after bytes were written into it.
use Rattle.std.specs.Prelude.{ℕ, ◌+◌, ◌≤◌, ◌≡◌, List, ◌++◌, length, take, drop}

-- the bytes s stand from a place on, up to `end`; all else is as it was before
pub record Put (before : List ℕ) (at : ℕ) (s : List ℕ) (after : List ℕ) (end : ℕ) : Type 0 where
  pub ends : end ≡ at + length s
  pub fits : end ≤ length before
  pub same_length : length after ≡ length before
  pub written : after ≡ take at before ++ s ++ drop end before
