-- The search for a byte, place by place.
use Rattle.std.proofs.Common.{◌≡◌, ◌≢◌, ℕ, ◌+◌, ◌<◌, ◌≤◌, List, get_or, length, drop, drop-cons, add-one}
use lib.ListN.{drop_of_length-le}
use borrow.Author.Tests.{eq-eqb, ne_eqb}
use Rattle.test_lines.specs.Bytes.{index_of, index_after}

-- the byte stands at place i
pub stands : (byte : ℕ) (xs : List ℕ) (i : ℕ) → i < length xs → get_or xs i 0 ≡ byte → index_of byte (drop i xs) ≡ 0
unfolding index_of index_after
stands byte xs i h e = rw (drop-cons xs i 0, eq-eqb (get_or xs i 0) byte e)

-- another byte stands there
pub passes : (byte : ℕ) (xs : List ℕ) (i : ℕ) → i < length xs → get_or xs i 0 ≢ byte
    → index_of byte (drop i xs) ≡ index_of byte (drop (i + 1) xs) + 1
unfolding index_of index_after
passes byte xs i h e = rw (drop-cons xs i 0, ne_eqb (get_or xs i 0) byte e, add-one i, add-one)

-- nothing is left
pub ends : (byte : ℕ) (xs : List ℕ) (i : ℕ) → length xs ≤ i → index_of byte (drop i xs) ≡ 0
unfolding index_of
ends byte xs i h = rw (drop_of_length-le xs h)
