-- Where a byte stands first in a list.
use Rattle.std.specs.Prelude.{ℕ, suc, Bool, true, false, List, [], ◌∷◌, eqb}

-- the place of a byte, where it stands in front or k places further on
unfoldable pub index_after : Bool → ℕ → ℕ
index_after true k = 0
index_after false k = suc k

-- the first place where the byte stands; the list's length where there is none
unfoldable pub index_of : ℕ → List ℕ → ℕ
index_of byte [] = 0
index_of byte (x ∷ xs) = index_after (eqb x byte) (index_of byte xs)
