-- What the contracts say of a line's fields.
use Rattle.std.specs.Prelude.{ℕ, ◌<◌, ◌≤◌, ◌≡◌, Bool, true, false, List, [], ◌∷◌, eqb, get_or}

-- the fields with a byte before them: a space starts a field, another byte belongs to the first
unfoldable pub after : Bool → ℕ → List (List ℕ) → List (List ℕ)
after true byte fields = [] ∷ fields
after false byte [] = (byte ∷ []) ∷ []
after false byte (f ∷ fields) = (byte ∷ f) ∷ fields

-- the parts of a line between its spaces
unfoldable pub fields_of : List ℕ → List (List ℕ)
fields_of [] = [] ∷ []
fields_of (byte ∷ line) = after (eqb byte 32) byte (fields_of line)

-- r is the first of the fields 0 to n - 1 that is the word, or n
pub record First (fields : List (List ℕ)) (n : ℕ) (word : List ℕ) (r : ℕ) : Type 0 where
  pub within : r ≤ n
  pub before : (k : ℕ) → k < r → get_or fields k [] ≡ word → ⊥
  pub here : r < n → get_or fields r [] ≡ word
