-- What the contracts say of lists.
use Rattle.std.specs.Prelude.{ℕ, ◌-◌, ◌<◌, ◌≤◌, ◌≡◌, Bool, true, List, [], IsTrue, ◌↔◌, length, get_or}
use Rattle.std.specs.Prelude.{◌==◌, Option, Some, None, slice_get, IfSome}
use Rattle.std.specs.List.{slice_split}
use Rattle.std.specs.Borrow.{Bor}

-- the most entries of a list
abbrev pub MOST : ℕ
MOST = 1100

-- the entries of a list's text, or of what is left of it: its parts between commas
abbrev pub parts_of : Option (Bor (List ℕ)) → List (List ℕ)
parts_of None = []
parts_of (Some text) = slice_split (λ byte. byte == 44) text.now

-- the list has n entries, and the first n have the property
pub record FrontOf {A : Type 0} (P : A → Type 0) (n : ℕ) (list : List A) : Type 0 where
  pub within : n ≤ length list
  pub each : (k : ℕ) → k < n → IfSome (slice_get list k) P

-- the list has n entries, and each of the first n is at most `most`
pub record Front (n most : ℕ) (list : List ℕ) : Type 0 where
  pub within : n ≤ length list
  pub small : (k : ℕ) → k < n → get_or list k 0 ≤ most

-- the test of two values says whether they are the same
abbrev pub EqIsSame : {A : Type 0} → (A → A → Bool) → Type 0
EqIsSame {A} eq = (x y : A) → IsTrue (eq x y) ↔ (x ≡ y)

-- each entry from a place on is the value
pub record Rest {A : Type 0} (list : List A) (from : ℕ) (value : A) : Type 0 where
  pub each : (k : ℕ) → from ≤ k → k < length list → get_or list k value ≡ value

-- r says whether that holds
abbrev pub RestIs : {A : Type 0} → List A → ℕ → A → Bool → Type 0
RestIs list from value r = (r ≡ true → Rest list from value) × (Rest list from value → r ≡ true)

-- the entries from r on are the value, and the one before is not
pub record RestFrom {A : Type 0} (list : List A) (value : A) (r : ℕ) : Type 0 where
  pub within : r ≤ length list
  pub rest : Rest list r value
  pub last : 0 < r → get_or list (r - 1) value ≡ value → ⊥
