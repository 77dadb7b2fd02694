-- A line's fields are its parts between spaces.
use Rattle.std.proofs.Common.{◌≡◌, ◌≢◌, ℕ, ◌<◌, ◌≤◌, Bool, true, false, List, [], ◌∷◌}
use Rattle.std.proofs.Common.{Option, None, Some, ◌∙◌, ap, refl}
use Rattle.std.proofs.Common.{arith, cond, eqb, get_or, unwrap_or}
use Rattle.std.specs.List.{slice_split, onto_first}
use Rattle.std.specs.Option.{MatchOption}
use Rattle.test_lines.specs.Fields.{First, after, fields_of}

after_is : (b : Bool) (byte : ℕ) (fields : List (List ℕ))
    → after b byte fields ≡ cond b ([] ∷ fields) (onto_first byte fields)
unfolding after
after_is true byte fields = refl
after_is false byte [] = refl
after_is false byte (f ∷ fields) = refl

pub fields_split : (line : List ℕ) → fields_of line ≡ slice_split (λ b. eqb b 32) line
unfolding fields_of
fields_split [] = refl
fields_split (byte ∷ line) =
    ap (after (eqb byte 32) byte) (fields_split line) ∙ after_is (eqb byte 32) byte (slice_split (λ b. eqb b 32) line)

-- what a search through the numbers below n finds
pub first_of : (fields : List (List ℕ)) (n : ℕ) (word : List ℕ) (r : Option ℕ)
    → MatchOption r
    ((k : ℕ) → 0 ≤ k → k < n → get_or fields k [] ≢ word)
    (λ i. (0 ≤ i) × (i < n) × (get_or fields i [] ≡ word) × ((k : ℕ) → 0 ≤ k → k < i → get_or fields k [] ≢ word))
    → First fields n word (unwrap_or r n)
first_of fields n word None none = record {
  within = omega arith;
  before = λ k l. none k (omega arith) l;
  here = λ l. absurd (omega arith);
}
first_of fields n word (Some i) found = record {
  within = omega arith;
  before = λ k l. found.3 k (omega arith) l;
  here = λ l. found.2;
}
