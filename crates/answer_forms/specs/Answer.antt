-- What a check finds, and what an entry answers: its value, or a refusal by number and place.
use Rattle.std.specs.Prelude.{ℕ, Bool, true, false}

pub data Check : Type 0 where
  accepted : Check
  refused : (number place : ℕ) → Check

pub data Answer (A : Type 0) : Type 0 where
  value : A → Answer A
  refusal : (number place : ℕ) → Answer A

-- a refusal with this number and place where the fault is there
abbrev pub fault : Bool → ℕ → ℕ → Check
fault true number place = refused number place
fault false number place = accepted

-- the first check, and where it finds nothing the second
infixr 20 ◌then◌
abbrev pub ◌then◌ : Check → Check → Check
accepted then next = next
refused number place then next = refused number place

-- the answer of an entry with this check and value
abbrev pub answer : {A : Type 0} → Check → A → Answer A
answer accepted x = value x
answer (refused number place) x = refusal number place

-- a lent list, or a state, afterwards: a refusal leaves it as it came
abbrev pub written : {A : Type 0} → Check → A → A → A
written accepted before after = after
written (refused number place) before after = before
