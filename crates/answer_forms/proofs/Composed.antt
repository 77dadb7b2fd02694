-- Composed checks and the answers made of them.
--
--   first_accepted, second_accepted, no_fault     from an accepted composition to its parts
--   turned_down, stopped, went_on                 what a composition finds, by its first part
--   then_nothing, then_same                       what a composition finds, by its second part
--   answered, refused_answer                      from an answer to its check
--   fault_holds, then_holds                       what holds of a composition's parts
use Prim.Native.Nat.{ℕ}
use mathlib.Core.Path.{◌≡◌, refl, ◌∙◌}
use mathlib.Core.Bool.{Bool, true, false}
use native.Mathlib.Omega.{arith}
use Rattle.answer_forms.specs.Answer.{Check, accepted, refused, fault, ◌then◌, value, refusal, answer}
use Rattle.answer_forms.specs.Checked.{check_of}
use Rattle.answer_forms.specs.declared.Refusal.{Refusal}
use Rattle.std.specs.Prelude.{Result, Err}

not_refused : {number place : ℕ} → refused number place ≡ accepted → ⊥
not_refused e = let z : ◌≡◌ {A = ℕ} 0 1 = cc in omega arith

pub first_accepted : (a b : Check) → (a then b) ≡ accepted → a ≡ accepted
first_accepted accepted b e = refl
first_accepted (refused number place) b e = e

pub second_accepted : (a b : Check) → (a then b) ≡ accepted → b ≡ accepted
second_accepted accepted b e = e
second_accepted (refused number place) b e = absurd (not_refused e)

pub no_fault : (b : Bool) (number place : ℕ) → fault b number place ≡ accepted → b ≡ false
no_fault true number place e = absurd (not_refused e)
no_fault false number place e = refl

-- the refusal of a check is that of the two
pub turned_down : {check found : Check} {number place : ℕ} (next : Check)
    → found ≡ check → check ≡ refused number place → found ≡ (check then next)
turned_down next is e = rw e (is ∙ e)

pub stopped : {check : Check} {c : Result Unit Refusal} {x : Refusal} (next : Check)
    → check_of c ≡ check → c ≡ Err x → check_of c ≡ (check then next)
stopped next is e = rw (← is, e)

pub went_on : {check next found : Check} → check ≡ accepted → found ≡ next → found ≡ (check then next)
went_on e is = rw e is

-- a second check that finds nothing
pub then_nothing : (c : Check) {d : Check} → d ≡ accepted → (c then d) ≡ c
then_nothing accepted e = e
then_nothing (refused number place) e = refl

-- two second checks that are the same where the first finds nothing
pub then_same : (c : Check) {d e : Check} → (c ≡ accepted → d ≡ e) → (c then d) ≡ (c then e)
then_same accepted h = h refl
then_same (refused number place) h = refl

-- an answer that is a value: the check finds nothing
pub answered : {A : Type 0} (check : Check) (x v : A) → answer check x ≡ value v → (check ≡ accepted) × (v ≡ x)
answered accepted x v e = (refl, cc)
answered (refused number place) x v e = let z : ◌≡◌ {A = ℕ} 0 1 = cc in absurd (omega arith)

-- an answer that is a refusal: the check found it
pub refused_answer : {A : Type 0} (check : Check) (x : A) {number place : ℕ} → refusal number place ≡ answer check x
    → check ≡ refused number place
refused_answer accepted x e = let z : ◌≡◌ {A = ℕ} 0 1 = cc in absurd (omega arith)
refused_answer (refused number place) x e = cc

module _ (Holds : Check → Type 0) where
  pub fault_holds : (b : Bool) {number place : ℕ} → Holds accepted → Holds (refused number place)
      → Holds (fault b number place)
  fault_holds true nothing found = found
  fault_holds false nothing found = nothing

  pub then_holds : (a b : Check) → Holds a → Holds b → Holds (a then b)
  then_holds accepted b first second = second
  then_holds (refused number place) b first second = first
