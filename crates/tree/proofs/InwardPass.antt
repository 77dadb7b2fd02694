-- Numbers in a pass from the last arc down that carries each arc's number to the arc's parent.
--
--   passing_start, passing_end    the lists as the pass finds them, and as it leaves them
--   passing_below                 the place of the arc that is met holds the numbers of its child arcs, added up
--   passing_carry, passing_on     the parent's place and the lists after a turn
--   waiting_on                    where the pass writes over the list that it reads
use Prim.Native.Nat.{ℕ, suc, ◌+◌, ◌≤◌, ◌<◌}
use mathlib.Core.Path.{◌≡◌, refl, ap, ◌∙◌, subst}
use mathlib.Core.List.{List}
use native.Mathlib.Omega.{arith}
use borrow.Author.Tests.{eq-eqb}
use lib.ListN.{length, get_or, set, replicate}
use lib.Seq.{get_or-set_other}
use Rattle.basics.specs.Sum.{list}
use Rattle.basics.proofs.Bools.{pick_yes}
use Rattle.basics.proofs.Filling.{FilledFrom, from_end, from_next, from_start}
use Rattle.tree.specs.Passes.{Sound}
use Rattle.tree.proofs.Carry.{amounts, children, Carried, carried_start, carried_at, carried_on}

-- the places below k hold what they held
pub record Waiting (xs out : List ℕ) (k : ℕ) : Type 0 where
  pub same : (i : ℕ) → i < k → get_or out i 0 ≡ get_or xs i 0

pub waiting_on : {xs out : List ℕ} {k j : ℕ} → k ≡ suc j → (w : ℕ) → Waiting xs out k → Waiting xs (set out j w) j
waiting_on {out = out} {j = j} next w waiting =
    record { same = λ i h. get_or-set_other out j i w 0 (λ d. omega arith) ∙ waiting.same i (omega arith) }

module _ (ps : List ℕ) (f : ℕ → ℕ) where
  -- with the arcs 1 to k still to come: the places from k on hold their numbers
  pub record Passing (out below : List ℕ) (k : ℕ) : Type 0 where
    pub carried : Carried amounts ps f k below
    pub written : FilledFrom (length ps) (λ i. f (suc i)) out k

  pub passing_start : {out : List ℕ} {k : ℕ} → k ≡ length ps → length out ≡ length ps → Passing out (replicate 1024 0) k
  passing_start e l = rw e (record { carried = carried_start amounts ps f; written = from_end _ _ refl l })

  pub passing_end : {out below : List ℕ} {k : ℕ} → k ≡ 0 → Passing out below k → out ≡ list (length ps) f
  passing_end e s = from_start _ _ e s.written f (λ u. refl)

  module _ (sound : Sound ps) {k j : ℕ} (within : k ≤ length ps) (next : k ≡ suc j) {out below : List ℕ}
      (s : Passing out below k) where
    here : Carried amounts ps f (suc j) below
    here = subst (λ (i : ℕ). Carried amounts ps f i below) next s.carried

    pub passing_below : get_or below k 0 ≡ children amounts ps f k
    passing_below =
        ap (λ (i : ℕ). get_or below i 0) next ∙ carried_at amounts ps f sound j (omega arith) below here
        ∙ ap (children amounts ps f) (omega arith)

    module _ {w : ℕ} (found : w ≡ f k) where
      pub passing_carry : (most : ℕ) → children amounts ps f (get_or ps j 0) ≤ most
          → get_or below (get_or ps j 0) 0 + w ≤ most
      passing_carry most h =
          omega (
            arith,
            here.lacks (get_or ps j 0) (omega (arith, sound.rising j, sound.few)),
            pick_yes (f (suc j)) (eq-eqb (get_or ps j 0) (get_or ps j 0) refl),
            ap f next,
          )

      pub passing_on : Passing (set out j w) (set below (get_or ps j 0) (get_or below (get_or ps j 0) 0 + w)) j
      passing_on =
          record {
            carried =
                carried_on amounts ps f sound j (omega arith) below here (get_or below (get_or ps j 0) 0 + w)
                (ap (λ (x : ℕ). get_or below (get_or ps j 0) 0 + x) (found ∙ ap f next));
            written = from_next _ _ s.written within next w (found ∙ ap f next);
          }
