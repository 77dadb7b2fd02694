-- The keys of all members, and the part of them that an arc takes for its users.
use Prim.Native.Nat.{ℕ, ◌+◌, ◌-◌, ◌*◌, ◌≤◌, ◌<◌}
use mathlib.Core.Path.{◌≡◌, refl, sym, ap, ◌∙◌}
use mathlib.Core.Bool.{Bool, true, false}
use mathlib.Core.Logic.{◌⊎◌, inl, inr}
use mathlib.Core.List.{List, ◌++◌}
use native.Mathlib.Decide.{dec_lt}
use native.Mathlib.Omega.{arith}
use lib.ListN.{length, get_or, take, drop, length-take, length-drop, length-append, get_or-append}
use lib.Seq.{get_or-take, get_or-drop, get_or-append-add}
use Rattle.basics.specs.Sum.{pick, total}
use Rattle.basics.proofs.Bools.{not_so, pick_yes}
use Rattle.basics.proofs.Sums.{sum₀_cong}
use Rattle.game.specs.Network.{Network, member_count}
use Rattle.game.specs.Tree.{of_arc}
use Rattle.game.specs.Core.{users}
use Rattle.game.proofs.Keys.{key_of}
use Rattle.basics.proofs.Totals.{total_has, total_parts}
use Rattle.users.specs.Users.{LaidOut}
use Rattle.turns.specs.Keys.{KeysOf}

module _ (base : ℕ) (order keys : List ℕ) (from count : ℕ) (fits : from + count ≤ length order) where
  part_length : {A : Type 0} (l : List A) → length l ≡ length order → length (take count (drop from l)) ≡ count
  part_length l e = omega (arith, length-take count (drop from l), length-drop from l)

  part_at : (l : List ℕ) (i : ℕ) → i < count → get_or (take count (drop from l)) i 0 ≡ get_or l (from + i) 0
  part_at l i h = get_or-take count (drop from l) i 0 h ∙ get_or-drop from l i 0

  pub part_keys : {tallies : List ℕ} → KeysOf base tallies order keys
      → KeysOf base tallies (take count (drop from order)) (take count (drop from keys))
  part_keys {tallies} of =
      record {
        sized = part_length keys of.sized ∙ sym (part_length order refl);
        keyed =
            λ i h.
            let in_part : i < count = omega (arith, part_length order refl) in
            part_at keys i in_part ∙ of.keyed (from + i) (omega arith)
            ∙ ap (key_of base tallies) (sym (part_at order i in_part));
      }

  module _ {tallies after : List ℕ} (of : KeysOf base tallies order keys) (new : List ℕ)
      (part : KeysOf base after (take count (drop from order)) new)
      (others : (p : ℕ) → p < length order → (p < from) ⊎ (from + count ≤ p)
      → get_or after (get_or order p 0) 0 ≡ get_or tallies (get_or order p 0) 0) where
    new_length : length new ≡ count
    new_length = part.sized ∙ part_length order refl

    -- a key outside the part
    other_key : (p : ℕ) → p < length order → (p < from) ⊎ (from + count ≤ p)
        → get_or keys p 0 ≡ key_of base after (get_or order p 0)
    other_key p h out = of.keyed p h ∙ ap (λ (t : ℕ). t * base + get_or order p 0) (sym (others p h out))

    -- the new keys, and those after the part
    abbrev onward : List ℕ
    onward = new ++ drop count (drop from keys)

    pub whole_keys : KeysOf base after order (take from keys ++ (new ++ drop count (drop from keys)))
    whole_keys =
        record {
          sized =
              omega (
                arith,
                length-append (take from keys) onward,
                length-append new (drop count (drop from keys)),
                length-take from keys,
                length-drop count (drop from keys),
                length-drop from keys,
                new_length,
                of.sized,
              );
          keyed =
              λ p h.
              elim (dec_lt p from) [
                | yes l ↦
                    get_or-append (take from keys) onward 0 p (omega (arith, front))
                    ∙ get_or-take from keys p 0 l ∙ other_key p h (inl l)
                | no l ↦
                    elim (dec_lt p (from + count)) [
                      | yes m ↦ inner p l m
                      | no m ↦ beyond p h m
                    ]
              ];
        }
      where
        front : length (take from keys) ≡ from
        front = omega (arith, length-take from keys, of.sized)

        -- at a place after the front
        after_front : (p : ℕ) → (p < from → ⊥)
            → get_or (take from keys ++ onward) p 0 ≡ get_or onward (p - from) 0
        after_front p l =
            let e : p ≡ length (take from keys) + (p - from) = omega (arith, front) in
            ap (λ (q : ℕ). get_or (take from keys ++ onward) q 0) e
            ∙ get_or-append-add (take from keys) onward (p - from) 0

        inner : (p : ℕ) → (p < from → ⊥) → p < from + count
            → get_or (take from keys ++ onward) p 0 ≡ key_of base after (get_or order p 0)
        inner p l m =
            let at : p - from < count = omega arith in
            let e : from + (p - from) ≡ p = omega arith in
            after_front p l
            ∙ get_or-append new (drop count (drop from keys)) 0 (p - from) (omega (arith, new_length))
            ∙ part.keyed (p - from) (omega (arith, part_length order refl))
            ∙ ap (key_of base after) (part_at order (p - from) at ∙ ap (λ (q : ℕ). get_or order q 0) e)

        beyond : (p : ℕ) → p < length order → (p < from + count → ⊥)
            → get_or (take from keys ++ onward) p 0 ≡ key_of base after (get_or order p 0)
        beyond p h m =
            let e : p - from ≡ length new + (p - from - count) = omega (arith, new_length) in
            let f : from + (count + (p - from - count)) ≡ p = omega arith in
            after_front p (λ l. absurd (omega arith))
            ∙ ap (λ (q : ℕ). get_or onward q 0) e
            ∙ get_or-append-add new (drop count (drop from keys)) (p - from - count) 0
            ∙ get_or-drop count (drop from keys) (p - from - count) 0
            ∙ get_or-drop from keys (count + (p - from - count)) 0
            ∙ ap (λ (q : ℕ). get_or keys q 0) f
            ∙ other_key p h (inr (omega arith))

module _ {n : Network} {starts counts order : List ℕ} (laid : LaidOut n starts counts order) (k : ℕ) (low : 1 ≤ k)
    (high : k ≤ n.arcs) where
  abbrev uses : ℕ → ℕ
  uses u = pick (users n k u) 1

  abbrev from : ℕ
  from = of_arc starts k

  abbrev count : ℕ
  count = of_arc counts k

  -- the arc's part has all its users, so the others have none
  nobody_else : total uses (take from order) + total uses (drop count (drop from order)) ≡ 0
  nobody_else =
      omega (
        arith,
        total_parts uses order from count,
        laid.everyone uses,
        (laid.lists k low high).sums uses,
        sum₀_cong (member_count n) {f = λ j. pick (users n k j) (uses j)} {g = uses} (λ j h. twice (users n k j)),
      )
    where
      twice : (b : Bool) → pick b (pick b 1) ≡ pick b 1
      twice true = refl
      twice false = refl

  pub no_user : (p : ℕ) → p < length order → (p < from) ⊎ (from + count ≤ p) → users n k (get_or order p 0) ≡ false
  no_user p h out = not_so (users n k (get_or order p 0)) (λ u. absurd (some u out))
    where
      some : users n k (get_or order p 0) ≡ true → (p < from) ⊎ (from + count ≤ p) → ⊥
      some u (inl l) =
          omega (
            arith,
            nobody_else,
            total_has uses (take from order) p (omega (arith, length-take from order)),
            ap uses (get_or-take from order p 0 l),
            pick_yes 1 u,
          )
      some u (inr g) =
          let e : from + (count + (p - from - count)) ≡ p = omega arith in
          omega (
            arith,
            nobody_else,
            total_has uses (drop count (drop from order)) (p - from - count)
                (omega (arith, length-drop count (drop from order), length-drop from order)),
            ap uses
                (get_or-drop count (drop from order) (p - from - count) 0
                ∙ get_or-drop from order (count + (p - from - count)) 0
                ∙ ap (λ (q : ℕ). get_or order q 0) e),
            pick_yes 1 u,
          )
