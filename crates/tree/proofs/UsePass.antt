-- The arcs that a group uses, in a pass from the last arc down that carries to each arc's parent that the arc is used.
use Prim.Native.Nat.{ℕ, suc, ◌+◌, ◌-◌, ◌≤◌, ◌<◌}
use mathlib.Core.Path.{◌≡◌, sym, ap, ap₂, ◌∙◌, subst}
use mathlib.Core.Bool.{Bool, true, false, ◌&&◌, ◌||◌, and-true, and-false, or-false}
use mathlib.Core.List.{List}
use native.Mathlib.Numerals.{add-one}
use native.Mathlib.Omega.{arith}
use borrow.Author.Tests.{eq-eqb, ne_eqb}
use lib.ListN.{length, get_or, set}
use lib.Dec.{eqb}
use Rattle.basics.specs.Sum.{some}
use Rattle.game.specs.Network.{used}
use Rattle.game.specs.Tree.{network_of, of_arc, has_child, marked}
use Rattle.basics.proofs.Bools.{clash, not_so, and_first}
use Rattle.basics.proofs.Sums.{some_of, some_is}
use Rattle.game.proofs.Groups.{used_children}
use Rattle.tree.specs.Passes.{Sound, Marked}
use Rattle.tree.proofs.Carry.{flags, Carried, carried_at, carried_on}

module _ (ps cs ms : List ℕ) (g : ℕ → Bool) where
  -- the arcs that the group g of vertices uses
  abbrev pub in_use : ℕ → Bool
  in_use = used (network_of ps cs ms) g

  -- with the arcs 1 to k still to come: which arcs are known to be used
  abbrev pub Using : ℕ → List Bool → Type 0
  Using k users = Carried flags ps in_use k users

  -- the turn of arc k, whose entries are those at k - 1
  module _ (sound : Sound ps) (marks : Marked ps ms) {k : ℕ} (low : 0 < k) (within : k ≤ length ps)
      {users : List Bool} (at_k : Using k users) where
    next : k ≡ suc (k - 1)
    next = omega arith

    using_here : Using (suc (k - 1)) users
    using_here = subst (λ (u : ℕ). Using u users) next at_k

    abbrev by_child : Bool
    by_child = some (length ps) (λ u. eqb (of_arc ps u) (suc (k - 1)) && in_use u)

    known : get_or users (k - 1 + 1) false ≡ by_child
    known = rw add-one (carried_at flags ps in_use sound (k - 1) (omega arith) users using_here)

    by_rule : in_use k ≡ ((g (suc (k - 1)) && marked ms (suc (k - 1))) || by_child)
    by_rule = ap in_use next ∙ used_children (network_of ps cs ms) sound.rising g (suc (k - 1)) (omega arith)

    no_child : marked ms (suc (k - 1)) ≡ true → by_child ≡ false
    unfolding has_child
    no_child m =
        not_so by_child
        (λ c.
        let u = some_is (length ps) (λ u. eqb (of_arc ps u) (suc (k - 1)) && in_use u) c in
        clash
        (some_of (length ps) u.which (λ w. eqb (of_arc ps w) (suc (k - 1))) u.within
        (and_first (eqb (of_arc ps u.which) (suc (k - 1))) (in_use u.which) u.passes))
        (marks.ends (suc (k - 1)) m))

    -- a member's arc is used where the member is in the group
    pub using_member : get_or ms (k - 1) 0 ≡ 1 → g k ≡ in_use k
    using_member e =
        let m : marked ms (suc (k - 1)) ≡ true = eq-eqb (get_or ms (k - 1) 0) 1 e in
        ap g next
        ∙ sym
        (by_rule
        ∙ ap₂ (λ (a b : Bool). a || b)
        (ap (λ (b : Bool). g (suc (k - 1)) && b) m ∙ and-true (g (suc (k - 1)))) (no_child m)
        ∙ or-false (g (suc (k - 1))))

    -- another arc where one of its child arcs is
    pub using_other : (get_or ms (k - 1) 0 ≡ 1 → ⊥) → get_or users (k - 1 + 1) false ≡ in_use k
    using_other d =
        let m : marked ms (suc (k - 1)) ≡ false = ne_eqb (get_or ms (k - 1) 0) 1 d in
        known
        ∙ sym
        (by_rule
        ∙ ap (λ (b : Bool). b || by_child)
        (ap (λ (b : Bool). g (suc (k - 1)) && b) m ∙ and-false (g (suc (k - 1)))))

    pub using_on : {here : Bool} → here ≡ in_use k
        → Using (k - 1) (set users (get_or ps (k - 1) 0) (get_or users (get_or ps (k - 1) 0) false || here))
    using_on {here} e =
        carried_on flags ps in_use sound (k - 1) (omega arith) users using_here
        (get_or users (get_or ps (k - 1) 0) false || here)
        (ap (λ (b : Bool). get_or users (get_or ps (k - 1) 0) false || b) (e ∙ ap in_use next))
