-- A pass from the last arc down to the first that adds what each arc has to its parent's place: flags by "or", amounts
-- by "+". `Carried k a`: each place lacks only what the arcs 1 to k will still add.
--
--   carried_start                 the array as it is made
--   carried_at                    the place of the arc that is met is complete
--   carried_on                    the array after the arc is added to its parent
use Prim.Native.Nat.{ℕ, zero, suc, ◌+◌, ◌≤◌, ◌<◌}
use mathlib.Core.Path.{◌≡◌, refl, sym, ap, ap₂, ◌∙◌}
use mathlib.Core.Bool.{Bool, true, false, ◌&&◌, ◌||◌, or-false}
use mathlib.Core.List.{List}
use native.Mathlib.Nat.{add-zero, zero-add}
use native.Mathlib.Decide.{ℕ_discrete}
use native.Mathlib.Omega.{arith}
use borrow.Author.Tests.{eq-eqb, ne_eqb}
use lib.ListN.{length, get_or, set, replicate, length-set, length-replicate, get_or-replicate}
use lib.Seq.{get_or-set_same, get_or-set_other}
use lib.Dec.{eqb}
use Rattle.basics.specs.Sum.{pick, sum, some}
use Rattle.game.specs.Tree.{of_arc}
use Rattle.basics.proofs.Sums.{In, in_more, in_last}
use Rattle.tree.specs.Passes.{Sound}

-- what can be added up over the numbers 1 to m, whole or under a test
pub record Adding (A : Type 0) : Type 0 where
  pub none : A
  pub add : A → A → A
  pub over : ℕ → (ℕ → A) → A
  pub only : Bool → A → A
  pub over_zero : (f : ℕ → A) → over 0 f ≡ none
  pub over_suc : (m : ℕ) (f : ℕ → A) → over (suc m) f ≡ add (over m f) (f (suc m))
  pub only_yes : (x : A) → only true x ≡ x
  pub only_no : (x : A) → only false x ≡ none
  pub add_none : (x : A) → add x none ≡ x
  pub none_add : (x : A) → add none x ≡ x
  pub move : (a b c : A) → add (add a b) c ≡ add a (add c b)

pub or_move : (a b c : Bool) → ((a || b) || c) ≡ (a || (c || b))
or_move true b c = refl
or_move false true true = refl
or_move false true false = refl
or_move false false c = sym (or-false c)

abbrev pub flags : Adding Bool
flags =
    record {
      none = false;
      add = ◌||◌;
      over = some;
      only = ◌&&◌;
      over_zero = λ f. refl;
      over_suc = λ m f. refl;
      only_yes = λ x. refl;
      only_no = λ x. refl;
      add_none = or-false;
      none_add = λ x. refl;
      move = or_move;
    }

abbrev pub amounts : Adding ℕ
amounts =
    record {
      none = 0;
      add = ◌+◌;
      over = sum;
      only = pick;
      over_zero = λ f. refl;
      over_suc = λ m f. refl;
      only_yes = λ x. refl;
      only_no = λ x. refl;
      add_none = add-zero;
      none_add = zero-add;
      move = λ a b c. omega arith;
    }

module _ {A : Type 0} (M : Adding A) (ps : List ℕ) (f : ℕ → A) where
  -- what arc u has, where v is its parent
  abbrev pub child : ℕ → ℕ → A
  child v u = M.only (eqb (of_arc ps u) v) (f u)

  -- what the children of v have
  abbrev pub children : ℕ → A
  children v = M.over (length ps) (child v)

  -- with the arcs 1 to k still to come, each place lacks what those among them have that are its vertex's children
  pub record Carried (k : ℕ) (a : List A) : Type 0 where
    pub places : length a ≡ 1024
    pub lacks : (v : ℕ) → v < 1024 → M.add (get_or a v M.none) (M.over k (child v)) ≡ children v

  pub carried_start : Carried (length ps) (replicate 1024 M.none)
  carried_start =
      record {
        places = length-replicate 1024 M.none;
        lacks =
            λ v h. ap (λ (x : A). M.add x (children v)) (get_or-replicate 1024 v M.none M.none h)
            ∙ M.none_add (children v);
      }

  none_over : (k : ℕ) (g : ℕ → A) → ((u : ℕ) → In k u → g u ≡ M.none) → M.over k g ≡ M.none
  none_over zero g h = M.over_zero g
  none_over (suc k) g h =
      M.over_suc k g ∙ ap₂ M.add (none_over k g (λ u i. h u (in_more i))) (h (suc k) (in_last k))
      ∙ M.add_none M.none

  module _ (sound : Sound ps) (j : ℕ) (within : suc j ≤ length ps) (a : List A) (carried : Carried (suc j) a) where
    -- all children of the next arc's vertex have been met
    pub carried_at : get_or a (suc j) M.none ≡ children (suc j)
    carried_at =
        sym (M.add_none (get_or a (suc j) M.none))
        ∙ ap (M.add (get_or a (suc j) M.none)) (sym (none_over (suc j) (child (suc j)) none_below))
        ∙ carried.lacks (suc j) (omega (arith, sound.few))
      where
        none_below : (u : ℕ) → In (suc j) u → child (suc j) u ≡ M.none
        none_below zero i = absurd (omega arith)
        none_below (suc u) i =
            ap (λ (b : Bool). M.only b (f (suc u)))
            (ne_eqb (of_arc ps (suc u)) (suc j) (λ e. omega (arith, sound.rising u)))
            ∙ M.only_no (f (suc u))

    -- what the next arc adds to the place of v
    last_child : (v : ℕ) → v < 1024 → (x : A) → child v (suc j) ≡ x
        → M.add (get_or a v M.none) (M.add (M.over j (child v)) x) ≡ children v
    last_child v h x e =
        ap (λ (y : A). M.add (get_or a v M.none) (M.add (M.over j (child v)) y)) (sym e)
        ∙ ap (M.add (get_or a v M.none)) (sym (M.over_suc j (child v)))
        ∙ carried.lacks v h

    -- the next arc adds what it has to its parent's place
    pub carried_on : (w : A) → w ≡ M.add (get_or a (of_arc ps (suc j)) M.none) (f (suc j))
        → Carried j (set a (of_arc ps (suc j)) w)
    carried_on w e =
        record {
          places = length-set a (of_arc ps (suc j)) w ∙ carried.places;
          lacks = λ v h. elim (ℕ_discrete v (of_arc ps (suc j))) [ yes d ↦ here v h d | no d ↦ other v h d ];
        }
      where
        here : (v : ℕ) → v < 1024 → v ≡ of_arc ps (suc j)
            → M.add (get_or (set a (of_arc ps (suc j)) w) v M.none) (M.over j (child v)) ≡ children v
        here v h d =
            ap (λ (x : A). M.add x (M.over j (child v)))
            (ap (λ (u : ℕ). get_or (set a (of_arc ps (suc j)) w) u M.none) d
            ∙ get_or-set_same a (of_arc ps (suc j)) w M.none (omega (arith, carried.places))
            ∙ e
            ∙ ap (λ (u : ℕ). M.add (get_or a u M.none) (f (suc j))) (sym d))
            ∙ M.move (get_or a v M.none) (f (suc j)) (M.over j (child v))
            ∙ last_child v h (f (suc j))
            (ap (λ (b : Bool). M.only b (f (suc j))) (eq-eqb (of_arc ps (suc j)) v (sym d))
            ∙ M.only_yes (f (suc j)))

        other : (v : ℕ) → v < 1024 → (v ≡ of_arc ps (suc j) → ⊥)
            → M.add (get_or (set a (of_arc ps (suc j)) w) v M.none) (M.over j (child v)) ≡ children v
        other v h d =
            ap₂ M.add (get_or-set_other a (of_arc ps (suc j)) v w M.none d) (sym (M.add_none (M.over j (child v))))
            ∙ last_child v h M.none
            (ap (λ (b : Bool). M.only b (f (suc j))) (ne_eqb (of_arc ps (suc j)) v (λ c. d (sym c)))
            ∙ M.only_no (f (suc j)))
