-- The group that the search names: none is better, and it is part of every group that overpays as much.
use Prim.Native.Nat.{ℕ, zero, suc, ◌≤◌, ◌<◌}
use mathlib.Core.Path.{◌≡◌, refl, subst}
use mathlib.Core.Bool.{Bool, true, false, cond, ◌&&◌, ◌||◌}
use mathlib.Core.Logic.{⊎_elim}
use mathlib.Core.List.{List, [], ◌∷◌, ◌++◌, map}
use native.Mathlib.Nat.{le_refl, le_trans, le_of_lt}
use native.Mathlib.Omega.{arith}
use borrow.Author.Tests.{ltb-true, ltb-false}
use lib.IntN.{ℤ}
use lib.Signed.{◌≤ℤ◌, lt_z, le_z, ≤ℤ_refl}
use lib.Dec.{ltb}
use Rattle.game.specs.Network.{Network, member_count}
use Rattle.basics.specs.Sum.{size}
use Rattle.game.specs.Proposal.{overpayment}
use Rattle.game.specs.Search.{groups, is_in, better, best, named}
use Rattle.basics.proofs.Bools.{both, and_first, and_second, or_cases, neither_first, neither_second}
use Rattle.basics.proofs.Sizes.{size_same, size_full}
use Rattle.basics.proofs.Integers.{le_trans_ℤ, le_z_true, true_le_z, lt_z_true, lt_z_false}
use Rattle.game.proofs.Overpayment.{overpayment_same, meet_overpays}

-- x is one of the list
data Among {A : Type 0} (x : A) : List A → Type 0 where
  here : {l : List A} → Among x (x ∷ l)
  there : {y : A} {l : List A} → Among x l → Among x (y ∷ l)

among_map : {A B : Type 0} (f : A → B) {x : A} {l : List A} → Among x l → Among (f x) (map f l)
among_map f here = here
among_map f (there a) = there (among_map f a)

among_left : {A : Type 0} {x : A} {l : List A} (r : List A) → Among x l → Among x (l ++ r)
among_left r here = here
among_left r (there a) = there (among_left r a)

among_right : {A : Type 0} {x : A} (l : List A) {r : List A} → Among x r → Among x (l ++ r)
among_right [] a = a
among_right (y ∷ l) a = there (among_right l a)

-- a group of member numbers as a list of n places
places : ℕ → (ℕ → Bool) → List Bool
places zero g = []
places (suc n) g = g 0 ∷ places n (λ j. g (suc j))

places_is : (n : ℕ) (g : ℕ → Bool) (j : ℕ) → j < n → is_in (places n g) j ≡ g j
unfolding places
places_is zero g j h = absurd (omega arith)
places_is (suc n) g zero h = refl
places_is (suc n) g (suc j) h = places_is n (λ i. g (suc i)) j (omega arith)

places_among : (n : ℕ) (g : ℕ → Bool) → Among (places n g) (groups n)
unfolding places groups
places_among zero g = here
places_among (suc n) g = first (g 0) (places_among n (λ j. g (suc j)))
  where
    first : (b : Bool) {l : List Bool} → Among l (groups n)
        → Among (b ∷ l) (map (λ g. false ∷ g) (groups n) ++ map (λ g. true ∷ g) (groups n))
    first false a = among_left (map (λ g. true ∷ g) (groups n)) (among_map (λ g. false ∷ g) a)
    first true a = among_right (map (λ g. false ∷ g) (groups n)) (among_map (λ g. true ∷ g) a)

-- every group of n members ends at place n
data All {A : Type 0} (P : A → Type 0) : List A → Type 0 where
  none : All P []
  more : {x : A} {l : List A} → P x → All P l → All P (x ∷ l)

all_map : {A B : Type 0} {P : A → Type 0} {Q : B → Type 0} (f : A → B) → ((x : A) → P x → Q (f x)) → {l : List A}
    → All P l → All Q (map f l)
all_map f h none = none
all_map f h (more {x} p a) = more (h x p) (all_map f h a)

all_append : {A : Type 0} {P : A → Type 0} {l r : List A} → All P l → All P r → All P (l ++ r)
all_append none b = b
all_append (more p a) b = more p (all_append a b)

abbrev Ends : ℕ → List Bool → Type 0
Ends n g = (j : ℕ) → n ≤ j → is_in g j ≡ false

groups_end : (n : ℕ) → All (Ends n) (groups n)
unfolding groups
groups_end zero = more (λ j h. refl) none
groups_end (suc n) =
    all_append (all_map (λ g. false ∷ g) (longer false) (groups_end n))
    (all_map (λ g. true ∷ g) (longer true) (groups_end n))
  where
    longer : (b : Bool) (g : List Bool) → Ends n g → Ends (suc n) (b ∷ g)
    longer b g e zero h = absurd (omega arith)
    longer b g e (suc j) h = e j (omega arith)

module _ (n : Network) (shares : List ℤ) where
  abbrev over : (ℕ → Bool) → ℤ
  over = overpayment n shares

  abbrev members_of : (ℕ → Bool) → ℕ
  members_of = size (member_count n)

  -- g overpays at least as much as h, and where h overpays as much, g has no more members
  pub record AsGood (g h : ℕ → Bool) : Type 0 where
    pub most : over h ≤ℤ over g
    pub fewest : over g ≤ℤ over h → members_of g ≤ members_of h

  as_good_self : (g : ℕ → Bool) → AsGood g g
  as_good_self g = record { most = ≤ℤ_refl (over g); fewest = λ h. le_refl (members_of g) }

  as_good_trans : {a b c : ℕ → Bool} → AsGood a b → AsGood b c → AsGood a c
  as_good_trans ab bc =
      record {
        most = le_trans_ℤ bc.most ab.most;
        fewest = λ h. le_trans (ab.fewest (le_trans_ℤ h bc.most)) (bc.fewest (le_trans_ℤ ab.most h));
      }

  better_good : (g h : List Bool) → better n shares g h ≡ true → AsGood (is_in g) (is_in h)
  better_good g h e =
      ⊎_elim
      (λ (l : lt_z (over (is_in h)) (over (is_in g)) ≡ true).
      let f = lt_z_true (over (is_in h)) (over (is_in g)) l in record { most = f.0; fewest = λ k. absurd (f.1 k) })
      (λ (l : (le_z (over (is_in h)) (over (is_in g)) && ltb (members_of (is_in g)) (members_of (is_in h))) ≡ true).
      record {
        most =
            le_z_true (over (is_in h)) (over (is_in g))
            (and_first (le_z (over (is_in h)) (over (is_in g))) (ltb (members_of (is_in g)) (members_of (is_in h))) l);
        fewest = λ k.
            le_of_lt
            (ltb-true (members_of (is_in g)) (members_of (is_in h))
            (and_second (le_z (over (is_in h)) (over (is_in g)))
            (ltb (members_of (is_in g)) (members_of (is_in h))) l));
      })
      (or_cases (lt_z (over (is_in h)) (over (is_in g)))
      (le_z (over (is_in h)) (over (is_in g)) && ltb (members_of (is_in g)) (members_of (is_in h))) e)

  worse_good : (g h : List Bool) → better n shares g h ≡ false → AsGood (is_in h) (is_in g)
  worse_good g h e =
      record {
        most = lt_z_false (over (is_in h)) (over (is_in g)) (neither_first more as_much e);
        fewest =
            λ k. ltb-false (members_of (is_in g)) (members_of (is_in h))
            (fewer (true_le_z k) (neither_second more as_much e));
      }
    where
      more : Bool
      more = lt_z (over (is_in h)) (over (is_in g))

      as_much : Bool
      as_much = le_z (over (is_in h)) (over (is_in g)) && ltb (members_of (is_in g)) (members_of (is_in h))

      fewer : {a b : Bool} → a ≡ true → (a && b) ≡ false → b ≡ false
      fewer {b} t f = rw t at f

  -- the better of two is as good as both
  one_of_two : (x g : List Bool)
      → AsGood (is_in (cond (better n shares x g) x g)) (is_in x)
      × AsGood (is_in (cond (better n shares x g) x g)) (is_in g)
  one_of_two x g =
      ⊎_elim
      (λ (e : better n shares x g ≡ true). rw e (as_good_self (is_in x), better_good x g e))
      (λ (e : better n shares x g ≡ false). rw e (worse_good x g e, as_good_self (is_in g)))
      (both (better n shares x g))

  -- neither the group that it starts from nor one in the list is better than the best
  best_start : (g : List Bool) (l : List (List Bool)) → AsGood (is_in (best n shares g l)) (is_in g)
  unfolding best
  best_start g [] = as_good_self (is_in g)
  best_start g (x ∷ l) = as_good_trans (best_start (cond (better n shares x g) x g) l) (one_of_two x g).1

  best_among : {h : List Bool} (g : List Bool) {l : List (List Bool)} → Among h l
      → AsGood (is_in (best n shares g l)) (is_in h)
  unfolding best
  best_among {h} g (here {l}) = as_good_trans (best_start (cond (better n shares h g) h g) l) (one_of_two h g).0
  best_among {h} g (there {y} a) = best_among (cond (better n shares y g) y g) a

  as_good_same : {g a b : ℕ → Bool} → ((j : ℕ) → j < member_count n → a j ≡ b j) → AsGood g a → AsGood g b
  as_good_same {g} {a} {b} same good =
      let o = overpayment_same n shares a b same in
      record {
        most = rw o at good.most;
        fewest = λ h. subst (λ (s : ℕ). members_of g ≤ s) (size_same (member_count n) a b same) (good.fewest (rw o h));
      }

  -- no group is better than the one that is named
  pub named_good : (g : ℕ → Bool) → AsGood (is_in (named n shares)) g
  unfolding named
  named_good g = as_good_same (places_is (member_count n) g) (best_among [] (places_among (member_count n) g))

  -- a group that overpays as much as the named one has all its members
  pub named_part : (g : ℕ → Bool) → over (is_in (named n shares)) ≤ℤ over g → (j : ℕ) → j < member_count n
      → is_in (named n shares) j ≡ true → g j ≡ true
  named_part g much j h e =
      and_second (is_in (named n shares) j) (g j)
      (size_full (member_count n) shared (is_in (named n shares)) (λ i l c. and_first (is_in (named n shares) i) (g i) c)
      ((named_good shared).fewest
      (meet_overpays n shares (is_in (named n shares)) g
      (named_good (λ i. is_in (named n shares) i || g i)).most much))
      j h e)
    where
      shared : ℕ → Bool
      shared i = is_in (named n shares) i && g i

  best_ends : (m : ℕ) (g : List Bool) {l : List (List Bool)} → Ends m g → All (Ends m) l → Ends m (best n shares g l)
  unfolding best
  best_ends m g e none = e
  best_ends m g e (more {x} p a) =
      best_ends m (cond (better n shares x g) x g)
      (⊎_elim (λ (t : better n shares x g ≡ true). rw t p) (λ (t : better n shares x g ≡ false). rw t e)
      (both (better n shares x g))) a

  -- the named group has no number beyond the members
  pub named_ends : (j : ℕ) → member_count n ≤ j → is_in (named n shares) j ≡ false
  unfolding named
  named_ends = best_ends (member_count n) [] (λ j h. refl) (groups_end (member_count n))
