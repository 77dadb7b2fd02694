-- Laws of the level split's keys: what a member and what an arc's users have at a key.
--
--   at_key_start, at_key_mono          a member's share at key 0, and at a greater key
--   at_key_le_cap, at_key_cap          its cap; a level of the cap or more
--   vertex_start, vertex_mono          the same by vertex
--   vertex_pick, vertex_max            a key that a test picks; the greater of two keys
--   fill_next_key                      one key more takes at most one unit more
--   held_is, held_mono, held_max       what an arc's users have: by children, at a greater key, at the greater
--   held_start, held_start_le          at key 0: the children's bounds, so at most the arc's own
--   held_same_vertex, held_same_child  the same at two keys: so with its member, and with its children's users
use Prim.Native.Nat.{ℕ, zero, suc, ◌+◌, ◌/◌, ◌%◌, ◌≤◌, ◌<◌, max}
use mathlib.Core.Path.{◌≡◌, refl, ap, ap₂, ◌∙◌}
use mathlib.Core.Bool.{Bool, true, false}
use mathlib.Core.List.{List}
use native.Mathlib.Decide.{dec_le, dec_lt}
use native.Mathlib.Omega.{arith}
use borrow.Author.Tests.{ltb-true, lt-ltb, le-ltb, eqb-true, eq-eqb}
use lib.ListN.{get_or}
use lib.Dec.{eqb, ltb}
use Rattle.basics.specs.Sum.{pick}
use Rattle.game.specs.Network.{Network, number, member_count}
use Rattle.game.specs.Inward.{of_children}
use Rattle.game.specs.LevelKeys.{at_key, held_within, held}
use Rattle.basics.proofs.Bools.{pick_yes, pick_no, pick_le, pick_mono, pick_both_le, pick_same, pick_zero, smaller_is}
use Rattle.basics.proofs.Sums.{In, sum_cong, sum_mono, sum_gap}
use Rattle.game.proofs.Below.{Rooted, child_after}
use Rattle.game.proofs.Rise.{fill}
use Rattle.game.proofs.Raise.{fill_step, fill_next_level}

-- at the greater of two numbers, where f grows
mono_max : (f : ℕ → ℕ) → ((a b : ℕ) → a ≤ b → f a ≤ f b) → (a b : ℕ) → f (max a b) ≡ max (f a) (f b)
mono_max f grows a b =
    elim (dec_le a b) [
      | yes h ↦ let e : max a b ≡ b = omega arith in omega (arith, ap f e, grows a b h)
      | no h ↦ let e : max a b ≡ a = omega arith in omega (arith, ap f e, grows b a (omega arith))
    ]

-- what member j has at a key where its cap does not hold it back
abbrev height : ℕ → ℕ → ℕ
height key j = key / 1024 + pick (ltb j (key % 1024)) 1

height_mono : (key next j : ℕ) → key ≤ next → height key j ≤ height next j
height_mono key next j h =
    elim (dec_lt (key / 1024) (next / 1024)) [
      | yes l ↦ omega (arith, pick_le (ltb j (key % 1024)) 1)
      | no l ↦
          omega (
            arith,
            pick_mono (ltb j (key % 1024)) (ltb j (next % 1024)) 1
                (λ e. lt-ltb j (next % 1024) (omega (arith, ltb-true j (key % 1024) e))),
          )
    ]

module _ (caps : List ℕ) where
  at_key_start : (j : ℕ) → at_key caps 0 j ≡ 0
  at_key_start j = omega (arith, smaller_is (get_or caps j 0) (height 0 j), pick_no 1 (le-ltb j 0 (omega arith)))

  at_key_mono : (key next j : ℕ) → key ≤ next → at_key caps key j ≤ at_key caps next j
  at_key_mono key next j h =
      omega (
        arith,
        smaller_is (get_or caps j 0) (height key j),
        smaller_is (get_or caps j 0) (height next j),
        height_mono key next j h,
      )

  pub at_key_le_cap : (key j : ℕ) → at_key caps key j ≤ get_or caps j 0
  at_key_le_cap key j = omega (arith, smaller_is (get_or caps j 0) (height key j))

  pub at_key_cap : (key j : ℕ) → get_or caps j 0 ≤ key / 1024 → at_key caps key j ≡ get_or caps j 0
  at_key_cap key j h = omega (arith, smaller_is (get_or caps j 0) (height key j))

-- what vertex v has at a key; 0 where it is no member
abbrev pub vertex_at : Network → List ℕ → ℕ → ℕ → ℕ
vertex_at n caps key v = pick (n.member v) (at_key caps key (number n v))

module _ (n : Network) (caps : List ℕ) where
  pub vertex_start : (v : ℕ) → vertex_at n caps 0 v ≡ 0
  vertex_start v = ap (pick (n.member v)) (at_key_start caps (number n v)) ∙ pick_zero (n.member v)

  pub vertex_pick : (b : Bool) (key v : ℕ) → vertex_at n caps (pick b key) v ≡ pick b (vertex_at n caps key v)
  vertex_pick true key v = refl
  vertex_pick false key v = vertex_start v

  vertex_mono : (key next v : ℕ) → key ≤ next → vertex_at n caps key v ≤ vertex_at n caps next v
  vertex_mono key next v h = pick_both_le (n.member v) (at_key_mono caps key next (number n v) h)

  pub vertex_max : (a b v : ℕ) → vertex_at n caps (max a b) v ≡ max (vertex_at n caps a v) (vertex_at n caps b v)
  vertex_max a b v = mono_max (λ key. vertex_at n caps key v) (λ key next h. vertex_mono key next v h) a b

module _ (n : Network) (caps : List ℕ) (k : ℕ) (x : List ℕ) where
  -- what arc k's users take together on the way to a key
  abbrev pub fill_to : ℕ → ℕ
  fill_to key = fill n caps k x (key / 1024) (key % 1024)

  -- the next key takes at most one unit more
  pub fill_next_key : member_count n ≤ 1023 → (key : ℕ) → fill_to (suc key) ≤ fill_to key + 1
  fill_next_key few key =
      elim (dec_lt (key % 1024) 1023) [
        | yes h ↦
            let same : suc key / 1024 ≡ key / 1024 = omega arith in
            let next : suc key % 1024 ≡ suc (key % 1024) = omega arith in
            omega (arith, ap₂ (fill n caps k x) same next, fill_step n caps k x (key / 1024) (key % 1024))
        | no h ↦
            let next : suc key / 1024 ≡ suc (key / 1024) = omega arith in
            let none : suc key % 1024 ≡ 0 = omega arith in
            omega (
              arith,
              ap₂ (fill n caps k x) next none,
              fill_next_level n caps k x (key / 1024) (key % 1024) (omega arith),
            )
      ]

module _ (n : Network) (caps : List ℕ) (bound : ℕ → ℕ) where
  within_mono : (d key next k : ℕ) → key ≤ next
      → held_within n caps bound d key k ≤ held_within n caps bound d next k
  unfolding held_within
  within_mono zero key next k h = omega arith
  within_mono (suc d) key next k h =
      omega (
        arith,
        vertex_mono n caps key next k h,
        sum_mono
            n.arcs {f = λ u. pick (eqb (n.parent u) k) (max (bound u) (held_within n caps bound d key u))}
            {g = λ u. pick (eqb (n.parent u) k) (max (bound u) (held_within n caps bound d next u))}
            (λ u i. pick_both_le (eqb (n.parent u) k) (omega (arith, within_mono d key next u h))),
      )

  pub held_mono : (key next k : ℕ) → key ≤ next → held n caps bound key k ≤ held n caps bound next k
  held_mono = within_mono n.arcs

  pub held_max : (a b k : ℕ) → held n caps bound (max a b) k ≡ max (held n caps bound a k) (held n caps bound b k)
  held_max a b k = mono_max (λ key. held n caps bound key k) (λ key next h. held_mono key next k h) a b

  module _ (rooted : Rooted n) where
    -- more steps change nothing where they reach the last arc
    within_enough : (d key k : ℕ) → In n.arcs k → n.arcs < d + k
        → held_within n caps bound d key k ≡ held_within n caps bound (suc d) key k
    unfolding held_within
    within_enough zero key k i h = absurd (omega arith)
    within_enough (suc d) key k i h =
        ap (λ (s : ℕ). vertex_at n caps key k + s)
        (sum_cong n.arcs
        (λ u j.
        pick_same (eqb (n.parent u) k)
        (λ e.
        ap (max (bound u))
        (within_enough d key u j (omega (arith, child_after n rooted k u j (eqb-true (n.parent u) k e)))))))

    -- arc k's own member and its children's users
    pub held_is : (key k : ℕ) → In n.arcs k
        → held n caps bound key k
        ≡ vertex_at n caps key k + of_children n (λ u. max (bound u) (held n caps bound key u)) k
    unfolding held_within
    held_is key k i = within_enough n.arcs key k i (omega arith)

  -- what is at most the bounds adds nothing to them
  bounds_kept : (f : ℕ → ℕ) (k : ℕ) → ((u : ℕ) → In n.arcs u → f u ≤ bound u)
      → of_children n (λ u. max (bound u) (f u)) k ≡ of_children n bound k
  bounds_kept f k le =
      sum_cong n.arcs (λ u i. ap (pick (eqb (n.parent u) k)) (omega (arith, le u i)))

  -- every arc's bound is at least its children's together
  module _ (grows : (k : ℕ) → In n.arcs k → of_children n bound k ≤ bound k) where
    within_start : (d k : ℕ) → In n.arcs k → held_within n caps bound d 0 k ≤ bound k
    unfolding held_within
    within_start zero k i = omega arith
    within_start (suc d) k i =
        omega (
          arith,
          grows k i,
          vertex_start n caps k,
          bounds_kept (λ u. held_within n caps bound d 0 u) k (λ u j. within_start d u j),
        )

    pub held_start_le : (k : ℕ) → In n.arcs k → held n caps bound 0 k ≤ bound k
    held_start_le = within_start n.arcs

    pub held_start : Rooted n → (k : ℕ) → In n.arcs k → held n caps bound 0 k ≡ of_children n bound k
    held_start rooted k i =
        omega (
          arith,
          held_is rooted 0 k i,
          vertex_start n caps k,
          bounds_kept (λ u. held n caps bound 0 u) k held_start_le,
        )

-- where an arc's users have the same at two keys, so do its member and its children's users
module _ (n : Network) (caps : List ℕ) (bound : ℕ → ℕ) (rooted : Rooted n) (key next k : ℕ) (i : In n.arcs k)
    (h : key ≤ next) (same : held n caps bound key k ≡ held n caps bound next k) where
  abbrev of_child : ℕ → ℕ → ℕ
  of_child key u = pick (eqb (n.parent u) k) (max (bound u) (held n caps bound key u))

  child_mono : (u : ℕ) → In n.arcs u → of_child key u ≤ of_child next u
  child_mono u j = pick_both_le (eqb (n.parent u) k) (omega (arith, held_mono n caps bound key next u h))

  pub held_same_vertex : vertex_at n caps key k ≡ vertex_at n caps next k
  held_same_vertex =
      omega (
        arith,
        held_is n caps bound rooted key k i,
        held_is n caps bound rooted next k i,
        vertex_mono n caps key next k h,
        sum_mono n.arcs {f = of_child key} {g = of_child next} child_mono,
      )

  pub held_same_child : (u : ℕ) → In n.arcs u → n.parent u ≡ k
      → max (bound u) (held n caps bound key u) ≡ max (bound u) (held n caps bound next u)
  held_same_child u j e =
      omega (
        arith,
        held_is n caps bound rooted key k i,
        held_is n caps bound rooted next k i,
        vertex_mono n caps key next k h,
        held_mono n caps bound key next u h,
        pick_yes (max (bound u) (held n caps bound key u)) (eq-eqb (n.parent u) k e),
        pick_yes (max (bound u) (held n caps bound next u)) (eq-eqb (n.parent u) k e),
        sum_gap n.arcs u (of_child key) (of_child next) child_mono j,
      )
