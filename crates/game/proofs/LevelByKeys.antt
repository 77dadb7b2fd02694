-- The level split is the split by keys: each arc's units raise its users to the arc's key, so in the end a member has
-- what it has at the greatest key on its path.
--
--   level_length     the level split has a share for each member
--   level_by_vertex  the share of the member at a vertex
--   level_by_keys    a member's share by its number
use Prim.Native.Nat.{ℕ, zero, suc, ◌+◌, ◌-◌, ◌/◌, ◌%◌, ◌≤◌, ◌<◌, max}
use mathlib.Core.Path.{◌≡◌, refl, sym, ap, ap₂, ◌∙◌, subst}
use mathlib.Core.Bool.{Bool, true, false}
use mathlib.Core.Logic.{⊎_elim}
use mathlib.Core.List.{List}
use native.Mathlib.Decide.{dec_le, dec_lt}
use native.Mathlib.Omega.{arith}
use borrow.Author.Tests.{eqb-true}
use lib.ListN.{length, get_or, replicate, length-set, length-replicate}
use lib.Dec.{eqb}
use Rattle.basics.specs.Sum.{pick, sum}
use Rattle.game.specs.Network.{Network, at_or_below, number, member_count, members, sum_below}
use Rattle.game.specs.Core.{users}
use Rattle.game.specs.Level.{may_take, first_least, with_one_more, units, arcs_down, level}
use Rattle.game.specs.Inward.{of_children, amount_of}
use Rattle.game.specs.LevelKeys.{at_key, held, arc_key, most, path_key}
use Rattle.basics.proofs.Bools.{not_so, pick_yes, pick_no, pick_same}
use Rattle.basics.proofs.Sums.{In, sum_cong, sum_add}
use Rattle.game.proofs.Below.{Rooted, child_after, below_cases, below_le, below_comparable, sum_below_children}
use Rattle.game.proofs.Numbering.{member_at, vertex_of}
use Rattle.game.proofs.Overpayment.{members_sum, number_lt}
use Rattle.game.proofs.Bounds.{users_at}
use Rattle.game.proofs.Bump.{below_same}
use Rattle.game.proofs.Rise.{rise}
use Rattle.game.proofs.Raise.{Raised, units_raise}
use Rattle.game.proofs.LevelList.{view, view_zeros}
use Rattle.game.proofs.LevelKeys.{vertex_at, vertex_start, vertex_pick, vertex_max, fill_to, fill_next_key}
use Rattle.game.proofs.LevelKeys.{held_is, held_max, held_start}
use Rattle.game.proofs.PathKeys.{arc_key_le, arc_key_held, arc_key_most}

one_more_length : (l : List ℕ) (c : ℕ) → length (with_one_more l c) ≡ length l
one_more_length l zero = refl
one_more_length l (suc j) = length-set l j (get_or l j 0 + 1)

module _ (n : Network) (caps : List ℕ) where
  units_length : (k t : ℕ) (l : List ℕ) → length (units n caps k t l) ≡ length l
  unfolding units
  units_length k zero l = refl
  units_length k (suc t) l =
      let so_far = units n caps k t l in
      one_more_length so_far (first_least (may_take n caps k so_far) (λ j. get_or so_far j 0) (member_count n))
      ∙ units_length k t l

  arcs_length : (amount : ℕ → ℕ) (k : ℕ) (l : List ℕ) → length (arcs_down n caps amount k l) ≡ length l
  unfolding arcs_down
  arcs_length amount zero l = refl
  arcs_length amount (suc k) l =
      arcs_length amount k (units n caps (suc k) (amount (suc k)) l) ∙ units_length (suc k) (amount (suc k)) l

  pub level_length : (amount : ℕ → ℕ) → length (level n caps amount) ≡ member_count n
  level_length amount =
      arcs_length amount n.arcs (replicate (member_count n) 0) ∙ length-replicate {A = ℕ} (member_count n) 0

-- What a vertex has, x, and takes on the way to t, and what it has then, r: m tells whether it is a member, b whether
-- it is at or below the arc, and c the same by member number.
took_at : (m b c : Bool) (x t : ℕ) → (m ≡ true → c ≡ b)
    → pick m (pick c (t - x)) + pick b (pick m x) ≡ pick b (max (pick m x) (pick m t))
took_at true true c x t same = rw (same refl) (omega arith)
took_at true false c x t same = rw (same refl) (omega arith)
took_at false true c x t same = refl
took_at false false c x t same = refl

has_then : (m b c : Bool) (x t r : ℕ) → (m ≡ true → c ≡ b) → (m ≡ true → r ≡ x + pick c (t - x))
    → pick m r ≡ max (pick m x) (pick b (pick m t))
has_then true true c x t r same is = omega (arith, is refl, pick_yes (t - x) (same refl))
has_then true false c x t r same is = omega (arith, is refl, pick_no (t - x) (same refl))
has_then false true c x t r same is = refl
has_then false false c x t r same is = refl

-- what vertex v has where everyone is raised to a key
abbrev up_to : Network → List ℕ → List ℕ → ℕ → ℕ → ℕ
up_to n caps x key v = max (view n x v) (vertex_at n caps key v)

module _ (n : Network) (caps : List ℕ) (k : ℕ) (x : List ℕ) where
  -- what arc k's users take on the way to a key, with what they have
  fill_below : (key : ℕ) → fill_to n caps k x key + sum_below n (view n x) k ≡ sum_below n (up_to n caps x key) k
  unfolding sum_below
  fill_below key =
      let takes = rise n caps k x (key / 1024) (key % 1024) in
      ap (λ (s : ℕ). s + sum n.arcs (λ v. pick (at_or_below n k v) (view n x v)))
      (members_sum n.arcs n.member takes)
      ∙ sym
      (sum_add n.arcs (λ v. pick (n.member v) (takes (number n v))) (λ v. pick (at_or_below n k v) (view n x v)))
      ∙ sum_cong n.arcs
      (λ v i.
      took_at (n.member v) (at_or_below n k v) (users n k (number n v)) (get_or x (number n v) 0)
      (at_key caps key (number n v)) (users_at n k v i))

  -- the shares after arc k's units, by vertex
  raised_at : (key : ℕ) (r : List ℕ) → Raised n caps k x (key / 1024) (key % 1024) r → (v : ℕ) → In n.arcs v
      → view n r v ≡ max (view n x v) (pick (at_or_below n k v) (vertex_at n caps key v))
  raised_at key r up v i =
      has_then (n.member v) (at_or_below n k v) (users n k (number n v)) (get_or x (number n v) 0)
      (at_key caps key (number n v)) (get_or r (number n v) 0) (users_at n k v i)
      (λ m. up.raised (number n v) (number_lt n v i m))

-- the shares x after the arcs above k
record Keyed (n : Network) (caps : List ℕ) (bound : ℕ → ℕ) (last k : ℕ) (x : List ℕ) : Type 0 where
  sized : length x ≡ member_count n
  -- a vertex up to k is below no arc above k
  none_yet : (v : ℕ) → In n.arcs v → v ≤ k → view n x v ≡ 0
  -- with the keys of the arcs still to come a vertex gets to its path's
  path : (v : ℕ) → In n.arcs v
      → up_to n caps x (most k (λ e. pick (at_or_below n e v) (arc_key n caps bound last e))) v
      ≡ vertex_at n caps (path_key n caps bound last v) v
  -- where an arc above k leaves a vertex up to k, its users have its bound, or at a key what is held where that is more
  topmost : (c key : ℕ) → k < c → c ≤ n.arcs → n.parent c ≤ k
      → sum_below n (up_to n caps x key) c ≡ max (bound c) (held n caps bound key c)

module _ (n : Network) (rooted : Rooted n) (caps : List ℕ) (bound : ℕ → ℕ) (few : member_count n ≤ 1023)
    (grows : (k : ℕ) → In n.arcs k → of_children n bound k ≤ bound k) (last : ℕ)
    (enough : (k : ℕ) → In n.arcs k → bound k ≤ held n caps bound last k) where
  module _ (k : ℕ) (h : suc k ≤ n.arcs) (x : List ℕ) (s : Keyed n caps bound last (suc k) x) where
    arc : In n.arcs (suc k)
    arc = omega arith

    -- arc suc k's users raised to a key: its own member, and its child arcs' users
    raised_held : (key : ℕ) → sum_below n (up_to n caps x key) (suc k) ≡ held n caps bound key (suc k)
    raised_held key =
        sum_below_children n rooted (up_to n caps x key) (suc k) arc
        ∙ ap₂ (λ (a b : ℕ). a + b) (omega (arith, s.none_yet (suc k) arc (omega arith)))
        (sum_cong n.arcs
        (λ u i.
        pick_same (eqb (n.parent u) (suc k))
        (λ e.
        let child = eqb-true (n.parent u) (suc k) e in
        s.topmost u key (child_after n rooted (suc k) u i child) i.high (omega arith))))
        ∙ sym (held_is n caps bound rooted key (suc k) arc)

    -- and with no key what they have
    raised_none : sum_below n (view n x) (suc k) ≡ held n caps bound 0 (suc k)
    raised_none = below_same n (suc k) (λ v i b. omega (arith, vertex_start n caps v)) ∙ raised_held 0

    fill_held : (key : ℕ)
        → fill_to n caps (suc k) x key + held n caps bound 0 (suc k) ≡ held n caps bound key (suc k)
    fill_held key = omega (arith, fill_below n caps (suc k) x key, raised_none, raised_held key)

    own : ℕ
    own = arc_key n caps bound last (suc k)

    -- at its own key arc suc k's users have its bound
    own_held : held n caps bound own (suc k) ≡ bound (suc k)
    unfolding own
    own_held =
        let at_most = arc_key_held n caps bound last grows (suc k) arc in
        elim (dec_lt own last) [
          | yes l ↦
              elim (dec_le (held n caps bound (suc own) (suc k)) (bound (suc k))) [
                | yes b ↦ absurd (omega (arith, arc_key_most n caps bound last (suc own) (suc k) l b))
                | no b ↦
                    omega
                    (arith, at_most, fill_held own, fill_held (suc own), fill_next_key n caps (suc k) x few own)
              ]
          | no l ↦
              let e : own ≡ last = omega (arith, arc_key_le n caps bound last (suc k)) in
              omega (arith, at_most, enough (suc k) arc, ap (λ (key : ℕ). held n caps bound key (suc k)) e)
        ]

    next : List ℕ
    next = units n caps (suc k) (amount_of n bound (suc k)) x

    -- so its amount raises them to that key
    raised : Raised n caps (suc k) x (own / 1024) (own % 1024) next
    unfolding next
    raised =
        let all : fill_to n caps (suc k) x own ≡ amount_of n bound (suc k) =
        omega (arith, fill_held own, own_held, held_start n caps bound grows rooted (suc k) arc) in
        subst (λ (t : ℕ). Raised n caps (suc k) x (own / 1024) (own % 1024) (units n caps (suc k) t x)) all
        (units_raise n caps (suc k) x s.sized (own / 1024) (own % 1024))

    next_at : (v : ℕ) → In n.arcs v
        → view n next v ≡ max (view n x v) (pick (at_or_below n (suc k) v) (vertex_at n caps own v))
    next_at = raised_at n caps (suc k) x own next raised

    next_user : (v : ℕ) → In n.arcs v → at_or_below n (suc k) v ≡ true
        → view n next v ≡ max (view n x v) (vertex_at n caps own v)
    next_user v i b = omega (arith, next_at v i, pick_yes (vertex_at n caps own v) b)

    next_other : (v : ℕ) → In n.arcs v → at_or_below n (suc k) v ≡ false → view n next v ≡ view n x v
    next_other v i b = omega (arith, next_at v i, pick_no (vertex_at n caps own v) b)

    next_none_yet : (v : ℕ) → In n.arcs v → v ≤ k → view n next v ≡ 0
    next_none_yet v i l =
        next_other v i (not_so (at_or_below n (suc k) v) (λ b. omega (arith, below_le n rooted (suc k) v b)))
        ∙ s.none_yet v i (omega arith)

    next_path : (v : ℕ) → In n.arcs v
        → up_to n caps next (most k (λ e. pick (at_or_below n e v) (arc_key n caps bound last e))) v
        ≡ vertex_at n caps (path_key n caps bound last v) v
    unfolding own
    next_path v i =
        omega (
          arith,
          next_at v i,
          s.path v i,
          vertex_max n caps (most k (λ e. pick (at_or_below n e v) (arc_key n caps bound last e)))
              (pick (at_or_below n (suc k) v) own) v,
          vertex_pick n caps (at_or_below n (suc k) v) own v,
        )

    -- arc suc k and a later arc that leaves a vertex up to k have no user in common
    apart : (c v : ℕ) → suc k < c → n.parent c ≤ k → at_or_below n c v ≡ true → at_or_below n (suc k) v ≡ true → ⊥
    apart zero v l p bc ba = omega arith
    apart (suc c) v l p bc ba =
        ⊎_elim
        (λ (b : at_or_below n (suc c) (suc k) ≡ true). omega (arith, below_le n rooted (suc c) (suc k) b))
        (λ (b : at_or_below n (suc k) (suc c) ≡ true).
        ⊎_elim
        (λ (e : suc k ≡ suc c). omega arith)
        (λ (b : at_or_below n (suc k) (n.parent (suc c)) ≡ true).
        omega (arith, below_le n rooted (suc k) (n.parent (suc c)) b))
        (below_cases n rooted (suc k) c b))
        (below_comparable n rooted (suc c) (suc k) v bc ba)

    next_own : (key : ℕ)
        → sum_below n (up_to n caps next key) (suc k) ≡ max (bound (suc k)) (held n caps bound key (suc k))
    next_own key =
        below_same n (suc k) {y = up_to n caps x (max own key)}
        (λ v i b. omega (arith, next_user v i b, vertex_max n caps own key v))
        ∙ omega (arith, raised_held (max own key), held_max n caps bound own key (suc k), own_held)

    next_topmost : (c key : ℕ) → k < c → c ≤ n.arcs → n.parent c ≤ k
        → sum_below n (up_to n caps next key) c ≡ max (bound c) (held n caps bound key c)
    next_topmost c key lo hi p =
        elim (dec_lt (suc k) c) [
          | yes l ↦
              below_same n c
              (λ v i b. omega (arith, next_other v i (not_so (at_or_below n (suc k) v) (apart c v l p b))))
              ∙ s.topmost c key l hi (omega arith)
          | no l ↦
              let e : c ≡ suc k = omega arith in
              subst
              (λ (u : ℕ). sum_below n (up_to n caps next key) u ≡ max (bound u) (held n caps bound key u)) (sym e)
              (next_own key)
        ]

    next_keyed : Keyed n caps bound last k next
    next_keyed =
        record { sized = raised.sized; none_yet = next_none_yet; path = next_path; topmost = next_topmost }

  all_keyed : (k : ℕ) (x : List ℕ) → k ≤ n.arcs → Keyed n caps bound last k x
      → Keyed n caps bound last 0 (arcs_down n caps (amount_of n bound) k x)
  unfolding arcs_down next
  all_keyed zero x h s = s
  all_keyed (suc k) x h s = all_keyed k (next k h x s) (omega arith) (next_keyed k h x s)

  -- before the first arc
  keyed_start : Keyed n caps bound last n.arcs (replicate (member_count n) 0)
  unfolding path_key
  keyed_start =
      record {
        sized = length-replicate {A = ℕ} (member_count n) 0;
        none_yet = λ v i l. view_zeros n (member_count n) v;
        path = λ v i. omega (arith, view_zeros n (member_count n) v);
        topmost = λ c key lo hi p. absurd (omega arith);
      }

  pub level_by_vertex : (v : ℕ) → In n.arcs v → n.member v ≡ true
      → get_or (level n caps (amount_of n bound)) (number n v) 0 ≡ at_key caps (path_key n caps bound last v) (number n v)
  level_by_vertex v i m =
      omega (
        arith,
        (all_keyed n.arcs (replicate (member_count n) 0) (omega arith) keyed_start).path v i,
        vertex_start n caps v,
        pick_yes (get_or (level n caps (amount_of n bound)) (number n v) 0) m,
        pick_yes (at_key caps (path_key n caps bound last v) (number n v)) m,
      )

  pub level_by_keys : (j : ℕ) → j < member_count n
      → get_or (level n caps (amount_of n bound)) j 0
      ≡ at_key caps (path_key n caps bound last (get_or (members n) j 0)) j
  level_by_keys j h =
      let w = vertex_of n.member n.arcs j h in
      subst
      (λ (i : ℕ). get_or (level n caps (amount_of n bound)) i 0
      ≡ at_key caps (path_key n caps bound last (get_or (members n) i 0)) i)
      w.numbered
      (rw (member_at n.member n.arcs w.vertex w.within w.is_member)
      (level_by_vertex w.vertex w.within w.is_member))
