-- Sums over the members and over an arc's users, by vertex; an arc's number of users from those of its child arcs, and
-- one of its users.
use Prim.Native.Nat.{ℕ, ◌+◌, ◌<◌}
use mathlib.Core.Path.{◌≡◌, refl, sym, ap, ◌∙◌, subst, fun_ext}
use mathlib.Core.Bool.{true}
use native.Mathlib.Omega.{arith}
use borrow.Author.Tests.{ltb-true}
use lib.ListN.{get_or}
use Rattle.basics.specs.Sum.{pick, sum, sum₀, size}
use Rattle.game.specs.Network.{Network, at_or_below, everyone, sum_below, number, member_count, members}
use Rattle.game.specs.Core.{users}
use Rattle.game.specs.ByArc.{user_count}
use Rattle.basics.proofs.Bools.{and_both, pick_same, pick_yes, pick_pos}
use Rattle.basics.proofs.Sums.{In, sum_cong, sum_pos}
use Rattle.game.proofs.Below.{Rooted, sum_below_children, sum_from_source}
use Rattle.game.proofs.Groups.{UsedBy}
use Rattle.game.proofs.Certificate.{children}
use Rattle.game.proofs.Excess.{MembersEnd}
use Rattle.game.proofs.Core.{users_by_vertex, own_sum}
use Rattle.game.proofs.Numbering.{member_at}
use Rattle.game.proofs.Overpayment.{members_sum}

module _ (n : Network) where
  -- the vertex of a member number
  abbrev pub vertex : ℕ → ℕ
  vertex j = get_or (members n) j 0

  -- at a member's vertex, the vertex of its number
  at_number : (x : ℕ → ℕ) (v : ℕ) → In n.arcs v
      → pick (n.member v) (x (vertex (number n v))) ≡ pick (n.member v) (x v)
  at_number x v i = pick_same (n.member v) (λ m. ap x (member_at n.member n.arcs v i m))

  pub over_members : (x : ℕ → ℕ)
      → sum₀ (member_count n) (λ j. x (vertex j)) ≡ sum n.arcs (λ v. pick (n.member v) (x v))
  over_members x =
      members_sum n.arcs n.member (λ j. x (vertex j)) ∙ sum_cong n.arcs (at_number x)

  pub over_users : (x : ℕ → ℕ) (k : ℕ)
      → sum₀ (member_count n) (λ j. pick (users n k j) (x (vertex j))) ≡ sum_below n (λ v. pick (n.member v) (x v)) k
  unfolding sum_below
  over_users x k =
      users_by_vertex n (λ j. x (vertex j)) k
      ∙ sum_cong n.arcs (λ v i. ap (pick (at_or_below n k v)) (at_number x v i))

  abbrev pub ones : ℕ → ℕ
  ones v = pick (n.member v) 1

  pub users_count : (k : ℕ) → user_count n k ≡ sum_below n ones k
  unfolding size
  users_count k = users_by_vertex n (λ j. 1) k

  module _ (rooted : Rooted n) where
    -- the member itself and the users of the child arcs
    pub count_children : (v : ℕ) → In n.arcs v → user_count n v ≡ ones v + children n (user_count n) v
    count_children v i =
        subst (λ (c : ℕ → ℕ). c v ≡ ones v + children n c v) (sym (fun_ext users_count))
        (sum_below_children n rooted ones v i)

    -- the members are the users of the arcs that leave the source
    pub count_from_source : member_count n ≡ children n (user_count n) 0
    count_from_source =
        subst (λ (c : ℕ → ℕ). member_count n ≡ children n c 0) (sym (fun_ext users_count))
        (sum_from_source n rooted ones)

    pub count_own : MembersEnd n → (v : ℕ) → In n.arcs v → n.member v ≡ true → user_count n v ≡ 1
    count_own ends v i m = users_count v ∙ own_sum n rooted ends ones v i m ∙ pick_yes 1 m

  -- an arc with users has one
  pub someone_uses : (k : ℕ) → 0 < user_count n k → UsedBy n everyone k
  unfolding sum_below
  someone_uses k some =
      let s = sum_pos n.arcs (λ v. pick (at_or_below n k v) (ones v)) (omega (arith, users_count k)) in
      let v = s.which in
      let below = pick_pos (at_or_below n k v) (ones v) (ltb-true 0 (pick (at_or_below n k v) (ones v)) s.passes) in
      record {
        by = v;
        within = s.within;
        chosen = refl;
        uses = and_both (pick_pos (n.member v) 1 below.1).0 below.0;
      }
