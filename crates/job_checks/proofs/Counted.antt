-- What the count of a tree's members says of the tree's check, and the shares' check by the number of members.
use Prim.Native.Nat.{ℕ, min, ◌+◌, ◌*◌, ◌<◌, ◌≤◌}
use mathlib.Core.Path.{◌≡◌, refl, sym, ap, ◌∙◌}
use native.Mathlib.Omega.{arith}
use borrow.Author.Tests.{eq-eqb, ne_eqb, lt-ltb}
use mathlib.Core.Bool.{Bool, not}
use mathlib.Core.List.{List}
use lib.ListN.{length}
use lib.IntN.{ℤ}
use Rattle.basics.specs.Sum.{entries}
use Rattle.game.specs.Network.{member_count}
use Rattle.game.specs.Tree.{Tree, network, dead_end_tree}
use Rattle.answer_forms.specs.Answer.{Check, accepted, refused, fault, answer, value, refusal}
use Rattle.answer_forms.proofs.Composed.{then_nothing, then_same, answered, refused_answer}
use Rattle.limits.specs.Limits.{most_arcs}
use Rattle.answers.specs.Checks.{tree_check, plain_check, output_check}
use Rattle.answers.specs.Members.{member_count_answer}
use Rattle.answers.specs.DeadEnds.{dead_ends_answer}
use Rattle.answers.proofs.Limits.{tree_limits}
use Rattle.answers.proofs.DeadEnds.{plain_check_lem}
use Rattle.job_bytes.specs.Versions.{floor_width, member_width}
use Rattle.job_bytes.specs.Format.{member_offset, job_members}
use Rattle.job_bytes.specs.declared.version.Version.{Version}
use Rattle.job_bytes.specs.Inner.{Within}
use Rattle.job_bytes.proofs.Entries.{column_within}
use Rattle.job_form.specs.Inner.{Layout}
use Rattle.job_checks.specs.JobCheck.{shares_of}

-- the dead ends marked in a list that is long enough for every accepted one: the answer is that of the tree with these
-- marks
pub dead_ends_counted : (ps cs out : List ℕ) → length out ≡ min (length ps) most_arcs
    → dead_ends_answer ps cs out ≡ member_count_answer (dead_end_tree ps cs)
unfolding dead_ends_answer member_count_answer
dead_ends_counted ps cs out sized =
    ap (λ (c : Check). answer c (member_count (network (dead_end_tree ps cs))))
    (then_same (plain_check ps cs) fits ∙ then_nothing (plain_check ps cs) refl ∙ sym (plain_check_lem ps cs))
  where
    fits : plain_check ps cs ≡ accepted → output_check (length ps) out ≡ accepted
    fits e =
        let few = (tree_limits (dead_end_tree ps cs) (plain_check_lem ps cs ∙ e)).arcs in
        let same : length out ≡ length ps = omega (arith, sized, few) in
        ap (λ (b : Bool). fault (not b) 8 0) (eq-eqb (length out) (length ps) same)

module _ (t : Tree) where
  pub tree_refused : {number place : ℕ} → refusal number place ≡ member_count_answer t
      → tree_check t ≡ refused number place
  unfolding member_count_answer
  tree_refused e = refused_answer (tree_check t) (member_count (network t)) e

  pub tree_counted : {n : ℕ} → value n ≡ member_count_answer t
      → (tree_check t ≡ accepted) × (n ≡ member_count (network t))
  unfolding member_count_answer
  tree_counted {n} e = answered (tree_check t) (member_count (network t)) n (sym e)

pub shares_by : {found : Check} {members rows : ℕ} (f h : ℕ → ℕ) (g : ℕ → ℤ) (n : ℕ) → n ≡ members → n ≡ rows
    → found ≡ shares_of n (entries n f) (entries n g) (entries n h)
    → found ≡ shares_of members (entries rows f) (entries rows g) (entries rows h)
shares_by f h g n e d is = rw (← e, ← d) is

-- 1 where there are more arcs than a tree has
pub too_many : (t : Tree) → most_arcs < length t.parents → refusal 1 0 ≡ member_count_answer t
unfolding member_count_answer tree_check
too_many t h =
    let some_arc = ne_eqb (length t.parents) 0 (omega arith) in
    rw (some_arc, lt-ltb most_arcs (length t.parents) h)

-- the member rows stand within the bytes
pub rows_within : (v : Version) (bytes : List ℕ) {offset members : ℕ} → Layout v bytes → offset ≡ member_offset bytes
    → members ≡ job_members bytes → offset + member_width v * members ≤ length bytes
rows_within v bytes l at n = rw (at, n) (omega (arith, l.members_end))

-- so does a column of theirs
pub member_column : (v : Version) (bytes : List ℕ) {offset members floor : ℕ} → Layout v bytes
    → offset ≡ member_offset bytes → members ≡ job_members bytes → floor ≡ floor_width v
    → (width behind : ℕ) → behind + width ≤ 16 + floor → Within bytes width (offset + behind) (16 + floor) members
member_column v bytes {offset} {members} {floor} l at n w width behind narrow =
    column_within bytes width offset behind (16 + floor) members narrow (rw w (rows_within v bytes l at n))
