-- The bounds and the core on every accepted tree.
use Prim.Native.Nat.{ℕ}
use mathlib.Core.Logic.{◌⊎◌, inl, inr, ⊎_elim}
use mathlib.Core.Path.{◌≡◌}
use mathlib.Core.Bool.{true, false}
use lib.IntN.{ℤ, pos}
use lib.Signed.{◌≤ℤ◌}
use native.Mathlib.Omega.{arith}
use Rattle.game.specs.Proposal.{share}
use Rattle.basics.specs.Integer.{minus}
use Rattle.basics.proofs.Integers.{less_le, less_parts}
use Rattle.game.specs.Network.{at_or_below}
use Rattle.basics.proofs.Bools.{both}
use Rattle.basics.proofs.Sums.{In}
use Rattle.game.specs.Tree.{Tree, network, of_arc, has_child}
use Rattle.game.proofs.Certificate.{parent_in}
use Rattle.game.proofs.Excess.{MembersEnd}
use Rattle.game.proofs.Counted.{unused_free}
use Rattle.game.proofs.Bounds as Bounds
use Rattle.game.proofs.Runs as Runs
use Rattle.game.proofs.Core.{core_to_bound, bound_to_need, need_to_core, core_nonneg}
use Rattle.answers.specs.CoreLaws.{RunTop, LowerInRun, CoreStatement}
use Rattle.answers.proofs.Accepted.{Accepted, tree_accepted}

-- no member has a child
pub members_end : (t : Tree) → Accepted t → MembersEnd (network t)
unfolding has_child
members_end t ok v m = ok.ends v m

not_negative : (x : ℤ) → minus x ≡ 0 → pos 0 ≤ℤ x
not_negative x e = less_le (pos 0) x (less_parts (pos 0)) (less_parts x) (omega arith)

pub core_laws : CoreStatement
core_laws t e =
    let ok = tree_accepted t e in
    let n = network t in
    record {
      bound_is_only_theirs = λ k a. Bounds.bound_is_only_theirs n k;
      need_at_most_bound = λ k a. Bounds.need_le_bound n ok.rooted k;
      need_is_bound = λ k a top.
          Bounds.need_is_bound n ok.rooted (unused_free t) k (record { first = a.first; last = a.last })
          (other k top);
      run_same_bound = λ p k l. rw (← l.parent) (Runs.run_same_bound n ok.rooted k (run ok l));
      run_parent_need = λ p k l. rw (← l.parent) (Runs.run_parent_need n ok.rooted k (run ok l) (unused_free t));
      run_need_is_bound = λ p k l.
          rw (← l.parent) (Runs.run_need_is_bound n ok.rooted k (run ok l) (unused_free t));
      core_by_bound =
          λ shares. (
            core_to_bound n shares,
            λ c. need_to_core n ok.rooted (members_end t ok) shares (bound_to_need n ok.rooted shares c),
          );
      core_by_need =
          λ shares. (
            λ c. bound_to_need n ok.rooted shares (core_to_bound n shares c),
            need_to_core n ok.rooted (members_end t ok) shares,
          );
      core_not_negative =
          λ shares c j h. not_negative (share shares j) (core_nonneg n ok.rooted (members_end t ok) shares c j h);
    }
  where
    other : (k : ℕ) → RunTop t k → (of_arc t.parents k ≡ 0) ⊎ Bounds.OtherUser (network t) k
    other k (inl z) = inl z
    other k (inr o) =
        inr
        (record {
          who = o.who;
          within = record { low = o.is_vertex.first; high = o.is_vertex.last };
          uses_parent = o.uses_parent;
          not_below = o.not_below;
        })

    run : Accepted t → {p k : ℕ} → LowerInRun t p k → Runs.Run (network t) k
    run ok {p} {k} l =
        record {
          lower = within;
          upper = parent_in (network t) ok.rooted k within (λ z. l.not_top (inl z));
          same = λ v i u.
              ⊎_elim
              (λ (h : at_or_below (network t) k v ≡ true). h)
              (λ (h : at_or_below (network t) k v ≡ false).
              absurd (l.not_top (inr (record { who = v; is_vertex = omega arith; uses_parent = u; not_below = h }))))
              (both (at_or_below (network t) k v));
        }
      where
        within : In (network t).arcs k
        within = omega (arith, l.is_arc)
