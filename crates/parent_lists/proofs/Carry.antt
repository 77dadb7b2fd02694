-- The list with one more at the arc that can rise and 0 behind it follows; where no arc can rise, none does.
use Prim.Native.Nat.{ℕ, zero, suc, ◌+◌, ◌-◌, ◌<◌, ◌≤◌}
use mathlib.Core.Path.{◌≡◌, refl, sym, ap, ◌∙◌}
use mathlib.Core.List.{List, ◌++◌}
use mathlib.Core.Option.{none, some}
use native.Mathlib.Decide.{dec_lt}
use native.Mathlib.Omega.{arith}
use borrow.Author.Tests.{le-leb, lt-leb}
use lib.ListN.{length, get_or, set, take, drop, replicate, length-set}
use lib.Seq.{get_or-set_same, get_or-set_other}
use lib.Dec.{leb}
use Rattle.basics.specs.Sum.{pick, list}
use Rattle.basics.proofs.Bools.{pick_yes, pick_no}
use Rattle.basics.proofs.Sums.{In}
use Rattle.basics.proofs.Lists.{list_length, list_is}
use Rattle.game.specs.Tree.{of_arc}
use Rattle.game.proofs.ArcEntries.{arc_entry, of_list}
use Rattle.answers.specs.ParentLists.{following}
use Rattle.answers.proofs.ParentPlaces.{Fits, Carried}
use Rattle.answers.proofs.ParentSteps.{full_follows, carry_follows}
use Rattle.tree.specs.Passes.{Sound}
use Rattle.std.proofs.lemmas.Grind.{common_steps}
use Rattle.parent_lists.specs.Rising.{FullBehind, Rises}

fits : {l : List ℕ} → Sound l → Fits (length l) l
fits sound = record { long = refl; rooted = λ i b. sound.rising i }

pub none_follows : {l : List ℕ} → Sound l → FullBehind l 0 → following l ≡ none
none_follows sound full = full_follows (fits sound) (λ k b. full k b.low b.high)

-- the arcs behind it are cleared, then its own entry is raised
module _ {l : List ℕ} {arc : ℕ} (sound : Sound l) (rises : Rises l arc) {cleared : List ℕ}
    (behind : cleared ≡ list (length l) (λ k. pick (leb k arc) (of_arc l k))) where
  pub cleared_long : length cleared ≡ length l
  cleared_long = ap length behind ∙ list_length (λ k. pick (leb k arc) (of_arc l k)) (length l)

  cleared_at : (k : ℕ) → In (length l) k → of_arc cleared k ≡ pick (leb k arc) (of_arc l k)
  cleared_at k b =
      ap (λ (x : List ℕ). of_arc x k) behind ∙ of_list (length l) (λ k. pick (leb k arc) (of_arc l k)) k b

  pub raised_entry : get_or cleared (arc - 1) 0 ≡ of_arc l arc
  raised_entry =
      arc_entry cleared arc rises.low
      ∙ cleared_at arc (record { low = rises.low; high = rises.within })
      ∙ pick_yes (of_arc l arc) (le-leb arc arc (omega arith))

  -- the raised list
  abbrev after : List ℕ
  after = set cleared (arc - 1) (get_or cleared (arc - 1) 0 + 1)

  other : (k : ℕ) → In (length l) k → (k ≡ arc → ⊥) → of_arc after k ≡ pick (leb k arc) (of_arc l k)
  other zero b apart = absurd (omega (arith, b.low))
  other (suc u) b apart =
      get_or-set_other cleared (arc - 1) u (get_or cleared (arc - 1) 0 + 1) 0 (λ e. apart (omega arith))
      ∙ cleared_at (suc u) b

  carried : Carried (length l) arc (of_arc l) (of_arc after)
  carried =
      record {
        arc = record { low = rises.low; high = rises.within };
        before = λ k low h.
            other k (record { low = low; high = omega (arith, rises.within) }) (λ e. omega arith)
            ∙ pick_yes (of_arc l k) (le-leb k arc (omega arith));
        room = rises.room;
        raised =
            sym (arc_entry after arc rises.low)
            ∙ get_or-set_same cleared (arc - 1) (get_or cleared (arc - 1) 0 + 1) 0
            (omega (arith, cleared_long, rises.within))
            ∙ omega (arith, raised_entry);
        full = rises.full;
        cleared = λ k h b.
            other k (record { low = omega arith; high = b }) (λ e. omega arith)
            ∙ pick_no (of_arc l k) (lt-leb k arc h);
      }

  pub raised_follows : following l ≡ some after
  raised_follows =
      carry_follows (fits sound) arc after
      (length-set cleared (arc - 1) (get_or cleared (arc - 1) 0 + 1) ∙ cleared_long) carried

-- the entries from place n on set to 0, where there are some
module _ (l : List ℕ) (n : ℕ) where
  abbrev kept : ℕ → ℕ
  kept k = pick (leb k n) (of_arc l k)

  abbrev cleared : List ℕ
  cleared = take n l ++ (replicate (length (take (length l - n) (drop n l))) 0 ++ drop (length l - n) (drop n l))

  front : (u : ℕ) → u < n → n < length l → get_or cleared u 0 ≡ get_or l u 0
  front u low h = grind (arith, common_steps)

  behind : (u : ℕ) → n ≤ u → n < length l → get_or cleared u 0 ≡ 0
  behind u low h = grind (arith, common_steps)

  pub cleared_is : {new : List ℕ} → n < length l → new ≡ replicate (length (take (length l - n) (drop n l))) 0
      → take n l ++ (new ++ drop (length l - n) (drop n l)) ≡ list (length l) kept
  cleared_is h e =
      rw e
      (list_is kept 0 (length l) cleared (grind (arith, common_steps))
      (λ u b.
      elim (dec_lt u n) [
        | yes low ↦ front u low h ∙ sym (pick_yes (get_or l u 0) (le-leb (suc u) n (omega arith)))
        | no high ↦ behind u (omega arith) h ∙ sym (pick_no (get_or l u 0) (lt-leb (suc u) n (omega arith)))
      ]))

  pub nothing_cleared : length l ≤ n → l ≡ list (length l) kept
  nothing_cleared h =
      list_is kept 0 (length l) l refl
      (λ u b. sym (pick_yes (get_or l u 0) (le-leb (suc u) n (omega arith))))
