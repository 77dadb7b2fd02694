-- The audit's answers over all groups, whatever the total is.
use Prim.Native.Nat.{ℕ, ◌≤◌, ◌<◌}
use mathlib.Core.Path.{◌≡◌, refl, sym, ap, ◌∙◌, subst}
use mathlib.Core.Bool.{Bool, true, false, cond}
use mathlib.Core.Logic.{⊎_elim}
use mathlib.Core.List.{List}
use native.Mathlib.Decide.{dec_lt}
use native.Mathlib.Omega.{arith}
use borrow.Author.Tests.{ltb-true, ltb-false, lt-ltb, le-ltb}
use lib.IntN.{ℤ, pos, negsuc, ◌-ℤ◌}
use lib.Signed.{◌≤ℤ◌, ≤ℤ_refl}
use lib.Dec.{ltb, leb→le, le→leb}
use Rattle.limits.specs.Limits.{most_arcs}
use Rattle.game.specs.Network.{Network, member_count, whole_cost, group_cost}
use Rattle.game.specs.Tree.{Tree, network}
use Rattle.basics.specs.Bit.{bit}
use Rattle.game.specs.Group.{group_by_number, words_of}
use Rattle.basics.specs.Sum.{size}
use Rattle.game.specs.Proposal.{pays, overpayment, difference}
use Rattle.game.specs.Search.{is_in, named}
use Rattle.basics.proofs.Bools.{both, clash, same_test}
use Rattle.basics.proofs.Sizes.{size_same, size_full}
use Rattle.game.proofs.Encoding.{bit_of_words, bit_beyond}
use Rattle.basics.proofs.Integers.{le_trans_ℤ, minus_le, le_minus, minus_is, is_minus}
use Rattle.game.proofs.Overpayment.{overpayment_same}
use Rattle.game.proofs.Search.{named_good, named_part, named_ends}
use Rattle.answer_forms.specs.Answer.{Answer, value, accepted}
use Rattle.answers.specs.Checks.{tree_check, proposal_check}
use Rattle.answers.specs.Audit.{Verdict, found, none, group_verdict, search_verdict, audit_check, total_answer}
use Rattle.answers.specs.Audit.{search_answer, search_words, words_beside, Passes}
use Rattle.answers.specs.AuditLaws.{GroupLaws, AuditStatement, the_group}
use Rattle.answer_forms.proofs.Composed.{first_accepted}
use Rattle.answers.proofs.Accepted.{tree_accepted}
use Rattle.answers.proofs.Limits.{members_bound}
use Rattle.answers.proofs.Laws.{laws}

-- the verdicts are told apart
none_not_found : {a s : ℕ} → found a s ≡ none → ⊥
none_not_found e = let z : ◌≡◌ {A = ℕ} 0 1 = cc in omega arith

-- what a verdict on a group says of its overpayment o
none_over : (o : ℤ) (s : ℕ) → group_verdict o s ≡ none → o ≤ℤ pos 0
none_over (pos a) s e =
    ⊎_elim
    (λ (l : ltb 0 a ≡ true). absurd (none_not_found (rw l at e)))
    (λ (l : ltb 0 a ≡ false). record { le = le→leb a 0 (omega (arith, ltb-false 0 a l)) })
    (both (ltb 0 a))
none_over (negsuc a) s e = record { le = tt }

none_by : (o : ℤ) (s : ℕ) → o ≤ℤ pos 0 → group_verdict o s ≡ none
none_by (pos a) s h = ap (λ (b : Bool). cond b (found a s) none) (le-ltb 0 a (leb→le a 0 h.le))
none_by (negsuc a) s h = refl

found_by : (o : ℤ) (s : ℕ) → (o ≤ℤ pos 0 → ⊥) → (a : ℕ) × (group_verdict o s ≡ found a s)
found_by (pos a) s h =
    elim (dec_lt 0 a) [ yes l ↦ (a, rw (lt-ltb 0 a l)) | no l ↦ absurd (h (record { le = le→leb a 0 (omega arith) })) ]
found_by (negsuc a) s h = absurd (h (record { le = tt }))

found_over : (o : ℤ) (s : ℕ) {a m : ℕ} → group_verdict o s ≡ found a m → (o ≡ pos a) × (0 < a) × (s ≡ m)
found_over (pos b) s {a} {m} e =
    ⊎_elim
    (λ (l : ltb 0 b ≡ true).
    let same : found b s ≡ found a m = rw l at e in
    let amount : b ≡ a = cc in
    let count : s ≡ m = cc in
    (ap pos amount, omega (arith, ltb-true 0 b l), count))
    (λ (l : ltb 0 b ≡ false). absurd (none_not_found (sym (rw l at e))))
    (both (ltb 0 b))
found_over (negsuc b) s e = absurd (none_not_found (sym e))

module _ (t : Tree) (shares : List ℤ) (ok : audit_check t shares ≡ accepted) where
  abbrev n : Network
  n = network t

  abbrev the_named : ℕ → Bool
  the_named = is_in (named n shares)

  totalled : total_answer t shares ≡ value (difference n shares)
  unfolding total_answer
  totalled = rw ok

  searched : search_answer t shares ≡ value (search_verdict n shares)
  unfolding search_answer
  searched = rw ok

  same_value : {A : Type 0} {v w : A} → value v ≡ value w → v ≡ w
  same_value e = cc

  verdict_of : {v : Verdict} → search_answer t shares ≡ value v → search_verdict n shares ≡ v
  verdict_of e = same_value (sym searched ∙ e)

  most : (g : ℕ → Bool) → overpayment n shares g ≤ℤ overpayment n shares the_named
  most g = (named_good n shares g).most

  none_then : search_answer t shares ≡ value none → (g : ℕ → Bool) → overpayment n shares g ≤ℤ pos 0
  none_then e g =
      le_trans_ℤ (most g) (none_over (overpayment n shares the_named) (size (member_count n) the_named) (verdict_of e))

  none_where : ((g : ℕ → Bool) → overpayment n shares g ≤ℤ pos 0) → search_answer t shares ≡ value none
  none_where h =
      searched ∙ ap value (none_by (overpayment n shares the_named) (size (member_count n) the_named) (h the_named))

  passes_then : Passes t shares
      → (pays n shares (λ j. true) ≡ pos (whole_cost n))
      × ((g : ℕ → Bool) → pays n shares g ≤ℤ pos (group_cost n (group_by_number n g)))
  passes_then p = (
    minus_is (pays n shares (λ j. true)) (whole_cost n) (same_value (sym totalled ∙ p.adds_up)),
    λ g. minus_le (pays n shares g) (group_cost n (group_by_number n g)) (none_then p.no_group g),
  )

  passes_where : (pays n shares (λ j. true) ≡ pos (whole_cost n))
      × ((g : ℕ → Bool) → pays n shares g ≤ℤ pos (group_cost n (group_by_number n g)))
      → Passes t shares
  passes_where h =
      record {
        adds_up = totalled ∙ ap value (is_minus (pays n shares (λ j. true)) (whole_cost n) h.0);
        no_group = none_where (λ g. le_minus (pays n shares g) (group_cost n (group_by_number n g)) (h.1 g));
      }

  tree_ok : tree_check t ≡ accepted
  tree_ok = first_accepted (tree_check t) (proposal_check (member_count n) shares) ok

  all_overpay : overpayment n shares (λ j. true) ≡ difference n shares
  all_overpay = ap (λ (c : ℕ). pays n shares (λ j. true) -ℤ pos c) (laws t tree_ok).all_cost_whole

  few : member_count n ≤ most_arcs
  few = members_bound t (tree_accepted t tree_ok)

  found_then : (amount members : ℕ) → search_answer t shares ≡ value (found amount members)
      → GroupLaws t shares amount members
  unfolding search_words
  found_then amount members e =
      record {
        overpays = same_over ∙ o.0;
        above_zero = o.1;
        counted = counted;
        none_more = λ g. subst (λ (x : ℤ). overpayment n shares g ≤ℤ x) o.0 (most g);
        part_of_all = part;
        fewest = λ g f. omega (arith, o.2, (named_good n shares g).fewest (as_much g f));
        only_one = only;
        none_beyond = none_beyond;
      }
    where
      o : (overpayment n shares the_named ≡ pos amount) × (0 < amount) × (size (member_count n) the_named ≡ members)
      o = found_over (overpayment n shares the_named) (size (member_count n) the_named) (verdict_of e)

      words : search_words t shares ≡ words_of the_named
      words = ap (λ (a : Answer Verdict). words_beside a (words_of the_named)) e

      named_at : (j : ℕ) → j < 1024 → the_group t shares j ≡ the_named j
      named_at j h = ap (λ (w : List ℕ). bit w j) words ∙ bit_of_words the_named j h

      same : (j : ℕ) → j < member_count n → the_group t shares j ≡ the_named j
      same j h = named_at j (omega (arith, few))

      same_over : overpayment n shares (the_group t shares) ≡ overpayment n shares the_named
      same_over = overpayment_same n shares (the_group t shares) the_named same

      counted : size (member_count n) (the_group t shares) ≡ members
      counted = size_same (member_count n) (the_group t shares) the_named same ∙ o.2

      none_beyond : (j : ℕ) → member_count n ≤ j → the_group t shares j ≡ false
      none_beyond j h =
          elim (dec_lt j 1024) [
            | yes l ↦ named_at j l ∙ named_ends n shares j h
            | no l ↦ ap (λ (w : List ℕ). bit w j) words ∙ bit_beyond the_named j (omega arith)
          ]

      as_much : (g : ℕ → Bool)
          → overpayment n shares g ≡ pos amount
          → overpayment n shares the_named ≤ℤ overpayment n shares g
      as_much g f = rw (o.0 ∙ sym f) (≤ℤ_refl (overpayment n shares g))

      part : (g : ℕ → Bool) → overpayment n shares g ≡ pos amount → (j : ℕ) → the_group t shares j ≡ true → g j ≡ true
      part g f j b =
          elim (dec_lt j (member_count n)) [
            | yes h ↦ named_part n shares g (as_much g f) j h (sym (same j h) ∙ b)
            | no h ↦ absurd (clash b (none_beyond j (omega arith)))
          ]

      only : (g : ℕ → Bool)
          → overpayment n shares g ≡ pos amount
          → size (member_count n) g ≤ members
          → (j : ℕ) → j < member_count n → g j ≡ the_group t shares j
      only g f no_more j h =
          same_test (g j) (the_group t shares j)
          (size_full (member_count n) (the_group t shares) g (λ i l. part g f i) (omega (arith, counted)) j h)
          (part g f j)

  exactly_then : ((amount : ℕ) × (members : ℕ) × (search_answer t shares ≡ value (found amount members)))
      → (g : ℕ → Bool) × (overpayment n shares g ≤ℤ pos 0 → ⊥)
  exactly_then (amount, members, e) =
      let o = found_then amount members e in (
        the_group t shares,
        λ h. omega (arith, o.above_zero, leb→le amount 0 (subst (λ (x : ℤ). x ≤ℤ pos 0) o.overpays h).le),
      )

  exactly_where : ((g : ℕ → Bool) × (overpayment n shares g ≤ℤ pos 0 → ⊥))
      → (amount : ℕ) × (members : ℕ) × (search_answer t shares ≡ value (found amount members))
  exactly_where (g, more) =
      let by = found_by (overpayment n shares the_named) (size (member_count n) the_named)
      (λ h. more (le_trans_ℤ (most g) h)) in
      (by.0, size (member_count n) the_named, searched ∙ ap value by.1)

pub audit_laws : AuditStatement
audit_laws t shares ok =
    record {
      total = totalled t shares ok;
      all_overpay = all_overpay t shares ok;
      finds_none = (none_then t shares ok, none_where t shares ok);
      finds_exactly = (exactly_then t shares ok, exactly_where t shares ok);
      finds = found_then t shares ok;
      passes = (passes_then t shares ok, passes_where t shares ok);
    }
