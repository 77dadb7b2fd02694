-- What the derived equality of two flags tells.
--
--   flags_differ, flags_same  what it says of the two
--   differ_flags, same_flags  two flags that differ, or are the same, as propositions
--   exact_not, exact_is       of a flag and `Exact`
use Rattle.std.proofs.Common.{◌≡◌, Bool, true, false, not, refl, sym, ◌∙◌}
use Rattle.std.proofs.lemmas.Bool.{not-true, not-false}
use Rattle.basics.proofs.Bools.{clash}
use denote.Enum.Bare.{sameb}
use Rattle.key_passes.specs.contracts.flags.Flag.{the_type}
use Rattle.key_passes.specs.declared.flags.Flag.{Flag}
use Rattle.key_passes.specs.declared.flags.Flag.TheVariants.{Below, Reached, Exact}
use Rattle.key_passes.specs.Passes.{same_flag, is_exact}

tags_same : (a b : Flag) → sameb the_type a b ≡ same_flag a b
tags_same Below Below = refl
tags_same Below Reached = refl
tags_same Below Exact = refl
tags_same Reached Below = refl
tags_same Reached Reached = refl
tags_same Reached Exact = refl
tags_same Exact Below = refl
tags_same Exact Reached = refl
tags_same Exact Exact = refl

exact_same : (a : Flag) → same_flag a Exact ≡ is_exact a
exact_same Below = refl
exact_same Reached = refl
exact_same Exact = refl

pub flags_differ : {differ : Bool} (a b : Flag) → differ ≡ not (sameb the_type a b) → differ ≡ true
    → same_flag a b ≡ false
flags_differ a b tested e = sym (tags_same a b) ∙ not-true (sameb the_type a b) (sym tested ∙ e)

pub flags_same : {differ : Bool} (a b : Flag) → differ ≡ not (sameb the_type a b) → differ ≡ false
    → same_flag a b ≡ true
flags_same a b tested e = sym (tags_same a b) ∙ not-false (sameb the_type a b) (sym tested ∙ e)

pub exact_not : {differ : Bool} (a : Flag) → differ ≡ not (sameb the_type a Exact) → differ ≡ true
    → is_exact a ≡ false
exact_not a tested e = sym (exact_same a) ∙ flags_differ a Exact tested e

pub exact_is : {differ : Bool} (a : Flag) → differ ≡ not (sameb the_type a Exact) → differ ≡ false
    → is_exact a ≡ true
exact_is a tested e = sym (exact_same a) ∙ flags_same a Exact tested e

-- two flags as propositions
pub same_flags : (a b : Flag) → same_flag a b ≡ true → a ≡ b
same_flags Below Below e = refl
same_flags Below Reached e = cc
same_flags Below Exact e = cc
same_flags Reached Below e = cc
same_flags Reached Reached e = refl
same_flags Reached Exact e = cc
same_flags Exact Below e = cc
same_flags Exact Reached e = cc
same_flags Exact Exact e = refl

same_itself : (a : Flag) → same_flag a a ≡ true
same_itself Below = refl
same_itself Reached = refl
same_itself Exact = refl

pub differ_flags : (a b : Flag) → same_flag a b ≡ false → a ≡ b → ⊥
differ_flags a b e d = clash (rw d at (same_itself a)) (rw d at e)
