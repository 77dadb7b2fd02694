-- The level split's answer is read back from its struct.
use Prim.Native.Nat.{ℕ, zero, suc, ◌-◌}
use mathlib.Core.Path.{◌≡◌, refl}
use mathlib.Core.Bool.{Bool, true, false, cond, ◌&&◌}
use mathlib.Core.List.{List}
use lib.Dec.{eqb, ltb}
use Rattle.game.specs.Network.{Network, need, member_count}
use Rattle.game.specs.Tree.{Tree, network}
use Rattle.game.specs.Floors.{adjusted}
use Rattle.answer_forms.specs.Answer.{Check, accepted, refused}
use Rattle.answers.specs.Checks.{tree_check, output_check}
use Rattle.answers.specs.Level.{LevelAnswer, refusal as not_split, cap_sum, limits_check, split_from, level_or, level_answer}
use Rattle.capi.specs.Structs.{encode_level, decode_level}
use Rattle.capi.proofs.Kept.{Kept, then_kept, tree_kept, limits_kept, output_kept}
use Rattle.capi.proofs.ReadBack.{not_zero}

-- an answer that can be read back from its struct
abbrev LevelKept : LevelAnswer → Type 0
LevelKept a = decode_level (encode_level a) ≡ a

level_or_back : (c : Check) (a : LevelAnswer) → Kept c → LevelKept a → LevelKept (level_or c a)
level_or_back accepted a kept back = back
level_or_back (refused zero place) a kept back = absurd (not_zero kept)
level_or_back (refused (suc n) place) a kept back = refl

either_kept : (b : Bool) (x y : LevelAnswer) → LevelKept x → LevelKept y → LevelKept (cond b x y)
either_kept true x y first second = first
either_kept false x y first second = second

split_back : (n : Network) (caps floors : List ℕ) (k : ℕ) → LevelKept (split_from n caps floors k)
unfolding split_from
split_back n caps floors zero = refl
split_back n caps floors (suc k) =
    let lower = adjusted n floors (suc k) in
    let sum = cap_sum n caps (suc k) in
    let high = eqb (n.parent (suc k)) 0 && ltb (need n (suc k)) lower in
    let next = split_from n caps floors k in
    either_kept (ltb sum lower) (not_split 9 (suc k) (lower - sum)) (cond high (not_split 28 (suc k) 0) next) refl
    (either_kept high (not_split 28 (suc k) 0) next refl (split_back n caps floors k))

pub level_back : (t : Tree) (caps floors out : List ℕ) → LevelKept (level_answer t caps floors out)
unfolding level_answer
level_back t caps floors out =
    let members = member_count (network t) in
    level_or_back _ _
    (then_kept (tree_check t) _ (tree_kept t)
    (then_kept (limits_check members caps floors) (output_check members out) (limits_kept members caps floors)
    (output_kept members out)))
    (split_back (network t) caps floors (network t).arcs)
