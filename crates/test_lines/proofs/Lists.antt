-- A list's text cut at its first comma, and how the front of a list grows.
use Rattle.std.proofs.Common.{◌≡◌, ℕ, ◌+◌, ◌-◌, ◌<◌, ◌≤◌, Bool, List, [], ◌∷◌, Some, None, IfSome, ap}
use Rattle.std.proofs.Common.{arith, rules, length, take, drop, position, slice_get, slice_set, below_more, Bor}
use Rattle.std.proofs.lemmas.Grind.{common_steps}
use Rattle.std.proofs.lemmas.List.{take_all}
use Rattle.std.proofs.lemmas.List.Sums.{fails_before_first}
use Rattle.std.proofs.lemmas.List.Splits.{slice_split_first, slice_split_none}
use Rattle.std.proofs.lemmas.Option.{slice_get-get_or}
use Rattle.std.proofs.Math.ListN.{length-set, length-drop}
use Rattle.std.proofs.Math.Seq.{get_or-set_same, get_or-set_other}
use Rattle.std.specs.Iterator.{MakesProgress, item_count}
use Rattle.std.specs.List.{slice_split, position_or_len}
use Rattle.test_lines.specs.declared.list.Entries.{Entries}
use Rattle.test_lines.specs.Lists.{FrontOf, parts_of}

first_is : (p : ℕ → Bool) (text : List ℕ) (end : ℕ) → position p text ≡ Some end
    → (position_or_len p text ≡ end) × (end < length text)
first_is p text end e = grind (arith, common_steps)

none_is : (p : ℕ → Bool) (text : List ℕ) → position p text ≡ None → length text ≤ position_or_len p text
none_is p text e = grind (arith, common_steps)

pub cut_first : (p : ℕ → Bool) (text : List ℕ) (end : ℕ) → position p text ≡ Some end
    → slice_split p text
    ≡ take end text ∷ slice_split p (take (length text - (end + 1)) (drop (end + 1) text))
cut_first p text end e =
    let is = first_is p text end e in
    let rest = take_all (length text - (end + 1)) (drop (end + 1) text) (omega (arith, length-drop (end + 1) text)) in
    rw rest (rw is.0 at (slice_split_first p text 0 (omega arith)))

pub cut_none : (p : ℕ → Bool) (text : List ℕ) → position p text ≡ None → slice_split p text ≡ text ∷ []
cut_none p text e =
    let is = none_is p text e in
    slice_split_none p text (λ k d h. fails_before_first p text k d (omega arith))

-- a call gave the first of the entries that were left
pub goes_on : {s t : Entries} {x : Bor (List ℕ)} → parts_of s.text ≡ x.now ∷ parts_of t.text
    → MakesProgress (λ _. Unit {0}) (item_count (λ (u : Entries). parts_of u.text)) s (Some x) t
goes_on {s} {t} {x} e = let longer = ap length e in search rules

-- one entry more
pub front_more : {A : Type 0} {P : A → Type 0} {n : ℕ} {list : List A} (v : A) → FrontOf P n list → n < length list
    → P v → FrontOf P (n + 1) (slice_set list n v)
front_more {A} {P} {n} {list} v f room h =
    let next = slice_set list n v in
    let long : length next ≡ length list = length-set list n v in
    record {
      within = omega arith;
      each = below_more (λ k. IfSome (slice_get next k) P) n
          (λ k l.
          rw (slice_get-get_or next k v (omega arith), get_or-set_other list n k v v (λ e. omega arith))
          (rw (slice_get-get_or list k v (omega arith)) at (f.each k l)))
          (rw (slice_get-get_or next n v (omega arith), get_or-set_same list n v v) h);
    }
