use Rattle.std.proofs.Common.{◌≡◌, ℕ, ◌+◌, ◌-◌, Bool, List, length, drop, min, sym, ◌∙◌, arith, length-drop}
use Rattle.std.proofs.lemmas.List.{get_or-drop, take_all}
use Rattle.test_lines.specs.Lists.{RestIs}
use Rattle.test_lines.proofs.rest.is.Goals as goal

-- the entries from a place on are those of the list behind it
rest_behind : {A : Type 0} (xs : List A) (from m : ℕ) (v : A) (r : Bool) → m ≡ min from (length xs)
    → RestIs (drop m xs) 0 v r → RestIs xs from v r
rest_behind xs from m v r e (holds, back) =
    let long = length-drop m xs in (
      λ t. record {
        each = λ k l h.
            let place : m + (k - m) ≡ k = omega arith in
            rw place at (sym (get_or-drop m xs (k - m) v) ∙ (holds t).each (k - m) (omega arith) (omega arith));
      },
      λ rest. back (record { each = λ k l h. get_or-drop m xs k v ∙ rest.each (m + k) (omega arith) (omega arith) }),
    )

pub returns : goal.returns
returns g c = λ same.
    let xs = c.args.entries.now in
    let m = c.min.result in
    let long = length-drop m xs in
    rest_behind _ _ _ _ _ c.min.ensures
    (rw (take_all (length xs - m) (drop m xs) (omega arith)) at (c.all_are.ensures same))
