use Prim.Native.Nat.{ℕ}
use mathlib.Core.Path.{◌≡◌, ap, ◌∙◌}
use mathlib.Core.List.{List}
use Rattle.answer_forms.specs.Answer.{Answer}
use Rattle.answers.specs.Classes.{Classed, classes_answer, classes_totals}
use Rattle.capi.specs.declared.class_split.ZilqodurClassSplit.{ZilqodurClassSplit}
use Rattle.capi.specs.Structs.{encode_classes, decode_classes}
use Rattle.capi.proofs.ReadBack.{stands_for, classes_back}
use Rattle.capi.proofs.class_split.zilqodur_split_classes.Goals as goal

-- s is the struct of the split's answer and totals
split : (w : Classed) (out : List ℕ) {answer : Answer ℕ} {totals : List ℕ} {s : ZilqodurClassSplit}
    → s ≡ encode_classes answer totals
    → answer ≡ classes_answer w out
    → totals ≡ classes_totals w out
    → (decode_classes s ≡ classes_answer w out) × (s ≡ encode_classes (decode_classes s) (classes_totals w out))
split w out {answer} is finds beside =
    let totals = classes_totals w out in
    stands_for (λ a. encode_classes a totals) decode_classes (is ∙ ap (encode_classes answer) beside) finds
    (classes_back w out totals)

pub returns : goal.returns
returns c =
    let found = c.split_classes.ensures in
    let r = split _ _ c.from.ensures found.answer_value found.totals_value in
    record { result_value = r.0; value = r.1; out_after = found.out_after }
