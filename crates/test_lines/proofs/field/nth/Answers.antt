use Rattle.std.proofs.Common.{◌≡◌, List, ℕ, Bor, Option, None, Some, [], refl, ap, ◌∙◌, option_map, unwrap_or}
use Rattle.std.proofs.lemmas.Option.{unwrap_or-slice_get}
use Rattle.test_lines.specs.Fields.{fields_of}
use Rattle.test_lines.proofs.field.nth.Goals as goal

now_unwrap_or : (field : Option (Bor (List ℕ))) (default : Bor (List ℕ))
    → (unwrap_or field default).now ≡ unwrap_or (option_map (λ f. f.now) field) default.now
now_unwrap_or None default = refl
now_unwrap_or (Some f) default = refl

pub returns : goal.returns
returns c =
    ap (λ (f : Bor (List ℕ)). f.now) c.unwrap_or.ensures
    ∙ now_unwrap_or c.get.result _
    ∙ ap (λ (f : Option (List ℕ)). unwrap_or f []) c.get.ensures
    ∙ unwrap_or-slice_get (fields_of c.args.line.now) c.args.n []
