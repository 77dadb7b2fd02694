use Prim.Native.Nat.{ℕ}
use mathlib.Core.Path.{◌≡◌, ap, ◌∙◌}
use mathlib.Core.Bool.{true}
use mathlib.Core.List.{List}
use lib.Dec.{ltb}
use native.Mathlib.Omega.{arith}
use borrow.Author.Tests.{lt-ltb}
use Rattle.basics.specs.Bit.{bit}
use Rattle.basics.specs.Sum.{size}
use Rattle.answer_forms.specs.Answer.{value}
use Rattle.tree.proofs.MembersListed.{members_few}
use Rattle.engine.proofs.NamedSize.{named_size}
use Rattle.engine.proofs.group_search.search_in_tree.Goals as goal

pub returns : goal.returns
returns c =
    let found = c.search-found.ensures in
    let few = members_few _ c.args.marks.now c.requires.sound in
    let counted =
    c.size_of-size.ensures ∙ ap (λ (w : List ℕ). size 1024 (bit w)) found.group_value ∙ named_size _ _ few in
    let amount = c.search-found.result.amount in
    let some : ltb 0 amount ≡ true = lt-ltb 0 amount (omega arith) in
    record { answer_value = ap value (rw (found.shares_value, some, counted)); group_value = found.group_value }
