use Rattle.std.proofs.Common.{◌≡◌, ◌<◌, ◌^◌, ℕ, List, refl, sym, ◌∙◌, arith, rules}
use Rattle.std.specs.List.{sum}
use Rattle.std.proofs.lemmas.List.Recursion.{is_sum_by}
use Rattle.basics.specs.Sum.{total}
use Rattle.cost_classes.proofs.total.total_of.Goals as goal

total_sum : (xs : List ℕ) → total (λ x. x) xs ≡ sum xs
unfolding total
total_sum xs = is_sum_by (total (λ x. x)) (λ x. x) refl (λ x xs. refl) xs

pub sum-requires-clause-fits : goal.sum-requires-clause-fits
sum-requires-clause-fits c =
    let small : sum c.args.shares.now < 2 ^ 64 = omega (arith, c.requires, total_sum c.args.shares.now) in search rules

pub returns : goal.returns
returns c =
    let added : c.sum.result ≡ sum c.args.shares.now = search rules in
    added ∙ sym (total_sum c.args.shares.now)
