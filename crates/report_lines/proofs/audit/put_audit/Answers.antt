use Prim.Native.Nat.{ℕ}
use mathlib.Core.Path.{◌≡◌}
use mathlib.Core.List.{List, [], ◌∷◌}
use native.Mathlib.Omega.{arith}
use Rattle.buffer.specs.Put.{Put}
use Rattle.buffer.proofs.Pieces.{put_then}
use Rattle.report_lines.specs.Lines.{or_pass}
use Rattle.report_lines.proofs.audit.put_audit.Goals as goal

-- any other stands as it is
stands : {a b : List ℕ} {at e : ℕ} (s : List ℕ) → Put a at s b e → (e ≡ at → ⊥) → Put a at (or_pass s) b e
stands [] p off = absurd (off (omega (arith, p.ends)))
stands (x ∷ s) p off = p

pub returns : goal.returns
returns c =
    let total = c.put_total-a.ensures in
    let search = c.put_search-b.ensures in
    record {
      put = stands _ (put_then total.put search.put) c.if-b-at.false;
      upper_bound = omega (arith, total.upper_bound, search.upper_bound);
    }
