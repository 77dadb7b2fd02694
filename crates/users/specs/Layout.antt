-- What the two loops of the layout ask for and write.
use Rattle.std.specs.Prelude.{ℕ, suc, ◌+◌, ◌≤◌, ◌<◌, ◌≡◌, List, length, get_or, eqb}
use Rattle.limits.specs.Limits.{most_arcs}
use Rattle.basics.specs.Sum.{pick, sum}
use Rattle.game.specs.Tree.{of_arc}

-- one number of users an arc, none above 1,023
pub record Counts (arcs : ℕ) (counts : List ℕ) : Type 0 where
  pub sized : length counts ≡ arcs
  pub limited : (i : ℕ) → i < arcs → get_or counts i 0 ≤ most_arcs

-- the sum of x over those of the arcs 1 to i that leave vertex p
abbrev pub leaving : (ℕ → ℕ) → (ℕ → ℕ) → ℕ → ℕ → ℕ
leaving parent x p i = sum i (λ u. pick (eqb (parent u) p) (x u))

-- the users of each of the arcs 1 to m begin where its parent's begin, after those of the parent's child arcs with a
-- smaller number
pub record Begins (m : ℕ) (parent count start : ℕ → ℕ) : Type 0 where
  pub source : start 0 ≡ 0
  pub after : (i : ℕ) → i < m → start (suc i) ≡ start (parent (suc i)) + leaving parent count (parent (suc i)) i

-- one start an arc, and each arc's users begin as above
pub record Begun (parents counts starts : List ℕ) : Type 0 where
  pub kept : length starts ≡ length parents
  pub begins : Begins (length parents) (of_arc parents) (of_arc counts) (of_arc starts)

-- the place of member j: where its arc's users begin
abbrev pub slot : List ℕ → List ℕ → ℕ → ℕ
slot vertices starts j = of_arc starts (get_or vertices j 0)

-- every member has an arc and a place of its own
pub record Apart (vertices starts : List ℕ) : Type 0 where
  pub few : length vertices ≤ most_arcs
  pub first : (j : ℕ) → j < length vertices → 1 ≤ get_or vertices j 0
  pub last : (j : ℕ) → j < length vertices → get_or vertices j 0 ≤ length starts
  pub within : (j : ℕ) → j < length vertices → slot vertices starts j < length vertices
  pub apart : (i j : ℕ) → i < j → j < length vertices → slot vertices starts i ≡ slot vertices starts j → ⊥

-- each member's number stands at its place
pub record Ordered (vertices starts order : List ℕ) : Type 0 where
  pub placed : (j : ℕ) → j < length vertices → get_or order (slot vertices starts j) 0 ≡ j
