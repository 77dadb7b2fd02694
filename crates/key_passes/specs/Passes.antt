-- What the passes of the search do to its lists. A list has one entry a vertex, place 0 for the source, but for
-- `order`, which has the open vertices in rising order, and `bounds`, whose entry 0 is that of arc 1.
--
-- An open vertex has a low and a high key, and the greatest key on its path is one of those from its low key up to
-- below its high key. Where its link is its parent, and not 0, the two have the same low and high key and try the same key,
-- their pivot. `rests` has the sum of the bounds of the child arcs that are no longer linked.
use Rattle.std.specs.Prelude.{ℕ, ◌+◌, ◌/◌, ◌%◌, ◌≤◌, ◌<◌, max, ◌≡◌, Bool, true, false, cond, not, ◌&&◌}
use Rattle.std.specs.Prelude.{List, [], ◌∷◌, length, get_or, eqb, ltb}
use Rattle.basics.specs.Sum.{pick, smaller, total}
use Rattle.game.specs.Tree.{of_arc}
use Rattle.limits.specs.Limits.{most_arcs}
use Rattle.limits.specs.Inner.{most_total}
use Rattle.key_passes.specs.declared.flags.Flag.{Flag}
use Rattle.key_passes.specs.declared.flags.Flag.TheVariants.{Below, Reached, Exact}

abbrev pub at : List ℕ → ℕ → ℕ
at l v = get_or l v 0

-- what a member has at a key
abbrev pub share_at : ℕ → ℕ → ℕ → ℕ
share_at cap number key = smaller cap (key / 1024 + pick (ltb number (key % 1024)) 1)

-- vertices 1 to m in rising order, each linked to a lower vertex
pub record Rising (m : ℕ) (order links : List ℕ) : Type 0 where
  pub first : (i : ℕ) → i < length order → 0 < at order i
  pub last : (i : ℕ) → i < length order → at order i ≤ m
  pub rising : (i j : ℕ) → i < j → j < length order → at order i < at order j
  pub lower : (i : ℕ) → i < length order → at links (at order i) < at order i

-- w is none of the vertices in the order
abbrev pub Outside : List ℕ → ℕ → Type 0
Outside order w = (i : ℕ) → i < length order → at order i ≡ w → ⊥

-- what is linked to vertex v: f of each vertex of the order whose link is v, added up
abbrev pub linked_sum : List ℕ → List ℕ → (ℕ → ℕ) → ℕ → ℕ
linked_sum order links f v = total (λ c. pick (eqb (at links c) v) (f c)) order

-- a vertex's value is its own and that of each vertex linked to it, at least that vertex's bound
pub record Adds (order links bounds : List ℕ) (own value : ℕ → ℕ) : Type 0 where
  pub is : (i : ℕ) → i < length order
      → value (at order i) ≡ own (at order i) + linked_sum order links (λ c. max (of_arc bounds c) (value c)) (at order i)

-- such values, none above the greatest sum of caps
pub record Addable (order links bounds : List ℕ) (own : ℕ → ℕ) : Type 0 where
  pub value : ℕ → ℕ
  pub adds : Adds order links bounds own value
  pub small : (i : ℕ) → i < length order → value (at order i) ≤ most_total
  pub bounded : (i : ℕ) → i < length order → of_arc bounds (at order i) ≤ most_total

-- a vertex's own: what its unlinked child arcs' users and its member have at its pivot
abbrev pub own_at : List ℕ → List ℕ → List ℕ → List ℕ → ℕ → ℕ
own_at caps numbers rests pivots v = at rests v + share_at (at caps v) (at numbers v) (at pivots v)

-- the list has such values at the vertices of the order
pub record Evaluated (order links bounds : List ℕ) (own : ℕ → ℕ) (held : List ℕ) : Type 0 where
  pub is : (value : ℕ → ℕ) → Adds order links bounds own value → (i : ℕ) → i < length order
      → at held (at order i) ≡ value (at order i)

-- the flag of vertex v
abbrev pub flag_at : List Flag → ℕ → Flag
flag_at l v = get_or l v Below

abbrev pub is_below : Flag → Bool
is_below Below = true
is_below Reached = false
is_below Exact = false

abbrev pub is_reached : Flag → Bool
is_reached Below = false
is_reached Reached = true
is_reached Exact = false

abbrev pub is_exact : Flag → Bool
is_exact Below = false
is_exact Reached = false
is_exact Exact = true

-- A vertex's flag. Below: the greatest key on the path is below the pivot. Reached: it is the pivot or above. Exact:
-- the shares are those at the pivot. By what the users have at the pivot, the bound and the flag of the vertex linked to.
abbrev pub flag_of : ℕ → ℕ → Flag → Flag
flag_of held bound flag =
    cond (ltb bound held) flag (cond (is_reached flag) Reached (cond (eqb held bound) Exact Reached))

-- the flags of a round, and the low and high keys moved to the pivots
pub record Settled (order links bounds pivots held : List ℕ) (flags : List Flag) (lows highs : List ℕ)
    (flags' : List Flag) (lows' highs' : List ℕ) : Type 0 where
  pub flag : (i : ℕ) → i < length order
      → flag_at flags' (at order i)
      ≡ flag_of (at held (at order i)) (of_arc bounds (at order i)) (flag_at flags' (at links (at order i)))
  pub low : (i : ℕ) → i < length order
      → at lows' (at order i)
      ≡ cond (is_below (flag_at flags' (at order i))) (at lows (at order i)) (at pivots (at order i))
  pub high : (i : ℕ) → i < length order
      → at highs' (at order i)
      ≡ cond (is_below (flag_at flags' (at order i))) (at pivots (at order i)) (at highs (at order i))
  pub flags_kept : (w : ℕ) → Outside order w → flag_at flags' w ≡ flag_at flags w
  pub lows_kept : (w : ℕ) → Outside order w → at lows' w ≡ at lows w
  pub highs_kept : (w : ℕ) → Outside order w → at highs' w ≡ at highs w

-- the vertex stays open
abbrev pub stays_open : List Flag → List ℕ → List ℕ → ℕ → Bool
stays_open flags lows highs v = not (is_exact (flag_at flags v)) && ltb (at lows v + 1) (at highs v)

-- the entries that pass the test
unfoldable pub filtered : (ℕ → Bool) → List ℕ → List ℕ
filtered test [] = []
filtered test (v ∷ l) = cond (test v) (v ∷ filtered test l) (filtered test l)

abbrev pub same_flag : Flag → Flag → Bool
same_flag Below f = is_below f
same_flag Reached f = is_reached f
same_flag Exact f = is_exact f

-- the link is given up: the two flags differ
abbrev pub is_cut : List ℕ → List Flag → ℕ → Bool
is_cut links flags v = not (same_flag (flag_at flags v) (flag_at flags (at links v)))

-- the vertices that stay open, their links, and the bounds of those cut added at what they were linked to
pub record Kept (order links bounds : List ℕ) (flags : List Flag) (lows highs rests : List ℕ)
    (order' links' rests' : List ℕ) : Type 0 where
  pub open_are : order' ≡ filtered (stays_open flags lows highs) order
  pub link : (i : ℕ) → i < length order
      → at links' (at order i) ≡ cond (is_cut links flags (at order i)) 0 (at links (at order i))
  pub rest : (i : ℕ) → i < length order
      → at rests' (at order i)
      ≡ at rests (at order i) + linked_sum order links (λ c. pick (is_cut links flags c) (of_arc bounds c)) (at order i)

-- a pivot lies between the low and the high key, and linked vertices have the same
pub record Chosen (order links lows highs pivots : List ℕ) : Type 0 where
  pub above : (i : ℕ) → i < length order → at links (at order i) ≡ 0 → at lows (at order i) < at pivots (at order i)
  pub below : (i : ℕ) → i < length order → at links (at order i) ≡ 0 → at pivots (at order i) < at highs (at order i)
  pub same : (i : ℕ) → i < length order → (at links (at order i) ≡ 0 → ⊥)
      → at pivots (at order i) ≡ at pivots (at links (at order i))

-- vertices that are all different: `back` gives the place of each
pub record Apart (vertices : List ℕ) : Type 0 where
  pub back : ℕ → ℕ
  pub is : (j : ℕ) → j < length vertices → back (at vertices j) ≡ j
  pub few : (j : ℕ) → j < length vertices → at vertices j ≤ most_arcs

-- each member's cap and number at its vertex, and cap 0 elsewhere
pub record AtVertices (vertices caps caps_at numbers_at : List ℕ) : Type 0 where
  pub cap : (j : ℕ) → j < length vertices → at caps_at (at vertices j) ≡ at caps j
  pub number : (j : ℕ) → j < length vertices → at numbers_at (at vertices j) ≡ j
  pub other : (w : ℕ) → Outside vertices w → at caps_at w ≡ 0
