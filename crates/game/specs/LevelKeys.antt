-- The level split by keys, without units and without an order of arcs: a member's share is the one at the greatest key
-- on its path.
use Rattle.std.specs.Prelude.{ℕ, zero, suc, ◌+◌, ◌/◌, ◌%◌, max, Bool, cond, List, get_or, ltb, leb}
use Rattle.basics.specs.Sum.{pick, smaller}
use Rattle.game.specs.Network.{Network, at_or_below, number}
use Rattle.game.specs.Inward.{of_children}

-- A key is a level and a limit on member numbers, level * 1024 + limit. At a key member j has one above the level where
-- its number is below the limit, else the level, and at most its cap.
abbrev pub at_key : List ℕ → ℕ → ℕ → ℕ
at_key caps key j = smaller (get_or caps j 0) (key / 1024 + pick (ltb j (key % 1024)) 1)

-- what arc k's users have together at a key, where each child arc's users have at least that arc's bound; the fourth
-- argument bounds the steps down the tree
unfoldable pub held_within : Network → List ℕ → (ℕ → ℕ) → ℕ → ℕ → ℕ → ℕ
held_within n caps bound zero key k = 0
held_within n caps bound (suc d) key k =
    pick (n.member k) (at_key caps key (number n k))
    + of_children n (λ u. max (bound u) (held_within n caps bound d key u)) k

-- no path down the tree has more steps than the network has arcs
abbrev pub held : Network → List ℕ → (ℕ → ℕ) → ℕ → ℕ → ℕ
held n caps bound = held_within n caps bound n.arcs

-- the greatest number up to the last that passes the test, 0 where none from 1 on does
unfoldable pub greatest : (ℕ → Bool) → ℕ → ℕ
greatest test zero = 0
greatest test (suc last) = cond (test (suc last)) (suc last) (greatest test last)

-- an arc's key: the greatest, up to the last, at which its users have at most its bound
abbrev pub arc_key : Network → List ℕ → (ℕ → ℕ) → ℕ → ℕ → ℕ
arc_key n caps bound last k = greatest (λ key. leb (held n caps bound key k) (bound k)) last

-- the greatest of f 1, f 2, .., f m
abbrev pub most : ℕ → (ℕ → ℕ) → ℕ
most zero f = 0
most (suc m) f = max (most m f) (f (suc m))

-- the greatest key of the arcs on the path to vertex v
unfoldable pub path_key : Network → List ℕ → (ℕ → ℕ) → ℕ → ℕ → ℕ
path_key n caps bound last v = most n.arcs (λ e. pick (at_or_below n e v) (arc_key n caps bound last e))
