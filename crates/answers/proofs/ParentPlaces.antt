-- The parent lists of m arcs by their places: entry q * (m + 1) + r of those of m + 1 arcs is entry q of those of m
-- arcs, followed by r. So they rise, and the place of a list is its number in the factorial number system.
use Prim.Native.Nat.{ℕ, zero, suc, ◌+◌, ◌*◌, ◌/◌, ◌%◌, ◌≤◌, ◌<◌}
use mathlib.Core.Path.{◌≡◌, refl, sym, ap, ◌∙◌}
use mathlib.Core.Bool.{true}
use mathlib.Core.List.{List, [], ◌∷◌, ◌++◌, flat_map}
use native.Mathlib.Decide.{dec_lt, ℕ_discrete}
use native.Mathlib.Nat.{div-add-mod, mod-lt, mul-le-mul_left}
use native.Mathlib.Omega.{arith}
use lib.ListN.{length, get_or, length-append, get_or-append}
use lib.Seq.{get_or_at, get_or-append-add}
use Rattle.basics.specs.Sum.{list}
use Rattle.basics.proofs.Sums.{In, in_more, in_last}
use Rattle.basics.proofs.Lists.{entries_length, entries_at}
use Rattle.game.specs.Shapley.{factorial}
use Rattle.answers.specs.ParentLists.{precedes, grown, parent_lists}
use Rattle.answers.specs.ParentListsLaws.{list_at}
use Rattle.answers.proofs.ParentOrder.{precedes_longer, precedes_last}

module _ (m : ℕ) where
  grown_length : (l : List ℕ) → length (grown m l) ≡ suc m
  grown_length l = entries_length (λ v. l ++ (v ∷ [])) (suc m)

  all_length : (ls : List (List ℕ)) → length (flat_map (grown m) ls) ≡ suc m * length ls
  unfolding flat_map
  all_length [] = omega arith
  all_length (l ∷ ls) =
      omega (arith, length-append (grown m l) (flat_map (grown m) ls), grown_length l, all_length ls)

  all_at : (ls : List (List ℕ)) (q r : ℕ) → q < length ls → r < suc m
      → get_or (flat_map (grown m) ls) (suc m * q + r) [] ≡ get_or ls q [] ++ (r ∷ [])
  unfolding flat_map
  all_at [] q r h b = absurd (omega arith)
  all_at (l ∷ ls) zero r h b =
      let here : suc m * 0 + r ≡ r = omega arith in
      rw here (
      get_or-append (grown m l) (flat_map (grown m) ls) [] r (omega (arith, grown_length l))
      ∙ entries_at (λ v. l ++ (v ∷ [])) [] (suc m) r b
      )
  all_at (l ∷ ls) (suc q) r h b =
      let behind : suc m * suc q + r ≡ length (grown m l) + (suc m * q + r) = omega (arith, grown_length l) in
      rw behind (
      get_or-append-add (grown m l) (flat_map (grown m) ls) (suc m * q + r) []
      ∙ all_at ls q r (omega arith) b
      )

-- there are m! of them
pub lists_count : (m : ℕ) → length (parent_lists m) ≡ factorial m
unfolding parent_lists factorial
lists_count zero = refl
lists_count (suc m) = all_length m (parent_lists m) ∙ ap (λ (x : ℕ). suc m * x) (lists_count m)

list_below : (m q r : ℕ) → q < factorial m → r < suc m
    → list_at (suc m) (suc m * q + r) ≡ list_at m q ++ (r ∷ [])
unfolding parent_lists
list_below m q r h b = all_at m (parent_lists m) q r (omega (arith, lists_count m)) b

-- a place among the lists of m + 1 arcs: that of the list of m arcs, and the entry of the last arc
record Cut (m i : ℕ) : Type 0 where
  q : ℕ
  r : ℕ
  parts : i ≡ suc m * q + r
  high : q < factorial m
  low : r < suc m
  is : list_at (suc m) i ≡ list_at m q ++ (r ∷ [])

cut : (m i : ℕ) → i < factorial (suc m) → Cut m i
unfolding factorial
cut m i h =
    let q = i / suc m in
    let r = i % suc m in
    let parts : i ≡ suc m * q + r = sym (div-add-mod i (suc m)) in
    let low : r < suc m = mod-lt i (omega arith) in
    let high : q < factorial m =
    elim (dec_lt q (factorial m)) [
      | yes b ↦ b
      | no b ↦ absurd (omega (arith, mul-le-mul_left {m = factorial m} {n = q} (suc m) (omega arith)))
    ] in
    record {
      q = q;
      r = r;
      parts = parts;
      high = high;
      low = low;
      is = ap (list_at (suc m)) parts ∙ list_below m q r high low;
    }

-- of two places the lower has the lower q, or the same q and the lower r
lower_cut : (m i j : ℕ) (a : Cut m i) (c : Cut m j) → i < j → (a.q < c.q → ⊥) → (a.q ≡ c.q) × (a.r < c.r)
lower_cut m i j a c h not_lower =
    let same : a.q ≡ c.q =
    elim (ℕ_discrete a.q c.q) [
      | yes e ↦ e
      | no e ↦
          let higher = mul-le-mul_left {m = suc c.q} {n = a.q} (suc m) (omega arith) in
          absurd (omega (arith, a.parts, c.parts, a.low, c.low))
    ] in
    (same, omega (arith, ap (λ (x : ℕ). suc m * x) same, a.parts, c.parts))

-- a list at a higher place is preceded by each one at a lower place
pub lists_rise : (m i j : ℕ) → i < j → j < factorial m → precedes (list_at m i) (list_at m j) ≡ true
unfolding factorial
lists_rise zero i j h b = absurd (omega arith)
lists_rise (suc m) i j h b =
    let a = cut m i (omega arith) in
    let c = cut m j b in
    rw (a.is, c.is) (
    elim (dec_lt a.q c.q) [
      | yes l ↦ precedes_longer _ _ a.r c.r (lists_rise m a.q c.q l c.high)
      | no l ↦
          let at_end = lower_cut m i j a c h l in
          rw at_end.0 (precedes_last (list_at m c.q) a.r c.r at_end.1)
    ]
    )

-- a list of m entries with each parent below its arc
pub record Fits (m : ℕ) (l : List ℕ) : Type 0 where
  pub long : length l ≡ m
  pub rooted : (i : ℕ) → i < m → get_or l i 0 ≤ i

longer_fits : (m r : ℕ) (l : List ℕ) → Fits m l → r < suc m → Fits (suc m) (l ++ (r ∷ []))
longer_fits m r l fit low =
    record {
      long = omega (arith, length-append l (r ∷ []), fit.long);
      rooted = λ i b.
          elim (dec_lt i m) [
            | yes h ↦
                rw (get_or-append l (r ∷ []) 0 i (omega (arith, fit.long)))
                (fit.rooted i h)
            | no h ↦ omega (arith, get_or_at l r [] 0 i (fit.long ∙ omega arith), low)
          ];
    }

-- each of the lists is such a one
pub lists_fit : (m i : ℕ) → i < factorial m → Fits m (list_at m i)
unfolding factorial parent_lists
lists_fit zero i h =
    let only : i ≡ 0 = omega arith in
    rw only (record { long = refl; rooted = λ k b. absurd (omega arith) })
lists_fit (suc m) i h =
    let a = cut m i h in
    rw a.is (longer_fits m a.r (list_at m a.q) (lists_fit m a.q a.high) a.low)

-- the place of the list f 1, f 2, .., f m
unfoldable pub place : ℕ → (ℕ → ℕ) → ℕ
place zero f = 0
place (suc m) f = suc m * place m f + f (suc m)

-- each of f 1, f 2, .., f m is below its arc
abbrev pub Below : ℕ → (ℕ → ℕ) → Type 0
Below m f = (k : ℕ) → In m k → f k < k

less : {m : ℕ} {f : ℕ → ℕ} → Below (suc m) f → Below m f
less below k b = below k (in_more b)

pub place_within : (m : ℕ) (f : ℕ → ℕ) → Below m f → place m f < factorial m
unfolding factorial place
place_within zero f below = omega arith
place_within (suc m) f below =
    let lower = place_within m f (less below) in
    omega (
      arith,
      below (suc m) (in_last m),
      mul-le-mul_left {m = suc (place m f)} {n = factorial m} (suc m) lower,
    )

pub at_place : (m : ℕ) (f : ℕ → ℕ) → Below m f → list_at m (place m f) ≡ list m f
unfolding parent_lists place
at_place zero f below = refl
at_place (suc m) f below =
    list_below m (place m f) (f (suc m)) (place_within m f (less below)) (below (suc m) (in_last m))
    ∙ ap (λ (l : List ℕ). l ++ (f (suc m) ∷ [])) (at_place m f (less below))

-- zeros stand first
pub first_place : (m : ℕ) (f : ℕ → ℕ) → ((k : ℕ) → In m k → f k ≡ 0) → place m f ≡ 0
unfolding place
first_place zero f none = refl
first_place (suc m) f none =
    let earlier = first_place m f (λ k b. none k (in_more b)) in
    rw earlier (omega (arith, none (suc m) (in_last m)))

-- where each entry is the highest that it can be, the place is the last one
pub last_place : (m : ℕ) (f : ℕ → ℕ) → ((k : ℕ) → In m k → suc (f k) ≡ k) → suc (place m f) ≡ factorial m
unfolding factorial place
last_place zero f full = refl
last_place (suc m) f full =
    omega (
      arith,
      full (suc m) (in_last m),
      ap (λ (x : ℕ). suc m * x) (last_place m f (λ k b. full k (in_more b))),
    )

-- g is f with one more at arc a, the highest whose entry can rise, and 0 at the arcs behind it
pub record Carried (m a : ℕ) (f g : ℕ → ℕ) : Type 0 where
  pub arc : In m a
  pub before : (k : ℕ) → 0 < k → k < a → g k ≡ f k
  pub room : suc (f a) < a
  pub raised : g a ≡ suc (f a)
  pub full : (k : ℕ) → a < k → k ≤ m → suc (f k) ≡ k
  pub cleared : (k : ℕ) → a < k → k ≤ m → g k ≡ 0

same_place : (m : ℕ) (f g : ℕ → ℕ) → ((k : ℕ) → In m k → g k ≡ f k) → place m g ≡ place m f
unfolding place
same_place zero f g same = refl
same_place (suc m) f g same =
    omega (
      arith,
      same (suc m) (in_last m),
      ap (λ (x : ℕ). suc m * x) (same_place m f g (λ k b. same k (in_more b))),
    )

-- its place is the next one
pub next_place : (m a : ℕ) (f g : ℕ → ℕ) → Carried m a f g → place m g ≡ suc (place m f)
unfolding place
next_place zero a f g c = absurd (omega (arith, c.arc.low, c.arc.high))
next_place (suc m) a f g c =
    elim (ℕ_discrete a (suc m)) [
      | yes e ↦
          let up : g (suc m) ≡ suc (f (suc m)) = rw (sym e) c.raised in
          omega (
            arith,
            ap (λ (x : ℕ). suc m * x) (same_place m f g (λ k b. c.before k b.low (omega (arith, b.high)))),
          )
      | no e ↦
          let earlier : Carried m a f g =
          record {
            arc = record { low = c.arc.low; high = omega (arith, c.arc.high) };
            before = c.before;
            room = c.room;
            raised = c.raised;
            full = λ k l h. c.full k l (omega arith);
            cleared = λ k l h. c.cleared k l (omega arith);
          } in
          let behind : a < suc m = omega (arith, c.arc.high) in
          omega (
            arith,
            c.full (suc m) behind (omega arith),
            c.cleared (suc m) behind (omega arith),
            ap (λ (x : ℕ). suc m * x) (next_place m a f g earlier),
          )
    ]
