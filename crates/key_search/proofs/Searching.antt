-- What the loop over the rounds keeps, what each pass of a round asks for, and what the last round leaves.
use Rattle.std.proofs.Common.{◌≡◌, ℕ, ◌+◌, ◌-◌, ◌*◌, ◌<◌, ◌≤◌, List, [], ◌++◌, length, take, drop, sym, ap, ◌∙◌, subst, arith, length-append, length-drop, length-take}
use native.Mathlib.Decide.{ℕ_discrete}
use lib.Seq.{take-append-le}
use Rattle.basics.specs.Sum.{sum, list}
use Rattle.basics.proofs.Sums.{In}
use Rattle.game.specs.Network.{Network}
use Rattle.game.specs.Tree.{of_arc}
use Rattle.game.specs.LevelKeys.{held}
use Rattle.game.proofs.HeldBounds.{held_le_caps, held_enough}
use Rattle.limits.specs.Limits.{most_arcs, most_share}
use Rattle.limits.specs.Inner.{most_total}
use Rattle.tree.specs.Passes.{Sound, Listed, Capped, network_at}
use Rattle.tree.proofs.Vertices.{vertices_count, vertices_few}
use Rattle.answers.specs.Level.{cap_sum}
use Rattle.key_passes.specs.declared.flags.Flag.{Flag}
use Rattle.key_passes.specs.declared.flags.Flag.TheVariants.{Below}
use Rattle.key_passes.specs.Passes.{at, flag_at, Rising, Outside, linked_sum, Adds, Addable, own_at, Evaluated, Settled}
use Rattle.key_passes.specs.Passes.{stays_open, Kept, Chosen, AtVertices}
use Rattle.key_passes.proofs.Places.{placed_at}
use Rattle.key_passes.proofs.Filtered.{filtered_placed}
use Rattle.key_search.specs.Shares.{Bounds, Found}
use Rattle.key_search.proofs.State.{State}
use Rattle.key_search.proofs.Opened.{placed_in}
use Rattle.key_search.proofs.Decided.{Round, flag_source}
use Rattle.key_search.proofs.Moved.{round_nearer}
use Rattle.key_search.proofs.Round.{round_state}
use Rattle.key_search.proofs.Begun.{held_adds, caps_most, start_state, end_share}
use Rattle.key_search.proofs.Vertices.{cap_at, number_at}

-- the greatest level is the greatest cap
abbrev pub last_key : ℕ
last_key = most_share * 1024

-- what the search works on
pub record Ready (parents vertices caps bounds caps_at numbers_at : List ℕ) : Type 0 where
  pub sound : Sound parents
  pub listed : Listed parents vertices
  pub capped : Capped (length vertices) caps
  pub bounded : Bounds parents vertices caps bounds
  pub placed : AtVertices vertices caps caps_at numbers_at

pub as_ready : {parents vertices caps bounds caps_at numbers_at : List ℕ} → Sound parents → Listed parents vertices
    → Capped (length vertices) caps → Bounds parents vertices caps bounds
    → AtVertices vertices caps caps_at numbers_at → Ready parents vertices caps bounds caps_at numbers_at
as_ready s l c b p = record { sound = s; listed = l; capped = c; bounded = b; placed = p }

-- where it stands between two rounds
pub record Standing (parents vertices caps bounds : List ℕ) (order links lows highs rests sums : List ℕ)
    (flags : List Flag) : Type 0 where
  pub state : State (network_at parents [] vertices) caps (of_arc bounds) last_key order links lows highs rests
  pub no_sums : (i : ℕ) → i < length order → at sums (at order i) ≡ 0
  pub no_sum : at sums 0 ≡ 0
  pub source : flag_at flags 0 ≡ Below

module _ {parents vertices caps bounds caps_at numbers_at : List ℕ}
    (ready : Ready parents vertices caps bounds caps_at numbers_at) where
  abbrev net : Network
  net = network_at parents [] vertices

  pub few_bounds : length bounds ≤ most_arcs
  few_bounds = omega (arith, ready.bounded.sized, ready.sound.few)

  most : (k : ℕ) → cap_sum net caps k ≤ most_total
  most k = caps_most net caps ready.capped.limited ready.sound.few k

  module _ {order links lows highs rests sums : List ℕ} {flags : List Flag}
      (s : Standing parents vertices caps bounds order links lows highs rests sums flags) where
    pub rises_by_bounds : Rising (length bounds) order links
    rises_by_bounds =
        let r = s.state.order_rises in
        record {
          first = r.first;
          last = λ i l. omega (arith, r.last i l, ready.bounded.sized);
          rising = r.rising;
          lower = r.lower;
        }

    pub wide : (i : ℕ) → i < length order → at lows (at order i) + 1 < at highs (at order i)
    wide i h = (s.state.opened i h).wide

    -- a link is open, or 0
    pub closed : (i : ℕ) → i < length order → Outside order (at links (at order i)) → at links (at order i) ≡ 0
    closed i h out =
        elim (ℕ_discrete (at links (at order i)) 0) [
          | yes e ↦ e
          | no l ↦
              let p = ((s.state.opened i h).linked l).to_open in
              absurd (out p.place p.within p.is)
        ]

    in_arcs : (i : ℕ) → i < length order → In (length parents) (at order i)
    in_arcs i h = placed_in s.state (at order i) (placed_at order i h)

    bound_most : (i : ℕ) → i < length order → of_arc bounds (at order i) ≤ most_total
    bound_most i h = omega (arith, ready.bounded.covered (at order i) (in_arcs i h), most (at order i))

    pub room : (i : ℕ) → i < length order
        → at rests (at order i) + linked_sum order links (of_arc bounds) (at order i) ≤ most_total
    room i h = omega (arith, (s.state.opened i h).room, bound_most i h)

    module _ {pivots : List ℕ} (chosen : Chosen order links lows highs pivots) where
      value : ℕ → ℕ
      value v = held net caps (of_arc bounds) (at pivots v) v

      adds : Adds order links bounds (own_at caps_at numbers_at rests pivots) value
      unfolding value
      adds =
          held_adds _ s.state chosen caps_at numbers_at
          (λ v i. cap_at parents vertices ready.listed caps caps_at numbers_at ready.placed v i)
          (λ v i. number_at parents vertices ready.listed caps caps_at numbers_at ready.placed v i)

      pub addable : Addable order links bounds (own_at caps_at numbers_at rests pivots)
      unfolding value
      addable =
          record {
            value = value;
            adds = adds;
            small = λ i h.
                omega (
                  arith,
                  held_le_caps net ready.sound.rising caps (of_arc bounds) (at pivots (at order i))
                      ready.bounded.covered (at order i) (in_arcs i h),
                  most (at order i),
                );
            bounded = bound_most;
          }

      module _ {holds : List ℕ} {flags' : List Flag} {lows' highs' : List ℕ}
          (evaluated : Evaluated order links bounds (own_at caps_at numbers_at rests pivots) holds)
          (settled : Settled order links bounds pivots holds flags lows highs flags' lows' highs') where
        round : Round net caps bounds last_key order links lows highs rests pivots holds flags flags' lows' highs'
        unfolding value
        round =
            record {
              rooted = ready.sound.rising;
              grows = ready.bounded.grows;
              before = s.state;
              chosen = chosen;
              held_at = evaluated.is value adds;
              source = s.source;
              settled = settled;
            }

        -- the keys come nearer to each other
        pub nearer : 0 < length order
            → sum (length parents) (λ v. at highs' v - at lows' v) < sum (length parents) (λ v. at highs v - at lows v)
        nearer some = round_nearer round some

        pub standing_on : {sums' order' links' rests' : List ℕ}
            → ((i : ℕ) → i < length order → at sums' (at order i) ≡ 0) → at sums' 0 ≡ 0
            → Kept order links bounds flags' lows' highs' rests order' links' rests'
            → Standing parents vertices caps bounds order' links' lows' highs' rests' sums' flags'
        standing_on {sums'} {order'} zeros zero kept =
            record {
              state = round_state round kept;
              no_sums = λ i h.
                  let open_are = kept.open_are in
                  let p = (filtered_placed (stays_open flags' lows' highs') order i
                  (subst (λ (l : List ℕ). i < length l) open_are h)).placed in
                  ap (at sums') (ap (λ (l : List ℕ). at l i) open_are ∙ sym p.is) ∙ zeros p.place p.within;
              no_sum = zero;
              source = flag_source round;
            }

    -- nothing is open any more
    pub standing_end : order ≡ [] → Found parents vertices caps bounds lows
    standing_end none =
        record {
          share = end_share ready.sound.rising
              (omega (
                arith,
                vertices_count parents vertices ready.listed,
                vertices_few parents vertices ready.listed ready.sound,
              ))
              ready.bounded.grows
              (held_enough net caps most_share ready.capped.limited ready.sound.rising (of_arc bounds)
              ready.bounded.covered)
              s.state none;
        }

  pub standing_start : {order links lows highs rests sums : List ℕ} {flags : List Flag}
      → order ≡ list (length parents) (λ v. v)
      → ((v : ℕ) → In (length parents) v → at links v ≡ of_arc parents v)
      → ((v : ℕ) → at lows v ≡ 0)
      → ((v : ℕ) → In (length parents) v → at highs v ≡ last_key + 1)
      → ((v : ℕ) → at rests v ≡ 0)
      → ((v : ℕ) → at sums v ≡ 0)
      → flag_at flags 0 ≡ Below
      → Standing parents vertices caps bounds order links lows highs rests sums flags
  standing_start {order} all links lows highs rests sums source =
      record {
        state = start_state
            (record { all = all; link = links; low = λ v i. lows v; high = highs; rest = λ v i. rests v })
            ready.sound.rising ready.bounded.grows (omega arith);
        no_sums = λ i h. sums (at order i);
        no_sum = sums 0;
        source = source;
      }

-- the front of the order is lent, and comes back with the vertices that stay open in front
module _ (order part : List ℕ) (count r : ℕ) (within : count ≤ length order)
    (sized : length part ≡ length (take count order)) (fewer : r ≤ length (take count order)) where
  pub back_sized : length (part ++ drop count order) ≡ length order
  back_sized = omega (arith, length-append part (drop count order), length-take count order, length-drop count order)

  pub back_within : r ≤ length (part ++ drop count order)
  back_within = omega (arith, back_sized, length-take count order)

  pub back_open : take r (part ++ drop count order) ≡ take r part
  back_open = take-append-le r part (drop count order) (omega arith)
