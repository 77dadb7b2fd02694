-- The members' vertices as they are handed in: they are all different, each has its member's cap and number, and the
-- shares read off there are the level split.
use Rattle.std.proofs.Common.{◌≡◌, ℕ, ◌<◌, true, false, List, [], length, get_or, sym, ap, ◌∙◌, subst, ⊎_elim, arith, ext_get_or}
use Rattle.basics.specs.Sum.{pick}
use Rattle.basics.proofs.Bools.{both, clash, pick_yes, pick_no}
use Rattle.basics.proofs.Sums.{In}
use Rattle.game.specs.Network.{Network, number}
use Rattle.game.specs.Tree.{of_arc}
use Rattle.game.specs.Inward.{amount_of}
use Rattle.game.specs.LevelKeys.{at_key}
use Rattle.game.proofs.LevelByKeys.{level_length}
use Rattle.game.proofs.Numbering.{member_at}
use Rattle.game.proofs.Overpayment.{number_lt}
use Rattle.tree.specs.Passes.{Sound, Listed, network_at}
use Rattle.tree.proofs.CapPass.{vertex_at, vertex_is, member_in}
use Rattle.tree.proofs.Vertices.{vertices_count}
use Rattle.key_passes.specs.Passes.{at, share_at, Apart, AtVertices}
use Rattle.key_search.specs.Shares.{level_at, Found}

module _ (parents vertices : List ℕ) (listed : Listed parents vertices) where
  abbrev net : Network
  net = network_at parents [] vertices

  vertex_in : (j : ℕ) → j < length vertices → In (length parents) (at vertices j)
  vertex_in = member_in net listed.are

  vertex_member : (j : ℕ) → j < length vertices → net.member (at vertices j) ≡ true
  vertex_member j h =
      ap net.member (vertex_is net listed.are j h) ∙ (vertex_at net listed.are j h).is_member

  vertex_number : (j : ℕ) → j < length vertices → number net (at vertices j) ≡ j
  vertex_number j h = ap (number net) (vertex_is net listed.are j h) ∙ (vertex_at net listed.are j h).numbered

  pub vertices_apart : Sound parents → Apart vertices
  vertices_apart sound =
      record {
        back = number net;
        is = vertex_number;
        few = λ j h. omega (arith, vertex_in j h, sound.few);
      }

  module _ (caps caps_at numbers_at : List ℕ) (placed : AtVertices vertices caps caps_at numbers_at) (v : ℕ)
      (i : In (length parents) v) where
    -- where a member stands in the list
    place : net.member v ≡ true → (number net v < length vertices) × (at vertices (number net v) ≡ v)
    place m = (
      omega (arith, number_lt net v i m, vertices_count parents vertices listed),
      ap (λ (l : List ℕ). at l (number net v)) listed.are ∙ member_at net.member (length parents) v i m,
    )

    pub cap_at : at caps_at v ≡ pick (net.member v) (get_or caps (number net v) 0)
    cap_at =
        ⊎_elim
        (λ (m : net.member v ≡ true).
        ap (at caps_at) (sym (place m).1) ∙ placed.cap _ (place m).0 ∙ sym (pick_yes _ m))
        (λ (m : net.member v ≡ false).
        placed.other v (λ j h e. clash (sym (ap net.member e) ∙ vertex_member j h) m) ∙ sym (pick_no _ m))
        (both (net.member v))

    pub number_at : net.member v ≡ true → at numbers_at v ≡ number net v
    number_at m = ap (at numbers_at) (sym (place m).1) ∙ placed.number _ (place m).0

  -- what the members have at the keys that were found is the level split
  pub shares_found : (caps bounds keys shares : List ℕ) → Found parents vertices caps bounds keys
      → length shares ≡ length vertices
      → ((j : ℕ) → j < length vertices → at shares j ≡ share_at (at caps j) j (at keys (at vertices j)))
      → shares ≡ level_at parents vertices caps bounds
  shares_found caps bounds keys shares found sized are =
      ext_get_or 0 shares (level_at parents vertices caps bounds)
      (sized ∙ vertices_count parents vertices listed ∙ sym (level_length net caps (amount_of net (of_arc bounds))))
      (λ j h.
      let within : j < length vertices = omega (arith, sized) in
      are j within
      ∙ subst
      (λ (i : ℕ). at_key caps (at keys (at vertices j)) i ≡ get_or (level_at parents vertices caps bounds) i 0)
      (vertex_number j within)
      (found.share (at vertices j) (vertex_in j within) (vertex_member j within)))
