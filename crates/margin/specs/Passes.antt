-- What the passes for the widest margin ask of their lists.
use Rattle.std.specs.Prelude.{ℕ, ◌≡◌, List, length}
use Rattle.basics.specs.Sum.{list}
use Rattle.game.specs.Network.{need}
use Rattle.game.specs.ByArc.{user_count}
use Rattle.tree.specs.Passes.{Sound, Costed, Listed, network_at}

-- the needs and the numbers of users of all arcs
pub record Measured (parents costs vertices needs counts : List ℕ) : Type 0 where
  pub needs_are : needs ≡ list (length parents) (need (network_at parents costs vertices))
  pub counts_are : counts ≡ list (length parents) (user_count (network_at parents costs vertices))

-- all that the pass over the arcs is given
pub record Given (parents costs vertices needs counts : List ℕ) : Type 0 where
  pub sound : Sound parents
  pub costed : Costed parents costs
  pub listed : Listed parents vertices
  pub measured : Measured parents costs vertices needs counts
