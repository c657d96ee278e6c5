-- Trees of boxes over a scene's pieces, as lists of nodes in the order of a walk.
use Rattle.std.specs.Prelude.{ℕ, ◌≡◌, ◌≤◌, ◌<◌, ◌+◌, ◌-◌, ◌*◌, Bool, true, ◌&&◌, ◌⊎◌, Some, List, length, slice_get, nat_le, nat_lt}
use Rattle.std.specs.List.{list_any}
use Rattle.csg_hits.specs.Pieces.{Pieces}
use Rattle.box_probe.specs.declared.bounds.Bounds.{Bounds}
use Rattle.slab_tree.specs.declared.node.Node.{Node}
use Rattle.slab_tree.specs.Outlines.{IsHeld}

-- a place of the order is one of a node's own: of the four from its start on
abbrev pub is_own : Node → ℕ → Bool
is_own node place = nat_le node.start place && nat_lt place (node.start + 4)

-- a walk over an order of pieces: below a node stand those from it on and before the one to which a ray that misses it skips. Each place is some node's own, and a piece of a node isn't struck outside of the box of any node that it stands below
pub record IsTrack (s : Pieces) (order : List ℕ) (nodes : List Node) : Type 0 where
  pub onward : (i : ℕ) (node : Node) → slice_get nodes i ≡ Some node → i < node.skip
  pub all : (place : ℕ) → place < length order → list_any (λ node. is_own node place) nodes ≡ true
  pub held : (i k place piece : ℕ) (node below : Node) → slice_get nodes i ≡ Some node → slice_get nodes k ≡ Some below → i ≤ k → k < node.skip
      → is_own below place ≡ true → slice_get order place ≡ Some piece → IsHeld s piece node.bounds

-- ---- how a tree is made: leaves of four places each, halved again and again

-- the place behind the nodes of a run of leaves: as many as leaves, and one less for the halvings
abbrev pub behind : ℕ → ℕ → ℕ → ℕ
behind place first last = place + (2 * (last - first) - 1)

-- a box outside of which no piece of a run of leaves is struck
abbrev pub IsAround : Pieces → List ℕ → ℕ → ℕ → Bounds → Type 0
IsAround s order first last bounds = (p piece : ℕ) → 4 * first ≤ p → p < 4 * last → slice_get order p ≡ Some piece → IsHeld s piece bounds

-- the nodes from a place on are those of a run of leaves
pub record IsPlanted (s : Pieces) (order : List ℕ) (nodes : List Node) (place first last : ℕ) : Type 0 where
  pub onward : (i : ℕ) (node : Node) → place ≤ i → i < behind place first last → slice_get nodes i ≡ Some node → (i < node.skip) × (node.skip ≤ behind place first last)
  pub own : (i p : ℕ) (node : Node) → place ≤ i → i < behind place first last → slice_get nodes i ≡ Some node → is_own node p ≡ true → p < length order → (4 * first ≤ p) × (p < 4 * last)
  pub all : (p : ℕ) → 4 * first ≤ p → p < 4 * last → p < length order → (i : ℕ) × (node : Node) × (place ≤ i) × (i < behind place first last) × (slice_get nodes i ≡ Some node) × (is_own node p ≡ true)
  pub held : (i k p piece : ℕ) (node below : Node) → place ≤ i → i < behind place first last → slice_get nodes i ≡ Some node → slice_get nodes k ≡ Some below → i ≤ k → k < node.skip
      → is_own below p ≡ true → slice_get order p ≡ Some piece → IsHeld s piece node.bounds

-- two runs of leaves are the halves of one
pub record AreHalves (first last a b c d : ℕ) : Type 0 where
  pub one : (a < b) × (c < d)
  pub within : (first ≤ a) × (b ≤ last) × (first ≤ c) × (d ≤ last)
  pub sizes : (b - a) + (d - c) ≡ last - first
  pub each : (p : ℕ) → 4 * first ≤ p → p < 4 * last → ((4 * a ≤ p) × (p < 4 * b)) ⊎ ((4 * c ≤ p) × (p < 4 * d))
