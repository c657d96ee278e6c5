-- The moments of a shelf. At each moment that is told, a crash may leave certain bytes under each name; a moment that isn't told has
-- no such bytes at all. So what is said 'at every moment' speaks of the told ones, and the present one is always among them.
use Rattle.std.specs.Prelude.{ℕ, ◌≤◌, ◌≡◌, ◌≢◌, ◌⊎◌, List}
use Rattle.shelf.specs.Disk.{Contents, Images}

-- ---- one call

-- Time goes on over a call. At a moment up to the call's start a crash leaves what it left before, and at a moment inside the call what it
-- may leave at its end. (A clock that stands at its end can't tell the two apart.)
pub record Passes (before now : ℕ) (old new : Images) : Type 0 where
  pub later : before ≤ now
  pub each : (m : ℕ) → m ≤ now → ((m ≤ before) × ((n c : List ℕ) → new m n c → old m n c)) ⊎ ((n c : List ℕ) → new m n c → new now n c)

-- ---- a run of calls

-- At every moment since 'before', P holds of each name and the bytes that a crash may leave under it, and what was told of earlier moments
-- stands or has P.
pub record Throughout (before now : ℕ) (old new : Images) (P : Contents) : Type 0 where
  pub later : before ≤ now
  pub past : (m : ℕ) → m ≤ before → ((n c : List ℕ) → new m n c → old m n c) ⊎ ((n c : List ℕ) → new m n c → P n c)
  pub each : (m : ℕ) (n c : List ℕ) → before ≤ m → m ≤ now → new m n c → P n c

-- at every moment since 'before' there is one stage, the same for all that a crash may leave then
pub record ByStages (before now : ℕ) (old new : Images) (P : ℕ → Contents) : Type 0 where
  pub later : before ≤ now
  pub past : (m : ℕ) → m ≤ before → ((n c : List ℕ) → new m n c → old m n c) ⊎ ((g : ℕ) × ((n c : List ℕ) → new m n c → P g n c))
  pub each : (m : ℕ) → before ≤ m → m ≤ now → (g : ℕ) × ((n c : List ℕ) → new m n c → P g n c)

-- P under one name, and under every other what was there before
pub record Under (name : List ℕ) (P : List ℕ → Type 0) (before : Contents) (n c : List ℕ) : Type 0 where
  pub own : n ≡ name → P c
  pub other : n ≢ name → before n c
