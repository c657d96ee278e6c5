-- Blocks that are taken over from a file.
use Rattle.std.specs.Prelude.{ℕ, ◌+◌, ◌<◌, ◌≡◌, ◌≢◌, List, slice_index}
use Rattle.state_file.specs.declared.mark.Mark.{Mark}
use Rattle.state_file.specs.declared.mark.Mark.TheVariants.{Shut, Open}
use Rattle.state_file.specs.Layout.{Layout}
use Rattle.state_file.specs.Marks.{mark_at}

-- of the first so many blocks those whose gates stand open are open, and the picture has their pixels; all others are
-- shut and blank
pub record IsTaken (l : Layout) (image : List ℕ) (n : ℕ) (marks : List Mark) (picture : List ℕ) : Type 0 where
  pub opened : (b : ℕ) → b < n → slice_index image (l.gates + b) ≢ 0 → mark_at marks b ≡ Open
  pub shut : (b : ℕ) → (b < n → slice_index image (l.gates + b) ≡ 0) → mark_at marks b ≡ Shut
  pub shows : (b k : ℕ) → b < n → slice_index image (l.gates + b) ≢ 0 → k < l.size b
      → slice_index picture (l.spot b k) ≡ slice_index image (l.pixels b + k)
  pub blank : (b k : ℕ) → b < l.count → (b < n → slice_index image (l.gates + b) ≡ 0) → k < l.size b
      → slice_index picture (l.spot b k) ≡ 0
