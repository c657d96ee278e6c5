-- The record of a shelf's moments: the files as they were before each change, the latest first.
use Rattle.std.specs.Prelude.{ℕ, List, [], ◌∷◌, length, ◌≡◌, Option, Some, None, ◌==◌, if◌then◌else◌}
use Rattle.std.specs.Option.{IsSomeAnd}
use Rattle.shelf.specs.declared.past.Past.{Past, fold-Past}
use Rattle.shelf.specs.declared.past.Past.TheOpen.{Past-F}
use Rattle.shelf.specs.Disk.{Images}
use Rattle.shelf.specs.Stored.{Stored, images_in, AreSound}

abbrev pub behind : Option (List (List Stored)) → List (List Stored)
behind None = []
behind (Some earlier) = earlier

abbrev pub with_before : Past-F (List (List Stored)) → List (List Stored)
with_before past = past.files.value.items ∷ behind past.before.value

abbrev pub history : Past → List (List Stored)
history past = fold-Past (List (List Stored)) with_before past

abbrev pub past_of : Option Past → List (List Stored)
past_of None = []
past_of (Some past) = history past

-- the files at a moment, of all that there were, the latest first
abbrev pub files_at : List (List Stored) → ℕ → Option (List Stored)
files_at [] m = None
files_at (files ∷ earlier) m = if m == length earlier then Some files else files_at earlier m

-- what a crash may leave at each moment
abbrev pub images_at : List (List Stored) → Images
images_at told m n c = IsSomeAnd (files_at told m) (λ files. images_in files n c)

-- the files are sound at every moment
abbrev pub AllSound : List (List Stored) → Type 0
AllSound told = (m : ℕ) (files : List Stored) → files_at told m ≡ Some files → AreSound files
