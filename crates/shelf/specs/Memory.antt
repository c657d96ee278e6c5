-- What a shelf in memory shows, and which of its calls fails.
use Rattle.std.specs.Prelude.{ℕ, ◌≡◌, List, ◌∷◌, length}
use Rattle.shelf.specs.declared.mem_shelf.MemShelf.{MemShelf}
use Rattle.shelf.specs.declared.turns.Turns.{Turns}
use Rattle.shelf.specs.Disk.{Contents, Images, Slots}
use Rattle.shelf.specs.Past.{images_at, past_of}
use Rattle.shelf.specs.Stored.{Stored, images_in, slots_in, texts_in}

abbrev pub files_of : MemShelf → List Stored
files_of shelf = shelf.files.items

-- what a read gives
abbrev pub held_by : MemShelf → Contents
held_by shelf = texts_in shelf.files.items

-- the files now and as they were at each moment since it was made, the latest first
abbrev pub told_by : MemShelf → List (List Stored)
told_by shelf = shelf.files.items ∷ past_of shelf.past

-- what a crash may leave at each moment
abbrev pub images_of : MemShelf → Images
images_of shelf = images_at (told_by shelf)

-- what a crash now may leave
abbrev pub left_by : MemShelf → Contents
left_by shelf = images_in shelf.files.items

-- the present moment: how many changes there were
abbrev pub moment_of : MemShelf → ℕ
moment_of shelf = length (past_of shelf.past)

-- the files that are held
abbrev pub slots_of : MemShelf → Slots
slots_of shelf = slots_in shelf.files.items

abbrev pub turns_of : MemShelf → Turns
turns_of shelf = shelf.turns

-- how often it has failed
abbrev pub failures_of : MemShelf → ℕ
failures_of shelf = shelf.turns.failures

-- no moment was added, and those before this one stand as they were
abbrev pub NoMoment : MemShelf → MemShelf → Type 0
NoMoment old new = past_of new.past ≡ past_of old.past

-- one moment was added, and those up to the old one stand as they were
abbrev pub OneMoment : MemShelf → MemShelf → Type 0
OneMoment old new = past_of new.past ≡ told_by old
