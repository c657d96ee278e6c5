-- The words of items. (Reference manual, scene description language)
use Rattle.std.specs.Prelude.{List, [], ◌∷◌, ℕ, if◌then◌else◌, Option, Some, None}
use Rattle.std.specs.Str.{bytes_eq}
use Rattle.item_blocks.specs.declared.words.TheConstants.{WORDS}
use Rattle.item_blocks.specs.declared.words.Word.{Word}

-- what the first entry of a table says that is spelled like the word
abbrev pub meaning_in : {E : Type 0} → (E → List ℕ) → (E → Word) → List ℕ → List E → Option Word
meaning_in spelling meaning word [] = None
meaning_in spelling meaning word (entry ∷ entries) =
    if bytes_eq word (spelling entry) then Some (meaning entry) else meaning_in spelling meaning word entries

-- what a word says in an item; none for each other word
unfoldable pub word_of : List ℕ → Option Word
word_of word = meaning_in (λ entry. entry.0.now) (λ entry. entry.1) word WORDS
