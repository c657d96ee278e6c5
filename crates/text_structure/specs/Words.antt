-- The words that the language keeps for itself.
use Rattle.std.specs.Prelude.{ℕ, List, [], ◌∷◌, if◌then◌else◌, Option, Some, None}
use Rattle.std.specs.Str.{bytes_eq}
use Rattle.text_structure.specs.declared.mark.Known.{Known}
use Rattle.text_structure.specs.declared.words.TheConstants.{KEPT}
use Rattle.scene_expr.specs.declared.words.WordClass.{WordClass}
use Rattle.scene_expr.specs.Words.{class_of}

-- what the first entry of a table is that is spelled like the word
abbrev pub known_in : {E : Type 0} → (E → List ℕ) → (E → Known) → List ℕ → List E → Option Known
known_in spelling known word [] = None
known_in spelling known word (entry ∷ entries) =
    if bytes_eq word (spelling entry) then Some (known entry) else known_in spelling known word entries

-- the words of directives, items, parameters and modifiers
unfoldable pub kept : List ℕ → Option Known
kept word = known_in (λ entry. entry.0.now) (λ entry. entry.1) word KEPT

-- the words of expressions
abbrev pub by_class : Option WordClass → Option Known
by_class None = None
by_class (Some WordClass.Colour) = Some Known.Colour
by_class (Some WordClass.Value) = Some Known.Other
by_class (Some WordClass.Call) = Some Known.Other

abbrev pub known_else : Option Known → Option WordClass → Option Known
known_else (Some known) class = Some known
known_else None class = by_class class

-- what the language keeps a word for; none where a scene may give it a meaning
abbrev pub known_of : List ℕ → Option Known
known_of word = known_else (kept word) (class_of word)
