-- Scene texts by their names.
use Rattle.std.specs.Prelude.{ℕ, ◌+◌, ◌≤◌, ◌^◌, if◌then◌else◌, List, [], ◌∷◌, length, Option, Some, None}
use Rattle.std.specs.Str.{bytes_eq}
use Rattle.directive_machine.specs.declared.texts.Text.{Text}

-- the text that is held under a name
abbrev pub text_of : List Text → List ℕ → Option (List ℕ)
text_of [] name = None
text_of (text ∷ texts) name = if bytes_eq text.name name then Some text.bytes else text_of texts name

-- the text and its name, with eight bytes for their lengths, count at most 16 MiB
abbrev pub IsWithinLimit : List ℕ → List ℕ → Type 0
IsWithinLimit name text = length name + 8 + length text ≤ 2 ^ 24

-- a further text, in place of the one of the same name
abbrev pub with_text : List Text → List ℕ → List ℕ → List Text
with_text texts name bytes = record { name = name; bytes = bytes } ∷ texts
