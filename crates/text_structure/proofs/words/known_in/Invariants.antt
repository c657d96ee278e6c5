-- What the whole table says of the word, what is left of it says.
use Rattle.std.proofs.Common.{◌≡◌, drop}
use Rattle.text_structure.specs.Words.{known_in}
use Rattle.text_structure.proofs.words.known_in.Given as goal

abbrev pub invariant-loop-spelling : goal.invariant-loop-spelling
invariant-loop-spelling l =
    known_in (λ entry. entry.0.now) (λ entry. entry.1) l.word l.table
    ≡ known_in (λ entry. entry.0.now) (λ entry. entry.1) l.word (drop l.spelling-index l.table)
