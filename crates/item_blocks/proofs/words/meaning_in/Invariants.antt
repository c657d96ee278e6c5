-- What the whole table says of the word, what is left of it says.
use Rattle.std.proofs.Common.{◌≡◌, drop}
use Rattle.item_blocks.specs.Words.{meaning_in}
use Rattle.item_blocks.proofs.words.meaning_in.Given as goal

abbrev pub invariant-loop-spelling : goal.invariant-loop-spelling
invariant-loop-spelling l =
    meaning_in (λ entry. entry.0.now) (λ entry. entry.1) l.word l.table
    ≡ meaning_in (λ entry. entry.0.now) (λ entry. entry.1) l.word (drop l.spelling-index l.table)
