-- The longest piece is the word, whatever its length.
use Rattle.scene_lexer.proofs.FoundLemmas.{word_found, word_long, word-is, name-short, name-long}
use Rattle.scene_lexer.proofs.read.read_word.Goals as goal

pub returns-in-Some-clause-found : goal.returns-in-Some-clause-found
returns-in-Some-clause-found c =
    word_found c.args.place c.args.text.now c.word_length-length.result c.in-Some.name c.requires.letter c.word_length-length.ensures.length (name-short _ c.in-Some.ensures.0) c.in-Some.ensures.1

pub returns-in-None-clause-fault : goal.returns-in-None-clause-fault
returns-in-None-clause-fault c =
    word_long c.args.place c.args.text.now c.word_length-length.result c.requires.letter c.word_length-length.ensures.length (name-long _ (word-is c.args.text.now c.word_length-length.result c.requires.letter c.word_length-length.ensures.length) (λ h. c.in-None.ensures h))
