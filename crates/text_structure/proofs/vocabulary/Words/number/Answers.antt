use Rattle.std.proofs.Common.{sym, ap, ◌∙◌, map}
use Rattle.text_structure.specs.Marks.{number_in, with_word}
use Rattle.text_structure.proofs.Vocabularies.{found_number, found_words, added_words, mapped_len}
use Rattle.text_structure.proofs.vocabulary.Words.number.Goals as goal

pub returns-in-Some-clause-number : goal.returns-in-Some-clause-number
returns-in-Some-clause-number c =
    found_number (λ k. k.items) c.args.word.now c.self.inside.set.keys _ (sym c.in-Some.ensures.index) ∙ ap (λ words. number_in words c.args.word.now) c.self.view_is

pub returns-in-Some-clause-words : goal.returns-in-Some-clause-words
returns-in-Some-clause-words c =
    sym (ap (λ words. with_word words c.args.word.now) (sym c.self.view_is) ∙ found_words (λ k. k.items) c.args.word.now c.self.inside.set.keys (sym c.in-Some.ensures.found) ∙ c.self.view_is)

pub returns-clause-number : goal.returns-clause-number
returns-clause-number c =
    c.in_ok-number.ensures.index ∙ mapped_len (λ k. k.items) c.in_ok-spelling.spelling.items c.self.inside.set.keys ∙ ap (number_in (map (λ k. k.items) c.self.inside.set.keys)) c.in_ok-spelling.ensures.items ∙ ap (λ words. number_in words c.args.word.now) c.self.view_is

pub returns-clause-words : goal.returns-clause-words
returns-clause-words c =
    ap (map (λ k. k.items)) c.in_ok-number.ensures.keys ∙ added_words (λ k. k.items) c.args.word.now c.in_ok-spelling.spelling c.self.inside.set.keys c.in_ok-spelling.ensures.items ∙ ap (λ words. with_word words c.args.word.now) c.self.view_is
