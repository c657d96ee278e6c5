-- Word by word.
use Rattle.std.proofs.Common.{◌≡◌, ◌+◌, drop, map, string_bytes, Ok, Err, sym, ap, subst, ◌∙◌, arith}
use Rattle.options.specs.Outcomes.{◌>>=◌, Reads}
use Rattle.options.specs.Plans.{word_read, words_read}
use Rattle.options.proofs.Lists.{drop-map-item, drop-map-all}
use Rattle.options.proofs.WordLemmas.{stops, words-cons, words-none}
use Rattle.options.proofs.words.read_words.Goals as goal

pub returns-in-Err-clause-read : goal.returns-in-Err-clause-read
returns-in-Err-clause-read g c = λ h held.
    let rest = drop (c.loop-word.word-index + 1) (map string_bytes c.args.words.now) in
    let word = drop-map-item string_bytes c.args.words.now c.loop-word.word-index c.word-item.result c.loop-word-test.true c.word-item.is in
    let number = c.loop-word.number + 1 in
    let told = c.loop-word.invariant.held ∙ held in
    let read = subst (λ w. Reads (word_read h number w c.loop-word.draft) (Err c.in-Err.fault)) c.as_bytes.ensures.value (c.in-Err.ensures.read h told) in
    subst (λ m. Reads m (Err c.in-Err.fault)) (sym (c.loop-word.invariant.rest h held ∙ words-cons h number _ _ _ c.loop-word.draft word))
    (stops (word_read h number (string_bytes c.word-item.result) c.loop-word.draft) c.in-Err.fault (λ next. words_read h (number + 1) rest next) read)

pub loop-word-preserved : goal.loop-word-preserved
loop-word-preserved g c =
    record {
      counted = omega arith;
      sound = c.in-Ok.ensures.sound;
      held = c.in-Ok.ensures.held ∙ c.loop-word.invariant.held;
      later = omega (arith, c.loop-word.invariant.later, c.in-Ok.ensures.cause.later);
      rest = λ h held.
          let rest = drop (c.loop-word.word-index + 1) (map string_bytes c.args.words.now) in
          let word = drop-map-item string_bytes c.args.words.now c.loop-word.word-index c.word-item.result c.loop-word-test.true c.word-item.is in
          let number = c.loop-word.number + 1 in
          let read = subst (λ w. word_read h number w c.loop-word.draft ≡ Ok c.in-Ok.next) c.as_bytes.ensures.value (c.in-Ok.ensures.read h (c.loop-word.invariant.held ∙ held)) in
          c.loop-word.invariant.rest h held ∙ words-cons h number _ _ _ c.loop-word.draft word
          ∙ ap (λ m. m >>= λ next. words_read h (number + 1) rest next) read;
    }

pub returns-clause-read : goal.returns-clause-read
returns-clause-read g c = λ h held.
    c.loop-word.invariant.rest h held ∙ words-none h (c.loop-word.number + 1) _ c.loop-word.draft (drop-map-all string_bytes c.args.words.now c.loop-word.word-index c.loop-word-test.false)
