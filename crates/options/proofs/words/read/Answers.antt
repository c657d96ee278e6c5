-- All words, and then what is left to see.
use Rattle.std.proofs.Common.{map, string_bytes, Err, sym, subst, arith}
use Rattle.std.proofs.lemmas.List.{length-map}
use Rattle.options.specs.Drafts.{first_draft}
use Rattle.options.specs.Outcomes.{Reads}
use Rattle.options.specs.Plans.{words_read, completed}
use Rattle.options.proofs.Lists.{length-map-le}
use Rattle.options.proofs.WordLemmas.{stops, goes, plan-many, plan-few}
use Rattle.options.proofs.words.read.Goals as goal

pub returns-then-words-gt-MOST_WORDS-clause-read : goal.returns-then-words-gt-MOST_WORDS-clause-read
returns-then-words-gt-MOST_WORDS-clause-read g c = λ h held. plan-many h (map string_bytes c.args.words.now) (simp length-map (omega arith))

pub returns-in-Ok-clause-read : goal.returns-in-Ok-clause-read
returns-in-Ok-clause-read g c = λ h held.
    let words = map string_bytes c.args.words.now in
    subst (λ m. Reads m c.complete.result) (sym (plan-few h words (length-map-le string_bytes c.args.words.now 65536 (omega arith))))
    (goes (words_read h 1 words first_draft) c.in-Ok.draft completed c.complete.result (c.in-Ok.ensures.read h held) c.complete.ensures.value)

pub returns-in-Err-clause-read : goal.returns-in-Err-clause-read
returns-in-Err-clause-read g c = λ h held.
    let words = map string_bytes c.args.words.now in
    subst (λ m. Reads m (Err c.in-Err.fault)) (sym (plan-few h words (length-map-le string_bytes c.args.words.now 65536 (omega arith))))
    (stops (words_read h 1 words first_draft) c.in-Err.fault completed (c.in-Err.ensures.read h held))
