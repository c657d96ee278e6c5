use Rattle.std.proofs.Common.{◌≡◌, pos, refl}
use Rattle.fix_math.specs.Angles.{cosine_term}
use Rattle.fix_math.proofs.SeriesLemmas.{alternating-seven, next-cosine}
use Rattle.fix_math.proofs.angles.cosine_series.Goals as goal

first : (c : goal.After-next_term-c6) → cosine_term (pos c.args.x) 0 ≡ pos 4294967296
unfolding cosine_term
first c = refl

pub returns-clause-value : goal.returns-clause-value
returns-clause-value c =
    let t0 : cosine_term (pos c.args.x) 0 ≡ pos 4294967296 = first c in
    let t1 = next-cosine (pos c.args.x) 0 4294967296 c.next_term-c1.result c.args.y t0 c.requires.y_is c.next_term-c1.ensures.value in
    let t2 = next-cosine (pos c.args.x) 1 c.next_term-c1.result c.next_term-c2.result c.args.y t1 c.requires.y_is c.next_term-c2.ensures.value in
    let t3 = next-cosine (pos c.args.x) 2 c.next_term-c2.result c.next_term-c3.result c.args.y t2 c.requires.y_is c.next_term-c3.ensures.value in
    let t4 = next-cosine (pos c.args.x) 3 c.next_term-c3.result c.next_term-c4.result c.args.y t3 c.requires.y_is c.next_term-c4.ensures.value in
    let t5 = next-cosine (pos c.args.x) 4 c.next_term-c4.result c.next_term-c5.result c.args.y t4 c.requires.y_is c.next_term-c5.ensures.value in
    let t6 = next-cosine (pos c.args.x) 5 c.next_term-c5.result c.next_term-c6.result c.args.y t5 c.requires.y_is c.next_term-c6.ensures.value in
    alternating-seven (cosine_term (pos c.args.x)) 4294967296 c.next_term-c1.result c.next_term-c2.result c.next_term-c3.result c.next_term-c4.result c.next_term-c5.result c.next_term-c6.result
    (record { first = t0; second = t1; third = t2; fourth = t3; fifth = t4; sixth = t5; seventh = t6 })
    c.next_term-c1.ensures.falls c.next_term-c3.ensures.falls c.next_term-c5.ensures.falls
