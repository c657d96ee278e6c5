use Rattle.std.proofs.Common.{◌≡◌, pos, refl}
use Rattle.fix_math.specs.Angles.{sine_term}
use Rattle.fix_math.proofs.SeriesLemmas.{alternating-seven, next-sine}
use Rattle.fix_math.proofs.angles.sine_series.Goals as goal

first : (c : goal.After-next_term-s6) → sine_term (pos c.args.x) 0 ≡ pos c.args.x
unfolding sine_term
first c = refl

pub returns-clause-value : goal.returns-clause-value
returns-clause-value c =
    let t0 : sine_term (pos c.args.x) 0 ≡ pos c.args.x = first c in
    let t1 = next-sine (pos c.args.x) 0 c.args.x c.next_term-s1.result c.args.y t0 c.requires.y_is c.next_term-s1.ensures.value in
    let t2 = next-sine (pos c.args.x) 1 c.next_term-s1.result c.next_term-s2.result c.args.y t1 c.requires.y_is c.next_term-s2.ensures.value in
    let t3 = next-sine (pos c.args.x) 2 c.next_term-s2.result c.next_term-s3.result c.args.y t2 c.requires.y_is c.next_term-s3.ensures.value in
    let t4 = next-sine (pos c.args.x) 3 c.next_term-s3.result c.next_term-s4.result c.args.y t3 c.requires.y_is c.next_term-s4.ensures.value in
    let t5 = next-sine (pos c.args.x) 4 c.next_term-s4.result c.next_term-s5.result c.args.y t4 c.requires.y_is c.next_term-s5.ensures.value in
    let t6 = next-sine (pos c.args.x) 5 c.next_term-s5.result c.next_term-s6.result c.args.y t5 c.requires.y_is c.next_term-s6.ensures.value in
    alternating-seven (sine_term (pos c.args.x)) c.args.x c.next_term-s1.result c.next_term-s2.result c.next_term-s3.result c.next_term-s4.result c.next_term-s5.result c.next_term-s6.result
    (record { first = t0; second = t1; third = t2; fourth = t3; fifth = t4; sixth = t5; seventh = t6 })
    c.next_term-s1.ensures.falls c.next_term-s3.ensures.falls c.next_term-s5.ensures.falls
