-- Each exit and each result of the levels is a case of its reading.
use Rattle.std.proofs.Common.{◌≡◌, ◌<◌, ◌+◌, ◌-◌, [], length, drop, suc, nat_eq, true, false, Some, None, Ok, Err, refl, sym, ap, ◌∙◌, subst, arith, rules}
use Rattle.std.proofs.lemmas.Result.{IfOk-weaker, IfErr-weaker}
use Rattle.scene_expr.specs.Calls.{called}
use Rattle.scene_expr.specs.Operators.{chosen}
use Rattle.scene_expr.specs.Colours.{grouped, with_channel}
use Rattle.scene_expr.specs.declared.heads.Head.{Head}
use Rattle.scene_expr.specs.Then.{IsThen}
use Rattle.scene_expr.specs.Grammar.{angle_arity, goes_on, inner, inner_of, made, tier_operator, IsRow, IsChannels}
use Rattle.scene_expr.specs.Grammar.Inner.{Choice, Sum}
use Rattle.scene_expr.specs.Heads.{sign_at, place_at, channel_at}
use Rattle.scene_expr.specs.Steps.{read}
use Rattle.scene_expr.proofs.Levels.{exit, choice_inside, sum_inside, factor_inside, too_deep, tiers_of, Behind, whole, behind_alone, right_fault, refused, took, head_within, operator_within, sign_within, unasked, asked, branched, longer, counted, row_least, row_most}
use Rattle.scene_expr.proofs.Needs.{later, text_needs, call_needs, commas_need, commas_later, comma_here, goes_comma}
use Rattle.scene_expr.proofs.reader.+levels.Goals as goal

pub marked_at-returns-in_err-next-clause-fault : goal.marked_at-returns-in_err-next-clause-fault
marked_at-returns-in_err-next-clause-fault t c =
    exit _ _ _ c.from_residual.ensures.1 (λ some. IsThen.fault _ (factor_inside c.args.tokens.now c.args.set.now c.args.depths _ _ (c.in_err-next.ensures.fault some)))

pub marked_at-returns-in_err-mark_in-clause-fault : goal.marked_at-returns-in_err-mark_in-clause-fault
marked_at-returns-in_err-mark_in-clause-fault t c =
    exit _ _ _ c.from_residual-in_err-mark_in.ensures.1 (λ some. IsThen.found _ _ (factor_inside c.args.tokens.now c.args.set.now c.args.depths _ _ c.in_ok-next.ensures.found) (sym (c.in_err-mark_in.ensures.fault c.in_ok-next.next)))

pub marked_at-returns-clause-found : goal.marked_at-returns-clause-found
marked_at-returns-clause-found t c =
    IsThen.found _ _ (factor_inside c.args.tokens.now c.args.set.now c.args.depths _ _ c.in_ok-next.ensures.found) (sym (c.in_ok-mark_in.ensures.ok c.in_ok-next.next))

pub bracketed-returns-in_err-inside-clause-fault : goal.bracketed-returns-in_err-inside-clause-fault
bracketed-returns-in_err-inside-clause-fault t c =
    exit _ _ _ c.from_residual.ensures.1 (λ some. IsThen.fault _ (choice_inside c.args.tokens.now c.args.set.now c.args.depths _ _ (c.in_err-inside.ensures.fault some)))

pub bracketed-returns-in_err-next-clause-fault : goal.bracketed-returns-in_err-next-clause-fault
bracketed-returns-in_err-next-clause-fault t c =
    exit _ _ _ c.from_residual-in_err-next.ensures.1 (λ some. IsThen.found _ _ (choice_inside c.args.tokens.now c.args.set.now c.args.depths _ _ c.in_ok-inside.ensures.found) (IsThen.fault _ c.in_err-next.ensures.value))

pub bracketed-returns-clause-found : goal.bracketed-returns-clause-found
bracketed-returns-clause-found t c =
    IsThen.found _ _ (choice_inside c.args.tokens.now c.args.set.now c.args.depths _ _ c.in_ok-inside.ensures.found) (IsThen.found _ _ c.in_ok-next.ensures.value refl)

pub branched-returns-in_err-end-clause-fault : goal.branched-returns-in_err-end-clause-fault
branched-returns-in_err-end-clause-fault t c =
    exit _ _ _ c.from_residual.ensures.1 (λ some. IsThen.fault _ (choice_inside c.args.tokens.now c.args.set.now c.args.depths _ _ (c.in_err-end.ensures.fault some)))

pub branched-returns-in_err-start-clause-fault : goal.branched-returns-in_err-start-clause-fault
branched-returns-in_err-start-clause-fault t c =
    exit _ _ _ c.from_residual-in_err-start.ensures.1 (λ some. IsThen.found _ _ (choice_inside c.args.tokens.now c.args.set.now c.args.depths _ _ c.in_ok-end.ensures.found) (IsThen.fault _ c.in_err-start.ensures.value))

pub branched-returns-in_err-next-clause-fault : goal.branched-returns-in_err-next-clause-fault
branched-returns-in_err-next-clause-fault t c =
    exit _ _ _ c.from_residual-in_err-next.ensures.1 (λ some. IsThen.found _ _ (choice_inside c.args.tokens.now c.args.set.now c.args.depths _ _ c.in_ok-end.ensures.found) (IsThen.found _ _ c.in_ok-start.ensures.value (IsThen.fault _ (choice_inside c.args.tokens.now c.args.set.now c.args.depths _ _ (c.in_err-next.ensures.fault some)))))

pub branched-returns-in_err-choose-clause-fault : goal.branched-returns-in_err-choose-clause-fault
branched-returns-in_err-choose-clause-fault t c =
    exit _ _ _ c.from_residual-in_err-choose.ensures.1 (λ some. IsThen.found _ _ (choice_inside c.args.tokens.now c.args.set.now c.args.depths _ _ c.in_ok-end.ensures.found) (IsThen.found _ _ c.in_ok-start.ensures.value (IsThen.found _ _ (choice_inside c.args.tokens.now c.args.set.now c.args.depths _ _ c.in_ok-next.ensures.found) (sym (c.in_err-choose.ensures.fault c.in_ok-next.next) ∙ ap (λ condition. made (chosen condition c.choice.new.value c.choice-2.new.value) (place_at c.args.tokens.now c.args.at) c.in_ok-next.next) c.take-condition.ensures.value))))

pub branched-returns-clause-found : goal.branched-returns-clause-found
branched-returns-clause-found t c =
    IsThen.found _ _ (choice_inside c.args.tokens.now c.args.set.now c.args.depths _ _ c.in_ok-end.ensures.found) (IsThen.found _ _ c.in_ok-start.ensures.value (IsThen.found _ _ (choice_inside c.args.tokens.now c.args.set.now c.args.depths _ _ c.in_ok-next.ensures.found) (sym (c.in_ok-choose.ensures.ok c.in_ok-next.next) ∙ ap (λ condition. made (chosen condition c.choice.new.value c.choice-2.new.value) (place_at c.args.tokens.now c.args.at) c.in_ok-next.next) c.take-condition.ensures.value)))

pub numbers-returns-in_err-end-clause-fault : goal.numbers-returns-in_err-end-clause-fault
numbers-returns-in_err-end-clause-fault t c =
    exit _ _ _ c.from_residual.ensures.1 (λ some. IsThen.fault _ (c.in_err-end.ensures.fault some))

pub numbers-returns-in_err-next-clause-fault : goal.numbers-returns-in_err-next-clause-fault
numbers-returns-in_err-next-clause-fault t c =
    exit _ _ _ c.from_residual-in_err-next.ensures.1 (λ some. IsThen.found _ _ c.in_ok-end.ensures.found (IsThen.fault _ c.in_err-next.ensures.value))

pub numbers-group_in-requires-clause-least : goal.numbers-group_in-requires-clause-least
numbers-group_in-requires-clause-least t c =
    rw c.as_slice.ensures (row_least c.args.tokens.now ((inner c.args.tokens.now c.args.set.now (suc c.args.depths)) Sum) angle_arity [] (c.args.at + 1) _ _ c.in_ok-end.ensures.found refl)

pub numbers-group_in-requires-clause-most : goal.numbers-group_in-requires-clause-most
numbers-group_in-requires-clause-most t c =
    rw c.as_slice.ensures (row_most c.args.tokens.now ((inner c.args.tokens.now c.args.set.now (suc c.args.depths)) Sum) angle_arity 5 [] (c.args.at + 1) _ _ refl (omega arith) c.in_ok-end.ensures.found refl)

pub numbers-returns-in_err-group_in-clause-fault : goal.numbers-returns-in_err-group_in-clause-fault
numbers-returns-in_err-group_in-clause-fault t c =
    exit _ _ _ c.from_residual-in_err-group_in.ensures.1 (λ some. IsThen.found _ _ c.in_ok-end.ensures.found (IsThen.found _ _ c.in_ok-next.ensures.value (sym (c.in_err-group_in.ensures.fault c.in_ok-next.next) ∙ ap (λ numbers. made (grouped numbers) (place_at c.args.tokens.now c.args.at) c.in_ok-next.next) c.as_slice.ensures)))

pub numbers-returns-clause-found : goal.numbers-returns-clause-found
numbers-returns-clause-found t c =
    IsThen.found _ _ c.in_ok-end.ensures.found (IsThen.found _ _ c.in_ok-next.ensures.value (sym (c.in_ok-group_in.ensures.ok c.in_ok-next.next) ∙ ap (λ numbers. made (grouped numbers) (place_at c.args.tokens.now c.args.at) c.in_ok-next.next) c.as_slice.ensures))

pub arguments-returns-in_err-start-clause-fault : goal.arguments-returns-in_err-start-clause-fault
arguments-returns-in_err-start-clause-fault t c =
    exit _ _ _ c.from_residual.ensures.1 (λ some. IsThen.fault _ c.in_err-start.ensures.value)

pub arguments-returns-in_err-end-clause-fault : goal.arguments-returns-in_err-end-clause-fault
arguments-returns-in_err-end-clause-fault t c =
    exit _ _ _ c.from_residual-in_err-end.ensures.1 (λ some. IsThen.found _ _ c.in_ok-start.ensures.value (IsThen.fault _ (subst (λ arity. IsRow c.args.tokens.now ((inner c.args.tokens.now c.args.set.now (suc c.args.depths)) Choice) arity [] c.in_ok-start.start (Err c.in_err-end.field-0.0)) c.arity.ensures (c.in_err-end.ensures.fault some))))

pub arguments-returns-in_err-next-clause-fault : goal.arguments-returns-in_err-next-clause-fault
arguments-returns-in_err-next-clause-fault t c =
    exit _ _ _ c.from_residual-in_err-next.ensures.1 (λ some. IsThen.found _ _ c.in_ok-start.ensures.value (IsThen.found _ _ (subst (λ arity. IsRow c.args.tokens.now ((inner c.args.tokens.now c.args.set.now (suc c.args.depths)) Choice) arity [] c.in_ok-start.start (Ok (record { values = c.row.new.values.items; next = c.in_ok-end.end }))) c.arity.ensures c.in_ok-end.ensures.found) (IsThen.fault _ c.in_err-next.ensures.value)))

pub arguments-returns-in_err-call_in-clause-fault : goal.arguments-returns-in_err-call_in-clause-fault
arguments-returns-in_err-call_in-clause-fault t c =
    exit _ _ _ c.from_residual-in_err-call_in.ensures.1 (λ some. IsThen.found _ _ c.in_ok-start.ensures.value (IsThen.found _ _ (subst (λ arity. IsRow c.args.tokens.now ((inner c.args.tokens.now c.args.set.now (suc c.args.depths)) Choice) arity [] c.in_ok-start.start (Ok (record { values = c.row.new.values.items; next = c.in_ok-end.end }))) c.arity.ensures c.in_ok-end.ensures.found) (IsThen.found _ _ c.in_ok-next.ensures.value (sym (c.in_err-call_in.ensures.fault some c.in_ok-next.next) ∙ ap (λ arguments. made (called c.args.call arguments) (place_at c.args.tokens.now c.args.at) c.in_ok-next.next) c.as_slice.ensures))))

pub arguments-returns-clause-found : goal.arguments-returns-clause-found
arguments-returns-clause-found t c =
    IsThen.found _ _ c.in_ok-start.ensures.value (IsThen.found _ _ (subst (λ arity. IsRow c.args.tokens.now ((inner c.args.tokens.now c.args.set.now (suc c.args.depths)) Choice) arity [] c.in_ok-start.start (Ok (record { values = c.row.new.values.items; next = c.in_ok-end.end }))) c.arity.ensures c.in_ok-end.ensures.found) (IsThen.found _ _ c.in_ok-next.ensures.value (sym (c.in_ok-call_in.ensures.ok c.in_ok-next.next) ∙ ap (λ arguments. made (called c.args.call arguments) (place_at c.args.tokens.now c.args.at) c.in_ok-next.next) c.as_slice.ensures)))

pub channels-returns-in_err-end-clause-fault : goal.channels-returns-in_err-end-clause-fault
channels-returns-in_err-end-clause-fault t c =
    let word : channel_at c.args.tokens.now c.numbers.next ≡ Some c.in-Some.channel = grind arith in
    exit _ _ _ c.from_residual.ensures.1 (λ some. c.numbers.invariant.0 _ (IsChannels.fault _ _ _ _ word (sum_inside _ _ _ _ _ (c.in_err-end.ensures.fault some))))

pub channels-returns-in-Err-clause-fault : goal.channels-returns-in-Err-clause-fault
channels-returns-in-Err-clause-fault t c =
    let word : channel_at c.args.tokens.now c.numbers.next ≡ Some c.in-Some.channel = grind arith in
    λ some. rw (c.at.ensures.value, c.place_at.ensures) (c.numbers.invariant.0 _ (IsChannels.refused _ _ _ _ _ word (sum_inside _ _ _ _ _ c.in_ok-end.ensures.found) (ap (with_channel c.numbers.colour c.in-Some.channel) (sym c.take.ensures.value) ∙ sym c.in-Err.ensures.value)))

pub channels-numbers-preserved : goal.channels-numbers-preserved
channels-numbers-preserved t c =
    let word : channel_at c.args.tokens.now c.numbers.next ≡ Some c.in-Some.channel = grind arith in
    ((λ r rest. c.numbers.invariant.0 r (IsChannels.further _ _ _ _ _ r word (sum_inside _ _ _ _ _ c.in_ok-end.ensures.found) (ap (with_channel c.numbers.colour c.in-Some.channel) (sym c.take.ensures.value) ∙ sym c.in-Ok.ensures.value) rest)), omega (arith, c.numbers.invariant.1, c.in_ok-end.ensures.within.0), c.in_ok-end.ensures.within.1)

pub channels-returns-clause-found : goal.channels-returns-clause-found
channels-returns-clause-found t c =
    let none : channel_at c.args.tokens.now c.numbers.next ≡ None = grind arith in
    c.numbers.invariant.0 _ (IsChannels.ends _ _ none)

pub factor-returns-in_err-end-clause-fault : goal.factor-returns-in_err-end-clause-fault
factor-returns-in_err-end-clause-fault t c =
    exit _ _ _ c.from_residual.ensures.1 (λ some. IsThen.fault _ (c.in_err-end.ensures.fault some))

pub factor-returns-clause-found : goal.factor-returns-clause-found
factor-returns-clause-found t c =
    IfOk-weaker c.dotted.result _ _ (λ found dots. IsThen.found _ _ c.in_ok-end.ensures.found dots) c.dotted.ensures.found

pub factor-returns-clause-fault : goal.factor-returns-clause-fault
factor-returns-clause-fault t c =
    IfErr-weaker c.dotted.result _ _ (λ f dots some. IsThen.found _ _ c.in_ok-end.ensures.found dots) c.dotted.ensures.fault

pub level-returns-in_err-next-clause-fault : goal.level-returns-in_err-next-clause-fault
level-returns-in_err-next-clause-fault t c =
    exit _ _ _ c.from_residual.ensures.1 (λ some. whole c.args.tokens.now c.args.set.now c.args.depths c.args.tiers 0 c.args.tiers c.args.at _ (omega arith) (IsThen.fault _ (c.in_err-next.ensures.fault some)))

pub level-operators-init : goal.level-operators-init
level-operators-init t c =
    let all : c.args.tiers - 0 ≡ c.args.tiers = omega arith in
    ((λ r rest. whole c.args.tokens.now c.args.set.now c.args.depths c.args.tiers 0 c.args.tiers c.args.at r (omega arith) (IsThen.found _ r c.in_ok-next.ensures.found (subst (λ m. Behind c.args.tokens.now (tiers_of c.args.tokens.now c.args.set.now c.args.depths) 0 m (read c.factor.new.value c.in_ok-next.next) r) all rest))), c.in_ok-next.ensures.within.0, c.in_ok-next.ensures.within.1, omega arith)

pub level-operators-preserved-in-None : goal.level-operators-preserved-in-None
level-operators-preserved-in-None t c =
    let none : tier_operator c.operators.tier (sign_at c.args.tokens.now c.operators.next) ≡ None = grind arith in
    let below : c.operators.tier < c.args.tiers = omega arith in
    ((λ r rest. c.operators.invariant.0 r (behind_alone c.args.tokens.now (tiers_of c.args.tokens.now c.args.set.now c.args.depths) c.operators.tier c.args.tiers _ r below none rest)), c.operators.invariant.1, c.operators.invariant.2, omega arith)

pub level-level-requires : goal.level-level-requires
level-level-requires t c =
    let sign : tier_operator c.operators.tier (sign_at c.args.tokens.now c.operators.next) ≡ Some c.in-Some.operator = grind arith in
    let below : c.operators.tier < c.args.tiers = omega arith in
    let four : c.operators.tier < 4 = omega (arith, c.requires.tiers) in
    let within = operator_within c.operators.tier _ c.args.tokens.now c.operators.next four sign in
    search rules

pub level-returns-in_err-end-in-Some-clause-fault : goal.level-returns-in_err-end-in-Some-clause-fault
level-returns-in_err-end-in-Some-clause-fault t c =
    let sign : tier_operator c.operators.tier (sign_at c.args.tokens.now c.operators.next) ≡ Some c.in-Some.operator = grind arith in
    let below : c.operators.tier < c.args.tiers = omega arith in
    exit _ _ _ c.from_residual-in_err-end-in-Some.ensures.1 (λ some. c.operators.invariant.0 _ (right_fault c.args.tokens.now (tiers_of c.args.tokens.now c.args.set.now c.args.depths) c.operators.tier c.args.tiers _ _ _ below sign (c.in_err-end-in-Some.ensures.fault some)))

pub level-returns-in_err-operate-in-Some-clause-fault : goal.level-returns-in_err-operate-in-Some-clause-fault
level-returns-in_err-operate-in-Some-clause-fault t c =
    let sign : tier_operator c.operators.tier (sign_at c.args.tokens.now c.operators.next) ≡ Some c.in-Some.operator = grind arith in
    let below : c.operators.tier < c.args.tiers = omega arith in
    exit _ _ _ c.from_residual-in_err-operate-in-Some.ensures.1 (λ some. c.operators.invariant.0 _ (refused c.args.tokens.now (tiers_of c.args.tokens.now c.args.set.now c.args.depths) c.operators.tier c.args.tiers _ _ _ _ below sign c.in_ok-end-in-Some.ensures.found (c.in_err-operate-in-Some.ensures.fault _)))

pub level-operators-preserved-in_ok-operate-in-Some : goal.level-operators-preserved-in_ok-operate-in-Some
level-operators-preserved-in_ok-operate-in-Some t c =
    let sign : tier_operator c.operators.tier (sign_at c.args.tokens.now c.operators.next) ≡ Some c.in-Some.operator = grind arith in
    let below : c.operators.tier < c.args.tiers = omega arith in
    ((λ r rest. c.operators.invariant.0 r (took c.args.tokens.now (tiers_of c.args.tokens.now c.args.set.now c.args.depths) c.operators.tier c.tier_behind-tier.result c.args.tiers _ _ _ _ r below c.tier_behind-tier.ensures sign c.in_ok-end-in-Some.ensures.found (c.in_ok-operate-in-Some.ensures.ok _) rest)), omega (arith, c.operators.invariant.1, c.in_ok-end-in-Some.ensures.within.0), c.in_ok-end-in-Some.ensures.within.1, grind arith)

pub level-operators-preserved : goal.level-operators-preserved
level-operators-preserved t c =
    let sign : tier_operator c.operators.tier (sign_at c.args.tokens.now c.operators.next) ≡ Some c.in-Some.operator = grind arith in
    let below : c.operators.tier < c.args.tiers = omega arith in
    ((λ r rest. c.operators.invariant.0 r (took c.args.tokens.now (tiers_of c.args.tokens.now c.args.set.now c.args.depths) c.operators.tier c.tier_behind-tier.result c.args.tiers _ _ _ _ r below c.tier_behind-tier.ensures sign c.in_ok-end-in-Some.ensures.found (c.in_ok-operate-in-Some.ensures.ok _) rest)), omega (arith, c.operators.invariant.1, c.in_ok-end-in-Some.ensures.within.0), c.in_ok-end-in-Some.ensures.within.1, grind arith)

pub choice-returns-in_err-asked-clause-fault : goal.choice-returns-in_err-asked-clause-fault
choice-returns-in_err-asked-clause-fault t c =
    exit _ _ _ c.from_residual.ensures.1 (λ some. IsThen.fault _ (c.in_err-asked.ensures.fault some))

pub choice-returns-then-sign_at-ne-QUESTION-clause-found : goal.choice-returns-then-sign_at-ne-QUESTION-clause-found
choice-returns-then-sign_at-ne-QUESTION-clause-found t c =
    let none : nat_eq (sign_at c.args.tokens.now c.in_ok-asked.asked) 63 ≡ false = grind arith in
    IsThen.found _ _ c.in_ok-asked.ensures.found (unasked c.args.tokens.now (nat_eq c.args.depths 0) (inner c.args.tokens.now c.args.set.now c.args.depths) (read c.level.new.value c.in_ok-asked.asked) none)

pub choice-returns-then-depths-eq0-clause-fault : goal.choice-returns-then-depths-eq0-clause-fault
choice-returns-then-depths-eq0-clause-fault t c =
    let sign : nat_eq (sign_at c.args.tokens.now c.in_ok-asked.asked) 63 ≡ true = grind arith in
    λ some. rw c.place_at.ensures (IsThen.found _ _ c.in_ok-asked.ensures.found (asked c.args.tokens.now (nat_eq c.args.depths 0) (inner c.args.tokens.now c.args.set.now c.args.depths) (read c.level.new.value c.in_ok-asked.asked) _ sign (too_deep c.args.tokens.now c.args.set.now c.args.depths _ _ (omega (arith, c.if-depths-eq0.true)))))

pub choice-branched-requires : goal.choice-branched-requires
choice-branched-requires t c =
    let sign : nat_eq (sign_at c.args.tokens.now c.in_ok-asked.asked) 63 ≡ true = grind arith in
    let some : 0 < sign_at c.args.tokens.now c.in_ok-asked.asked = grind arith in
    let within = sign_within c.args.tokens.now c.in_ok-asked.asked some in
    let left : 0 < c.args.depths = omega (arith, c.if-depths-eq0.false) in
    search rules

pub choice-returns-in_err-next-clause-fault : goal.choice-returns-in_err-next-clause-fault
choice-returns-in_err-next-clause-fault t c =
    let sign : nat_eq (sign_at c.args.tokens.now c.in_ok-asked.asked) 63 ≡ true = grind arith in
    let left : 0 < c.args.depths = omega (arith, c.if-depths-eq0.false) in
    exit _ _ _ c.from_residual-in_err-next.ensures.1 (λ some. IsThen.found _ _ c.in_ok-asked.ensures.found (asked c.args.tokens.now (nat_eq c.args.depths 0) (inner c.args.tokens.now c.args.set.now c.args.depths) (read c.level.new.value c.in_ok-asked.asked) _ sign (branched c.args.tokens.now c.args.set.now c.args.depths (place_at c.args.tokens.now c.in_ok-asked.asked) (read c.level.new.value c.in_ok-asked.asked) _ left (c.in_err-next.ensures.fault some))))

pub choice-returns-clause-found : goal.choice-returns-clause-found
choice-returns-clause-found t c =
    let sign : nat_eq (sign_at c.args.tokens.now c.in_ok-asked.asked) 63 ≡ true = grind arith in
    let left : 0 < c.args.depths = omega (arith, c.if-depths-eq0.false) in
    IsThen.found _ _ c.in_ok-asked.ensures.found (asked c.args.tokens.now (nat_eq c.args.depths 0) (inner c.args.tokens.now c.args.set.now c.args.depths) (read c.level.new.value c.in_ok-asked.asked) _ sign (branched c.args.tokens.now c.args.set.now c.args.depths (place_at c.args.tokens.now c.in_ok-asked.asked) (read c.level.new.value c.in_ok-asked.asked) _ left c.in_ok-next.ensures.found))

pub part-returns-in-Choice-clause-found : goal.part-returns-in-Choice-clause-found
part-returns-in-Choice-clause-found t c =
    rw c.in-Choice.is (IfOk-weaker c.choice.result _ _ (λ found is. choice_inside _ _ _ _ _ is) c.choice.ensures.found)

pub part-returns-in-Choice-clause-fault : goal.part-returns-in-Choice-clause-fault
part-returns-in-Choice-clause-fault t c =
    rw c.in-Choice.is (IfErr-weaker c.choice.result _ _ (λ f is some. choice_inside _ _ _ _ _ (is some)) c.choice.ensures.fault)

pub part-returns-in-Sum-clause-found : goal.part-returns-in-Sum-clause-found
part-returns-in-Sum-clause-found t c =
    rw c.in-Sum.is (IfOk-weaker c.level.result _ _ (λ found is. sum_inside _ _ _ _ _ is) c.level.ensures.found)

pub part-returns-in-Sum-clause-fault : goal.part-returns-in-Sum-clause-fault
part-returns-in-Sum-clause-fault t c =
    rw c.in-Sum.is (IfErr-weaker c.level.result _ _ (λ f is some. sum_inside _ _ _ _ _ (is some)) c.level.ensures.fault)

pub row-returns-in_err-end-clause-fault : goal.row-returns-in_err-end-clause-fault
row-returns-in_err-end-clause-fault t c =
    exit _ _ _ c.from_residual.ensures.1 (λ some. c.parts.invariant.0 _ (IsRow.fault _ _ _ (c.in_err-end.ensures.fault some)))

pub row-returns-in_err-goes_on-clause-fault : goal.row-returns-in_err-goes_on-clause-fault
row-returns-in_err-goes_on-clause-fault t c =
    let same : length c.as_slice-count.result.now ≡ length c.parts.values.items + 1 = ap length (c.as_slice-count.ensures ∙ c.in_ok-push.ensures.ok) ∙ longer c.parts.values.items c.part.new.value in
    let goes = counted c.args.arity (length c.as_slice-count.result.now) (length c.parts.values.items + 1) c.args.tokens.now c.in_ok-end.end (Err c.in_err-goes_on.field-0.0) same c.in_err-goes_on.ensures.value in
    exit _ _ _ c.from_residual-in_err-goes_on.ensures.1 (λ some. c.parts.invariant.0 _ (IsRow.wanting _ _ _ _ c.in_ok-end.ensures.found goes))

pub row-returns-then-not-branch-clause-found : goal.row-returns-then-not-branch-clause-found
row-returns-then-not-branch-clause-found t c =
    let ends : c.in_ok-goes_on.field-0 ≡ false = grind arith in
    let same : length c.as_slice-count.result.now ≡ length c.parts.values.items + 1 = ap length (c.as_slice-count.ensures ∙ c.in_ok-push.ensures.ok) ∙ longer c.parts.values.items c.part.new.value in
    let goes = counted c.args.arity (length c.as_slice-count.result.now) (length c.parts.values.items + 1) c.args.tokens.now c.in_ok-end.end (Ok false) same (subst (λ more. Ok more ≡ goes_on c.args.arity (length c.as_slice-count.result.now) c.args.tokens.now c.in_ok-end.end) ends c.in_ok-goes_on.ensures.value) in
    rw c.in_ok-push.ensures.ok (c.parts.invariant.0 _ (IsRow.last _ _ _ c.in_ok-end.ensures.found goes))

pub row-parts-preserved : goal.row-parts-preserved
row-parts-preserved t c =
    let more : c.in_ok-goes_on.field-0 ≡ true = grind arith in
    let same : length c.as_slice-count.result.now ≡ length c.parts.values.items + 1 = ap length (c.as_slice-count.ensures ∙ c.in_ok-push.ensures.ok) ∙ longer c.parts.values.items c.part.new.value in
    let goes = counted c.args.arity (length c.as_slice-count.result.now) (length c.parts.values.items + 1) c.args.tokens.now c.in_ok-end.end (Ok true) same (subst (λ more. Ok more ≡ goes_on c.args.arity (length c.as_slice-count.result.now) c.args.tokens.now c.in_ok-end.end) more c.in_ok-goes_on.ensures.value) in
    ((λ r rest. c.parts.invariant.0 r (IsRow.further _ _ _ r c.in_ok-end.ensures.found goes (subst (λ values. IsRow c.args.tokens.now (inner c.args.tokens.now c.args.set.now (suc c.args.depths) (inner_of c.args.level)) c.args.arity values (c.in_ok-end.end + 1) r) c.in_ok-push.ensures.ok rest))), omega (arith, c.parts.invariant.1, c.in_ok-end.ensures.within.0), omega (arith, c.in_ok-goes_on.ensures.within more), rw (c.in_ok-push.ensures.ok, longer c.parts.values.items c.part.new.value) (omega (arith, c.parts.invariant.3, commas_later c.args.tokens.now c.parts.next c.in_ok-end.end c.in_ok-end.ensures.within.0, comma_here c.args.tokens.now c.in_ok-end.end (goes_comma c.args.arity (length c.parts.values.items + 1) c.args.tokens.now c.in_ok-end.end goes))), c.in_ok-push.ensures.room)

pub marked_at-returns-in_err-next-clause-memory : goal.marked_at-returns-in_err-next-clause-memory
marked_at-returns-in_err-next-clause-memory t c =
    exit _ _ _ c.from_residual.ensures.1 (λ want. later c.args.tokens.now c.args.at (c.args.at + 1) (omega arith) (c.in_err-next.ensures.memory want))

pub marked_at-returns-in_err-mark_in-clause-memory : goal.marked_at-returns-in_err-mark_in-clause-memory
marked_at-returns-in_err-mark_in-clause-memory t c =
    exit _ _ _ c.from_residual-in_err-mark_in.ensures.1 (λ want. absurd (c.in_err-mark_in.ensures.memory want))

pub bracketed-returns-in_err-inside-clause-memory : goal.bracketed-returns-in_err-inside-clause-memory
bracketed-returns-in_err-inside-clause-memory t c =
    exit _ _ _ c.from_residual.ensures.1 (λ want. later c.args.tokens.now c.args.at (c.args.at + 1) (omega arith) (c.in_err-inside.ensures.memory want))

pub bracketed-returns-in_err-next-clause-memory : goal.bracketed-returns-in_err-next-clause-memory
bracketed-returns-in_err-next-clause-memory t c =
    exit _ _ _ c.from_residual-in_err-next.ensures.1 (λ want. absurd (c.in_err-next.ensures.memory want))

pub branched-returns-in_err-end-clause-memory : goal.branched-returns-in_err-end-clause-memory
branched-returns-in_err-end-clause-memory t c =
    exit _ _ _ c.from_residual.ensures.1 (λ want. later c.args.tokens.now c.args.at (c.args.at + 1) (omega arith) (c.in_err-end.ensures.memory want))

pub branched-returns-in_err-start-clause-memory : goal.branched-returns-in_err-start-clause-memory
branched-returns-in_err-start-clause-memory t c =
    exit _ _ _ c.from_residual-in_err-start.ensures.1 (λ want. absurd (c.in_err-start.ensures.memory want))

pub branched-returns-in_err-next-clause-memory : goal.branched-returns-in_err-next-clause-memory
branched-returns-in_err-next-clause-memory t c =
    exit _ _ _ c.from_residual-in_err-next.ensures.1 (λ want. later c.args.tokens.now c.args.at c.in_ok-start.start (omega (arith, c.in_ok-start.ensures.behind, c.in_ok-end.ensures.within.0)) (c.in_err-next.ensures.memory want))

pub branched-returns-in_err-choose-clause-memory : goal.branched-returns-in_err-choose-clause-memory
branched-returns-in_err-choose-clause-memory t c =
    exit _ _ _ c.from_residual-in_err-choose.ensures.1 (λ want. absurd (c.in_err-choose.ensures.memory want))

pub numbers-returns-in_err-end-clause-memory : goal.numbers-returns-in_err-end-clause-memory
numbers-returns-in_err-end-clause-memory t c =
    exit _ _ _ c.from_residual.ensures.1 (λ want. later c.args.tokens.now c.args.at (c.args.at + 1) (omega arith) (c.in_err-end.ensures.memory want))

pub numbers-returns-in_err-next-clause-memory : goal.numbers-returns-in_err-next-clause-memory
numbers-returns-in_err-next-clause-memory t c =
    exit _ _ _ c.from_residual-in_err-next.ensures.1 (λ want. absurd (c.in_err-next.ensures.memory want))

pub numbers-returns-in_err-group_in-clause-memory : goal.numbers-returns-in_err-group_in-clause-memory
numbers-returns-in_err-group_in-clause-memory t c =
    exit _ _ _ c.from_residual-in_err-group_in.ensures.1 (λ want. absurd (c.in_err-group_in.ensures.memory want))

pub arguments-returns-in_err-start-clause-memory : goal.arguments-returns-in_err-start-clause-memory
arguments-returns-in_err-start-clause-memory t c =
    exit _ _ _ c.from_residual.ensures.1 (λ want. absurd (c.in_err-start.ensures.memory want))

pub arguments-returns-in_err-end-clause-memory : goal.arguments-returns-in_err-end-clause-memory
arguments-returns-in_err-end-clause-memory t c =
    exit _ _ _ c.from_residual-in_err-end.ensures.1 (λ want. later c.args.tokens.now c.args.at c.in_ok-start.start (omega (arith, c.in_ok-start.ensures.behind)) (c.in_err-end.ensures.memory want))

pub arguments-returns-in_err-next-clause-memory : goal.arguments-returns-in_err-next-clause-memory
arguments-returns-in_err-next-clause-memory t c =
    exit _ _ _ c.from_residual-in_err-next.ensures.1 (λ want. absurd (c.in_err-next.ensures.memory want))

pub arguments-returns-in_err-call_in-clause-memory : goal.arguments-returns-in_err-call_in-clause-memory
arguments-returns-in_err-call_in-clause-memory t c =
    exit _ _ _ c.from_residual-in_err-call_in.ensures.1 (λ want. call_needs c.args.call c.args.tokens.now c.args.at c.requires.head (c.in_err-call_in.ensures.memory want))

pub channels-returns-in_err-end-clause-memory : goal.channels-returns-in_err-end-clause-memory
channels-returns-in_err-end-clause-memory t c =
    exit _ _ _ c.from_residual.ensures.1 (λ want. later c.args.tokens.now c.args.at (c.numbers.next + 1) (omega (arith, c.numbers.invariant.1)) (c.in_err-end.ensures.memory want))

pub channels-returns-in-Err-clause-memory : goal.channels-returns-in-Err-clause-memory
channels-returns-in-Err-clause-memory t c =
    λ want. absurd (c.in-Err.ensures.memory (c.at.ensures.memory want))

pub row-returns-in_err-end-clause-memory : goal.row-returns-in_err-end-clause-memory
row-returns-in_err-end-clause-memory t c =
    exit _ _ _ c.from_residual.ensures.1 (λ want. later c.args.tokens.now c.args.at c.parts.next c.parts.invariant.1 (c.in_err-end.ensures.memory want))

pub row-returns-in_err-push-clause-memory : goal.row-returns-in_err-push-clause-memory
row-returns-in_err-push-clause-memory t c =
    exit _ _ _ c.from_residual-in_err-push.ensures.1 (λ want. commas_need (drop c.args.at c.args.tokens.now) (omega (arith, c.in_err-push.ensures.memory, c.parts.invariant.3)))

pub row-returns-in_err-goes_on-clause-memory : goal.row-returns-in_err-goes_on-clause-memory
row-returns-in_err-goes_on-clause-memory t c =
    exit _ _ _ c.from_residual-in_err-goes_on.ensures.1 (λ want. absurd (c.in_err-goes_on.ensures.memory want))

pub bare-returns-in_err-literal-in-Text-clause-memory : goal.bare-returns-in_err-literal-in-Text-clause-memory
bare-returns-in_err-literal-in-Text-clause-memory t c =
    exit _ _ _ c.from_residual.ensures.1 (λ want. text_needs c.args.tokens.now c.args.at (sym c.head_at.ensures ∙ c.in-Text.is))

pub bare-opened-requires : goal.bare-opened-requires
bare-opened-requires t c =
    let head = sym c.head_at.ensures ∙ c.in-Opener.is in
    let inside = head_within (Head.Opener c.in-Opener.opener) c.args.tokens.now c.args.at head (λ e. cc e) in
    search rules

pub bare-returns-in-Number-clause-within : goal.bare-returns-in-Number-clause-within
bare-returns-in-Number-clause-within t c =
    let inside = head_within (Head.Number c.in-Number.number) c.args.tokens.now c.args.at (sym c.head_at.ensures ∙ c.in-Number.is) (λ e. cc e) in
    (omega arith, omega (arith, inside))

pub bare-returns-in_ok-literal-in-Text-clause-within : goal.bare-returns-in_ok-literal-in-Text-clause-within
bare-returns-in_ok-literal-in-Text-clause-within t c =
    let inside = head_within Head.Text c.args.tokens.now c.args.at (sym c.head_at.ensures ∙ c.in-Text.is) (λ e. cc e) in
    (omega arith, omega (arith, inside))

pub bare-returns-in-Constant-clause-within : goal.bare-returns-in-Constant-clause-within
bare-returns-in-Constant-clause-within t c =
    let inside = head_within (Head.Constant c.in-Constant.word) c.args.tokens.now c.args.at (sym c.head_at.ensures ∙ c.in-Constant.is) (λ e. cc e) in
    (omega arith, omega (arith, inside))

pub factor-returns-in_err-end-clause-memory : goal.factor-returns-in_err-end-clause-memory
factor-returns-in_err-end-clause-memory t c =
    exit _ _ _ c.from_residual.ensures.1 (λ want. c.in_err-end.ensures.memory want)

pub level-returns-in_err-next-clause-memory : goal.level-returns-in_err-next-clause-memory
level-returns-in_err-next-clause-memory t c =
    exit _ _ _ c.from_residual.ensures.1 (λ want. c.in_err-next.ensures.memory want)

pub level-returns-in_err-end-in-Some-clause-memory : goal.level-returns-in_err-end-in-Some-clause-memory
level-returns-in_err-end-in-Some-clause-memory t c =
    exit _ _ _ c.from_residual-in_err-end-in-Some.ensures.1 (λ want. later c.args.tokens.now c.args.at (c.operators.next + 1) (omega (arith, c.operators.invariant.1)) (c.in_err-end-in-Some.ensures.memory want))

pub level-returns-in_err-operate-in-Some-clause-memory : goal.level-returns-in_err-operate-in-Some-clause-memory
level-returns-in_err-operate-in-Some-clause-memory t c =
    exit _ _ _ c.from_residual-in_err-operate-in-Some.ensures.1 (λ want. absurd (c.in_err-operate-in-Some.ensures.memory want))

pub choice-returns-in_err-asked-clause-memory : goal.choice-returns-in_err-asked-clause-memory
choice-returns-in_err-asked-clause-memory t c =
    exit _ _ _ c.from_residual.ensures.1 (λ want. c.in_err-asked.ensures.memory want)

pub choice-returns-in_err-next-clause-memory : goal.choice-returns-in_err-next-clause-memory
choice-returns-in_err-next-clause-memory t c =
    exit _ _ _ c.from_residual-in_err-next.ensures.1 (λ want. later c.args.tokens.now c.args.at c.in_ok-asked.asked c.in_ok-asked.ensures.within.0 (c.in_err-next.ensures.memory want))
