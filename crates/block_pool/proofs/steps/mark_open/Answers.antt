use Rattle.std.proofs.Common.{◌≡◌, ℕ, ◌<◌, ◌/◌, ◌%◌, ◌^◌, true, false, length, arith, ap, sym, subst, ◌∙◌, refl, bit_or, List, inl, ⊎_elim}
use Rattle.std.specs.Int.{bit_at}
use Rattle.block_pool.specs.Counting.{times, mark_in}
use Rattle.block_pool.specs.Rule.{mark_words}
use Rattle.block_pool.specs.Views.{words_known, marked}
use Rattle.block_pool.specs.declared.view.View.{View}
use Rattle.block_pool.proofs.Pens.{mark_word}
use Rattle.block_pool.proofs.Marks.{OneMore, mark_same, mark_other}
use Rattle.block_pool.proofs.Marking.{more_known, clear_bit, at_place, one_marked, marked_here}
use Rattle.block_pool.proofs.steps.mark_open.Goals as goal

-- the marks of the view after its number was marked
one_more : {K : Type 0} (v w : View K) (i n : ℕ) → i < n → length v.known ≡ mark_words n → w ≡ marked v i (i / 64) (bit_or (words_known v (i / 64)) (2 ^ (i % 64))) → OneMore i (words_known v) (words_known w)
one_more {K} v w i n below all is = let Q : View K → Type 0 = λ u. OneMore i (words_known v) (words_known u) in subst Q (sym is) (more_known v i (let m = mark_word n i below in omega arith))

not_so : false ≡ true → ⊥
not_so e = cc

-- the view before the mark is that of the call
before : {K : Type 0} (v u w : View K) (i : ℕ) → u ≡ v → w ≡ marked u i (i / 64) (bit_or (words_known u (i / 64)) (2 ^ (i % 64))) → w ≡ marked v i (i / 64) (bit_or (words_known v (i / 64)) (2 ^ (i % 64)))
before v u w i same is = is ∙ ap (λ z. marked z i (i / 64) (bit_or (words_known z (i / 64)) (2 ^ (i % 64)))) same

pub returns-clause-here : goal.returns-clause-here
returns-clause-here g c =
    let same = ap (λ m. m.0) c.look-word.ensures.same.2 in
    let is = ap (λ m. m.0) c.mark.ensures.marked in
    let more = one_more c.args.place.now.me.0 c.mark.new.place.me.0 c.args.i _ c.requires.number.0 c.requires.known (before c.args.place.now.me.0 c.look-word.new.place.me.0 c.mark.new.place.me.0 c.args.i same is) in
    let word = c.look-word.ensures.value in
    let clear : mark_in (words_known c.args.place.now.me.0) c.args.i ≡ 0 = clear_bit (words_known c.args.place.now.me.0 (c.args.i / 64)) (c.args.i % 64) (λ e. not_so (c.if-is_marked.ensures.1 (ap (λ w. bit_at w (c.args.i % 64)) word ∙ e))) in
    (λ _. mark_same c.args.i _ _ more clear, λ _. c.if-not-is_open.ensures.0 refl)

pub returns-clause-others : goal.returns-clause-others
returns-clause-others g c k apart =
    let same = ap (λ m. m.0) c.look-word.ensures.same.2 in
    let is = ap (λ m. m.0) c.mark.ensures.marked in
    let more = one_more c.args.place.now.me.0 c.mark.new.place.me.0 c.args.i _ c.requires.number.0 c.requires.known (before c.args.place.now.me.0 c.look-word.new.place.me.0 c.mark.new.place.me.0 c.args.i same is) in
    mark_other c.args.i k _ _ more apart

pub returns-clause-drawn : goal.returns-clause-drawn
returns-clause-drawn g c =
    let same = ap (λ m. m.0) c.look-word.ensures.same.2 in
    let is = ap (λ m. m.0) c.mark.ensures.marked in
    let w = before c.args.place.now.me.0 c.look-word.new.place.me.0 c.mark.new.place.me.0 c.args.i same is in
    let known = c.if-not-is_open.ensures.0 refl in
    let word = c.look-word.ensures.value in
    let clear : mark_in (words_known c.args.place.now.me.0) c.args.i ≡ 1 → ⊥ = λ e. not_so (c.if-is_marked.ensures.1 (ap (λ w. bit_at w (c.args.i % 64)) word ∙ e)) in
    let mine : 0 < times c.args.i c.args.place.now.me.0.drawn = ⊎_elim (λ e. absurd (clear e)) (λ d. d)
    (at_place g.P.Ordered.was_block g.P.Ordered.knew c.args.shared.now.key c.args.place.now.me.0 c.args.block c.args.i c.look-word.ensures.fair c.requires.number (c.requires.opened known)) in
    one_marked (g.P.Ordered.knows c.args.pen.now) _ c.args.place.now.me.0 c.mark.new.place.me.0 c.args.i (ap (λ v. v.marked) w) c.requires.number.0
    (subst (g.P.Ordered.knows c.args.pen.now) (sym c.requires.number.1) known) mine

pub returns-clause-marked : goal.returns-clause-marked
returns-clause-marked g c known =
    let same = ap (λ m. m.0) c.look-word.ensures.same.2 in
    let is = ap (λ m. m.0) c.mark.ensures.marked in
    let w = before c.args.place.now.me.0 c.look-word.new.place.me.0 c.mark.new.place.me.0 c.args.i same is in
    let Q : List ℕ → Type 0 = λ xs. 0 < times c.args.i xs in
    inl (subst Q (sym (ap (λ v. v.marked) w)) (marked_here c.args.i c.args.place.now.me.0.marked))
