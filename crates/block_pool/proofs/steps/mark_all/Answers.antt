use Rattle.std.proofs.Common.{◌≡◌, ◌↔◌, ℕ, arith, sym, subst, ◌∙◌, List, inl, inr, ⊎_elim, ◌⊎◌, ap, ◌<◌, length, refl}
use Rattle.std.specs.Prelude.{slice_index}
use native.Mathlib.Decide.{ℕ_discrete, dec_lt}
use mathlib.Core.Logic.{dite}
use Rattle.block_pool.specs.Counting.{times, mark_in}
use Rattle.block_pool.specs.Views.{list_of, words_known, MarksDrawn}
use Rattle.block_pool.proofs.Marking.{marking_twice, more_marked, committed_on, drawn_on}
use Rattle.block_pool.proofs.steps.mark_all.Goals as goal

pub loop-i-preserved : goal.loop-i-preserved
loop-i-preserved g c = record {
  same = (c.mark_open.ensures.same.0 ∙ c.loop-i.invariant.same.0, c.mark_open.ensures.same.1 ∙ c.loop-i.invariant.same.1, c.mark_open.ensures.same.2 ∙ c.loop-i.invariant.same.2);
  view = marking_twice _ _ _ c.loop-i.invariant.view c.mark_open.ensures.view;
  behind = λ k below inside. dite (ℕ_discrete k c.loop-i.i)
      (λ same. let Q : ℕ → Type 0 = λ j. g.P.Ordered.knows c.args.pen.now (slice_index c.args.todo.now j) ↔ (mark_in (words_known c.mark_open.new.place.me.0) j ≡ 1) in subst Q (sym same) c.mark_open.ensures.here)
      (λ apart. let e = c.mark_open.ensures.others k apart in let b = c.loop-i.invariant.behind k (omega arith) inside in (λ n. e ∙ b.0 n, λ m. b.1 (sym e ∙ m)));
  ahead = λ k from. c.mark_open.ensures.others k (λ e. omega arith) ∙ c.loop-i.invariant.ahead k (omega arith);
  drawn = more_marked (g.P.Ordered.knows c.args.pen.now) c.args.todo.now c.args.place.now.me.0 c.loop-i.place.me.0 c.mark_open.new.place.me.0 c.loop-i.invariant.view.drawn c.loop-i.invariant.drawn
      (let Q : List ℕ → Type 0 = λ xs. MarksDrawn (g.P.Ordered.knows c.args.pen.now) xs c.loop-i.place.me.0 c.mark_open.new.place.me.0 in subst Q (sym c.requires.list) c.mark_open.ensures.drawn);
  marked = λ k below inside known. dite (ℕ_discrete k c.loop-i.i)
      (λ same. let Q : ℕ → Type 0 = λ j. (0 < times j c.mark_open.new.place.me.0.marked) ⊎ (mark_in (words_known c.args.place.now.me.0) j ≡ 1) in
      subst Q (sym same) (⊎_elim inl (λ e. inr (sym (c.loop-i.invariant.ahead c.loop-i.i (omega arith)) ∙ e)) (c.mark_open.ensures.marked (subst (λ j. g.P.Ordered.knows c.args.pen.now (slice_index c.args.todo.now j)) same known))))
      (λ apart. ⊎_elim (λ m. inl (let grown = c.mark_open.ensures.drawn.grown k in omega arith)) inr (c.loop-i.invariant.marked k (omega arith) inside known));
}

pub mark_open-requires-clause-opened : goal.mark_open-requires-clause-opened
mark_open-requires-clause-opened g c known =
    let here = c.loop-i.place.me.0 in
    let more : (j : ℕ) → j < length (list_of c.args.shared.now.key) → mark_in (words_known c.args.place.now.me.0) j ≡ 1 → mark_in (words_known c.loop-i.place.me.0) j ≡ 1 = λ j below bit.
    dite (dec_lt j c.loop-i.i)
    (λ behind. (c.loop-i.invariant.behind j behind (omega arith)).0 (subst (λ (xs : List ℕ). g.P.Ordered.knows c.args.pen.now (slice_index xs j)) (sym c.requires.list) (c.requires.kept (slice_index (list_of c.args.shared.now.key) j) (inr (j, (below, refl), bit)))))
    (λ ahead. c.loop-i.invariant.ahead j (omega arith) ∙ bit) in
    ⊎_elim (λ was. inl (committed_on g.P.Ordered.knew c.args.shared.now.key c.args.place.now.me.0 here _ more was))
    (λ mine. inr (drawn_on c.args.shared.now.key c.args.place.now.me.0 here _ c.loop-i.invariant.view.drawn mine)) (c.requires.opened _ known)

pub mark_open-requires-clause-kept : goal.mark_open-requires-clause-kept
mark_open-requires-clause-kept g c bit =
    let was = sym (c.loop-i.invariant.ahead c.loop-i.i (omega arith)) ∙ bit in
    let inside : c.loop-i.i < length (list_of c.args.shared.now.key) = let l = ap (λ (xs : List ℕ). length xs) c.requires.list in omega arith in
    let same : slice_index (list_of c.args.shared.now.key) c.loop-i.i ≡ slice_index c.args.todo.now c.loop-i.i = ap (λ (xs : List ℕ). slice_index xs c.loop-i.i) (sym c.requires.list) in
    subst (g.P.Ordered.knows c.args.pen.now) same (c.requires.kept _ (inr (c.loop-i.i, (inside, refl), was)))
