use Rattle.std.proofs.Common.{◌≡◌, ℕ, ◌+◌, ◌/◌, List, [], ◌∷◌, ◌++◌, length, replicate, Some, arith, ap, sym, subst, ◌∙◌}
use Rattle.std.specs.Prelude.{Option}
use Rattle.atomic_table.specs.Table.{opening}
use Rattle.block_pool.specs.Rule.{IsFair, IsRuled, first_view, mark_words}
use Rattle.block_pool.specs.declared.view.Terms.{Terms}
use Rattle.block_pool.proofs.Ends.{opens}
use Rattle.block_pool.proofs.pool.Pool.start.Goals as goal

module _ {K P : Type 0} (in_order : P → K → Type 0) (knows : P → ℕ → Type 0) (is_tried : P → ℕ → Type 0) (was_block knew : K → ℕ → Type 0) where
  -- the words and the slot, as they were made
  made : (terms : Terms K) (words : List ℕ) (slots : List (Option P)) (pen : P) → slots ≡ Some pen ∷ []
      → IsRuled in_order knows is_tried was_block knew terms (opening words (Some pen ∷ []) (first_view terms)) → IsRuled in_order knows is_tried was_block knew terms (opening words slots (first_view terms))
  made terms words slots pen is h = let Q : List (Option P) → Type 0 = λ xs. IsRuled in_order knows is_tried was_block knew terms (opening words xs (first_view terms)) in subst Q (sym is) h

pub new-requires : goal.new-requires
new-requires g c =
    let w = c.in-Ok-vec.ensures.items_if_clones_equal (λ y e. e) in
    let o = c.of.ensures in
    let list : c.of.result.value.items ≡ c.args.todo.items = ap (λ v. v.items) o in
    let count : 2 + (length c.as_slice.result.now + 63) / 64 ≡ 2 + mark_words (length c.of.result.value.items) = ap (λ xs. 2 + mark_words (length xs)) (c.as_slice.ensures.value ∙ sym list) in
    let terms : Terms g.row.K.Denot = record { todo = c.of.result; callers = c.args.callers; start = c.args.start } in
    let words = c.as_slice-2.ensures.value ∙ (w ∙ ap (λ n. replicate n 0) count) in
    let slots = c.push_reserved.ensures.items ∙ ap (λ xs. xs ++ Some c.args.pen ∷ []) c.in-Ok-with_capacity.ensures.items in
    made g.P.Ordered.in_order g.P.Ordered.knows g.P.Ordered.is_tried g.P.Ordered.was_block g.P.Ordered.knew terms _ _ c.args.pen slots
    (opens g.P.Ordered.in_order g.P.Ordered.knows g.P.Ordered.is_tried g.P.Ordered.was_block g.P.Ordered.knew terms _ c.args.pen words
    (omega arith) (let n = ap (λ xs. length xs) list in let ok = c.args.todo.ok in let small = c.args.todo.small in omega arith)
    (let Q : List ℕ → Type 0 = λ xs. IsFair g.P.Ordered.was_block g.P.Ordered.knew xs c.args.start.value in subst Q (sym list) c.requires.fair)
    c.requires.order c.requires.same c.requires.untried)
