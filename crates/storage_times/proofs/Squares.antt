-- The blocks of a square picture.
use Rattle.std.proofs.Common.{ℕ, ◌+◌, ◌-◌, ◌*◌, ◌/◌, ◌%◌, ◌<◌, ◌≤◌, ◌≡◌, ◌++◌, ◌∷◌, [], List, length, min, refl, sym, ◌∙◌, ap, subst, arith, slice_get, Some, length-append}
use Rattle.std.proofs.lemmas.Option.{slice_get_within}
use Rattle.shelf.proofs.ShelfLemmas.{slice_get-push_new, slice_get-push_other}
use Rattle.state_file.proofs.Products.{band, column}
use Rattle.state_file.specs.Blocks.{AreBlocks, IsAt}
use Rattle.state_file.specs.Shape.{blocks, bands, columns, block_bytes, block_width, block_height, layout_of}
use Rattle.state_file.specs.declared.block.DoneBlock.{DoneBlock}
use Rattle.state_file.specs.declared.geometry.Geometry.{Geometry}
use Rattle.storage_times.specs.Squares.{AreNumbered, IsSquare}
use native.Mathlib.Decide.{ℕ_discrete}
use mathlib.Core.Logic.{dite}

whole : (s w : ℕ) → w ≡ 32 * s → (w + 31) / 32 ≡ s
whole s w e = omega arith

full : (m s w : ℕ) → w ≡ 32 * s → 32 * m < w → min 32 (w - 32 * m) ≡ 32
full m s w e lt = omega arith

-- a square picture has so many blocks
count : (s : ℕ) (g : Geometry) → IsSquare s g → blocks g ≡ s * s
count s g q = ap (λ n. n * bands g) (whole s g.width q.wide) ∙ ap (λ n. s * n) (whole s g.height q.high)

-- and each of them is whole
bytes : (s : ℕ) (g : Geometry) → IsSquare s g → (b : ℕ) → b < blocks g → block_bytes g b ≡ 3072
bytes s g q b lt =
    let wide : (g.width + 31) / 32 ≡ s = whole s g.width q.wide in
    let one : 1 ≤ s = q.some in
    let some : 0 < columns g = omega arith in
    let x : 32 * (b % columns g) < g.width = column b (columns g) g.width some refl in
    let y : 32 * (b / columns g) < g.height = band b (columns g) (bands g) g.height some lt refl in
    ap (λ n. 3 * (n / 8) * block_width g b * block_height g b) q.bits
    ∙ (ap (λ n. 3 * n * block_height g b) (full (b % columns g) s g.width q.wide x)
    ∙ ap (λ n. 3 * 32 * n) (full (b / columns g) s g.height q.high y))

-- blocks that stand in their order can be committed
pub are_blocks : (s : ℕ) (g : Geometry) (key : List ℕ) (list : List DoneBlock) → IsSquare s g → AreNumbered (s * s) list
    → AreBlocks (layout_of g key) list
unfolding layout_of
are_blocks s g key list q n =
    let below : (j : ℕ) (block : DoneBlock) → IsAt list j block → block.index < blocks g =
    λ j block at. subst (λ k. block.index < k) (sym (count s g q)) (subst (λ k. block.index < k) n.count
    (subst (λ k. k < length list) (sym (n.each j block at).0) (slice_get_within list j block at))) in
    record {
      index = below;
      size = λ j block at. (n.each j block at).1 ∙ sym (bytes s g q block.index (below j block at));
      once = λ i j x y at there e. sym (n.each i x at).0 ∙ (e ∙ (n.each j y there).0);
    }

-- one block more
pub one_more : (n : ℕ) (list : List DoneBlock) (block : DoneBlock) → AreNumbered n list → block.index ≡ n
    → length block.pixels.items ≡ 3072 → (more : List DoneBlock) → more ≡ list ++ block ∷ [] → AreNumbered (n + 1) more
one_more n list block a index long more is = record {
  count = ap (λ xs. length xs) is ∙ (length-append list (block ∷ []) ∙ ap (λ k. k + 1) a.count);
  each = λ j x at.
      let at' : slice_get (list ++ block ∷ []) j ≡ Some x = subst (λ xs. slice_get xs j ≡ Some x) is at in
      let P : DoneBlock → Type 0 = λ d. (d.index ≡ j) × (length d.pixels.items ≡ 3072) in
      dite (ℕ_discrete j (length list))
      (λ here.
      let new : Some block ≡ Some x = sym (slice_get-push_new list block) ∙ subst (λ k. slice_get (list ++ block ∷ []) k ≡ Some x) here at' in
      let same : block ≡ x = cc in
      subst P same (index ∙ (sym a.count ∙ sym here), long))
      (λ apart. a.each j x (sym (slice_get-push_other list block j apart) ∙ at'));
}
