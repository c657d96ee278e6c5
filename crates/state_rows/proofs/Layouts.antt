-- Blocks of a pen whose picture has these sides.
use Rattle.std.proofs.Common.{ℕ, ◌<◌, ◌≡◌, ◌∷◌, [], List, length, zero, suc, refl, sym, ◌∙◌, subst, arith, Some}
use Rattle.std.proofs.lemmas.Option.{slice_get_within}
use Rattle.state_file.specs.Blocks.{AreBlocks, IsAt}
use Rattle.state_file.specs.Shape.{blocks, block_bytes, layout_of}
use Rattle.state_file.specs.declared.block.DoneBlock.{DoneBlock}
use Rattle.state_file.specs.declared.geometry.Geometry.{Geometry}

pub few : (sides g : Geometry) (key : List ℕ) (n : ℕ) → sides ≡ g → n < blocks g → n < (layout_of sides key).count
unfolding layout_of
few sides g key n e lt = subst (λ x. n < blocks x) (sym e) lt

only : (block x : DoneBlock) (j : ℕ) → IsAt (block ∷ []) j x → (j ≡ 0) × (block ≡ x)
only block x zero e =
    let same : Some block ≡ Some x = e in
    (refl, cc)
only block x (suc j) e =
    let past : suc j < 1 = slice_get_within (block ∷ []) (suc j) x e in
    absurd (omega arith)

-- one block can be committed
pub one_block : (sides g : Geometry) (key : List ℕ) (block : DoneBlock) → sides ≡ g → block.index < blocks g
    → length block.pixels.items ≡ block_bytes g block.index → AreBlocks (layout_of sides key) (block ∷ [])
unfolding layout_of
one_block sides g key block e lt long = record {
  index = λ j x at. subst (λ (d : DoneBlock). d.index < blocks sides) (only block x j at).1 (subst (λ h. block.index < blocks h) (sym e) lt);
  size = λ j x at. subst (λ (d : DoneBlock). length d.pixels.items ≡ block_bytes sides d.index) (only block x j at).1
      (subst (λ h. length block.pixels.items ≡ block_bytes h block.index) (sym e) long);
  once = λ i j x y at there same. (only block x i at).0 ∙ sym (only block y j there).0;
}
