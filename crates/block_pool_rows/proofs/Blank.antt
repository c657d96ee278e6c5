-- A new pen for the black picture, and the blocks 3 and 7.
use Rattle.std.proofs.Common.{◌≡◌, ℕ, zero, suc, ◌<◌, List, [], ◌∷◌, length, ap, sym, subst, ◌∙◌, refl, arith}
use Rattle.std.specs.Prelude.{slice_index}
use Rattle.std.proofs.lemmas.List.{length-replicate}
use Rattle.shelf.specs.declared.disk.Shelf.{Ghosts}
use Rattle.state_file.specs.declared.pen.Pen.{Pen}
use Rattle.state_file.specs.declared.geometry.Geometry.{Geometry}
use Rattle.state_file.specs.Pens.{knows_open, layout_in}
use Rattle.state_file.specs.Shape.{blocks, picture_bytes, layout_of}
use Rattle.block_pool.specs.Starts.{AreLeft}
use Rattle.block_pool_rows.specs.Blanks.{blank_geometry, blank_picture}

pub eight : {S : Type 0} {g : Ghosts S} (pen : Pen S g) → pen.frame.geometry ≡ blank_geometry → (layout_in pen).count ≡ 8
unfolding layout_of
eight pen is = ap (λ (g : Geometry). blocks g) is

pub bytes : {S : Type 0} {g : Ghosts S} (pen : Pen S g) → pen.frame.geometry ≡ blank_geometry → length blank_picture ≡ (layout_in pen).picture
unfolding layout_of blank_picture
bytes pen is = length-replicate {A = ℕ} 24576 0 ∙ sym (ap (λ (g : Geometry). picture_bytes g) is)

apart : (i j : ℕ) → i < 2 → j < 2 → slice_index (3 ∷ 7 ∷ []) i ≡ slice_index (3 ∷ 7 ∷ []) j → i ≡ j
apart zero zero a b e = refl
apart zero (suc zero) a b e = absurd (let e' : 3 ≡ 7 = e in omega arith)
apart (suc zero) zero a b e = absurd (let e' : 7 ≡ 3 = e in omega arith)
apart (suc zero) (suc zero) a b e = refl
apart (suc (suc i)) j a b e = absurd (omega arith)
apart zero (suc (suc j)) a b e = absurd (omega arith)
apart (suc zero) (suc (suc j)) a b e = absurd (omega arith)

below : (i : ℕ) → i < 2 → slice_index (3 ∷ 7 ∷ []) i < 8
below zero a = omega arith
below (suc zero) a = omega arith
below (suc (suc i)) a = absurd (omega arith)

pub left : {S : Type 0} {g : Ghosts S} (pen : Pen S g) (list : List ℕ) → pen.frame.geometry ≡ blank_geometry → ((b : ℕ) → knows_open pen b → ⊥) → list ≡ 3 ∷ 7 ∷ [] → AreLeft pen list
left {S} {g} pen list is closed same = let Q : List ℕ → Type 0 = λ xs. AreLeft pen xs in subst Q (sym same) (record {
  apart = apart;
  blocks = λ i a. (let b = below i a in let e = eight pen is in omega arith);
  closed = λ i a. closed (slice_index (3 ∷ 7 ∷ []) i);
})
