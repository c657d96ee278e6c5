use Rattle.std.proofs.Common.{◌≡◌, ℕ, List, false, subst, sym, ap, refl, ◌∙◌}
use Rattle.state_file.specs.Pens.{BeginsInOrder}
use Rattle.state_file.specs.declared.pen.Pen.{Pen}
use Rattle.shelf.specs.declared.disk.Shelf.{Ghosts}
use Rattle.block_pool.specs.Starts.{IsPenInOrder}
use Rattle.block_pool.proofs.opening.Pool+Start+T+S+Pen+S.new.Goals as goal

-- a pen that hasn't failed is in order since now
begun : {S : Type 0} {g : Ghosts S} (drawn : List ℕ) (start pen : Pen S g) → BeginsInOrder pen → pen.failed ≡ false → start ≡ pen → IsPenInOrder drawn start pen
begun {S} {g} drawn start pen begins calm same = let Q : Pen S g → Type 0 = λ p. IsPenInOrder drawn p pen in
    subst Q (sym same) (record { frame = refl; order = λ truth p. begins truth calm p.known })

pub start-requires-clause-order : goal.start-requires-clause-order
start-requires-clause-order g c = begun _ _ _ c.failed-failed.ensures.begins c.requires.calm (ap (λ s. s.pen.value) c.of-3.ensures ∙ c.of-2.ensures)
