use Rattle.std.proofs.Common.{arith, w64, ℤ, Bool, FitsSigned, IsTrue, ◌≤ℤ◌, subst, sym}
use Rattle.std.proofs.lemmas.Bool.{false≢true}
use Rattle.std.proofs.lemmas.Int.{ints, to_z-of_z}
use Rattle.box_probe.specs.Probes.{fine}
use Rattle.slab_tree.proofs.walk.may_meet.Goals as goal

pub returns : goal.returns
returns c = λ missed t low high inside.
    let search = c.args.search.now in
    let ff : FitsSigned w64 c.fine-from.result = record { sfits = c.fine-from.type_inv } in
    let fe : FitsSigned w64 c.fine.result = record { sfits = c.fine.type_inv } in
    let meets = simp to_z-of_z at c.meets.ensures in
    let L : ℤ → Type 0 = λ z. z ≤ℤ fine t in
    let H : ℤ → Type 0 = λ z. fine t ≤ℤ z in
    let Q : Bool → Type 0 = λ b. IsTrue b in
    let from : c.fine-from.result ≤ℤ fine t = subst L (sym c.fine-from.ensures) (omega (arith, ints, c.min.ensures, search.positive, low)) in
    let to : fine t ≤ℤ c.fine.result = subst H (sym c.fine.ensures) (omega (arith, ints, high)) in
    false≢true (subst Q missed (meets search.path.ray t search.probed (omega (arith, high, search.path.near)) from to inside))
