use Rattle.std.proofs.Common.{◌-◌, length, arith}
use Rattle.std.proofs.lemmas.Bool.Decides.{Decides-eqb}
use Rattle.std.proofs.lemmas.Slice.Eq.{slice_eq-Decides}
use Rattle.state_file.proofs.Drawing.{cut_agree}
use Rattle.state_file.proofs.look.agree.Goals as goal

pub returns : goal.returns
returns c = λ t k low high.
    cut_agree 1 (length c.args.a.now - 1) c.args.a.now c.args.b.now ((slice_eq-Decides Decides-eqb _ _ _ c.eq.ensures).0 t) k (omega arith) (omega arith)
