use Rattle.item_blocks.specs.OneBlock.{one_moved, one_finish, one_pigment, one_texture, one_interior, one_material, one_look}
use Rattle.item_blocks.proofs.law.one_outcome.Goals as goal

pub returns-clause-moved : goal.returns-clause-moved
returns-clause-moved c = λ tokens set. one_moved tokens set

pub returns-clause-finish : goal.returns-clause-finish
returns-clause-finish c = λ tokens set. one_finish tokens set

pub returns-clause-pigment : goal.returns-clause-pigment
returns-clause-pigment c = λ tokens set. one_pigment tokens set

pub returns-clause-texture : goal.returns-clause-texture
returns-clause-texture c = λ tokens set. one_texture tokens set

pub returns-clause-interior : goal.returns-clause-interior
returns-clause-interior c = λ tokens set. one_interior tokens set

pub returns-clause-material : goal.returns-clause-material
returns-clause-material c = λ tokens set. one_material tokens set

pub returns-clause-look : goal.returns-clause-look
returns-clause-look c = λ tokens set. one_look tokens set
