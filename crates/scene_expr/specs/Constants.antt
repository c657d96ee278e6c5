-- Words that stand for values. (Reference manual, built-in constants and identifiers)
use Rattle.std.specs.Prelude.{ℕ, ◌*◌, ℤ, pos}
use Rattle.scene_expr.specs.declared.value.Settings.{Settings}
use Rattle.scene_expr.specs.declared.value.Value.{Value}
use Rattle.scene_expr.specs.declared.words.Constant.{Constant}
use Rattle.scene_expr.specs.declared.words.Constant.TheVariants.{X, Y, Z, Pi, True, False, Clock, InitialClock, FinalClock, FrameNumber, InitialFrame, FinalFrame, ImageWidth, ImageHeight, Version}

-- a whole number as a value
abbrev pub whole : ℕ → Value
whole n = Value.Float (pos (n * 65536))

abbrev pub vector : ℤ → ℤ → ℤ → Value
vector x y z = Value.Vector (record { x = x; y = y; z = z })

-- pi and 3.7 are rounded to 16 fraction bits
abbrev pub constant : Constant → Settings → Value
constant X set = vector (pos 65536) (pos 0) (pos 0)
constant Y set = vector (pos 0) (pos 65536) (pos 0)
constant Z set = vector (pos 0) (pos 0) (pos 65536)
constant Pi set = Value.Float (pos 205887)
constant True set = whole 1
constant False set = whole 0
constant Clock set = Value.Float set.clock
constant InitialClock set = Value.Float set.initial_clock
constant FinalClock set = Value.Float set.final_clock
constant FrameNumber set = whole set.frame_number
constant InitialFrame set = whole set.initial_frame
constant FinalFrame set = whole set.final_frame
constant ImageWidth set = whole set.image_width
constant ImageHeight set = whole set.image_height
constant Version set = Value.Float (pos 242483)
