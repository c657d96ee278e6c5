-- The frames of a run: what each tells its scene, and its names. (Reference manual, animation options)
use Rattle.std.specs.Prelude.{ℕ, ◌+◌, ◌-◌, ◌≤◌, ◌==◌, if◌then◌else◌, List, ◌++◌, length, replicate, codes, ℤ, pos, ◌+ℤ◌, ◌-ℤ◌, ◌*ℤ◌}
use Rattle.std.specs.Fmt.{decimal}
use Rattle.fix_math.specs.Numbers.{rnd}
use Rattle.scene_expr.specs.declared.value.Settings.{Settings}
use Rattle.options.specs.declared.plan.Plan.{Plan}
use Rattle.options.specs.Names.{stem_of, extension_of}

-- a frame that is rendered
abbrev pub IsFrame : Plan → ℕ → Type 0
IsFrame plan frame = (plan.from ≤ frame) × (frame ≤ plan.to)

-- the steps from the first frame to the last, and one more to the frame behind it where the film begins anew there
abbrev pub steps_of : Plan → ℕ
steps_of plan = plan.last - plan.first + (if plan.cyclic then 1 else 0)

-- the clock after so many steps of all that lead from one clock to another, rounded once
abbrev pub clock_at : ℤ → ℤ → ℕ → ℕ → ℤ
clock_at initial final step steps =
    if steps == 0 then initial else initial +ℤ rnd ((final -ℤ initial) *ℤ pos step) (pos steps)

abbrev pub clock_of : Plan → ℕ → ℤ
clock_of plan frame =
    if plan.animated then clock_at plan.initial_clock plan.final_clock (frame - plan.first) (steps_of plan) else plan.clock

-- what a frame tells the expressions of its scene
abbrev pub settings_of : Plan → ℕ → Settings
settings_of plan frame = record {
  clock = clock_of plan frame;
  initial_clock = plan.initial_clock;
  final_clock = plan.final_clock;
  frame_number = frame;
  initial_frame = plan.first;
  final_frame = plan.last;
  image_width = plan.width;
  image_height = plan.height;
}

-- a frame's number, with zeros before it up to as many digits as the last frame's has
abbrev pub padded : ℕ → ℕ → List ℕ
padded last frame = replicate (length (decimal last) - length (decimal frame)) 48 ++ decimal frame

-- the name of a frame's picture: in an animation its number stands before the extension
abbrev pub picture_name : Plan → ℕ → List ℕ
picture_name plan frame =
    if plan.animated
    then stem_of plan.output ++ (padded plan.last frame ++ extension_of plan.output)
    else plan.output

-- the name of a frame's state file
abbrev pub state_name : Plan → ℕ → List ℕ
state_name plan frame = picture_name plan frame ++ codes ".pov-state"
