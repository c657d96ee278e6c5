-- What a frame asks for and means, and what the frames of a run leave in the storage.
use Rattle.std.specs.Prelude.{ℕ, zero, suc, ◌+◌, ◌-◌, ◌==◌, ◌≤◌, ◌≡◌, ◌≢◌, Bool, false, not, if◌then◌else◌, List, [], ◌∷◌, length, Option, None, Some, Result, Ok, Err}
use Rattle.shelf.specs.Disk.{Contents}
use Rattle.image_out.specs.declared.picture.Sort.{Sort}
use Rattle.image_out.specs.Files.{file_of}
use Rattle.scene_expr.specs.declared.value.Settings.{Settings}
use Rattle.scene_model.specs.declared.scene.Scene.{Scene}
use Rattle.scene_parser.specs.Seen.{SceneView, scene_seen}
use Rattle.finish_shade.specs.Alike.{solids_of}
use Rattle.frame_trace.specs.declared.format.Antialias.{Antialias as Smoothing}
use Rattle.frame_trace.specs.declared.format.Format.{Format}
use Rattle.frame_trace.specs.Pictures.{View, IsPicture}
use Rattle.directive_machine.specs.declared.texts.Text.{Text}
use Rattle.directive_machine.specs.Course.{Given, Halted, given}
use Rattle.directive_machine.specs.Expansions.{Handed, ComesTo, StopsAt}
use Rattle.options.specs.declared.plan.Antialias.{Antialias}
use Rattle.options.specs.declared.plan.Plan.{Plan}
use Rattle.options.specs.declared.fault.OptionFault.{OptionFault as Refusal}
use Rattle.options.specs.Frames.{picture_name, settings_of}
use Rattle.options.specs.Generated.{generated_text}
use Rattle.povfix.specs.declared.outcome.Fault.{Fault}
use Rattle.povfix.specs.declared.outcome.Fault.TheVariants.{Done, ShelfFault, MessageFault, NoMemory}
use Rattle.povfix.specs.Scenes.{IsRead}

-- ---- one frame

-- the name of its scene text, the balls of a generated one, where includes are searched for, the name of its picture file,
-- the picture's sides, its sort and the bits of a sample, how pixels are looked at again, and what it tells its expressions
pub record Frame : Type 0 where
  pub input : List ℕ
  pub generate : ℕ
  pub libraries : List (List ℕ)
  pub output : List ℕ
  pub width : ℕ
  pub height : ℕ
  pub sort : Sort
  pub bits : ℕ
  pub antialias : Option Antialias
  pub settings : Settings

-- a text of so many balls that is generated in place of one that is read
abbrev pub generated_for : ℕ → Option (List ℕ)
generated_for balls = if balls == 0 then None else Some (generated_text balls)

-- what the directives of its scene are carried out over
abbrev pub given_for : Frame → List Text → Given
given_for frame texts = given frame.settings frame.libraries texts

-- its directives are carried out, and leave these tokens and messages, over texts of these names
abbrev pub IsExpanded : Frame → List Text → Handed → Type 0
IsExpanded frame texts found = ComesTo (given_for frame texts) frame.input (generated_for frame.generate) found

-- its directives stop here
abbrev pub IsStopped : Frame → List Text → Halted → Type 0
IsStopped frame texts halted = StopsAt (given_for frame texts) frame.input (generated_for frame.generate) halted

-- the texts mean this scene
pub record IsMeant (frame : Frame) (texts : List Text) (scene : SceneView) : Type 0 where
  pub found : Handed
  pub expanded : IsExpanded frame texts found
  pub read : IsRead found.tokens frame.settings (Ok scene)

abbrev pub smoothing : Option Antialias → Option Smoothing
smoothing None = None
smoothing (Some antialias) = Some (record { threshold = antialias.threshold; depth = antialias.depth })

abbrev pub format_of : ℕ → ℕ → ℕ → Option Antialias → Format
format_of width height bits antialias = record { width = width; height = height; bits = bits; antialias = smoothing antialias }

-- what the picture of a scene is drawn of, and in what format: a scene that is drawn has solids alone
abbrev pub sight_of : Scene → Format → View
sight_of scene format = record { surfaces = solids_of scene; scene = scene; format = format }

-- the picture of a scene that is seen so
pub record Shows (frame : Frame) (seen : SceneView) (picture : List ℕ) : Type 0 where
  pub scene : Scene
  pub same : scene_seen scene ≡ seen
  pub shown : IsPicture (sight_of scene (format_of frame.width frame.height frame.bits frame.antialias)) picture

-- the file of a picture
abbrev pub filed : Frame → List ℕ → List ℕ
filed frame picture = file_of frame.sort frame.width frame.height frame.bits picture

-- the picture file of a frame over these texts
pub record IsMeaning (frame : Frame) (texts : List Text) (file : List ℕ) : Type 0 where
  pub scene : SceneView
  pub meant : IsMeant frame texts scene
  pub picture : List ℕ
  pub shown : Shows frame scene picture
  pub is : file ≡ filed frame picture

-- ---- the frames of a run

-- the frame of this number
abbrev pub frame_of : Plan → ℕ → Frame
frame_of plan number = record {
  input = plan.input;
  generate = plan.generate;
  libraries = plan.libraries;
  output = picture_name plan number;
  width = plan.width;
  height = plan.height;
  sort = plan.sort;
  bits = plan.bits;
  antialias = plan.antialias;
  settings = settings_of plan number;
}

-- so many frames, from this number on
unfoldable pub frames_from : Plan → ℕ → ℕ → List Frame
frames_from plan number zero = []
frames_from plan number (suc count) = frame_of plan number ∷ frames_from plan (number + 1) count

abbrev pub frames_of : Plan → List Frame
frames_of plan = frames_from plan plan.from (plan.to - plan.from + 1)

-- the frames that are asked for, in their order
abbrev pub frames_in : Result Plan Refusal → List Frame
frames_in (Ok plan) = frames_of plan
frames_in (Err refusal) = []

-- frames of a generated scene have a summary
abbrev pub is_summed : List Frame → Bool
is_summed [] = false
is_summed (frame ∷ frames) = not (frame.generate == 0)

-- how many frames are finished, at most, where their messages or summary can't be written, or there is no memory for them
abbrev pub before_summary : List Frame → ℕ
before_summary frames = if is_summed frames then length frames else length frames - 1

-- the count of frames that are finished: all where all is done, else fewer where there are any; all of them too where it is their summary that ends the run
abbrev pub IsFinished : List Frame → Fault → ℕ → Type 0
IsFinished frames Done count = count ≡ length frames
IsFinished frames MessageFault count = count ≤ before_summary frames
IsFinished frames NoMemory count = count ≤ before_summary frames
IsFinished frames fault count = count ≤ length frames - 1

-- ---- what is left in the storage

-- under the name of a frame's picture file nothing is read but the bytes of its meaning
abbrev pub IsStored : Frame → List Text → Contents → Type 0
IsStored frame texts holds = (c : List ℕ) → holds frame.output c → IsMeaning frame texts c

-- the picture files of these frames are stored
abbrev pub AreStored : List Frame → List Text → Contents → Type 0
AreStored [] texts holds = Unit {0}
AreStored (frame ∷ frames) texts holds = IsStored frame texts holds × AreStored frames texts holds

-- how many frames' files the run may have changed: those of the finished ones, and of the next one where the storage failed
abbrev pub reached_by : Fault → ℕ → ℕ
reached_by ShelfFault finished = finished + 1
reached_by fault finished = finished

-- the name is that of none of these frames' picture files
abbrev pub IsBeside : List Frame → List ℕ → Type 0
IsBeside [] name = Unit {0}
IsBeside (frame ∷ frames) name = (name ≢ frame.output) × IsBeside frames name

-- nothing new under any name but those of these frames' picture files
abbrev pub SameBesides : List Frame → Contents → Contents → Type 0
SameBesides frames old new = (n c : List ℕ) → IsBeside frames n → new n c → old n c
