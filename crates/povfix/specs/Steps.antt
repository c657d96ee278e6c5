-- How a frame ends, and how far the frames of a plan come.
use Rattle.std.specs.Prelude.{ℕ, ◌≤◌, ◌≡◌, ◌≢◌, List, [], ◌++◌, take, Option, Some, Result, Ok, Err}
use Rattle.shelf.specs.Causes.{Rose}
use Rattle.shelf.specs.Disk.{Contents, Images, SameContents, Tells}
use Rattle.shelf.specs.Moments.{ByStages}
use Rattle.shelf.specs.Stream.{with_bytes, GrewByLess}
use Rattle.directive_machine.specs.declared.texts.Text.{Text}
use Rattle.directive_machine.specs.Expansions.{Handed}
use Rattle.options.specs.declared.plan.Plan.{Plan}
use Rattle.scene_expr.specs.declared.value.Settings.{Settings}
use Rattle.povfix.specs.declared.ending.Ending.{Ending}
use Rattle.povfix.specs.declared.expansion.Expansion.{Expansion}
use Rattle.povfix.specs.declared.outcome.Fault.{Fault}
use Rattle.povfix.specs.declared.outcome.Fault.TheVariants.{Done, OptionFault, TextFault, ShelfFault, MessageFault, NoMemory}
use Rattle.povfix.specs.Frames.{Frame, frames_of, reached_by, AreStored, IsExpanded, IsFinished, SameBesides}
use Rattle.povfix.specs.Lines.{line_left, line_of, messages_left, name_under, text_number, Says}
use Rattle.povfix.specs.Moments.{AllStay, IsStage}
use Rattle.povfix.specs.Said.{Begins, IsFrameSaid, IsSaid, no_memory_line}
use Rattle.povfix.specs.Scenes.{IsRead}
use Rattle.povfix.specs.Verdict.{AreDrawn, FrameVerdict, IsFrameFault, done}

-- a fault that ends a frame
abbrev pub IsEnding : Fault → Type 0
IsEnding Done = ⊥
IsEnding (OptionFault kind place) = ⊥
IsEnding fault = Unit {0}

-- ---- before the fault is reported

-- the directives of a frame are carried out, and its messages are written
pub record IsCarried (frame : Frame) (texts : List Text) (before now : Option (List ℕ)) (found : Expansion) : Type 0 where
  pub messages : List ℕ
  pub expanded : IsExpanded frame texts (record { tokens = found.flat.tokens.items; files = found.flat.files.items; messages = messages; names = found.names.items })
  pub written : now ≡ with_bytes before messages

-- the items of a frame are refused, or there is no memory for them; nothing but the line is left to say
pub record IsUnparsed (set : Settings) (found : Expansion) (ending : Ending) : Type 0 where
  pub read : ending.fault ≢ NoMemory → IsRead found.flat.tokens.items set (Err ending.fault)
  pub messages : messages_left ending.report ≡ []
  pub line : line_left ending.report ending.fault ≡ line_of (name_under found.names.items (text_number ending.fault)) [] ending.fault

-- the messages that are written, and what is left to say, are those of what the frame comes to, or stand first in what it says
abbrev pub IsLeft : Frame → List Text → Option (List ℕ) → Option (List ℕ) → Ending → Fault → Type 0
IsLeft frame texts before now ending Done = ⊥
IsLeft frame texts before now ending (OptionFault kind place) = ⊥
IsLeft frame texts before now ending MessageFault =
    (found : Handed) × IsExpanded frame texts found × GrewByLess before now found.messages × (messages_left ending.report ≡ [])
IsLeft frame texts before now ending ShelfFault =
    (messages : List ℕ) × (total : ℕ) × FrameVerdict frame texts (done messages total) × (now ≡ with_bytes before messages) × (messages_left ending.report ≡ [])
IsLeft frame texts before now ending TextFault =
    (messages : List ℕ) × (now ≡ with_bytes before messages) × Begins frame texts (messages ++ messages_left ending.report)
IsLeft frame texts before now ending NoMemory =
    (messages : List ℕ) × (now ≡ with_bytes before messages) × Begins frame texts (messages ++ messages_left ending.report)
IsLeft frame texts before now ending fault =
    (messages : List ℕ) × (now ≡ with_bytes before messages)
    × FrameVerdict frame texts (record { fault = fault; messages = messages ++ messages_left ending.report; total = 0; line = line_left ending.report fault })

-- how a frame is cut short, and for what cause
pub record IsCut (frame : Frame) (told : Option (List Text)) (texts_before texts_now shelf_before shelf_now sink_before sink_now : ℕ) (before now : Option (List ℕ)) (ending : Ending) : Type 0 where
  pub ends : IsEnding ending.fault
  pub left : (texts : List Text) → told ≡ Some texts → IsLeft frame texts before now ending ending.fault
  pub text_fault : ending.fault ≡ TextFault → Rose texts_before texts_now
  pub shelf_fault : ending.fault ≡ ShelfFault → Rose shelf_before shelf_now
  pub message_fault : ending.fault ≡ MessageFault → Rose sink_before sink_now

-- ---- behind its report

-- a frame is finished, and its messages are written; this is the sum of the bytes of its picture
pub record IsDone (frame : Frame) (told : Option (List Text)) (before now : Option (List ℕ)) (total : ℕ) : Type 0 where
  pub said : (texts : List Text) → told ≡ Some texts → (messages : List ℕ) × FrameVerdict frame texts (done messages total) × (now ≡ with_bytes before messages)

-- how a frame ends with a fault that is reported: with nothing new in the storage, nor in what a crash may leave
-- of it at any moment, unless it is the storage that failed
pub record IsEnd (frame : Frame) (told : Option (List Text)) (texts_before texts_now shelf_before shelf_now sink_before sink_now : ℕ) (old new : Contents) (moment moment' : ℕ) (images images' : Images) (before now : Option (List ℕ)) (fault : Fault) : Type 0 where
  pub ending : IsEnding fault
  pub said : (texts : List Text) → told ≡ Some texts → IsFrameSaid frame texts fault before now sink_before sink_now
  pub text_fault : fault ≡ TextFault → Rose texts_before texts_now
  pub shelf_fault : fault ≡ ShelfFault → Rose shelf_before shelf_now
  pub message_fault : fault ≡ MessageFault → Rose sink_before sink_now
  pub kept : fault ≢ ShelfFault → SameContents old new
  pub crash_kept : fault ≢ ShelfFault → AllStay moment moment' images images'

-- the fault that ends the frames of a plan, or that all are drawn
abbrev pub fault_of : Result ℕ Fault → Fault
fault_of (Ok total) = Done
fault_of (Err fault) = fault

-- what the frames of a plan have said: the messages of all, before a summary, or what a run says that ends with their fault
abbrev pub IsCourseSaid : Plan → List Text → ℕ → Result ℕ Fault → Option (List ℕ) → Option (List ℕ) → ℕ → ℕ → Type 0
IsCourseSaid plan texts finished (Ok total) before now faults_before faults_now = (messages : List ℕ) × AreDrawn (frames_of plan) texts finished messages total × (now ≡ with_bytes before messages)
IsCourseSaid plan texts finished (Err fault) before now faults_before faults_now = IsSaid (Ok plan) texts finished fault before now faults_before faults_now

-- how far the frames of a plan come, and what they leave in the storage and tell the sink
pub record IsCourse (plan : Plan) (told : Option (List Text)) (texts_before texts_now shelf_before shelf_now sink_before sink_now : ℕ) (old new : Contents) (moment moment' : ℕ) (images images' : Images) (before now : Option (List ℕ)) (finished : ℕ) (end : Result ℕ Fault) : Type 0 where
  pub frames : IsFrameFault (fault_of end)
  pub count : IsFinished (frames_of plan) (fault_of end) finished
  pub stored : (texts : List Text) → told ≡ Some texts → AreStored (take finished (frames_of plan)) texts new
  pub durable : (texts : List Text) → told ≡ Some texts → AreStored (take finished (frames_of plan)) texts (images' moment')
  pub said : (texts : List Text) → told ≡ Some texts → IsCourseSaid plan texts finished end before now sink_before sink_now
  pub text_fault : fault_of end ≡ TextFault → Rose texts_before texts_now
  pub shelf_fault : fault_of end ≡ ShelfFault → Rose shelf_before shelf_now
  pub message_fault : fault_of end ≡ MessageFault → Rose sink_before sink_now
  pub sink_later : sink_before ≤ sink_now
  pub others : SameBesides (take (reached_by (fault_of end) finished) (frames_of plan)) old new
  pub moments : ByStages moment moment' images images' (IsStage (take (reached_by (fault_of end) finished) (frames_of plan)) told (images moment))
  pub tells : Tells old new

-- ---- once all frames are drawn

-- the summary is said, or can't be written, or there is no memory for it; where there is none, nothing happens
abbrev pub IsSummed : List ℕ → Option (List ℕ) → Option (List ℕ) → ℕ → ℕ → Fault → Type 0
IsSummed summary before now faults_before faults_now Done = now ≡ with_bytes before summary
IsSummed summary before now faults_before faults_now MessageFault = GrewByLess before now summary × Rose faults_before faults_now
IsSummed summary before now faults_before faults_now NoMemory = (summary ≢ []) × Says before now faults_before faults_now no_memory_line
IsSummed summary before now faults_before faults_now fault = ⊥
