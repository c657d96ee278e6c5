-- What a run that answers so has told the sink.
use Rattle.std.specs.Prelude.{ℕ, zero, suc, ◌+◌, ◌≡◌, List, [], ◌∷◌, ◌++◌, codes, Option, Result}
use Rattle.shelf.specs.Stream.{with_bytes, GrewByLess}
use Rattle.directive_machine.specs.declared.texts.Text.{Text}
use Rattle.directive_machine.specs.Course.{Halted}
use Rattle.directive_machine.specs.Expansions.{Handed}
use Rattle.directive_machine.specs.Fronts.{IsFront}
use Rattle.options.specs.declared.plan.Plan.{Plan}
use Rattle.options.specs.declared.fault.OptionFault.{OptionFault as OptionRefusal}
use Rattle.povfix.specs.declared.outcome.Fault.{Fault}
use Rattle.povfix.specs.declared.outcome.Fault.TheVariants.{Done, OptionFault, TextFault, ShelfFault, MessageFault, NoMemory}
use Rattle.povfix.specs.Frames.{Frame, frames_in, IsExpanded, IsStopped}
use Rattle.povfix.specs.Lines.{Says}
use Rattle.povfix.specs.Verdict.{AreDrawn, FrameVerdict, IsVerdict, NextSays, Verdict, done, summary_in}

abbrev pub text_fault_line : List ℕ
text_fault_line = codes "text fault\n"

abbrev pub shelf_fault_line : List ℕ
shelf_fault_line = codes "shelf fault\n"

abbrev pub no_memory_line : List ℕ
no_memory_line = codes "no memory\n"

-- ---- what a frame says

-- the messages of its directives, up to their end or to where they stop
pub data FrameSays (frame : Frame) (texts : List Text) : List ℕ → Type 0 where
  ended : (found : Handed) → IsExpanded frame texts found → FrameSays frame texts found.messages
  stopped : (halted : Halted) → IsStopped frame texts halted → FrameSays frame texts halted.messages

-- these bytes stand first in all that it says
abbrev pub Begins : Frame → List Text → List ℕ → Type 0
Begins frame texts part = (messages : List ℕ) → FrameSays frame texts messages → IsFront part messages

-- they stand first in what the frame says that comes next behind so many; behind the last frame no message is said
abbrev pub NextBegins : List Frame → List Text → ℕ → List ℕ → Type 0
NextBegins [] texts count part = part ≡ []
NextBegins (frame ∷ frames) texts zero part = Begins frame texts part
NextBegins (frame ∷ frames) texts (suc count) part = NextBegins frames texts count part

-- ---- what a run says

-- the messages of the frames in their order, and behind them the line of the fault, or the summary of a generated scene.
-- Where messages or the summary can't be written, a part of them stands at the end. Where a text can't be read, or there is
-- no memory, what the next frame said up to there stands before the line
abbrev pub IsSaid : Result Plan OptionRefusal → List Text → ℕ → Fault → Option (List ℕ) → Option (List ℕ) → ℕ → ℕ → Type 0
IsSaid asked texts finished Done before now faults_before faults_now =
    (verdict : Verdict) × IsVerdict asked texts finished verdict × (Done ≡ verdict.fault) × (now ≡ with_bytes before (verdict.messages ++ verdict.line))
IsSaid asked texts finished MessageFault before now faults_before faults_now =
    (messages : List ℕ) × (total : ℕ) × (next : List ℕ) × AreDrawn (frames_in asked) texts finished messages total
    × NextSays (frames_in asked) texts finished (summary_in asked total) next × GrewByLess (with_bytes before messages) now next
IsSaid asked texts finished ShelfFault before now faults_before faults_now =
    (messages : List ℕ) × (total : ℕ) × AreDrawn (frames_in asked) texts (finished + 1) messages total
    × Says before now faults_before faults_now (messages ++ shelf_fault_line)
IsSaid asked texts finished TextFault before now faults_before faults_now =
    (messages : List ℕ) × (total : ℕ) × (part : List ℕ) × AreDrawn (frames_in asked) texts finished messages total
    × NextBegins (frames_in asked) texts finished part × Says before now faults_before faults_now (messages ++ (part ++ text_fault_line))
IsSaid asked texts finished NoMemory before now faults_before faults_now =
    (messages : List ℕ) × (total : ℕ) × (part : List ℕ) × AreDrawn (frames_in asked) texts finished messages total
    × NextBegins (frames_in asked) texts finished part × Says before now faults_before faults_now (messages ++ (part ++ no_memory_line))
IsSaid asked texts finished answer before now faults_before faults_now =
    (verdict : Verdict) × IsVerdict asked texts finished verdict × (answer ≡ verdict.fault)
    × Says before now faults_before faults_now (verdict.messages ++ verdict.line)

-- what one frame that ends so has told it
abbrev pub IsFrameSaid : Frame → List Text → Fault → Option (List ℕ) → Option (List ℕ) → ℕ → ℕ → Type 0
IsFrameSaid frame texts Done before now faults_before faults_now = ⊥
IsFrameSaid frame texts (OptionFault kind place) before now faults_before faults_now = ⊥
IsFrameSaid frame texts MessageFault before now faults_before faults_now =
    (found : Handed) × IsExpanded frame texts found × GrewByLess before now found.messages
IsFrameSaid frame texts ShelfFault before now faults_before faults_now =
    (messages : List ℕ) × (total : ℕ) × FrameVerdict frame texts (done messages total) × Says before now faults_before faults_now (messages ++ shelf_fault_line)
IsFrameSaid frame texts TextFault before now faults_before faults_now =
    (part : List ℕ) × Begins frame texts part × Says before now faults_before faults_now (part ++ text_fault_line)
IsFrameSaid frame texts NoMemory before now faults_before faults_now =
    (part : List ℕ) × Begins frame texts part × Says before now faults_before faults_now (part ++ no_memory_line)
IsFrameSaid frame texts answer before now faults_before faults_now =
    (verdict : Verdict) × FrameVerdict frame texts verdict × (answer ≡ verdict.fault) × Says before now faults_before faults_now (verdict.messages ++ verdict.line)
