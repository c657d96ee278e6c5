-- What words and texts come to, before anything fails outside, and what stands where a run answers otherwise.
use Rattle.std.specs.Prelude.{ℕ, zero, suc, ◌+◌, ◌≡◌, ◌≢◌, ◌⊎◌, List, [], ◌∷◌, ◌++◌, sum, Result, Ok, Err}
use Rattle.directive_machine.specs.declared.texts.Text.{Text}
use Rattle.directive_machine.specs.Course.{Halted}
use Rattle.directive_machine.specs.Expansions.{Handed}
use Rattle.scene_parser.specs.Seen.{SceneView}
use Rattle.options.specs.declared.plan.Plan.{Plan}
use Rattle.options.specs.declared.fault.OptionFault.{OptionFault as OptionRefusal}
use Rattle.povfix.specs.declared.outcome.Fault.{Fault}
use Rattle.povfix.specs.declared.outcome.Fault.TheVariants.{Done, OptionFault, TextFault, ShelfFault, MessageFault, NoMemory}
use Rattle.povfix.specs.Conversions.{error_text, option_fault, stop_fault}
use Rattle.povfix.specs.Frames.{Frame, frames_of, frames_in, IsExpanded, IsStopped, Shows}
use Rattle.povfix.specs.Lines.{line_of, name_under, summary_of, text_number}
use Rattle.povfix.specs.Scenes.{IsRead}

-- a fault, or that all is done; the messages up to there; the sum of the bytes of all pictures; and what is said behind the messages: the fault's line, or a summary
pub record Verdict : Type 0 where
  pub fault : Fault
  pub messages : List ℕ
  pub total : ℕ
  pub line : List ℕ

abbrev pub done : List ℕ → ℕ → Verdict
done messages total = record { fault = Done; messages = messages; total = total; line = [] }

-- a fault in texts of these names
abbrev pub refused : Fault → List ℕ → List (List ℕ) → List ℕ → Verdict
refused fault messages names text = record { fault = fault; messages = messages; total = 0; line = line_of (name_under names (text_number fault)) text fault }

-- the messages and pictures of earlier frames come before
abbrev pub behind : List ℕ → ℕ → Verdict → Verdict
behind messages total verdict = record { fault = verdict.fault; messages = messages ++ verdict.messages; total = total + verdict.total; line = verdict.line }

-- what a frame comes to over these texts: its picture is drawn, or its items are refused, or its directives stop
pub data FrameVerdict (frame : Frame) (texts : List Text) : Verdict → Type 0 where
  drawn : (found : Handed) (scene : SceneView) (picture : List ℕ) → IsExpanded frame texts found → IsRead found.tokens frame.settings (Ok scene) → Shows frame scene picture → FrameVerdict frame texts (done found.messages (sum picture))
  no_scene : (found : Handed) (fault : Fault) → IsExpanded frame texts found → IsRead found.tokens frame.settings (Err fault) → FrameVerdict frame texts (refused fault found.messages found.names [])
  stopped : (halted : Halted) → IsStopped frame texts halted → FrameVerdict frame texts (refused (stop_fault halted.stop) halted.messages halted.names (error_text halted.stop))

-- what frames come to, one after another: so many are drawn, and the next one is refused; or all are drawn
abbrev pub FramesVerdict : List Frame → List Text → ℕ → Verdict → Type 0
FramesVerdict [] texts count verdict = (count ≡ 0) × (verdict ≡ done [] 0)
FramesVerdict (frame ∷ frames) texts zero verdict = FrameVerdict frame texts verdict × (verdict.fault ≢ Done)
FramesVerdict (frame ∷ frames) texts (suc count) verdict = (messages : List ℕ) × (total : ℕ) × (rest : Verdict) × FrameVerdict frame texts (done messages total) × FramesVerdict frames texts count rest × (verdict ≡ behind messages total rest)

-- once all frames of a generated scene are drawn, its summary is said
abbrev pub with_summary : Plan → Fault → Verdict → Verdict
with_summary plan Done verdict = record verdict { line = summary_of plan.generate plan.width plan.height verdict.total }
with_summary plan fault verdict = verdict

abbrev pub summed : Plan → Verdict → Verdict
summed plan verdict = with_summary plan verdict.fault verdict

-- so many of the frames are drawn, one after another, with these messages and this sum of the bytes of their pictures
abbrev pub AreDrawn : List Frame → List Text → ℕ → List ℕ → ℕ → Type 0
AreDrawn frames texts zero messages total = (messages ≡ []) × (total ≡ 0)
AreDrawn [] texts (suc count) messages total = ⊥
AreDrawn (frame ∷ frames) texts (suc count) messages total = (first : List ℕ) × (own : ℕ) × (rest : List ℕ) × (others : ℕ) × FrameVerdict frame texts (done first own) × AreDrawn frames texts count rest others × (messages ≡ first ++ rest) × (total ≡ own + others)

-- what is said next behind so many frames: the messages of the next one, whose directives are carried out, or, behind the last one, a summary
abbrev pub NextSays : List Frame → List Text → ℕ → List ℕ → List ℕ → Type 0
NextSays [] texts zero summary next = next ≡ summary
NextSays [] texts (suc count) summary next = ⊥
NextSays (frame ∷ frames) texts zero summary next = (found : Handed) × IsExpanded frame texts found × (next ≡ found.messages)
NextSays (frame ∷ frames) texts (suc count) summary next = NextSays frames texts count summary next

abbrev pub summary_in : Result Plan OptionRefusal → ℕ → List ℕ
summary_in (Ok plan) total = summary_of plan.generate plan.width plan.height total
summary_in (Err refusal) total = []

-- what a run comes to: its options are refused, or its frames come to this
abbrev pub IsVerdict : Result Plan OptionRefusal → List Text → ℕ → Verdict → Type 0
IsVerdict (Err refusal) texts count verdict = (count ≡ 0) × (verdict ≡ refused (option_fault refusal) [] [] [])
IsVerdict (Ok plan) texts count verdict = (last : Verdict) × FramesVerdict (frames_of plan) texts count last × (verdict ≡ summed plan last)

-- so many of the frames that are asked for are drawn
abbrev pub AnyDrawn : Result Plan OptionRefusal → List Text → ℕ → Type 0
AnyDrawn asked texts count = (messages : List ℕ) × (total : ℕ) × AreDrawn (frames_in asked) texts count messages total

-- an answer, and the count of frames that are finished, is the verdict; or one of the outside: a text can't be read, there
-- is no memory, the storage fails for a frame that is drawn, or the sink for what is said next. The finished frames are
-- drawn then too
abbrev pub IsCaused : Result Plan OptionRefusal → List Text → ℕ → Fault → Type 0
IsCaused asked texts finished TextFault = AnyDrawn asked texts finished
IsCaused asked texts finished NoMemory = AnyDrawn asked texts finished
IsCaused asked texts finished ShelfFault = AnyDrawn asked texts (finished + 1)
IsCaused asked texts finished MessageFault = (messages : List ℕ) × (total : ℕ) × (next : List ℕ) × AreDrawn (frames_in asked) texts finished messages total × NextSays (frames_in asked) texts finished (summary_in asked total) next
IsCaused asked texts finished answer = (verdict : Verdict) × IsVerdict asked texts finished verdict × (answer ≡ verdict.fault)

-- a fault behind the options
abbrev pub IsFrameFault : Fault → Type 0
IsFrameFault (OptionFault kind place) = ⊥
IsFrameFault fault = Unit {0}

-- the options are refused exactly where they are refused by what is asked, unless a text can't be read or there is no memory
abbrev pub IsOptionAnswer : Result Plan OptionRefusal → Fault → Type 0
IsOptionAnswer (Ok plan) answer = IsFrameFault answer
IsOptionAnswer (Err refusal) answer = (answer ≡ option_fault refusal) ⊎ (answer ≡ NoMemory) ⊎ (answer ≡ TextFault)
