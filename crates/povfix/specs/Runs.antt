-- What a run goes by, and what it leaves, also over texts that don't tell what they hold.
use Rattle.std.specs.Prelude.{ℕ, ◌≡◌, List, take, Option, None, Some, Result, IfOk}
use Rattle.shelf.specs.Disk.{Contents, Images}
use Rattle.shelf.specs.Moments.{ByStages}
use Rattle.directive_machine.specs.declared.texts.Text.{Text}
use Rattle.options.specs.declared.plan.Plan.{Plan}
use Rattle.options.specs.declared.fault.OptionFault.{OptionFault as OptionRefusal}
use Rattle.options.specs.Plans.{plan_of, IsPlan}
use Rattle.povfix.specs.declared.outcome.Fault.{Fault}
use Rattle.povfix.specs.Frames.{Frame, frames_in, reached_by, IsFinished, SameBesides}
use Rattle.povfix.specs.Moments.{IsStage}
use Rattle.povfix.specs.Verdict.{IsOptionAnswer}

-- what was asked for: over texts that tell what they hold, what the words come to over them; over others a plan in its ranges, or a refusal
abbrev pub IsAsked : Option (List Text) → List (List ℕ) → Result Plan OptionRefusal → Type 0
IsAsked (Some texts) words asked = asked ≡ plan_of texts words
IsAsked None words asked = IfOk asked IsPlan

-- the frames whose files a run that ends so may have changed
abbrev pub touched : Result Plan OptionRefusal → Fault → ℕ → List Frame
touched asked fault finished = take (reached_by fault finished) (frames_in asked)

-- a run goes by one plan, or by one refusal: it decides the answer and the count of finished frames, and no file is changed but
-- those of its frames, one after another. At every moment a crash leaves the files of the frames that are stored then whole, and
-- nothing new under any other name but that of the next one
pub record IsPlanned (told : Option (List Text)) (words : List (List ℕ)) (old new : Contents) (moment moment' : ℕ) (images images' : Images) (finished : ℕ) (fault : Fault) : Type 0 where
  pub asked : Result Plan OptionRefusal
  pub read : IsAsked told words asked
  pub options : IsOptionAnswer asked fault
  pub count : IsFinished (frames_in asked) fault finished
  pub others : SameBesides (touched asked fault finished) old new
  pub moments : ByStages moment moment' images images' (IsStage (touched asked fault finished) told (images moment))
