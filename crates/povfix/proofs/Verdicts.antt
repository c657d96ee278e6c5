-- What words and texts come to is one thing, and what is said tells it.
use Rattle.std.proofs.Common.{sum, ◌≡◌, ◌⊎◌, ℕ, zero, suc, List, [], ◌∷◌, ◌++◌, Option, None, inl, inr, refl, sym, ap, ◌∙◌, subst, Result, Ok, Err}
use Rattle.directive_machine.specs.declared.texts.Text.{Text}
use Rattle.directive_machine.specs.Course.{Halted}
use Rattle.directive_machine.specs.Expansions.{Handed}
use Rattle.scene_parser.specs.Seen.{SceneView}
use Rattle.options.specs.declared.plan.Plan.{Plan}
use Rattle.options.specs.declared.fault.OptionFault.{OptionFault as Refused}
use Rattle.options.specs.declared.fault.OptionFault.TheVariants.{UnknownWord, BadNumber, Missing, Range, AbsentIni, BadLine, OutOfProfile}
use Rattle.options.specs.declared.fault.Where.{Where}
use Rattle.options.specs.Outcomes.{Reads}
use Rattle.povfix.specs.declared.ending.Ending.{Ending}
use Rattle.povfix.specs.declared.outcome.Fault.{Fault}
use Rattle.povfix.specs.declared.outcome.Fault.TheVariants.{Done, OptionFault, SceneFault, Limit, Absent, TextFault, ShelfFault, MessageFault, NoMemory}
use Rattle.povfix.specs.Conversions.{error_text, option_fault, stop_fault}
use Rattle.povfix.specs.Frames.{Frame, frames_in, frames_of, IsExpanded, Shows}
use Rattle.povfix.specs.Lines.{line_left, line_of, messages_left, IsPlaced, Says}
use Rattle.povfix.specs.Scenes.{IsRead}
use Rattle.povfix.specs.Verdict.{FrameVerdict, FramesVerdict, IsCaused, IsVerdict, Verdict, behind, done, refused, summed}
use Rattle.povfix.specs.Said.{IsSaid}
use Rattle.povfix.proofs.Beginnings.{nothing_next}
use Rattle.povfix.proofs.Courses.{done_same}
use Rattle.povfix.proofs.OneFrame.{OneExpansion, OneScene, not_both, one_expanded, one_read, one_stopped}

-- a halted expansion's verdict
abbrev halted_verdict : Halted → Verdict
halted_verdict halted = refused (stop_fault halted.stop) halted.messages halted.names (error_text halted.stop)

-- a scene has one picture
abbrev pub OneShown : Type 0
OneShown = (frame : Frame) (seen : SceneView) (x y : List ℕ) → Shows frame seen x → Shows frame seen y → x ≡ y

module _ (law : OneExpansion) (scenes : OneScene) (pictures : OneShown) (frame : Frame) (texts : List Text) where
  -- the tokens of a frame are a scene or have a refusal, and one
  no_refusal : (found found' : Handed) (scene : SceneView) (fault : Fault) → IsExpanded frame texts found → IsExpanded frame texts found' → IsRead found.tokens frame.settings (Ok scene) → IsRead found'.tokens frame.settings (Err fault) → ⊥
  no_refusal found found' scene fault e e' read refused =
      let same : found' ≡ found = one_expanded law frame texts found' found e' e in
      let here = subst (λ (f : Handed). IsRead f.tokens frame.settings (Err fault)) same refused in
      cc (one_read scenes found.tokens frame.settings (Ok scene) (Err fault) read here)

  one_refusal : (found found' : Handed) (a b : Fault) → IsExpanded frame texts found → IsExpanded frame texts found' → IsRead found.tokens frame.settings (Err a) → IsRead found'.tokens frame.settings (Err b) → refused a found.messages found.names [] ≡ refused b found'.messages found'.names []
  one_refusal found found' a b e e' p q =
      let same : found' ≡ found = one_expanded law frame texts found' found e' e in
      let here = subst (λ (f : Handed). IsRead f.tokens frame.settings (Err b)) same q in
      let fault : a ≡ b = cc (one_read scenes found.tokens frame.settings (Err a) (Err b) p here) in
      ap (λ f. refused f found.messages found.names []) fault ∙ ap (λ (f : Handed). refused b f.messages f.names []) (sym same)

  one_drawn : (found found' : Handed) (scene scene' : SceneView) (picture picture' : List ℕ) → IsExpanded frame texts found → IsExpanded frame texts found' → IsRead found.tokens frame.settings (Ok scene) → IsRead found'.tokens frame.settings (Ok scene') → Shows frame scene picture → Shows frame scene' picture' → done found.messages (sum picture) ≡ done found'.messages (sum picture')
  one_drawn found found' scene scene' picture picture' e e' read read' shown shown' =
      let same : found' ≡ found = one_expanded law frame texts found' found e' e in
      let here = subst (λ (f : Handed). IsRead f.tokens frame.settings (Ok scene')) same read' in
      let seen : scene' ≡ scene = cc (one_read scenes found.tokens frame.settings (Ok scene') (Ok scene) here read) in
      let drawn : picture ≡ picture' = pictures frame scene picture picture' shown (subst (λ s. Shows frame s picture') seen shown') in
      done_same found.messages found'.messages (sum picture) (sum picture') (ap (λ (f : Handed). f.messages) (sym same)) (ap sum drawn)

  pub one_frame : (x y : Verdict) → FrameVerdict frame texts x → FrameVerdict frame texts y → x ≡ y
  one_frame x y (FrameVerdict.drawn found scene picture e read shown) (FrameVerdict.drawn found' scene' picture' e' read' shown') = one_drawn found found' scene scene' picture picture' e e' read read' shown shown'
  one_frame x y (FrameVerdict.drawn found scene picture e read shown) (FrameVerdict.no_scene found' fault e' refused) = absurd (no_refusal found found' scene fault e e' read refused)
  one_frame x y (FrameVerdict.drawn found scene picture e read shown) (FrameVerdict.stopped halted stop) = absurd (not_both law frame texts found halted e stop)
  one_frame x y (FrameVerdict.no_scene found fault e refused) (FrameVerdict.drawn found' scene picture e' read shown) = absurd (no_refusal found' found scene fault e' e read refused)
  one_frame x y (FrameVerdict.no_scene found fault e refused) (FrameVerdict.no_scene found' fault' e' refused') = one_refusal found found' fault fault' e e' refused refused'
  one_frame x y (FrameVerdict.no_scene found fault e refused) (FrameVerdict.stopped halted stop) = absurd (not_both law frame texts found halted e stop)
  one_frame x y (FrameVerdict.stopped halted stop) (FrameVerdict.drawn found scene picture e read shown) = absurd (not_both law frame texts found halted e stop)
  one_frame x y (FrameVerdict.stopped halted stop) (FrameVerdict.no_scene found fault e refused) = absurd (not_both law frame texts found halted e stop)
  one_frame x y (FrameVerdict.stopped halted stop) (FrameVerdict.stopped halted' stop') = ap halted_verdict (one_stopped law frame texts halted halted' stop stop')

same_fault : (x y : Verdict) → x ≡ y → x.fault ≡ y.fault
same_fault x y same = ap (λ (v : Verdict). v.fault) same

both_behind : (x y a b : Verdict) (m n : List ℕ) (s t : ℕ) → x ≡ behind m s a → y ≡ behind n t b → done m s ≡ done n t → a ≡ b → x ≡ y
both_behind x y a b m n s t is is' front rest = is ∙ ap (behind m s) rest ∙ ap (λ (v : Verdict). behind v.messages v.total b) front ∙ sym is'

module _ (law : OneExpansion) (scenes : OneScene) (pictures : OneShown) where
  one_frames : (frames : List Frame) (texts : List Text) (n m : ℕ) (x y : Verdict) → FramesVerdict frames texts n x → FramesVerdict frames texts m y → (x ≡ y) × (n ≡ m)
  one_frames [] texts n m x y p q = (p.1 ∙ sym q.1, p.0 ∙ sym q.0)
  one_frames (frame ∷ frames) texts zero zero x y p q = (one_frame law scenes pictures frame texts x y p.0 q.0, refl)
  one_frames (frame ∷ frames) texts zero (suc m) x y p q = absurd (p.1 (same_fault x (done q.0 q.1) (one_frame law scenes pictures frame texts x (done q.0 q.1) p.0 q.3)))
  one_frames (frame ∷ frames) texts (suc n) zero x y p q = absurd (q.1 (same_fault y (done p.0 p.1) (one_frame law scenes pictures frame texts y (done p.0 p.1) q.0 p.3)))
  one_frames (frame ∷ frames) texts (suc n) (suc m) x y p q =
      let rest = one_frames frames texts n m p.2 q.2 p.4 q.4 in
      (both_behind x y p.2 q.2 p.0 q.0 p.1 q.1 p.5 q.5 (one_frame law scenes pictures frame texts (done p.0 p.1) (done q.0 q.1) p.3 q.3) rest.0, ap suc rest.1)

  pub one_verdict : (asked : Result Plan Refused) (texts : List Text) (n m : ℕ) (x y : Verdict) → IsVerdict asked texts n x → IsVerdict asked texts m y → (x ≡ y) × (n ≡ m)
  one_verdict (Ok plan) texts n m x y p q =
      let same = one_frames (frames_of plan) texts n m p.0 q.0 p.1 q.1 in
      (p.2 ∙ ap (summed plan) same.0 ∙ sym q.2, same.1)
  one_verdict (Err refusal) texts n m x y p q = (p.1 ∙ sym q.1, p.0 ∙ sym q.0)

abbrev pub OneVerdict : Type 0
OneVerdict = (asked : Result Plan Refused) (texts : List Text) (n m : ℕ) (x y : Verdict) → IsVerdict asked texts n x → IsVerdict asked texts m y → (x ≡ y) × (n ≡ m)

same_answer : OneVerdict → (asked : Result Plan Refused) (texts : List Text) (answer : Fault) (x y : Verdict) (n m : ℕ) → IsVerdict asked texts n x → answer ≡ x.fault → IsVerdict asked texts m y → (answer ≡ y.fault) × (n ≡ m)
same_answer law asked texts answer x y n m p is q = let same = law asked texts n m x y p q in (is ∙ same_fault x y same.0, same.1)

-- the answer is the verdict, where nothing outside failed and there was memory
pub answer_is_verdict : OneVerdict → (asked : Result Plan Refused) (texts : List Text) (answer : Fault) (verdict : Verdict) (n m : ℕ) → IsCaused asked texts n answer → IsVerdict asked texts m verdict → (answer ≡ TextFault → ⊥) → (answer ≡ ShelfFault → ⊥) → ((answer ≡ verdict.fault) × (n ≡ m)) ⊎ (answer ≡ NoMemory) ⊎ (answer ≡ MessageFault)
answer_is_verdict law asked texts TextFault verdict n m caused is no_text no_shelf = absurd (no_text refl)
answer_is_verdict law asked texts ShelfFault verdict n m caused is no_text no_shelf = absurd (no_shelf refl)
answer_is_verdict law asked texts NoMemory verdict n m caused is no_text no_shelf = inr (inl refl)
answer_is_verdict law asked texts MessageFault verdict n m caused is no_text no_shelf = inr (inr refl)
answer_is_verdict law asked texts Done verdict n m caused is no_text no_shelf = inl (same_answer law asked texts _ caused.0 verdict n m caused.1 caused.2 is)
answer_is_verdict law asked texts (OptionFault kind place) verdict n m caused is no_text no_shelf = inl (same_answer law asked texts _ caused.0 verdict n m caused.1 caused.2 is)
answer_is_verdict law asked texts (SceneFault letter kind place) verdict n m caused is no_text no_shelf = inl (same_answer law asked texts _ caused.0 verdict n m caused.1 caused.2 is)
answer_is_verdict law asked texts (Limit which place) verdict n m caused is no_text no_shelf = inl (same_answer law asked texts _ caused.0 verdict n m caused.1 caused.2 is)
answer_is_verdict law asked texts (Absent name) verdict n m caused is no_text no_shelf = inl (same_answer law asked texts _ caused.0 verdict n m caused.1 caused.2 is)

-- ---- what is said

-- what is said tells the cause
pub said_caused : (asked : Result Plan Refused) (texts : List Text) (n : ℕ) (fault : Fault) (before now : Option (List ℕ)) (fb fn : ℕ) → IsSaid asked texts n fault before now fb fn → IsCaused asked texts n fault
said_caused asked texts n Done before now fb fn said = (said.0, said.1, said.2)
said_caused asked texts n (OptionFault kind place) before now fb fn said = (said.0, said.1, said.2)
said_caused asked texts n (SceneFault letter kind place) before now fb fn said = (said.0, said.1, said.2)
said_caused asked texts n (Limit which place) before now fb fn said = (said.0, said.1, said.2)
said_caused asked texts n (Absent name) before now fb fn said = (said.0, said.1, said.2)
said_caused asked texts n TextFault before now fb fn said = (said.0, said.1, said.3)
said_caused asked texts n ShelfFault before now fb fn said = (said.0, said.1, said.2)
said_caused asked texts n MessageFault before now fb fn said = (said.0, said.1, said.2, said.3, said.4)
said_caused asked texts n NoMemory before now fb fn said = (said.0, said.1, said.3)

-- the options are refused, or there is no memory or no text for them
refused_as : (kind : ℕ) (place : Where) (texts : List Text) (refusal : Refused) (asked : Result Plan Refused) (reported : Fault) (before now : Option (List ℕ)) (fb fn : ℕ) → option_fault refusal ≡ OptionFault kind place → asked ≡ Err refusal → reported ≡ OptionFault kind place → Says before now fb fn (line_of [] [] reported) → IsSaid asked texts 0 reported before now fb fn
refused_as kind place texts refusal asked reported before now fb fn is answer same says =
    subst (λ f. IsSaid asked texts 0 f before now fb fn) (sym same)
    (subst (λ r. IsSaid r texts 0 (OptionFault kind place) before now fb fn) (sym answer) (
      refused (option_fault refusal) [] [] [],
      (refl, refl),
      sym is,
      subst (λ f. Says before now fb fn (line_of [] [] f)) (sym is) (subst (λ f. Says before now fb fn (line_of [] [] f)) same says),
    ))

pub refused_said : (texts : List Text) (refusal : Refused) (asked : Result Plan Refused) (reported : Fault) (before now : Option (List ℕ)) (fb fn : ℕ) → Reads asked (Err refusal) → (reported ≡ option_fault refusal) ⊎ ((reported ≡ NoMemory) × IsPlaced (option_fault refusal)) → Says before now fb fn (line_of [] [] reported) → IsSaid asked texts 0 reported before now fb fn
refused_said texts refusal asked reported before now fb fn read (inr none) says =
    subst (λ f. IsSaid asked texts 0 f before now fb fn) (sym none.0) ([], 0, [], (refl, refl), nothing_next (frames_in asked) texts 0, subst (λ f. Says before now fb fn (line_of [] [] f)) none.0 says)
refused_said texts (UnknownWord place) asked reported before now fb fn read (inl same) says = refused_as 1 place texts (UnknownWord place) asked reported before now fb fn refl read same says
refused_said texts (BadNumber place) asked reported before now fb fn read (inl same) says = refused_as 2 place texts (BadNumber place) asked reported before now fb fn refl read same says
refused_said texts (Missing place) asked reported before now fb fn read (inl same) says = refused_as 3 place texts (Missing place) asked reported before now fb fn refl read same says
refused_said texts (Range place) asked reported before now fb fn read (inl same) says = refused_as 4 place texts (Range place) asked reported before now fb fn refl read same says
refused_said texts (AbsentIni place) asked reported before now fb fn read (inl same) says = refused_as 5 place texts (AbsentIni place) asked reported before now fb fn refl read same says
refused_said texts (BadLine place) asked reported before now fb fn read (inl same) says = refused_as 6 place texts (BadLine place) asked reported before now fb fn refl read same says
refused_said texts (OutOfProfile place) asked reported before now fb fn read (inl same) says = refused_as 7 place texts (OutOfProfile place) asked reported before now fb fn refl read same says
refused_said texts Refused.TextFault asked reported before now fb fn read (inl same) says =
    subst (λ f. IsSaid asked texts 0 f before now fb fn) (sym same) ([], 0, [], (refl, refl), nothing_next (frames_in asked) texts 0, subst (λ f. Says before now fb fn (line_of [] [] f)) same says)
refused_said texts Refused.NoMemory asked reported before now fb fn read (inl same) says =
    subst (λ f. IsSaid asked texts 0 f before now fb fn) (sym same) ([], 0, [], (refl, refl), nothing_next (frames_in asked) texts 0, subst (λ f. Says before now fb fn (line_of [] [] f)) same says)

pub refusal_said : (asked : Result Plan Refused) (texts : List Text) (refusal : Refused) (ending : Ending) (fault reported reported' : Fault) (n : ℕ) (before now : Option (List ℕ)) (fb fn : ℕ) → Reads asked (Err refusal) → fault ≡ option_fault refusal → ending ≡ record { fault = fault; report = None } → (reported ≡ ending.fault) ⊎ ((reported ≡ NoMemory) × IsPlaced ending.fault) → Says before now fb fn (messages_left ending.report ++ line_left ending.report reported) → n ≡ 0 → reported' ≡ reported → IsSaid asked texts n reported' before now fb fn
refusal_said asked texts refusal ending fault reported reported' n before now fb fn read is_fault is answer says none same =
    let whole : ending ≡ record { fault = option_fault refusal; report = None } = is ∙ ap (λ f. record { fault = f; report = None }) is_fault in
    let told = subst (λ (x : Ending). (reported ≡ x.fault) ⊎ ((reported ≡ NoMemory) × IsPlaced x.fault)) whole answer in
    let line = subst (λ (x : Ending). Says before now fb fn (messages_left x.report ++ line_left x.report reported)) whole says in
    subst (λ f. IsSaid asked texts n f before now fb fn) (sym same)
    (subst (λ k. IsSaid asked texts k reported before now fb fn) (sym none) (refused_said texts refusal asked reported before now fb fn read told line))

-- how a run ends is how its words end
pub ended_said : (asked : Result Plan Refused) (plan : Plan) (texts : List Text) (n n' : ℕ) (fault fault' : Fault) (before now : Option (List ℕ)) (fb fn : ℕ) → asked ≡ Ok plan → n' ≡ n → fault' ≡ fault → IsSaid (Ok plan) texts n fault before now fb fn → IsSaid asked texts n' fault' before now fb fn
ended_said asked plan texts n n' fault fault' before now fb fn is same_count same_fault' said =
    subst (λ f. IsSaid asked texts n' f before now fb fn) (sym same_fault')
    (subst (λ k. IsSaid asked texts k fault before now fb fn) (sym same_count)
    (subst (λ r. IsSaid r texts n fault before now fb fn) (sym is) said))
